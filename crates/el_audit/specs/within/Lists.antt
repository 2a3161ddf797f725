-- Lists that are kept by script hashes.
use Rattle.std.specs.Prelude.{◌≡◌, Bool, true, List, ◌++◌, Option, None, Some}
use Rattle.indexmap.specs.IndexMap.{IndexMap, get}
use Rattle.indexmap.specs.IndexSet.{IndexSet, contains}
use Rattle.el_base.specs.declared.hash.Hash32.{Hash32}
use Rattle.el_chain.specs.Headers.{same_hash}

-- whether the script hash is one of the set's
abbrev pub is_in_set : {S : Type 0} → IndexSet Hash32 S → Hash32 → Bool
is_in_set names s = contains same_hash names s

-- the list that is kept by the script hash
abbrev pub list_of : {T S : Type 0} → IndexMap Hash32 (List T) S → Hash32 → Option (List T)
list_of lists s = get same_hash lists s

-- a list with more at its end, where there is one
abbrev pub grown : {T : Type 0} → Option (List T) → List T → Option (List T)
grown None more = None
grown (Some list) more = Some (list ++ more)

-- the list of each script hash that is named has so much more at its end
abbrev pub HaveGrown : {T S : Type 0} → (Hash32 → Bool) → IndexMap Hash32 (List T) S
    → IndexMap Hash32 (List T) S → (Hash32 → List T) → Type 0
HaveGrown is_named old new more =
    (s : Hash32) → is_named s ≡ true → list_of new s ≡ grown (list_of old s) (more s)

-- each script hash that is named has that list
abbrev pub AreLists : {T S : Type 0} → (Hash32 → Bool) → IndexMap Hash32 (List T) S
    → (Hash32 → List T) → Type 0
AreLists is_named lists each = (s : Hash32) → is_named s ≡ true → list_of lists s ≡ Some (each s)

-- How the lists of an index fit together: which numbers of script hashes stand in entries and outputs. Where
-- they fit, each step is exactly its edit of rows.
use Rattle.std.specs.Prelude.{◌≡◌, ℕ, suc, ◌<◌, ◌≤◌, ◌==◌, List, [], ◌∷◌, length, if◌then◌else◌, false, ⊤}
use Rattle.std.specs.List.{AllByRecursion}
use Rattle.el_base.specs.declared.hash.Hash32.{Hash32}
use Rattle.el_chain.specs.RowCounts.{is_script_among}
use Rattle.el_tables.specs.Lists.{ListedOut, ListedEntry, Lists}

-- no script hash is there twice
abbrev pub Once : List Hash32 → Type 0
Once [] = ⊤
Once (s ∷ ss) = (is_script_among s ss ≡ false) × Once ss

-- how many script hashes have an entry after one more, which may be the first of the next script hash
abbrev pub after_entry : ℕ → ListedEntry → ℕ
after_entry n e = if e.script == n then suc n else n

-- how many have one after these
abbrev pub reached : ℕ → List ListedEntry → ℕ
reached n [] = n
reached n (e ∷ es) = reached (after_entry n e) es

-- each entry is of a script hash that has one, or of the next, where so many have one before
abbrev pub InOrder : ℕ → List ListedEntry → Type 0
InOrder n [] = ⊤
InOrder n (e ∷ es) = (e.script ≤ n) × InOrder (after_entry n e) es

-- script hashes stand once, are numbered in the order of their first entries, and each has an entry
pub record IsNumbered (scripts : List Hash32) (entries : List ListedEntry) : Type 0 where
  pub once : Once scripts
  pub order : InOrder 0 entries
  pub all : reached 0 entries ≡ length scripts

-- the script hash of each output is one of so many
abbrev pub OutsWithin : ℕ → List ListedOut → Type 0
OutsWithin n outs = AllByRecursion (λ (x : ListedOut). x.script < n) outs

-- script hashes are numbered by the entries, and no output names another
pub record Fits (l : Lists) : Type 0 where
  pub numbered : IsNumbered l.scripts l.entries
  pub within : OutsWithin (length l.scripts) l.outs

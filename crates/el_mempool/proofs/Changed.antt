-- The script hashes that change, from what is seen of each transaction before and after.
use Rattle.std.proofs.Common.{◌≡◌, inl, false, Bool, List, [], ◌∷◌, refl, sym, ◌∙◌}
use Rattle.std.proofs.lemmas.Bool.{or_parts, true≢false}
use Rattle.std.specs.List.{AllByRecursion, list_any}
use Rattle.el_base.specs.declared.hash.Hash32.{Hash32}
use Rattle.el_tx.specs.declared.types.Tx.{Tx}
use Rattle.el_tx.specs.Hashing.{txid}
use Rattle.el_block.specs.Blocks.{AllDiffer}
use Rattle.el_chain.specs.Chains.{Chain}
use Rattle.el_chain.specs.Headers.{same_hash}
use Rattle.el_mempool.specs.Standing.{AreChanged}
use Rattle.el_mempool.proofs.Dropping.{rest}
use Rattle.el_mempool.proofs.Picked.{Agree, KeysApart}
use Rattle.el_mempool.proofs.Changes.{seen, history_same, history_agrees}
use Rattle.el_mempool.proofs.Unspent.{AreOver, unspent_same}

-- A test tells of each of these transactions whether what is seen of it at the script hash differs.
abbrev pub TellsOf : Chain → Chain → (Hash32 → Bool) → (Hash32 → Bool) → List Tx → Hash32 → (Tx → Bool) → Tx → Type 0
TellsOf one two g h all s differs t =
    (differs t ≡ false → seen one g all s.0 t ≡ seen two h all s.0 t) × (seen one g all s.0 t ≡ seen two h all s.0 t → differs t ≡ false)

abbrev pub Tells : Chain → Chain → (Hash32 → Bool) → (Hash32 → Bool) → List Tx → (Hash32 → Tx → Bool) → Type 0
Tells one two g h all differs = (s : Hash32) → AllByRecursion (TellsOf one two g h all s (differs s)) all

none_differs : (one two : Chain) (g h : Hash32 → Bool) (all : List Tx) (s : Hash32) (differs : Tx → Bool) (ts : List Tx) → AllByRecursion (TellsOf one two g h all s differs) ts
    → list_any differs ts ≡ false → Agree (seen one g all s.0) (seen two h all s.0) ts
none_differs one two g h all s differs [] tells no_one = tt
none_differs one two g h all s differs (t ∷ ts) tells no_one =
    let parts = or_parts (differs t) (list_any differs ts) no_one in
    (tells.0.0 parts.0, none_differs one two g h all s differs ts tells.1 parts.1)

agree_differs : (one two : Chain) (g h : Hash32 → Bool) (all : List Tx) (s : Hash32) (differs : Tx → Bool) (ts : List Tx) → AllByRecursion (TellsOf one two g h all s differs) ts
    → Agree (seen one g all s.0) (seen two h all s.0) ts → list_any differs ts ≡ false
agree_differs one two g h all s differs [] tells same = refl
agree_differs one two g h all s differs (t ∷ ts) tells same =
    let here = tells.0.1 same.0 in rw here (agree_differs one two g h all s differs ts tells.1 same.1)

-- Script hashes are those that change where each is listed exactly if what is seen of some transaction at it differs: of one that
-- came or went, if it concerns the script hash; of one that stays, if its entry there changed.
pub changes_are : (one two : Chain) (g h : Hash32 → Bool) (all : List Tx) (differs : Hash32 → Tx → Bool) (scripts : List Hash32) → KeysApart txid all → AreOver one g all → AreOver two h all
    → Tells one two g h all differs → AllDiffer scripts → ((s : Hash32) → list_any (same_hash s) scripts ≡ list_any (differs s) all) → AreChanged one (rest g all) two (rest h all) scripts
changes_are one two g h all differs scripts apart fresh_one fresh_two tells once are = record {
  listed = λ s there. inl (λ same.
      true≢false (sym there ∙ are s ∙ agree_differs one two g h all s (differs s) all (tells s) (history_agrees one two g h all s.0 apart same)));
  others = λ s none.
      let agree = none_differs one two g h all s (differs s) all (tells s) (sym (are s) ∙ none) in
      (history_same one two g h all s.0 agree, unspent_same one two g h all s.0 apart fresh_one fresh_two agree);
  once = once;
}

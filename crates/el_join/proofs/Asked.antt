-- What a table and a ledger say of outpoints, and calls of a ledger one after the other.
use Rattle.std.proofs.Common.{◌≡◌, ℕ, ◌+◌, ◌<◌, Bool, true, false, ◌||◌, refl, List, [], ◌∷◌, ◌++◌, length, drop, get_or, Option, None, Some, ap, sym, ◌∙◌, append_assoc}
use Rattle.std.specs.Prelude.{slice_get, option_map, option_and_then}
use Rattle.std.proofs.lemmas.List.Folds.{list_any-append}
use Rattle.std.specs.List.{list_any}
use Rattle.std.specs.Option.{option_flatten, is_some}
use Rattle.indexmap.specs.IndexMap.{get}
use Rattle.el_base.proofs.Lists.{left_at}
use Rattle.el_tx.specs.declared.types.Outpoint.{Outpoint}
use Rattle.el_tx.specs.declared.types.TxIn.{TxIn}
use Rattle.el_tx.specs.declared.types.Tx.{Tx}
use Rattle.el_tx.specs.Hashing.{txid}
use Rattle.el_chain.specs.Chains.{Chain}
use Rattle.el_chain.specs.Headers.{same_hash}
use Rattle.el_mempool.specs.declared.held.Held.{Held}
use Rattle.el_mempool.specs.declared.held.Source.{Source}
use Rattle.el_mempool.specs.declared.held.KeptTx.{KeptTx}
use Rattle.el_mempool.specs.declared.fault.PoolFault.TheVariants as refusal
use Rattle.el_kept.specs.declared.table.Table.{Table}
use Rattle.el_mempool.specs.Sift.{coin_named, named}
use Rattle.el_mempool.specs.Refusals.{missing}
use Rattle.el_mempool.specs.Standing.{source_at, sources}
use Rattle.el_kept.specs.declared.found.FoundOutput.{FoundOutput}
use Rattle.el_kept.specs.Named.{found_by, IsTableOver, kept_output}
use Rattle.el_kept.proofs.Lookups.{output_is, unspent_of, held_found}
use Rattle.el_join.specs.within.Tables.{is_output_at}

abbrev LookedUp : Table → Outpoint → Option Held → Type 0
LookedUp t o out = out ≡ option_and_then (λ (k : KeptTx). slice_get k.outputs o.index) (option_flatten (get same_hash t.kept o.txid))

pub named_by : (t : Table) (chain : Chain) (kept : List Tx) (o : Outpoint) (out : Option Held) (found : Option FoundOutput) → IsTableOver t chain kept
    → LookedUp t o out → found ≡ found_by out (coin_named chain o) → option_map (λ (n : FoundOutput). n.held) found ≡ named chain kept o
named_by t chain kept o out found h says is =
    held_found out chain kept o found (says ∙ output_is t chain kept o h) (unspent_of chain kept h.entries h.stands o) is

-- ---- inputs one after the other

-- the sources so far and those that are left
abbrev pub SoFar : Chain → List Tx → List TxIn → ℕ → List Source → Type 0
SoFar chain kept is n found =
    (found ++ sources chain kept (drop n is) ≡ sources chain kept is) × (missing chain kept is ≡ missing chain kept (drop n is))

pub one_more : (chain : Chain) (kept : List Tx) (is : List TxIn) (n : ℕ) (i : TxIn) (v : Held) (found : List Source) (held : Option Held) → n < length is → i ≡ get_or is n i
    → held ≡ named chain kept i.from → held ≡ Some v → SoFar chain kept is n found → SoFar chain kept is (n + 1) (found ++ source_at i v ∷ [])
one_more chain kept is n i v found held lt item says some before =
    let left = left_at is n i lt item in
    let there : named chain kept i.from ≡ Some v = sym says ∙ some in
    let first = rw (left, there) at before.0 in
    let second = rw (left, there) at before.1 in
    (append_assoc found (source_at i v ∷ []) (sources chain kept (drop (n + 1) is)) ∙ first, second)

pub stops : (chain : Chain) (kept : List Tx) (is : List TxIn) (n : ℕ) (i : TxIn) (found : List Source) (held : Option Held) → n < length is → i ≡ get_or is n i
    → held ≡ named chain kept i.from → held ≡ None → SoFar chain kept is n found → missing chain kept is ≡ Some (refusal.Missing i.from)
stops chain kept is n i found held lt item says none before =
    let left = left_at is n i lt item in
    let gone : named chain kept i.from ≡ None = sym says ∙ none in
    rw (left, gone) at before.1

-- whether one of the inputs takes an output of a kept one, with one more
pub any_more : (t : Table) (ss : List Source) (s : Source) (any b : Bool) → b ≡ is_some (kept_output t s.from) → any ≡ list_any (is_output_at t) ss
    → (any || b) ≡ list_any (is_output_at t) (ss ++ s ∷ [])
any_more t ss s any b is so_far =
    ap (λ a. a || b) so_far ∙ by (list_any (is_output_at t) ss) b
    ∙ ap (λ x. list_any (is_output_at t) ss || (x || false)) is
    ∙ sym (list_any-append (is_output_at t) ss (s ∷ []))
  where
    by : (a c : Bool) → (a || c) ≡ (a || (c || false))
    by true c = refl
    by false true = refl
    by false false = refl

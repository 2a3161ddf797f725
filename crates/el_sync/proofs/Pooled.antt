-- Lines about unconfirmed transactions.
use Rattle.std.proofs.Common.{◌≡◌, ◌≢◌, ◌⊎◌, inl, inr, ℕ, true, false, List, [], ◌∷◌, ◌++◌, length, Some, Result, Ok, Err, refl, sym, ap, ◌∙◌, append-nil}
use Rattle.std.specs.Prelude.{map, IfOk, OnOk}
use Rattle.el_base.specs.declared.hash.Hash32.{Hash32}
use Rattle.el_tx.specs.declared.fault.TxFault.{TxFault}
use Rattle.el_tx.specs.declared.fault.TxFault.TheVariants as read_fault
use Rattle.el_tx.specs.declared.types.Tx.{Tx}
use Rattle.el_tx.specs.Encoding.{Encodes}
use Rattle.el_tx.specs.Hashing.{txid}
use Rattle.el_chain.specs.Chains.{Chain}
use Rattle.el_mempool.specs.declared.fault.PoolFault.{PoolFault}
use Rattle.el_mempool.specs.declared.fault.PoolFault.TheVariants as unkept
use Rattle.el_mempool.specs.Adding.{Joined}
use Rattle.el_mempool.specs.Refusals.{IsTxRefused, is_kept}
use Rattle.el_mempool.specs.Sift.{sift, other_than}
use Rattle.el_mempool.specs.Standing.{AreChanged, PoolState, KeptStandFor, has_entry, kept_tx}
use Rattle.el_mempool.proofs.Confirmed.{hash_turned}
use Rattle.el_lines.specs.NodeAnswers.{pool_refused}
use Rattle.el_lines.specs.declared.node_answer.NodeAnswer.{NodeAnswer}
use Rattle.el_lines.specs.declared.node_answer.NodeAnswer.TheVariants as say
use Rattle.el_lines.specs.declared.node_answer.NodeRefusal.TheVariants as refusal
use Rattle.el_side.specs.Side as side_of
use Rattle.el_side.specs.Side.{Side, Adds, Drops}
use Rattle.el_sync.specs.within.Parts.{NamesItself, StandsAfter}
use Rattle.el_model.specs.declared.fault.QueryFault.{QueryFault}
use Rattle.el_sync.specs.declared.keeping.PoolAnswer.{PoolAnswer}

abbrev read_of : Tx → Result (Tx × ℕ) TxFault → Tx
read_of other (Ok read) = read.0
read_of other (Err e) = other

-- what is read of bytes that encode a transaction is that transaction
pub same_tx : (r : Result (Tx × ℕ) TxFault) (bytes : List ℕ) (tx t : Tx) (size : ℕ)
    → (r ≢ Err read_fault.Memory → (front rest : List ℕ) (u : Tx) → Encodes front u → bytes ≡ front ++ rest → r ≡ Ok (u, length front))
    → r ≡ Ok (tx, size) → Encodes bytes t → tx ≡ t
same_tx r bytes tx t size only is encoded =
    let whole = only (λ bad. let e = sym is ∙ bad in cc) bytes [] t encoded (sym (append-nil bytes)) in
    ap (read_of t) (sym is ∙ whole)

-- what bytes that encode a transaction are refused for is no other than what is told of it
pub told_so : (fault : PoolFault) (a b : Hash32) (answer : NodeAnswer) → (NamesItself fault → a ≡ b) → pool_refused a fault ≡ Some answer → pool_refused b fault ≡ Some answer
told_so unkept.Bad a b answer same says = says
told_so unkept.CoinbaseForm a b answer same says = says
told_so unkept.Confirmed a b answer same says = rw (same tt) at says
told_so unkept.Known a b answer same says = rw (same tt) at says
told_so (unkept.Missing o) a b answer same says = says
told_so (unkept.Conflict o id) a b answer same says = says
told_so (unkept.Overspends t g) a b answer same says = says
told_so (unkept.Full c n) a b answer same says = says
told_so unkept.DiskFailed a b answer same says = says
told_so unkept.Memory a b answer same says = says

-- where the same are kept over the same chain, nothing changed
unchanged : (chain : Chain) (kept : List Tx) → AreChanged chain kept chain kept []
unchanged chain kept = record { listed = λ s among. absurd (let bad = among in cc); others = λ s apart. (refl, refl); once = tt }

-- a transaction that joins
pub joins_side : (pool : PoolState) (side : Side) (bytes : List ℕ) (answer : NodeAnswer) (id : Hash32) (scripts : List Hash32) → Joined side.limits side.chain side.kept bytes pool.entries id scripts
    → answer ≡ say.Tx id → StandsAfter pool side scripts (Adds side bytes answer [])
joins_side pool side bytes answer id scripts j says = record {
  kept = side.kept ++ j.tx ∷ [];
  done = side_of.joins j.tx j.encoded j.free (says ∙ ap say.Tx j.is_id) refl refl;
  stood = j.stands;
  changes = j.changed;
}

-- one that is refused
pub refused_side : (pool pool_new : PoolState) (side : Side) (bytes : List ℕ) (answer : NodeAnswer) (e : PoolFault) → KeptStandFor pool.entries side.chain side.kept → pool_new ≡ pool
    → (e ≡ unkept.Memory) ⊎ ((e ≡ unkept.DiskFailed) ⊎ IsTxRefused side.limits side.chain side.kept bytes e) → e ≢ unkept.DiskFailed → e ≢ unkept.Memory
    → ((t : Tx) → Encodes bytes t → pool_refused (txid t) e ≡ Some answer) → (e ≡ unkept.Bad → answer ≡ say.Refused refusal.Form) → StandsAfter pool_new side [] (Adds side bytes answer [])
refused_side pool pool_new side bytes answer e stood same (inl m) no_disk no_memory told form = absurd (no_memory m)
refused_side pool pool_new side bytes answer e stood same (inr (inl d)) no_disk no_memory told form = absurd (no_disk d)
refused_side pool pool_new side bytes answer e stood same (inr (inr (inl bad))) no_disk no_memory told form = record {
  kept = side.kept;
  done = side_of.misread bad.1 (form bad.0) refl refl;
  stood = rw same stood;
  changes = unchanged side.chain side.kept;
}
refused_side pool pool_new side bytes answer e stood same (inr (inr (inr first))) no_disk no_memory told form = record {
  kept = side.kept;
  done = side_of.refuses first.0 e first.1 first.2 (told first.0 first.1) refl refl;
  stood = rw same stood;
  changes = unchanged side.chain side.kept;
}

-- what is kept has an entry
entries_have : (chain : Chain) (all kept : List Tx) (id : Hash32) → has_entry id (map (kept_tx chain all) kept) ≡ is_kept id kept
entries_have chain all [] id = refl
entries_have chain all (t ∷ ts) id = rw (entries_have chain all ts id, hash_turned id (txid t)) refl

has_kept : (pool : PoolState) (side : Side) (id : Hash32) → KeptStandFor pool.entries side.chain side.kept → has_entry id pool.entries ≡ is_kept id side.kept
has_kept pool side id stood = rw stood.are (entries_have side.chain side.kept side.kept id)

-- a transaction that is dropped
pub drops_side : (pool pool_new : PoolState) (side : Side) (id : Hash32) (answer : NodeAnswer) (scripts : List Hash32) → KeptStandFor pool.entries side.chain side.kept → true ≡ has_entry id pool.entries
    → KeptStandFor pool_new.entries side.chain (sift side.chain (other_than id side.kept))
    × AreChanged side.chain side.kept side.chain (sift side.chain (other_than id side.kept)) scripts → answer ≡ say.Gone id → StandsAfter pool_new side scripts (Drops side id answer [])
drops_side pool pool_new side id answer scripts stood there after says =
    let kept : is_kept id side.kept ≡ true = sym (has_kept pool side id stood) ∙ sym there in
    record { kept = sift side.chain (other_than id side.kept); done = side_of.goes kept says refl refl; stood = after.0; changes = after.1 }

pub absent_side : (pool pool_new : PoolState) (side : Side) (id : Hash32) (answer : NodeAnswer) (scripts : List Hash32) → scripts ≡ [] → KeptStandFor pool.entries side.chain side.kept → false ≡ has_entry id pool.entries
    → pool_new.entries ≡ pool.entries → answer ≡ say.Refused (refusal.Absent id) → StandsAfter pool_new side scripts (Drops side id answer [])
absent_side pool pool_new side id answer scripts apart stood there same says =
    let none : is_kept id side.kept ≡ false = sym (has_kept pool side id stood) ∙ sym there in
    record { kept = side.kept; done = side_of.absent none says refl refl; stood = rw same stood; changes = rw apart (unchanged side.chain side.kept) }

pub refused_told : (r : Result PoolAnswer QueryFault) (pool pool_new : PoolState) (side : Side) (bytes : List ℕ) (e : PoolFault) → KeptStandFor pool.entries side.chain side.kept → pool_new ≡ pool
    → (e ≡ unkept.Memory) ⊎ ((e ≡ unkept.DiskFailed) ⊎ IsTxRefused side.limits side.chain side.kept bytes e) → OnOk r (e ≢ unkept.DiskFailed) → OnOk r (e ≢ unkept.Memory)
    → ((t : Tx) → Encodes bytes t → IfOk r (λ a. pool_refused (txid t) e ≡ Some a.answer)) → (e ≡ unkept.Bad → IfOk r (λ a. a.answer ≡ say.Refused refusal.Form)) → IfOk r (λ a. a.changed ≡ [])
    → IfOk r (λ a. StandsAfter pool_new side a.changed (Adds side bytes a.answer []))
refused_told (Ok a) pool pool_new side bytes e stood same why no_disk no_memory told form none =
    rw none (refused_side pool pool_new side bytes a.answer e stood same why no_disk no_memory told form)
refused_told (Err f) pool pool_new side bytes e stood same why no_disk no_memory told form none = tt

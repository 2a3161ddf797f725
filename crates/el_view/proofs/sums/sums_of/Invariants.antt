use Rattle.std.proofs.Common.{◌≡◌, List, take}
use Rattle.el_tx.specs.declared.types.Tx.{Tx}
use Rattle.el_chain.specs.Chains.{Chain}
use Rattle.el_mempool.specs.Standing.{KeptStandFor}
use Rattle.el_view.specs.within.Sums.{given_by, taken_by}
use Rattle.el_view.proofs.sums.sums_of.Given as goal

abbrev pub invariant-loop-entry : goal.invariant-loop-entry
invariant-loop-entry l = record {
  given : (chain : Chain) (kept : List Tx) → KeptStandFor l.pool.entries chain kept
      → l.sums.given ≡ given_by chain kept l.script_hash.0 (take l.entry-index l.entries);
  taken : (chain : Chain) (kept : List Tx) → KeptStandFor l.pool.entries chain kept
      → l.sums.taken ≡ taken_by chain kept l.script_hash.0 (take l.entry-index l.entries);
}

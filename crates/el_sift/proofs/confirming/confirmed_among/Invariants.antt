use Rattle.std.proofs.Common.{◌≡◌, ◌||◌, ◌&&◌, drop}
use Rattle.el_base.specs.declared.hash.Hash32.{Hash32}
use Rattle.el_chain.specs.Chains.{Chain}
use Rattle.el_model.specs.LedgerCalls.{Asked}
use Rattle.el_mempool.specs.Sift.{is_confirmed}
use Rattle.el_kept.specs.Tables.{has}
use Rattle.el_sift.proofs.confirming.confirmed_among.Given as goal

-- those that were found, and those of the rest that the chain has
abbrev pub invariant-loop-id : goal.invariant-loop-id
invariant-loop-id g l =
    let d = g.G.Ledger in
    record {
      quiet : Asked d l.initial.ledger l.ledger;
      still : d.faults l.ledger ≡ d.faults l.initial.ledger;
      found : (chain : Chain) (x : Hash32) → d.stands l.initial.ledger chain
          → (has l.confirmed x || (is_confirmed chain x && has (drop l.id-index l.ids) x)) ≡ (is_confirmed chain x && has l.ids x);
    }

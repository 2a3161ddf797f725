use Rattle.std.proofs.Common.{◌≡◌, ◌||◌, drop}
use Rattle.std.specs.List.{list_any}
use Rattle.el_base.specs.declared.hash.Hash32.{Hash32}
use Rattle.el_chain.specs.Chains.{Chain}
use Rattle.el_model.specs.LedgerCalls.{Asked}
use Rattle.el_kept.specs.Tables.{has}
use Rattle.el_sift.specs.within.Renewal.{has_in_block}
use Rattle.el_sift.proofs.confirming.txids_from.Given as goal

-- those of the blocks so far, and those of the rest
abbrev pub invariant-loop-height : goal.invariant-loop-height
invariant-loop-height g l =
    let d = g.G.Ledger in
    record {
      quiet : Asked d l.initial.ledger l.ledger;
      still : d.faults l.ledger ≡ d.faults l.initial.ledger;
      found : (chain : Chain) (x : Hash32) → d.stands l.initial.ledger chain
          → (has l.found x || list_any (has_in_block x) (drop l.height chain)) ≡ list_any (has_in_block x) (drop l.same chain);
    }

use Rattle.std.proofs.Common.{◌≡◌, ◌≤◌}
use Rattle.std.specs.List.{AllByRecursion}
use Rattle.el_chain.specs.Headers.{AreLinked}
use Rattle.el_chain.specs.Records.{IsNode}
use Rattle.el_model.specs.LedgerCalls.{KeepsBeside}
use Rattle.el_side.specs.Beneath.{beneath, ghosts}
use Rattle.el_side.specs.Side.{Side}
use Rattle.el_sync.specs.Steps.{previous_hash}
use Rattle.el_check_chain.specs.within.Ways.{StandForSide, AreUnderWay}
use Rattle.el_check_chain.proofs.leading.move_on.Given as goal

abbrev pub invariant-loop-round : goal.invariant-loop-round
invariant-loop-round g l = record {
  live : g.G.Ledger.is_live l.ledger;
  nodes : AllByRecursion IsNode l.left;
  linked : AreLinked (previous_hash (g.G.Ledger.tip l.ledger)) l.left;
  few : l.moves ≤ l.round;
  moved : (side : Side) → StandForSide (ghosts g.G.Ledger g.A.Archive) (beneath l.fn.ledger l.fn.archive) l.fn.holdings l.fn.caches l.fn.left side
      → AreUnderWay (ghosts g.G.Ledger g.A.Archive) (beneath l.fn.ledger l.fn.archive) (beneath l.ledger l.archive) l.holdings l.caches l.left side l.moves;
  beside : KeepsBeside g.G.Ledger l.fn.ledger l.ledger;
  still : g.G.Ledger.faults l.ledger ≡ g.G.Ledger.faults l.fn.ledger;
}

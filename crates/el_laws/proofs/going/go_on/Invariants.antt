use Rattle.std.proofs.Common.{◌≡◌, length, take, drop}
use Rattle.el_chain.specs.Chains.{Chain}
use Rattle.el_laws.specs.Going.{Told, WasSafe, AreMovesOf}
use Rattle.el_outside.specs.Moments.{LeavesOnly}
use Rattle.el_laws.proofs.going.go_on.Given as goal

abbrev pub invariant-loop-plan : goal.invariant-loop-plan
invariant-loop-plan g l = record {
  live : g.G.Ledger.is_live l.ledger;
  one_each : length l.sent ≡ l.plan-index;
  follow : AreMovesOf (g.G.Ledger.stands l.ledger) (drop l.plan-index l.plans);
  same : g.G.Ledger.faults l.ledger ≡ g.G.Ledger.faults l.fn.ledger;
  told : (chain : Chain) → g.G.Ledger.stands l.fn.ledger chain → (acked : Chain) × Told g.A.Archive chain (take l.plan-index l.plans) l.sent acked × g.G.Ledger.stands l.ledger acked;
  ever : (chain : Chain) → g.G.Ledger.stands l.fn.ledger chain → g.G.Ledger.tells_crash
      → LeavesOnly g.G.Ledger.moment g.G.Ledger.left_since l.fn.ledger l.ledger (WasSafe g.A.Archive g.G.Ledger.means l.plans chain l.sent);
}

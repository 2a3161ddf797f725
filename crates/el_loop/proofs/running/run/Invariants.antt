use Rattle.std.proofs.Common.{◌≡◌, []}
use Rattle.el_outside.specs.Files.{AllGrow}
use Rattle.el_model.specs.LedgerCalls.{KeepsBeside}
use Rattle.el_world.specs.World.{World}
use Rattle.el_core.specs.State.{Stands, AreUpTo, IsIdle}
use Rattle.el_side.specs.Beneath.{ghosts}
use Rattle.el_loop.specs.within.Progress.{Going, CountedSoFar, all_ghosts, snapshot, failed}
use Rattle.el_loop.proofs.running.run.Given as goal

-- the run so far
abbrev pub invariant-loop-turn : goal.invariant-loop-turn
invariant-loop-turn g l = record {
  going : (first : World) → Stands g.G.Ledger.stands l.initial.server first [] → first.sessions ≡ []
      → first.side.files ≡ g.A.Archive.bytes l.initial.archive
      → Going (all_ghosts (ghosts g.G.Ledger g.A.Archive) g.Y.Relay g.K.Link) first l.options.node l._turn
      (snapshot l.initial.server l.initial.archive l.initial.relay l.initial.link) (snapshot l.server l.archive l.relay l.link);
  live : g.G.Ledger.is_live l.server.ledger;
  idle : IsIdle l.server;
  numbers : AreUpTo (g.K.Link.last l.link) l.server.clients;
  counted : CountedSoFar l._turn (g.K.Link.calls l.initial.link) (g.K.Link.calls l.link)
      (failed (all_ghosts (ghosts g.G.Ledger g.A.Archive) g.Y.Relay g.K.Link) (snapshot l.initial.server l.initial.archive l.initial.relay l.initial.link))
      (failed (all_ghosts (ghosts g.G.Ledger g.A.Archive) g.Y.Relay g.K.Link) (snapshot l.server l.archive l.relay l.link));
  keeps : g.A.Archive.tells → AllGrow (g.A.Archive.bytes l.initial.archive) (g.A.Archive.bytes l.archive);
  beside : KeepsBeside g.G.Ledger l.initial.server.ledger l.server.ledger;
}

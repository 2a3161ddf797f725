use Rattle.std.proofs.Common.{◌≡◌, ◌≤◌, ℕ, List}
use Rattle.el_outside.specs.Files.{AllGrow}
use Rattle.el_model.specs.LedgerCalls.{KeepsBeside}
use Rattle.el_world.specs.World.{World, Event}
use Rattle.el_core.specs.State.{Stands, AreUpTo, work}
use Rattle.el_side.specs.Beneath.{ghosts}
use Rattle.el_loop.specs.within.Progress.{IsReady, Progress, all_ghosts, snapshot}
use Rattle.el_loop.proofs.running.work_off.Given as goal

abbrev pub invariant-loop-outs : goal.invariant-loop-outs
invariant-loop-outs g l = record {
  progress : (world : World) (all : List Event) → Stands g.G.Ledger.stands l.initial.server world all
      → IsReady (all_ghosts (ghosts g.G.Ledger g.A.Archive) g.Y.Relay g.K.Link) world (snapshot l.initial.server l.initial.archive
      l.initial.relay l.initial.link)
      → Progress (all_ghosts (ghosts g.G.Ledger g.A.Archive) g.Y.Relay g.K.Link) world all
      (snapshot l.initial.server l.initial.archive l.initial.relay l.initial.link) (snapshot l.server l.archive l.relay l.link);
  live : g.G.Ledger.is_live l.server.ledger;
  keeps : g.A.Archive.tells → AllGrow (g.A.Archive.bytes l.initial.archive) (g.A.Archive.bytes l.archive);
  numbers : (last : ℕ) → AreUpTo last l.initial.server.clients → AreUpTo last l.server.clients;
  same_calls : g.K.Link.calls l.link ≡ g.K.Link.calls l.initial.link;
  same_last : g.K.Link.last l.link ≡ g.K.Link.last l.initial.link;
  link_more : g.K.Link.faults l.initial.link ≤ g.K.Link.faults l.link;
  archive_more : g.A.Archive.faults l.initial.archive ≤ g.A.Archive.faults l.archive;
  relay_more : g.Y.Relay.faults l.initial.relay ≤ g.Y.Relay.faults l.relay;
  disk_more : g.G.Ledger.faults l.initial.server.ledger ≤ g.G.Ledger.faults l.server.ledger;
  beside : KeepsBeside g.G.Ledger l.initial.server.ledger l.server.ledger;
}

abbrev pub decreases-loop-outs : goal.decreases-loop-outs
decreases-loop-outs g l = work l.server

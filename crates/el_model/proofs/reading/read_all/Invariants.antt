use Rattle.std.proofs.Common.{◌≤◌, ◌+◌}
use Rattle.el_outside.proofs.Calls.{HasRead}
use Rattle.el_chain.specs.Moves.{StoodAt}
use Rattle.el_model.proofs.ReadBodies.{Reading}
use Rattle.el_model.proofs.reading.read_all.Given as goal

abbrev pub invariant-loop-node : goal.invariant-loop-node
invariant-loop-node g l = record {
  reading : Reading (StoodAt g.A.Archive (g.A.Archive.bytes l.initial.archive) (g.A.Archive.bytes l.archive)) l.nodes l.node-index l.texts.items;
  calls : g.A.Archive.calls l.archive ≤ g.A.Archive.calls l.initial.archive + l.node-index;
  reads : HasRead g.A.Archive.tells (g.A.Archive.bytes l.initial.archive) (g.A.Archive.bytes l.archive) (g.A.Archive.faults l.initial.archive) (g.A.Archive.faults l.archive);
}

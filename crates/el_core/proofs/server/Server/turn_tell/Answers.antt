use Rattle.el_replies.specs.Spending.{asked_ghosts}
use Rattle.el_side.specs.Beneath.{ghosts}
use Rattle.el_core.specs.Turn.{outs_of}
use Rattle.el_core.proofs.Measured.{told_less}
use Rattle.el_core.proofs.Numbers.{up_to_told}
use Rattle.el_core.proofs.Told.{tell_turned}
use Rattle.std.proofs.Common.{refl, length}
use Rattle.el_lines.specs.LineStates.{held_bytes}
use Rattle.el_core.specs.State.{work_of_node, work_of_surplus}
use Rattle.el_core.proofs.server.Server.turn_tell.Goals as goal

pub returns-clause-step : goal.returns-clause-step
returns-clause-step g c =
    rw (← c.self.view_is) (λ world left stood grown.
    tell_turned (asked_ghosts (ghosts g.G.Ledger g.A.Archive) g.Y.Relay) _ _ c.args.archive.now c.args.relay.now world left (outs_of c.tell.result) c.args.i (λ m n d t h i j. g.met.G.Ledger.leaves_own m n d t h i j) (rw (← c.self.view_is) at c.requires.live) c.tell.ensures.quiet
    stood grown (rw (← c.self.view_is) at c.requires.still) (rw (← c.self.view_is) at c.requires.first) refl c.tell.ensures.turn)

pub returns-clause-less : goal.returns-clause-less
returns-clause-less g c =
    rw (← c.self.view_is) (told_less _ (work_of_node (held_bytes c.self.inside.node.state) (length c.self.inside.holdings.tree) (length c.self.inside.ahead)) c.args.i (work_of_surplus c.self.inside.surplus) c.self.inside.clients c.tell.new.self c.self.inside.speaker
    c.tell.ensures.turn (rw (← c.self.view_is) at c.requires.first))

pub returns-clause-numbers : goal.returns-clause-numbers
returns-clause-numbers g c = λ last up. up_to_told _ c.args.i last _ _ c.tell.ensures.turn (rw (← c.self.view_is) at up)

pub returns-clause-beside : goal.returns-clause-beside
returns-clause-beside g c = rw (← c.self.view_is) c.tell.ensures.quiet.below.files

use Rattle.std.proofs.Common.{◌∙◌}
use Rattle.el_core.proofs.Counted.{counted_held}
use Rattle.el_core.proofs.clients.Clients.hold.Goals as goal

pub returns : goal.returns
returns c = rw (← c.self.view_is) (c.counts.ensures ∙ counted_held c.self.inside.watched c.self.inside.list.items c.args.script_hash.now c.self.invariant)

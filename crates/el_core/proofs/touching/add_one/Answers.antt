use Rattle.std.proofs.Common.{sym, ◌∙◌}
use Rattle.el_core.proofs.Covered.{one_added, one_left}
use Rattle.el_core.proofs.touching.add_one.Goals as goal

pub returns-in_ok-add : goal.returns-in_ok-add
returns-in_ok-add c = one_added c.args.clients.now c.args.touched.now c.add.new.self c.args.script_hash.now c.in_ok-add.ensures.ok

pub returns-else-hold : goal.returns-else-hold
returns-else-hold c = one_left c.args.clients.now c.args.touched.now c.args.script_hash.now (sym c.hold.ensures ∙ c.if-hold.false)

use Rattle.std.proofs.Common.{refl}
use Rattle.el_audit.proofs.Walks.{entered_more}
use Rattle.el_audit.proofs.lists.list_entry.Goals as goal

pub loop-script-preserved : goal.loop-script-preserved
loop-script-preserved c = λ s.
    entered_more c.args.scripts.now c.loop-script.script-index _ _ s c.args.entry _ _ _ c.loop-script-test.true refl
    c.requires (c.loop-script.invariant s) (c.in_ok-add_to.ensures s)

use Rattle.std.proofs.Common.{refl}
use Rattle.el_audit.proofs.Walks.{listed_more}
use Rattle.el_audit.proofs.lists.empty_lists.Goals as goal

pub loop-name-preserved : goal.loop-name-preserved
loop-name-preserved g c =
    listed_more _ _ c.args.names.now.keys _ c.loop-name.name-index _ _ c.new.result c.as_slice-name-items.ensures.keys c.loop-name-test.true refl
    c.in_ok-insert.ensures.updates.0 c.new.ensures c.loop-name.invariant

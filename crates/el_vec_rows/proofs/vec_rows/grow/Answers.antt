use Rattle.el_vec_rows.proofs.InMemoryLemmas.{all_grown_twice, room_more}
use Rattle.el_vec_rows.proofs.vec_rows.grow.Goals as goal

pub loop-t-preserved : goal.loop-t-preserved
loop-t-preserved c = (
  all_grown_twice c.args.kept.now c.loop-t.kept c.grow_one.new.kept c.loop-t.invariant.0 c.grow_one.ensures.grown,
  room_more c.loop-t.kept c.grow_one.new.kept c.args.counts.now c.loop-t.t-index c.loop-t.invariant.1 c.grow_one.ensures.grown c.in_ok-grow_one.ensures.enough,
)

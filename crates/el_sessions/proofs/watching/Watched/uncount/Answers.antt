use Rattle.el_sessions.specs.Watching.{counted}
use Rattle.el_sessions.proofs.Counting.{one_uncounted, fewer}
use Rattle.el_sessions.proofs.watching.Watched.uncount.Goals as goal

pub loop-s-smaller : goal.loop-s-smaller
loop-s-smaller c = rw c.in-Some.ensures.some.1 (fewer c.in-Some.s c.loop-s.subs c.in-Some.ensures.some.0)

pub loop-s-preserved : goal.loop-s-preserved
loop-s-preserved c = λ t.
    one_uncounted t c.in-Some.s c.loop-s.subs c.drop_any.new.self (counted c.loop-s.self t) (counted c.count_down.new.self t) _ c.in-Some.ensures.some.0 c.in-Some.ensures.some.1 (c.count_down.ensures t) (c.loop-s.invariant t)

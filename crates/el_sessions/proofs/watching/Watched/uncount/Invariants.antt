use Rattle.std.proofs.Common.{◌≡◌, ◌-◌, length}
use Rattle.std.specs.Map.{keys_of}
use Rattle.el_base.specs.declared.hash.Hash32.{Hash32}
use Rattle.el_sessions.specs.Watching.{counted, times}
use Rattle.el_sessions.proofs.watching.Watched.uncount.Given as goal

abbrev pub decreases-loop-s : goal.decreases-loop-s
decreases-loop-s l = length l.subs

abbrev pub invariant-loop-s : goal.invariant-loop-s
invariant-loop-s l = (t : Hash32) → counted l.self t - times t (keys_of l.subs) ≡ counted l.fn.self t - times t (keys_of l.fn.subs)

use Rattle.std.proofs.Common.{arith}
use Rattle.el_rows.specs.Changes.{count_at}
use Rattle.el_recovery.proofs.Bodies.{begins_within}
use Rattle.el_recovery.proofs.checking.extend.Goals as goal

pub overflow_mul-end : goal.overflow_mul-end
overflow_mul-end c = omega (arith, begins_within c.args.row (count_at c.args.reach.now c.args.table) c.args.size c.requires.sized c.requires.near, c.requires.small)

pub overflow_add-end : goal.overflow_add-end
overflow_add-end c = omega (arith, begins_within c.args.row (count_at c.args.reach.now c.args.table) c.args.size c.requires.sized c.requires.near, c.requires.small, c.requires.narrow)

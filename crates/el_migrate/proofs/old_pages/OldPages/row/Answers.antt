use Rattle.std.proofs.Common.{arith}
use Rattle.std.proofs.lemmas.Nat.{mul-le}
use Rattle.el_migrate.proofs.OldLimits.{sizes_1, small_old}
use Rattle.el_migrate.proofs.old_pages.OldPages.row.Goals as goal

pub overflow_mul-at : goal.overflow_mul-at
overflow_mul-at g c =
    let product = mul-le c.args.i c.size.result 4294967295 112 (omega (arith, c.count.ensures.count, c.count.ensures.limit, c.requires.below)) (omega (arith, c.size.ensures, sizes_1 c.args.t, small_old c.args.t)) in
    omega (arith, product)

use Rattle.std.proofs.Common.{arith}
use Rattle.el_row_formats.proofs.Keys.{few_rows}
use Rattle.el_buckets.proofs.change.push.Goals as goal

pub set_head-requires : goal.set_head-requires
set_head-requires g c = record { fits = omega (arith, c.count-n.ensures.limit, few_rows c.rows.result) }

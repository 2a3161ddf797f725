use Rattle.std.proofs.Common.{length, ap, arith}
use Rattle.el_rows.proofs.ShownLemmas.{rows_long}
use Rattle.el_rows.proofs.shown_rows.ShownRows.len.Goals as goal

pub returns : goal.returns
returns c = let here = c.self.inside in omega (arith, c.self.invariant.0, rows_long here.below.items here.base here.added, ap length c.self.view_is)

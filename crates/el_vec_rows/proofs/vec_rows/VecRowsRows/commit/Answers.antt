use Rattle.std.proofs.Common.{length, ap, ◌∙◌}
use Rattle.el_row_formats.specs.Tables.{tables_listed}
use Rattle.el_rows.proofs.UnderLemmas.{length-under}
use Rattle.el_vec_rows.proofs.vec_rows.VecRowsRows.commit.Goals as goal

pub returns-clause-counts : goal.returns-clause-counts
returns-clause-counts c t = ap length (c.in_ok-edit.ensures.ok t) ∙ length-under (tables_listed c.self.inside.rows) c.args.sealed.now.counts c.args.sealed.now.changes t

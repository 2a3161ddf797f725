use Rattle.std.proofs.Common.{ℕ, length, ap, refl, ◌∙◌}
use Rattle.el_row_formats.specs.declared.table.Table.{Table}
use Rattle.el_row_formats.specs.Tables.{tables_listed}
use Rattle.el_server_tests.specs.declared.failing_rows.FailingRows.{FailingRows}
use Rattle.el_server_tests.proofs.failing_rows.FailingRowsRows.row.Goals as goal

pub returns-clause-reads : goal.returns-clause-reads
returns-clause-reads c = record {
  same = refl;
  count = c.row.ensures.reads.count
      ∙ ap {B = Table → ℕ} (λ (s : FailingRows) t. length (tables_listed s.rows.rows t)) c.call.ensures.same;
  as_many = refl;
  live = tt;
  below = record { crash = λ no. absurd no; files = λ no. absurd no };
}

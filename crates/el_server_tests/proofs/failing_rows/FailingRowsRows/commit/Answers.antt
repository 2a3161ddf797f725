use Rattle.std.proofs.Common.{ℕ, length, ap, refl, ◌∙◌}
use Rattle.el_row_formats.specs.declared.table.Table.{Table}
use Rattle.el_row_formats.specs.Tables.{tables_listed}
use Rattle.el_server_tests.specs.declared.failing_rows.FailingRows.{FailingRows}
use Rattle.el_server_tests.proofs.failing_rows.FailingRowsRows.commit.Goals as goal

pub returns-clause-memory : goal.returns-clause-memory
returns-clause-memory c failed = record {
  same = refl;
  count = (c.commit.ensures.memory failed).count
      ∙ ap {B = Table → ℕ} (λ (s : FailingRows) t. length (tables_listed s.rows.rows t)) c.call.ensures.same;
  as_many = refl;
  live = tt;
  below = record { crash = λ no. absurd no; files = λ no. absurd no };
}

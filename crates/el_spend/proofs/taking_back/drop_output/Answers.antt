use Rattle.std.proofs.Common.{◌≡◌, ◌+◌, length, ap, ◌∙◌}
use Rattle.el_rows.specs.Transaction.{with_edits}
use Rattle.el_row_formats.specs.declared.table.Table.TheVariants as table
use Rattle.el_spend.specs.within.Parts.{balance_lowered, value_if_unspent}
use Rattle.el_spend.proofs.Rows.{out_less}
use Rattle.el_spend.proofs.taking_back.drop_output.Goals as goal

pub returns-clause-dropped : goal.returns-clause-dropped
returns-clause-dropped g c tb x told same is =
    let middle = with_edits {G = g.R.Rows} c.leave_balance.new.t in
    let long : length (middle table.Outs) ≡ c.args.last + 1 = ap length (c.leave_balance.ensures.others table.Outs (λ q. cc)) ∙ c.requires.last in
    out_less middle (with_edits {G = g.R.Rows} c.shrink.new.self) (balance_lowered x.script (value_if_unspent x) tb) (c.in_ok-leave_balance.ensures.lowered tb x told same is) c.args.last long c.shrink.ensures.shrunk

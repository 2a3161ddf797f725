use Rattle.std.proofs.Common.{◌++◌, ◌∷◌, [], ℕ, List, subst, arith}
use Rattle.el_rows.specs.Changes.{OnTable}
use Rattle.el_rows.specs.Transaction.{with_edits}
use Rattle.el_row_formats.specs.declared.table.Table.TheVariants as table
use Rattle.el_tables.specs.Edits.{new_out}
use Rattle.el_spend.proofs.Rows.{out_more}
use Rattle.el_spend.proofs.adding.append_output.Goals as goal

pub returns-in-Ok-clause-appended : goal.returns-in-Ok-clause-appended
returns-in-Ok-clause-appended g c tb same =
    let old = with_edits {G = g.R.Rows} c.args.t.now in
    let new = with_edits {G = g.R.Rows} c.append.new.self in
    let on = subst (λ (row : List ℕ). OnTable old new table.Outs (old table.Outs ++ row ∷ [])) c.write.ensures c.in-Ok.ensures.ok in
    out_more old new tb same (new_out c.args.tx c.args.value c.args.script) on
    (record { tx = c.requires.tx; value = omega (arith, c.ranges.value.fits); script = c.requires.script; by = omega arith })

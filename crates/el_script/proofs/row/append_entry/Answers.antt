use Rattle.std.proofs.Common.{◌++◌, ◌∷◌, [], ℕ, List, subst}
use Rattle.el_rows.specs.Changes.{OnTable}
use Rattle.el_rows.specs.Transaction.{with_edits}
use Rattle.el_row_formats.specs.declared.table.Table.TheVariants as table
use Rattle.el_script.proofs.row.append_entry.Goals as goal

pub returns-in-Ok-clause-ok : goal.returns-in-Ok-clause-ok
returns-in-Ok-clause-ok g c =
    let old = with_edits {G = g.R.Rows} c.args.t.now in
    subst (λ (row : List ℕ). OnTable old (with_edits {G = g.R.Rows} c.append.new.self) table.Entries (old table.Entries ++ row ∷ [])) c.write.ensures c.in-Ok.ensures.ok

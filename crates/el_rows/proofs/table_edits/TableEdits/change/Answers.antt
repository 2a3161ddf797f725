use Rattle.std.proofs.Common.{◌++◌, ◌∷◌, ℕ, List, [], Some, cond, sym, ap, ◌∙◌, subst}
use Rattle.std.specs.Prelude.{nat_eq, if◌then◌else◌}
use Rattle.std.specs.Map.{lookup}
use Rattle.el_rows.specs.within.EditedTables.{EditedTable, paired, IsWritten}
use Rattle.el_rows.proofs.EditsLemmas.{OnOk-weaker, on_err}
use Rattle.el_rows.proofs.PairedLemmas.{written_known, written_new, written_beside}
use Rattle.el_rows.proofs.table_edits.TableEdits.change.Goals as goal

pub returns-in-Some-clause-ok : goal.returns-in-Some-clause-ok
returns-in-Some-clause-ok c = OnOk-weaker c.write_at.result
    (λ written j. written_known c.args.i c.self.inside.numbers.keys c.self.inside.changed.rows c.write_at.new.rows.rows c.in-Some.place c.args.row.now c.self.invariant.0 (sym c.in-Some.ensures.index) written j
    ∙ ap (λ (e : EditedTable). cond (nat_eq c.args.i j) (Some c.args.row.now) (lookup (nat_eq j) e.changed)) c.self.view_is)
    c.write_at.ensures.ok

pub returns-in_err-insert-clause-err : goal.returns-in_err-insert-clause-err
returns-in_err-insert-clause-err c =
    let here = c.self.inside in
    let rows = c.write_at-2.new.rows.rows in
    on_err c.from_residual-in_err-insert.result
    (ap (λ (keys : List ℕ). record { changed = paired keys rows; added = here.added }) c.in_err-insert.ensures.err
    ∙ ap (λ (pairs : List (ℕ × List ℕ)). record { changed = pairs; added = here.added }) (written_beside here.numbers.keys here.changed.rows rows c.args.row.now c.self.invariant.0
    (subst (λ (n : ℕ). IsWritten here.changed.rows rows n c.args.row.now) c.len.ensures.len c.in_ok-write_at.ensures.ok))
    ∙ c.self.view_is)

pub returns-clause-ok : goal.returns-clause-ok
returns-clause-ok c j =
    let here = c.self.inside in
    let rows = c.write_at-2.new.rows.rows in
    ap (λ (keys : List ℕ). lookup (nat_eq j) (paired keys rows)) (c.in_ok-insert.ensures.keys
    ∙ ap (λ b. if b then here.numbers.keys else here.numbers.keys ++ c.args.i ∷ []) (sym c.in_default.ensures.found))
    ∙ written_new c.args.i here.numbers.keys here.changed.rows rows c.args.row.now c.self.invariant.0 (sym c.in_default.ensures.index)
    (subst (λ (n : ℕ). IsWritten here.changed.rows rows n c.args.row.now) c.len.ensures.len c.in_ok-write_at.ensures.ok) j
    ∙ ap (λ (e : EditedTable). cond (nat_eq c.args.i j) (Some c.args.row.now) (lookup (nat_eq j) e.changed)) c.self.view_is

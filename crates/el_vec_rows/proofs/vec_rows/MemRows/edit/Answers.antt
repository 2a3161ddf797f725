use Rattle.std.proofs.Common.{List, ℕ, ap, ◌∙◌, subst}
use Rattle.el_vec_rows.specs.within.InMemory.{HasEnoughRows}
use Rattle.el_row_formats.specs.Tables.{Tables, list_of_tables}
use Rattle.el_rows.proofs.EditsLemmas.{on_err}
use Rattle.el_vec_rows.proofs.InMemoryLemmas.{shown_grown, committed}
use Rattle.el_vec_rows.proofs.vec_rows.MemRows.edit.Goals as goal

pub returns-in_err-grow-clause-err : goal.returns-in_err-grow-clause-err
returns-in_err-grow-clause-err c = on_err c.from_residual.result
    (ap (λ (tables : Tables). list_of_tables tables) (shown_grown c.self.inside.kept c.grow.new.kept c.self.inside.counts c.grow.ensures.grown c.self.invariant.room) ∙ c.self.view_is)

pub returns-clause-ok : goal.returns-clause-ok
returns-clause-ok c = committed c.args.self.now c.self.inside.kept c.grow.new.kept c.write.new.kept c.self.inside.counts c.counts-counts.result.now c.args.sealed.now.counts c.args.sealed.now.changes
    c.self.view_is c.self.invariant c.grow.ensures.grown (subst (λ (n : List ℕ). HasEnoughRows c.grow.new.kept n) c.counts-counts.ensures c.in_ok-grow.ensures.enough) c.write.ensures c.requires c.counts-counts.ensures

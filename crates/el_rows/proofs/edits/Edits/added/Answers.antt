use Rattle.std.proofs.Common.{◌≡◌, ◌<◌, ◌+◌, ℕ, Some, length, get_or, ap, sym, ◌∙◌, arith}
use Rattle.el_rows.specs.Changes.{Edited, changed_at, count_at}
use Rattle.el_row_formats.specs.Tables.{size_of, row_at}
use Rattle.el_rows.specs.within.EditedTables.{EditedTable}
use Rattle.el_rows.proofs.EditedLemmas.{at_changes, at_place, edited_by_place}
use Rattle.el_rows.proofs.edits.Edits.added.Goals as goal

pub returns-clause-each : goal.returns-clause-each
returns-clause-each c j lt =
    let here = c.self.inside in
    let t = c.args.t in
    let i = c.args.i + j in
    let within : c.index-place.result < length here.tables = omega (arith, c.index-place.ensures.within, c.self.told) in
    let size : (get_or here.tables c.index-place.result c.index-self-place.result).added.size ≡ size_of t =
    ap (λ (e : EditedTable). e.added.size) (at_place here.tables t c.index-place.result c.index-self-place.result c.index-place.ensures.index within) ∙ c.self.invariant.sizes t in
    let count : get_or here.counts c.index-place.result 0 ≡ count_at c.args.self.now.counts t =
    ap (λ (n : ℕ). get_or here.counts n 0) c.index-place.ensures.index ∙ ap (λ (e : Edited). count_at e.counts t) c.self.view_is in
    sym (ap (λ (e : Edited). changed_at e.changes t i) c.self.view_is) ∙ at_changes here.base here.tables c.self.invariant.below t i
    ∙ sym (edited_by_place here.base here.tables t c.index-place.result c.index-self-place.result i c.index-place.ensures.index within)
    ∙ c.added.ensures.each j (omega (arith, lt, count))
    ∙ ap (λ (s : ℕ). Some (row_at s c.added.result.now j)) size

use Rattle.std.proofs.Common.{◌&&◌, ℕ, List, Option, get_or, ap, sym, ◌∙◌, arith}
use Rattle.std.specs.Prelude.{is_some, nat_lt}
use Rattle.std.proofs.lemmas.Result.{IfOk-weaker}
use Rattle.el_rows.specs.Changes.{Edited, changed_at, count_at}
use Rattle.el_rows.specs.within.EditedTables.{all_changes}
use Rattle.el_rows.proofs.EditedLemmas.{at_changes, edited_by_place}
use Rattle.el_rows.proofs.edits.Edits.shown.Goals as goal

pub returns-clause-shown : goal.returns-clause-shown
returns-clause-shown c =
    let here = c.self.inside in
    IfOk-weaker c.shown.result _ _ (λ v each i. each i
    ∙ ap (λ (o : Option (List ℕ)). nat_lt i (get_or here.counts c.index-place.result 0) && is_some o) (edited_by_place here.base here.tables c.args.t c.index-place.result c.index-self-place.result i c.index-place.ensures.index
    (omega (arith, c.index-place.ensures.within, c.self.told)) ∙ sym (at_changes here.base here.tables c.self.invariant.below c.args.t i))
    ∙ ap (λ (k : ℕ). nat_lt i (get_or here.counts k 0) && is_some (changed_at (all_changes here.base here.tables) c.args.t i)) c.index-place.ensures.index
    ∙ ap (λ (e : Edited). nat_lt i (count_at e.counts c.args.t) && is_some (changed_at e.changes c.args.t i)) c.self.view_is) c.shown.ensures.shown

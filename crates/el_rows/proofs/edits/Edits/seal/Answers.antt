use Rattle.std.proofs.Common.{◌≡◌, ◌&&◌, ℕ, sym, subst, ap, ◌∙◌}
use Rattle.std.specs.Prelude.{is_some, nat_lt}
use Rattle.std.proofs.lemmas.Result.{IfOk-weaker}
use Rattle.el_row_formats.specs.declared.table.Table.{Table}
use Rattle.el_rows.specs.Changes.{Edited, Update, IsMadeFrom, changed_at, count_at}
use Rattle.el_rows.specs.within.EditedTables.{all_tables, keys_over, listed_changes}
use Rattle.el_rows.proofs.SealedLemmas.{has_key, made, listed_shown, are_shown}
use Rattle.el_rows.proofs.edits.Edits.seal.Goals as goal

pub new-requires : goal.new-requires
new-requires c = are_shown c.args.self.counts c.args.self.changes c.in_ok-rows.rows c.in_ok-rows.ensures.rising c.in_ok-rows.ensures.shown

pub returns-clause-changes : goal.returns-clause-changes
returns-clause-changes c =
    let keys = keys_over c.in_ok-rows.rows all_tables in
    let shown = are_shown c.args.self.counts c.args.self.changes c.in_ok-rows.rows c.in_ok-rows.ensures.rising c.in_ok-rows.ensures.shown in
    IfOk-weaker c.new.result _ _ (λ s is t i. ap (λ (u : Update). changed_at u.changes t i) is ∙ listed_shown c.args.self.counts c.args.self.changes keys shown.each t i) c.new.ensures

pub returns-clause-made : goal.returns-clause-made
returns-clause-made c =
    let here = c.self.inside in
    let keys = keys_over c.in_ok-rows.rows all_tables in
    let shown = are_shown c.args.self.counts c.args.self.changes c.in_ok-rows.rows c.in_ok-rows.ensures.rising c.in_ok-rows.ensures.shown in
    IfOk-weaker c.new.result _ _ (λ s is. subst (λ (u : Update). IsMadeFrom (count_at c.args.self.base) u.counts u.changes) (sym is)
    (subst (λ (e : Edited). IsMadeFrom (count_at e.base) e.counts (listed_changes e.changes keys)) c.self.view_is
    (made here.base here.counts here.tables keys c.self.invariant shown.rising
    (subst (λ (e : Edited). (t : Table) (i : ℕ) → has_key t i keys ≡ (nat_lt i (count_at e.counts t) && is_some (changed_at e.changes t i))) (sym c.self.view_is) shown.each)))) c.new.ensures

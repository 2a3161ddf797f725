use Rattle.std.proofs.Common.{◌≡◌, ◌&&◌, ◌++◌, ℕ, List, sym, ap, ◌∙◌, subst, append-nil}
use Rattle.std.specs.Prelude.{nat_lt, nat_eq, is_some}
use Rattle.std.specs.List.{filter, list_any}
use Rattle.std.specs.List.Sorted.{IsPermutation}
use Rattle.std.specs.Map.{keys_of, lookup}
use Rattle.el_rows.specs.within.EditedTables.{EditedTable, paired}
use Rattle.el_rows.proofs.PairedLemmas.{keys_paired}
use Rattle.el_rows.proofs.ShownLemmas.{sorted_rise, sorted_shown}
use Rattle.el_rows.proofs.table_edits.TableEdits.changed_below.Goals as goal

pub loop-row-init : goal.loop-row-init
loop-row-init c = ap (λ (items : List ℕ). items ++ filter (λ i. nat_lt i c.args.count) c.into_iter-row-iterator.result) c.new-rows.ensures.items
    ∙ ap (λ (ns : List ℕ). filter (λ i. nat_lt i c.args.count) ns) (c.into_iter-row-iterator.ensures.into_iter_gives ∙ c.iter-row-items.ensures.rest ∙ sym (keys_paired c.self.inside.numbers.keys c.self.inside.changed.rows c.self.invariant.0)
    ∙ ap (λ (e : EditedTable). keys_of e.changed) c.self.view_is)

-- what is sorted
kept : (c : goal.After-sort_unstable) → IsPermutation (filter (λ i. nat_lt i c.args.count) (keys_of (paired c.self.inside.numbers.keys c.self.inside.changed.rows))) c.sort_unstable.new.self.items
kept c = subst (λ (rows : List ℕ). IsPermutation rows c.sort_unstable.new.self.items)
    (sym (append-nil c.loop-row.rows.items) ∙ ap (λ (rest : List ℕ). c.loop-row.rows.items ++ filter (λ i. nat_lt i c.args.count) rest) (sym c.in-None.ensures.steps.0) ∙ c.loop-row.invariant
    ∙ ap (λ (e : EditedTable). filter (λ i. nat_lt i c.args.count) (keys_of e.changed)) (sym c.self.view_is)) c.sort_unstable.ensures.permutation

pub returns-clause-rising : goal.returns-clause-rising
returns-clause-rising c =
    let here = c.self.inside in
    let same = keys_paired here.numbers.keys here.changed.rows c.self.invariant.0 in
    sorted_rise c.args.count here.numbers.keys c.sort_unstable.new.self.items c.iter-row-items.ensures.unique
    (subst (λ (ns : List ℕ). IsPermutation (filter (λ i. nat_lt i c.args.count) ns) c.sort_unstable.new.self.items) same (kept c)) c.sort_unstable.ensures.sorted

pub returns-clause-shown : goal.returns-clause-shown
returns-clause-shown c = subst (λ (e : EditedTable). (i : ℕ) → list_any (nat_eq i) c.sort_unstable.new.self.items ≡ (nat_lt i c.args.count && is_some (lookup (nat_eq i) e.changed))) c.self.view_is
    (sorted_shown c.args.count (paired c.self.inside.numbers.keys c.self.inside.changed.rows) c.sort_unstable.new.self.items (kept c))

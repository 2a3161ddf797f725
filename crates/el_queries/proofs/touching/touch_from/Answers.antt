use Rattle.std.proofs.Common.{◌≡◌, ◌-◌, ◌||◌, Bool, length, ap, sym, subst, ◌∙◌}
use Rattle.std.specs.List.{list_any}
use Rattle.el_chain.specs.Headers.{same_hash}
use Rattle.el_tables.specs.Tables.{numbers_from}
use Rattle.el_schema.specs.Rows.{Hold}
use Rattle.el_schema.proofs.Rows.{on_success}
use Rattle.el_queries.specs.within.LastBlock.{is_entry_of_script, buries}
use Rattle.el_queries.proofs.Walks.{or_assoc}
use Rattle.el_queries.proofs.touching.touch_from.Goals as goal

pub returns-clause-touched : goal.returns-clause-touched
returns-clause-touched g c counts bs l s before own told hold some split last late =
    let next = subst (λ T. Hold counts bs l T) (sym c.touch_entries.ensures.read.tables) hold in
    let old = list_any (same_hash s) c.args.touched.now in
    let mid = list_any (same_hash s) c.touch_entries.new.touched in
    let now = list_any (same_hash s) c.touch_all_buried.new.touched in
    let mine = list_any (is_entry_of_script s l) own in
    let buried = list_any (buries s l) (numbers_from c.args.first (length l.txs - c.args.first)) in
    let entries = c.in_ok-touch_entries.ensures.touched counts bs l s before own told hold split last late in
    on_success (now ≡ (mid || buried)) (now ≡ (old || (mine || buried))) c.touch_all_buried.result
    (c.touch_all_buried.ensures.touched counts bs l s told next some)
    (λ h. h ∙ ap (λ (x : Bool). x || buried) entries ∙ or_assoc old mine buried)

use Rattle.std.proofs.Common.{◌≡◌, ◌||◌, Bool, take, ap, sym, subst, ◌∙◌}
use Rattle.std.specs.List.{list_any}
use Rattle.el_chain.specs.Headers.{same_hash}
use Rattle.el_tables.specs.Lists.{output_number}
use Rattle.el_schema.specs.Rows.{Hold}
use Rattle.el_schema.proofs.Rows.{on_success}
use Rattle.el_queries.specs.within.LastBlock.{is_at, buries_at}
use Rattle.el_queries.proofs.Walks.{buried_here}
use Rattle.el_queries.proofs.buried.touch_buried_at.Goals as goal

pub returns-in-Buried-clause-touched : goal.returns-in-Buried-clause-touched
returns-in-Buried-clause-touched g c counts bs l s told hold some =
    let x = c.in-Some.found in
    let old = list_any (same_hash s) c.args.touched.now in
    let now = list_any (same_hash s) c.touch_script.new.touched in
    let before = subst (λ T. Hold counts bs l T) (sym c.named_output.ensures.read.tables) hold in
    let found = sym c.in-Some.is ∙ c.in_ok-found.ensures.named counts bs l told hold some in
    let is = buried_here s c.args.tx c.in-Buried.by l x (output_number c.args.o.now (take c.args.tx l.txs)) found c.in-Buried.is c.if-by-tx.true in
    on_success (now ≡ (old || is_at s l.scripts x.row.script)) (now ≡ (old || buries_at s c.args.tx l c.args.o.now)) c.touch_script.result
    (c.touch_script.ensures.touched counts bs l s told before) (λ h. h ∙ ap (λ (b : Bool). old || b) (sym is))

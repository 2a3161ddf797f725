use Rattle.std.proofs.Common.{◌||◌, Bool, ap, sym, ◌∙◌, arith}
use Rattle.std.specs.List.{list_any}
use Rattle.el_chain.specs.Headers.{same_hash}
use Rattle.el_chain.proofs.TouchLemmas.{any_added, or_nothing}
use Rattle.el_rows.specs.Transaction.{with_edits}
use Rattle.el_tables.specs.Tables.{tables_of}
use Rattle.el_schema.proofs.Held.{count_scripts}
use Rattle.el_queries.specs.within.LastBlock.{is_at}
use Rattle.el_queries.proofs.Walks.{script_read, script_past}
use Rattle.el_queries.proofs.script.touch_script.Goals as goal

pub returns-then-n-count-clause-touched : goal.returns-then-n-count-clause-touched
returns-then-n-count-clause-touched g c counts bs l s told hold =
    let many = count_scripts counts bs l (with_edits {G = g.R.Rows} c.args.t.now) hold in
    or_nothing (list_any (same_hash s) c.args.touched.now) (is_at s l.scripts c.args.n) (script_past s l.scripts c.args.n (omega (arith, many, c.count.ensures.count, c.if-n-count.true)))

pub returns-clause-touched : goal.returns-clause-touched
returns-clause-touched g c counts bs l s told hold =
    let row = c.in_ok-row.row in
    any_added s row.script c.args.touched.now c.add.new.self c.in_ok-add.ensures.ok
    ∙ ap (λ (b : Bool). list_any (same_hash s) c.args.touched.now || b) (sym (script_read s counts.scripts 0 l l.scripts c.args.n row (c.in_ok-row.ensures.row (tables_of counts bs l) told hold)))

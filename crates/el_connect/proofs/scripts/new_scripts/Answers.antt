use Rattle.std.proofs.Common.{arith, get_or, sym, subst}
use Rattle.std.proofs.lemmas.List.{get_or_default}
use Rattle.el_rows.proofs.TransactionLemmas.{more}
use Rattle.el_row_formats.specs.Tables as held
use Rattle.el_schema.specs.Rows.{Hold}
use Rattle.el_connect.proofs.LoopLemmas.{no_output}
use Rattle.el_connect.proofs.ScriptLemmas.{counted_more, counted_all}
use Rattle.el_connect.proofs.scripts.new_scripts.Goals as goal

pub loop-index-preserved : goal.loop-index-preserved
loop-index-preserved g c = record {
  counted = λ counts bs x told hold fits some.
      let at = subst (λ (T : held.Tables). Hold counts bs x T) (sym c.loop-index.invariant.read.tables) hold in
      counted_more x.scripts c.args.outputs.now c.loop-index.index c.loop-index.new c.in_ok-new.field-0 (get_or c.args.outputs.now c.loop-index.index no_output) c.loop-index-test.true
      (get_or_default c.args.outputs.now c.loop-index.index no_output _ c.loop-index-test.true) (c.loop-index.invariant.counted counts bs x told hold fits some)
      (c.in_ok-new.ensures.rows counts bs x told at fits some);
  few = omega (arith, c.loop-index.invariant.few, c.in_ok-new.ensures.few);
  read = more c.loop-index.invariant.read c.in_ok-new.ensures.read;
}

pub returns-clause-new : goal.returns-clause-new
returns-clause-new g c counts bs l told hold fits some =
    counted_all l.scripts c.args.outputs.now c.loop-index.index c.loop-index.new c.loop-index-test.false (c.loop-index.invariant.counted counts bs l told hold fits some)

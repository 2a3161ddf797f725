use Rattle.std.proofs.Common.{◌+◌, ℕ, ◌∙◌, ap, get_or, min}
use Rattle.std.proofs.lemmas.List.{get_or_default}
use Rattle.el_rows.proofs.TransactionLemmas.{more}
use Rattle.el_schema.specs.Rows.{Hold}
use Rattle.el_row_formats.specs.Tables as held
use Rattle.el_connect.proofs.LoopLemmas.{no_output}
use Rattle.el_connect.proofs.MoneyLemmas.{counting_more, counting_done}
use Rattle.el_connect.proofs.money.sum_after.Goals as goal

pub loop-index-preserved : goal.loop-index-preserved
loop-index-preserved g c = record {
  counted = λ counts bs x next told hold some turn is_next is fit.
      let at = Rattle.std.proofs.Common.subst (λ (T : held.Tables). Hold counts bs x T) (Rattle.std.proofs.Common.sym c.loop-index.invariant.read.tables) hold in
      counting_more x next c.args.number c.args.txid.now turn is_next c.args.outputs.now c.loop-index.after c.saturating_add-after.result c.in_ok-gone.gone c.loop-index.index
      (get_or c.args.outputs.now c.loop-index.index no_output) c.loop-index-test.true (get_or_default c.args.outputs.now c.loop-index.index no_output _ c.loop-index-test.true)
      (c.in_ok-gone.ensures.value counts bs x told at some)
      (c.saturating_add-after.ensures ∙ ap (λ (s : ℕ). min (s + (get_or c.args.outputs.now c.loop-index.index no_output).0) 18446744073709551615) c.saturating_sub.ensures)
      (c.loop-index.invariant.counted counts bs x next told hold some turn is_next is fit);
  read = more c.loop-index.invariant.read c.in_ok-gone.ensures.read;
}

pub returns-clause-sum : goal.returns-clause-sum
returns-clause-sum g c counts bs x next told hold some turn is_next is fit =
    counting_done x next c.args.number c.args.txid.now turn is_next c.args.outputs.now c.loop-index.after c.loop-index.index c.loop-index-test.false
    (c.loop-index.invariant.counted counts bs x next told hold some turn is_next is fit)

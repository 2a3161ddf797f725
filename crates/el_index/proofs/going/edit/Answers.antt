use Rattle.std.proofs.Common.{◌⊎◌, inl, ℕ, ◌+◌, length, ap, ap₂, sym, ◌∙◌}
use Rattle.std.proofs.lemmas.Result.{err_from_is_err_and}
use Rattle.el_chain.specs.Moves.{FaultInAt, shorter}
use Rattle.el_chain.proofs.CoinSteps.{err_passed}
use Rattle.el_index.specs.within.Adding.{IsOwn}
use Rattle.el_row_formats.specs.Tables.{Tables}
use Rattle.el_row_formats.specs.declared.table.Table.TheVariants as table
use Rattle.el_rows.specs.Transaction.{with_edits}
use Rattle.el_index.proofs.Addings.{are_moved, moved_same}
use Rattle.el_index.proofs.going.edit.Goals as goal

pub returns-in_err-take_back-clause-first_fault : goal.returns-in_err-take_back-clause-first_fault
returns-in_err-take_back-clause-first_fault g c heads chain told stand fits =
    err_passed c.from_residual.result (λ e. IsOwn e ⊎ FaultInAt (shorter c.args.plan.now.back chain) c.args.plan.now.forward c.args.texts.now e) c.in_err-take_back.field-0.0
    (err_from_is_err_and c.from_residual.result c.from_residual.ensures.1) (inl c.in_err-take_back.ensures.own)

pub returns-in_err-add_all-clause-first_fault : goal.returns-in_err-add_all-clause-first_fault
returns-in_err-add_all-clause-first_fault g c heads chain told stand fits =
    let base = shorter c.args.plan.now.back chain in
    err_passed c.from_residual-in_err-add_all.result (λ e. IsOwn e ⊎ FaultInAt base c.args.plan.now.forward c.args.texts.now e) c.in_err-add_all.field-0.0
    (err_from_is_err_and c.from_residual-in_err-add_all.result c.from_residual-in_err-add_all.ensures.1)
    (rw c.as_slice.ensures at c.in_err-add_all.ensures.first_fault heads base told (c.in_ok-take_back.ensures.back heads chain told stand fits.within) fits.linked)

pub returns-in_err-touch_all-clause-first_fault : goal.returns-in_err-touch_all-clause-first_fault
returns-in_err-touch_all-clause-first_fault g c heads chain told stand fits =
    err_passed c.from_residual-in_err-touch_all.result (λ e. IsOwn e ⊎ FaultInAt (shorter c.args.plan.now.back chain) c.args.plan.now.forward c.args.texts.now e) c.in_err-touch_all.field-0.0
    (err_from_is_err_and c.from_residual-in_err-touch_all.result c.from_residual-in_err-touch_all.ensures.1) (inl c.in_err-touch_all.ensures.own)

pub returns-clause-moved : goal.returns-clause-moved
returns-clause-moved g c heads chain told stand fits =
    let base = shorter c.args.plan.now.back chain in
    let before = with_edits {G = g.R.Rows} c.take_back.new.t in
    let back = c.in_ok-take_back.ensures.back heads chain told stand fits.within in
    let after = rw c.as_slice.ensures at c.in_ok-add_all.ensures.added heads base told back fits.linked in (
      after.0,
      moved_same heads c.args.plan.now chain c.args.texts.now _ _ _ after.0 (sym c.touch_all.ensures.read.tables)
          (are_moved c.each_block_touches_what_the_move_touches.ensures heads c.args.plan.now chain c.args.texts.now c.args.touched.now c.take_back.new.touched c.touch_all.new.touched _ after.0 stand.stand.good c.requires.none
          (c.in_ok-take_back.ensures.touched heads chain told stand fits.within) after.1
          (λ s. c.in_ok-touch_all.ensures.touched base after.0 before s told (heads, after.1.stand) (heads, back) c.count-txs.ensures.count c.count-entries.ensures.count)),
    )

pub returns-clause-top : goal.returns-clause-top
returns-clause-top g c =
    ap (λ (T : Tables). length (T table.Blocks)) c.touch_all.ensures.read.tables
    ∙ c.in_ok-add_all.ensures.more ∙ ap₂ (λ (a b : ℕ). a + b) c.in_ok-take_back.ensures.fewer (ap length c.as_slice.ensures)

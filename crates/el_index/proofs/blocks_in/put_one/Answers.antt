use Rattle.std.proofs.Common.{◌⊎◌}
use Rattle.std.proofs.lemmas.Result.{err_from_is_err_and}
use Rattle.el_rows.specs.Transaction.{with_edits}
use Rattle.el_chain.specs.Moves.{IsStop}
use Rattle.el_chain.proofs.CoinSteps.{err_passed}
use Rattle.el_index.specs.within.Adding.{IsOwn}
use Rattle.el_index.proofs.Addings.{is_after, names_tip}
use Rattle.el_index.proofs.blocks_in.put_one.Goals as goal

pub connect_for-requires-clause-prepared : goal.connect_for-requires-clause-prepared
connect_for-requires-clause-prepared g c = let r = c.requires.prepared in (r.0, (c.args.text.now, r.1), r.2)

pub returns-in_err-connect_for-clause-first_fault : goal.returns-in_err-connect_for-clause-first_fault
returns-in_err-connect_for-clause-first_fault g c heads chain told stand names =
    let r = c.requires.prepared in
    let named = names_tip c.args.node.now c.args.text.now r.0 _ c.requires.node c.requires.of r.1 names in
    err_passed c.from_residual.result (λ e. IsOwn e ⊎ IsStop chain c.args.node.now.hash c.args.text.now e) c.in_err-connect_for.field-0.0
    (err_from_is_err_and c.from_residual.result c.from_residual.ensures.1)
    (c.in_err-connect_for.ensures.first_fault chain r.0 c.args.text.now told (heads, stand) r.1 r.2 named)

pub returns-clause-added : goal.returns-clause-added
returns-clause-added g c heads chain told stand names =
    let r = c.requires.prepared in
    let named = names_tip c.args.node.now c.args.text.now r.0 _ c.requires.node c.requires.of r.1 names in
    let done = c.in_ok-connect_for.ensures.connected heads chain r.0 told stand (c.args.text.now, r.1) r.2 named in
    is_after heads chain c.args.node.now c.args.text.now (with_edits {G = g.R.Rows} c.connect_for.new.t) r.0 c.requires.node c.requires.of r.1 named done

use Rattle.std.proofs.Common.{◌||◌, ◌∙◌, not, ap}
use Rattle.std.specs.List.{list_any}
use Rattle.el_chain.specs.Headers.{same_hash}
use Rattle.el_mempool.specs.Unconfirmed.{has_script}
use Rattle.el_mempool.specs.Standing.{is_coin_at}
use Rattle.el_sift.proofs.Exchanged.{any_and, exchanged}
use Rattle.el_sift.proofs.exchanging.touch_exchanged.Goals as goal

pub returns : goal.returns
returns c = λ s.
    exchanged (list_any (same_hash s) c.args.touched.now) (list_any (has_script s.0) c.args.outputs.now) (list_any (is_coin_at s.0) c.args.old.now) (list_any (is_coin_at s.0) c.args.new.now)
    (list_any (same_hash s) c.in_ok-before.before) (list_any (same_hash s) c.in_ok-after.after) (list_any (same_hash s) c.touch_rest.new.touched) (list_any (same_hash s) c.touch_rest-2.new.touched)
    (c.in_ok-before.ensures.each s) (c.in_ok-after.ensures.each s)
    (c.in_ok-touch_rest.ensures s ∙ ap (λ b. list_any (same_hash s) c.args.touched.now || b) (any_and (is_coin_at s.0) (not (list_any (same_hash s) c.in_ok-after.after)) c.args.old.now))
    (c.in_ok-touch_rest-2.ensures s ∙ ap (λ b. list_any (same_hash s) c.touch_rest.new.touched || b) (any_and (is_coin_at s.0) (not (list_any (same_hash s) c.in_ok-before.before)) c.args.new.now))

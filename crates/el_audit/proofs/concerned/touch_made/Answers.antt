use Rattle.std.proofs.Common.{arith, refl}
use Rattle.std.specs.List.{list_any}
use Rattle.el_chain.specs.declared.coin.Coin.{Coin}
use Rattle.el_chain.specs.Headers.{same_hash}
use Rattle.el_chain.proofs.TouchLemmas.{any_step, any_added}
use Rattle.el_audit.proofs.Walks.{any_ends}
use Rattle.el_audit.proofs.concerned.touch_made.Goals as goal

pub loop-coin-preserved : goal.loop-coin-preserved
loop-coin-preserved c = λ s. any_step (λ (x : Coin). same_hash s x.script) c.args.made.now c.loop-coin.coin-index _ _
    (list_any (same_hash s) c.loop-coin.touched) _ _ c.loop-coin-test.true refl
    (c.loop-coin.invariant s) (any_added s _ c.loop-coin.touched c.add.new.self c.in_ok-add.ensures.ok)

pub returns : goal.returns
returns c = λ s. any_ends (λ (x : Coin). same_hash s x.script) c.args.made.now c.loop-coin.coin-index _ _
    (let e = c.loop-coin-test.false in omega arith) (c.loop-coin.invariant s)

use Rattle.el_chain.specs.History.{funds, spends}
use Rattle.el_chain.specs.Touches.{replaces}
use Rattle.el_coins.proofs.TouchLemmas.{or_three}
use Rattle.el_coins.proofs.touching.touch_tx.Goals as goal

pub returns : goal.returns
returns c = λ coins h s. or_three _ (funds s.0 c.args.tx.now) (spends s.0 coins c.args.tx.now) (replaces s.0 coins c.args.tx.now) _ _ _
    (rw c.as_slice-outputs.ensures at (c.in_ok-touch_outputs.ensures s)) (c.in_ok-touch_taken.ensures coins h s) (rw (c.as_slice-outputs.ensures, c.in_ok-id.ensures) at (c.in_ok-touch_replaced.ensures coins h s))

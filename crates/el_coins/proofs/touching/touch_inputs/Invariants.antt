use Rattle.std.proofs.Common.{◌≡◌, ◌||◌, drop}
use Rattle.std.specs.List.{list_any}
use Rattle.el_tx.specs.declared.types.TxIn.{TxIn}
use Rattle.el_chain.specs.Headers.{same_hash}
use Rattle.el_chain.specs.History.{has_own}
use Rattle.el_coins.specs.Touching.{IfCoins}
use Rattle.el_coins.proofs.touching.touch_inputs.Given as goal

abbrev pub invariant-loop-input : goal.invariant-loop-input
invariant-loop-input l = IfCoins l.base (λ coins s. (list_any (same_hash s) l.touched || list_any (λ (i : TxIn). has_own s.0 coins i.from) (drop l.input-index l.inputs)) ≡ (list_any (same_hash s) l.initial.touched || list_any (λ (i : TxIn). has_own s.0 coins i.from) l.inputs))

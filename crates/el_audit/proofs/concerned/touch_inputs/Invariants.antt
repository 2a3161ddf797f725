use Rattle.std.proofs.Common.{◌≡◌, ◌||◌, drop}
use Rattle.std.specs.List.{list_any}
use Rattle.el_tx.specs.declared.types.TxIn.{TxIn}
use Rattle.el_chain.specs.Headers.{same_hash}
use Rattle.el_chain.specs.History.{has_own}
use Rattle.el_audit.specs.within.OwnCoins.{IfOwnOf}
use Rattle.el_audit.proofs.concerned.touch_inputs.Given as goal

abbrev pub invariant-loop-input : goal.invariant-loop-input
invariant-loop-input l = IfOwnOf l.own (λ coins s. (list_any (same_hash s) l.touched || list_any (λ (i : TxIn). has_own s.0 coins i.from) (drop l.input-index l.inputs)) ≡ (list_any (same_hash s) l.initial.touched || list_any (λ (i : TxIn). has_own s.0 coins i.from) l.inputs))

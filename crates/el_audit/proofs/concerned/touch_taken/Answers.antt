use Rattle.std.proofs.Common.{sym, ◌∙◌}
use Rattle.std.specs.List.{list_any}
use Rattle.el_tx.specs.declared.types.TxIn.{TxIn}
use Rattle.el_tx.specs.Hashing.{is_coinbase}
use Rattle.el_chain.specs.History.{has_own}
use Rattle.el_audit.proofs.Walks.{spent_now}
use Rattle.el_audit.proofs.concerned.touch_taken.Goals as goal

pub returns : goal.returns
returns c = λ is_named coins h s named. spent_now (is_coinbase c.args.tx.now) (list_any (λ (i : TxIn). has_own s.0 coins i.from) c.args.tx.now.inputs) _ _
    (sym c.is_coinbase.ensures.is ∙ c.if-is_coinbase.false) (rw c.as_slice.ensures at (c.in_ok-touch_inputs.ensures is_named coins h s named))

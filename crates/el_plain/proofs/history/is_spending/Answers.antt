use Rattle.std.proofs.Common.{sym}
use Rattle.el_plain.proofs.Histories.{spends_by}
use Rattle.el_plain.proofs.history.is_spending.Goals as goal

pub returns-then-not-is_coinbase : goal.returns-then-not-is_coinbase
returns-then-not-is_coinbase c = λ script_hash coins h.
    spends_by script_hash coins c.args.tx.now c.as_slice.result.now c.takes_own.result c.as_slice.ensures (sym c.if-not-is_coinbase.ensures.is)
    (c.takes_own.ensures script_hash coins h)

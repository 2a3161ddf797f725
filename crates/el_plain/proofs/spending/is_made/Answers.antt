use Rattle.std.proofs.Common.{◌∙◌, sym}
use Rattle.el_plain.proofs.Spenders.{made_then, made_apart}
use Rattle.el_plain.proofs.spending.is_made.Goals as goal

pub returns-then-eq : goal.returns-then-eq
returns-then-eq c = λ height. made_then c.args.txid height c.args.o.now c.args.outputs.now (sym c.eq.ensures ∙ c.if-eq.true)

pub returns-else-eq : goal.returns-else-eq
returns-else-eq c = λ height. c.if-eq.false ∙ sym (made_apart c.args.txid height 0 c.args.o.now c.args.outputs.now (sym c.eq.ensures ∙ c.if-eq.false))

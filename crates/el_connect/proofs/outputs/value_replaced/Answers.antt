use Rattle.std.proofs.Common.{◌≡◌, ℕ, false, not, Option, None, Some, is_some, IfOk, refl, sym, subst, ap, ◌∙◌}
use Rattle.el_tx.specs.declared.types.Outpoint.{Outpoint}
use Rattle.el_connect.proofs.CoinLemmas.{none_older, replaced_value}
use Rattle.el_connect.proofs.outputs.value_replaced.Goals as goal

none_of : (r : Option ℕ) → is_some r ≡ false → r ≡ None
none_of None e = refl
none_of (Some n) e = absurd cc

pub returns-then-is_none-clause-value : goal.returns-then-is_none-clause-value
returns-then-is_none-clause-value g c counts bs l told hold some is =
    let m = c.args.maker.now in
    let o : Outpoint = record { txid = m.txid; index = c.args.index } in
    let gone = none_of m.older (c.is_none.ensures ∙ ap not c.if-is_none.true) in
    none_older o m.number l (sym is.older ∙ gone) ∙ replaced_value m c.args.index l is

pub returns-clause-value : goal.returns-clause-value
returns-clause-value g c counts bs l told hold some is =
    subst (λ (n : ℕ). IfOk c.coin_held.result (λ value. value ≡ n)) (replaced_value c.args.maker.now c.args.index l is) (c.coin_held.ensures.value counts bs l told hold some)

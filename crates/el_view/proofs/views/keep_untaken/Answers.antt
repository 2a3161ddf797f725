use Rattle.std.proofs.Common.{◌∙◌, ap, not}
use Rattle.std.proofs.lemmas.Fn.{filter_same}
use Rattle.el_chain.specs.declared.coin.Coin.{Coin}
use Rattle.el_mempool.specs.Sift.{is_taken}
use Rattle.el_view.proofs.views.keep_untaken.Goals as goal

pub returns : goal.returns
returns c = λ chain kept stands. filter_same _ (λ (x : Coin). not (is_taken x.outpoint kept)) _
    (λ x b f called. (called.called.met.1 chain kept stands ∙ ap (λ (y : Coin). not (is_taken y.outpoint kept)) called.shows, ap (λ p. record { 0 = p }) called.called.met.0))
    _ _ c.retain.ensures.filtered

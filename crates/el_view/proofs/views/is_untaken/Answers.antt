use Rattle.std.proofs.Common.{◌∙◌, ap, not}
use Rattle.std.specs.Option.{is_some}
use Rattle.el_view.proofs.Untaken.{other_way}
use Rattle.el_mempool.proofs.Changes.{spender_taken}
use Rattle.el_view.proofs.views.is_untaken.Goals as goal

pub returns : goal.returns
returns c = λ chain kept stands.
    other_way _ _ c.is_none.ensures ∙ ap (λ r. not (is_some r)) (c.spender.ensures chain kept stands) ∙ ap not (spender_taken c.args.coin.now.outpoint kept)

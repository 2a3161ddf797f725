use Rattle.std.proofs.Common.{take, sym, ◌∙◌}
use Rattle.el_tables.specs.Lists.{output_number}
use Rattle.el_spend.proofs.Found.{coin_here, coin_gone_here, coin_nowhere}
use Rattle.el_spend.proofs.lookup.coin.Goals as goal

pub returns-in_default-clause-coin : goal.returns-in_default-clause-coin
returns-in_default-clause-coin g c counts bs l told hold some =
    coin_nowhere l.outs (output_number c.args.o.now (take c.args.below l.txs)) (sym c.in_default.is ∙ c.in_ok-found.ensures.named counts bs l told hold some)

pub returns-in-Unspent-clause-coin : goal.returns-in-Unspent-clause-coin
returns-in-Unspent-clause-coin g c counts bs l told hold some =
    let found = sym c.in-Some.is ∙ c.in_ok-found.ensures.named counts bs l told hold some in
    coin_here l.outs (output_number c.args.o.now (take c.args.below l.txs)) c.in-Some.found found c.in-Unspent.is

pub returns-in-Unspent-clause-fits : goal.returns-in-Unspent-clause-fits
returns-in-Unspent-clause-fits g c x is = c.in_ok-found.ensures.fits x (c.in-Some.is ∙ is)

pub returns-in_default-state-clause-coin : goal.returns-in_default-state-clause-coin
returns-in_default-state-clause-coin g c counts bs l told hold some =
    let found = sym c.in-Some.is ∙ c.in_ok-found.ensures.named counts bs l told hold some in
    coin_gone_here l.outs (output_number c.args.o.now (take c.args.below l.txs)) c.in-Some.found found c.in_default-state.not-Unspent

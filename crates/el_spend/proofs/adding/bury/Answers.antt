use Rattle.std.proofs.Common.{Option, OnOk, option_map, refl, subst, sym}
use Rattle.el_rows.specs.Transaction.{with_edits}
use Rattle.el_tables.specs.Edits.{buried}
use Rattle.el_tables.specs.Lists.State.{Buried}
use Rattle.el_schema.specs.Rows.{Encode}
use Rattle.el_spend.specs.declared.lookup.NamedOutput.{NamedOutput}
use Rattle.el_spend.proofs.adding.bury.Goals as goal

pub take_coin-requires-clause-fits : goal.take_coin-requires-clause-fits
take_coin-requires-clause-fits g c = c.requires.fits c.in-Some.coin c.in-Some.is

pub returns-in-Some-clause-buried : goal.returns-in-Some-clause-buried
returns-in-Some-clause-buried g c tb told same is =
    subst (λ (f : Option NamedOutput). OnOk c.take_coin.result (Encode (with_edits {G = g.R.Rows} c.take_coin.new.t) (buried c.args.tx (option_map (λ (x : NamedOutput). x.number) f) tb)))
    (sym c.in-Some.is) (c.take_coin.ensures.taken tb (Buried c.args.tx) told same (is c.in-Some.coin c.in-Some.is) refl)

use Rattle.std.proofs.Common.{refl}
use Rattle.el_core.proofs.Arriving.{new_stands}
use Rattle.el_core.proofs.server.Server.new.Goals as goal

pub returns-clause-stands : goal.returns-clause-stands
returns-clause-stands g c = λ sure relays chain files stood kept none_kept no_fees desk_is.
    new_stands g.G.Ledger.stands _ sure relays chain c.args.holdings.magic c.args.holdings.tree files stood kept refl refl c.none.ensures none_kept no_fees c.new-2.ensures refl refl refl desk_is c.new.ensures.limit c.new.ensures.at

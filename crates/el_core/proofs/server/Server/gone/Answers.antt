use Rattle.el_core.proofs.Sessions.{gone_stands}
use Rattle.el_core.proofs.Measured.{gone_work}
use Rattle.el_core.proofs.Numbers.{up_to_gone}
use Rattle.el_core.proofs.server.Server.gone.Goals as goal

pub returns-clause-stands : goal.returns-clause-stands
returns-clause-stands g c = λ unused world rest stood. rw c.forget.ensures (gone_stands g.G.Ledger.stands c.args.self.now world c.args.p rest unused stood)

pub returns-clause-no_more : goal.returns-clause-no_more
returns-clause-no_more g c = rw c.forget.ensures (gone_work c.args.self.now c.args.p)

pub returns-clause-numbers : goal.returns-clause-numbers
returns-clause-numbers g c = λ last up. rw c.forget.ensures (up_to_gone last c.args.p c.args.self.now.clients up)

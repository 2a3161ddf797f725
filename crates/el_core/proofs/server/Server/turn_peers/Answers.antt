use Rattle.std.proofs.Common.{sym, ap, ◌∙◌, refl}
use Rattle.el_core.specs.State.{State, asking_of, lent}
use Rattle.el_core.specs.within.Clients.{passing, closes}
use Rattle.el_replies.specs.Spending.{asked_ghosts}
use Rattle.el_side.specs.Beneath.{ghosts}
use Rattle.el_core.proofs.Losing.{idly}
use Rattle.el_core.proofs.Measured.{peers_of}
use Rattle.el_core.proofs.server.Server.turn_peers.Goals as goal
use Rattle.std.proofs.Common.{inl}
use Rattle.el_core.specs.within.RowBounds.{SpeakerReads}
use Rattle.el_core.proofs.LineRows.{none_within}

pub returns-in-Some-clause-peers : goal.returns-in-Some-clause-peers
returns-in-Some-clause-peers g c = λ side at.
    closes c.in-Some.p c.closing.result (sym c.take_surplus.ensures.value ∙ c.in-Some.is) refl c.closing.ensures c.take_surplus.ensures.after
    (idly (asked_ghosts (ghosts g.G.Ledger g.A.Archive) g.Y.Relay) c.args.self.now.ledger _ c.args.archive.now c.args.relay.now c.args.self.now.desk _ (ap (λ (s : State g.row.G.Denot). s.ledger) c.take_surplus.ensures.after)
    (ap (λ (s : State g.row.G.Denot). s.desk) c.take_surplus.ensures.after))

pub returns-in-None-clause-peers : goal.returns-in-None-clause-peers
returns-in-None-clause-peers g c = λ side at.
    peers_of g.A.Archive.tells side (λ s. passing (asked_ghosts (ghosts g.G.Ledger g.A.Archive) g.Y.Relay) (asking_of (lent s c.args.archive.now c.args.relay.now)) (asking_of (lent c.turn_client.new.self c.turn_client.new.archive c.turn_client.new.relay))) c.args.self.now c.take_surplus.new.self c.turn_client.new.self c.turn_client.result (sym c.take_surplus.ensures.value ∙ c.in-None.is)
    c.take_surplus.ensures.after (c.turn_client.ensures.speaker_steps side (rw c.take_surplus.ensures.after at))

pub returns-in-None-clause-numbers : goal.returns-in-None-clause-numbers
returns-in-None-clause-numbers g c = λ last up. c.turn_client.ensures.numbers last (rw c.take_surplus.ensures.after up)

pub returns-in-Some-clause-rows : goal.returns-in-Some-clause-rows
returns-in-Some-clause-rows g c = λ chain stood cached.
    none_within (SpeakerReads chain _ c.args.self.now.speaker c.args.self.now.clients) _ _ (inl refl) (ap (λ (s : State g.row.G.Denot). g.G.Ledger.reads s.ledger) c.take_surplus.ensures.after)

pub returns-in-None-clause-rows : goal.returns-in-None-clause-rows
returns-in-None-clause-rows g c = λ chain stood cached. (rw c.take_surplus.ensures.after at c.turn_client.ensures.rows) chain stood cached

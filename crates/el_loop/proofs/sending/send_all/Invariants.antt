use Rattle.std.proofs.Common.{◌≡◌, ◌≤◌, ℕ, List, take, Option}
use Rattle.el_outside.specs.Trace.{Closing}
use Rattle.el_world.specs.World.{World, Event}
use Rattle.el_core.specs.State.{AreUpTo, work}
use Rattle.el_core.specs.Turn.{messages_of}
use Rattle.el_loop.specs.within.Sending.{CanSend, SentAll}
use Rattle.el_loop.proofs.sending.send_all.Given as goal

abbrev pub invariant-loop-p : goal.invariant-loop-p
invariant-loop-p g l = record {
  sent : (next : World) (rest : List Event) (closing : Option Closing)
      → CanSend g.G.Ledger.stands g.K.Link.tells l.initial.server next rest (g.K.Link.trace l.initial.link)
      closing (messages_of l.sends)
      → SentAll g.G.Ledger.stands g.K.Link.tells next rest closing (messages_of (take l.p-index l.sends)) l.lost
      l.initial.server (g.K.Link.trace l.initial.link) (g.K.Link.faults l.initial.link) l.server
      (g.K.Link.trace l.link) (g.K.Link.faults l.link);
  same_ledger : l.server.ledger ≡ l.initial.server.ledger;
  no_more : work l.server ≤ work l.initial.server;
  numbers : (last : ℕ) → AreUpTo last l.initial.server.clients → AreUpTo last l.server.clients;
  same_calls : g.K.Link.calls l.link ≡ g.K.Link.calls l.initial.link;
  same_last : g.K.Link.last l.link ≡ g.K.Link.last l.initial.link;
  more : g.K.Link.faults l.initial.link ≤ g.K.Link.faults l.link;
}

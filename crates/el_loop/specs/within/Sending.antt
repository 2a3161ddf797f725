-- What became of the messages of a turn.
use Rattle.std.specs.Prelude.{◌≡◌, ◌≢◌, ◌≤◌, ◌⊎◌, ℕ, true, false, Result, IsErrOf, List, [], ◌∷◌, ◌++◌, IsTrue, Option, None, Some}
use Rattle.std.specs.List.{AllByRecursion}
use Rattle.el_outside.specs.Counts.{RoseBy}
use Rattle.el_outside.specs.Trace.{Trace, Message, Closing, GoesOn, is_open}
use Rattle.el_outside.specs.declared.link.Why.{Why}
use Rattle.el_outside.specs.declared.link.Why.TheVariants as why
use Rattle.el_outside.specs.declared.link.SendFault.{SendFault}
use Rattle.el_outside.specs.declared.link.SendFault.TheVariants as fault
use Rattle.el_chain.specs.Chains.{Chain}
use Rattle.el_world.specs.World.{World, Session, Event, is_client, without_client}
use Rattle.el_side.specs.Deeds.{Deed, failures, link}
use Rattle.el_world.specs.Run.{Stop, by_disk, by_link, by_memory, lost_by, LostBy, IsDeparture, Delivers, to_others, unless_of, IsClosingOf}
use Rattle.el_core.specs.State.{State, Stands}
use Rattle.el_core.specs.Turn.{GoesTo}
use Rattle.el_loop.specs.Counts.{HasRisen}
use Rattle.el_loop.specs.declared.halt.Halt.{Halt}
use Rattle.el_loop.specs.declared.halt.Halt.TheVariants as halt
use Rattle.el_loop.specs.declared.end.End.{End}
use Rattle.el_loop.specs.declared.end.End.TheVariants as end

-- how the run stops where sending halts for this cause
abbrev pub halt_stop : Halt → Stop
halt_stop halt.Disk = by_disk
halt_stop halt.Link = by_link
halt_stop halt.Memory = by_memory

-- how the run then ends
abbrev pub end_of : Halt → End
end_of halt.Disk = end.DiskFailed
end_of halt.Link = end.LinkFailed
end_of halt.Memory = end.OutOfMemory

-- what it means that a message wasn't sent, for a client and for the node
abbrev pub LossOf : SendFault → Why → Halt → Type 0
LossOf fault.Gone reason stop = (reason ≡ why.Gone) × (stop ≡ halt.Link)
LossOf fault.Memory reason stop = (reason ≡ why.Memory) × (stop ≡ halt.Memory)

-- A count of failed calls never falls, and it rose where the run stops for that.
pub record RisesFor {T : Type 0} (before after : ℕ) (stop : Halt) (result : Result T Halt) : Type 0 where
  pub more : before ≤ after
  pub rose : IsErrOf result stop → HasRisen before after

-- The server forgot a client, with all that is left of its bytes.
pub record Forgets {G : Type 0} (stands : G → Chain → Type 0) (s : State G) (p : ℕ)
    (next : State G) : Type 0 where
  pub ledger : next.ledger ≡ s.ledger
  pub surplus : next.surplus ≡ s.surplus
  pub stood : s.surplus ≡ None → (world : World) (rest : List Event) → Stands stands s world rest
      → Stands stands next (without_client p world) rest

-- A message was sent; or its client is lost: it was closed, as gone where the link counted that.
pub data Sent {G : Type 0} (stands : G → Chain → Type 0) (tells : Type 0) (m : Message) (lost : Option ℕ)
    (s : State G) (before : Trace) (low : ℕ) (next : State G) (after : Trace) (high : ℕ) : Type 0 where
  sent : lost ≡ None → next ≡ s → high ≡ low → (tells → GoesOn before after [] (m ∷ []) [])
      → Sent stands tells m lost s before low next after high
  loses : (reason : Why) → lost ≡ Some m.peer → m.peer ≢ 0 → IsDeparture reason → Forgets stands s m.peer next
      → RoseBy low high (failures link (lost_by reason))
      → (tells → IsTrue (is_open before m.peer)
      → GoesOn before after [] [] (record { peer = m.peer; why = reason } ∷ []))
      → Sent stands tells m lost s before low next after high

-- A message to the node wasn't sent.
pub record Unsent {G : Type 0} (tells : Type 0) (p : ℕ) (stop : Stop) (s : State G) (before : Trace) (low : ℕ)
    (next : State G) (after : Trace) (high : ℕ) : Type 0 where
  pub node : p ≡ 0
  pub losses : List Deed
  pub lost : LostBy stop losses
  pub rose : RoseBy low high (failures link losses)
  pub same : next ≡ s
  pub trace : tells → after ≡ before

-- the clients of these sessions are open
abbrev pub AllOpen : Trace → List Session → Type 0
AllOpen trace sessions = AllByRecursion (λ (x : Session). IsTrue (is_open trace x.peer)) sessions

-- the one to close is open
abbrev pub OpenToClose : Trace → Option Closing → Type 0
OpenToClose trace None = Unit {0}
OpenToClose trace (Some c) = IsTrue (is_open trace c.peer)

-- the client to close is open, and none of the world
abbrev pub CanClose : World → Trace → Option Closing → Type 0
CanClose next trace None = Unit {0}
CanClose next trace (Some c) = IsTrue (is_open trace c.peer) × (is_client c.peer next ≡ false)

-- The messages go to the node, to a client, or to one that is closed then, and to one of them alone; the
-- clients are open, and so is the one to close.
pub record CanSend {G : Type 0} (stands : G → Chain → Type 0) (tells : Type 0) (s : State G) (next : World)
    (rest : List Event) (trace : Trace) (closing : Option Closing) (messages : List Message) : Type 0 where
  pub stood : Stands stands s next rest
  pub sends_to : AllByRecursion (GoesTo next s.surplus closing) messages
  pub one_peer : ℕ
  pub to_one : AllByRecursion (λ (m : Message). m.peer ≡ one_peer) messages
  pub are_open : tells → AllOpen trace next.sessions
  pub can_close : tells → CanClose next trace closing

-- Of these messages, which go to one peer, all were sent; or that is a client, or the one to close, which is
-- lost, and what stood after that wasn't.
pub data Delivering (world : World) (messages : List Message) (closing : Option Closing)
    (sent : List Message) (closings : List Closing) (losses : List Deed) (next : World)
    : Option ℕ → Type 0 where
  whole : sent ≡ messages → closings ≡ [] → losses ≡ [] → next ≡ world
      → Delivering world messages closing sent closings losses next None
  broken : (front : List Message) (m : Message) (more : List Message) (reason : Why)
      → messages ≡ front ++ m ∷ more → (is_client m.peer world ≡ true) ⊎ IsClosingOf closing m.peer
      → IsDeparture reason
      → sent ≡ front ++ to_others m.peer more → closings ≡ record { peer = m.peer; why = reason } ∷ []
      → losses ≡ lost_by reason → next ≡ without_client m.peer world
      → Delivering world messages closing sent closings losses next (Some m.peer)

-- They were sent so, before the closing of the turn.
pub record SentAll {G : Type 0} (stands : G → Chain → Type 0) (tells : Type 0) (world : World)
    (rest : List Event) (closing : Option Closing)
    (messages : List Message) (lost : Option ℕ) (s : State G) (before : Trace) (low : ℕ) (now : State G)
    (after : Trace) (high : ℕ) : Type 0 where
  pub sent : List Message
  pub closings : List Closing
  pub losses : List Deed
  pub next : World
  pub delivers : Delivering world messages closing sent closings losses next lost
  pub to_close : lost ≡ None → tells → OpenToClose after closing
  pub stood : Stands stands now next rest
  pub ledger : now.ledger ≡ s.ledger
  pub surplus : now.surplus ≡ s.surplus
  pub trace : tells → GoesOn before after [] sent closings
  pub are_open : tells → AllOpen after next.sessions
  pub rose : RoseBy low high (failures link losses)

-- A message to the node wasn't sent, after those before it.
pub record StoppedSending {G : Type 0} (tells : Type 0) (world : World) (messages : List Message)
    (stop : Stop)
    (s : State G) (before : Trace) (low : ℕ) (now : State G) (after : Trace) (high : ℕ) : Type 0 where
  pub front : List Message
  pub m : Message
  pub more : List Message
  pub whole : messages ≡ front ++ m ∷ more
  pub node : m.peer ≡ 0
  pub sent : List Message
  pub closings : List Closing
  pub losses : List Deed
  pub last : List Deed
  pub next : World
  pub delivers : Delivers world front None sent closings losses next
  pub lost : LostBy stop last
  pub ledger : now.ledger ≡ s.ledger
  pub trace : tells → GoesOn before after [] sent closings
  pub rose : RoseBy low high (failures link (losses ++ last))

-- the first of two, if it is there, else the other
abbrev pub first_some : Option ℕ → Option ℕ → Option ℕ
first_some None other = other
first_some (Some p) other = Some p

-- the closing, unless it is of a client that is lost
abbrev pub closing_left : Option ℕ → Option Closing → Option Closing
closing_left None closing = closing
closing_left (Some p) closing = unless_of p closing

-- the trace goes on by the closing, if there is one and its peer is open
abbrev pub Closes : Option Closing → Trace → Trace → Type 0
Closes None before after = after ≡ before
Closes (Some c) before after = IsTrue (is_open before c.peer) → GoesOn before after [] [] (c ∷ [])

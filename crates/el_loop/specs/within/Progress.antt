-- What the server has done of an arrival's events, and what went over the link meanwhile.
use Rattle.std.specs.Prelude.{◌≡◌, ◌≤◌, ◌==◌, ℕ, false, List, [], ◌++◌, length, IsTrue, Option, None, Some, Bool, if◌then◌else◌}
use Rattle.el_outside.specs.declared.link.Link as link
use Rattle.el_outside.specs.declared.relay.Relay as relays
use Rattle.el_replies.specs.Spending.{AskedGhosts, asked_ghosts}
use Rattle.el_outside.specs.Counts.{RoseBy}
use Rattle.el_side.specs.Deeds as device
use Rattle.el_side.specs.Deeds.{Device, Deed, failures, Faults, Rose, Offered}
use Rattle.el_outside.specs.Files.{AllGrow}
use Rattle.el_outside.specs.Trace.{Trace, ArrivalWithBytes, Message, Closing, GoesOn, is_open}
use Rattle.el_chain.specs.Chains.{Chain}
use Rattle.el_side.specs.Beneath.{Ghosts, beneath, failed_beneath}
use Rattle.el_side.specs.Side.{IsSure}
use Rattle.el_world.specs.World.{World, Event, is_client, without_node, IsStill, AllTold, Outs}
use Rattle.el_world.specs.Run.{Stop, Turns, Stops, files_at, StopsIn, files_left, Delivers, Run}
use Rattle.el_world.specs.Flights.{acked, FliesAt, Flies}
use Rattle.el_core.specs.State.{State, Stands}
use Rattle.el_loop.specs.Runs.{NoneEnds, taken, StatusesAreTold}
use Rattle.el_loop.specs.within.Sending.{AllOpen, CanSend}

-- the clients of the world, and the one too many, are open
pub record ClientsAreOpen {G : Type 0} (s : State G) (world : World) (trace : Trace) : Type 0 where
  pub sessions : AllOpen trace world.sessions
  pub surplus : (p : ℕ) → s.surplus ≡ Some p → IsTrue (is_open trace p) × (is_client p world ≡ false)

-- this peer is not the one to close
abbrev pub IsNotClosed : ℕ → Option Closing → Type 0
IsNotClosed p None = Unit {0}
IsNotClosed p (Some c) = (p == c.peer) ≡ false

-- What a turn gave can be sent and closed.
abbrev pub CanDeliver : {G : Type 0} → (G → Chain → Type 0) → Type 0 → State G → World → List Event → Outs
    → Trace → Type 0
CanDeliver stands tells s next rest outs trace =
    CanSend stands tells s next rest trace outs.closing outs.messages

-- It was sent and closed, as far as no client was lost.
pub record Delivered {G : Type 0} (stands : G → Chain → Type 0) (tells : Type 0) (world : World)
    (rest : List Event) (outs : Outs) (s : State G) (before : Trace) (low : ℕ) (now : State G) (after : Trace)
    (high : ℕ) : Type 0 where
  pub sent : List Message
  pub closings : List Closing
  pub losses : List Deed
  pub next : World
  pub delivers : Delivers world outs.messages outs.closing sent closings losses next
  pub stood : Stands stands now next rest
  pub ledger : now.ledger ≡ s.ledger
  pub surplus : now.surplus ≡ s.surplus
  pub files : next.side.files ≡ world.side.files
  pub trace : tells → GoesOn before after [] sent closings
  pub are_open : tells → AllOpen after next.sessions
  pub others : (q : ℕ) → tells → IsNotClosed q outs.closing → IsTrue (is_open before q)
      → is_client q world ≡ false → IsTrue (is_open after q) × (is_client q next ≡ false)
  pub rose : RoseBy low high (failures device.link losses)

-- what the types of the ledger, of the block files, of the relay and of the link tell of them
pub record AllGhosts (G A Y K : Type 0) : Type 1 where
  pub beneath : Ghosts G A
  pub relay : relays.Ghosts Y
  pub link : link.Ghosts K

-- what is told of ledger and block files, of the relay and of the link, as one
abbrev pub all_ghosts : {G A Y K : Type 0} → Ghosts G A → relays.Ghosts Y → link.Ghosts K → AllGhosts G A Y K
all_ghosts of of_relay of_link = record { beneath = of; relay = of_relay; link = of_link }

-- what a turn is told of
abbrev pub asked_of : {G A Y K : Type 0} → AllGhosts G A Y K → AskedGhosts G A Y
asked_of of = asked_ghosts of.beneath of.relay

-- the server, the block files, the relay and the link between two calls
pub record Snapshot (G A Y K : Type 0) : Type 0 where
  pub server : State G
  pub files : A
  pub relay : Y
  pub link : K

-- the server, the block files, the relay and the link of one moment, as one value
abbrev pub snapshot : {G A Y K : Type 0} → State G → A → Y → K → Snapshot G A Y K
snapshot server files relay link = record { server = server; files = files; relay = relay; link = link }

-- an arrival as it is taken, with a node or without one
abbrev pub taken_one : Bool → ArrivalWithBytes → ArrivalWithBytes
taken_one node a = if node then a else without_node a

-- So many calls of `next` were made so far, and no count of failed calls fell.
pub record CountedSoFar (calls calls_before calls_after : ℕ) (before after : Faults) : Type 0 where
  pub called : RoseBy calls_before calls_after calls
  pub more : (device : Device) → before device ≤ after device

module _ {G A Y K : Type 0} (of : AllGhosts G A Y K) where
  -- how often calls of the devices have failed
  abbrev pub failed : Snapshot G A Y K → Faults
  failed now =
      failed_beneath of.beneath (of.link.faults now.link) (of.relay.faults now.relay)
      (beneath now.server.ledger now.files)

  -- The world's clients are open, and the block files have what the world has of them.
  pub record IsReady (world : World) (now : Snapshot G A Y K) : Type 0 where
    pub are_open : of.link.tells → ClientsAreOpen now.server world (of.link.trace now.link)
    pub grown : of.beneath.files.tells → AllGrow world.side.files (of.beneath.files.bytes now.files)

  -- This went over the link meanwhile, each failed call is one of these losses, and the relay was offered
  -- what they say.
  pub record WentOn (before now : Snapshot G A Y K) (arrivals : List ArrivalWithBytes)
      (messages : List Message)
      (closings : List Closing) (losses : List Deed) : Type 0 where
    pub trace : of.link.tells
        → GoesOn (of.link.trace before.link) (of.link.trace now.link) arrivals messages closings
    pub rose : Rose (failed before) (failed now) losses
    pub offered : Offered of.relay before.relay now.relay losses

  -- Of these events some are done, and the others are left.
  pub record Progress (first : World) (all : List Event) (before now : Snapshot G A Y K) : Type 0 where
    pub done : List Event
    pub left : List Event
    pub messages : List Message
    pub closings : List Closing
    pub losses : List Deed
    pub world : World
    pub whole : all ≡ done ++ left
    pub turns : Turns of.beneath.files first done messages closings losses world
    pub stood : Stands of.beneath.ledger.stands now.server world left
    pub went : WentOn before now [] messages closings losses
    pub ready : IsReady world now

  -- All of these events are done, and the node's last line leaves nothing to do and nobody to be told.
  pub record Finished (first : World) (all : List Event) (before now : Snapshot G A Y K) : Type 0 where
    pub messages : List Message
    pub closings : List Closing
    pub losses : List Deed
    pub world : World
    pub turns : Turns of.beneath.files first all messages closings losses world
    pub still : IsStill world
    pub told : AllTold world
    pub statuses : IsSure first.side → StatusesAreTold world
    pub stood : Stands of.beneath.ledger.stands now.server world []
    pub went : WentOn before now [] messages closings losses
    pub ready : IsReady world now

  -- The run stops among the turns for these events. `leaves` says of two chains that what a crash leaves
  -- stands for the one or for the other.
  pub record Stopped (leaves : Chain → Chain → Type 0) (first : World) (all : List Event) (stop : Stop)
      (before now : Snapshot G A Y K) : Type 0 where
    pub done : List Event
    pub left : List Event
    pub whole : all ≡ done ++ left
    pub messages : List Message
    pub closings : List Closing
    pub losses : List Deed
    pub world : World
    pub turns : Turns of.beneath.files first done messages closings losses world
    pub sent : List Message
    pub closed : List Closing
    pub lost : List Deed
    pub stops : Stops of.beneath.files world left stop sent closed lost
    pub grown : of.beneath.files.tells → AllGrow (files_at stops) (of.beneath.files.bytes now.files)
    pub went : WentOn before now [] (messages ++ sent) (closings ++ closed) (losses ++ lost)
    pub flight : Chain
    pub is_flight : FliesAt stops (of.beneath.files.bytes now.files) flight
    pub crash : IsSure first.side → leaves world.side.chain flight

  -- The run stops in this arrival.
  pub record StoppedIn (leaves : Chain → Chain → Type 0) (world : World) (arrival : ArrivalWithBytes)
      (stop : Stop) (before now : Snapshot G A Y K) : Type 0 where
    pub messages : List Message
    pub closings : List Closing
    pub losses : List Deed
    pub stops : StopsIn of.beneath.files world arrival stop messages closings losses
    pub grown : of.beneath.files.tells → AllGrow (files_left stops) (of.beneath.files.bytes now.files)
    pub went : WentOn before now [] messages closings losses
    pub flight : Chain
    pub is_flight : Flies stops (of.beneath.files.bytes now.files) flight
    pub crash : IsSure world.side → leaves (acked stops) flight

  -- The arrivals so far, none of which ended the run: as many as `next` was called.
  pub record Going (first : World) (node : Bool) (count : ℕ) (before now : Snapshot G A Y K) : Type 0 where
    pub arrivals : List ArrivalWithBytes
    pub messages : List Message
    pub closings : List Closing
    pub losses : List Deed
    pub world : World
    pub run : Run of.beneath.files first (taken node arrivals) messages closings losses world
    pub told : AllTold world
    pub statuses : IsSure first.side → StatusesAreTold world
    pub stood : Stands of.beneath.ledger.stands now.server world []
    pub none_ends : NoneEnds arrivals
    pub counted : length arrivals ≡ count
    pub went : WentOn before now arrivals messages closings losses
    pub calls : RoseBy (of.link.calls before.link) (of.link.calls now.link) (length arrivals)
    pub ready : IsReady world now

-- One turn of the server.
use Rattle.std.specs.Prelude.{◌≡◌, ◌⊎◌, ℕ, Bool, true, List, [], ◌∷◌, ◌++◌, map, Option, Some, None, option_map, Result, Ok, Contains}
use Rattle.std.specs.List.{AllByRecursion}
use Rattle.el_outside.specs.declared.archive.Archive as archive
use Rattle.el_side.specs.Deeds.{Deed}
use Rattle.el_outside.specs.Files.{AllGrow}
use Rattle.el_outside.specs.Trace.{Message, Closing}
use Rattle.el_outside.specs.declared.link.Why.{Why}
use Rattle.el_chain.specs.Chains.{Chain}
use Rattle.el_model.specs.LedgerCalls.{Moved}
use Rattle.el_lines.specs.Lines.{line}
use Rattle.el_side.specs.Beneath.{Beneath, Ghosts, Lost}
use Rattle.el_replies.specs.Spending.{AskedGhosts, Did}
use Rattle.el_side.specs.Side.{IsSure}
use Rattle.el_subs.specs.Told as status_told
use Rattle.el_subs.specs.Told.{status}
use Rattle.el_world.specs.Flights.{IsMoveOf}
use Rattle.el_world.specs.World as model
use Rattle.el_world.specs.World.{World, Session, Event, says, is_client, IsStill, AllTold, next_told, closes_long}
use Rattle.el_world.specs.Run.{Turns, OneTurn, IsClosingOf, Stop, by_disk, by_memory, Stops, disk_failed, sift_failed, no_memory, untold, unsent}
use Rattle.el_core.specs.State.{State, ClientState, Lent, Stands, asking_of}
use Rattle.el_model.specs.declared.fault.QueryFault.{QueryFault}
use Rattle.el_model.specs.declared.fault.QueryFault.TheVariants as fault
use Rattle.el_sync.specs.Steps.{StopsAt}
use Rattle.el_core.specs.declared.out.Outs.{Outs}

-- the messages that are sent
abbrev pub messages_of : List (ℕ × List ℕ) → List Message
messages_of sends = map (λ (s : ℕ × List ℕ). record { peer = s.0; text = s.1 }) sends

-- whom is closed, and why
abbrev pub closing_of : Option (ℕ × Why) → Option Closing
closing_of close = option_map (λ (c : ℕ × Why). record { peer = c.0; why = c.1 }) close

-- what is sent and closed
abbrev pub outs_of : Outs → model.Outs
outs_of o = record { messages = messages_of o.sends; closing = closing_of o.close }

-- bytes of this client were lost where memory ran out
abbrev pub HasLost : ℕ → List ClientState → Type 0
HasLost p clients = (c : ClientState) × Contains clients c × (c.peer ≡ p) × (c.lost ≡ true)

-- the next event is a whole line of this client, which isn't too long
pub record MeetsLine (p : ℕ) (left : List Event) : Type 0 where
  pub bytes : List ℕ
  pub rest : List Event
  pub is : left ≡ says p (line bytes) ∷ rest

-- the client is the next to be told of the node's last line
abbrev pub WaitsToBeTold : ℕ → World → Type 0
WaitsToBeTold p world = (session : Session) × (next_told world ≡ Some session) × (session.peer ≡ p)

-- the turn closes this client for a line that is too long, and does no more
abbrev pub ClosesLong : ℕ → Result (Option Outs) QueryFault → Type 0
ClosesLong p result = (o : Outs) × (result ≡ Ok (Some o)) × (outs_of o ≡ closes_long p)

-- a message goes to the node, or to a client, which may be closed then, that no client too many waits beside
abbrev pub GoesTo : World → Option ℕ → Option Closing → Message → Type 0
GoesTo next surplus closing m =
    (m.peer ≡ 0) ⊎ (((is_client m.peer next ≡ true) ⊎ IsClosingOf closing m.peer) × (surplus ≡ None))

-- The server made one turn, and stands for what the turn left.
pub record TookTurn {G A Y : Type 0} (of : AskedGhosts G A Y) (was now : Lent G A Y) (world : World)
    (left : List Event) (outs : model.Outs) : Type 0 where
  pub done : List Event
  pub rest : List Event
  pub losses : List Deed
  pub next : World
  pub whole : left ≡ done ++ rest
  pub turn : OneTurn of.beneath.files world done outs losses next
  pub stood : Stands of.beneath.ledger.stands now.server next rest
  pub moved : IsSure world.side
      → Moved of.beneath.ledger was.server.ledger now.server.ledger world.side.chain next.side.chain
  pub told : of.beneath.files.tells → AllGrow next.side.files (of.beneath.files.bytes now.files)
  pub sends_to : AllByRecursion (GoesTo next now.server.surplus outs.closing) outs.messages
  pub did : Did of (asking_of was) (asking_of now) losses

-- No event is left, but perhaps lines of a client that is closed, which have no effect. Everyone was told of
-- the node's last line, and of each subscription the status that was told last is its status, where the side
-- is sure.
pub record IsDone {G A : Type 0} (stands : G → Chain → Type 0) (of_files : archive.Ghosts A) (world : World)
    (left : List Event) (s : State G) : Type 0 where
  pub turns : Turns of_files world left [] [] [] world
  pub still : IsStill world
  pub told : AllTold world
  pub statuses : IsSure world.side → AllByRecursion (λ (x : Session).
      status_told.AllTold (status world.side.chain world.side.kept) x.client.subs) world.sessions
  pub stood : Stands stands s world []

-- the stop that a fault of a turn is
abbrev pub turn_stop : QueryFault → Stop
turn_stop fault.DiskFailed = by_disk
turn_stop fault.Memory = by_memory

-- it stops in the turn itself, and not in sending what that gave
abbrev pub IsWithin : {A : Type 0} {of_files : archive.Ghosts A} {world : World} {left : List Event}
    {stop : Stop} {sent : List Message} {closings : List Closing} {losses : List Deed}
    → Stops of_files world left stop sent closings losses → Type 0
IsWithin (disk_failed by nodes silent closed lost) = Unit {0}
IsWithin (sift_failed by busy silent closed lost) = Unit {0}
IsWithin (no_memory by nodes silent closed lost) = Unit {0}
IsWithin (untold by busy silent closed lost) = Unit {0}
IsWithin (unsent done rest outs failed after front back m lost last next whole turn cut node delivers by z) =
    ⊥

-- The block files had failed in it, so that no move was made.
abbrev pub KeepsChain : {A : Type 0} {of_files : archive.Ghosts A} {world : World} {left : List Event}
    {stop : Stop} {sent : List Message} {closings : List Closing} {losses : List Deed}
    → Stops of_files world left stop sent closings losses → Type 0
KeepsChain (disk_failed by nodes silent closed lost) = ⊥
KeepsChain (sift_failed by busy silent closed lost) = Unit {0}
KeepsChain (no_memory by nodes silent closed lost) = ⊥
KeepsChain (untold by busy silent closed lost) = Unit {0}
KeepsChain (unsent done rest outs failed after front back m lost last next whole turn cut node goes by z) =
    ⊥

-- A turn failed, and with it the server stops. The ledger is still live where no memory was found; `later` is
-- whether the turn was to make a later move of a tip line. Where the side is sure, so is what the ledger
-- stands for then.
pub record TurnFailed {G A : Type 0} (of : Ghosts G A) (was now : Beneath G A) (world : World)
    (left : List Event) (e : QueryFault) : Type 0 where
  pub losses : List Deed
  pub stops : Stops of.files world left (turn_stop e) [] [] losses
  pub within : IsWithin stops
  pub rose : Lost of was now losses
  pub later : Bool
  pub stops_at : IsSure world.side → StopsAt of was now world.side.chain later (IsMoveOf world left) e
  pub kept : KeepsChain stops → (sure : IsSure world.side) → (stops_at sure).next ≡ world.side.chain
  pub live : e ≡ fault.Memory → of.ledger.is_live now.ledger

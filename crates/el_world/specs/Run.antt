-- A whole run: which messages may be sent and which clients closed, in which order, for a list of arrivals.
-- A failed call of the link closes a client as gone, or stops the run; one of the block files is answered to
-- the node or to a client; one of the index's device is answered to a client, closes one that was to be told,
-- or stops the run. Where no memory is found for the reply to a client, it is closed for that. The room for
-- an error to a client, or for an answer to the node, is there before a device is asked, but in two cases. A
-- batch of which an element was told of a failure may find no memory later: its client is closed. The sift
-- after a later move, for which the block files failed, may find none: the run stops.
use Rattle.std.specs.Prelude.{◌≡◌, ◌⊎◌, ℕ, ◌==◌, List, [], ◌∷◌, ◌++◌, filter, true, not, if◌then◌else◌, Option, Some, None}
use Rattle.std.specs.Option.{option_to_list}
use Rattle.el_side.specs.Deeds as deed
use Rattle.el_side.specs.Deeds.{Deed, link, archive, disk}
use Rattle.el_outside.specs.declared.archive.Archive as block_files
use Rattle.el_outside.specs.Trace.{ArrivalWithBytes, opened, brought, Message, Closing}
use Rattle.el_outside.specs.declared.link.Why.{Why}
use Rattle.el_outside.specs.declared.link.Why.TheVariants as why
use Rattle.el_world.specs.World.{World, Event, orders, Outs, Takes, Works, Notifies, IsStill, IsBusy, AllTold, events, after_hearing, is_client, without_client, closes_memory}

-- One turn, by which these events, one at most, are done. Each failed call stands among `losses`, with its
-- device: it was answered or closed for. `of_files` is what the type of the block files says of them.
pub data OneTurn {A : Type 0} (of_files : block_files.Ghosts A) (world : World) (done : List Event)
    (outs : Outs) (losses : List Deed) (next : World) : Type 0 where
  -- an event is taken; the node's last tip line left nothing to do, and everyone was told of it
  takes : (event : Event) → IsStill world → AllTold world → done ≡ event ∷ []
      → Takes of_files world event outs losses next → OneTurn of_files world done outs losses next
  -- the next move of that line
  works : IsBusy world → done ≡ [] → Works of_files world outs losses next
      → OneTurn of_files world done outs losses next
  -- a client is told of the node's last line
  notifies : IsStill world → done ≡ [] → Notifies world outs losses next
      → OneTurn of_files world done outs losses next
  -- A client is closed as out of memory, for its bytes, a line of them, or what it was to be told. Its lines,
  -- which are left, will have no effect.
  departs : (p : ℕ) → is_client p world ≡ true → done ≡ [] → outs ≡ closes_memory p
      → next ≡ without_client p world → losses ≡ [] → OneTurn of_files world done outs losses next

-- why a client may be closed before a message to it: it couldn't be sent, or no memory was found for that
abbrev pub IsDeparture : Why → Type 0
IsDeparture reason = (reason ≡ why.Gone) ⊎ (reason ≡ why.Memory)

-- a message that couldn't be sent is a failure of the link
abbrev pub lost_by : Why → List Deed
lost_by why.Gone = deed.lost link ∷ []
lost_by other = []

-- the messages to others than this peer
abbrev pub to_others : ℕ → List Message → List Message
to_others p messages = filter (λ (m : Message). not (m.peer == p)) messages

-- the closing, unless it is of this peer
abbrev pub unless_of : ℕ → Option Closing → Option Closing
unless_of p None = None
unless_of p (Some c) = if c.peer == p then None else Some c

-- the closing is of this peer
abbrev pub IsClosingOf : Option Closing → ℕ → Type 0
IsClosingOf None p = ⊥
IsClosingOf (Some c) p = c.peer ≡ p

-- The messages of a turn go out in order, and then its closing. Before a message to it a client, also one
-- that would be closed then, may be closed for a departure: it gets nothing more, and is not closed again.
-- `world` is the one that the turn left.
pub data Delivers : World → List Message → Option Closing → List Message → List Closing → List Deed → World
    → Type 0 where
  all : (world : World) (closing : Option Closing)
      → Delivers world [] closing [] (option_to_list closing) [] world
  sends : (world : World) (m : Message) (messages : List Message) (closing : Option Closing)
      (sent : List Message) (closings : List Closing) (losses : List Deed) (next : World)
      → Delivers world messages closing sent closings losses next
      → Delivers world (m ∷ messages) closing (m ∷ sent) closings losses next
  loses : (world : World) (m : Message) (messages : List Message) (closing : Option Closing) (reason : Why)
      (sent : List Message) (closings : List Closing) (losses : List Deed) (next : World)
      → (is_client m.peer world ≡ true) ⊎ IsClosingOf closing m.peer → IsDeparture reason
      → Delivers (without_client m.peer world) (to_others m.peer messages) (unless_of m.peer closing)
      sent closings losses next
      → Delivers world (m ∷ messages) closing sent (record { peer = m.peer; why = reason } ∷ closings)
      (lost_by reason ++ losses) next

-- Turns, one after the other, from the first world to the last, with the events that were done, all that was
-- sent and closed, and each failure of a device.
pub data Turns {A : Type 0} (of_files : block_files.Ghosts A) (first : World)
    : List Event → List Message → List Closing → List Deed → World → Type 0 where
  none : Turns of_files first [] [] [] [] first
  more : (past : List Event) (messages : List Message) (closings : List Closing) (losses : List Deed)
      (world : World) (done : List Event) (outs : Outs) (failed : List Deed) (left : World)
      (sent : List Message) (closed : List Closing) (lost : List Deed) (next : World)
      → Turns of_files first past messages closings losses world
      → OneTurn of_files world done outs failed left
      → Delivers left outs.messages outs.closing sent closed lost next
      → Turns of_files first (past ++ done) (messages ++ sent) (closings ++ closed)
      (losses ++ (failed ++ lost)) next

-- Arrivals, one after the other, from the first world to the last: the bytes of each are heard, and its
-- events are done, with all that they leave to do and to tell, before the next arrives.
pub data Run {A : Type 0} (of_files : block_files.Ghosts A) (first : World)
    : List ArrivalWithBytes → List Message → List Closing → List Deed → World → Type 0 where
  none : Run of_files first [] [] [] [] first
  more : (arrivals : List ArrivalWithBytes) (messages : List Message) (closings : List Closing)
      (losses : List Deed) (world : World) (arrival : ArrivalWithBytes)
      (more_messages : List Message) (more_closings : List Closing) (more_losses : List Deed) (next : World)
      → Run of_files first arrivals messages closings losses world
      → Turns of_files (after_hearing arrival world) (events world arrival)
      more_messages more_closings more_losses next
      → IsStill next → AllTold next
      → Run of_files first (arrivals ++ arrival ∷ []) (messages ++ more_messages) (closings ++ more_closings)
      (losses ++ more_losses) next

-- why a run stops among the turns of an arrival: a call of the index's device failed (status 5), the node
-- couldn't be sent its answer (status 6), or no memory was found (status 7)
pub data Stop : Type 0 where
  by_disk : Stop
  by_link : Stop
  by_memory : Stop

-- the next turn is one of the node: a move that its last line left, or a line of it where everyone was told
-- of the last
abbrev pub IsNodesTurn : World → List Event → Type 0
IsNodesTurn world [] = IsBusy world
IsNodesTurn world (orders said ∷ left) = IsBusy world ⊎ AllTold world
IsNodesTurn world (event ∷ left) = IsBusy world

-- what was lost by a message to the node that wasn't sent
abbrev pub LostBy : Stop → List Deed → Type 0
LostBy by_disk losses = ⊥
LostBy by_link losses = losses ≡ deed.lost link ∷ []
LostBy by_memory losses = losses ≡ []

-- The turn in which a run stops, where these events are left, with what of it was sent, closed and lost.
pub data Stops {A : Type 0} (of_files : block_files.Ghosts A) (world : World) (left : List Event)
    (stop : Stop) (sent : List Message) (closings : List Closing) (losses : List Deed) : Type 0 where
  -- a call of the index's device failed in a turn of the node
  disk_failed : stop ≡ by_disk → IsNodesTurn world left → sent ≡ [] → closings ≡ []
      → losses ≡ deed.lost disk ∷ []
      → Stops of_files world left stop sent closings losses
  -- it failed in the sift after a later move of a tip line, for which the block files had failed
  sift_failed : stop ≡ by_disk → IsBusy world → sent ≡ [] → closings ≡ []
      → losses ≡ deed.lost archive ∷ deed.lost disk ∷ []
      → Stops of_files world left stop sent closings losses
  -- no memory was found for a turn of the node
  no_memory : stop ≡ by_memory → IsNodesTurn world left → sent ≡ [] → closings ≡ [] → losses ≡ []
      → Stops of_files world left stop sent closings losses
  -- nor in the sift after a later move of a tip line, for which the block files had failed
  untold : stop ≡ by_memory → IsBusy world → sent ≡ [] → closings ≡ [] → losses ≡ deed.lost archive ∷ []
      → Stops of_files world left stop sent closings losses
  -- a message to the node wasn't sent, after those before it
  unsent : (done rest : List Event) (outs : Outs) (failed : List Deed) (after : World)
      (front more : List Message) (m : Message) (lost last : List Deed) (next : World)
      → left ≡ done ++ rest → OneTurn of_files world done outs failed after
      → outs.messages ≡ front ++ m ∷ more → m.peer ≡ 0
      → Delivers after front None sent closings lost next → LostBy stop last
      → losses ≡ failed ++ (lost ++ last) → Stops of_files world left stop sent closings losses

-- the block files as the turns left them, the last of which is the one in which the run stops, if it was made
abbrev pub files_at : {A : Type 0} {of_files : block_files.Ghosts A} {world : World} {left : List Event}
    {stop : Stop} {sent : List Message} {closings : List Closing} {losses : List Deed}
    → Stops of_files world left stop sent closings losses → ℕ → List ℕ
files_at {world = world} (disk_failed by nodes silent closed lost) = world.side.files
files_at {world = world} (sift_failed by busy silent closed lost) = world.side.files
files_at {world = world} (no_memory by nodes silent closed lost) = world.side.files
files_at {world = world} (untold by busy silent closed lost) = world.side.files
files_at (unsent done rest outs failed after front back m lost last next whole turn cut node delivers by z) =
    after.side.files

-- an arrival for which no memory may be found before its turns: bytes of the node, or a new client
abbrev pub MayStarve : ArrivalWithBytes → Type 0
MayStarve (opened p) = p ≡ 0 → ⊥
MayStarve (brought p bytes) = p ≡ 0
MayStarve other = ⊥

-- Where in an arrival a run stops, with all that was sent, closed and lost in it.
pub data StopsIn {A : Type 0} (of_files : block_files.Ghosts A) (world : World) (arrival : ArrivalWithBytes)
    (stop : Stop) (messages : List Message) (closings : List Closing) (losses : List Deed)
    : Type 0 where
  -- before its turns: no memory was found for it
  unheard : MayStarve arrival → stop ≡ by_memory → messages ≡ [] → closings ≡ [] → losses ≡ []
      → StopsIn of_files world arrival stop messages closings losses
  -- in a turn, after those before it
  in_turn : (done left : List Event) (past sent : List Message) (past_closings closed : List Closing)
      (past_losses lost : List Deed) (mid : World)
      → events world arrival ≡ done ++ left
      → Turns of_files (after_hearing arrival world) done past past_closings past_losses mid
      → Stops of_files mid left stop sent closed lost
      → messages ≡ past ++ sent → closings ≡ past_closings ++ closed → losses ≡ past_losses ++ lost
      → StopsIn of_files world arrival stop messages closings losses

-- the block files as the turns of the arrival left them
abbrev pub files_left : {A : Type 0} {of_files : block_files.Ghosts A} {world : World}
    {arrival : ArrivalWithBytes} {stop : Stop}
    {messages : List Message} {closings : List Closing} {losses : List Deed}
    → StopsIn of_files world arrival stop messages closings losses → ℕ → List ℕ
files_left {world = world} (unheard starves by silent closed lost) = world.side.files
files_left (in_turn done left past sent past_closings closed past_losses lost mid whole turns stops a b c) =
    files_at stops

-- A run that stops in its last arrival.
pub record Halts {A : Type 0} (of_files : block_files.Ghosts A) (first : World) (stop : Stop)
    (arrivals : List ArrivalWithBytes) (messages : List Message) (closings : List Closing)
    (losses : List Deed) : Type 0 where
  pub past : List ArrivalWithBytes
  pub last : ArrivalWithBytes
  pub whole : arrivals ≡ past ++ last ∷ []
  -- the arrivals before
  pub past_messages : List Message
  pub past_closings : List Closing
  pub past_losses : List Deed
  pub world : World
  pub run : Run of_files first past past_messages past_closings past_losses world
  -- the last
  pub sent : List Message
  pub closed : List Closing
  pub lost : List Deed
  pub stops : StopsIn of_files world last stop sent closed lost
  pub messages_are : messages ≡ past_messages ++ sent
  pub closings_are : closings ≡ past_closings ++ closed
  pub losses_are : losses ≡ past_losses ++ lost

-- The chain that is acknowledged where a run stops, and the one that is then in flight. Acknowledged is the
-- chain of the world before the turn in which the run stops, since all that earlier turns gave was sent. In
-- flight is the target of a move of that turn that has begun, if there is one.
use Rattle.std.specs.Prelude.{◌≡◌, ℕ, List, ◌∷◌}
use Rattle.el_side.specs.Deeds.{Deed}
use Rattle.el_outside.specs.Files.{AllGrow}
use Rattle.el_outside.specs.declared.archive.Archive as block_files
use Rattle.el_outside.specs.Trace.{ArrivalWithBytes, Message, Closing}
use Rattle.el_chain.specs.declared.moves.Plan.{Plan}
use Rattle.el_chain.specs.Chains.{Chain}
use Rattle.el_chain.specs.Moves.{StoodBy}
use Rattle.el_lines.specs.Lines.{LineEvent}
use Rattle.el_side.specs.Plans.{plan_of}
use Rattle.el_side.specs.UnderWay.{IsFirstMove, IsUnderWay}
use Rattle.el_world.specs.World.{World, Event, orders, IsStill, IsBusy, AllTold}
use Rattle.el_world.specs.Run.{Stop, Stops, disk_failed, sift_failed, no_memory, untold, unsent, StopsIn, unheard, in_turn}

-- The move of the turn: the next of the node's last tip line, or the first of a line that is next.
pub data IsMoveOf (world : World) (left : List Event) (p : Plan) : Type 0 where
  later : IsBusy world → p ≡ plan_of 0 world.side.ahead → IsMoveOf world left p
  first : (met : LineEvent) (rest : List Event) → IsStill world → AllTold world → left ≡ orders met ∷ rest
      → IsFirstMove world.side met p → IsMoveOf world left p

-- The chain may be in flight where a turn stops. `now` are the block files as they are in the end.
abbrev pub FliesAt : {A : Type 0} {of_files : block_files.Ghosts A} {world : World} {left : List Event}
    {stop : Stop} {sent : List Message} {closings : List Closing} {losses : List Deed}
    → Stops of_files world left stop sent closings losses → (ℕ → List ℕ) → Chain → Type 0
-- a move may have begun, whose blocks were read in the turn
FliesAt {of_files = of_files} {world = world} {left = left} (disk_failed by nodes silent closed lost) now
    flight =
    (files : ℕ → List ℕ) × (of_files.tells → AllGrow world.side.files files × AllGrow files now)
    × IsUnderWay (StoodBy of_files files) world.side.chain (IsMoveOf world left) flight
-- the block files had failed, so that nothing was moved
FliesAt {world = world} (sift_failed by busy silent closed lost) now flight = flight ≡ world.side.chain
-- no memory was found before a move, or after it, for the sift
FliesAt {of_files = of_files} {world = world} {left = left} (no_memory by nodes silent closed lost) now
    flight =
    (files : ℕ → List ℕ) × (of_files.tells → AllGrow world.side.files files × AllGrow files now)
    × IsUnderWay (StoodBy of_files files) world.side.chain (IsMoveOf world left) flight
-- nothing was moved
FliesAt {world = world} (untold by busy silent closed lost) now flight = flight ≡ world.side.chain
-- what the turn gave wasn't sent: it is what the turn left
FliesAt (unsent done rest outs failed after front back m lost last next whole turn cut node delivers by z) now
    flight = flight ≡ after.side.chain

-- the chain that is acknowledged where a run stops
abbrev pub acked : {A : Type 0} {of_files : block_files.Ghosts A} {world : World}
    {arrival : ArrivalWithBytes} {stop : Stop}
    {messages : List Message} {closings : List Closing} {losses : List Deed}
    → StopsIn of_files world arrival stop messages closings losses → Chain
acked {world = world} (unheard starves by silent closed lost) = world.side.chain
acked (in_turn done left past sent past_closings closed past_losses lost mid whole turns stops a b c) =
    mid.side.chain

-- the chain may be in flight where a run stops
abbrev pub Flies : {A : Type 0} {of_files : block_files.Ghosts A} {world : World}
    {arrival : ArrivalWithBytes} {stop : Stop}
    {messages : List Message} {closings : List Closing} {losses : List Deed}
    → StopsIn of_files world arrival stop messages closings losses → (ℕ → List ℕ) → Chain → Type 0
Flies {world = world} (unheard starves by silent closed lost) now flight = flight ≡ world.side.chain
Flies (in_turn done left past sent past_closings closed past_losses lost mid whole turns stops a b c) now
    flight = FliesAt stops now flight

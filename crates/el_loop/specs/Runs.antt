-- How a run over the link ends.
use Rattle.std.specs.Prelude.{◌≡◌, ◌⊎◌, ℕ, ◌+◌, ◌≤◌, List, [], ◌∷◌, ◌++◌, length, map, Bool, true, false, ◌==◌}
use Rattle.std.specs.List.{AllByRecursion}
use Rattle.el_outside.specs.Counts.{RoseBy}
use Rattle.el_outside.specs.Files.{AllGrow}
use Rattle.el_outside.specs.declared.archive.Archive as archive
use Rattle.el_outside.specs.Trace.{ArrivalWithBytes, opened, brought, closed, quiet, ended}
use Rattle.el_chain.specs.Chains.{Chain}
use Rattle.el_side.specs.Side.{IsSure}
use Rattle.el_subs.specs.Told.{AllTold, status}
use Rattle.el_world.specs.World.{World, Session, without_node}
use Rattle.el_side.specs.Deeds as deed
use Rattle.el_side.specs.Deeds.{Deed, link}
use Rattle.el_world.specs.Run.{Run, Halts, Stop, by_disk, by_link, by_memory, files_left}
use Rattle.el_world.specs.Flights.{acked, Flies}
use Rattle.el_world.specs.LastTold.{IsLastTold}
use Rattle.el_side.specs.Deeds.{Rose, offers}
use Rattle.el_loop.specs.Counts.{Counts}
use Rattle.el_loop.specs.Traffic.{Traffic}
use Rattle.el_loop.specs.declared.end.End.{End}
use Rattle.el_loop.specs.declared.end.End.TheVariants as end

-- the arrival ends the run: nothing comes any more, or peer 0 left
abbrev pub is_end : ArrivalWithBytes → Bool
is_end (opened p) = false
is_end (brought p bytes) = false
is_end (closed p) = p == 0
is_end quiet = false
is_end ended = true

-- no arrival ends the run
abbrev pub NoneEnds : List ArrivalWithBytes → Type 0
NoneEnds arrivals = AllByRecursion (λ a. is_end a ≡ false) arrivals

-- the last arrival ends the run, and none before
pub record LastEnds (arrivals : List ArrivalWithBytes) : Type 0 where
  pub front : List ArrivalWithBytes
  pub last : ArrivalWithBytes
  pub whole : arrivals ≡ front ++ last ∷ []
  pub before : NoneEnds front
  pub ends : is_end last ≡ true

-- no arrival before the last ends the run
pub record NoneEndsBefore (arrivals : List ArrivalWithBytes) : Type 0 where
  pub front : List ArrivalWithBytes
  pub last : ArrivalWithBytes
  pub whole : arrivals ≡ front ++ last ∷ []
  pub before : NoneEnds front

-- the last call of `next` failed
abbrev pub next_failed : List Deed
next_failed = deed.lost link ∷ []

-- Each call of `next` brought an arrival, or failed. Each failed call of a device is one of those, or one
-- that something was answered or closed for. The relay was offered what was broadcast.
pub record IsAccounted (c : Counts) (t : Traffic) (losses failed : List Deed) : Type 0 where
  pub calls : RoseBy c.calls_before c.calls_after (length t.arrivals + length failed)
  pub turns : length t.arrivals + length failed ≤ c.turns
  pub rose : Rose c.faults_before c.faults_after (losses ++ failed)
  pub offered : offers losses ≡ t.offers

-- how arrivals are taken, with a node or without one
abbrev pub taken : Bool → List ArrivalWithBytes → List ArrivalWithBytes
taken true arrivals = arrivals
taken false arrivals = map without_node arrivals

-- what each client was told last of a script hash that it subscribes to is that one's status
abbrev pub StatusesAreTold : World → Type 0
StatusesAreTold world = AllByRecursion
    (λ (session : Session). AllTold (status world.side.chain world.side.kept) session.client.subs)
    world.sessions

-- The traffic is that of a run from the first world, all turns of which were made. `of_files` is what the
-- type of the block files says of them, and `files` are their bytes as they are in the end. `leaves` says of
-- two chains that all that a crash may leave in the end stands for the one, which is acknowledged, or for the
-- other, which is in flight; acknowledged is the one that the node was told last. What is said of chains is
-- said where the side of the first world is sure.
pub record IsRun {A : Type 0} (of_files : archive.Ghosts A) (first : World) (node : Bool)
    (leaves : Chain → Chain → Type 0) (files : ℕ → List ℕ) (c : Counts) (t : Traffic) (failed : List Deed)
    : Type 0 where
  pub losses : List Deed
  pub world : World
  pub run : Run of_files first (taken node t.arrivals) t.messages t.closings losses world
  pub statuses : IsSure first.side → StatusesAreTold world
  pub grown : of_files.tells → AllGrow world.side.files files
  pub counted : IsAccounted c t losses failed
  pub acknowledged : IsSure first.side → IsLastTold first.side.chain t.messages world.side.chain
  pub crash : IsSure first.side → leaves world.side.chain world.side.chain

-- The traffic is that of a run that stopped so in its last arrival. `files` are the block files as they are
-- in the end: they have all that each turn had of them.
pub record IsHalted {A : Type 0} (of_files : archive.Ghosts A) (first : World) (node : Bool)
    (leaves : Chain → Chain → Type 0) (files : ℕ → List ℕ) (c : Counts) (t : Traffic) (stop : Stop)
    : Type 0 where
  pub losses : List Deed
  pub halts : Halts of_files first stop (taken node t.arrivals) t.messages t.closings losses
  pub grown : of_files.tells → AllGrow (files_left halts.stops) files
  pub counted : IsAccounted c t losses []
  pub last : NoneEndsBefore t.arrivals
  pub flight : Chain
  pub is_flight : Flies halts.stops files flight
  pub acknowledged : IsSure first.side → IsLastTold first.side.chain t.messages (acked halts.stops)
  pub crash : IsSure first.side → leaves (acked halts.stops) flight

-- How a run ends, and with which traffic: each end in its own way.
abbrev pub RunEnds : {A : Type 0} → archive.Ghosts A → World → Bool → (Chain → Chain → Type 0)
    → (ℕ → List ℕ) → Counts → Traffic → End → Type 0
-- nothing comes any more, or peer 0 left
RunEnds of_files first node leaves files c t end.Ended =
    IsRun of_files first node leaves files c t [] × LastEnds t.arrivals
-- the last call of `next` failed, or an answer to the node couldn't be sent
RunEnds of_files first node leaves files c t end.LinkFailed =
    (IsRun of_files first node leaves files c t next_failed × NoneEnds t.arrivals)
    ⊎ IsHalted of_files first node leaves files c t by_link
-- all calls of `next` were made, and none ended the run
RunEnds of_files first node leaves files c t end.TurnsSpent =
    IsRun of_files first node leaves files c t [] × NoneEnds t.arrivals × (length t.arrivals ≡ c.turns)
-- a call of the index's device failed in a turn of the node
RunEnds of_files first node leaves files c t end.DiskFailed =
    IsHalted of_files first node leaves files c t by_disk
-- no memory was found for bytes of the node, for a new client, in a turn of the node, or for an answer to it
RunEnds of_files first node leaves files c t end.OutOfMemory =
    IsHalted of_files first node leaves files c t by_memory

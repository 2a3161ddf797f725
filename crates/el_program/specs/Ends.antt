-- How a call of `serve` ends.
use Rattle.std.specs.Prelude.{◌≡◌, ◌⊎◌, ℕ, List, [], ◌∷◌, Bool, true, false}
use Rattle.el_outside.specs.declared.archive.Archive as block_files
use Rattle.el_loop.specs.Traffic.{Traffic}
use Rattle.el_outside.specs.Files.{AllGrow}
use Rattle.el_chain.specs.declared.node.Node.{Node}
use Rattle.el_chain.specs.Chains.{Chain}
use Rattle.el_mempool.specs.declared.entry.PoolLimits.{PoolLimits}
use Rattle.el_world.specs.World.{initial_world}
use Rattle.el_side.specs.Deeds as deed
use Rattle.el_side.specs.Deeds.{Deed, archive, disk}
use Rattle.el_words.specs.Commands.{IsNoCommand, IsServe, IsOnce}
use Rattle.el_words.specs.Words.{greatest_limits}
use Rattle.el_chain.specs.Moves.{StoodAt}
use Rattle.el_files.specs.Scanning.{WasScanned}
use Rattle.el_program.specs.File.{HasBadBlock}
use Rattle.el_program.specs.Opened.{IndexChain, AreHeaders, all_added, IsScanned, IsRead}
use Rattle.el_program.specs.OtherChain.{is_other_chain}
use Rattle.el_side.specs.Deeds.{Rose}
use Rattle.el_loop.specs.Counts.{Counts}
use Rattle.el_loop.specs.Runs.{RunEnds}
use Rattle.el_loop.specs.Traffic.{no_traffic}
use Rattle.el_loop.specs.declared.end.End.{End}
use Rattle.el_loop.specs.declared.end.End.TheVariants as end
use Rattle.el_program.specs.declared.status.Status.{Status}
use Rattle.el_program.specs.declared.status.Status.TheVariants as status

-- the link and the relay were not called, and these calls failed
pub record IsSilent (c : Counts) (t : Traffic) (losses : List Deed) : Type 0 where
  pub traffic : t ≡ no_traffic
  pub calls : c.calls_after ≡ c.calls_before
  pub rose : Rose c.faults_before c.faults_after losses

-- A node and clients were served, from the chain that the index had, with the headers that it told and then
-- those that the scan of all block files found; an unconfirmed set that is empty at first keeps to these
-- limits, and the desk of broadcasts is on or off. `before` and `after` are the archive before the call and
-- after it.
pub record IsServed {A : Type 0} (of_files : block_files.Ghosts A)
    (magic : List ℕ) (limits : PoolLimits) (relays : Bool) (index : IndexChain)
    (leaves : Chain → Chain → Type 0) (c : Counts)
    (before after : A) (t : Traffic) (e : End) : Type 0 where
  pub headers : List Node
  pub told : AreHeaders index headers
  pub now : A
  pub nodes : List Node
  pub scanned : IsScanned of_files magic before now nodes
  pub same : is_other_chain headers nodes ≡ false
  pub grows : of_files.tells → AllGrow (of_files.bytes now) (of_files.bytes after)
  pub run : RunEnds of_files (initial_world index.sure index.chain magic limits
      (all_added (all_added [] headers) nodes) (of_files.bytes now) relays)
      true leaves (of_files.bytes after) c t e

-- the block files are those of another chain than the index's
pub record IsOtherChain {A : Type 0} (of_files : block_files.Ghosts A)
    (magic : List ℕ) (index : IndexChain) (before after : A) : Type 0 where
  pub headers : List Node
  pub told : AreHeaders index headers
  pub nodes : List Node
  pub scanned : IsScanned of_files magic before after nodes
  pub other : is_other_chain headers nodes ≡ true

-- what a crash may leave stands for the index's chain, where that is sure
abbrev pub LeavesChain : IndexChain → (Chain → Chain → Type 0) → Type 0
LeavesChain index leaves = index.sure ≡ true → leaves index.chain index.chain

-- How a call with the words of `serve` ends, once the index is open and has this chain. `leaves` says of two
-- chains that all that a crash may leave in the end stands for the one or for the other.
abbrev pub ServeEnds : {A : Type 0} → block_files.Ghosts A → List ℕ → PoolLimits → Bool → IndexChain
    → (Chain → Chain → Type 0) → Counts → A → A → Traffic → Status → Type 0
ServeEnds of_files magic limits relays index leaves c before after t status.Ended =
    IsServed of_files magic limits relays index leaves c before after t end.Ended
ServeEnds of_files magic limits relays index leaves c before after t status.LinkFailed =
    IsServed of_files magic limits relays index leaves c before after t end.LinkFailed
ServeEnds of_files magic limits relays index leaves c before after t status.TurnsSpent =
    IsServed of_files magic limits relays index leaves c before after t end.TurnsSpent
-- a call of the block files failed before the first arrival
ServeEnds of_files magic limits relays index leaves c before after t status.ArchiveFailed =
    IsSilent c t (deed.lost archive ∷ []) × LeavesChain index leaves
ServeEnds of_files magic limits relays index leaves c before after t status.OtherChain =
    IsOtherChain of_files magic index before after × IsSilent c t [] × LeavesChain index leaves
-- a call of the index's device failed before the first arrival, or in the run
ServeEnds of_files magic limits relays index leaves c before after t status.DiskFailed =
    (IsSilent c t (deed.lost disk ∷ []) × LeavesChain index leaves)
    ⊎ IsServed of_files magic limits relays index leaves c before after t end.DiskFailed
-- out of memory before the first arrival, or in the run
ServeEnds of_files magic limits relays index leaves c before after t status.OutOfMemory =
    (IsSilent c t [] × LeavesChain index leaves)
    ⊎ IsServed of_files magic limits relays index leaves c before after t end.OutOfMemory
ServeEnds of_files magic limits relays index leaves c before after t other = ⊥

-- How a call with the words of `serve` ends where the index isn't opened. Where its chain is sure, a crash
-- leaves then what it left before: the chain that was acknowledged or the one that was in flight.
abbrev pub UnopenedEnds : Bool → Chain → Chain → (Chain → Chain → Type 0) → Counts → Traffic → Status → Type 0
-- a call of the index's device failed
UnopenedEnds sure was flight leaves c t status.DiskFailed =
    IsSilent c t (deed.lost disk ∷ []) × (sure ≡ true → leaves was flight)
UnopenedEnds sure was flight leaves c t status.OutOfMemory =
    IsSilent c t [] × (sure ≡ true → leaves was flight)
-- it is no index
UnopenedEnds sure was flight leaves c t status.BadIndex = (sure ≡ false) × IsSilent c t []
UnopenedEnds sure was flight leaves c t other = ⊥

-- How a call with the words of `serve` ends, for a disk that reads as an index with this chain: the index is
-- not opened, or it is, and has it.
abbrev pub IndexEnds : {A : Type 0} → block_files.Ghosts A → List ℕ → PoolLimits → Bool → Chain
    → Chain → IndexChain → (Chain → Chain → Type 0) → Counts → A → A → Traffic → Status → Type 0
IndexEnds of_files magic limits relays was flight index leaves c before after t s =
    UnopenedEnds index.sure was flight leaves c t s
    ⊎ ServeEnds of_files magic limits relays index leaves c before after t s

-- the statuses with which a call ends whose index is open
abbrev pub IsOpenedEnd : Status → Type 0
IsOpenedEnd status.Usage = ⊥
IsOpenedEnd status.BadIndex = ⊥
IsOpenedEnd status.BadChain = ⊥
IsOpenedEnd other = Unit {0}

-- the statuses with which nothing is opened where the disk has no index
abbrev pub IsUnopened : Status → Type 0
IsUnopened status.BadIndex = Unit {0}
IsUnopened status.DiskFailed = Unit {0}
IsUnopened other = ⊥

-- Clients were served without a node, from the chain that file 0 gives, with its headers. Nothing unconfirmed
-- comes, so that no limit is met. No crash is spoken of. `before` and `after` are the bytes of the block
-- files before the call and after it.
pub record IsServedOnce {A : Type 0} (of_files : block_files.Ghosts A) (magic : List ℕ) (c : Counts)
    (before after : ℕ → List ℕ) (t : Traffic) (e : End) : Type 0 where
  pub now : ℕ → List ℕ
  pub nodes : List Node
  pub chain : Chain
  pub read : IsRead of_files before now magic nodes chain
  pub grows : of_files.tells → AllGrow now after
  pub run : RunEnds of_files (initial_world true chain magic greatest_limits (all_added [] nodes) now false)
      false
      (λ acked flight. Unit {0}) after c t e

-- the records of file 0, up to the size that was told of it, are no chain
abbrev pub IsBadFile : {A : Type 0} → block_files.Ghosts A → List ℕ → (ℕ → List ℕ) → (ℕ → List ℕ) → Type 0
IsBadFile of_files magic before after =
    (nodes : List Node) × (scanned : ℕ → List ℕ)
    × (of_files.tells → WasScanned of_files before scanned magic 0 nodes)
    × (of_files.tells → AllGrow scanned after) × HasBadBlock (StoodAt of_files scanned after) nodes

-- How a call with the words of `once` ends.
abbrev pub OnceEnds : {A : Type 0} → block_files.Ghosts A → List ℕ → Counts → (ℕ → List ℕ) → (ℕ → List ℕ)
    → Traffic → Status → Type 0
OnceEnds of_files magic c before after t status.Ended =
    IsServedOnce of_files magic c before after t end.Ended
OnceEnds of_files magic c before after t status.LinkFailed =
    IsServedOnce of_files magic c before after t end.LinkFailed
OnceEnds of_files magic c before after t status.TurnsSpent =
    IsServedOnce of_files magic c before after t end.TurnsSpent
-- a call of the block files failed before the first arrival
OnceEnds of_files magic c before after t status.ArchiveFailed = IsSilent c t (deed.lost archive ∷ [])
-- out of memory before the first arrival, or in the run
OnceEnds of_files magic c before after t status.OutOfMemory =
    IsSilent c t [] ⊎ IsServedOnce of_files magic c before after t end.OutOfMemory
-- file 0 gives no chain
OnceEnds of_files magic c before after t status.BadChain =
    IsBadFile of_files magic before after × IsSilent c t []
OnceEnds of_files magic c before after t other = ⊥

-- the statuses with which nobody was served
abbrev pub IsUnserved : Status → Type 0
IsUnserved status.Usage = Unit {0}
IsUnserved status.BadIndex = Unit {0}
IsUnserved status.ArchiveFailed = Unit {0}
IsUnserved status.OtherChain = Unit {0}
IsUnserved status.BadChain = Unit {0}
IsUnserved other = ⊥

-- How a call ends. The words of `serve` ask for an index on a disk, which reads as one with this chain, and
-- give the limits of the unconfirmed set; `was` was acknowledged before, and `flight` was in flight. `leaves`
-- says of a magic and two chains that all that a crash may leave of the disk in the end stands for the one or
-- for the other, as an index of that network.
pub data Ends {A : Type 0} (of_files : block_files.Ghosts A)
    (words : List (List ℕ)) (was flight : Chain) (index : IndexChain)
    (leaves : List ℕ → Chain → Chain → Type 0) (c : Counts) (before after : A) (t : Traffic) (s : Status)
    : Type 0 where
  usage : IsNoCommand words → s ≡ status.Usage → IsSilent c t []
      → Ends of_files words was flight index leaves c before after t s
  serve : (magic : List ℕ) (asked : IsServe words magic)
      → IndexEnds of_files magic asked.said.settings.limits asked.said.settings.relays was flight index
      (leaves magic) c before after t s
      → Ends of_files words was flight index leaves c before after t s
  once : (magic : List ℕ) → IsOnce words magic
      → OnceEnds of_files magic c (of_files.bytes before) (of_files.bytes after) t s
      → Ends of_files words was flight index leaves c before after t s

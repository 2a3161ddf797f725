-- Calls in which no call of a device fails.
use Rattle.std.proofs.Common.{◌≡◌, inl, inr, ℕ, ◌+◌, ◌<◌, ◌≤◌, Bool, true, false, true≢false, ◌||◌, if◌then◌else◌, List, [], ◌∷◌, ◌++◌, refl, subst, arith}
use Rattle.std.specs.Prelude.{max, min}
use Rattle.std.specs.List.{AllByRecursion}
use Rattle.el_base.proofs.Lists.{all_append}
use Rattle.el_side.specs.Deeds as deed
use Rattle.el_side.specs.Deeds.{Device, Deed, link, archive, disk, relay, failures, NoneLost, Rose}
use Rattle.el_side.proofs.Deeds.{none_front, none_back}
use Rattle.el_outside.specs.Files.{AllGrow}
use Rattle.el_outside.specs.Trace.{ArrivalWithBytes, Message, Closing}
use Rattle.el_loop.specs.Traffic.{Traffic}
use Rattle.el_outside.specs.declared.archive.Archive as block_files
use Rattle.el_outside.proofs.Traces.{all_grow_none, all_grow_more}
use Rattle.el_chain.specs.Chains.{Chain}
use Rattle.el_chain.specs.Headers.{added, is_known, is_second}
use Rattle.el_chain.specs.Moves.{Moves, StoodAt, target}
use Rattle.el_chain.specs.declared.moves.Plan.{Plan}
use Rattle.el_chain.specs.declared.node.Node.{Node}
use Rattle.el_mempool.specs.declared.entry.PoolLimits.{PoolLimits}
use Rattle.el_methods.specs.Archives.{HasRecords, WasWritten}
use Rattle.el_world.specs.World.{World}
use Rattle.el_world.specs.Run.{Run, Halts, Stop, by_memory, files_left}
use Rattle.el_undisturbed.specs.HasAll.{HasAll, HasBlockOf}
use Rattle.el_undisturbed.specs.Undisturbed.{Undisturbed}
use Rattle.el_undisturbed.specs.WholeRecords.{ShowWholeRecords}
use Rattle.el_undisturbed.proofs.Standing.{all_scanned, all_written, blocks_kept, shows_within}
use Rattle.el_loop.specs.Counts.{Counts}
use Rattle.el_loop.specs.Runs.{RunEnds, IsRun, IsHalted, taken}
use Rattle.el_loop.specs.declared.end.End.{End}
use Rattle.el_loop.specs.declared.end.End.TheVariants as end
use Rattle.el_program.specs.Complete.{NoneFailed, IsComplete}
use Rattle.el_program.specs.Ends.{IsSilent, IsServed, IsServedOnce, IndexEnds, UnopenedEnds, ServeEnds, OnceEnds}
use Rattle.el_program.specs.Opened.{certain, all_added, nodes_of_chain}
use Rattle.el_program.specs.Statuses.{status_of_end}
use Rattle.el_program.specs.declared.status.Status.{Status}
use Rattle.el_program.specs.declared.status.Status.TheVariants as status
use Rattle.el_program.proofs.FileLemmas.{body_begins}

-- ---- counts

no_rise : (before after n : ℕ) → after ≡ max before (min (before + n) 18446744073709551615) → after ≡ before → before < 18446744073709551615
    → 1 ≤ n → ⊥
no_rise before after n rose same below some = omega arith

one_failed : (d : Device) (ds : List Deed) → 1 ≤ failures d (deed.lost d ∷ ds)
one_failed link ds = omega arith
one_failed archive ds = omega arith
one_failed disk ds = omega arith
one_failed relay ds = omega arith

-- no failure is counted among these
none_counted : (deeds : List Deed) → ((d : Device) → 1 ≤ failures d deeds → ⊥) → NoneLost deeds
none_counted [] none = tt
none_counted (deed.lost d ∷ ds) none = absurd (none d (one_failed d ds))
none_counted (deed.offered bytes taken ∷ ds) none = (tt, none_counted ds none)

pub none_lost : (c : Counts) (losses : List Deed) → NoneFailed c → Rose c.faults_before c.faults_after losses → NoneLost losses
none_lost c losses none rose =
    none_counted losses (λ d some. no_rise (c.faults_before d) (c.faults_after d) (failures d losses) (rose d) (none d).0 (none d).1 some)

-- ---- what block files have at the start

added_all : (P : Node → Type 0) (found ns : List Node) → AllByRecursion P found → AllByRecursion P ns → AllByRecursion P (all_added found ns)
added_all P found [] all more = all
added_all P found (n ∷ ns) all more = added_all P (added found n) ns (by (is_known found n.hash || is_second found n)) more.1
  where
    by : (b : Bool) → AllByRecursion P (if b then found else found ++ n ∷ [])
    by true = all
    by false = all_append P found (n ∷ []) all (more.0, tt)

nodes_have : (files : ℕ → List ℕ) (chain : Chain) → HasRecords files chain → AllByRecursion (HasBlockOf files) (nodes_of_chain chain)
nodes_have files [] has = tt
nodes_have files (b ∷ bs) has = (record { size = has.0.size; header = body_begins b.block _ has.0.encodes }, nodes_have files bs has.1)

-- what holds of runs and of records, whatever the block files are
pub record Calm {A : Type 0} (of_files : block_files.Ghosts A) : Type 0 where
  pub run : (first world : World) (arrivals : List ArrivalWithBytes) (messages : List Message) (closings : List Closing) (deeds : List Deed)
      → of_files.tells → ShowWholeRecords of_files first.side.magic first.side.files world.side.files → first.sessions ≡ [] → first.side.sure ≡ true → HasAll first.side
      → NoneLost deeds → Run of_files first arrivals messages closings deeds world → HasAll world.side × Undisturbed messages closings
  pub halts : (first : World) (stop : Stop) (arrivals : List ArrivalWithBytes) (messages : List Message) (closings : List Closing) (deeds : List Deed)
      → of_files.tells → first.sessions ≡ [] → first.side.sure ≡ true → HasAll first.side → NoneLost deeds
      → (halts : Halts of_files first stop arrivals messages closings deeds)
      → ShowWholeRecords of_files first.side.magic first.side.files (files_left halts.stops) → (stop ≡ by_memory) × Undisturbed messages closings
  pub stay : (old new : ℕ → List ℕ) (chain : Chain) → AllGrow old new → HasRecords old chain → HasRecords new chain
  pub moved : (before after : ℕ → List ℕ) (chain blocks : Chain) (p : Plan) → of_files.tells → AllByRecursion (WasWritten before) p.forward
      → HasRecords after chain → Moves (StoodAt of_files before after) chain p blocks → HasRecords after (target p chain blocks)

module _ {A : Type 0} (of_files : block_files.Ghosts A) (calm : Calm of_files) (told : of_files.tells)
    (c : Counts) (none : NoneFailed c) (t : Traffic) where
  silent_calm : (losses : List Deed) → IsSilent c t losses → NoneLost losses × Undisturbed t.messages t.closings
  silent_calm losses s = (none_lost c losses none s.rose, rw s.traffic (record { sent = tt; closed = tt }))

  -- it ended before the first arrival, and no device failed
  silent : (s : Status) → IsSilent c t [] → (Undisturbed t.messages t.closings → IsComplete t s) → IsComplete t s
  silent s is ends = ends (silent_calm [] is).1

  -- a device failed
  never : (d : Device) → IsSilent c t (deed.lost d ∷ []) → ⊥
  never d s = (silent_calm (deed.lost d ∷ []) s).0.0

  module _ (first : World) (node : Bool) (leaves : Chain → Chain → Type 0) (files : ℕ → List ℕ) (nobody : first.sessions ≡ []) (sure : first.side.sure ≡ true)
      (has : HasAll first.side) (shows : ShowWholeRecords of_files first.side.magic first.side.files files) where
    -- what is found up to a moment
    shows_to : (to : ℕ → List ℕ) → AllGrow to files → ShowWholeRecords of_files first.side.magic first.side.files to
    shows_to to grown = shows_within of_files first.side.magic first.side.files files first.side.files to (all_grow_none first.side.files) grown shows

    ran : (failed : List Deed) → IsRun of_files first node leaves files c t failed → NoneLost failed × Undisturbed t.messages t.closings
    ran failed r =
        let all = none_lost c (r.losses ++ failed) none r.counted.rose in (
          none_back r.losses failed all,
          (calm.run first r.world (taken node t.arrivals) t.messages t.closings r.losses told (shows_to r.world.side.files (r.grown told)) nobody sure has
              (none_front r.losses failed all) r.run).1,
        )

    halted : (stop : Stop) → IsHalted of_files first node leaves files c t stop → (stop ≡ by_memory) × Undisturbed t.messages t.closings
    halted stop h =
        let all = none_lost c (h.losses ++ []) none h.counted.rose in
        calm.halts first stop (taken node t.arrivals) t.messages t.closings h.losses told nobody sure has (none_front h.losses [] all) h.halts
        (shows_to (files_left h.halts.stops) (h.grown told))

    pub run_complete : (e : End) → RunEnds of_files first node leaves files c t e → IsComplete t (status_of_end e)
    run_complete end.Ended r = record { ends = tt; calm = (ran [] r.0).1 }
    run_complete end.DiskFailed r = absurd (let bad = (halted _ r).0 in cc)
    run_complete end.LinkFailed (inl r) = absurd (ran _ r.0).0.0
    run_complete end.LinkFailed (inr r) = absurd (let bad = (halted _ r).0 in cc)
    run_complete end.OutOfMemory r = record { ends = tt; calm = (halted _ r).1 }
    run_complete end.TurnsSpent r = record { ends = tt; calm = (ran [] r.0).1 }

  module _ (magic : List ℕ) (limits : PoolLimits) (relays : Bool) (chain : Chain) (leaves : Chain → Chain → Type 0) (before after : A)
      (records : HasRecords (of_files.bytes before) chain) (shows : ShowWholeRecords of_files magic (of_files.bytes before) (of_files.bytes after)) where
    served : (e : End) → IsServed of_files magic limits relays (certain chain) leaves c before after t e → IsComplete t (status_of_end e)
    served e r =
        let now = of_files.bytes r.now in
        let here = calm.stay (of_files.bytes before) now chain (r.scanned.keeps told) records in
        let headers : AllByRecursion (HasBlockOf now) r.headers = rw (r.told.of_chain refl) (nodes_have now chain here) in
        let first_shows = shows_within of_files magic (of_files.bytes before) (of_files.bytes after) (of_files.bytes before) now (all_grow_none (of_files.bytes before)) (r.grows told) shows in
        let nodes = all_scanned of_files (of_files.bytes before) now magic r.nodes first_shows (r.scanned.of_all told) in
        run_complete _ true leaves (of_files.bytes after) refl refl (record {
          found = added_all (HasBlockOf now) _ r.nodes (added_all (HasBlockOf now) [] r.headers tt headers) nodes;
          ahead = tt;
          chain = here;
        }) (shows_within of_files magic (of_files.bytes before) (of_files.bytes after) now (of_files.bytes after) (r.scanned.keeps told) (all_grow_none (of_files.bytes after)) shows) e r.run

    serve_complete : (s : Status) → ServeEnds of_files magic limits relays (certain chain) leaves c before after t s → IsComplete t s
    serve_complete status.Ended r = served end.Ended r
    serve_complete status.Usage r = absurd r
    serve_complete status.BadIndex r = absurd r
    serve_complete status.ArchiveFailed r = absurd (never archive r.0)
    serve_complete status.DiskFailed (inl r) = absurd (never disk r.0)
    serve_complete status.DiskFailed (inr r) = served end.DiskFailed r
    serve_complete status.LinkFailed r = served end.LinkFailed r
    serve_complete status.OutOfMemory (inl r) = silent _ r.0 (λ u. record { ends = tt; calm = u })
    serve_complete status.OutOfMemory (inr r) = served end.OutOfMemory r
    serve_complete status.TurnsSpent r = served end.TurnsSpent r
    serve_complete status.OtherChain r = silent _ r.1 (λ u. record { ends = tt; calm = u })
    serve_complete status.BadChain r = absurd r
    serve_complete status.AuditDiffers r = absurd r
    serve_complete status.AuditTooLarge r = absurd r

    unopened_complete : (was flight : Chain) (s : Status) → UnopenedEnds true was flight leaves c t s → IsComplete t s
    unopened_complete was flight status.Ended r = absurd r
    unopened_complete was flight status.Usage r = absurd r
    unopened_complete was flight status.BadIndex r = absurd (true≢false r.0)
    unopened_complete was flight status.ArchiveFailed r = absurd r
    unopened_complete was flight status.DiskFailed r = absurd (never disk r.0)
    unopened_complete was flight status.LinkFailed r = absurd r
    unopened_complete was flight status.OutOfMemory r = silent _ r.0 (λ u. record { ends = tt; calm = u })
    unopened_complete was flight status.TurnsSpent r = absurd r
    unopened_complete was flight status.OtherChain r = absurd r
    unopened_complete was flight status.BadChain r = absurd r
    unopened_complete was flight status.AuditDiffers r = absurd r
    unopened_complete was flight status.AuditTooLarge r = absurd r

    pub index_complete : (was flight : Chain) (s : Status) → IndexEnds of_files magic limits relays was flight (certain chain) leaves c before after t s → IsComplete t s
    index_complete was flight s (inl r) = unopened_complete was flight s r
    index_complete was flight s (inr r) = serve_complete s r

  module _ (magic : List ℕ) (before after : ℕ → List ℕ) (shows : ShowWholeRecords of_files magic before after) where
    served_once : (e : End) → IsServedOnce of_files magic c before after t e → IsComplete t (status_of_end e)
    served_once e r =
        let then_ = r.read.scanned in
        let found = shows.scanned before then_ 0 r.nodes (all_grow_none before) (all_grow_more then_ r.now after (r.read.grows told) (r.grows told)) (r.read.of_file told) in
        let nodes = blocks_kept then_ r.now r.nodes (r.read.grows told) found in
        run_complete _ false _ after refl refl (record {
          found = added_all (HasBlockOf r.now) [] r.nodes tt nodes;
          ahead = tt;
          chain = calm.moved then_ r.now [] r.chain _ told (all_written then_ r.nodes found) tt r.read.blocks;
        }) (shows_within of_files magic before after r.now after (r.read.keeps told) (all_grow_none after) shows) e r.run

    pub once_complete : (s : Status) → OnceEnds of_files magic c before after t s → IsComplete t s
    once_complete status.Ended r = served_once end.Ended r
    once_complete status.Usage r = absurd r
    once_complete status.BadIndex r = absurd r
    once_complete status.ArchiveFailed r = absurd (never archive r)
    once_complete status.DiskFailed r = absurd r
    once_complete status.LinkFailed r = served_once end.LinkFailed r
    once_complete status.OutOfMemory (inl r) = silent _ r (λ u. record { ends = tt; calm = u })
    once_complete status.OutOfMemory (inr r) = served_once end.OutOfMemory r
    once_complete status.TurnsSpent r = served_once end.TurnsSpent r
    once_complete status.OtherChain r = absurd r
    once_complete status.BadChain r = silent _ r.1 (λ u. record { ends = tt; calm = u })
    once_complete status.AuditDiffers r = absurd r
    once_complete status.AuditTooLarge r = absurd r

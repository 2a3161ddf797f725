-- Moves, and the sift after them.
use Rattle.std.proofs.lemmas.List.{take_all}
use Rattle.std.specs.Prelude.{if◌then◌else◌}
use Rattle.std.proofs.Common.{◌≡◌, ◌≢◌, ◌⊎◌, inl, inr, ℕ, ◌-◌, ◌<◌, ◌≤◌, ◌==◌, ◌&&◌, ◌||◌, arith, Bool, true, false, List, [], ◌∷◌, ◌++◌, length, take, Option, Some, Result, Ok, Err, refl, sym, ap, subst, ◌∙◌, eqb-true}
use Rattle.std.specs.Result.{IfErr}
use Rattle.el_base.specs.declared.hash.Hash32.{Hash32}
use Rattle.el_outside.specs.Counts.{RoseBy}
use Rattle.el_side.specs.Deeds as deed
use Rattle.el_side.specs.Deeds.{Deed, archive}
use Rattle.el_outside.specs.Files.{AllGrow}
use Rattle.el_side.proofs.Deeds.{all_rose_on, rose_of, rose_still}
use Rattle.el_outside.proofs.Moments.{joined, weaker}
use Rattle.el_outside.proofs.Traces.{all_grow_none, all_grow_more}
use Rattle.el_chain.specs.declared.node.Node.{Node}
use Rattle.el_chain.specs.declared.moves.MoveFault.{MoveFault}
use Rattle.el_chain.specs.declared.moves.MoveFault.TheVariants as stop
use Rattle.el_chain.specs.declared.moves.Plan.{Plan}
use Rattle.el_chain.specs.Chains.{Chain, tip}
use Rattle.el_chain.specs.Headers.{AreLinked}
use Rattle.el_chain.specs.Moves.{InFlight, IsRefused, Moves, StoodAt, StoodBy, target, shorter, max_forward}
use Rattle.el_mempool.specs.Sift.{sift}
use Rattle.el_chain.specs.Touches.{AreTouched}
use Rattle.el_mempool.specs.Standing.{AreChanged, PoolState, KeptStandFor}
use Rattle.el_fees.specs.Tables.{IsTableOf}
use Rattle.el_model.specs.Keeping.{Either}
use Rattle.el_model.specs.LedgerCalls.{Asked, CrashLeaves, Moved}
use Rattle.el_model.specs.Queries.{blocks_in, tip_of, height_of}
use Rattle.el_model.proofs.LedgerMoves.{LeavesOwn, asked_leaves}
use Rattle.el_model.proofs.ReadBodies.{stood_longer, stood_up_to, moves_weaker, refused_weaker, flight_weaker}
use Rattle.el_lines.specs.NodeAnswers.{move_refused}
use Rattle.el_lines.specs.declared.node_answer.NodeAnswer.{NodeAnswer}
use Rattle.el_lines.specs.declared.node_answer.NodeAnswer.TheVariants as say
use Rattle.el_side.specs.UnderWay.{IsUnderWay, before, in_move}
use Rattle.el_side.specs.Plans.{left_of, plan_of}
use Rattle.el_side.specs.Side as side_of
use Rattle.el_side.proofs.Settled.{not_both}
use Rattle.el_side.specs.Side.{Side, IsSure, Moving, kept_after}
use Rattle.el_status.specs.Untouched.{KeepsOthers}
use Rattle.el_status.proofs.Sides.{looks_joined, looks_self, move_keeps}
use Rattle.el_status.proofs.Stays.{status_stays}
use Rattle.el_status.specs.Statuses.{status}
use Rattle.el_tx.specs.declared.types.Tx.{Tx}
use Rattle.el_side.specs.declared.caches.Caches.{Caches}
use Rattle.el_side.specs.declared.holdings.Holdings.{Holdings}
use Rattle.el_side.specs.Caching.{CachesStand}
use Rattle.el_side.proofs.Cached.{none_back, put_in}
use Rattle.el_side.specs.Beneath.{Beneath, Ghosts, Lost, failed_beneath}
use Rattle.el_side.specs.NodeSteps.{IsAt, Leads, SetStands, Touches}
use Rattle.el_sync.specs.Steps.{FailsBy, NodeStep, RoseWith, StopsAt, by_disk, by_memory, in_sift, left_by, untold}
use Rattle.el_sync.specs.within.Parts.{MoveFailed, MoveKeeps, SaysMove, SaysRefusal, TellsMove, Tried, Tries, made, refused, failed, of_ledger, files_failed}
use Rattle.el_model.specs.declared.fault.QueryFault.{QueryFault}
use Rattle.el_model.specs.declared.fault.QueryFault.TheVariants as fault
use Rattle.el_sync.specs.declared.making.Made.{Made}
use Rattle.el_sync.specs.declared.moving.Step.{Step}
use Rattle.el_sift.specs.Untouched.{KeepsUntouched}
use Rattle.el_sync.proofs.Reach.{move_reaches, none_reaches}
use Rattle.el_sync.proofs.Led.{stands_there, still_there}
use Rattle.el_sync.proofs.Lists.{left_fewer, left_no_more, none_fewer}

-- ---- whether the set is sifted

ends_whole : (l front : List Node) (moved later ends : Bool) → ends ≡ ((length front == 0) && (moved || later)) → moved ≡ true → front ≡ l → l ≡ [] → ends ≡ true
ends_whole l front moved later ends is yes_moved same none = is ∙ rw (same, none, yes_moved) refl

more_left : (n : Node) (ns : List Node) → (length (n ∷ ns) == 0) ≡ false
more_left n ns = by (length (n ∷ ns) == 0) refl
  where
    by : (b : Bool) → (length (n ∷ ns) == 0) ≡ b → (length (n ∷ ns) == 0) ≡ false
    by true e = absurd (let z = eqb-true (length (n ∷ ns)) 0 e in omega arith)
    by false e = e

ends_not : (n : Node) (ns front : List Node) (moved later ends : Bool) → ends ≡ ((length front == 0) && (moved || later)) → front ≡ n ∷ ns → ends ≡ false
ends_not n ns front moved later ends is same = is ∙ rw (same, more_left n ns) refl

ends_later : (front : List Node) (moved later ends : Bool) → ends ≡ ((length front == 0) && (moved || later)) → moved ≡ false → front ≡ [] → ends ≡ later
ends_later front moved later ends is no_moved none = is ∙ rw (none, no_moved) refl

pub later_then : (front : List Node) (moved later ends : Bool) → ends ≡ ((length front == 0) && (moved || later)) → ends ≡ true → moved ≡ false → later ≡ true
later_then front moved later ends is ended no_moved = by (length front == 0) (sym is ∙ ended)
  where
    by : (b : Bool) → (b && (moved || later)) ≡ true → later ≡ true
    by true e = rw no_moved at e
    by false e = absurd (let bad = e in cc)

-- ---- what the set then stands for, and what was touched

-- the start of the line, once a move left these blocks to put in: with the last one the line ends
abbrev start_after : List Node → Chain → Chain → Chain
start_after [] chain start = chain
start_after (n ∷ ns) chain start = start

set_moved : (l : List Node) (chain start : Chain) (files : ℕ → List ℕ) (holdings : Holdings) (pool_new : PoolState) (fees_new : List ℕ) (caches caches_new : Caches) (side : Side) → SetStands holdings caches side start
    → pool_new.limits ≡ holdings.pool.limits → (IsSure side → IsTableOf fees_new pool_new.entries) → (l ≡ [] → KeptStandFor pool_new.entries chain (sift chain side.kept) × CachesStand caches_new chain chain)
    → ((n : Node) (ns : List Node) → l ≡ n ∷ ns → (pool_new ≡ holdings.pool) × CachesStand caches_new start chain)
    → SetStands (record holdings { pool = pool_new; fees = fees_new }) caches_new (record side { chain = chain; kept = kept_after l chain side.kept; ahead = l; files = files }) (start_after l chain start)
set_moved [] chain start files holdings pool_new fees_new caches caches_new side set limits of_fees sifts same =
    record { stood = λ sure. (sifts refl).0; fees = of_fees; computed = λ sure. (sifts refl).1; still = λ e. refl; limits = limits ∙ set.limits }
set_moved (n ∷ ns) chain start files holdings pool_new fees_new caches caches_new side set limits of_fees sifts same =
    record { stood = rw (same n ns refl).0 set.stood; fees = of_fees; computed = λ sure. (same n ns refl).1; still = λ e. absurd (let bad = e in cc); limits = limits ∙ set.limits }

touches_moved : (l : List Node) (chain start : Chain) (files : ℕ → List ℕ) (side : Side) (moved changed : List Hash32) → KeepsOthers side.chain chain moved
    → (l ≡ [] → AreChanged start side.kept chain (sift chain side.kept) changed)
    → Touches side start (record side { chain = chain; kept = kept_after l chain side.kept; ahead = l; files = files }) (start_after l chain start) moved changed
touches_moved [] chain start files side moved changed keeps change = record {
  status_stays = λ s out apart looks.
      status_stays start chain side.kept (sift chain side.kept) changed s (looks_joined start side.chain chain s.0 looks (keeps s out)) (change refl) apart;
  looks = λ s out apart looks. looks_self chain s.0;
}
touches_moved (n ∷ ns) chain start files side moved changed keeps change = record {
  status_stays = λ s out apart looks. refl;
  looks = λ s out apart looks. looks_joined start side.chain chain s.0 looks (keeps s out);
}

set_refused : (later : Bool) (start : Chain) (files : ℕ → List ℕ) (holdings : Holdings) (pool_new : PoolState) (fees_new : List ℕ) (caches caches_new : Caches) (side : Side) → IsSure side → SetStands holdings caches side start → (later ≡ false → side.ahead ≡ []) → pool_new.limits ≡ holdings.pool.limits → (IsSure side → IsTableOf fees_new pool_new.entries)
    → (later ≡ true → KeptStandFor pool_new.entries side.chain (sift side.chain side.kept)) → (later ≡ false → pool_new ≡ holdings.pool)
    → CachesStand caches_new side.chain side.chain → SetStands (record holdings { pool = pool_new; fees = fees_new }) caches_new (record side { kept = sift side.chain side.kept; ahead = []; files = files }) side.chain
set_refused true start files holdings pool_new fees_new caches caches_new side sure set still limits of_fees sifts same stand =
    record { stood = λ s. sifts refl; fees = of_fees; computed = λ s. stand; still = λ e. refl; limits = limits ∙ set.limits }
set_refused false start files holdings pool_new fees_new caches caches_new side sure set still limits of_fees sifts same stand =
    let there = stands_there holdings caches side start sure set (still refl) in
    record { stood = λ s. rw (same refl, there.sifted) there; fees = of_fees; computed = λ s. stand; still = λ e. refl; limits = limits ∙ set.limits }

touches_refused : (later : Bool) (start : Chain) (files : ℕ → List ℕ) (holdings : Holdings) (caches : Caches) (side : Side) (moved changed : List Hash32) → IsSure side → SetStands holdings caches side start → (later ≡ false → side.ahead ≡ [])
    → (later ≡ true → AreChanged start side.kept side.chain (sift side.chain side.kept) changed)
    → Touches side start (record side { kept = sift side.chain side.kept; ahead = []; files = files }) side.chain moved changed
touches_refused true start files holdings caches side moved changed sure set still change = record {
  status_stays = λ s out apart looks. status_stays start side.chain side.kept (sift side.chain side.kept) changed s looks (change refl) apart;
  looks = λ s out apart looks. looks_self side.chain s.0;
}
touches_refused false start files holdings caches side moved changed sure set still change =
    let there = stands_there holdings caches side start sure set (still refl) in
    record {
      status_stays = λ s out apart looks.
          ap (λ (kept : List Tx). status side.chain kept s.0) there.sifted ∙ ap (λ (c : Chain). status c side.kept s.0) (sym (set.still (still refl)));
      looks = λ s out apart looks. looks_self side.chain s.0;
    }

-- what a move leaves is no more than there was
pub made_no_more : (moved : Bool) (rest left : List Node) → left ≡ (if moved then left_of rest else []) → length left ≤ length rest
made_no_more true rest left is = left_no_more rest left is
made_no_more false rest left is = rw is (omega arith)

-- and fewer where there were any
pub made_fewer : (moved : Bool) (rest left : List Node) → left ≡ (if moved then left_of rest else []) → rest ≢ [] → length left < length rest
made_fewer true rest left is some = left_fewer rest left is some
made_fewer false rest left is some = none_fewer rest left is some

-- a later move takes no block back
pub fits_whole : (chain : Chain) (rest : List Node) → AreLinked (tip chain) rest → (0 ≤ length chain) × AreLinked (tip (shorter 0 chain)) rest
fits_whole chain rest linked =
    let whole : shorter 0 chain ≡ chain = take_all (length chain - 0) chain (omega arith) in
    (omega arith, rw whole linked)

-- Whatever refused a move, the block files failed once in it, and only where that is why.
pub rose_or_not : (e : MoveFault) (was now : ℕ) → (e ≡ stop.ArchiveFailed → RoseBy was now 1) → (e ≢ stop.ArchiveFailed → now ≡ was)
    → RoseBy was now 0 ⊎ ((false ≡ false) × RoseBy was now 1)
rose_or_not stop.DiskFailed was now count still = inl (rose_still was now (still (λ e. let bad = e in cc)))
rose_or_not stop.Memory was now count still = inl (rose_still was now (still (λ e. let bad = e in cc)))
rose_or_not stop.ArchiveFailed was now count still = inr (refl, count refl)
rose_or_not (stop.Changed w f) was now count still = inl (rose_still was now (still (λ e. let bad = e in cc)))
rose_or_not (stop.BadBlock h f) was now count still = inl (rose_still was now (still (λ e. let bad = e in cc)))
rose_or_not (stop.Refused h f) was now count still = inl (rose_still was now (still (λ e. let bad = e in cc)))

pub not_failed : (e : QueryFault) → e ≢ fault.DiskFailed → e ≡ fault.Memory
not_failed fault.DiskFailed other = absurd (other refl)
not_failed fault.Memory other = refl

module _ {G A : Type 0} (of : Ghosts G A) where
  pub move_failed : (r : Result Made QueryFault) (e : QueryFault) (was now : Beneath G A) → r ≡ Err e → MoveFailed of was now e
      → IfErr r (MoveFailed of was now)
  move_failed r e was now is f = rw is f

  -- a first move that failed stops a later one too
  pub stops_first : {T : Type 0} (r : Result T QueryFault) (e : QueryFault) (was now : Beneath G A) (chain : Chain) (later : Bool) (P : Plan → Type 0) → r ≡ Err e
      → StopsAt of was now chain false P e → IfErr r (StopsAt of was now chain later P)
  stops_first r e was now chain later P is s =
      rw is (record { next = s.next; flight = s.flight; crash = s.crash; stood = s.stood; losses = s.losses; fails = by s.fails; rose = s.rose })
    where
      by : {next : Chain} {losses : List Deed} → FailsBy false chain next e losses → FailsBy later chain next e losses
      by (by_disk d l) = by_disk d l
      by (by_memory d l) = by_memory d l
      by (untold no_later d l n) = absurd (let bad = no_later in cc)
      by (in_sift no_later d l n) = absurd (let bad = no_later in cc)

  -- ---- moves

  -- what stood in a call stood since the side knew its files, and by the call's end
  stood_since : (a b : A) (side : Side) → (of.files.tells → AllGrow side.files (of.files.bytes a)) → (n : Node) (t : List ℕ) → StoodAt of.files (of.files.bytes a) (of.files.bytes b) n t
      → StoodAt of.files side.files (of.files.bytes b) n t
  stood_since a b side told n t stood = stood_longer of.files side.files (of.files.bytes a) (of.files.bytes b) (of.files.bytes b) n t told (λ tl. all_grow_none (of.files.bytes b)) stood

  stood_by : (a b : A) (n : Node) (t : List ℕ) → StoodAt of.files (of.files.bytes a) (of.files.bytes b) n t → StoodBy of.files (of.files.bytes b) n t
  stood_by a b n t stood = stood_up_to of.files (of.files.bytes a) (of.files.bytes b) (of.files.bytes b) n t (λ tl. all_grow_none (of.files.bytes b)) stood

  -- a move that is made
  pub made_tries : (was now : Beneath G A) (side : Side) (back : ℕ) (rest forward : List Node) (top : Option Hash32) (height : Option ℕ) (m : Made)
      → (of.files.tells → AllGrow side.files (of.files.bytes was.files)) → (of.files.tells → AllGrow (of.files.bytes was.files) (of.files.bytes now.files))
      → (blocks : Chain) × Moves (StoodAt of.files (of.files.bytes was.files) (of.files.bytes now.files)) side.chain (record { back = back; forward = forward }) blocks
      × of.ledger.stands now.ledger (target (record { back = back; forward = forward }) side.chain blocks) × AreTouched (record { back = back; forward = forward }) side.chain blocks m.touched
      × CrashLeaves of.ledger was.ledger now.ledger side.chain (target (record { back = back; forward = forward }) side.chain blocks)
      → forward ≡ take max_forward rest → ((c : Chain) → of.ledger.stands now.ledger c → top ≡ tip_of c) → ((c : Chain) → of.ledger.stands now.ledger c → height ≡ height_of c)
      → m.moved ≡ true → m.answer ≡ say.At top height → of.files.faults now.files ≡ of.files.faults was.files → of.ledger.faults now.ledger ≡ of.ledger.faults was.ledger
      → Tries of was now side back rest m
  made_tries was now side back rest forward top height m told grows moved is tip_is height_is yes_moved answer_is files_same disk_same = record {
    losses = [];
    chain = shorter back side.chain ++ moved.0;
    tried = made moved.0 (rw is at (moves_weaker (StoodAt of.files (of.files.bytes was.files) (of.files.bytes now.files)) (StoodAt of.files side.files (of.files.bytes now.files)) side.chain (record { back = back; forward = forward }) moved.0 (stood_since was.files now.files side told) moved.1)) (rw is at moved.3) yes_moved refl (rw (← tip_is (shorter back side.chain ++ moved.0) moved.2, ← height_is (shorter back side.chain ++ moved.0) moved.2) answer_is) refl;
    grows = λ t. all_grow_more side.files (of.files.bytes was.files) (of.files.bytes now.files) (told t) (grows t);
    moved = record { stood = moved.2; crash = moved.4 };
    rose = λ of_link of_relay. rose_of of_link of_relay _ _ _ _ [] refl refl (rose_still _ _ files_same) (rose_still _ _ disk_same);
  }

  -- one that is refused
  refused_tries : (was now : Beneath G A) (side : Side) (back : ℕ) (rest : List Node) (m : Made) (losses : List Deed)
      → (of.files.tells → AllGrow side.files (of.files.bytes was.files)) → (of.files.tells → AllGrow (of.files.bytes was.files) (of.files.bytes now.files)) → Moved of.ledger was.ledger now.ledger side.chain side.chain
      → Tried (StoodAt of.files side.files (of.files.bytes now.files)) side back rest m.moved m.answer m.touched losses side.chain
      → Lost of was now losses
      → Tries of was now side back rest m
  refused_tries was now side back rest m losses told grows moved tried rose = record {
    losses = losses;
    chain = side.chain;
    tried = tried;
    grows = λ t. all_grow_more side.files (of.files.bytes was.files) (of.files.bytes now.files) (told t) (grows t);
    moved = moved;
    rose = rose;
  }

  pub not_made : (was now : Beneath G A) (side : Side) (back : ℕ) (rest forward : List Node) (e : MoveFault) (m : Made)
      → (of.files.tells → AllGrow side.files (of.files.bytes was.files)) → (of.files.tells → AllGrow (of.files.bytes was.files) (of.files.bytes now.files)) → Moved of.ledger was.ledger now.ledger side.chain side.chain
      → IsRefused (StoodAt of.files (of.files.bytes was.files) (of.files.bytes now.files)) side.chain (record { back = back; forward = forward }) e → forward ≡ take max_forward rest
      → (e ≡ stop.ArchiveFailed → RoseBy (of.files.faults was.files) (of.files.faults now.files) 1) → (e ≢ stop.ArchiveFailed → of.files.faults now.files ≡ of.files.faults was.files)
      → of.ledger.faults now.ledger ≡ of.ledger.faults was.ledger → m.moved ≡ false → SaysRefusal e m.answer → m.touched ≡ [] → Tries of was now side back rest m
  not_made was now side back rest forward stop.DiskFailed m told grows moved why is count still disk_same none says apart = absurd says
  not_made was now side back rest forward stop.Memory m told grows moved why is count still disk_same none says apart = absurd says
  not_made was now side back rest forward stop.ArchiveFailed m told grows moved why is count still disk_same none says apart =
      refused_tries was now side back rest m (deed.lost archive ∷ []) told grows moved (failed none refl says apart refl)
      (λ of_link of_relay. rose_of of_link of_relay _ _ _ _ (deed.lost archive ∷ []) refl refl (count refl) (rose_still _ _ disk_same))
  not_made was now side back rest forward (stop.Changed w f) m told grows moved why is count still disk_same none says apart =
      refused_tries was now side back rest m [] told grows moved (refused (stop.Changed w f) (rw is at (refused_weaker (StoodAt of.files (of.files.bytes was.files) (of.files.bytes now.files)) (StoodAt of.files side.files (of.files.bytes now.files)) side.chain (record { back = back; forward = forward }) (stop.Changed w f) (stood_since was.files now.files side told) why)) none refl says apart refl)
      (λ of_link of_relay. rose_of of_link of_relay _ _ _ _ [] refl refl (rose_still _ _ (still (λ e. let bad = e in cc))) (rose_still _ _ disk_same))
  not_made was now side back rest forward (stop.BadBlock h f) m told grows moved why is count still disk_same none says apart =
      refused_tries was now side back rest m [] told grows moved (refused (stop.BadBlock h f) (rw is at (refused_weaker (StoodAt of.files (of.files.bytes was.files) (of.files.bytes now.files)) (StoodAt of.files side.files (of.files.bytes now.files)) side.chain (record { back = back; forward = forward }) (stop.BadBlock h f) (stood_since was.files now.files side told) why)) none refl says apart refl)
      (λ of_link of_relay. rose_of of_link of_relay _ _ _ _ [] refl refl (rose_still _ _ (still (λ e. let bad = e in cc))) (rose_still _ _ disk_same))
  not_made was now side back rest forward (stop.Refused h f) m told grows moved why is count still disk_same none says apart =
      refused_tries was now side back rest m [] told grows moved (refused (stop.Refused h f) (rw is at (refused_weaker (StoodAt of.files (of.files.bytes was.files) (of.files.bytes now.files)) (StoodAt of.files side.files (of.files.bytes now.files)) side.chain (record { back = back; forward = forward }) (stop.Refused h f) (stood_since was.files now.files side told) why)) none refl says apart refl)
      (λ of_link of_relay. rose_of of_link of_relay _ _ _ _ [] refl refl (rose_still _ _ (still (λ e. let bad = e in cc))) (rose_still _ _ disk_same))

  -- the ledger's device failed in a move, or no memory was found to tell of its refusal
  pub broke : {T : Type 0} (r : Result T QueryFault) (was now : Beneath G A) (chain : Chain) (back : ℕ) (rest forward : List Node) (e : QueryFault) → r ≡ Err e → forward ≡ take max_forward rest
      → (e ≡ fault.DiskFailed → (next : Chain) × InFlight (StoodAt of.files (of.files.bytes was.files) (of.files.bytes now.files)) chain (record { back = back; forward = forward }) next
      × CrashLeaves of.ledger was.ledger now.ledger chain next)
      → (e ≡ fault.Memory → Moved of.ledger was.ledger now.ledger chain chain) → MoveFailed of was now e
      → IfErr r (StopsAt of was now chain false (λ (p : Plan). p ≡ plan_of back rest))
  broke {T} r was now chain back rest forward fault.Memory is front broken moved f =
      rw is (still_there of {T = T} (Err fault.Memory) was now chain _ (moved refl) f.archive_rose
      (record { counted = λ e. absurd (let bad = e in cc); uncounted = tt; others_uncounted = λ other. f.disk_same other }))
  broke r was now chain back rest forward fault.DiskFailed is front broken moved f =
      let flight = broken refl in
      rw is (record {
        next = flight.0;
        flight = in_move (plan_of back rest) refl (rw front at (flight_weaker (StoodAt of.files (of.files.bytes was.files) (of.files.bytes now.files)) (StoodBy of.files (of.files.bytes now.files)) chain (record { back = back; forward = forward }) flight.0 (stood_by was.files now.files) flight.1));
        crash = flight.2;
        stood = λ m. absurd (let bad = m in cc);
        losses = deed.lost deed.disk ∷ [];
        fails = by_disk refl refl;
        rose = λ of_link of_relay. rose_of of_link of_relay _ _ _ _ (deed.lost deed.disk ∷ []) refl refl f.archive_rose (f.disk_rose refl);
      })

  -- ---- the sift

  -- a ledger that was moved, and then asked
  then_asked : (old mid new : G) (chain next : Chain) → LeavesOwn of.ledger → of.ledger.is_live mid → Moved of.ledger old mid chain next → Asked of.ledger mid new → Moved of.ledger old new chain next
  then_asked old mid new chain next own live moved asked = record {
    stood = asked.stays.still_stands next moved.stood;
    crash = λ told. joined of.ledger.moment of.ledger.left_since old mid new (Either of.ledger.means chain next) (moved.crash told)
        (weaker of.ledger.moment of.ledger.left_since mid new (λ d. of.ledger.means d next) (Either of.ledger.means chain next) (λ d m. inr m)
        (asked_leaves of.ledger mid new live own asked told next moved.stood));
  }

  -- what the node is told of a move that isn't made
  tells_word : (was now : Beneath G A) (rest : List Node) (e : MoveFault) (m : Made) → of.files.faults now.files ≡ of.files.faults was.files → of.ledger.faults now.ledger ≡ of.ledger.faults was.ledger
      → move_refused e ≡ Some m.answer → m.left ≡ [] → TellsMove of was now rest m
  tells_word was now rest e m files_same disk_same says none = record {
    losses = [];
    says = of_ledger (rw none (side_of.refused e says)) refl;
    rose = λ of_link of_relay. rose_of of_link of_relay _ _ _ _ [] refl refl (rose_still _ _ files_same) (rose_still _ _ disk_same);
  }

  pub tells_refusal : (was now : Beneath G A) (rest : List Node) (e : MoveFault) (m : Made) → (e ≡ stop.ArchiveFailed → RoseBy (of.files.faults was.files) (of.files.faults now.files) 1)
      → (e ≢ stop.ArchiveFailed → of.files.faults now.files ≡ of.files.faults was.files) → of.ledger.faults now.ledger ≡ of.ledger.faults was.ledger → SaysRefusal e m.answer → m.left ≡ []
      → TellsMove of was now rest m
  tells_refusal was now rest stop.DiskFailed m count still disk_same says none = absurd says
  tells_refusal was now rest stop.Memory m count still disk_same says none = absurd says
  tells_refusal was now rest stop.ArchiveFailed m count still disk_same says none = record {
    losses = deed.lost archive ∷ [];
    says = files_failed says none refl;
    rose = λ of_link of_relay. rose_of of_link of_relay _ _ _ _ (deed.lost archive ∷ []) refl refl (count refl) (rose_still _ _ disk_same);
  }
  tells_refusal was now rest (stop.Changed w f) m count still disk_same says none = tells_word was now rest (stop.Changed w f) m (still (λ e. let bad = e in cc)) disk_same says none
  tells_refusal was now rest (stop.BadBlock h f) m count still disk_same says none = tells_word was now rest (stop.BadBlock h f) m (still (λ e. let bad = e in cc)) disk_same says none
  tells_refusal was now rest (stop.Refused h f) m count still disk_same says none = tells_word was now rest (stop.Refused h f) m (still (λ e. let bad = e in cc)) disk_same says none

  -- a move of a side that is unsure
  pub unsure_settled : (was now : Beneath G A) (mid : G) (side : Side) (start : Chain) (back : ℕ) (rest : List Node) (holdings : Holdings) (pool_new : PoolState) (fees_new : List ℕ) (caches caches_new : Caches) (m : Made) (changed : List Hash32) → side.sure ≡ false
      → IsAt of was holdings caches side start → MoveKeeps of was (record now { ledger = mid }) rest m → pool_new.limits ≡ holdings.pool.limits → of.ledger.faults now.ledger ≡ of.ledger.faults mid
      → Leads of (Moving of.files side back rest) side start (left_by was now (record { answer = m.answer; left = m.left; moved = m.touched; changed = changed }) side.found (record holdings { pool = pool_new; fees = fees_new }) caches_new)
  unsure_settled was now mid side start back rest holdings pool_new fees_new caches caches_new m changed un at k limits disk_same = by k.tells.says
    where
      rose_on : Lost of was now k.tells.losses
      rose_on of_link of_relay = rw disk_same (k.tells.rose of_link of_relay)

      grown : of.files.tells → AllGrow side.files (of.files.bytes now.files)
      grown t = all_grow_more side.files (of.files.bytes was.files) (of.files.bytes now.files) (at.told t) (k.keeps t)

      by : SaysMove rest m k.tells.losses
          → Leads of (Moving of.files side back rest) side start (left_by was now (record { answer = m.answer; left = m.left; moved = m.touched; changed = changed }) side.found (record holdings { pool = pool_new; fees = fees_new }) caches_new)
      by (of_ledger may lost) = record {
        losses = k.tells.losses;
        next = record side { ahead = m.left; files = of.files.bytes now.files };
        led = side_of.unsure un m.left (of.files.bytes now.files) grown may refl lost;
        sure_is = refl;
        found_is = refl;
        ahead_is = refl;
        magic_is = refl;
        next_start = side.chain;
        set = record { stood = λ sure. absurd (not_both side sure un); fees = λ sure. absurd (not_both side sure un); computed = λ sure. absurd (not_both side sure un); still = λ e. refl; limits = limits ∙ at.set.limits };
        touches = λ sure. absurd (not_both side sure un);
        went = λ sure. absurd (not_both side sure un);
        told = λ t. all_grow_none (of.files.bytes now.files);
        rose = rose_on;
      }
      by (files_failed says none lost) = record {
        losses = k.tells.losses;
        next = record side { kept = sift side.chain side.kept; ahead = []; files = of.files.bytes now.files };
        led = side_of.fails (of.files.bytes now.files) grown says refl lost;
        sure_is = refl;
        found_is = refl;
        ahead_is = none;
        magic_is = refl;
        next_start = side.chain;
        set = record { stood = λ sure. absurd (not_both side sure un); fees = λ sure. absurd (not_both side sure un); computed = λ sure. absurd (not_both side sure un); still = λ e. refl; limits = limits ∙ at.set.limits };
        touches = λ sure. absurd (not_both side sure un);
        went = λ sure. absurd (not_both side sure un);
        told = λ t. all_grow_none (of.files.bytes now.files);
        rose = rose_on;
      }

  -- the set was sifted, or a later move is to do it
  pub settled : (was now : Beneath G A) (mid : G) (side : Side) (start : Chain) (back : ℕ) (rest : List Node) (holdings : Holdings) (pool_new : PoolState) (fees_new : List ℕ) (caches caches_mid caches_new : Caches) (m : Made) (changed : List Hash32) (later ends : Bool) (stay : ℕ) → LeavesOwn of.ledger → of.ledger.is_live mid
      → IsSure side → IsAt of was holdings caches side start → (later ≡ false → side.ahead ≡ []) → Tries of was (record now { ledger = mid }) side back rest m → MoveKeeps of was (record now { ledger = mid }) rest m
      → ends ≡ ((length m.left == 0) && (m.moved || later)) → stay ≡ blocks_in (height_of side.chain) - back
      → ((first chain : Chain) → KeptStandFor holdings.pool.entries first side.kept → of.ledger.stands mid chain → (later ≡ false → KeepsUntouched first chain stay m.touched) → ends ≡ true → KeptStandFor pool_new.entries chain (sift chain side.kept)
      × AreChanged first side.kept chain (sift chain side.kept) changed)
      → ((first chain : Chain) → KeptStandFor holdings.pool.entries first side.kept → of.ledger.stands mid chain → (later ≡ false → KeepsUntouched first chain stay m.touched) → IsTableOf holdings.fees holdings.pool.entries → IsTableOf fees_new pool_new.entries)
      → (ends ≡ false → pool_new ≡ holdings.pool) → pool_new.limits ≡ holdings.pool.limits → Asked of.ledger mid now.ledger → of.ledger.faults now.ledger ≡ of.ledger.faults mid
      → CachesStand caches_mid start (shorter (if m.moved then back else 0) side.chain)
      → ((first chain : Chain) → CachesStand caches_mid first chain → of.ledger.stands mid chain → ends ≡ true → CachesStand caches_new chain chain)
      → (ends ≡ false → caches_new ≡ caches_mid)
      → Leads of (Moving of.files side back rest) side start (left_by was now (record { answer = m.answer; left = m.left; moved = m.touched; changed = changed }) side.found (record holdings { pool = pool_new; fees = fees_new }) caches_new)
  settled was now mid side start back rest holdings pool_new fees_new caches caches_mid caches_new m changed later ends stay own live sure at still t k is stay_is sifts follows_fees same limits asked disk_same taken follows stays = by t.tried t.moved t.rose
    where
      rose_on : (losses : List Deed) → Lost of was (record now { ledger = mid }) losses
          → Lost of was now losses
      rose_on losses rose of_link of_relay = rw disk_same (rose of_link of_relay)

      -- where no move was made, the caches are of the chain: they have followed it, or the line began there
      unmoved : m.moved ≡ false → CachesStand caches_mid start side.chain
      unmoved no_moved = subst (λ (c : Chain). CachesStand caches_mid start c) (none_back side.chain) (rw no_moved at taken)

      -- the first move of a line reaches from the chain that the set stands for
      from_start : (chain : Chain) → KeepsUntouched side.chain chain stay m.touched → later ≡ false → KeepsUntouched start chain stay m.touched
      from_start chain beyond is_first = subst (λ (c : Chain). KeepsUntouched c chain stay m.touched) (sym (at.set.still (still is_first))) beyond

      unreached : later ≡ false → KeepsUntouched start side.chain stay m.touched
      unreached = from_start side.chain (none_reaches side.chain side.chain m.touched stay refl)

      stand_on : (b : Bool) → later ≡ b → ends ≡ later → m.moved ≡ false → of.ledger.stands mid side.chain → CachesStand caches_new side.chain side.chain
      stand_on true is_later ended no_moved stood = follows start side.chain (unmoved no_moved) stood (ended ∙ is_later)
      stand_on false is_first ended no_moved stood = rw (stays (ended ∙ is_first)) (rw (at.set.still (still is_first)) at (unmoved no_moved))

      by : {losses : List Deed} {chain : Chain} → Tried (StoodAt of.files side.files (of.files.bytes now.files)) side back rest m.moved m.answer m.touched losses chain → Moved of.ledger was.ledger mid side.chain chain
          → Lost of was (record now { ledger = mid }) losses
          → Leads of (Moving of.files side back rest) side start (left_by was now (record { answer = m.answer; left = m.left; moved = m.touched; changed = changed }) side.found (record holdings { pool = pool_new; fees = fees_new }) caches_new)
      by {losses} {chain} (made blocks moves touched yes_moved chain_is answer_is lost) moved rose =
          let left_is : m.left ≡ left_of rest = k.left ∙ rw yes_moved refl in
          let stood : of.ledger.stands mid (shorter back side.chain ++ blocks) = rw chain_is at moved.stood in
          let there : CachesStand caches_mid start (shorter back side.chain ++ blocks) = put_in caches_mid start (shorter back side.chain) blocks (rw yes_moved at taken) in
          let reached = from_start (shorter back side.chain ++ blocks) (move_reaches (plan_of back rest) side.chain blocks m.touched stay stay_is touched) in
          let ended : left_of rest ≡ [] → ends ≡ true = λ none. ends_whole (left_of rest) m.left m.moved later ends is yes_moved left_is none in
          record {
            losses = losses;
            next = record side {
              chain = shorter back side.chain ++ blocks;
              kept = kept_after (left_of rest) (shorter back side.chain ++ blocks) side.kept;
              ahead = left_of rest;
              files = of.files.bytes now.files;
            };
            led = side_of.commits (of.files.bytes now.files) blocks t.grows moves refl (rw chain_is at answer_is) lost;
            sure_is = refl;
            found_is = refl;
            ahead_is = left_is;
            magic_is = refl;
            next_start = start_after (left_of rest) (shorter back side.chain ++ blocks) start;
            set = set_moved (left_of rest) (shorter back side.chain ++ blocks) start (of.files.bytes now.files) holdings pool_new fees_new caches caches_new side at.set limits (λ s. follows_fees start (shorter back side.chain ++ blocks) (at.set.stood sure) stood reached (at.set.fees sure))
                (λ none. ((sifts start (shorter back side.chain ++ blocks) (at.set.stood sure) stood reached (ended none)).0, follows start (shorter back side.chain ++ blocks) there stood (ended none)))
                (λ n ns some. let goes_on = ends_not n ns m.left m.moved later ends is (left_is ∙ some) in (same goes_on, rw (stays goes_on) there));
            touches = λ s. touches_moved (left_of rest) (shorter back side.chain ++ blocks) start (of.files.bytes now.files) side m.touched changed
                (move_keeps (plan_of back rest) side.chain blocks m.touched touched) (λ none. (sifts start (shorter back side.chain ++ blocks) (at.set.stood sure) stood reached (ended none)).1);
            went = λ s. then_asked was.ledger mid now.ledger side.chain (shorter back side.chain ++ blocks) own live (rw chain_is at moved) asked;
            told = λ t. all_grow_none (of.files.bytes now.files);
            rose = rose_on losses rose;
          }
      by {losses} {chain} (refused e why no_moved chain_is says apart lost) moved rose =
          let left_is : m.left ≡ [] = k.left ∙ rw no_moved refl in
          let ended = ends_later m.left m.moved later ends is no_moved left_is in
          let moved_on : Moved of.ledger was.ledger mid side.chain side.chain = rw chain_is at moved in
          record {
            losses = losses;
            next = record side { kept = sift side.chain side.kept; ahead = []; files = of.files.bytes now.files };
            led = side_of.refuses (of.files.bytes now.files) e t.grows says why refl lost;
            sure_is = refl;
            found_is = refl;
            ahead_is = left_is;
            magic_is = refl;
            next_start = side.chain;
            set = set_refused later start (of.files.bytes now.files) holdings pool_new fees_new caches caches_new side sure at.set still limits (λ s. follows_fees start side.chain (at.set.stood sure) moved_on.stood unreached (at.set.fees sure))
                (λ yes_later. (sifts start side.chain (at.set.stood sure) moved_on.stood unreached (ended ∙ yes_later)).0) (λ no_later. same (ended ∙ no_later))
                (stand_on later refl ended no_moved moved_on.stood);
            touches = λ s. touches_refused later start (of.files.bytes now.files) holdings caches side m.touched changed sure at.set still
                (λ yes_later. (sifts start side.chain (at.set.stood sure) moved_on.stood unreached (ended ∙ yes_later)).1);
            went = λ s. then_asked was.ledger mid now.ledger side.chain side.chain own live moved_on asked;
            told = λ t. all_grow_none (of.files.bytes now.files);
            rose = rose_on losses rose;
          }
      by {losses} {chain} (failed no_moved chain_is says apart lost) moved rose =
          let left_is : m.left ≡ [] = k.left ∙ rw no_moved refl in
          let ended = ends_later m.left m.moved later ends is no_moved left_is in
          let moved_on : Moved of.ledger was.ledger mid side.chain side.chain = rw chain_is at moved in
          record {
            losses = losses;
            next = record side { kept = sift side.chain side.kept; ahead = []; files = of.files.bytes now.files };
            led = side_of.fails (of.files.bytes now.files) t.grows says refl lost;
            sure_is = refl;
            found_is = refl;
            ahead_is = left_is;
            magic_is = refl;
            next_start = side.chain;
            set = set_refused later start (of.files.bytes now.files) holdings pool_new fees_new caches caches_new side sure at.set still limits (λ s. follows_fees start side.chain (at.set.stood sure) moved_on.stood unreached (at.set.fees sure))
                (λ yes_later. (sifts start side.chain (at.set.stood sure) moved_on.stood unreached (ended ∙ yes_later)).0) (λ no_later. same (ended ∙ no_later))
                (stand_on later refl ended no_moved moved_on.stood);
            touches = λ s. touches_refused later start (of.files.bytes now.files) holdings caches side m.touched changed sure at.set still
                (λ yes_later. (sifts start side.chain (at.set.stood sure) moved_on.stood unreached (ended ∙ yes_later)).1);
            went = λ s. then_asked was.ledger mid now.ledger side.chain side.chain own live moved_on asked;
            told = λ t. all_grow_none (of.files.bytes now.files);
            rose = rose_on losses rose;
          }

  -- the sift failed
  pub unsettled : {T : Type 0} (r : Result T QueryFault) (e : QueryFault) (was now : Beneath G A) (mid : G) (side : Side) (back : ℕ) (rest : List Node) (m : Made) (later : Bool) → r ≡ Err e → LeavesOwn of.ledger
      → of.ledger.is_live mid → Tries of was (record now { ledger = mid }) side back rest m → (m.moved ≡ false → later ≡ true) → Asked of.ledger mid now.ledger
      → (e ≡ fault.DiskFailed → RoseBy (of.ledger.faults mid) (of.ledger.faults now.ledger) 1) → (e ≢ fault.DiskFailed → of.ledger.faults now.ledger ≡ of.ledger.faults mid)
      → IfErr r (StopsAt of was now side.chain later (λ (p : Plan). p ≡ plan_of back rest))
  unsettled r e was now mid side back rest m later is own live t only asked counted others = rw is (by t.tried t.moved t.rose)
    where
      lost_in : QueryFault → List Deed
      lost_in fault.DiskFailed = deed.lost deed.disk ∷ []
      lost_in fault.Memory = []

      rose_in : (e : QueryFault) → (e ≡ fault.DiskFailed → RoseBy (of.ledger.faults mid) (of.ledger.faults now.ledger) 1) → (e ≢ fault.DiskFailed → of.ledger.faults now.ledger ≡ of.ledger.faults mid)
          → Lost of (record now { ledger = mid }) now (lost_in e)
      rose_in fault.DiskFailed counted others of_link of_relay = rose_of of_link of_relay _ _ _ _ (deed.lost deed.disk ∷ []) refl refl (rose_still _ _ refl) (counted refl)
      rose_in fault.Memory counted others of_link of_relay = rose_of of_link of_relay _ _ _ _ [] refl refl (rose_still _ _ refl) (rose_still _ _ (others (λ e. let bad = e in cc)))

      stops : (losses : List Deed) (next : Chain) → IsUnderWay (StoodBy of.files (of.files.bytes now.files)) side.chain (λ (p : Plan). p ≡ plan_of back rest) next
          → Moved of.ledger was.ledger mid side.chain next → Lost of was (record now { ledger = mid }) losses
          → FailsBy later side.chain next e (losses ++ lost_in e) → StopsAt of was now side.chain later (λ (p : Plan). p ≡ plan_of back rest) e
      stops losses next flight moved rose fails = record {
        next = next;
        flight = flight;
        crash = (then_asked was.ledger mid now.ledger side.chain next own live moved asked).crash;
        stood = λ memory. then_asked was.ledger mid now.ledger side.chain next own live moved asked;
        losses = losses ++ lost_in e;
        fails = fails;
        rose = λ of_link of_relay. all_rose_on (failed_beneath of of_link of_relay was) (failed_beneath of of_link of_relay (record now { ledger = mid })) (failed_beneath of of_link of_relay now) losses (lost_in e)
            (rose of_link of_relay) (rose_in e counted others of_link of_relay);
      }

      alone : (e : QueryFault) (next : Chain) → FailsBy later side.chain next e (lost_in e)
      alone fault.DiskFailed next = by_disk refl refl
      alone fault.Memory next = by_memory refl refl

      after_files : (e : QueryFault) → later ≡ true → FailsBy later side.chain side.chain e (deed.lost archive ∷ lost_in e)
      after_files fault.DiskFailed yes_later = in_sift yes_later refl refl refl
      after_files fault.Memory yes_later = untold yes_later refl refl refl

      by : {losses : List Deed} {chain : Chain} → Tried (StoodAt of.files side.files (of.files.bytes now.files)) side back rest m.moved m.answer m.touched losses chain → Moved of.ledger was.ledger mid side.chain chain
          → Lost of was (record now { ledger = mid }) losses
          → StopsAt of was now side.chain later (λ (p : Plan). p ≡ plan_of back rest) e
      by {losses} {chain} (made blocks moves touched yes_moved chain_is answer_is lost) moved rose =
          let by_then : (n : Node) (u : List ℕ) → StoodAt of.files side.files (of.files.bytes now.files) n u → StoodBy of.files (of.files.bytes now.files) n u =
          λ n u stood. stood_up_to of.files side.files (of.files.bytes now.files) (of.files.bytes now.files) n u (λ tl. all_grow_none (of.files.bytes now.files)) stood in
          let moves_then = moves_weaker (StoodAt of.files side.files (of.files.bytes now.files)) (StoodBy of.files (of.files.bytes now.files)) side.chain (plan_of back rest) blocks by_then moves in
          stops losses chain (in_move (plan_of back rest) refl (inr (blocks, moves_then, chain_is))) moved rose (rw lost (alone e chain))
      by {losses} {chain} (refused f why no_moved chain_is says apart lost) moved rose = stops losses chain (before chain_is) moved rose (rw lost (alone e chain))
      by {losses} {chain} (failed no_moved chain_is says apart lost) moved rose = stops losses chain (before chain_is) moved rose (rw (lost, chain_is) (after_files e (only no_moved)))

  -- ---- what the step keeps

  pub step_failed : (r : Result Step QueryFault) (e : QueryFault) (was now : Beneath G A) (later : Bool) → r ≡ Err e → MoveFailed of was now e → NodeStep of was now later r
  step_failed r e was now later is f = rw is (record {
    live = tt;
    still_live = λ m. f.still_live (same_fault e fault.Memory m);
    nodes = tt;
    linked = tt;
    keeps = f.keeps;
    archive_more = omega (arith, f.archive_rose);
    archive_rose = inl f.archive_rose;
    disk_rose = record { counted = λ m. f.disk_rose (same_fault e fault.DiskFailed m); uncounted = tt; others_uncounted = λ other. f.disk_same other };
    beside = f.beside;
  })
    where
      same_fault : (x y : QueryFault) → ◌≡◌ {A = Result Step QueryFault} (Err x) (Err y) → x ≡ y
      same_fault x y m = cc

  more_files : (a b : A) (P : Type 0) → RoseBy (of.files.faults a) (of.files.faults b) 0 ⊎ (P × RoseBy (of.files.faults a) (of.files.faults b) 1) → of.files.faults a ≤ of.files.faults b
  more_files a b P (inl none) = omega (arith, none)
  more_files a b P (inr one) = omega (arith, one.1)

  pub step_settled : (answer : NodeAnswer) (moved changed : List Hash32) (was now : Beneath G A) (mid : G) (rest : List Node) (m : Made) (later : Bool) → MoveKeeps of was (record now { ledger = mid }) rest m → Asked of.ledger mid now.ledger
      → of.ledger.faults now.ledger ≡ of.ledger.faults mid → NodeStep of was now later (Ok (record { answer = answer; left = m.left; moved = moved; changed = changed }))
  step_settled answer moved changed was now mid rest m later k asked disk_same = record {
    live = asked.stays.still_live k.live;
    still_live = λ bad. absurd (let e = bad in cc);
    nodes = k.nodes;
    linked = rw asked.stays.same_tip k.linked;
    keeps = k.keeps;
    archive_more = more_files was.files now.files (m.moved ≡ false) k.archive_rose;
    archive_rose = tt;
    disk_rose = record { counted = λ bad. absurd (let e = bad in cc); uncounted = disk_same ∙ k.disk_same; others_uncounted = tt };
    beside = λ told. asked.below.files told ∙ k.beside told;
  }

  pub step_unsettled : (r : Result Step QueryFault) (e : QueryFault) (was now : Beneath G A) (mid : G) (rest : List Node) (m : Made) (later : Bool) → r ≡ Err e → MoveKeeps of was (record now { ledger = mid }) rest m
      → Asked of.ledger mid now.ledger → (m.moved ≡ false → later ≡ true) → (e ≡ fault.DiskFailed → RoseBy (of.ledger.faults mid) (of.ledger.faults now.ledger) 1)
      → (e ≢ fault.DiskFailed → of.ledger.faults now.ledger ≡ of.ledger.faults mid) → NodeStep of was now later r
  step_unsettled r e was now mid rest m later is k asked only counted others = rw is (record {
    live = tt;
    still_live = λ memory. asked.stays.still_live k.live;
    nodes = tt;
    linked = tt;
    keeps = k.keeps;
    archive_more = more_files was.files now.files (m.moved ≡ false) k.archive_rose;
    archive_rose = rose k.archive_rose;
    disk_rose = record { counted = λ bad. rw k.disk_same at (counted (same_fault e fault.DiskFailed bad)); uncounted = tt; others_uncounted = λ other. others other ∙ k.disk_same };
    beside = λ told. asked.below.files told ∙ k.beside told;
  })
    where
      same_fault : (x y : QueryFault) → ◌≡◌ {A = Result Step QueryFault} (Err x) (Err y) → x ≡ y
      same_fault x y bad = cc

      rose : RoseBy (of.files.faults was.files) (of.files.faults now.files) 0 ⊎ ((m.moved ≡ false) × RoseBy (of.files.faults was.files) (of.files.faults now.files) 1)
          → RoseWith later (λ n. RoseBy (of.files.faults was.files) (of.files.faults now.files) n)
      rose (inl none) = inl none
      rose (inr one) = inr (only one.0, one.1)

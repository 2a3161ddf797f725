-- What steps leave of a ledger and of block files, of which only the traits are known.
use Rattle.std.specs.Prelude.{OnErr}
use Rattle.std.proofs.Common.{◌≡◌, ◌≢◌, inl, Bool, false, ℕ, ◌≤◌, arith, List, [], ◌∷◌, ◌++◌, drop, Option, Some, Result, Ok, Err, refl, sym, ap, ◌∙◌}
use Rattle.std.specs.Result.{IfOk, IfErr}
use Rattle.el_base.specs.declared.hash.Hash32.{Hash32}
use Rattle.el_outside.specs.Counts.{CountsOnly, RoseBy}
use Rattle.el_side.specs.Deeds as deed
use Rattle.el_side.specs.Deeds.{Device, Deed, link, archive, disk, relay, failures, faults}
use Rattle.el_outside.specs.Files.{AllGrow}
use Rattle.el_outside.specs.Seen.{WasSeen}
use Rattle.el_outside.specs.declared.archive.Archive as archives
use Rattle.el_chain.specs.declared.node.Node.{Node}
use Rattle.el_chain.specs.declared.moves.MoveFault.{MoveFault}
use Rattle.el_chain.specs.declared.moves.MoveFault.TheVariants as stop
use Rattle.el_chain.specs.declared.moves.Plan.{Plan}
use Rattle.el_chain.specs.Chains.{Chain}
use Rattle.el_chain.specs.Moves.{StoodBy, max_back}
use Rattle.el_side.specs.UnderWay.{IsUnderWay, before, in_move}
use Rattle.el_model.specs.LedgerCalls.{Asked, Moved}
use Rattle.el_lines.specs.Lines.{line}
use Rattle.el_lines.specs.declared.node_answer.NodeAnswer.{NodeAnswer}
use Rattle.el_lines.specs.declared.node_answer.NodeAnswer.TheVariants as say
use Rattle.el_lines.specs.declared.node_answer.NodeRefusal.TheVariants as refusal
use Rattle.el_lines.specs.NodeLines as line_said
use Rattle.el_lines.specs.NodeLines.{NodeLine, ReadsNodeLine}
use Rattle.el_side.specs.Plans.{back_of, rest_of, IsMoving, plan_of}
use Rattle.el_side.specs.Side as side_of
use Rattle.el_side.proofs.Settled.{not_both}
use Rattle.el_side.specs.Side.{Side, IsSure, GoesAlong, Looks, Moving, Orders, OrdersLine, found_answer, found_after}
use Rattle.el_model.proofs.LedgerMoves.{LeavesOwn, asked_then, moved_then}
use Rattle.el_tx.specs.declared.types.Tx.{Tx}
use Rattle.el_mempool.specs.Standing.{AreChanged, PoolState, KeptStandFor}
use Rattle.el_fees.specs.Tables.{IsTableOf}
use Rattle.el_side.specs.declared.caches.Caches.{Caches}
use Rattle.el_side.specs.declared.holdings.Holdings.{Holdings}
use Rattle.el_status.proofs.Sides.{looks_self}
use Rattle.el_status.proofs.Stays.{status_stays}
use Rattle.el_status.specs.Statuses.{status}
use Rattle.el_side.specs.Beneath.{Beneath, Ghosts}
use Rattle.el_side.specs.NodeSteps.{IsAt, Leads, SetStands, StepLeft, Touches}
use Rattle.el_sync.specs.Steps.{IsFrom, NodeStep, RoseWith, StopsAt, by_disk, by_memory}
use Rattle.el_sync.specs.within.Parts.{IsPathMove, Looked, SaysRefusal, StandsAfter}
use Rattle.el_model.specs.declared.fault.QueryFault.{QueryFault}
use Rattle.el_model.specs.declared.fault.QueryFault.TheVariants as fault
use Rattle.el_sync.specs.declared.moving.Step.{Step}
use Rattle.el_side.proofs.Deeds.{rose_still, rose_of}
use Rattle.el_outside.proofs.Traces.{all_grow_none, all_grow_more}

-- ---- block files that only grow

pub seen_before : {A : Type 0} (of_files : archives.Ghosts A) (a b after : ℕ → List ℕ) (file : ℕ) (bytes : List ℕ) → AllGrow a b → WasSeen of_files b after file bytes
    → WasSeen of_files a after file bytes
seen_before of_files a b after file bytes grew w = record {
  archive = w.archive;
  between = record { grew = all_grow_more a b (of_files.bytes w.archive) grew w.between.grew; grows = w.between.grows };
  is = w.is;
}

pub if_err_map : {T E : Type 0} (r : Result T E) (P Q : E → Type 0) → ((x : E) → P x → Q x) → IfErr r P → IfErr r Q
if_err_map (Ok x) P Q f h = tt
if_err_map (Err e) P Q f h = f e h

pub memory_of : {T : Type 0} (r : Result T QueryFault) (e : QueryFault) → r ≡ Err e → e ≡ fault.Memory → IfErr r (λ x. x ≡ fault.Memory)
memory_of r e is memory = rw is memory

-- a fault that is told has not come of the ledger's device
pub not_disk : (e : MoveFault) (answer : NodeAnswer) → SaysRefusal e answer → e ≡ stop.DiskFailed → ⊥
not_disk e answer says is = let h = rw is at says in h

-- the set of a side that has left nothing to do stands over its chain
pub stands_there : (holdings : Holdings) (caches : Caches) (side : Side) (start : Chain) → IsSure side → SetStands holdings caches side start → side.ahead ≡ [] → KeptStandFor holdings.pool.entries side.chain side.kept
stands_there holdings caches side start sure set still = rw (set.still still) at (set.stood sure)

-- where chain and kept ones stay, nothing is touched
pub touches_none : (side next : Side) (start : Chain) (moved changed : List Hash32) → next.chain ≡ side.chain → next.kept ≡ side.kept → Touches side start next start moved changed
touches_none side next start moved changed chain kept = record {
  status_stays = λ s out apart looks. rw kept refl;
  looks = λ s out apart looks. rw chain looks;
}

-- where other transactions are kept over the same chain, those are that changed
pub touches_kept : (side : Side) (start : Chain) (kept : List Tx) (moved changed : List Hash32) → start ≡ side.chain → AreChanged side.chain side.kept side.chain kept changed
    → Touches side start (record side { kept = kept }) side.chain moved changed
touches_kept side start kept moved changed is change = record {
  status_stays = λ s out apart looks.
      status_stays side.chain side.chain side.kept kept changed s (looks_self side.chain s.0) change apart ∙ ap (λ (c : Chain). status c side.kept s.0) (sym is);
  looks = λ s out apart looks. looks_self side.chain s.0;
}

-- what a line says, after which other transactions are kept
pub said_after : {A : Type 0} {of_files : archives.Ghosts A} (pool : PoolState) (side : Side) (changed : List Hash32) (answer : NodeAnswer) (bytes : List ℕ) (said : NodeLine) (losses : List Deed) → ReadsNodeLine bytes said
    → StandsAfter pool side changed (Orders of_files side (Some said) answer losses) → StandsAfter pool side changed (OrdersLine of_files side (line bytes) answer losses)
said_after pool side changed answer bytes said losses reads after = record { kept = after.kept; done = (Some said, reads, after.done); stood = after.stood; changes = after.changes }

-- the first move along a path of a side that is unsure
pub unsure_moves : {A : Type 0} (of_files : archives.Ghosts A) (side next : Side) (path rest : List Node) (back same : ℕ) (answer : NodeAnswer) (losses : List Deed) → side.sure ≡ false → back ≤ max_back
    → rest ≡ drop same path → IsMoving back rest → Moving of_files side back rest answer losses next → GoesAlong of_files side path answer losses next
unsure_moves of_files side next path rest back same answer losses un few is moving move =
    side_of.unsure un back same (side_of.moves few (rw is at moving) (rw is at move))

-- the first move along a path, where the path and the chain were compared
pub along_moves : {A : Type 0} (of_files : archives.Ghosts A) (side next : Side) (path rest : List Node) (back : ℕ) (answer : NodeAnswer) (losses : List Deed) → back ≤ max_back
    → back ≡ back_of side.chain path → rest ≡ rest_of side.chain path → IsMoving back rest → Moving of_files side back rest answer losses next → GoesAlong of_files side path answer losses next
along_moves of_files side next path rest back answer losses few is rest_is moving move =
    side_of.moves (rw (← is) few) (rw (is, rest_is) at moving) (rw (is, rest_is) at move)

module _ {G A : Type 0} (of : Ghosts G A) where
  -- ---- steps that are done

  -- a line that is only answered
  pub answered : (side : Side) (start : Chain) (leads : NodeAnswer → List Deed → Side → Type 0) (left : StepLeft G A) → IsAt of left.was left.holdings left.caches side start → side.ahead ≡ [] → leads left.answer [] side
      → left.found ≡ side.found → left.ahead ≡ [] → (of.files.tells → AllGrow (of.files.bytes left.was.files) (of.files.bytes left.now.files))
      → (IsSure side → Moved of.ledger left.was.ledger left.now.ledger side.chain side.chain) → of.files.faults left.now.files ≡ of.files.faults left.was.files → of.ledger.faults left.now.ledger ≡ of.ledger.faults left.was.ledger
      → Leads of leads side start left
  answered side start leads left at still led same none grows went files_same disk_same = record {
    losses = [];
    next = side;
    led = led;
    sure_is = refl;
    found_is = same;
    ahead_is = none ∙ sym still;
    magic_is = refl;
    next_start = start;
    set = at.set;
    touches = λ sure. touches_none side side start left.moved left.changed refl refl;
    went = went;
    told = λ t. all_grow_more side.files (of.files.bytes left.was.files) (of.files.bytes left.now.files) (at.told t) (grows t);
    rose = λ of_link of_relay. rose_of of_link of_relay _ _ _ _ [] refl refl (rose_still _ _ files_same) (rose_still _ _ disk_same);
  }

  -- one of a side that is unsure, after which the set may hold anything
  pub unsure_leads : (side : Side) (start : Chain) (holdings : Holdings) (leads : NodeAnswer → List Deed → Side → Type 0) (left : StepLeft G A) → side.sure ≡ false → IsAt of left.was holdings left.caches side start
      → side.ahead ≡ [] → leads left.answer [] side → left.found ≡ side.found → left.ahead ≡ [] → left.holdings.pool.limits ≡ holdings.pool.limits → left.now.files ≡ left.was.files
      → of.ledger.faults left.now.ledger ≡ of.ledger.faults left.was.ledger → Leads of leads side start left
  unsure_leads side start holdings leads left un at still led same none limits files_same disk_same = record {
    losses = [];
    next = side;
    led = led;
    sure_is = refl;
    found_is = same;
    ahead_is = none ∙ sym still;
    magic_is = refl;
    next_start = start;
    set = record { stood = λ sure. absurd (not_both side sure un); fees = λ sure. absurd (not_both side sure un); computed = λ sure. absurd (not_both side sure un); still = at.set.still; limits = limits ∙ at.set.limits };
    touches = λ sure. absurd (not_both side sure un);
    went = λ sure. absurd (not_both side sure un);
    told = rw files_same at.told;
    rose = λ of_link of_relay. rose_of of_link of_relay _ _ _ _ [] refl refl (rose_still _ _ (ap of.files.faults files_same)) (rose_still _ _ disk_same);
  }

  -- one of a sure side, after which other transactions are kept
  pub kept_leads : (side : Side) (start : Chain) (holdings : Holdings) (leads : NodeAnswer → List Deed → Side → Type 0) (answer : NodeAnswer) (changed : List Hash32) (left : StepLeft G A)
      → IsSure side → IsAt of left.was holdings left.caches side start → side.ahead ≡ [] → StandsAfter left.holdings.pool side changed (leads answer []) → IsTableOf left.holdings.fees left.holdings.pool.entries → left.answer ≡ answer → left.found ≡ side.found → left.ahead ≡ []
      → left.changed ≡ changed → left.holdings.pool.limits ≡ holdings.pool.limits → left.now.files ≡ left.was.files
      → Moved of.ledger left.was.ledger left.now.ledger side.chain side.chain → of.ledger.faults left.now.ledger ≡ of.ledger.faults left.was.ledger
      → Leads of leads side start left
  kept_leads side start holdings leads answer changed left sure at still after of_fees says same none tells limits files_same went disk_same = record {
    losses = [];
    next = record side { kept = after.kept };
    led = rw says after.done;
    sure_is = refl;
    found_is = same;
    ahead_is = none ∙ sym still;
    magic_is = refl;
    next_start = side.chain;
    set = record { stood = λ s. after.stood; fees = λ s. of_fees; computed = λ s. rw (at.set.still still) at (at.set.computed s); still = λ e. refl; limits = limits ∙ at.set.limits };
    touches = λ s. touches_kept side start after.kept left.moved left.changed (at.set.still still) (rw tells after.changes);
    went = λ s. went;
    told = rw files_same at.told;
    rose = λ of_link of_relay. rose_of of_link of_relay _ _ _ _ [] refl refl (rose_still _ _ (ap of.files.faults files_same)) (rose_still _ _ disk_same);
  }

  -- what a step leads to it leads to in other words, also where the found headers have another name
  pub leads_in : (side : Side) (start : Chain) (P Q : NodeAnswer → List Deed → Side → Type 0) (left : StepLeft G A) (tree : List Node) → left.found ≡ tree
      → ((losses : List Deed) (next : Side) → P left.answer losses next → Q left.answer losses next) → Leads of P side start left → Leads of Q side start (record left { found = tree })
  leads_in side start P Q left tree same says l = record {
    losses = l.losses;
    next = l.next;
    led = says l.losses l.next l.led;
    sure_is = l.sure_is;
    found_is = sym same ∙ l.found_is;
    ahead_is = l.ahead_is;
    magic_is = l.magic_is;
    next_start = l.next_start;
    set = l.set;
    touches = l.touches;
    went = l.went;
    told = l.told;
    rose = l.rose;
  }

  pub leads_as : (side : Side) (start : Chain) (P Q : NodeAnswer → List Deed → Side → Type 0) (left : StepLeft G A) → ((losses : List Deed) (next : Side) → P left.answer losses next → Q left.answer losses next)
      → Leads of P side start left → Leads of Q side start left
  leads_as side start P Q left says l = leads_in side start P Q left left.found refl says l

  -- a step after the ledger was asked
  pub leads_on : (side : Side) (start : Chain) (P : NodeAnswer → List Deed → Side → Type 0) (left : StepLeft G A) (mid : G) → LeavesOwn of.ledger → of.ledger.is_live left.was.ledger → Asked of.ledger left.was.ledger mid
      → of.ledger.faults mid ≡ of.ledger.faults left.was.ledger → (IsSure side → of.ledger.stands left.was.ledger side.chain)
      → Leads of P side start (record left { was = record left.was { ledger = mid } }) → Leads of P side start left
  leads_on side start P left mid own live asked same stood l = record {
    losses = l.losses;
    next = l.next;
    led = l.led;
    sure_is = l.sure_is;
    found_is = l.found_is;
    ahead_is = l.ahead_is;
    magic_is = l.magic_is;
    next_start = l.next_start;
    set = l.set;
    touches = l.touches;
    went = λ sure. moved_then of.ledger left.was.ledger mid left.now.ledger side.chain l.next.chain own live asked (stood sure) (l.went sure);
    told = l.told;
    rose = rw same at l.rose;
  }

  -- ---- steps that failed

  -- one that has moved nothing
  pub still_there : {T : Type 0} (r : Result T QueryFault) (was now : Beneath G A) (chain : Chain) (is_move : Plan → Type 0) → Moved of.ledger was.ledger now.ledger chain chain
      → RoseBy (of.files.faults was.files) (of.files.faults now.files) 0 → CountsOnly (of.ledger.faults was.ledger) (of.ledger.faults now.ledger) fault.DiskFailed r
      → IfErr r (StopsAt of was now chain false is_move)
  still_there (Ok x) was now chain is_move moved files counts = tt
  still_there (Err fault.DiskFailed) was now chain is_move moved none counts = record {
    next = chain;
    flight = before refl;
    crash = moved.crash;
    stood = λ m. moved;
    losses = deed.lost deed.disk ∷ [];
    fails = by_disk refl refl;
    rose = λ of_link of_relay. rose_of of_link of_relay _ _ _ _ (deed.lost deed.disk ∷ []) refl refl none (counts.counted refl);
  }
  still_there (Err fault.Memory) was now chain is_move moved none counts = record {
    next = chain;
    flight = before refl;
    crash = moved.crash;
    stood = λ m. moved;
    losses = [];
    fails = by_memory refl refl;
    rose = λ of_link of_relay. rose_of of_link of_relay _ _ _ _ [] refl refl none (rose_still _ _ (counts.others_uncounted (λ e. let bad = e in cc)));
  }

  -- no memory was found, and no device of the ledger failed
  pub starved : {T : Type 0} (r : Result T QueryFault) (was now : Beneath G A) (chain : Chain) (is_move : Plan → Type 0) → Moved of.ledger was.ledger now.ledger chain chain → IfErr r (λ e. e ≡ fault.Memory)
      → RoseBy (of.files.faults was.files) (of.files.faults now.files) 0 → of.ledger.faults now.ledger ≡ of.ledger.faults was.ledger
      → IfErr r (StopsAt of was now chain false is_move)
  starved (Ok x) was now chain is_move moved memory rose same = tt
  starved (Err fault.DiskFailed) was now chain is_move moved memory rose same = absurd (let bad = memory in cc)
  starved {T} (Err fault.Memory) was now chain is_move moved memory rose same =
      still_there {T = T} (Err fault.Memory) was now chain is_move moved rose (record { counted = λ e. absurd (let bad = e in cc); uncounted = tt; others_uncounted = λ other. same })

  -- the same where the block files weren't used
  pub starved_still : {T : Type 0} (r : Result T QueryFault) (was : Beneath G A) (new : G) (chain : Chain) (is_move : Plan → Type 0) → Moved of.ledger was.ledger new chain chain → IfErr r (λ e. e ≡ fault.Memory)
      → of.ledger.faults new ≡ of.ledger.faults was.ledger → IfErr r (StopsAt of was (record was { ledger = new }) chain false is_move)
  starved_still r was new chain is_move moved memory same = starved r was (record was { ledger = new }) chain is_move moved memory (rose_still _ _ refl) same

  -- a call of the ledger failed, and the block files weren't used
  pub asked_stops : {T : Type 0} (r : Result T QueryFault) (e : QueryFault) (was : Beneath G A) (new : G) (chain : Chain) (is_move : Plan → Type 0) → r ≡ Err e → Moved of.ledger was.ledger new chain chain
      → (e ≡ fault.DiskFailed → RoseBy (of.ledger.faults was.ledger) (of.ledger.faults new) 1) → (e ≢ fault.DiskFailed → of.ledger.faults new ≡ of.ledger.faults was.ledger)
      → IfErr r (StopsAt of was (record was { ledger = new }) chain false is_move)
  asked_stops {T} r e was new chain is_move is moved counted others =
      rw is (still_there {T = T} (Err e) was (record was { ledger = new }) chain is_move moved (rose_still _ _ refl) (record { counted = λ bad. counted (same_fault e fault.DiskFailed bad); uncounted = tt; others_uncounted = others }))
    where
      same_fault : (x y : QueryFault) → ◌≡◌ {A = Result T QueryFault} (Err x) (Err y) → x ≡ y
      same_fault x y m = cc

  -- the move is one of more
  pub stops_as : (was now : Beneath G A) (chain : Chain) (later : Bool) (P Q : Plan → Type 0) (e : QueryFault) → ((p : Plan) → P p → Q p)
      → StopsAt of was now chain later P e → StopsAt of was now chain later Q e
  stops_as was now chain later P Q e gives s = record {
    next = s.next;
    flight = by s.next s.flight;
    crash = s.crash;
    stood = s.stood;
    losses = s.losses;
    fails = s.fails;
    rose = s.rose;
  }
    where
      by : (next : Chain) → IsUnderWay (StoodBy of.files (of.files.bytes now.files)) chain P next → IsUnderWay (StoodBy of.files (of.files.bytes now.files)) chain Q next
      by next (before is) = before is
      by next (in_move p is flight) = in_move p (gives p is) flight

  pub stops_on : (was now : Beneath G A) (mid : G) (chain : Chain) (later : Bool) (P : Plan → Type 0) (e : QueryFault) → LeavesOwn of.ledger → of.ledger.is_live was.ledger → Asked of.ledger was.ledger mid
      → of.ledger.faults mid ≡ of.ledger.faults was.ledger → of.ledger.stands was.ledger chain → StopsAt of (record was { ledger = mid }) now chain later P e → StopsAt of was now chain later P e
  stops_on was now mid chain later P e own live asked same stood s = record {
    next = s.next;
    flight = s.flight;
    crash = asked_then of.ledger was.ledger mid now.ledger chain s.next own live asked stood s.crash;
    stood = λ m. moved_then of.ledger was.ledger mid now.ledger chain s.next own live asked stood (s.stood m);
    losses = s.losses;
    fails = s.fails;
    rose = rw same at s.rose;
  }

-- the plan of a path's first move
pub path_move : (chain : Chain) (path rest : List Node) (back : ℕ) (p : Plan) → back ≤ max_back → back ≡ back_of chain path → rest ≡ rest_of chain path → IsMoving back rest
    → p ≡ plan_of back rest → IsPathMove chain path p
path_move chain path rest back p few is rest_is moving plan =
    record { few = rw (← is) few; moving = rw (is, rest_is) at moving; plan_is = rw (is, rest_is) at plan }

-- ---- a place that is looked at

module _ {A : Type 0} (of_files : archives.Ghosts A) where
  pub place_there : (a b : A) (side : Side) (file at : ℕ) (node : Option Node) → (of_files.tells → AllGrow side.files (of_files.bytes a)) → (of_files.tells → AllGrow (of_files.bytes a) (of_files.bytes b))
      → side_of.LooksUp of_files (record side { files = of_files.bytes a }) file at node (of_files.bytes b) → side_of.LooksUp of_files side file at node (of_files.bytes b)
  place_there a b side file at node told grows up = record {
    read = up.read;
    grows = λ t. all_grow_more side.files (of_files.bytes a) (of_files.bytes b) (told t) (grows t);
    record_is = λ t.
        let looked = up.record_is t in
        record {
          sized = looked.sized;
          was_sized = seen_before of_files side.files (of_files.bytes a) (of_files.bytes b) file looked.sized (told t) looked.was_sized;
          read = looked.read;
          was_read = seen_before of_files side.files (of_files.bytes a) (of_files.bytes b) file looked.read (told t) looked.was_read;
          is = looked.is;
        };
  }

  pub place_looked : (a b : A) (holdings : Holdings) (side : Side) (file at : ℕ) (node : Option Node) (answer : NodeAnswer) (tree : List Node) → IsFrom holdings side
      → (of_files.tells → AllGrow side.files (of_files.bytes a)) → (of_files.tells → AllGrow (of_files.bytes a) (of_files.bytes b))
      → side_of.LooksUp of_files (record side { files = of_files.bytes a }) file at node (of_files.bytes b) → tree ≡ found_after holdings.tree node
      → answer ≡ found_answer holdings.tree node → of_files.faults b ≡ of_files.faults a → Looked of_files a b side file at answer tree
  place_looked a b holdings side file at node answer tree from told grows up joined says same = record {
    losses = [];
    looks = side_of.looks node (of_files.bytes b) (place_there a b side file at node told grows up)
        (rw from.found says) (rw from.found (ap (λ (found : List Node). record side { found = found; files = of_files.bytes b }) joined)) refl;
    rose = rose_still _ _ same;
  }

  pub place_failed : (a b : A) (holdings : Holdings) (side : Side) (file at : ℕ) (answer : NodeAnswer) (tree : List Node) → IsFrom holdings side
      → (of_files.tells → AllGrow side.files (of_files.bytes a)) → (of_files.tells → AllGrow (of_files.bytes a) (of_files.bytes b)) → tree ≡ holdings.tree → answer ≡ say.Refused refusal.Archive
      → RoseBy (of_files.faults a) (of_files.faults b) 1 → Looked of_files a b side file at answer tree
  place_failed a b holdings side file at answer tree from told grows same says rose = record {
    losses = deed.lost archive ∷ [];
    looks = side_of.fails (of_files.bytes b) (λ t. all_grow_more side.files (of_files.bytes a) (of_files.bytes b) (told t) (grows t)) says
        (ap (λ (found : List Node). record side { found = found; files = of_files.bytes b }) (same ∙ sym from.found)) refl;
    rose = rose;
  }

-- ---- whole lines

module _ {G A : Type 0} (of : Ghosts G A) where
  -- a line that tells a place
  pub block_leads : (side : Side) (start : Chain) (holdings : Holdings) (bytes : List ℕ) (file at : ℕ) (answer : NodeAnswer) (left : StepLeft G A) → IsAt of left.was holdings left.caches side start → side.ahead ≡ []
      → left.holdings ≡ record holdings { tree = left.found } → ReadsNodeLine bytes (line_said.block file at) → Looked of.files left.was.files left.now.files side file at answer left.found → left.answer ≡ answer → left.ahead ≡ []
      → (IsSure side → Moved of.ledger left.was.ledger left.now.ledger side.chain side.chain) → of.ledger.faults left.now.ledger ≡ of.ledger.faults left.was.ledger → Leads of (OrdersLine of.files side (line bytes)) side start left
  block_leads side start holdings bytes file at answer left here still same reads looked says none went disk_same = record {
    losses = looked.losses;
    next = record side { found = left.found; files = of.files.bytes left.now.files };
    led = (Some (line_said.block file at), reads, rw says looked.looks);
    sure_is = refl;
    magic_is = refl;
    found_is = refl;
    ahead_is = none ∙ sym still;
    next_start = start;
    set = rw same (record { stood = here.set.stood; fees = here.set.fees; computed = here.set.computed; still = here.set.still; limits = here.set.limits });
    touches = λ sure. touches_none side (record side { found = left.found; files = of.files.bytes left.now.files }) start left.moved left.changed refl refl;
    went = went;
    told = λ t. all_grow_none (of.files.bytes left.now.files);
    rose = λ of_link of_relay. rose_of of_link of_relay _ _ _ _ looked.losses (archive_alone link looked.looks (λ e. cc)) (archive_alone relay looked.looks (λ e. cc)) looked.rose
        (rw (archive_alone disk looked.looks (λ e. cc)) (rose_still _ _ disk_same));
  }
    where
      archive_alone : (device : Device) {losses : List Deed} {next : Side} → Looks of.files side file at answer losses next → (device ≡ archive → ⊥) → failures device losses ≡ 0
      archive_alone device (side_of.looks found files up says' is lost) other = ap (failures device) lost
      archive_alone link (side_of.fails files g says' is lost) other = ap (failures link) lost
      archive_alone disk (side_of.fails files g says' is lost) other = ap (failures disk) lost
      archive_alone relay (side_of.fails files g says' is lost) other = ap (failures relay) lost
      archive_alone archive (side_of.fails files g says' is lost) other = absurd (other refl)

-- ---- what every step keeps

module _ {G A : Type 0} (of : Ghosts G A) where
  -- a step that didn't use the ledger
  pub step_still : (r : Result Step QueryFault) (was : Beneath G A) (files : A) → of.ledger.is_live was.ledger → IfOk r (λ s. s.left ≡ []) → (of.files.tells → AllGrow (of.files.bytes was.files) (of.files.bytes files))
      → of.files.faults was.files ≤ of.files.faults files → OnErr r (RoseWith false (λ n. RoseBy (of.files.faults was.files) (of.files.faults files) n)) → IfErr r (λ e. e ≡ fault.Memory)
      → NodeStep of was (record was { files = files }) false r
  step_still (Ok s) was files live none grows more rose memory = record {
    live = live;
    still_live = λ e. live;
    nodes = rw none tt;
    linked = rw none tt;
    keeps = grows;
    archive_more = more;
    archive_rose = tt;
    disk_rose = record { counted = λ e. absurd cc; uncounted = refl; others_uncounted = tt };
    beside = λ told. refl;
  }
  step_still (Err e) was files live none grows more rose memory = record {
    live = tt;
    still_live = λ is. live;
    nodes = tt;
    linked = tt;
    keeps = grows;
    archive_more = more;
    archive_rose = rose;
    disk_rose = record { counted = λ is. absurd (by e is memory); uncounted = tt; others_uncounted = λ other. refl };
    beside = λ told. refl;
  }
    where
      by : (e : QueryFault) → ◌≡◌ {A = Result Step QueryFault} (Err e) (Err fault.DiskFailed) → e ≡ fault.Memory → ⊥
      by fault.DiskFailed is m = let bad = m in cc
      by fault.Memory is m = let bad = is in cc

  -- one that asked it, and then only answered
  pub step_asked : (s : Step) (was : Beneath G A) (new : G) → of.ledger.is_live was.ledger → Asked of.ledger was.ledger new → s.left ≡ [] → of.ledger.faults new ≡ of.ledger.faults was.ledger
      → NodeStep of was (record was { ledger = new }) false (Ok s)
  step_asked s was new live asked none same = record {
    live = asked.stays.still_live live;
    still_live = λ e. asked.stays.still_live live;
    nodes = rw none tt;
    linked = rw none tt;
    keeps = λ t. all_grow_none (of.files.bytes was.files);
    archive_more = omega arith;
    archive_rose = tt;
    disk_rose = record { counted = λ e. absurd cc; uncounted = same; others_uncounted = tt };
    beside = asked.below.files;
  }

  -- or failed
  pub step_unmoved : (r : Result Step QueryFault) (e : QueryFault) (was : Beneath G A) (new : G) → r ≡ Err e → of.ledger.is_live was.ledger → Asked of.ledger was.ledger new
      → (e ≡ fault.DiskFailed → RoseBy (of.ledger.faults was.ledger) (of.ledger.faults new) 1) → ((e ≡ fault.DiskFailed → ⊥) → of.ledger.faults new ≡ of.ledger.faults was.ledger)
      → NodeStep of was (record was { ledger = new }) false r
  step_unmoved r e was new is live asked counted others = rw is (record {
    live = tt;
    still_live = λ m. asked.stays.still_live live;
    nodes = tt;
    linked = tt;
    keeps = λ t. all_grow_none (of.files.bytes was.files);
    archive_more = omega arith;
    archive_rose = inl (rose_still _ _ refl);
    disk_rose = record { counted = λ m. counted (same_fault e fault.DiskFailed m); uncounted = tt; others_uncounted = λ other. others other };
    beside = asked.below.files;
  })
    where
      same_fault : (x y : QueryFault) → ◌≡◌ {A = Result Step QueryFault} (Err x) (Err y) → x ≡ y
      same_fault x y m = cc

  -- a step after the ledger was asked
  pub step_on : (was now : Beneath G A) (mid : G) (r : Result Step QueryFault) → Asked of.ledger was.ledger mid → of.ledger.faults mid ≡ of.ledger.faults was.ledger → NodeStep of (record was { ledger = mid }) now false r
      → NodeStep of was now false r
  step_on was now mid r asked same n = record {
    live = n.live;
    still_live = n.still_live;
    nodes = n.nodes;
    linked = n.linked;
    keeps = n.keeps;
    archive_more = n.archive_more;
    archive_rose = n.archive_rose;
    disk_rose = rw same at n.disk_rose;
    beside = λ told. n.beside told ∙ asked.below.files told;
  }

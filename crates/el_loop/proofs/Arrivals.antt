-- An arrival, with all turns that it asks for.
use Rattle.std.proofs.Common.{◌≡◌, inl, inr, ℕ, ◌==◌, false, not, List, [], ◌∷◌, ◌++◌, map, None, refl, sym, ap, ◌∙◌, append_assoc, append-nil, IsTrue}
use Rattle.std.specs.Prelude.{Result, Ok, Err, IfErr, find}
use Rattle.std.specs.List.{filter}
use Rattle.el_outside.specs.declared.archive.Archive as archive
use Rattle.el_outside.specs.Files.{AllGrow}
use Rattle.el_outside.specs.Trace.{Trace, ArrivalWithBytes, opened, brought, closed, quiet, ended, GoesOn, is_new, leaves as left_by}
use Rattle.el_outside.proofs.Traces.{goes_none, arrived_stays_open, new_not_open}
use Rattle.el_chain.specs.Chains.{Chain}
use Rattle.el_side.specs.Side.{Side, IsSure}
use Rattle.el_world.proofs.Sureness.{turns_sure, heard_side}
use Rattle.el_world.specs.World.{World, Session, Event, is_peer, hearing, after_hearing, events, IsStill, AllTold, nothing}
use Rattle.el_world.specs.Run.{Turns, none as no_turns, more, takes, all, Stop, by_memory, unheard, in_turn, MayStarve}
use Rattle.el_lines.proofs.Cuts.{either}
use Rattle.el_core.specs.State.{State}
use Rattle.el_core.specs.Arrivals.{TookArrival, Quietly, none, joined, departed}
use Rattle.el_loop.specs.within.Sending.{AllOpen}
use Rattle.el_loop.specs.within.Progress.{AllGhosts, Snapshot, snapshot, failed, Finished, Stopped, StoppedIn}
use Rattle.el_loop.proofs.Openness.{client_open, some_peer}
use Rattle.el_side.specs.Deeds.{answered}
use Rattle.el_side.proofs.Deeds.{all_rose_none}
use Rattle.el_loop.proofs.Progresses.{turns_then}

-- clients stay open where another peer or nobody leaves
pub all_stay : (s t : Trace) (sessions : List Session) (a : ArrivalWithBytes)
    → ((p : ℕ) → left_by p a ≡ false) → GoesOn s t (a ∷ []) [] [] → AllOpen s sessions → AllOpen t sessions
all_stay s t [] a nobody goes all' = tt
all_stay s t (x ∷ xs) a nobody goes all' =
    (arrived_stays_open s t x.peer a all'.0 (nobody x.peer) goes, all_stay s t xs a nobody goes all'.1)

pub all_but_left : (s t : Trace) (sessions : List Session) (p : ℕ) → GoesOn s t (closed p ∷ []) [] []
    → AllOpen s sessions
    → AllOpen t (filter (λ (session : Session). not (is_peer p session)) sessions)
all_but_left s t [] p goes all' = tt
all_but_left s t (x ∷ xs) p goes all' = elim (either (x.peer == p)) [
  | inl h ↦ rw h (all_but_left s t xs p goes all'.1)
  | inr h ↦ rw h (arrived_stays_open s t x.peer (closed p) all'.0 h goes, all_but_left s t xs p goes all'.1)
]

heard_peer : (p : ℕ) (bytes : List ℕ) (x : Session) → (hearing p bytes x).peer ≡ x.peer
heard_peer p bytes x = elim (either (x.peer == p)) [ inl h ↦ rw h refl | inr h ↦ rw h refl ]

all_heard : (t : Trace) (sessions : List Session) (p : ℕ) (bytes : List ℕ) → AllOpen t sessions
    → AllOpen t (map (hearing p bytes) sessions)
all_heard t [] p bytes all' = tt
all_heard t (x ∷ xs) p bytes all' = (rw (heard_peer p bytes x) all'.0, all_heard t xs p bytes all'.1)

pub all_after : (t : Trace) (world : World) (p : ℕ) (bytes : List ℕ) → AllOpen t world.sessions
    → AllOpen t (after_hearing (brought p bytes) world).sessions
all_after t world p bytes all' = elim (either (p == 0)) [
  | inl h ↦ rw h all'
  | inr h ↦ rw h
      (all_heard t world.sessions p bytes all')
]

-- a new peer is no client
pub not_client : (trace : Trace) (sessions : List Session) (p : ℕ) → IsTrue (is_new trace p)
    → AllOpen trace sessions → some_peer p sessions ≡ false
not_client trace sessions p new all' = elim (either (some_peer p sessions)) [
  | inl h ↦ absurd (let f = client_open trace sessions p h all' in let g = new_not_open trace p new in cc)
  | inr h ↦ h
]

-- events that are done with an arrival, as turns
pub quietly_turns : {A : Type 0} (of_files : archive.Ghosts A) (world : World) (done : List Event)
    (next : World) → IsStill world
    → AllTold world → Quietly world done next → Turns of_files world done [] [] [] next
quietly_turns of_files world done next still told none = no_turns
quietly_turns of_files world done next still told (joined p few) =
    more [] [] [] [] world _ nothing [] next [] [] [] next no_turns
    (takes _ still told refl (rw few (refl, refl, refl))) (all next None)
quietly_turns of_files world done next still told (departed p) =
    more [] [] [] [] world _ nothing [] next [] [] [] next no_turns (takes _ still told refl (refl, refl, refl))
    (all next None)

still_after : (a : ArrivalWithBytes) (world : World) → (after_hearing a world).side.ahead ≡ world.side.ahead
still_after (opened p) world = refl
still_after (brought p bytes) world = elim (either (p == 0)) [ inl h ↦ rw h refl | inr h ↦ rw h refl ]
still_after (closed p) world = refl
still_after quiet world = refl
still_after ended world = refl

-- whoever is heard, nobody is to be told for that
heard_waits : (p : ℕ) (bytes : List ℕ) (x : Session) → (hearing p bytes x).waits ≡ x.waits
heard_waits p bytes x = elim (either (x.peer == p)) [ inl h ↦ rw h refl | inr h ↦ rw h refl ]

none_heard : (p : ℕ) (bytes : List ℕ) (sessions : List Session)
    → find (λ (x : Session). x.waits) sessions ≡ None
    → find (λ (x : Session). x.waits) (map (hearing p bytes) sessions) ≡ None
none_heard p bytes [] nobody = refl
none_heard p bytes (x ∷ xs) nobody = elim (either x.waits) [
  | inl h ↦ absurd (let e = rw h at nobody in cc)
  | inr h ↦ rw (heard_waits p bytes x, h) (none_heard p bytes xs (rw h at nobody))
]

told_after : (a : ArrivalWithBytes) (world : World) → AllTold world → AllTold (after_hearing a world)
told_after (opened p) world told = told
told_after (brought p bytes) world told = elim (either (p == 0)) [
  | inl h ↦ rw h told
  | inr h ↦ rw h (none_heard p bytes world.sessions told)
]
told_after (closed p) world told = told
told_after quiet world told = told
told_after ended world told = told

pub if_err : {T E : Type 0} (P Q : E → Type 0) (r : Result T E) → ((e : E) → P e → Q e) → IfErr r P
    → IfErr r Q
if_err P Q (Ok x) f h = tt
if_err P Q (Err e) f h = f e h

files_after : (a : ArrivalWithBytes) (world : World) → (after_hearing a world).side.files ≡ world.side.files
files_after (opened p) world = refl
files_after (brought p bytes) world = elim (either (p == 0)) [ inl h ↦ rw h refl | inr h ↦ rw h refl ]
files_after (closed p) world = refl
files_after quiet world = refl
files_after ended world = refl

quiet_files : (world : World) (done : List Event) (next : World) → Quietly world done next
    → next.side.files ≡ world.side.files
quiet_files world done next none = refl
quiet_files world done next (joined p few) = refl
quiet_files world done next (departed p) = refl

pub taken_files : {G : Type 0} (stands : G → Chain → Type 0) (a : ArrivalWithBytes) (world : World)
    (s : State G) → (t : TookArrival stands a world s) → t.next.side.files ≡ world.side.files
taken_files stands a world s t = quiet_files (after_hearing a world) t.done t.next t.quietly
    ∙ files_after a world

module _ {G A Y K : Type 0} (of : AllGhosts G A Y K) where
  -- an arrival was taken, and its work is done
  pub arrival_done : (a : ArrivalWithBytes) (world : World) (old taken : State G) (files : A) (y : Y) (k : K)
      (now : Snapshot G A Y K) → IsStill world → AllTold world → taken.ledger ≡ old.ledger
      → (t : TookArrival of.beneath.ledger.stands a world taken)
      → Finished of t.next t.left (snapshot taken files y k) now
      → Finished of (after_hearing a world) (events world a) (snapshot old files y k)
      now
  arrival_done a world old taken files y k now still told same t f =
      let q = quietly_turns of.beneath.files (after_hearing a world) t.done t.next
      (still_after a world ∙ still) (told_after a world told) t.quietly in
      let turns = turns_then of.beneath.files (after_hearing a world) t.next f.world t.done t.left [] f.messages
      []
      f.closings [] f.losses q f.turns in
      record {
        messages = f.messages;
        closings = f.closings;
        losses = f.losses;
        world = f.world;
        turns = rw t.whole turns;
        still = f.still;
        told = f.told;
        statuses = λ sure. f.statuses (turns_sure q ∙ sure);
        stood = f.stood;
        went = record { trace = f.went.trace; rose = rw (← same) f.went.rose; offered = f.went.offered };
        ready = f.ready;
      }

  -- or the run stops in it
  pub arrival_stopped : (leaves : Chain → Chain → Type 0) (a : ArrivalWithBytes) (world : World)
      (old taken : State G) (files : A) (y : Y) (k : K) (now : Snapshot G A Y K) (stop : Stop) → IsStill world
      → AllTold world → taken.ledger ≡ old.ledger → (t : TookArrival of.beneath.ledger.stands a world taken)
      → Stopped of leaves t.next t.left stop (snapshot taken files y k) now
      → StoppedIn of leaves world a stop (snapshot old files y k) now
  arrival_stopped leaves a world old taken files y k now stop still told same t f =
      let q = quietly_turns of.beneath.files (after_hearing a world) t.done t.next
      (still_after a world ∙ still) (told_after a world told) t.quietly in
      let whole = t.whole ∙ ap (λ (l : List Event). t.done ++ l) f.whole
      ∙ sym (append_assoc t.done f.done f.left) in
      let turns = turns_then of.beneath.files (after_hearing a world) t.next f.world t.done f.done [] f.messages
      []
      f.closings [] f.losses q f.turns in
      record {
        messages = f.messages ++ f.sent;
        closings = f.closings ++ f.closed;
        losses = f.losses ++ f.lost;
        stops = in_turn (t.done ++ f.done) f.left f.messages f.sent f.closings f.closed f.losses f.lost
            f.world
            whole turns f.stops refl refl refl;
        grown = f.grown;
        went = record { trace = f.went.trace; rose = rw (← same) f.went.rose; offered = f.went.offered };
        flight = f.flight;
        is_flight = f.is_flight;
        crash = λ sure. f.crash (turns_sure q ∙ ap (λ (s : Side). s.sure) (heard_side a world) ∙ sure);
      }

  -- no memory was found for the node's bytes, or for a new client
  pub arrival_lost : (leaves : Chain → Chain → Type 0) (a : ArrivalWithBytes) (world : World)
      (now : Snapshot G A Y K) → MayStarve a
      → (of.beneath.files.tells → AllGrow world.side.files (of.beneath.files.bytes now.files))
      → (IsSure world.side → leaves world.side.chain world.side.chain)
      → StoppedIn of leaves world a by_memory now now
  arrival_lost leaves a world now may grows crash = record {
    messages = [];
    closings = [];
    losses = [];
    stops = unheard may refl refl refl refl;
    grown = grows;
    went = record {
      trace = λ t. goes_none (of.link.trace now.link);
      rose = all_rose_none (failed of now);
      offered = λ tells. sym (append-nil (answered (of.relay.offers now.relay)));
    };
    flight = world.side.chain;
    is_flight = refl;
    crash = crash;
  }

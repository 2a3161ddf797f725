-- A run, one arrival after the other.
use Rattle.std.proofs.Common.{◌≡◌, inl, inr, ℕ, ◌+◌, ◌<◌, ◌==◌, Bool, true, false, List, [], ◌∷◌, ◌++◌, length, None, refl, sym, ap, ◌∙◌, append-nil, append_assoc, arith, IsTrue, length-append, add-zero}
use Rattle.std.proofs.lemmas.List.{map-append}
use Rattle.el_base.proofs.Lists.{all_more}
use Rattle.el_outside.specs.declared.archive.Archive as archive
use Rattle.el_outside.specs.Counts.{RoseBy}
use Rattle.el_outside.specs.Relays.{Offer}
use Rattle.el_side.specs.Deeds.{Deed, offers, answered}
use Rattle.el_outside.specs.Files.{AllGrow}
use Rattle.el_outside.specs.Trace.{Trace, ArrivalWithBytes, opened, brought, closed, quiet, ended, Message, Closing, GoesOn, is_new, leaves as left_by, with_bytes, IsNextArrival}
use Rattle.el_outside.specs.declared.link.Arrival.{Arrival}
use Rattle.el_outside.specs.declared.link.Arrival.TheVariants as arrival
use Rattle.el_side.proofs.Deeds.{all_rose_none, all_rose_on, offers_on}
use Rattle.el_outside.proofs.Traces.{goes_none, goes_more, rose_more, rose_none, opened_is_open, new_unused}
use Rattle.el_chain.specs.Chains.{Chain}
use Rattle.el_world.specs.World.{World, new_session, after_hearing, events, without_node, without_client, AllTold}
use Rattle.el_world.specs.Run.{Run, none, more, Stop, Halts}
use Rattle.el_side.specs.Side.{Side, IsSure}
use Rattle.el_world.proofs.LastTold.{run_last_told, halt_last_told}
use Rattle.el_world.proofs.Sureness.{run_sure, heard_side}
use Rattle.el_lines.proofs.Cuts.{either}
use Rattle.el_core.specs.State.{State, Stands}
use Rattle.el_core.specs.Arrivals.{IsAfterArrival}
use Rattle.el_loop.specs.Counts.{Counts, counts}
use Rattle.el_loop.specs.Traffic.{Traffic, WentBy, WentTo}
use Rattle.el_loop.specs.Runs.{taken, StatusesAreTold, IsHalted, NoneEnds, is_end, RunEnds, next_failed}
use Rattle.el_loop.specs.declared.end.End.{End}
use Rattle.el_loop.specs.declared.end.End.TheVariants as end
use Rattle.el_loop.specs.declared.halt.Halt.{Halt}
use Rattle.el_loop.specs.declared.halt.Halt.TheVariants as halt
use Rattle.el_loop.specs.within.Sending.{halt_stop, end_of}
use Rattle.el_loop.specs.within.Progress.{AllGhosts, ClientsAreOpen, Snapshot, snapshot, failed, IsReady, WentOn, Finished, StoppedIn, Going, taken_one}
use Rattle.el_loop.proofs.Rises.{rose_next}
use Rattle.el_loop.proofs.Arrivals.{all_stay, all_but_left, all_after, not_client}

taken_more : (node : Bool) (xs : List ArrivalWithBytes) (a : ArrivalWithBytes)
    → taken node (xs ++ a ∷ []) ≡ taken node xs ++ taken_one node a ∷ []
taken_more true xs a = refl
taken_more false xs a = map-append without_node xs (a ∷ [])

-- a new client, or the one too many
opened_open : {G : Type 0} (old s : State G) (world next : World) (p : ℕ) (before after : Trace)
    → IsAfterArrival (opened p) world next s.surplus
    → ClientsAreOpen old world before → IsTrue (is_new before p) → GoesOn before after (opened p ∷ []) [] []
    → ClientsAreOpen s next after
opened_open old s world next p before after (inl then) are new goes = record {
  sessions = rw then.0 (all_more _ world.sessions (new_session p)
      (all_stay before after world.sessions (opened p) (λ q. refl) goes are.sessions)
      (opened_is_open before after p (new_unused before p new) goes));
  surplus = λ q e. absurd (let f = sym then.1 ∙ e in cc);
}
opened_open old s world next p before after (inr (inl then)) are new goes = record {
  sessions = rw then.0 (all_stay before after world.sessions (opened p) (λ q. refl) goes are.sessions);
  surplus = λ q e.
      let same : p ≡ q = (let f = sym then.1 ∙ e in cc) in
      rw (← same, then.0) (
        opened_is_open before after p (new_unused before p new) goes,
        not_client before world.sessions p new are.sessions,
      );
}
opened_open old s world next p before after (inr (inr then)) are new goes = record {
  sessions = rw then.0 (all_stay before after world.sessions (opened p) (λ q. refl) goes are.sessions);
  surplus = λ q e. absurd (let f = sym then.1 ∙ e in cc);
}

run_none : {A : Type 0} (of_files : archive.Ghosts A) (first : World) (node : Bool)
    → Run of_files first (taken node []) [] [] [] first
run_none of_files first true = none
run_none of_files first false = none

still_open : {G : Type 0} (old s : State G) (world next : World) (a : ArrivalWithBytes) (before after : Trace)
    → (next ≡ world) × (s.surplus ≡ None) → ClientsAreOpen old world before
    → ((p : ℕ) → left_by p a ≡ false) → GoesOn before after (a ∷ []) [] [] → ClientsAreOpen s next after
still_open old s world next a before after then are nobody goes = record {
  sessions = rw then.0 (all_stay before after world.sessions a nobody goes are.sessions);
  surplus = λ q e. absurd (let f = sym then.1 ∙ e in cc);
}

brought_open : {G : Type 0} (old s : State G) (world next : World) (p : ℕ) (bytes : List ℕ)
    (before after : Trace) → (next ≡ after_hearing (brought p bytes) world) × (s.surplus ≡ None)
    → ClientsAreOpen old world before → GoesOn before after (brought p bytes ∷ []) [] []
    → ClientsAreOpen s next after
brought_open old s world next p bytes before after then are goes = record {
  sessions = rw then.0 (all_after after world p bytes (all_stay before after world.sessions (brought p bytes)
      (λ q. refl) goes are.sessions));
  surplus = λ q e. absurd (let f = sym then.1 ∙ e in cc);
}

closed_open' : {G : Type 0} (old s : State G) (world next : World) (p : ℕ) (before after : Trace)
    → (next ≡ without_client p world) × (s.surplus ≡ None) → ClientsAreOpen old world before
    → GoesOn before after (closed p ∷ []) [] [] → ClientsAreOpen s next after
closed_open' old s world next p before after then are goes = record {
  sessions = rw then.0 (all_but_left before after world.sessions p goes are.sessions);
  surplus = λ q e. absurd (let f = sym then.1 ∙ e in cc);
}

-- who is open once an arrival was taken, with a node or without one
pub taken_open : {G : Type 0} (node : Bool) (old s : State G) (world next : World) (a : ArrivalWithBytes)
    (before after : Trace) → IsAfterArrival (taken_one node a) world next s.surplus
    → ClientsAreOpen old world before → ((p : ℕ) → a ≡ opened p → IsTrue (is_new before p))
    → GoesOn before after (a ∷ []) [] [] → ClientsAreOpen s next after
taken_open true old s world next (opened p) before after then are new goes =
    opened_open old s world next p before after then are (new p refl) goes
taken_open false old s world next (opened p) before after then are new goes =
    opened_open old s world next p before after then are (new p refl) goes
taken_open true old s world next (brought p bytes) before after then are new goes =
    brought_open old s world next p bytes before after then are goes
taken_open false old s world next (brought p bytes) before after then are new goes = elim (either (p == 0)) [
  | inl h ↦ still_open old s world next (brought p bytes) before after (rw h at then) are (λ q. refl) goes
  | inr h ↦ brought_open old s world next p bytes before after (rw h at then) are goes
]
taken_open true old s world next (closed p) before after then are new goes =
    closed_open' old s world next p before after then are goes
taken_open false old s world next (closed p) before after then are new goes =
    closed_open' old s world next p before after then are goes
taken_open true old s world next quiet before after then are new goes =
    still_open old s world next quiet before after then are (λ q. refl) goes
taken_open false old s world next quiet before after then are new goes =
    still_open old s world next quiet before after then are (λ q. refl) goes
taken_open true old s world next ended before after then are new goes =
    still_open old s world next ended before after then are (λ q. refl) goes
taken_open false old s world next ended before after then are new goes =
    still_open old s world next ended before after then are (λ q. refl) goes

-- a number that `next` can name is new
pub names_new : (a : Arrival) (buf : List ℕ) (last now : ℕ) (trace : Trace)
    → ((p : ℕ) → last < p → IsTrue (is_new trace p)) → IsNextArrival last a now
    → (p : ℕ) → with_bytes a buf ≡ opened p → IsTrue (is_new trace p)
names_new (arrival.Opened q) buf last now trace law next p e = let same : q ≡ p =
    cc in rw (← same) (law q next.0)
names_new (arrival.Bytes q n) buf last now trace law next p e = absurd cc
names_new (arrival.Closed q) buf last now trace law next p e = absurd cc
names_new arrival.Quiet buf last now trace law next p e = absurd cc
names_new arrival.Ended buf last now trace law next p e = absurd cc

-- who is open once a call of `next` answered this
pub enters : {G : Type 0} (link_tells : Type 0) (node : Bool) (old : State G) (world : World) (a : Arrival)
    (buf : List ℕ) (taken' : ArrivalWithBytes) (last now : ℕ) (before after : Trace)
    → taken' ≡ taken_one node (with_bytes a buf) → (link_tells → ClientsAreOpen old world before)
    → (link_tells → (p : ℕ) → last < p → IsTrue (is_new before p)) → IsNextArrival last a now
    → (link_tells → GoesOn before after (with_bytes a buf ∷ []) [] []) → link_tells
    → (next : World) (s : State G) → IsAfterArrival taken' world next s.surplus → ClientsAreOpen s next after
enters link_tells node old world a buf taken' last now before after is are law lawful took t next s then =
    taken_open node old s world next (with_bytes a buf) before after (rw is at then) (are t)
    (names_new a buf last now before (law t) lawful) (took t)

module _ {G A Y K : Type 0} (of : AllGhosts G A Y K) where
  -- the counts of a run between two snapshots
  abbrev pub run_counts : ℕ → Snapshot G A Y K → Snapshot G A Y K → Counts
  run_counts turns before now =
      counts turns (of.link.calls before.link) (of.link.calls now.link)
      (failed of before)
      (failed of now)

  -- before the first arrival
  pub going_none : (first : World) (node : Bool) (now : Snapshot G A Y K)
      → Stands of.beneath.ledger.stands now.server first [] → first.sessions ≡ [] → now.server.surplus ≡ None
      → (of.beneath.files.tells → AllGrow first.side.files (of.beneath.files.bytes now.files))
      → Going of first node 0 now now
  going_none first node now stood nobody unused grown = record {
    arrivals = [];
    messages = [];
    closings = [];
    losses = [];
    world = first;
    run = run_none of.beneath.files first node;
    told = rw nobody refl;
    statuses = λ sure. rw nobody tt;
    stood = stood;
    none_ends = tt;
    counted = refl;
    went = record {
      trace = λ t. goes_none (of.link.trace now.link);
      rose = all_rose_none (failed of now);
      offered = λ tells. sym (append-nil (answered (of.relay.offers now.relay)));
    };
    calls = rose_none (of.link.calls now.link);
    ready = record {
      are_open = λ t. record {
        sessions = rw nobody tt;
        surplus = λ q e. absurd (let f = sym unused ∙ e in cc);
      };
      grown = grown;
    };
  }

  -- an arrival was taken, and this was done for it
  went_further : (a : ArrivalWithBytes) (before mid : Snapshot G A Y K) (k : K) (now : Snapshot G A Y K)
      (arrivals : List ArrivalWithBytes) (messages more_messages : List Message)
      (closings more_closings : List Closing) (losses more_losses : List Deed)
      → WentOn of before mid arrivals messages closings losses
      → (of.link.tells → GoesOn (of.link.trace mid.link) (of.link.trace k) (a ∷ []) [] [])
      → of.link.faults k ≡ of.link.faults mid.link
      → WentOn of (snapshot mid.server mid.files mid.relay k) now [] more_messages more_closings
      more_losses
      → WentOn of before now (arrivals ++ a ∷ []) (messages ++ more_messages)
      (closings ++ more_closings) (losses ++ more_losses)
  went_further a before mid k now arrivals messages more_messages closings more_closings losses more_losses
      so_far took same then' = record {
        trace = λ t.
            let start = goes_more (of.link.trace before.link) (of.link.trace mid.link) (of.link.trace k)
            arrivals
            (a ∷ []) messages [] closings [] (so_far.trace t) (took t) in
            let both = goes_more (of.link.trace before.link) (of.link.trace k) (of.link.trace now.link)
            (arrivals ++ a ∷ []) [] (messages ++ []) more_messages (closings ++ []) more_closings start
            (then'.trace t) in
            simp append-nil at both;
        rose = all_rose_on (failed of before) (failed of mid)
            (failed of now) losses more_losses so_far.rose (rw same at then'.rose);
        offered = λ tells.
            let start = answered (of.relay.offers before.relay) in
            then'.offered tells ∙ ap (λ (l : List Offer). l ++ offers more_losses) (so_far.offered tells)
            ∙ append_assoc start (offers losses) (offers more_losses)
            ∙ ap (λ (l : List Offer). start ++ l) (sym (offers_on losses more_losses));
      }

  -- the run stops in an arrival
  pub told_stopped : (leaves : Chain → Chain → Type 0) (first : World) (node : Bool) (count turns : ℕ)
      (a : ArrivalWithBytes) (before mid : Snapshot G A Y K) (k : K) (now : Snapshot G A Y K) (stop : Stop)
      → first.sessions ≡ [] → (g : Going of first node count before mid)
      → (of.link.tells → GoesOn (of.link.trace mid.link) (of.link.trace k) (a ∷ []) [] [])
      → of.link.faults k ≡ of.link.faults mid.link
      → RoseBy (of.link.calls mid.link) (of.link.calls now.link) 1 → count < turns
      → StoppedIn of leaves g.world (taken_one node a) stop
      (snapshot mid.server mid.files mid.relay k) now
      → (traffic : Traffic) × WentBy of.link before.link now.link traffic × WentTo of.relay before.relay now.relay traffic
      × IsHalted of.beneath.files first node leaves (of.beneath.files.bytes now.files) (run_counts turns before now)
      traffic
      stop
  told_stopped leaves first node count turns a before mid k now stop nobody g took same one lt f =
      let went = went_further a before mid k now g.arrivals g.messages f.messages g.closings f.closings
      g.losses
      f.losses g.went took same f.went in
      let halts : Halts of.beneath.files first stop (taken node (g.arrivals ++ a ∷ [])) (g.messages ++ f.messages)
      (g.closings ++ f.closings) (g.losses ++ f.losses) = record {
        past = taken node g.arrivals;
        last = taken_one node a;
        whole = taken_more node g.arrivals a;
        past_messages = g.messages;
        past_closings = g.closings;
        past_losses = g.losses;
        world = g.world;
        run = g.run;
        sent = f.messages;
        closed = f.closings;
        lost = f.losses;
        stops = f.stops;
        messages_are = refl;
        closings_are = refl;
        losses_are = refl;
      } in (
        record {
          arrivals = g.arrivals ++ a ∷ [];
          messages = g.messages ++ f.messages;
          closings = g.closings ++ f.closings;
          offers = offers (g.losses ++ f.losses);
        },
        went.trace,
        went.offered,
        record {
          losses = g.losses ++ f.losses;
          halts = halts;
          grown = f.grown;
          counted = record {
            calls = rw (length-append g.arrivals (a ∷ []), add-zero)
                (rose_more (of.link.calls before.link) (of.link.calls mid.link) (of.link.calls now.link)
                (length g.arrivals) 1 g.calls one);
            turns = let h = g.counted in simp length-append (omega arith);
            rose = rw (append-nil (g.losses ++ f.losses)) went.rose;
            offered = refl;
          };
          last = record { front = g.arrivals; last = a; whole = refl; before = g.none_ends };
          flight = f.flight;
          is_flight = f.is_flight;
          acknowledged = λ sure. halt_last_told nobody sure halts;
          crash = λ sure. f.crash (run_sure g.run ∙ sure);
        },
      )

  -- a run after one more arrival
  pub record Further (first : World) (node : Bool) (count : ℕ) (a : ArrivalWithBytes)
      (before now : Snapshot G A Y K) : Type 0 where
    pub front : List ArrivalWithBytes
    pub messages : List Message
    pub closings : List Closing
    pub losses : List Deed
    pub world : World
    pub run : Run of.beneath.files first (taken node (front ++ a ∷ [])) messages closings losses world
    pub told : AllTold world
    pub statuses : IsSure first.side → StatusesAreTold world
    pub stood : Stands of.beneath.ledger.stands now.server world []
    pub none_ends : NoneEnds front
    pub counted : length front ≡ count
    pub went : WentOn of before now (front ++ a ∷ []) messages closings losses
    pub calls : RoseBy (of.link.calls before.link) (of.link.calls now.link) (length (front ++ a ∷ []))
    pub ready : IsReady of world now

  pub one_further : (first : World) (node : Bool) (count : ℕ) (a : ArrivalWithBytes)
      (before mid : Snapshot G A Y K) (k : K) (now : Snapshot G A Y K)
      (g : Going of first node count before mid)
      → (of.link.tells → GoesOn (of.link.trace mid.link) (of.link.trace k) (a ∷ []) [] [])
      → of.link.faults k ≡ of.link.faults mid.link
      → RoseBy (of.link.calls mid.link) (of.link.calls now.link) 1
      → Finished of (after_hearing (taken_one node a) g.world)
      (events g.world (taken_one node a)) (snapshot mid.server mid.files mid.relay k) now
      → Further first node count a before now
  one_further first node count a before mid k now g took same one f = record {
    front = g.arrivals;
    messages = g.messages ++ f.messages;
    closings = g.closings ++ f.closings;
    losses = g.losses ++ f.losses;
    world = f.world;
    run = rw (taken_more node g.arrivals a)
        (more (taken node g.arrivals) g.messages g.closings g.losses g.world (taken_one node a) f.messages
        f.closings f.losses f.world g.run f.turns f.still f.told);
    told = f.told;
    statuses = λ sure. f.statuses (ap (λ (s : Side). s.sure) (heard_side (taken_one node a) g.world) ∙ run_sure g.run ∙ sure);
    stood = f.stood;
    none_ends = g.none_ends;
    counted = g.counted;
    went = went_further a before mid k now g.arrivals g.messages f.messages g.closings f.closings g.losses
        f.losses g.went took same f.went;
    calls = rw (length-append g.arrivals (a ∷ []))
        (rose_more (of.link.calls before.link) (of.link.calls mid.link) (of.link.calls now.link)
        (length g.arrivals) 1 g.calls one);
    ready = f.ready;
  }

  -- the run goes on
  pub going_more : (first : World) (node : Bool) (count : ℕ) (a : ArrivalWithBytes)
      (before now : Snapshot G A Y K) → Further first node count a before now → is_end a ≡ false
      → Going of first node (count + 1) before now
  going_more first node count a before now f on = record {
    arrivals = f.front ++ a ∷ [];
    messages = f.messages;
    closings = f.closings;
    losses = f.losses;
    world = f.world;
    run = f.run;
    told = f.told;
    statuses = f.statuses;
    stood = f.stood;
    none_ends = all_more _ f.front a f.none_ends on;
    counted = let h = f.counted in simp length-append (omega arith);
    went = f.went;
    calls = f.calls;
    ready = f.ready;
  }

  -- what a run tells in the end
  abbrev pub Told : World → Bool → (Chain → Chain → Type 0) → ℕ → Snapshot G A Y K → Snapshot G A Y K → End → Type
      0
  Told first node leaves turns before now e = (traffic : Traffic)
      × WentBy of.link before.link now.link traffic × WentTo of.relay before.relay now.relay traffic
      × RunEnds of.beneath.files first node leaves (of.beneath.files.bytes now.files) (run_counts turns before now)
      traffic e

  -- the last arrival ended the run
  pub told_ended : (leaves : Chain → Chain → Type 0) (first : World) (node : Bool) (count turns : ℕ)
      (a : ArrivalWithBytes) (before now : Snapshot G A Y K)
      → ((chain : Chain) → of.beneath.ledger.stands now.server.ledger chain → leaves chain chain) → first.sessions ≡ []
      → Further first node count a before now → is_end a ≡ true → count < turns
      → Told first node leaves turns before now end.Ended
  told_ended leaves first node count turns a before now own nobody f stop lt = (
    record { arrivals = f.front ++ a ∷ []; messages = f.messages; closings = f.closings; offers = offers f.losses },
    f.went.trace,
    f.went.offered,
    (
      record {
        losses = f.losses;
        world = f.world;
        run = f.run;
        statuses = f.statuses;
        grown = f.ready.grown;
        counted = record {
          calls = rw add-zero f.calls;
          turns = let h = f.counted in simp length-append (omega arith);
          rose = rw (append-nil f.losses) f.went.rose;
          offered = refl;
        };
        acknowledged = λ sure. run_last_told nobody sure f.run;
        crash = λ sure. own f.world.side.chain (f.stood.chain (run_sure f.run ∙ sure));
      },
      record { front = f.front; last = a; whole = refl; before = f.none_ends; ends = stop },
    ),
  )

  -- the turns are spent
  pub told_spent : (leaves : Chain → Chain → Type 0) (first : World) (node : Bool) (count turns : ℕ)
      (before now : Snapshot G A Y K)
      → ((chain : Chain) → of.beneath.ledger.stands now.server.ledger chain → leaves chain chain) → first.sessions ≡ []
      → Going of first node count before now → count ≡ turns
      → Told first node leaves turns before now end.TurnsSpent
  told_spent leaves first node count turns before now own nobody g spent = (
    record { arrivals = g.arrivals; messages = g.messages; closings = g.closings; offers = offers g.losses },
    g.went.trace,
    g.went.offered,
    (
      record {
        losses = g.losses;
        world = g.world;
        run = g.run;
        statuses = g.statuses;
        grown = g.ready.grown;
        counted = record {
          calls = rw add-zero g.calls;
          turns = let h = g.counted in omega arith;
          rose = rw (append-nil g.losses) g.went.rose;
          offered = refl;
        };
        acknowledged = λ sure. run_last_told nobody sure g.run;
        crash = λ sure. own g.world.side.chain (g.stood.chain (run_sure g.run ∙ sure));
      },
      g.none_ends,
      g.counted ∙ spent,
    ),
  )

  -- a call of `next` failed
  pub told_failed : (leaves : Chain → Chain → Type 0) (first : World) (node : Bool) (count turns : ℕ)
      (before mid : Snapshot G A Y K) (k : K)
      → ((chain : Chain) → of.beneath.ledger.stands mid.server.ledger chain → leaves chain chain) → first.sessions ≡ []
      → Going of first node count before mid
      → (of.link.tells → of.link.trace k ≡ of.link.trace mid.link)
      → RoseBy (of.link.faults mid.link) (of.link.faults k) 1
      → RoseBy (of.link.calls mid.link) (of.link.calls k) 1 → count < turns
      → Told first node leaves turns before (snapshot mid.server mid.files mid.relay k) end.LinkFailed
  told_failed leaves first node count turns before mid k own nobody g same rose one lt = (
    record { arrivals = g.arrivals; messages = g.messages; closings = g.closings; offers = offers g.losses },
    λ t. rw (same t) (g.went.trace t),
    g.went.offered,
    inl (
      record {
        losses = g.losses;
        world = g.world;
        run = g.run;
        statuses = g.statuses;
        grown = g.ready.grown;
        counted = record {
          calls = rose_more (of.link.calls before.link) (of.link.calls mid.link) (of.link.calls k)
              (length g.arrivals) 1 g.calls one;
          turns = let h = g.counted in omega arith;
          rose = all_rose_on (failed of before)
              (failed of mid)
              (failed of (snapshot mid.server mid.files mid.relay k)) g.losses next_failed
              g.went.rose (rose_next (of.link.faults mid.link) (of.link.faults k) (of.beneath.files.faults mid.files)
              (of.beneath.ledger.faults mid.server.ledger) (of.relay.faults mid.relay) rose);
          offered = refl;
        };
        acknowledged = λ sure. run_last_told nobody sure g.run;
        crash = λ sure. own g.world.side.chain (g.stood.chain (run_sure g.run ∙ sure));
      },
      g.none_ends,
    ),
  )

  -- how the run then ends
  pub told_halt : (first : World) (node : Bool) (leaves : Chain → Chain → Type 0) (turns : ℕ)
      (before now : Snapshot G A Y K) (halt : Halt)
      → ((traffic : Traffic) × WentBy of.link before.link now.link traffic × WentTo of.relay before.relay now.relay traffic
      × IsHalted of.beneath.files first node leaves (of.beneath.files.bytes now.files) (run_counts turns before now)
      traffic
      (halt_stop halt))
      → Told first node leaves turns before now (end_of halt)
  told_halt first node leaves turns before now halt.Disk t = t
  told_halt first node leaves turns before now halt.Link t = (t.0, t.1, t.2, inr t.3)
  told_halt first node leaves turns before now halt.Memory t = t

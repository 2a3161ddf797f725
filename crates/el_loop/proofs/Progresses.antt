-- Turns, one after the other, and what went over the link meanwhile.
use Rattle.std.proofs.Common.{◌≡◌, inl, inr, ℕ, List, [], ◌++◌, None, refl, ap, sym, ◌∙◌, append-nil, append_assoc, Option}
use Rattle.el_outside.specs.declared.archive.Archive as archive
use Rattle.el_outside.specs.Counts.{RoseBy}
use Rattle.el_side.specs.Deeds as device
use Rattle.el_outside.specs.Relays.{Offer}
use Rattle.el_replies.specs.Spending.{Did}
use Rattle.el_side.specs.Deeds.{Deed, failures, offers, answered, Offered, faults, Rose}
use Rattle.el_outside.specs.Files.{AllGrow}
use Rattle.el_outside.specs.Trace.{Message, Closing}
use Rattle.el_outside.specs.declared.link.Why.{Why}
use Rattle.el_side.proofs.Deeds.{failures_on, offers_on, all_rose_none, all_rose_on}
use Rattle.el_outside.proofs.Traces.{goes_none, goes_more, rose_none, all_grow_none, all_grow_more}
use Rattle.el_chain.specs.Chains.{Chain}
use Rattle.el_chain.specs.Moves.{StoodBy}
use Rattle.el_side.specs.Beneath.{beneath}
use Rattle.el_world.specs.World.{World, Event, Outs}
use Rattle.el_world.specs.Run.{Turns, none, more, Stop, Stops, disk_failed, sift_failed, no_memory, untold, unsent, files_at, Delivers, all, sends, loses, lost_by, IsDeparture, LostBy, by_disk, by_link, by_memory}
use Rattle.el_side.proofs.Settled.{by_sure, not_both}
use Rattle.el_side.specs.Side.{IsSure}
use Rattle.el_side.specs.UnderWay.{IsUnderWay, before as not_moved}
use Rattle.el_world.proofs.Sureness.{turn_sure, turns_sure}
use Rattle.el_world.specs.Flights.{FliesAt, IsMoveOf}
use Rattle.el_core.specs.State.{State, Stands, lent, asking_of}
use Rattle.el_core.specs.Turn.{TookTurn, TurnFailed, IsWithin, KeepsChain, IsDone, turn_stop}
use Rattle.el_model.specs.declared.fault.QueryFault.{QueryFault}
use Rattle.el_loop.specs.within.Sending.{StoppedSending}
use Rattle.el_loop.specs.within.Progress.{AllGhosts, asked_of, ClientsAreOpen, CanDeliver, Delivered, Snapshot, snapshot, failed, IsReady, Progress, Finished, Stopped}
use Rattle.el_loop.proofs.Turned.{after_turn, still_waiting, turn_to_one}

-- these losses are of calls of the link
record OfLink (losses : List Deed) : Type 0 where
  no_archive : failures device.archive losses ≡ 0
  no_disk : failures device.disk losses ≡ 0
  no_relay : failures device.relay losses ≡ 0
  no_offers : offers losses ≡ []

lost_more : (reason : Why) (ls : List Deed) → IsDeparture reason → OfLink ls → OfLink (lost_by reason ++ ls)
lost_more reason ls (inl gone) h = rw gone (record { no_archive = h.no_archive; no_disk = h.no_disk; no_relay = h.no_relay; no_offers = h.no_offers })
lost_more reason ls (inr memory) h = rw memory h

-- sending loses nothing but calls of the link
sending_loses : (w : World) (ms : List Message) (c : Option Closing) (sent : List Message) (cs : List Closing)
    (ls : List Deed) (next : World) → Delivers w ms c sent cs ls next → OfLink ls
sending_loses w ms c sent cs ls next (all _ _) = record { no_archive = refl; no_disk = refl; no_relay = refl; no_offers = refl }
sending_loses w ms c sent cs ls next (sends w' m ms' c' sent' cs' ls' next' d) =
    sending_loses w' ms' c' sent' cs' ls' next' d
sending_loses w ms c sent cs ls next (loses w' m ms' c' reason sent' cs' ls' next' client departure d) =
    lost_more reason ls' departure (sending_loses _ _ _ sent' cs' ls' next' d)

last_lost : (stop : Stop) (ls : List Deed) → LostBy stop ls → OfLink ls
last_lost by_disk ls lost = absurd lost
last_lost by_link ls lost = rw lost (record { no_archive = refl; no_disk = refl; no_relay = refl; no_offers = refl })
last_lost by_memory ls lost = rw lost (record { no_archive = refl; no_disk = refl; no_relay = refl; no_offers = refl })

both_of_link : (xs ys : List Deed) → OfLink xs → OfLink ys → OfLink (xs ++ ys)
both_of_link xs ys a b = record {
  no_archive = rw (failures_on device.archive xs ys, a.no_archive, b.no_archive) refl;
  no_disk = rw (failures_on device.disk xs ys, a.no_disk, b.no_disk) refl;
  no_relay = rw (failures_on device.relay xs ys, a.no_relay, b.no_relay) refl;
  no_offers = rw (offers_on xs ys, a.no_offers, b.no_offers) refl;
}

-- calls of the link failed so often
link_rose : (low high of_files of_ledger of_relay : ℕ) (losses : List Deed) → OfLink losses
    → RoseBy low high (failures device.link losses)
    → Rose (faults low of_files of_ledger of_relay) (faults high of_files of_ledger of_relay) losses
link_rose low high of_files of_ledger of_relay losses alone rose device.link = rose
link_rose low high of_files of_ledger of_relay losses alone rose device.archive = rw alone.no_archive
    (rose_none of_files)
link_rose low high of_files of_ledger of_relay losses alone rose device.disk = rw alone.no_disk (rose_none of_ledger)
link_rose low high of_files of_ledger of_relay losses alone rose device.relay = rw alone.no_relay
    (rose_none of_relay)

-- turns after turns
pub turns_then : {A : Type 0} (of_files : archive.Ghosts A) (first world last : World)
    (done es : List Event) (ms ns : List Message)
    (cs ds : List Closing) (ls ks : List Deed)
    → Turns of_files first done ms cs ls world → Turns of_files world es ns ds ks last
    → Turns of_files first (done ++ es) (ms ++ ns) (cs ++ ds) (ls ++ ks) last
turns_then of_files first world last done es ms ns cs ds ls ks before none =
    rw (append-nil done, append-nil ms, append-nil cs, append-nil ls) before
turns_then of_files first world last done es ms ns cs ds ls ks before
    (more past ms' cs' ls' mid now outs failed left sent closed lost next so_far turn delivers) =
    let one : Turns of_files first (done ++ (past ++ now)) (ms ++ (ms' ++ sent)) (cs ++ (cs' ++ closed))
    (ls ++ (ls' ++ (failed ++ lost))) next =
    rw (
      ← append_assoc done past now,
      ← append_assoc ms ms' sent,
      ← append_assoc cs cs' closed,
      ← append_assoc ls ls' (failed ++ lost),
    )
    (more (done ++ past) (ms ++ ms') (cs ++ cs') (ls ++ ls') mid now outs failed left sent closed lost next
    (turns_then of_files first world mid done past ms ms' cs cs' ls ls' before so_far) turn delivers) in
    one

-- the block files where a turn failed, and the chain that is then in flight
within_files : {A : Type 0} {of_files : archive.Ghosts A} {world : World} {left : List Event} {stop : Stop}
    {sent : List Message} {closings : List Closing} {losses : List Deed}
    (stops : Stops of_files world left stop sent closings losses)
    → IsWithin stops → files_at stops ≡ world.side.files
within_files (disk_failed by nodes silent closed lost) within = refl
within_files (sift_failed by busy silent closed lost) within = refl
within_files (no_memory by nodes silent closed lost) within = refl
within_files (untold by busy silent closed lost) within = refl
within_files (unsent done rest outs failed after front back m lost last next whole turn cut node delivers by
    all')
    within = absurd within

-- nor is an offer among what was lost in it
within_offers : {A : Type 0} {of_files : archive.Ghosts A} {world : World} {left : List Event} {stop : Stop}
    {sent : List Message} {closings : List Closing} {losses : List Deed}
    (stops : Stops of_files world left stop sent closings losses) → IsWithin stops → offers losses ≡ []
within_offers (disk_failed by nodes silent closed lost) within = ap offers lost
within_offers (sift_failed by busy silent closed lost) within = ap offers lost
within_offers (no_memory by nodes silent closed lost) within = ap offers lost
within_offers (untold by busy silent closed lost) within = ap offers lost
within_offers (unsent done rest outs failed after front back m lost last next whole turn cut node delivers by
    all')
    within = absurd within

within_flies : {A : Type 0} {of_files : archive.Ghosts A} {world : World} {left : List Event} {stop : Stop}
    {sent : List Message} {closings : List Closing} {losses : List Deed}
    (stops : Stops of_files world left stop sent closings losses) → IsWithin stops → (now : ℕ → List ℕ)
    (next : Chain) → (of_files.tells → AllGrow world.side.files now)
    → IsUnderWay (StoodBy of_files now) world.side.chain (IsMoveOf world left) next
    → (KeepsChain stops → next ≡ world.side.chain) → FliesAt stops now next
within_flies (disk_failed by nodes silent closed lost) within now next grows way kept =
    (now, λ told. (grows told, all_grow_none now), way)
within_flies (sift_failed by busy silent closed lost) within now next grows way kept = kept tt
within_flies (no_memory by nodes silent closed lost) within now next grows way kept =
    (now, λ told. (grows told, all_grow_none now), way)
within_flies (untold by busy silent closed lost) within now next grows way kept = kept tt
within_flies (unsent done rest outs failed after front back m lost last next' whole turn cut node delivers
    by all')
    within now next grows way kept = absurd within

-- The chain that is then in flight; where the side is unsure, its own is taken.
record InFlight {A : Type 0} (of_files : archive.Ghosts A) (world : World) (left : List Event) (now : ℕ → List ℕ)
    (leaves : Chain → Chain → Type 0) (keeps : Type 0) : Type 0 where
  next : Chain
  way : IsUnderWay (StoodBy of_files now) world.side.chain (IsMoveOf world left) next
  kept : keeps → next ≡ world.side.chain
  crash : IsSure world.side → leaves world.side.chain next

in_flight : {A : Type 0} {of_files : archive.Ghosts A} (world : World) (left : List Event) (now : ℕ → List ℕ)
    (leaves : Chain → Chain → Type 0) (keeps : Type 0)
    → (IsSure world.side → (next : Chain) × IsUnderWay (StoodBy of_files now) world.side.chain (IsMoveOf world left) next
    × (keeps → next ≡ world.side.chain) × leaves world.side.chain next)
    → InFlight of_files world left now leaves keeps
in_flight {of_files = of_files} world left now leaves keeps of_sure =
    by_sure world.side (InFlight of_files world left now leaves keeps)
    (λ sure. let s = of_sure sure in record { next = s.0; way = s.1; kept = s.2; crash = λ again. s.3 })
    (λ un. record {
      next = world.side.chain;
      way = not_moved refl;
      kept = λ k. refl;
      crash = λ sure. absurd (not_both world.side sure un);
    })

module _ {G A Y K : Type 0} (of : AllGhosts G A Y K) where
  -- before the first turn
  pub begins : (first : World) (all' : List Event) (now : Snapshot G A Y K)
      → Stands of.beneath.ledger.stands now.server first all' → IsReady of first now
      → Progress of first all' now now
  begins first all' now stood ready = record {
    done = [];
    left = all';
    messages = [];
    closings = [];
    losses = [];
    world = first;
    whole = refl;
    turns = none;
    stood = stood;
    went = record {
      trace = λ t. goes_none (of.link.trace now.link);
      rose = all_rose_none (failed of now);
      offered = λ tells. sym (append-nil (answered (of.relay.offers now.relay)));
    };
    ready = ready;
  }

  -- what a turn gave can be sent and closed
  pub can_deliver : (world : World) (left : List Event) (outs : Outs) (s turned : State G) (files files' : A) (y y' : Y)
      (k : K) → Stands of.beneath.ledger.stands s world left
      → (t : TookTurn (asked_of of) (lent s files y) (lent turned files' y') world left outs)
      → (of.link.tells → ClientsAreOpen s world (of.link.trace k))
      → CanDeliver of.beneath.ledger.stands of.link.tells turned t.next t.rest outs (of.link.trace k)
  can_deliver world left outs s turned files files' y y' k stood t are =
      let one = turn_to_one of.beneath.files world t.done outs t.losses t.next t.turn in
      let then' = λ (told : of.link.tells). after_turn of.beneath.ledger.stands of.beneath.files (of.link.trace k) s world
      left t.rest t.done outs t.losses t.next stood t.whole t.turn (are told) in
      record {
        stood = t.stood;
        sends_to = t.sends_to;
        one_peer = one.0;
        to_one = one.1;
        are_open = λ told. (then' told).sessions;
        can_close = λ told. (then' told).closing;
      }

  -- what was lost in a turn, and in sending what it gave
  turn_rose : (s turned later : State G) (files files' : A) (y y' : Y) (k k' : K) (xs ys : List Deed)
      → Did (asked_of of) (asking_of (lent s files y)) (asking_of (lent turned files' y')) xs
      → OfLink ys → RoseBy (of.link.faults k) (of.link.faults k') (failures device.link ys)
      → later.ledger ≡ turned.ledger
      → Rose (failed of (snapshot s files y k))
      (failed of (snapshot later files' y' k')) (xs ++ ys)
  turn_rose s turned later files files' y y' k k' xs ys in_turn alone in_sending same =
      rw same (all_rose_on (failed of (snapshot s files y k))
      (failed of (snapshot turned files' y' k))
      (failed of (snapshot turned files' y' k')) xs ys (in_turn.rose (of.link.faults k))
      (link_rose (of.link.faults k) (of.link.faults k') (of.beneath.files.faults files')
      (of.beneath.ledger.faults turned.ledger) (of.relay.faults y')
      ys alone in_sending))

  -- what the relay was offered in a turn, and in sending what it gave
  turn_offered : (before : Snapshot G A Y K) (s turned : State G) (files files' : A) (y y' : Y) (ls xs ys : List Deed)
      → Offered of.relay before.relay y ls
      → Did (asked_of of) (asking_of (lent s files y)) (asking_of (lent turned files' y')) xs
      → OfLink ys → Offered of.relay before.relay y' (ls ++ (xs ++ ys))
  turn_offered before s turned files files' y y' ls xs ys so_far in_turn alone = λ tells.
      let start = answered (of.relay.offers before.relay) in
      let none : offers (xs ++ ys) ≡ offers xs = offers_on xs ys ∙ ap (λ (l : List Offer). offers xs ++ l) alone.no_offers ∙ append-nil (offers xs) in
      in_turn.offered tells ∙ ap (λ (l : List Offer). l ++ offers xs) (so_far tells) ∙ append_assoc start (offers ls) (offers xs)
      ∙ ap (λ (l : List Offer). start ++ l) (ap (λ (l : List Offer). offers ls ++ l) (sym none) ∙ sym (offers_on ls (xs ++ ys)))

  -- one more turn, and what it gave, sent and closed
  pub progress_more : (first : World) (all' : List Event) (before : Snapshot G A Y K) (s turned later : State G)
      (files files' : A) (y y' : Y) (k k' : K) (outs : Outs)
      → (p : Progress of first all' before (snapshot s files y k))
      → (t : TookTurn (asked_of of) (lent s files y) (lent turned files' y') p.world p.left outs)
      → Delivered of.beneath.ledger.stands of.link.tells t.next t.rest outs turned (of.link.trace k)
      (of.link.faults k)
      later (of.link.trace k') (of.link.faults k')
      → Progress of first all' before (snapshot later files' y' k')
  progress_more first all' before s turned later files files' y y' k k' outs p t d =
      let alone = sending_loses t.next outs.messages outs.closing d.sent d.closings d.losses d.next d.delivers
      in
      record {
        done = p.done ++ t.done;
        left = t.rest;
        messages = p.messages ++ d.sent;
        closings = p.closings ++ d.closings;
        losses = p.losses ++ (t.losses ++ d.losses);
        world = d.next;
        whole = p.whole ∙ ap (λ (l : List Event). p.done ++ l) t.whole
            ∙ sym (append_assoc p.done t.done t.rest);
        turns = more p.done p.messages p.closings p.losses p.world t.done outs t.losses t.next d.sent
            d.closings
            d.losses d.next p.turns t.turn d.delivers;
        stood = d.stood;
        went = record {
          trace = λ told. goes_more (of.link.trace before.link) (of.link.trace k) (of.link.trace k') [] []
              p.messages d.sent p.closings d.closings (p.went.trace told) (d.trace told);
          rose = all_rose_on (failed of before)
              (failed of (snapshot s files y k))
              (failed of (snapshot later files' y' k')) p.losses (t.losses ++ d.losses)
              p.went.rose (turn_rose s turned later files files' y y' k k' t.losses d.losses t.did alone d.rose
              d.ledger);
          offered = turn_offered before s turned files files' y y' p.losses t.losses d.losses p.went.offered t.did alone;
        };
        ready = record {
          are_open = λ told. record {
            sessions = d.are_open told;
            surplus = λ q e.
                let w = still_waiting of.beneath.ledger.stands of.beneath.files s turned p.world p.left t.rest t.done
                outs
                t.losses t.next q p.stood t.whole t.turn t.stood (sym d.surplus ∙ e) in
                let here = (p.ready.are_open told).surplus q w.waited in
                let then' = w.stays here.1 in
                d.others q told then'.1 here.0 then'.0;
          };
          grown = λ told. rw d.files (t.told told);
        };
      }

  -- the work is done
  pub finished : (first : World) (all' : List Event) (before : Snapshot G A Y K) (s turned : State G)
      (files files' : A) (y y' : Y) (k : K)
      → (p : Progress of first all' before (snapshot s files y k))
      → IsDone of.beneath.ledger.stands of.beneath.files p.world p.left turned → turned.surplus ≡ None
      → (of.beneath.ledger.faults turned.ledger ≡ of.beneath.ledger.faults s.ledger)
      × (of.beneath.files.faults files' ≡ of.beneath.files.faults files) × (y' ≡ y)
      → (of.beneath.files.tells → AllGrow (of.beneath.files.bytes files) (of.beneath.files.bytes files'))
      → Finished of first all' before (snapshot turned files' y' k)
  finished first all' before s turned files files' y y' k p d unused same grows =
      let both = turns_then of.beneath.files first p.world p.world p.done p.left p.messages [] p.closings []
      p.losses [] p.turns d.turns in
      record {
        messages = p.messages;
        closings = p.closings;
        losses = p.losses;
        world = p.world;
        turns = rw p.whole (rw (append-nil p.messages, append-nil p.closings, append-nil p.losses) at both);
        still = d.still;
        told = d.told;
        statuses = λ sure. d.statuses (turns_sure p.turns ∙ sure);
        stood = d.stood;
        went = record { trace = p.went.trace; rose = rw (same.0, same.1, same.2) p.went.rose; offered = rw same.2 p.went.offered };
        ready = record {
          are_open = λ told. record {
            sessions = (p.ready.are_open told).sessions;
            surplus = λ q e. absurd (let f = sym e ∙ unused in cc);
          };
          grown = λ told. all_grow_more p.world.side.files (of.beneath.files.bytes files) (of.beneath.files.bytes files')
              (p.ready.grown told) (grows told);
        };
      }

  -- a turn failed
  pub stopped_turn : (leaves : Chain → Chain → Type 0) (first : World) (all' : List Event)
      (before : Snapshot G A Y K) (s turned : State G) (files files' : A) (y y' : Y) (k : K) (stop : Stop) (e : QueryFault)
      → (p : Progress of first all' before (snapshot s files y k))
      → (t : TurnFailed of.beneath (beneath s.ledger files) (beneath turned.ledger files') p.world p.left e)
      → y' ≡ y → ((sure : IsSure p.world.side) → leaves p.world.side.chain (t.stops_at sure).next)
      → (of.beneath.files.tells → AllGrow (of.beneath.files.bytes files) (of.beneath.files.bytes files')) → stop ≡ turn_stop e
      → Stopped of leaves first all' stop before (snapshot turned files' y' k)
  stopped_turn leaves first all' before s turned files files' y y' k stop e p t same left grows is =
      let grown = λ (told : of.beneath.files.tells). all_grow_more p.world.side.files (of.beneath.files.bytes files)
      (of.beneath.files.bytes files') (p.ready.grown told) (grows told) in
      let flight = in_flight p.world p.left (of.beneath.files.bytes files') leaves (KeepsChain t.stops)
      (λ sure. ((t.stops_at sure).next, (t.stops_at sure).flight, λ k. t.kept k sure, left sure)) in
      rw is (record {
        done = p.done;
        left = p.left;
        whole = p.whole;
        messages = p.messages;
        closings = p.closings;
        losses = p.losses;
        world = p.world;
        turns = p.turns;
        sent = [];
        closed = [];
        lost = t.losses;
        stops = t.stops;
        grown = λ told. rw (within_files t.stops t.within) (grown told);
        went = record {
          trace = λ told. rw (append-nil p.messages, append-nil p.closings) (p.went.trace told);
          rose = all_rose_on (failed of before)
              (failed of (snapshot s files y k))
              (failed of (snapshot turned files' y' k)) p.losses t.losses p.went.rose
              (rw same (t.rose (of.link.faults k) (of.relay.faults y)));
          offered = rw same (λ tells. p.went.offered tells ∙ ap (λ (l : List Offer). answered (of.relay.offers before.relay) ++ l)
              (sym (offers_on p.losses t.losses ∙ ap (λ (l : List Offer). offers p.losses ++ l) (within_offers t.stops t.within) ∙ append-nil (offers p.losses))));
        };
        flight = flight.next;
        is_flight = within_flies t.stops t.within (of.beneath.files.bytes files') flight.next grown flight.way flight.kept;
        crash = λ sure. flight.crash (turns_sure p.turns ∙ sure);
      })

  -- an answer to the node was not sent
  pub stopped_sending : (leaves : Chain → Chain → Type 0) (first : World) (all' : List Event)
      (before : Snapshot G A Y K) (s turned later : State G) (files files' : A) (y y' : Y) (k k' : K) (outs : Outs)
      (stop : Stop)
      → (p : Progress of first all' before (snapshot s files y k))
      → (t : TookTurn (asked_of of) (lent s files y) (lent turned files' y') p.world p.left outs)
      → StoppedSending of.link.tells t.next outs.messages stop turned (of.link.trace k) (of.link.faults k)
      later
      (of.link.trace k') (of.link.faults k')
      → (IsSure t.next.side → leaves p.world.side.chain t.next.side.chain)
      → Stopped of leaves first all' stop before (snapshot later files' y' k')
  stopped_sending leaves first all' before s turned later files files' y y' k k' outs stop p t d crash =
      let alone = both_of_link d.losses d.last
      (sending_loses t.next d.front None d.sent d.closings d.losses d.next d.delivers)
      (last_lost stop d.last d.lost) in
      record {
        done = p.done;
        left = p.left;
        whole = p.whole;
        messages = p.messages;
        closings = p.closings;
        losses = p.losses;
        world = p.world;
        turns = p.turns;
        sent = d.sent;
        closed = d.closings;
        lost = t.losses ++ (d.losses ++ d.last);
        stops = unsent t.done t.rest outs t.losses t.next d.front d.more d.m d.losses d.last d.next t.whole
            t.turn d.whole d.node d.delivers d.lost refl;
        grown = t.told;
        went = record {
          trace = λ told. goes_more (of.link.trace before.link) (of.link.trace k) (of.link.trace k') [] []
              p.messages d.sent p.closings d.closings (p.went.trace told) (d.trace told);
          rose = all_rose_on (failed of before)
              (failed of (snapshot s files y k))
              (failed of (snapshot later files' y' k')) p.losses
              (t.losses ++ (d.losses ++ d.last)) p.went.rose
              (turn_rose s turned later files files' y y' k k' t.losses (d.losses ++ d.last) t.did alone d.rose
              d.ledger);
          offered = turn_offered before s turned files files' y y' p.losses t.losses (d.losses ++ d.last) p.went.offered t.did alone;
        };
        flight = t.next.side.chain;
        is_flight = refl;
        crash = λ sure. crash (turn_sure of.beneath.files p.world outs t.losses t.next t.done t.turn ∙ turns_sure p.turns ∙ sure);
      }

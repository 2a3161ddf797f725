-- Turns of the node, over what the server keeps and the world that it stands for.
use Rattle.std.proofs.Common.{◌≡◌, inl, inr, ℕ, ◌+◌, Bool, true, false, true≢false, List, [], ◌∷◌, ◌++◌, map, drop, Option, Some, Result, Ok, Err, refl, ap, sym, ◌∙◌, arith, subst}
use Rattle.std.specs.List.{AllByRecursion, slice_get}
use Rattle.el_base.specs.declared.hash.Hash32.{Hash32}
use Rattle.std.proofs.lemmas.Option.{slice_get_within}
use Rattle.el_outside.specs.Counts.{CountsOnly, RoseBy}
use Rattle.el_side.specs.Deeds as deed
use Rattle.el_side.specs.Deeds.{Deed, offers}
use Rattle.el_side.proofs.Deeds.{all_rose_none, rose_of, rose_still}
use Rattle.el_outside.proofs.Traces.{all_grow_none}
use Rattle.el_chain.specs.declared.moves.Plan.{Plan}
use Rattle.el_chain.specs.declared.node.Node.{Node}
use Rattle.el_chain.specs.Chains.{Chain}
use Rattle.el_chain.specs.Moves.{StoodBy}
use Rattle.el_model.specs.LedgerCalls.{Moved}
use Rattle.el_outside.specs.declared.relay.Relay as relays
use Rattle.el_side.specs.Beneath.{Beneath}
use Rattle.el_replies.specs.Spending.{asked_ghosts}
use Rattle.el_core.proofs.Losing.{did_of}
use Rattle.el_core.proofs.Starving.{moving_offers, line_offers}
use Rattle.el_side.specs.NodeSteps.{IsAt, Leads, StepLeft}
use Rattle.el_lines.specs.Lines.{LineEvent, lines}
use Rattle.el_lines.specs.NodeAnswers.{node_limit, text_of}
use Rattle.el_lines.specs.declared.node_answer.NodeAnswer.{NodeAnswer}
use Rattle.el_side.specs.Plans.{plan_of}
use Rattle.el_side.proofs.Settled.{by_sure, not_both}
use Rattle.el_side.specs.Side.{Side, IsSure, Moving, OrdersLine}
use Rattle.el_world.specs.World as model
use Rattle.el_world.specs.World.{World, Session, Event, orders, reply_to, IsStill, IsBusy, AllTold, begun}
use Rattle.el_world.specs.Run as run
use Rattle.el_world.specs.Run.{OneTurn, IsNodesTurn}
use Rattle.el_side.specs.UnderWay.{IsFirstMove, IsUnderWay, before as not_moved, in_move}
use Rattle.el_world.specs.Flights.{later, first, IsMoveOf}
use Rattle.el_model.proofs.LedgerMoves.{LeavesOwn, asked_none, asked_moved}
use Rattle.el_lines.specs.LineStates.{LineState}
use Rattle.el_sync.specs.Steps.{IsFrom, NodeStep, RoseWith, StepFails, FailsBy, by_disk, by_memory, untold, in_sift, StopsAt}
use Rattle.el_model.specs.declared.fault.QueryFault.{QueryFault}
use Rattle.el_sync.specs.declared.moving.Step.{Step}
use Rattle.el_model.specs.declared.fault.QueryFault.TheVariants as fault
use Rattle.el_side.specs.Beneath.{Ghosts, Lost, beneath, failed_beneath}
use Rattle.el_sync.proofs.Compared.{moving_any}
use Rattle.el_core.specs.State.{State, NodeLeaves, NoneWaits, Stands, serving, lent}
use Rattle.el_core.specs.Turn.{TookTurn, TurnFailed, GoesTo, outs_of, turn_stop}
use Rattle.el_core.specs.within.Answering.{Answered, NodeKeeps}
use Rattle.el_core.specs.within.Clients.{GivesEvent, begun_at}
use Rattle.el_core.specs.declared.out.Outs.{Outs}
use Rattle.el_core.proofs.Sessions.{left_first}
use Rattle.el_core.proofs.Tellings.{tellings_led}

fault_same : (a b : QueryFault) → ◌≡◌ {A = Result Outs QueryFault} (Err a) (Err b) → a ≡ b
fault_same a b e = cc

-- what is said of one kind of moves holds of another
pub under_way_by : (stood : Node → List ℕ → Type 0) (chain : Chain) (P Q : Plan → Type 0) (next : Chain) → ((p : Plan) → P p → Q p) → IsUnderWay stood chain P next
    → IsUnderWay stood chain Q next
under_way_by stood chain P Q next gives (not_moved is) = not_moved is
under_way_by stood chain P Q next gives (in_move p move flight) = in_move p (gives p move) flight

-- the node's next line, and what is left after it
pub record NextOrder (b : LineState) (heard : List ℕ) (ordered : List Event) (e : LineEvent) : Type 0 where
  pub rest : List Event
  pub first_is : ordered ≡ orders e ∷ rest
  pub node : NodeLeaves b heard rest

pub next_order : (b next : LineState) (heard : List ℕ) (ordered : List Event) (e : LineEvent) → NodeLeaves b heard ordered → next.limit ≡ b.limit → GivesEvent b e next
    → NextOrder next heard ordered e
next_order b next heard ordered e n same gives =
    let g = gives heard n.given n.at in
    let listed : slice_get (lines node_limit heard) n.given ≡ Some e = subst (λ (l : ℕ). slice_get (lines l heard) n.given ≡ Some e) n.limit g.0 in
    record {
      rest = map orders (drop (n.given + 1) (lines node_limit heard));
      first_is = n.left_is ∙ left_first orders (lines node_limit heard) n.given e listed;
      node = record {
        limit = same ∙ n.limit;
        given = n.given + 1;
        at = g.1;
        few = let lt = slice_get_within (lines node_limit heard) n.given e listed in omega arith;
        left_is = refl;
      };
    }

module _ {G A : Type 0} (of : Ghosts G A) where
  -- no memory was found, and nothing was done
  pub stops_still : (old : G) (files : A) (chain : Chain) (again : Bool) (is_move : Plan → Type 0) → LeavesOwn of.ledger → of.ledger.is_live old → of.ledger.stands old chain → StopsAt of (beneath old files) (beneath old files) chain again is_move fault.Memory
  stops_still old files chain again is_move own live stood =
      let moved = asked_moved of.ledger old old chain own live (asked_none of.ledger old) stood in
      record {
        next = chain;
        flight = not_moved refl;
        crash = moved.crash;
        stood = λ m. moved;
        losses = [];
        fails = by_memory refl refl;
        rose = λ of_link of_relay. all_rose_none (failed_beneath of of_link of_relay (beneath old files));
      }

  -- nothing was done for a side that is unsure either
  pub fails_still : (old : G) (files : A) (chain : Chain) (again : Bool) → StepFails of (beneath old files) (beneath old files) chain again fault.Memory
  fails_still old files chain again = record {
    losses = [];
    fails = by_memory refl refl;
    rose = λ of_link of_relay. all_rose_none (failed_beneath of of_link of_relay (beneath old files));
  }

  -- what was lost in a step that failed
  pub step_fails : (was now : Beneath G A) (chain : Chain) (again : Bool) (e : QueryFault) → NodeStep of was now again (Err e) → StepFails of was now chain again e
  step_fails was now chain again e k = by e k.archive_rose k.disk_rose
    where
      by : (e : QueryFault) → RoseWith again (λ n. RoseBy (of.files.faults was.files) (of.files.faults now.files) n)
          → CountsOnly {T = Step} (of.ledger.faults was.ledger) (of.ledger.faults now.ledger) fault.DiskFailed (Err e) → StepFails of was now chain again e
      by fault.DiskFailed (inl none) counts = record {
        losses = deed.lost deed.disk ∷ [];
        fails = by_disk refl refl;
        rose = λ of_link of_relay. rose_of of_link of_relay _ _ _ _ (deed.lost deed.disk ∷ []) refl refl none (counts.counted refl);
      }
      by fault.DiskFailed (inr one) counts = record {
        losses = deed.lost deed.archive ∷ deed.lost deed.disk ∷ [];
        fails = in_sift one.0 refl refl refl;
        rose = λ of_link of_relay. rose_of of_link of_relay _ _ _ _ (deed.lost deed.archive ∷ deed.lost deed.disk ∷ []) refl refl one.1 (counts.counted refl);
      }
      by fault.Memory (inl none) counts = record {
        losses = [];
        fails = by_memory refl refl;
        rose = λ of_link of_relay. rose_of of_link of_relay _ _ _ _ [] refl refl none (rose_still _ _ (counts.others_uncounted (λ e. let bad = e in cc)));
      }
      by fault.Memory (inr one) counts = record {
        losses = deed.lost deed.archive ∷ [];
        fails = untold one.0 refl refl refl;
        rose = λ of_link of_relay. rose_of of_link of_relay _ _ _ _ (deed.lost deed.archive ∷ []) refl refl one.1 (rose_still _ _ (counts.others_uncounted (λ e. let bad = e in cc)));
      }

  pub step_still : (old : G) (files : A) → of.ledger.is_live old → NodeKeeps of (beneath old files) (beneath old files) (Err fault.Memory)
  step_still old files live = record {
    live = tt;
    still_live = λ e. live;
    keeps = λ t. all_grow_none (of.files.bytes files);
    archive_more = omega arith;
    disk_rose = record { counted = λ e. absurd cc; uncounted = tt; others_uncounted = λ other. refl };
    beside = λ told. refl;
  }

  -- what the step kept, the turn keeps
  pub keeps_ok : (old new : G) (before after : A) (again : Bool) (step : Step) (o : Outs) → NodeStep of (beneath old before) (beneath new after) again (Ok step) → NodeKeeps of (beneath old before) (beneath new after) (Ok o)
  keeps_ok old new before after again step o k = record {
    live = k.live;
    still_live = λ e. absurd cc;
    keeps = k.keeps;
    archive_more = k.archive_more;
    disk_rose = record { counted = λ e. absurd cc; uncounted = k.disk_rose.uncounted; others_uncounted = tt };
    beside = k.beside;
  }

  pub keeps_err : (old new : G) (before after : A) (again : Bool) (e : QueryFault) → NodeStep of (beneath old before) (beneath new after) again (Err e) → NodeKeeps of (beneath old before) (beneath new after) (Err e)
  keeps_err old new before after again e k = record {
    live = tt;
    still_live = λ is. k.still_live (ap Err (fault_same e fault.Memory is));
    keeps = k.keeps;
    archive_more = k.archive_more;
    disk_rose = record {
      counted = λ is. k.disk_rose.counted (ap Err (fault_same e fault.DiskFailed is));
      uncounted = tt;
      others_uncounted = k.disk_rose.others_uncounted;
    };
    beside = k.beside;
  }

  -- no memory was found for what it touched
  pub keeps_starved : (old new : G) (before after : A) (again : Bool) (step : Step) → NodeStep of (beneath old before) (beneath new after) again (Ok step) → NodeKeeps of (beneath old before) (beneath new after) (Err fault.Memory)
  keeps_starved old new before after again step k = record {
    live = tt;
    still_live = λ e. k.live;
    keeps = k.keeps;
    archive_more = k.archive_more;
    disk_rose = record { counted = λ e. absurd cc; uncounted = tt; others_uncounted = λ other. k.disk_rose.uncounted };
    beside = k.beside;
  }

  -- ---- a line that has begun

  pub stops_begun : (s mid : State G) (new : G) (before after : A) (tip : Option Hash32) (e : LineEvent) (why : QueryFault) → mid ≡ begun_at tip s
      → ((side : Side) (start : Chain) → IsSure side → IsAt of (beneath mid.ledger before) mid.holdings mid.caches side start → IsFrom mid.holdings side → StopsAt of (beneath mid.ledger before) (beneath new after) side.chain false (IsFirstMove side e) why)
      → (side : Side) (start : Chain) → IsSure side → IsAt of (beneath s.ledger before) s.holdings s.caches side start → IsFrom s.holdings side → StopsAt of (beneath s.ledger before) (beneath new after) side.chain false (IsFirstMove side e) why
  stops_begun s mid new before after tip e why same stops =
      subst (λ (m : State G). (side : Side) (start : Chain) → IsSure side → IsAt of (beneath m.ledger before) m.holdings m.caches side start → IsFrom m.holdings side → StopsAt of (beneath m.ledger before) (beneath new after) side.chain false (IsFirstMove side e) why) same stops

  pub led_begun : (s mid : State G) (before : A) (tip : Option Hash32) (e : LineEvent) (left : StepLeft G A) → mid ≡ begun_at tip s
      → ((side : Side) (start : Chain) → IsAt of (beneath mid.ledger before) mid.holdings mid.caches side start → IsFrom mid.holdings side
      → Leads of (OrdersLine of.files side e) side start (record left { was = beneath mid.ledger before }))
      → (side : Side) (start : Chain) → IsAt of (beneath s.ledger before) s.holdings s.caches side start → IsFrom s.holdings side
      → Leads of (OrdersLine of.files side e) side start (record left { was = beneath s.ledger before })
  led_begun s mid before tip e left same led =
      subst (λ (m : State G). (side : Side) (start : Chain) → IsAt of (beneath m.ledger before) m.holdings m.caches side start → IsFrom m.holdings side
      → Leads of (OrdersLine of.files side e) side start (record left { was = beneath m.ledger before })) same led

  pub fails_begun : (s mid : State G) (new : G) (before after : A) (tip : Option Hash32) (chain : Chain) (why : QueryFault) → mid ≡ begun_at tip s → StepFails of (beneath mid.ledger before) (beneath new after) chain false why
      → StepFails of (beneath s.ledger before) (beneath new after) chain false why
  fails_begun s mid new before after tip chain why same fails = subst (λ (m : State G). StepFails of (beneath m.ledger before) (beneath new after) chain false why) same fails

  pub keeps_begun : (s mid : State G) (new : G) (before after : A) (tip : Option Hash32) (result : Result Outs QueryFault) → mid ≡ begun_at tip s → NodeKeeps of (beneath mid.ledger before) (beneath new after) result → NodeKeeps of (beneath s.ledger before) (beneath new after) result
  keeps_begun s mid new before after tip result same keeps = subst (λ (m : State G). NodeKeeps of (beneath m.ledger before) (beneath new after) result) same keeps

  -- What is known of a step of the node, which leaves the clients as they were: all of them wait.
  pub record NodeTurned (leads : NodeAnswer → List Deed → Side → Type 0) (old new : State G) (before after : A) (world : World) (left : List Event) (o : Outs) : Type 0 where
    pub stood : Stands of.ledger.stands old world left
    pub answered : Answered of leads (serving old before) (serving new after) world.side stood.start o
    pub magic : new.holdings.magic ≡ old.holdings.magic
    pub desk : new.desk ≡ old.desk
    pub clients : new.clients ≡ old.clients
    pub speaker : new.speaker ≡ old.speaker
    pub surplus : new.surplus ≡ old.surplus
    pub before_is : new.before ≡ old.before
    pub waits : AllByRecursion (λ (x : Session). x.waits ≡ true) world.sessions

  -- what is sent to the node goes to it
  to_node_goes : (o : model.Outs) (text : List ℕ) (next : World) (surplus : Option ℕ) → o ≡ reply_to 0 text → AllByRecursion (GoesTo next surplus o.closing) o.messages
  to_node_goes o text next surplus is = rw is (inl refl, tt)

  -- `base` and `start` are as the turn began, `old` and `world` as the step began
  built : {Y : Type 0} (of_relay : relays.Ghosts Y) (y : Y) (leads : NodeAnswer → List Deed → Side → Type 0) (base old new : State G) (before after : A) (start world : World) (left : List Event) (o : Outs) (r : NodeTurned leads old new before after world left o)
      (done ordered : List Event) → old.ledger ≡ base.ledger → world.side ≡ start.side → left ≡ done ++ (ordered ++ r.stood.said)
      → OneTurn of.files start done (outs_of o) r.answered.led.losses (record world { side = r.answered.led.next })
      → ((q : ℕ) → old.speaker ≡ Some q → (ordered ≡ []) × NoneWaits world.sessions) → ((q : ℕ) → old.surplus ≡ Some q → (ordered ≡ []) × NoneWaits world.sessions)
      → NodeLeaves new.node world.heard ordered → offers r.answered.led.losses ≡ [] → TookTurn (asked_ghosts of of_relay) (lent base before y) (lent new after y) start left (outs_of o)
  built of_relay y leads base old new before after start world left o r done ordered ledger_is side_is whole turn spoken surplus_so node none =
      let a = r.answered in
      let led = a.led in
      record {
        done = done;
        rest = ordered ++ r.stood.said;
        losses = led.losses;
        next = record world { side = led.next };
        whole = whole;
        turn = turn;
        stood = record {
          chain = λ sure. (led.went (sym led.sure_is ∙ sure)).stood;
          magic = r.magic ∙ r.stood.magic ∙ sym led.magic_is;
          found = led.found_is;
          ahead = led.ahead_is;
          start = led.next_start;
          set = led.set;
          ordered = ordered;
          node = node;
          said = r.stood.said;
          sessions = rw (r.clients, r.speaker, r.surplus) r.stood.sessions;
          speaker_last = λ q e. spoken q (sym r.speaker ∙ e);
          surplus_last = λ q e. surplus_so q (sym r.surplus ∙ e);
          before = λ sure. r.before_is ∙ r.stood.before (sym led.sure_is ∙ sure);
          desk = r.desk ∙ r.stood.desk;
          tellings = tellings_led world.side led.next r.stood.start led.next_start a.moved a.changed old.touched new.touched old.clients world.sessions old.speaker r.stood.said
              r.stood.tellings led.sure_is led.touches a.covers r.stood.sessions.each r.waits;
          left_is = refl;
        };
        moved = λ sure. subst (λ (k : G). Moved of.ledger k new.ledger start.side.chain led.next.chain) ledger_is
            (subst (λ (s : Side). Moved of.ledger old.ledger new.ledger s.chain led.next.chain) side_is (led.went (ap (λ (s : Side). s.sure) side_is ∙ sure)));
        told = led.told;
        sends_to = to_node_goes (outs_of o) (text_of a.answer) (record world { side = led.next }) new.surplus a.sends;
        did = did_of (asked_ghosts of of_relay) (beneath base.ledger before) (beneath new.ledger after) y base.desk new.desk led.losses none
            (subst (λ (k : G). Lost of (beneath k before) (beneath new.ledger after) led.losses) ledger_is led.rose);
      }

  -- the next move of the node's last tip line
  pub ahead_step : {Y : Type 0} (of_relay : relays.Ghosts Y) (y : Y) (old new : State G) (before after : A) (world : World) (left : List Event) (o : Outs)
      → NodeTurned (Moving of.files world.side 0 world.side.ahead) old new before after world left o → (world.side.ahead ≡ [] → ⊥) → new.node ≡ old.node
      → TookTurn (asked_ghosts of of_relay) (lent old before y) (lent new after y) world left (outs_of o)
  ahead_step of_relay y old new before after world left o r some node =
      let a = r.answered in
      built of_relay y (Moving of.files world.side 0 world.side.ahead) old old new before after world world left o r [] r.stood.ordered refl refl r.stood.left_is
      (run.works (moving_any 0 world.side.ahead some) refl (record { answer = a.answer; side = a.led.next; led = a.led.led; outs_is = a.sends; next_is = refl }))
      r.stood.speaker_last r.stood.surplus_last (rw node r.stood.node)
      (moving_offers of.files world.side a.answer a.led.losses a.led.next 0 world.side.ahead a.led.led)

  -- a line of the node: the rest of the events
  rest_after : (left said ordered rest : List Event) (e : LineEvent) → left ≡ ordered ++ said → ordered ≡ orders e ∷ rest → left ≡ (orders e ∷ []) ++ (rest ++ said)
  rest_after left said ordered rest e is first_is = is ∙ ap (λ (es : List Event). es ++ said) first_is

  -- where a line is left, nobody speaks, and none too many waits
  never : (u : Option ℕ) (ordered rest : List Event) (e : LineEvent) (P Q : Type 0) → ordered ≡ orders e ∷ rest → ((q : ℕ) → u ≡ Some q → (ordered ≡ []) × P) → (q : ℕ) → u ≡ Some q → Q
  never u ordered rest e P Q is last q speaks = absurd (let n = (last q speaks).0 in let f = sym is ∙ n in cc)

  -- it has begun, and is worked
  pub node_step : {Y : Type 0} (of_relay : relays.Ghosts Y) (y : Y) (base old new : State G) (before after : A) (start : World) (left : List Event) (o : Outs) (e : LineEvent)
      (r : NodeTurned (OrdersLine of.files start.side e) old new before after (begun start) left o) → NextOrder new.node start.heard r.stood.ordered e → IsStill start → AllTold start → old.ledger ≡ base.ledger
      → TookTurn (asked_ghosts of of_relay) (lent base before y) (lent new after y) start left (outs_of o)
  node_step of_relay y base old new before after start left o e r n still all_told ledger_is =
      let a = r.answered in
      built of_relay y (OrdersLine of.files start.side e) base old new before after start (begun start) left o r (orders e ∷ []) n.rest ledger_is refl
      (rest_after left r.stood.said r.stood.ordered n.rest e r.stood.left_is n.first_is)
      (run.takes (orders e) still all_told refl (record { answer = a.answer; side = a.led.next; led = a.led.led; outs_is = a.sends; next_is = refl }))
      (never old.speaker r.stood.ordered n.rest e _ _ n.first_is r.stood.speaker_last) (never old.surplus r.stood.ordered n.rest e _ _ n.first_is r.stood.surplus_last)
      n.node (line_offers of.files start.side a.answer a.led.losses a.led.next e a.led.led)

  -- ---- turns that fail

  failed_so : (old new : G) (before after : A) (world : World) (left : List Event) (again : Bool) (e : QueryFault) → IsNodesTurn world left → (again ≡ true → IsBusy world) → IsSure world.side
      → (r : StopsAt of (beneath old before) (beneath new after) world.side.chain again (IsMoveOf world left) e) → FailsBy again world.side.chain r.next e r.losses → (e ≡ fault.Memory → of.ledger.is_live new)
      → TurnFailed of (beneath old before) (beneath new after) world left e
  failed_so old new before after world left again e nodes busy sure r (by_disk is lost) live = record {
    losses = r.losses;
    stops = run.disk_failed (ap turn_stop is) nodes refl refl lost;
    within = tt;
    rose = r.rose;
    later = again;
    stops_at = λ s. r;
    kept = λ k s. absurd k;
    live = live;
  }
  failed_so old new before after world left again e nodes busy sure r (by_memory is lost) live = record {
    losses = r.losses;
    stops = run.no_memory (ap turn_stop is) nodes refl refl lost;
    within = tt;
    rose = r.rose;
    later = again;
    stops_at = λ s. r;
    kept = λ k s. absurd k;
    live = live;
  }
  failed_so old new before after world left again e nodes busy sure r (untold is_later is lost same) live = record {
    losses = r.losses;
    stops = run.untold (ap turn_stop is) (busy is_later) refl refl lost;
    within = tt;
    rose = r.rose;
    later = again;
    stops_at = λ s. r;
    kept = λ k s. same;
    live = live;
  }
  failed_so old new before after world left again e nodes busy sure r (in_sift is_later is lost same) live = record {
    losses = r.losses;
    stops = run.sift_failed (ap turn_stop is) (busy is_later) refl refl lost;
    within = tt;
    rose = r.rose;
    later = again;
    stops_at = λ s. r;
    kept = λ k s. same;
    live = live;
  }

  failed_unsure : (old new : G) (before after : A) (world : World) (left : List Event) (again : Bool) (e : QueryFault) → IsNodesTurn world left → (again ≡ true → IsBusy world) → world.side.sure ≡ false
      → (r : StepFails of (beneath old before) (beneath new after) world.side.chain again e) → FailsBy again world.side.chain world.side.chain e r.losses → (e ≡ fault.Memory → of.ledger.is_live new)
      → TurnFailed of (beneath old before) (beneath new after) world left e
  failed_unsure old new before after world left again e nodes busy un r (by_disk is lost) live = record {
    losses = r.losses;
    stops = run.disk_failed (ap turn_stop is) nodes refl refl lost;
    within = tt;
    rose = r.rose;
    later = again;
    stops_at = λ sure. absurd (not_both world.side sure un);
    kept = λ k sure. absurd (not_both world.side sure un);
    live = live;
  }
  failed_unsure old new before after world left again e nodes busy un r (by_memory is lost) live = record {
    losses = r.losses;
    stops = run.no_memory (ap turn_stop is) nodes refl refl lost;
    within = tt;
    rose = r.rose;
    later = again;
    stops_at = λ sure. absurd (not_both world.side sure un);
    kept = λ k sure. absurd (not_both world.side sure un);
    live = live;
  }
  failed_unsure old new before after world left again e nodes busy un r (untold is_later is lost same) live = record {
    losses = r.losses;
    stops = run.untold (ap turn_stop is) (busy is_later) refl refl lost;
    within = tt;
    rose = r.rose;
    later = again;
    stops_at = λ sure. absurd (not_both world.side sure un);
    kept = λ k sure. absurd (not_both world.side sure un);
    live = live;
  }
  failed_unsure old new before after world left again e nodes busy un r (in_sift is_later is lost same) live = record {
    losses = r.losses;
    stops = run.sift_failed (ap turn_stop is) (busy is_later) refl refl lost;
    within = tt;
    rose = r.rose;
    later = again;
    stops_at = λ sure. absurd (not_both world.side sure un);
    kept = λ k sure. absurd (not_both world.side sure un);
    live = live;
  }

  stops_by : (old new : G) (before after : A) (chain : Chain) (again : Bool) (P Q : Plan → Type 0) (e : QueryFault) → ((p : Plan) → P p → Q p) → StopsAt of (beneath old before) (beneath new after) chain again P e → StopsAt of (beneath old before) (beneath new after) chain again Q e
  stops_by old new before after chain again P Q e gives r = record {
    next = r.next;
    flight = under_way_by (StoodBy of.files (of.files.bytes after)) chain P Q r.next gives r.flight;
    crash = r.crash;
    stood = r.stood;
    losses = r.losses;
    fails = r.fails;
    rose = r.rose;
  }

  nodes_busy : (world : World) (left : List Event) → IsBusy world → IsNodesTurn world left
  nodes_busy world [] busy = busy
  nodes_busy world (model.orders said ∷ left) busy = inl busy
  nodes_busy world (model.joins p ∷ left) busy = busy
  nodes_busy world (model.leaves p ∷ left) busy = busy
  nodes_busy world (model.says p said ∷ left) busy = busy

  pub ahead_failed : (old new : G) (before after : A) (world : World) (left : List Event) (e : QueryFault) → (world.side.ahead ≡ [] → ⊥)
      → (e ≡ fault.Memory → of.ledger.is_live new) → (IsSure world.side → StopsAt of (beneath old before) (beneath new after) world.side.chain true (λ (p : Plan). p ≡ plan_of 0 world.side.ahead) e)
      → (world.side.sure ≡ false → StepFails of (beneath old before) (beneath new after) world.side.chain true e)
      → TurnFailed of (beneath old before) (beneath new after) world left e
  ahead_failed old new before after world left e some live of_sure of_unsure =
      let busy = moving_any 0 world.side.ahead some in
      by_sure world.side (TurnFailed of (beneath old before) (beneath new after) world left e)
      (λ sure. let s = stops_by old new before after world.side.chain true _ (IsMoveOf world left) e (λ p is. later busy is) (of_sure sure) in
      failed_so old new before after world left true e (nodes_busy world left busy) (λ y. busy) sure s s.fails live)
      (λ un. let f = of_unsure un in failed_unsure old new before after world left true e (nodes_busy world left busy) (λ y. busy) un f f.fails live)

  pub line_failed : (old new : G) (before after : A) (world : World) (left rest : List Event) (e : QueryFault) (said : LineEvent)
      → IsStill world → AllTold world → left ≡ orders said ∷ rest → (e ≡ fault.Memory → of.ledger.is_live new)
      → (IsSure world.side → StopsAt of (beneath old before) (beneath new after) world.side.chain false (IsFirstMove world.side said) e)
      → (world.side.sure ≡ false → StepFails of (beneath old before) (beneath new after) world.side.chain false e) → TurnFailed of (beneath old before) (beneath new after) world left e
  line_failed old new before after world left rest e said still all_told is live of_sure of_unsure =
      by_sure world.side (TurnFailed of (beneath old before) (beneath new after) world left e)
      (λ sure. let s = stops_by old new before after world.side.chain false (IsFirstMove world.side said) (IsMoveOf world left) e (λ p move. first said rest still all_told is move) (of_sure sure) in
      failed_so old new before after world left false e (rw is (inr all_told)) (λ y. absurd (true≢false (sym y))) sure s s.fails live)
      (λ un. let f = of_unsure un in failed_unsure old new before after world left false e (rw is (inr all_told)) (λ y. absurd (true≢false (sym y))) un f f.fails live)

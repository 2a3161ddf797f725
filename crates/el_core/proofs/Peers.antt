-- Turns of the client that speaks, and of one too many.
use Rattle.std.proofs.Common.{◌≡◌, ◌⊎◌, inl, inr, ℕ, zero, suc, ◌+◌, ◌≤◌, Bool, true, false, not, List, [], ◌∷◌, ◌++◌, length, map, filter, drop, slice_get, Option, Some, None, Ok, Err, refl, sym, ap, ◌∙◌, append-nil, append_assoc, subst, arith, true≢false}
use Rattle.std.specs.Prelude.{MatchBool, IfSome, IfNone, find}
use Rattle.std.specs.List.{AllByRecursion, AllZip}
use Rattle.std.proofs.lemmas.Option.{slice_get_within}
use Rattle.el_base.specs.declared.memory.OutOfMemory.{OutOfMemory}
use Rattle.el_side.specs.Deeds.{Deed}
use Rattle.el_outside.specs.Files.{AllGrow}
use Rattle.el_model.specs.LedgerCalls.{Moved}
use Rattle.el_lines.proofs.Cuts.{either}
use Rattle.el_lines.specs.Lines.{LineEvent, line, too_long, lines}
use Rattle.el_lines.specs.NodeAnswers.{node_limit}
use Rattle.el_sessions.specs.declared.session.Session as known
use Rattle.el_replies.specs.declared.line.LineReply.{LineReply}
use Rattle.el_subs.specs.Told as status_told
use Rattle.el_subs.specs.Told.{status}
use Rattle.el_side.specs.declared.holdings.Holdings.{Holdings}
use Rattle.el_side.specs.Caching.{CachesStand}
use Rattle.el_relay.specs.Desk.{DeskState}
use Rattle.el_replies.specs.Spending.{AskedGhosts, Did}
use Rattle.el_side.specs.Side.{Side, IsSure}
use Rattle.el_world.specs.World as model
use Rattle.el_world.specs.World.{World, Session, Event, IsStill, AllTold, joins, says, orders, leaves, Takes, Outs, Standing, standing_of, Comes, outs_of_reply, after_reply, nothing, closes_long, closes_memory, closes_surplus, is_client, is_peer, without_client, line_limit}
use Rattle.el_world.specs.Run as run
use Rattle.el_world.specs.Run.{OneTurn, Turns}
use Rattle.el_lines.specs.LineStates.{LineState, WasFed}
use Rattle.el_lines.specs.declared.line_buffer.LineEvent.TheVariants as event
use Rattle.el_core.specs.State.{State, ClientState, HasGivenAll, HearsLeft, in_order, IsSession, SessionsAre, AreEventsLeft, NoneWaits, Tellings, AllVoid, IsSaidBy, NodeLeaves, Stands, is_numbered, lent, asking_of}
use Rattle.el_core.specs.Turn.{TookTurn, IsDone, GoesTo, outs_of}
use Rattle.el_core.specs.within.Clients.{Passing, passing, IsIdly, LineAnswered, replied, starved, GivesEvent, ClientTurn, loses, departs, answers, waits, nobody, gone, steps, PeersTurn, closes, has_turn, client_replaced, left_if, speaker_after}
use Rattle.el_core.specs.declared.out.Outs as code
use Rattle.el_core.proofs.Places.{Both, IfThere, same_some, no_some, zip_at, zip_replaced, all_at, all_replaced, rising_replaced, one_mapped, one_filtered, one_found, one_there, gone_itself, found_none, none_there}
use Rattle.el_world.proofs.KeepTold.{replies_keep_told}
use Rattle.el_core.proofs.Tellings.{none_wait_world, all_statuses, tellings_replaced, untouched_of}
use Rattle.el_core.proofs.Sessions.{said_all, void_all, left_first, left_none, ordered, left_void, all_met, zip_all}

same_number : (a b : ℕ) → ◌≡◌ {A = Option ℕ} (Some a) (Some b) → a ≡ b
same_number a b e = cc

-- nothing of the node is left
pub none_ordered : (b : LineState) (heard : List ℕ) (ordered : List Event) → NodeLeaves b heard ordered → HasGivenAll b → ordered ≡ []
none_ordered b heard ordered n all =
    n.left_is ∙ left_none orders (lines node_limit heard) n.given (all heard n.given n.at ∙ ap (λ (l : ℕ). length (lines l heard)) n.limit)

-- its next event
pub record NextEvent (c : ClientState) (b : LineState) (e : LineEvent) (heard : List ℕ) (left : List Event) : Type 0 where
  pub given : ℕ
  pub first : left ≡ says c.peer e ∷ map (says c.peer) (drop (given + 1) (lines line_limit heard))
  pub at : WasFed b heard (given + 1)
  pub few : given + 1 ≤ length (lines line_limit heard)

next_event : (c : ClientState) (b : LineState) (e : LineEvent) (heard : List ℕ) (left : List Event) → c.lost ≡ false → c.buffer.limit ≡ line_limit → HearsLeft c heard left
    → GivesEvent c.buffer e b → NextEvent c b e heard left
next_event c b e heard left kept limit hears gives =
    let o = ordered c heard left kept hears in
    let g = gives heard o.given o.at in
    let listed' : slice_get (lines line_limit heard) o.given ≡ Some e = subst (λ (l : ℕ). slice_get (lines l heard) o.given ≡ Some e) limit g.0 in
    record {
      given = o.given;
      first = o.left_is ∙ left_first (says c.peer) (lines line_limit heard) o.given e listed';
      at = g.1;
      few = let lt = slice_get_within (lines line_limit heard) o.given e listed' in omega arith;
    }

-- the clients and sessions where the one that speaks changes, or goes
speaker_changes : (clients : List ClientState) (sessions : List Session) (p i : ℕ) (c : ClientState) (x : Session) (left rest : List Event) (speaker : Option ℕ) (now : Option ClientState) (session : Option Session)
    → SessionsAre clients (Some p) None sessions left → slice_get sessions i ≡ Some x → x.peer ≡ p → (speaker ≡ Some p) ⊎ (speaker ≡ None) → Both (IsSession speaker rest) now session
    → IfThere (λ (n : Session). n.peer ≡ x.peer) session → AreEventsLeft speaker None (client_replaced i session sessions) rest
    → SessionsAre (client_replaced i now clients) speaker None (client_replaced i session sessions) rest
speaker_changes clients sessions p i c x left rest speaker now session are at is either_is both same leaves_left = record {
  each = zip_replaced (IsSession (Some p) left) (IsSession speaker rest) clients sessions i x now session are.each are.rising at
      (λ d y r differ. record {
        peer = r.peer;
        limit = r.limit;
        kept = r.kept;
        waits = r.waits;
        met = λ n. r.met (λ e. differ (sym r.peer ∙ sym (same_number p d.peer e) ∙ sym is));
        speaks = λ e. absurd (other d y r differ either_is e);
      }) both;
  rising = rising_replaced sessions i x session are.rising at same;
  leaves_left = leaves_left;
}
  where
    other : (d : ClientState) (y : Session) → IsSession (Some p) left d y → (y.peer ≡ x.peer → ⊥) → (speaker ≡ Some p) ⊎ (speaker ≡ None) → speaker ≡ Some d.peer → ⊥
    other d y r differ (inl s) e = differ (sym r.peer ∙ sym (same_number p d.peer (sym s ∙ e)) ∙ sym is)
    other d y r differ (inr s) e = no_some d.peer (sym e ∙ s)

replaced_same : (ys : List Session) (i : ℕ) (x : Session) → slice_get ys i ≡ Some x → client_replaced i (Some x) ys ≡ ys
replaced_same [] i x at = refl
replaced_same (y ∷ ys) zero x at = ap (λ (t : Session). t ∷ ys) (sym (same_some y x at))
replaced_same (y ∷ ys) (suc i) x at = ap (λ (l : List Session). y ∷ l) (replaced_same ys i x at)

pub at_replaced : (ys : List Session) (j : ℕ) (y n : Session) → slice_get ys j ≡ Some y → slice_get (client_replaced j (Some n) ys) j ≡ Some n
at_replaced [] j y n at = absurd (no_some y (sym at))
at_replaced (u ∷ ys) zero y n at = refl
at_replaced (u ∷ ys) (suc j) y n at = at_replaced ys j y n at

if_true : (A B : Type 0) (b : Bool) → b ≡ true → A → MatchBool b A B
if_true A B b e a = rw e a

if_false : (A B : Type 0) (b : Bool) → b ≡ false → B → MatchBool b A B
if_false A B b e x = rw e x

-- the client that speaks, with its session
pub record Speaking {G : Type 0} (old : State G) (world : World) (said : List Event) (p i : ℕ) (c : ClientState) : Type 0 where
  pub are : SessionsAre old.clients (Some p) None world.sessions said
  pub session : Session
  pub session_at : slice_get world.sessions i ≡ Some session
  pub is : IsSession (Some p) said c session
  pub peer : session.peer ≡ p
  pub hears : HearsLeft c session.heard said

pub speaking : {G : Type 0} (old : State G) (world : World) (said : List Event) (p i : ℕ) (c : ClientState) → SessionsAre old.clients (Some p) None world.sessions said → slice_get old.clients i ≡ Some c → c.peer ≡ p
    → Speaking old world said p i c
speaking old world said p i c are at peer_is =
    let z = zip_at (IsSession (Some p) said) old.clients world.sessions i c are.each at in
    record {
      are = are;
      session = z.0;
      session_at = z.1;
      is = z.2;
      peer = sym z.2.peer ∙ peer_is;
      hears = z.2.speaks (ap (λ (n : ℕ). Some n) (sym peer_is));
    }

-- who speaks has a session, and so it is there
pub gone_not : (p : ℕ) (clients : List ClientState) (sessions : List Session) (said : List Event) → SessionsAre clients (Some p) None sessions said → AllByRecursion (λ (d : ClientState). is_numbered p d ≡ false) clients → ⊥
gone_not p clients sessions said are absent =
    let none = zip_all (IsSession (Some p) said) (λ (d : ClientState). is_numbered p d ≡ false) (λ (y : Session). is_peer p y ≡ false) clients sessions (λ d y k e. rw (← k.peer) e) are.each absent in
    true≢false (sym are.leaves_left ∙ none_there p sessions none)

module _ {G A Y : Type 0} (of : AskedGhosts G A Y) where
  -- What is known beside a turn where the node has nothing left.
  pub record Beside (old new : State G) (world : World) (left : List Event) : Type 0 where
    pub stood : Stands of.beneath.ledger.stands old world left
    pub none_left : stood.ordered ≡ []
    pub still : IsStill world
    pub all_told : AllTold world
    pub moved : IsSure world.side → Moved of.beneath.ledger old.ledger new.ledger world.side.chain world.side.chain
    pub holdings : new.holdings ≡ old.holdings
    pub caches : IsSure world.side → CachesStand new.caches stood.start world.side.chain
    pub ahead : new.ahead ≡ old.ahead
    pub node : new.node ≡ old.node
    pub before : new.before ≡ old.before
    pub touched : new.touched ≡ old.touched

  left_said : (old new : State G) (world : World) (left : List Event) (r : Beside old new world left) → left ≡ r.stood.said
  left_said old new world left r = r.stood.left_is ∙ ap (λ (es : List Event). es ++ r.stood.said) r.none_left

  stood_after : (old new : State G) (world : World) (left : List Event) (r : Beside old new world left) (ss : List Session) (rest : List Event)
      → SessionsAre new.clients new.speaker new.surplus ss rest → ((q : ℕ) → new.speaker ≡ Some q → NoneWaits ss) → new.surplus ≡ None → Tellings world.side r.stood.start old.touched ss
      → Stands of.beneath.ledger.stands new (record world { sessions = ss; desk = new.desk }) rest
  stood_after old new world left r ss rest are spoken unused tellings = record {
    chain = λ sure. (r.moved sure).stood;
    magic = ap (λ (h : Holdings). h.magic) r.holdings ∙ r.stood.magic;
    found = ap (λ (h : Holdings). h.tree) r.holdings ∙ r.stood.found;
    ahead = r.ahead ∙ r.stood.ahead;
    start = r.stood.start;
    set = record { stood = λ sure. rw r.holdings (r.stood.set.stood sure); fees = λ sure. rw r.holdings (r.stood.set.fees sure); computed = r.caches; still = r.stood.set.still; limits = rw r.holdings r.stood.set.limits };
    ordered = [];
    node = rw r.node (subst (λ (es : List Event). NodeLeaves old.node world.heard es) r.none_left r.stood.node);
    said = rest;
    sessions = are;
    speaker_last = λ q e. (refl, spoken q e);
    surplus_last = λ q e. absurd (no_some q (sym e ∙ unused));
    before = λ sure. r.before ∙ r.stood.before sure;
    desk = refl;
    tellings = rw r.touched tellings;
    left_is = refl;
  }

  built : (old new : State G) (before after : A) (y z : Y) (world : World) (left : List Event) (o : Outs) (r : Beside old new world left) (told : of.beneath.files.tells → AllGrow world.side.files (of.beneath.files.bytes after)) (ss : List Session)
      (done rest : List Event) (losses : List Deed) → left ≡ done ++ rest → OneTurn of.beneath.files world done o losses (record world { sessions = ss; desk = new.desk }) → SessionsAre new.clients new.speaker new.surplus ss rest
      → ((q : ℕ) → new.speaker ≡ Some q → NoneWaits ss) → new.surplus ≡ None → Tellings world.side r.stood.start old.touched ss
      → AllByRecursion (GoesTo (record world { sessions = ss; desk = new.desk }) new.surplus o.closing) o.messages → Did of (asking_of (lent old before y)) (asking_of (lent new after z)) losses
      → TookTurn of (lent old before y) (lent new after z) world left o
  built old new before after y z world left o r told ss done rest losses whole turn are spoken unused tellings sends rose = record {
    done = done;
    rest = rest;
    losses = losses;
    next = record world { sessions = ss; desk = new.desk };
    whole = whole;
    turn = turn;
    stood = stood_after old new world left r ss rest are spoken unused tellings;
    moved = r.moved;
    told = told;
    sends_to = sends;
    did = rose;
  }

  -- a client too many is closed
  surplus_step : (old new : State G) (before after : A) (y z : Y) (world : World) (left : List Event) (o : Outs) (r : Beside old new world left) (told : of.beneath.files.tells → AllGrow world.side.files (of.beneath.files.bytes after)) (speaker : Option ℕ) (p : ℕ)
      → SessionsAre old.clients speaker (Some p) world.sessions r.stood.said → new.clients ≡ old.clients → new.speaker ≡ speaker → new.surplus ≡ None → o ≡ closes_surplus p → IsIdly (passing of (asking_of (lent old before y)) (asking_of (lent new after z)))
      → TookTurn of (lent old before y) (lent new after z) world left o
  surplus_step old new before after y z world left o r told (Some q) p are clients speaker unused is still = absurd are.leaves_left
  surplus_step old new before after y z world left o r told None p are clients speaker unused is still =
      built old new before after y z world left o r told world.sessions (joins p ∷ []) [] [] (left_said old new world left r ∙ are.leaves_left.0)
      (run.takes (joins p) r.still r.all_told refl (if_false _ _ _ are.leaves_left.1 (is, rw (still.desk ∙ r.stood.desk) refl, refl)))
      (rw (clients, speaker, unused) (record { each = again old.clients world.sessions are.each; rising = are.rising; leaves_left = tt }))
      (λ q e. absurd (no_some q (sym e ∙ speaker))) unused r.stood.tellings (rw is tt) still.did
    where
      again : (cs : List ClientState) (ss : List Session) → AllZip (IsSession None r.stood.said) cs ss → AllZip (IsSession None []) cs ss
      again [] [] z = tt
      again [] (y ∷ ys) z = absurd z
      again (x ∷ xs) [] z = absurd z
      again (x ∷ xs) (y ∷ ys) z =
          (record { peer = z.0.peer; limit = z.0.limit; kept = z.0.kept; waits = z.0.waits; met = z.0.met; speaks = λ e. absurd (no_some x.peer (sym e)) }, again xs ys z.1)

  -- the client is closed, with these events done
  goes : (old new : State G) (before after : A) (y z : Y) (world : World) (left : List Event) (o : Outs) (r : Beside old new world left) (told : of.beneath.files.tells → AllGrow world.side.files (of.beneath.files.bytes after)) (p i : ℕ) (c : ClientState) (w : Speaking old world r.stood.said p i c)
      (done rest : List Event) (losses : List Deed) → left ≡ done ++ rest → OneTurn of.beneath.files world done o losses (without_client p (record world { desk = new.desk })) → AllVoid (filter (λ (y : Session). not (is_peer p y)) world.sessions) rest
      → new.clients ≡ client_replaced i None old.clients → new.speaker ≡ None → new.surplus ≡ None → ((next : World) → AllByRecursion (GoesTo next None o.closing) o.messages) → Did of (asking_of (lent old before y)) (asking_of (lent new after z)) losses
      → TookTurn of (lent old before y) (lent new after z) world left o
  goes old new before after y z world left o r told p i c w done rest losses whole turn void clients speaker unused sends rose =
      let gone_is = one_filtered p world.sessions i w.session w.are.rising w.session_at w.peer in
      let void' : AllVoid (client_replaced i None world.sessions) rest = subst (λ (ss : List Session). AllVoid ss rest) gone_is void in
      let turn' : OneTurn of.beneath.files world done o losses (record world { sessions = client_replaced i None world.sessions; desk = new.desk }) =
      subst (λ (ss : List Session). OneTurn of.beneath.files world done o losses (record world { sessions = ss; desk = new.desk })) gone_is turn in
      built old new before after y z world left o r told (client_replaced i None world.sessions) done rest losses whole turn'
      (rw (clients, speaker, unused) (speaker_changes old.clients world.sessions p i c w.session r.stood.said rest None None None w.are w.session_at w.peer (inr refl) tt tt void'))
      (λ q e. absurd (no_some q (sym e ∙ speaker))) unused (tellings_replaced world.side r.stood.start old.touched world.sessions i None r.stood.tellings (λ sure. tt) (λ sure. tt) r.still) (rw unused (sends (record world { sessions = client_replaced i None world.sessions; desk = new.desk }))) rose

  -- the client stays with this session, and these events are left
  stays : (old new : State G) (before after : A) (y z : Y) (world : World) (left : List Event) (o : Outs) (r : Beside old new world left) (told : of.beneath.files.tells → AllGrow world.side.files (of.beneath.files.bytes after)) (p i : ℕ) (c now : ClientState) (x : Session) (w : Speaking old world r.stood.said p i c)
      (done rest : List Event) (losses : List Deed) → x.peer ≡ w.session.peer → x.waits ≡ w.session.waits → (IsSure world.side → status_told.AllTold (status world.side.chain world.side.kept) x.client.subs) → left ≡ done ++ rest → OneTurn of.beneath.files world done o losses (record world { sessions = client_replaced i (Some x) world.sessions; desk = new.desk })
      → IsSession (Some p) rest now x → new.clients ≡ client_replaced i (Some now) old.clients → new.speaker ≡ Some p → new.surplus ≡ None
      → AllByRecursion (GoesTo (record world { sessions = client_replaced i (Some x) world.sessions; desk = new.desk }) None o.closing) o.messages → Did of (asking_of (lent old before y)) (asking_of (lent new after z)) losses
      → TookTurn of (lent old before y) (lent new after z) world left o
  stays old new before after y z world left o r told p i c now x w done rest losses same waits_same statuses whole turn session clients speaker unused sends rose =
      let quiet_before = none_wait_world world.sessions r.all_told in
      let start_is = r.stood.set.still r.still in
      built old new before after y z world left o r told (client_replaced i (Some x) world.sessions) done rest losses whole turn
      (rw (clients, speaker, unused) (speaker_changes old.clients world.sessions p i c w.session r.stood.said rest (Some p) (Some now) (Some x) w.are w.session_at w.peer (inl refl) session same
      (one_there p (client_replaced i (Some x) world.sessions) i x (at_replaced world.sessions i w.session x w.session_at) (same ∙ w.peer))))
      (λ q e. all_replaced _ world.sessions i (Some x) quiet_before (waits_same ∙ all_at _ world.sessions i w.session quiet_before w.session_at)) unused
      (tellings_replaced world.side r.stood.start old.touched world.sessions i (Some x) r.stood.tellings (λ sure. untouched_of world.side r.stood.start old.touched x.client.subs start_is (statuses sure)) (λ sure e. statuses sure) r.still)
      (rw unused sends) rose

  -- it is closed as out of memory, for its bytes or a line of them
  memory_step : (old new : State G) (before after : A) (y z : Y) (world : World) (left : List Event) (o : Outs) (r : Beside old new world left) (told : of.beneath.files.tells → AllGrow world.side.files (of.beneath.files.bytes after)) (p i : ℕ) (c : ClientState) (w : Speaking old world r.stood.said p i c)
      → c.peer ≡ p → new.clients ≡ client_replaced i None old.clients → new.speaker ≡ None → new.surplus ≡ None → o ≡ closes_memory p → IsIdly (passing of (asking_of (lent old before y)) (asking_of (lent new after z)))
      → TookTurn of (lent old before y) (lent new after z) world left o
  memory_step old new before after y z world left o r told p i c w peer_is clients speaker unused is still =
      let said_is = left_said old new world left r in
      let there = one_there p world.sessions i w.session w.session_at w.peer in
      let void : AllVoid (filter (λ (y : Session). not (is_peer p y)) world.sessions) left = rw said_is (left_void _ c w.session.heard r.stood.said (rw peer_is (gone_itself p world.sessions)) w.hears) in
      goes old new before after y z world left o r told p i c w [] left [] refl (rw (still.desk ∙ r.stood.desk) (run.departs p there refl is refl refl)) void clients speaker unused (λ next. rw is tt) still.did

  -- it is closed after its next event
  closed_step : (old new : State G) (before after : A) (y z : Y) (world : World) (left : List Event) (o : Outs) (r : Beside old new world left) (told : of.beneath.files.tells → AllGrow world.side.files (of.beneath.files.bytes after)) (p i : ℕ) (c : ClientState) (b : LineState)
      (e : LineEvent) (losses : List Deed) (w : Speaking old world r.stood.said p i c) → c.peer ≡ p → c.lost ≡ false → GivesEvent c.buffer e b → new.clients ≡ client_replaced i None old.clients → new.speaker ≡ None → new.surplus ≡ None
      → Takes of.beneath.files world (says p e) o losses (without_client p (record world { desk = new.desk })) → ((next : World) → AllByRecursion (GoesTo next None o.closing) o.messages) → Did of (asking_of (lent old before y)) (asking_of (lent new after z)) losses
      → TookTurn of (lent old before y) (lent new after z) world left o
  closed_step old new before after y z world left o r told p i c b e losses w peer_is kept gives clients speaker unused takes sends rose =
      let n = next_event c b e w.session.heard r.stood.said kept w.is.limit w.hears gives in
      let rest = map (says c.peer) (drop (n.given + 1) (lines line_limit w.session.heard)) in
      goes old new before after y z world left o r told p i c w (says c.peer e ∷ []) rest losses (left_said old new world left r ∙ n.first)
      (rw peer_is (run.takes (says p e) r.still r.all_told refl takes))
      (subst (λ (q : ℕ). AllVoid (filter (λ (y : Session). not (is_peer p y)) world.sessions) (map (says q) (drop (n.given + 1) (lines line_limit w.session.heard)))) (sym peer_is)
      (void_all _ p _ (gone_itself p world.sessions) (said_all p (drop (n.given + 1) (lines line_limit w.session.heard)))))
      clients speaker unused sends rose

  -- a line that is too long closes it
  long_step : (old new : State G) (before after : A) (y z : Y) (world : World) (left : List Event) (o : Outs) (r : Beside old new world left) (told : of.beneath.files.tells → AllGrow world.side.files (of.beneath.files.bytes after)) (p i : ℕ) (c : ClientState) (b : LineState)
      (w : Speaking old world r.stood.said p i c) → c.peer ≡ p → c.lost ≡ false → GivesEvent c.buffer too_long b → new.clients ≡ client_replaced i None old.clients → new.speaker ≡ None → new.surplus ≡ None → o ≡ closes_long p → IsIdly (passing of (asking_of (lent old before y)) (asking_of (lent new after z)))
      → TookTurn of (lent old before y) (lent new after z) world left o
  long_step old new before after y z world left o r told p i c b w peer_is kept gives clients speaker unused is still =
      let there = one_there p world.sessions i w.session w.session_at w.peer in
      closed_step old new before after y z world left o r told p i c b too_long [] w peer_is kept gives clients speaker unused
      (if_true _ _ (is_client p world) there (is, rw (still.desk ∙ r.stood.desk) refl, refl)) (λ next. rw is tt) still.did

  -- what its session's line comes to is what the line comes to
  line_takes : (old : State G) (world : World) (said : List Event) (o : Outs) (p i : ℕ) (c : ClientState) (w : Speaking old world said p i c) (bytes : List ℕ) (losses : List Deed) (next : World)
      → model.IsAnswered of.beneath.files.tells world p bytes w.session o losses next → Takes of.beneath.files world (says p (line bytes)) o losses next
  line_takes old world said o p i c w bytes losses next answered =
      rw (one_found p world.sessions i w.session w.are.rising w.session_at w.peer) answered

  -- no memory was found for its line
  starved_step : (old new : State G) (before after : A) (y z : Y) (world : World) (left : List Event) (o : Outs) (r : Beside old new world left) (told : of.beneath.files.tells → AllGrow world.side.files (of.beneath.files.bytes after)) (p i : ℕ) (c : ClientState) (b : LineState)
      (bytes : List ℕ) (now : known.Session) (losses : List Deed) (e : OutOfMemory) (w : Speaking old world r.stood.said p i c) → c.peer ≡ p → c.lost ≡ false → GivesEvent c.buffer (line bytes) b
      → new.clients ≡ client_replaced i None old.clients → new.speaker ≡ None → new.surplus ≡ None
      → Comes of.beneath.files.tells world.side bytes (standing_of c.session old.desk) losses (standing_of now new.desk) (Err e) → o ≡ closes_memory p → Did of (asking_of (lent old before y)) (asking_of (lent new after z)) losses
      → TookTurn of (lent old before y) (lent new after z) world left o
  starved_step old new before after y z world left o r told p i c b bytes now losses e w peer_is kept gives clients speaker unused comes is rose =
      let comes' = subst (λ (s : Standing). Comes of.beneath.files.tells world.side bytes s losses (standing_of now new.desk) (Err e)) (rw (w.is.kept, r.stood.desk) refl) comes in
      closed_step old new before after y z world left o r told p i c b (line bytes) losses w peer_is kept gives clients speaker unused
      (line_takes old world r.stood.said o p i c w bytes losses (without_client p (record world { desk = new.desk })) (model.starved e now new.desk comes' is refl)) (λ next. rw is tt) rose

  -- what it gets goes to it
  reply_goes : (p : ℕ) (text : Option (List ℕ)) (closes_it : Bool) (next : World) → (closes_it ≡ false → is_client p next ≡ true)
      → AllByRecursion (GoesTo next None (outs_of_reply p (record { text = text; closes = closes_it })).closing) (outs_of_reply p (record { text = text; closes = closes_it })).messages
  reply_goes p None closes_it next there = tt
  reply_goes p (Some t) true next there = (inr (inr refl, refl), tt)
  reply_goes p (Some t) false next there = (inr (inl (there refl), refl), tt)

  -- it gets its reply, after which it is closed
  version_step : (old new : State G) (before after : A) (y z : Y) (world : World) (left : List Event) (o : Outs) (r : Beside old new world left) (told : of.beneath.files.tells → AllGrow world.side.files (of.beneath.files.bytes after)) (p i : ℕ) (c : ClientState) (b : LineState)
      (bytes : List ℕ) (now : known.Session) (losses : List Deed) (reply : LineReply) (w : Speaking old world r.stood.said p i c) → c.peer ≡ p → c.lost ≡ false → GivesEvent c.buffer (line bytes) b
      → new.clients ≡ client_replaced i None old.clients → new.speaker ≡ None → new.surplus ≡ None
      → Comes of.beneath.files.tells world.side bytes (standing_of c.session old.desk) losses (standing_of now new.desk) (Ok reply) → reply.closes ≡ true → o ≡ outs_of_reply p reply → Did of (asking_of (lent old before y)) (asking_of (lent new after z)) losses
      → TookTurn of (lent old before y) (lent new after z) world left o
  version_step old new before after y z world left o r told p i c b bytes now losses reply w peer_is kept gives clients speaker unused comes closes_it is rose =
      let comes' = subst (λ (s : Standing). Comes of.beneath.files.tells world.side bytes s losses (standing_of now new.desk) (Ok reply)) (rw (w.is.kept, r.stood.desk) refl) comes in
      let next_is : without_client p (record world { desk = new.desk }) ≡ after_reply p reply w.session now (record world { desk = new.desk }) = rw closes_it refl in
      closed_step old new before after y z world left o r told p i c b (line bytes) losses w peer_is kept gives clients speaker unused
      (line_takes old world r.stood.said o p i c w bytes losses (without_client p (record world { desk = new.desk })) (model.replied reply now new.desk comes' is next_is))
      (λ next. rw is (reply_goes p reply.text reply.closes next (λ open_still. absurd (true≢false (sym closes_it ∙ open_still))))) rose

  -- it gets its reply, and stays
  reply_step : (old new : State G) (before after : A) (y z : Y) (world : World) (left : List Event) (o : Outs) (r : Beside old new world left) (told : of.beneath.files.tells → AllGrow world.side.files (of.beneath.files.bytes after)) (p i : ℕ) (c : ClientState) (b : LineState)
      (bytes : List ℕ) (now : known.Session) (losses : List Deed) (reply : LineReply) (w : Speaking old world r.stood.said p i c) → c.peer ≡ p → c.lost ≡ false → b.limit ≡ c.buffer.limit → GivesEvent c.buffer (line bytes) b
      → new.clients ≡ client_replaced i (Some (record c { buffer = b; session = now })) old.clients → new.speaker ≡ Some p → new.surplus ≡ None
      → Comes of.beneath.files.tells world.side bytes (standing_of c.session old.desk) losses (standing_of now new.desk) (Ok reply) → reply.closes ≡ false → o ≡ outs_of_reply p reply → Did of (asking_of (lent old before y)) (asking_of (lent new after z)) losses
      → TookTurn of (lent old before y) (lent new after z) world left o
  reply_step old new before after y z world left o r told p i c b bytes now losses reply w peer_is kept limit gives clients speaker unused comes stays_open is rose =
      let n = next_event c b (line bytes) w.session.heard r.stood.said kept w.is.limit w.hears gives in
      let rest = map (says c.peer) (drop (n.given + 1) (lines line_limit w.session.heard)) in
      let x : Session = record w.session { client = now } in
      let there = one_there p (client_replaced i (Some x) world.sessions) i x (at_replaced world.sessions i w.session x w.session_at) w.peer in
      let session : IsSession (Some p) rest (record c { buffer = b; session = now }) x = record {
        peer = w.is.peer;
        limit = limit ∙ w.is.limit;
        kept = refl;
        waits = w.is.waits;
        met = λ e. absurd (e (ap (λ (q : ℕ). Some q) (sym peer_is)));
        speaks = λ e. in_order (n.given + 1) kept n.at n.few refl;
      } in
      let comes' = subst (λ (s : Standing). Comes of.beneath.files.tells world.side bytes s losses (standing_of now new.desk) (Ok reply)) (rw (w.is.kept, r.stood.desk) refl) comes in
      let mapped = sym (one_mapped p (λ (y : Session). x) world.sessions i w.session w.are.rising w.session_at w.peer) in
      let next_is : record world { sessions = client_replaced i (Some x) world.sessions; desk = new.desk } ≡ after_reply p reply w.session now (record world { desk = new.desk }) =
      rw stays_open (ap (λ (ss : List Session). record world { sessions = ss; desk = new.desk }) mapped) in
      let statuses : IsSure world.side → status_told.AllTold (status world.side.chain world.side.kept) now.subs = λ sure.
      let all = all_statuses world.side r.stood.start old.touched world.sessions sure r.stood.tellings r.still (none_wait_world world.sessions r.all_told) in
      let was_told = all_at _ world.sessions i w.session all w.session_at in
      replies_keep_told of.beneath.files.tells world.side bytes (standing_of w.session.client world.desk) (standing_of now new.desk) losses reply sure was_told comes' in
      stays old new before after y z world left o r told p i c (record c { buffer = b; session = now }) x w (says c.peer (line bytes) ∷ []) rest losses refl refl statuses
      (left_said old new world left r ∙ n.first)
      (rw peer_is (run.takes (says p (line bytes)) r.still r.all_told refl
      (line_takes old world r.stood.said o p i c w bytes losses (record world { sessions = client_replaced i (Some x) world.sessions; desk = new.desk }) (model.replied reply now new.desk comes' is next_is))))
      session clients speaker unused
      (rw is (reply_goes p reply.text reply.closes (record world { sessions = client_replaced i (Some x) world.sessions; desk = new.desk }) (λ e. there))) rose

  same_outs : (o p : code.Outs) → ◌≡◌ {A = Option code.Outs} (Some o) (Some p) → o ≡ p
  same_outs o p e = cc

  no_outs : (o : code.Outs) → ◌≡◌ {A = Option code.Outs} (Some o) None → ⊥
  no_outs o e = cc

  -- its next line
  line_step : (old new : State G) (before after : A) (y z : Y) (world : World) (left : List Event) (o : Outs) (r : Beside old new world left) (told : of.beneath.files.tells → AllGrow world.side.files (of.beneath.files.bytes after)) (p i : ℕ) (c : ClientState) (b : LineState)
      (bytes : List ℕ) (now : known.Session) (st : Bool) (w : Speaking old world r.stood.said p i c) → c.peer ≡ p → c.lost ≡ false → b.limit ≡ c.buffer.limit → GivesEvent c.buffer (line bytes) b
      → (st ≡ true → (new.clients ≡ client_replaced i (Some (record c { buffer = b; session = now })) old.clients) × (new.speaker ≡ Some p))
      → (st ≡ false → (new.clients ≡ client_replaced i None old.clients) × (new.speaker ≡ None)) → new.surplus ≡ None
      → LineAnswered of.beneath.files.tells world.side (passing of (asking_of (lent old before y)) (asking_of (lent new after z))) p bytes c.session now o st
      → TookTurn of (lent old before y) (lent new after z) world left o
  line_step old new before after y z world left o r told p i c b bytes now st w peer_is kept limit gives staying going unused (starved losses e comes is st_is rose) =
      let g = going st_is in
      starved_step old new before after y z world left o r told p i c b bytes now losses e w peer_is kept gives g.0 g.1 unused comes is rose
  line_step old new before after y z world left o r told p i c b bytes now st w peer_is kept limit gives staying going unused (replied losses reply comes is st_is rose) = elim (either reply.closes) [
    | inl h ↦
        let g = going (st_is ∙ ap not h) in
        version_step old new before after y z world left o r told p i c b bytes now losses reply w peer_is kept gives g.0 g.1 unused comes h is rose
    | inr h ↦
        let s = staying (st_is ∙ ap not h) in
        reply_step old new before after y z world left o r told p i c b bytes now losses reply w peer_is kept limit gives s.0 s.1 unused comes h is rose
  ]

  speaker_step : (old new : State G) (before after : A) (y z : Y) (world : World) (left : List Event) (o : code.Outs) (r : Beside old new world left) (told : of.beneath.files.tells → AllGrow world.side.files (of.beneath.files.bytes after)) (p i : ℕ) (c : ClientState) (now : Option ClientState)
      → Speaking old world r.stood.said p i c → c.peer ≡ p → new.clients ≡ client_replaced i now old.clients → new.speaker ≡ speaker_after (Some o) now → new.surplus ≡ None
      → ClientTurn of.beneath.files.tells world.side (passing of (asking_of (lent old before y)) (asking_of (lent new after z))) c (Some o) now
      → TookTurn of (lent old before y) (lent new after z) world left (outs_of o)
  speaker_step old new before after y z world left o r told p i c now w peer_is clients speaker unused (loses o' lost some is gone_is still) =
      memory_step old new before after y z world left (outs_of o) r told p i c w peer_is (clients ∙ ap (λ (n : Option ClientState). client_replaced i n old.clients) gone_is) (speaker ∙ ap (λ (n : Option ClientState). speaker_after (Some o) n) gone_is) unused
      (ap outs_of (same_outs o o' some) ∙ is ∙ ap closes_memory peer_is) still
  speaker_step old new before after y z world left o r told p i c now w peer_is clients speaker unused (departs o' kept next_line some is gone_is still) =
      memory_step old new before after y z world left (outs_of o) r told p i c w peer_is (clients ∙ ap (λ (n : Option ClientState). client_replaced i n old.clients) gone_is) (speaker ∙ ap (λ (n : Option ClientState). speaker_after (Some o) n) gone_is) unused
      (ap outs_of (same_outs o o' some) ∙ is ∙ ap closes_memory peer_is) still
  speaker_step old new before after y z world left o r told p i c now w peer_is clients speaker unused (answers o' (event.Line bytes) b session st kept limit gives a now_is some) =
      let d : ClientState = record c { buffer = b; session = session } in
      let answered : LineAnswered of.beneath.files.tells world.side (passing of (asking_of (lent old before y)) (asking_of (lent new after z))) p bytes c.session session (outs_of o) st =
      subst (λ (q : code.Outs). LineAnswered of.beneath.files.tells world.side (passing of (asking_of (lent old before y)) (asking_of (lent new after z))) p bytes c.session session (outs_of q) st) (sym (same_outs o o' some))
      (subst (λ (q : ℕ). LineAnswered of.beneath.files.tells world.side (passing of (asking_of (lent old before y)) (asking_of (lent new after z))) q bytes c.session session (outs_of o') st) peer_is a) in
      line_step old new before after y z world left (outs_of o) r told p i c b bytes session st w peer_is kept limit gives
      (λ yes_it. let n : now ≡ Some d = now_is ∙ ap (λ (x : Bool). left_if x d) yes_it in
      (clients ∙ ap (λ (m : Option ClientState). client_replaced i m old.clients) n, speaker ∙ ap (λ (m : Option ClientState). speaker_after (Some o) m) n ∙ ap (λ (q : ℕ). Some q) peer_is))
      (λ no_it. let n : now ≡ None = now_is ∙ ap (λ (x : Bool). left_if x d) no_it in
      (clients ∙ ap (λ (m : Option ClientState). client_replaced i m old.clients) n, speaker ∙ ap (λ (m : Option ClientState). speaker_after (Some o) m) n))
      unused answered
  speaker_step old new before after y z world left o r told p i c now w peer_is clients speaker unused (answers o' (event.TooLong most) b session st kept limit gives a now_is some) =
      let n : now ≡ None = now_is ∙ ap (λ (x : Bool). left_if x (record c { buffer = b; session = session })) a.1 in
      long_step old new before after y z world left (outs_of o) r told p i c b w peer_is kept gives (clients ∙ ap (λ (m : Option ClientState). client_replaced i m old.clients) n) (speaker ∙ ap (λ (m : Option ClientState). speaker_after (Some o) m) n) unused
      (ap outs_of (same_outs o o' some) ∙ a.0 ∙ ap closes_long peer_is) a.2
  speaker_step old new before after y z world left o r told p i c now w peer_is clients speaker unused (waits idle none_is same still) = absurd (no_outs o none_is)

  -- a turn where the node has nothing left
  pub peers_step : (old new : State G) (before after : A) (y z : Y) (world : World) (left : List Event) (o : Option code.Outs) (r : Beside old new world left) (told : of.beneath.files.tells → AllGrow world.side.files (of.beneath.files.bytes after))
      → PeersTurn of.beneath.files.tells world.side (passing of (asking_of (lent old before y)) (asking_of (lent new after z))) old o new
      → IfSome o (λ out. TookTurn of (lent old before y) (lent new after z) world left (outs_of out))
  peers_step old new before after y z world left None r told turn = tt
  peers_step old new before after y z world left (Some o) r told (closes p o' is some outs_is next still) =
      surplus_step old new before after y z world left (outs_of o) r told old.speaker p (rw is at r.stood.sessions) (ap (λ (s : State G). s.clients) next) (ap (λ (s : State G). s.speaker) next) (ap (λ (s : State G). s.surplus) next)
      (ap outs_of (same_outs o o' some) ∙ outs_is) still
  peers_step old new before after y z world left (Some o) r told (has_turn unused (nobody no_speaker none_is next still)) = absurd (no_outs o none_is)
  peers_step old new before after y z world left (Some o) r told (has_turn unused (gone p is absent none_is next still)) = absurd (no_outs o none_is)
  peers_step old new before after y z world left (Some o) r told (has_turn unused (steps p i c now is at peer_is turn next)) =
      speaker_step old new before after y z world left o r told p i c now (speaking old world r.stood.said p i c (rw (is, unused) at r.stood.sessions) at peer_is) peer_is
      (ap (λ (s : State G). s.clients) next) (ap (λ (s : State G). s.speaker) next) (ap (λ (s : State G). s.surplus) next ∙ unused) turn

  -- lines of clients that are none of these have no effect
  void_event : (world : World) (e : Event) → (p : ℕ) × IsSaidBy p e × (find (is_peer p) world.sessions ≡ None) → Takes of.beneath.files world e nothing [] world
  void_event world (joins q) v = absurd v.1
  void_event world (leaves q) v = absurd v.1
  void_event world (orders q) v = absurd v.1
  void_event world (says q (line bytes)) v =
      let n : find (is_peer q) world.sessions ≡ None = rw v.1 v.2 in
      rw n (refl, refl, refl)
  void_event world (says q too_long) v =
      let n : find (is_peer q) world.sessions ≡ None = rw v.1 v.2 in
      if_false _ _ _ (none_there q world.sessions (found_none q world.sessions n)) (refl, refl, refl)

  void_more : (world : World) (done left : List Event) → IsStill world → AllTold world → AllVoid world.sessions left → Turns of.beneath.files world done [] [] [] world → Turns of.beneath.files world (done ++ left) [] [] [] world
  void_more world done [] still all_told void turns = rw (append-nil done) turns
  void_more world done (e ∷ es) still all_told void turns =
      let one : Turns of.beneath.files world (done ++ e ∷ []) [] [] [] world =
      run.more done [] [] [] world (e ∷ []) nothing [] world [] [] [] world turns (run.takes e still all_told refl (void_event world e void.0)) (run.all world None) in
      let more = void_more world (done ++ e ∷ []) es still all_told void.1 one in
      rw (append_assoc done (e ∷ []) es) at more

  zip_none : (said : List Event) (cs : List ClientState) (ss : List Session) → AllZip (IsSession None said) cs ss → AllZip (IsSession None []) cs ss
  zip_none said [] [] z = tt
  zip_none said [] (y ∷ ys) z = absurd z
  zip_none said (x ∷ xs) [] z = absurd z
  zip_none said (x ∷ xs) (y ∷ ys) z =
      (record { peer = z.0.peer; limit = z.0.limit; kept = z.0.kept; waits = z.0.waits; met = z.0.met; speaks = λ e. absurd (no_some x.peer (sym e)) }, zip_none said xs ys z.1)

  -- nobody spoke, or the one that spoke has no line left
  done_so : (old new : State G) (world : World) (left : List Event) (r : Beside old new world left) → SessionsAre new.clients None None world.sessions [] → new.speaker ≡ None → new.surplus ≡ None
      → new.desk ≡ old.desk → AllVoid world.sessions r.stood.said → IsDone of.beneath.ledger.stands of.beneath.files world left new
  done_so old new world left r are speaker unused same_desk void = record {
    turns = void_more world [] left r.still r.all_told (rw (left_said old new world left r) void) run.none;
    still = r.still;
    told = r.all_told;
    statuses = λ sure. all_statuses world.side r.stood.start old.touched world.sessions sure r.stood.tellings r.still (none_wait_world world.sessions r.all_told);
    stood = subst (λ (d : DeskState). Stands of.beneath.ledger.stands new (record world { desk = d }) []) (same_desk ∙ r.stood.desk)
        (stood_after old new world left r world.sessions [] (rw (speaker, unused) are) (λ q e. absurd (no_some q (sym e ∙ speaker))) unused r.stood.tellings);
  }

  -- no line of the one that speaks is left
  waited : (tells : Type 0) (side : Side) (rose : Passing) (old new : State G) (world : World) (left : List Event) (r : Beside old new world left) (p i : ℕ) (c : ClientState) (now : Option ClientState) (w : Speaking old world r.stood.said p i c)
      → new.clients ≡ client_replaced i now old.clients → new.speaker ≡ None → new.surplus ≡ None → rose.was ≡ old.desk → rose.now ≡ new.desk → ClientTurn tells side rose c None now → IsDone of.beneath.ledger.stands of.beneath.files world left new
  waited tells side rose old new world left r p i c now w clients speaker unused was_desk now_desk (loses o' lost some is gone_is still) = absurd (no_outs o' (sym some))
  waited tells side rose old new world left r p i c now w clients speaker unused was_desk now_desk (departs o' kept next_line some is gone_is still) = absurd (no_outs o' (sym some))
  waited tells side rose old new world left r p i c now w clients speaker unused was_desk now_desk (answers o' e b session st kept limit gives a now_is some) = absurd (no_outs o' (sym some))
  waited tells side rose old new world left r p i c now w clients speaker unused was_desk now_desk (waits idle none_is now_is still) =
      let d = ordered c w.session.heard r.stood.said idle.kept w.hears in
      let all = all_met c w.session.heard d.given w.is.limit idle.given_all d.at in
      let none_after : r.stood.said ≡ [] = d.left_is ∙ left_none (says c.peer) (lines line_limit w.session.heard) d.given all in
      let session : IsSession None [] c w.session = record {
        peer = w.is.peer;
        limit = w.is.limit;
        kept = w.is.kept;
        waits = w.is.waits;
        met = λ e. record { kept = idle.kept; at = subst (λ (n : ℕ). WasFed c.buffer w.session.heard n) all d.at };
        speaks = λ e. absurd (no_some c.peer (sym e));
      } in
      let are : SessionsAre (client_replaced i (Some c) old.clients) None None (client_replaced i (Some w.session) world.sessions) [] =
      speaker_changes old.clients world.sessions p i c w.session r.stood.said [] None (Some c) (Some w.session) w.are w.session_at w.peer (inr refl) session refl tt in
      let are' = subst (λ (ss : List Session). SessionsAre (client_replaced i (Some c) old.clients) None None ss []) (replaced_same world.sessions i w.session w.session_at) are in
      done_so old new world left r (rw (clients ∙ ap (λ (n : Option ClientState). client_replaced i n old.clients) now_is) are') speaker unused (sym now_desk ∙ still.desk ∙ was_desk) (rw none_after tt)

  -- where a turn finds nothing to do, nothing is left
  pub peers_none : (tells : Type 0) (side : Side) (rose : Passing) (old new : State G) (world : World) (left : List Event) (o : Option code.Outs) (r : Beside old new world left)
      → rose.was ≡ old.desk → rose.now ≡ new.desk → PeersTurn tells side rose old o new → IfNone o (IsDone of.beneath.ledger.stands of.beneath.files world left new)
  peers_none tells side rose old new world left (Some o) r was_desk now_desk turn = tt
  peers_none tells side rose old new world left None r was_desk now_desk (closes p o' is some outs_is next still) = absurd (no_outs o' (sym some))
  peers_none tells side rose old new world left None r was_desk now_desk (has_turn unused (nobody no_speaker none_is next still)) =
      let are : SessionsAre old.clients None None world.sessions r.stood.said = rw (no_speaker, unused) at r.stood.sessions in
      done_so old new world left r (rw (ap (λ (s : State G). s.clients) next) (record { each = zip_none r.stood.said old.clients world.sessions are.each; rising = are.rising; leaves_left = tt }))
      (ap (λ (s : State G). s.speaker) next ∙ no_speaker) (ap (λ (s : State G). s.surplus) next ∙ unused) (ap (λ (s : State G). s.desk) next) are.leaves_left
  peers_none tells side rose old new world left None r was_desk now_desk (has_turn unused (gone p is absent none_is next still)) =
      let are : SessionsAre old.clients (Some p) None world.sessions r.stood.said = rw (is, unused) at r.stood.sessions in
      absurd (gone_not p old.clients world.sessions r.stood.said are absent)
  peers_none tells side rose old new world left None r was_desk now_desk (has_turn unused (steps p i c now is at peer_is turn next)) =
      waited tells side rose old new world left r p i c now (speaking old world r.stood.said p i c (rw (is, unused) at r.stood.sessions) at peer_is)
      (ap (λ (s : State G). s.clients) next) (ap (λ (s : State G). s.speaker) next) (ap (λ (s : State G). s.surplus) next ∙ unused) was_desk now_desk turn

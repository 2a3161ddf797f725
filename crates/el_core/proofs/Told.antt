-- The telling of a client.
use Rattle.std.proofs.Common.{◌≡◌, inl, inr, ℕ, zero, suc, true, false, List, [], ◌∷◌, map, take, find, slice_get, Option, Some, None, refl, sym, ap, ◌∙◌, subst, true≢false}
use Rattle.std.specs.List.{AllByRecursion, AllZip}
use Rattle.el_outside.specs.Counts.{RoseBy}
use Rattle.el_side.specs.Deeds as deed
use Rattle.el_side.specs.Deeds.{Deed, failures, offers}
use Rattle.el_outside.specs.Files.{AllGrow}
use Rattle.el_outside.specs.Trace.{Message, Closing}
use Rattle.el_side.proofs.Deeds.{rose_still}
use Rattle.el_chain.specs.Chains.{Chain}
use Rattle.el_mempool.specs.Standing.{KeptStandFor}
use Rattle.el_model.specs.LedgerCalls.{Asked, Moved}
use Rattle.el_model.proofs.LedgerMoves.{LeavesOwn, asked_moved}
use Rattle.el_replies.specs.Spending.{AskedGhosts}
use Rattle.el_side.specs.Beneath.{beneath}
use Rattle.el_subs.specs.Told as status_told
use Rattle.el_subs.specs.Told.{status}
use Rattle.el_subs.specs.Notices.{notified}
use Rattle.el_side.proofs.Settled.{not_both}
use Rattle.el_side.specs.Side.{Side, IsSure}
use Rattle.el_sessions.specs.declared.session.Session as known
use Rattle.el_world.specs.World.{World, Session, Event, IsStill, Outs, closes_disk, closes_memory, is_client, is_peer, next_told, told, outs_of_telling, texts_to, StaysSubscribed}
use Rattle.el_world.specs.World as model
use Rattle.el_world.specs.Run as run
use Rattle.el_world.specs.Run.{OneTurn}
use Rattle.el_core.specs.State.{State, ClientState, IsSession, IsUntouched, SessionsAre, NoneWaits, AllVoid, Stands, lent}
use Rattle.el_core.specs.Turn.{TookTurn, GoesTo}
use Rattle.el_core.specs.within.Clients.{TellTurn, tells, fails, starves, unsure, TellsAt, IsToTell, IsFirstWaiting, told_client, client_replaced}
use Rattle.el_core.proofs.Losing.{lost_of, did_of}
use Rattle.el_core.proofs.Peers.{at_replaced}
use Rattle.el_core.proofs.Places.{Both, IfThere, same_some, no_some, zip_at, zip_replaced, all_at, all_map, all_replaced, rising_replaced, one_mapped, one_filtered, one_there, none_found, found_none}
use Rattle.el_core.proofs.Sessions.{zip_all}
use Rattle.el_core.proofs.Tellings.{none_waits, first_told, tellings_replaced, untouched_of, others_of, marked_told}

zip_front : (R : ClientState → Session → Type 0) (cs : List ClientState) (ss : List Session) (i : ℕ) → AllZip R cs ss → AllZip R (take i cs) (take i ss)
zip_front R [] [] zero z = tt
zip_front R [] [] (suc i) z = tt
zip_front R [] (y ∷ ys) i z = absurd z
zip_front R (x ∷ xs) [] i z = absurd z
zip_front R (x ∷ xs) (y ∷ ys) zero z = tt
zip_front R (x ∷ xs) (y ∷ ys) (suc i) z = (z.0, zip_front R xs ys i z.1)

-- who waits is there, so that no client speaks and none too many waits
none_such : (u : Option ℕ) (P : Type 0) (ys : List Session) (i : ℕ) (x : Session) → ((p : ℕ) → u ≡ Some p → P × NoneWaits ys) → slice_get ys i ≡ Some x → x.waits ≡ true → u ≡ None
none_such None P ys i x last at w = refl
none_such (Some p) P ys i x last at w = absurd (true≢false (sym w ∙ all_at _ ys i x (last p refl).1 at))

void_gone : (ys : List Session) (i : ℕ) (session : Option Session) (q : ℕ) → find (is_peer q) ys ≡ None → IfThere (λ (n : Session). is_peer q n ≡ false) session → find (is_peer q) (client_replaced i session ys) ≡ None
void_gone ys i session q none_found_so other = none_found q _ (all_replaced (λ (y : Session). is_peer q y ≡ false) ys i session (found_none q ys none_found_so) other)

void_replaced : (ys : List Session) (i : ℕ) (x : Session) (session : Option Session) (left : List Event) → slice_get ys i ≡ Some x → IfThere (λ (n : Session). n.peer ≡ x.peer) session → AllVoid ys left → AllVoid (client_replaced i session ys) left
void_replaced ys i x session left at same all =
    all_map _ _ left (λ e v. (v.0, v.1, void_gone ys i session v.0 v.2 (by session v.0 same (all_at (λ (y : Session). is_peer v.0 y ≡ false) ys i x (found_none v.0 ys v.2) at)))) all
  where
    by : (n : Option Session) (q : ℕ) → IfThere (λ (m : Session). m.peer ≡ x.peer) n → is_peer q x ≡ false → IfThere (λ (m : Session). is_peer q m ≡ false) n
    by None q e other = tt
    by (Some m) q e other = rw e other

goes_to_all : (next : World) (closing : Option Closing) (p : ℕ) (ts : List (List ℕ)) → is_client p next ≡ true → AllByRecursion (GoesTo next None closing) (map {B = Message} (λ (t : List ℕ). record { peer = p; text = t }) ts)
goes_to_all next closing p [] there = tt
goes_to_all next closing p (t ∷ ts) there = (inr (inl there, refl), goes_to_all next closing p ts there)

told_session : (world : World) (said : List Event) (c : ClientState) (x : Session) → IsSession None said c x → IsSession None said (told_client world.side c) (told world x)
told_session world said c x s = record {
  peer = s.peer;
  limit = s.limit;
  kept = ap (notified (status world.side.chain world.side.kept)) s.kept;
  waits = refl;
  met = λ n. record { kept = (s.met n).kept; at = (s.met n).at };
  speaks = λ e. absurd (no_some c.peer (sym e));
}

-- a client that was told something
some_session : (said : List Event) (c : ClientState) (x : Session) (now : known.Session) → IsSession None said c x → IsSession None said (record c { session = now; waits = false }) (record x { client = now; waits = false })
some_session said c x now s = record {
  peer = s.peer;
  limit = s.limit;
  kept = refl;
  waits = refl;
  met = λ n. record { kept = (s.met n).kept; at = (s.met n).at };
  speaks = λ e. absurd (no_some c.peer (sym e));
}

-- the first client that waits is the next to be told
pub first_waits : {G : Type 0} (stands : G → Chain → Type 0) (old : State G) (world : World) (left : List Event) (i : ℕ) → Stands stands old world left → IsFirstWaiting old.clients (Some i) → (c : ClientState) → slice_get old.clients i ≡ Some c
    → (x : Session) × (next_told world ≡ Some x) × (c.peer ≡ x.peer)
first_waits stands old world left i stood first c at =
    let z = zip_at (IsSession old.speaker stood.said) old.clients world.sessions i c stood.sessions.each at in
    let w : c.waits ≡ true = ap (λ (d : ClientState). d.waits) (same_some _ _ (sym at ∙ first.1)) ∙ first.2 in
    let front = zip_front (IsSession old.speaker stood.said) old.clients world.sessions i stood.sessions.each in
    let quiet_front = zip_all (IsSession old.speaker stood.said) (λ (d : ClientState). d.waits ≡ false) (λ (y : Session). y.waits ≡ false) (take i old.clients) (take i world.sessions) (λ d y k e. sym k.waits ∙ e) front (none_waits (take i old.clients) first.3) in
    (z.0, first_told world.sessions i z.0 z.1 (sym z.2.waits ∙ w) quiet_front, z.2.peer)

-- what is known of the client that is told
pub to_tell : {G : Type 0} (stands : G → Chain → Type 0) (old : State G) (world : World) (left : List Event) (i : ℕ) (c : ClientState) → Stands stands old world left → IsStill world → slice_get old.clients i ≡ Some c
    → IsToTell stands old.ledger old.holdings old.touched world.side c
to_tell stands old world left i c stood still at =
    let z = zip_at (IsSession old.speaker stood.said) old.clients world.sessions i c stood.sessions.each at in
    let start_is = stood.set.still still in
    record {
      stood = stood.chain;
      set = λ sure. subst (λ (k : Chain). KeptStandFor old.holdings.pool.entries k world.side.kept) start_is (stood.set.stood sure);
      others = λ sure. rw z.2.kept (others_of world.side stood.start old.touched z.0.client.subs start_is (all_at _ world.sessions i z.0 (stood.tellings.untouched sure) z.1));
    }

module _ {G A Y : Type 0} (of : AskedGhosts G A Y) where
  -- What is known beside the telling of the client at that place.
  pub record BesideTelling (old new : State G) (files : A) (world : World) (left : List Event) (i : ℕ) : Type 0 where
    pub stood : Stands of.beneath.ledger.stands old world left
    pub told : of.beneath.files.tells → AllGrow world.side.files (of.beneath.files.bytes files)
    pub still : IsStill world
    pub first : IsFirstWaiting old.clients (Some i)
    pub went : IsSure world.side → Moved of.beneath.ledger old.ledger new.ledger world.side.chain world.side.chain
    pub same : new ≡ record old { ledger = new.ledger; clients = new.clients }

  -- the client and its session changed, or both gone
  told_by : (old new : State G) (files : A) (y : Y) (world : World) (left : List Event) (o : Outs) (i : ℕ) (r : BesideTelling old new files world left i) (c : ClientState) (x : Session)
      (now : Option ClientState) (session : Option Session) (losses : List Deed)
      → SessionsAre old.clients None None world.sessions r.stood.said → old.speaker ≡ None → old.surplus ≡ None → slice_get world.sessions i ≡ Some x
      → new.clients ≡ client_replaced i now old.clients → Both (IsSession None r.stood.said) now session → IfThere (λ (n : Session). n.peer ≡ x.peer) session
      → (IsSure world.side → IfThere (λ (n : Session). status_told.AllTold (status world.side.chain world.side.kept) n.client.subs) session)
      → OneTurn of.beneath.files world [] o losses (record world { sessions = client_replaced i session world.sessions })
      → AllByRecursion (GoesTo (record world { sessions = client_replaced i session world.sessions }) None o.closing) o.messages → RoseBy (of.beneath.ledger.faults old.ledger) (of.beneath.ledger.faults new.ledger) (failures deed.disk losses)
      → failures deed.link losses ≡ 0 → failures deed.relay losses ≡ 0 → failures deed.archive losses ≡ 0 → offers losses ≡ []
      → TookTurn of (lent old files y) (lent new files y) world left o
  told_by old new files y world left o i r c x now session losses are no_speaker no_surplus at clients both same statuses turn sends rose no_link no_relay no_files no_offers =
      let st = r.stood in
      let speaker : new.speaker ≡ None = ap (λ (s : State G). s.speaker) r.same ∙ no_speaker in
      let surplus : new.surplus ≡ None = ap (λ (s : State G). s.surplus) r.same ∙ no_surplus in
      let desk_is : new.desk ≡ old.desk = ap (λ (s : State G). s.desk) r.same in
      let start_is = st.set.still r.still in
      let void = void_replaced world.sessions i x session st.said at same are.leaves_left in
      let now_are : SessionsAre (client_replaced i now old.clients) None None (client_replaced i session world.sessions) st.said = record {
        each = zip_replaced (IsSession None st.said) (IsSession None st.said) old.clients world.sessions i x now session are.each are.rising at (λ d y k differ. k) both;
        rising = rising_replaced world.sessions i x session are.rising at same;
        leaves_left = void;
      } in
      record {
        done = [];
        rest = left;
        losses = losses;
        next = record world { sessions = client_replaced i session world.sessions };
        whole = refl;
        turn = turn;
        stood = record {
          chain = λ sure. (r.went sure).stood;
          magic = ap (λ (s : State G). s.holdings.magic) r.same ∙ st.magic;
          found = ap (λ (s : State G). s.holdings.tree) r.same ∙ st.found;
          ahead = ap (λ (s : State G). s.ahead) r.same ∙ st.ahead;
          start = st.start;
          set = rw (ap (λ (s : State G). s.holdings) r.same, ap (λ (s : State G). s.caches) r.same) st.set;
          ordered = st.ordered;
          node = rw (ap (λ (s : State G). s.node) r.same) st.node;
          said = st.said;
          sessions = rw (clients, speaker, surplus) now_are;
          speaker_last = λ q e. absurd (no_some q (sym e ∙ speaker));
          surplus_last = λ q e. absurd (no_some q (sym e ∙ surplus));
          before = λ sure. ap (λ (s : State G). s.before) r.same ∙ st.before sure;
          desk = desk_is ∙ st.desk;
          tellings = rw (ap (λ (s : State G). s.touched) r.same) (tellings_replaced world.side st.start old.touched world.sessions i session st.tellings (λ sure. unmoved session start_is (statuses sure)) (λ sure. already session (statuses sure)) r.still);
          left_is = st.left_is;
        };
        moved = r.went;
        told = r.told;
        sends_to = rw surplus sends;
        did = did_of of (beneath old.ledger files) (beneath new.ledger files) y old.desk new.desk losses no_offers
            (lost_of of.beneath old.ledger new.ledger files files losses no_link no_relay (rw no_files (rose_still _ _ refl)) rose);
      }
    where
      unmoved : (n : Option Session) → r.stood.start ≡ world.side.chain → IfThere (λ (m : Session). status_told.AllTold (status world.side.chain world.side.kept) m.client.subs) n
          → IfThere (λ (m : Session). AllByRecursion (IsUntouched world.side r.stood.start old.touched) m.client.subs) n
      unmoved None start_is all = tt
      unmoved (Some m) start_is all = untouched_of world.side r.stood.start old.touched m.client.subs start_is all

      already : (n : Option Session) → IfThere (λ (m : Session). status_told.AllTold (status world.side.chain world.side.kept) m.client.subs) n
          → IfThere (λ (m : Session). m.waits ≡ false → status_told.AllTold (status world.side.chain world.side.kept) m.client.subs) n
      already None all = tt
      already (Some m) all = λ e. all

  -- it is told, or closed
  tell_one : (old new : State G) (files : A) (y : Y) (world : World) (left : List Event) (o : Outs) (i : ℕ) (r : BesideTelling old new files world left i) (c : ClientState) (now : Option ClientState) (x : Session)
      → IsSession None r.stood.said c x → SessionsAre old.clients None None world.sessions r.stood.said → slice_get world.sessions i ≡ Some x → old.speaker ≡ None → old.surplus ≡ None
      → next_told world ≡ Some x → new.clients ≡ client_replaced i now old.clients → TellTurn world.side old.before (λ n. RoseBy (of.beneath.ledger.faults old.ledger) (of.beneath.ledger.faults new.ledger) n) c o now
      → TookTurn of (lent old files y) (lent new files y) world left o
  tell_one old new files y world left o i r c now x is are x_at no_speaker no_surplus next_is clients (tells sure outs_is now_is rose) =
      let mapped = one_mapped x.peer (λ (y : Session). told world x) world.sessions i x are.rising x_at refl in
      let there = one_there x.peer (client_replaced i (Some (told world x)) world.sessions) i (told world x) (at_replaced world.sessions i x (told world x) x_at) refl in
      let o_is : o ≡ outs_of_telling world x = outs_is ∙ rw (is.peer, is.kept, r.stood.before sure) refl in
      told_by old new files y world left o i r c x (Some (told_client world.side c)) (Some (told world x)) [] are no_speaker no_surplus x_at
      (clients ∙ ap (λ (n : Option ClientState). client_replaced i n old.clients) now_is) (told_session world r.stood.said c x is) refl (λ s. marked_told (status world.side.chain world.side.kept) x.client.subs)
      (run.notifies r.still refl (model.tells x next_is o_is (ap (λ (ss : List Session). record world { sessions = ss }) (sym mapped)) refl))
      (rw o_is (goes_to_all (record world { sessions = client_replaced i (Some (told world x)) world.sessions }) None x.peer _ there)) rose refl refl refl refl
  tell_one old new files y world left o i r c now x is are x_at no_speaker no_surplus next_is clients (fails outs_is now_is rose) =
      let filtered = one_filtered x.peer world.sessions i x are.rising x_at refl in
      told_by old new files y world left o i r c x None None (deed.lost deed.disk ∷ []) are no_speaker no_surplus x_at
      (clients ∙ ap (λ (n : Option ClientState). client_replaced i n old.clients) now_is) tt tt (λ s. tt)
      (run.notifies r.still refl (model.fails x next_is (outs_is ∙ ap closes_disk is.peer) (ap (λ (ss : List Session). record world { sessions = ss }) (sym filtered)) refl))
      (rw outs_is tt) rose refl refl refl refl
  tell_one old new files y world left o i r c now x is are x_at no_speaker no_surplus next_is clients (starves outs_is now_is rose) =
      let filtered = one_filtered x.peer world.sessions i x are.rising x_at refl in
      told_by old new files y world left o i r c x None None [] are no_speaker no_surplus x_at
      (clients ∙ ap (λ (n : Option ClientState). client_replaced i n old.clients) now_is) tt tt (λ s. tt)
      (run.departs x.peer (one_there x.peer world.sessions i x x_at refl) refl (outs_is ∙ ap closes_memory is.peer) (ap (λ (ss : List Session). record world { sessions = ss }) (sym filtered)) refl)
      (rw outs_is tt) rose refl refl refl refl
  tell_one old new files y world left o i r c now x is are x_at no_speaker no_surplus next_is clients (unsure un some rose) =
      let z : Session = record x { client = some.now; waits = false } in
      let mapped = one_mapped x.peer (λ (every : Session). z) world.sessions i x are.rising x_at refl in
      let there = one_there x.peer (client_replaced i (Some z) world.sessions) i z (at_replaced world.sessions i x z x_at) refl in
      let o_is : o ≡ texts_to x.peer some.texts = some.outs_are ∙ ap (λ (q : ℕ). texts_to q some.texts) is.peer in
      let stays = subst (λ (k : known.Session). StaysSubscribed k some.now) is.kept some.stays in
      told_by old new files y world left o i r c x (Some (record c { session = some.now; waits = false })) (Some z) [] are no_speaker no_surplus x_at
      (clients ∙ ap (λ (n : Option ClientState). client_replaced i n old.clients) some.left_is) (some_session r.stood.said c x some.now is) refl (λ sure. absurd (not_both world.side sure un))
      (run.notifies r.still refl (model.unsure un x some.texts some.now next_is some.told stays o_is (ap (λ (ss : List Session). record world { sessions = ss }) (sym mapped)) refl))
      (rw o_is (goes_to_all (record world { sessions = client_replaced i (Some z) world.sessions }) None x.peer some.texts there)) rose refl refl refl refl

  -- the telling of the first client that waits
  tell_step : (old new : State G) (files : A) (y : Y) (world : World) (left : List Event) (o : Outs) (i : ℕ) (r : BesideTelling old new files world left i) (c : ClientState) (now : Option ClientState)
      → slice_get old.clients i ≡ Some c → c.waits ≡ true → new.clients ≡ client_replaced i now old.clients → TellTurn world.side old.before (λ n. RoseBy (of.beneath.ledger.faults old.ledger) (of.beneath.ledger.faults new.ledger) n) c o now
      → TookTurn of (lent old files y) (lent new files y) world left o
  tell_step old new files y world left o i r c now at w clients turn =
      let z = zip_at (IsSession old.speaker r.stood.said) old.clients world.sessions i c r.stood.sessions.each at in
      let x = z.0 in
      let xw : x.waits ≡ true = sym z.2.waits ∙ w in
      let no_speaker = none_such old.speaker _ world.sessions i x r.stood.speaker_last z.1 xw in
      let no_surplus = none_such old.surplus _ world.sessions i x r.stood.surplus_last z.1 xw in
      let are : SessionsAre old.clients None None world.sessions r.stood.said = subst (λ (u : Option ℕ). SessionsAre old.clients u None world.sessions r.stood.said) no_speaker
      (subst (λ (v : Option ℕ). SessionsAre old.clients old.speaker v world.sessions r.stood.said) no_surplus r.stood.sessions) in
      let is : IsSession None r.stood.said c x = subst (λ (u : Option ℕ). IsSession u r.stood.said c x) no_speaker z.2 in
      let front = zip_front (IsSession old.speaker r.stood.said) old.clients world.sessions i r.stood.sessions.each in
      let quiet_front = zip_all (IsSession old.speaker r.stood.said) (λ (d : ClientState). d.waits ≡ false) (λ (y : Session). y.waits ≡ false) (take i old.clients) (take i world.sessions) (λ d y k e. sym k.waits ∙ e) front (none_waits (take i old.clients) r.first.3) in
      tell_one old new files y world left o i r c now x is are z.1 no_speaker no_surplus (first_told world.sessions i x z.1 xw quiet_front) clients turn

  pub tell_turned : (old new : State G) (files : A) (y : Y) (world : World) (left : List Event) (o : Outs) (i : ℕ) → LeavesOwn of.beneath.ledger → of.beneath.ledger.is_live old.ledger → Asked of.beneath.ledger old.ledger new.ledger
      → Stands of.beneath.ledger.stands old world left → (of.beneath.files.tells → AllGrow world.side.files (of.beneath.files.bytes files)) → old.ahead ≡ [] → IsFirstWaiting old.clients (Some i)
      → new ≡ record old { ledger = new.ledger; clients = new.clients }
      → TellsAt (λ c now. (side : Side) → IsToTell of.beneath.ledger.stands old.ledger old.holdings old.touched side c → TellTurn side old.before (λ n. RoseBy (of.beneath.ledger.faults old.ledger) (of.beneath.ledger.faults new.ledger) n) c o now) i old.clients new.clients
      → TookTurn of (lent old files y) (lent new files y) world left o
  tell_turned old new files y world left o i own live asked stood grown ahead first same t =
      let still : IsStill world = sym stood.ahead ∙ ahead in
      tell_step old new files y world left o i
      (record { stood = stood; told = grown; still = still; first = first; went = λ sure. asked_moved of.beneath.ledger old.ledger new.ledger world.side.chain own live asked (stood.chain sure); same = same })
      t.client t.left t.at (ap (λ (d : ClientState). d.waits) (same_some _ _ (sym t.at ∙ first.1)) ∙ first.2) t.next_is (t.said world.side (to_tell of.beneath.ledger.stands old world left i t.client stood still t.at))

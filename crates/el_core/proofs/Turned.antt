-- Turns of the server, over the states between its parts.
use Rattle.std.proofs.Common.{◌≡◌, ℕ, true, false, List, [], ◌∷◌, ◌++◌, map, Option, Some, None, refl, ap, sym, ◌∙◌, subst}
use Rattle.std.specs.Prelude.{IfSome, IfNone}
use Rattle.std.specs.List.{AllZip}
use Rattle.el_base.specs.declared.hash.Hash32.{Hash32}
use Rattle.el_outside.specs.Files.{AllGrow}
use Rattle.el_side.proofs.Deeds.{all_rose_none}
use Rattle.el_outside.proofs.Traces.{all_grow_none, all_grow_more}
use Rattle.el_chain.specs.declared.node.Node.{Node}
use Rattle.el_chain.specs.Chains.{Chain}
use Rattle.el_model.specs.LedgerCalls.{Asked}
use Rattle.el_model.specs.Queries.{tip_of}
use Rattle.el_lines.specs.Lines.{LineEvent}
use Rattle.el_mempool.specs.Standing.{KeptStandFor}
use Rattle.el_side.specs.NodeSteps.{IsAt, IsSettled, Leads}
use Rattle.el_side.specs.Side.{Side, IsSure, Moving, OrdersLine}
use Rattle.el_world.specs.World.{World, Session, Event, orders, IsStill, AllTold, begun, is_peer}
use Rattle.el_world.specs.Run as run
use Rattle.el_side.specs.UnderWay.{IsFirstMove}
use Rattle.el_model.proofs.LedgerMoves.{LeavesOwn, asked_moved}
use Rattle.el_sync.specs.Steps.{StepFails, IsFrom, StopsAt}
use Rattle.el_model.specs.declared.fault.QueryFault.{QueryFault}
use Rattle.el_model.specs.declared.fault.QueryFault.TheVariants as fault
use Rattle.el_side.specs.Caching.{CachesStand, CachesStay}
use Rattle.el_outside.specs.declared.relay.Relay as relays
use Rattle.el_replies.specs.Spending.{asked_ghosts}
use Rattle.el_side.specs.Beneath.{Ghosts, beneath, failed_beneath}
use Rattle.el_core.specs.State.{State, ClientState, HasGivenAll, IsSession, SessionsAre, AllVoid, Stands, waiting, serving, lent, asking_of}
use Rattle.el_core.specs.Turn.{TookTurn, TurnFailed, IsDone, outs_of}
use Rattle.el_core.specs.within.Answering.{Answered}
use Rattle.el_core.specs.within.Clients.{GivesEvent, NextIsLine, PeersTurn, passing, all_wait, begun_at}
use Rattle.el_core.specs.within.Touching.{CoversAll}
use Rattle.el_core.specs.declared.out.Outs as code
use Rattle.el_core.proofs.Causes.{nodes_turn}
use Rattle.el_core.proofs.Noded.{ahead_step, node_step, next_order, stops_still, line_failed}
use Rattle.el_core.proofs.Peers.{Beside, peers_step, peers_none, none_ordered}
use Rattle.el_core.proofs.Places.{no_some, all_map, all_mapped, rising_map, none_found, found_none}
use Rattle.el_core.proofs.Sessions.{hears_told}
use Rattle.el_core.proofs.Tellings.{all_told_world, none_wait_world, tellings_begun}

-- ---- a line begins

zip_waits : (speaker : Option ℕ) (said : List Event) (cs : List ClientState) (ss : List Session) → AllZip (IsSession speaker said) cs ss
    → AllZip (IsSession speaker said) (all_wait cs) (map (λ (x : Session). record x { waits = true }) ss)
zip_waits speaker said [] [] z = tt
zip_waits speaker said [] (y ∷ ys) z = absurd z
zip_waits speaker said (x ∷ xs) [] z = absurd z
zip_waits speaker said (x ∷ xs) (y ∷ ys) z = (
  record {
    peer = z.0.peer;
    limit = z.0.limit;
    kept = z.0.kept;
    waits = refl;
    met = λ n. record { kept = (z.0.met n).kept; at = (z.0.met n).at };
    speaks = λ e. hears_told x y.heard said x.session true (z.0.speaks e);
  },
  zip_waits speaker said xs ys z.1,
)

void_waits : (ss : List Session) (left : List Event) → AllVoid ss left → AllVoid (map (λ (x : Session). record x { waits = true }) ss) left
void_waits ss left all =
    all_map _ _ left (λ e v. (v.0, v.1, none_found v.0 _ (all_mapped (λ (y : Session). is_peer v.0 y ≡ false) (λ (y : Session). is_peer v.0 y ≡ false) (λ (x : Session). record x { waits = true }) ss (λ x h. h) (found_none v.0 ss v.2)))) all

-- where a line is left, nobody speaks, and none too many waits
none_where : (u : Option ℕ) (ordered rest : List Event) (e : LineEvent) (P : Type 0) → ordered ≡ orders e ∷ rest → ((q : ℕ) → u ≡ Some q → (ordered ≡ []) × P) → u ≡ None
none_where None ordered rest e P is last = refl
none_where (Some q) ordered rest e P is last = absurd (let n = (last q refl).0 in let f = sym is ∙ n in cc)

begun_stands : {G : Type 0} (stands : G → Chain → Type 0) (old : State G) (start : World) (left rest : List Event) (e : LineEvent) (tip : Option Hash32) (stood : Stands stands old start left) → stood.ordered ≡ orders e ∷ rest
    → IsStill start → AllTold start → (IsSure start.side → tip ≡ tip_of start.side.chain) → Stands stands (begun_at tip old) (begun start) left
begun_stands {G} stands old start left rest e tip stood is still all_told tip_is =
    let no_speaker = none_where old.speaker stood.ordered rest e _ is stood.speaker_last in
    let no_surplus = none_where old.surplus stood.ordered rest e _ is stood.surplus_last in
    let are : SessionsAre old.clients None None start.sessions stood.said = subst (λ (u : Option ℕ). SessionsAre old.clients u None start.sessions stood.said) no_speaker
    (subst (λ (v : Option ℕ). SessionsAre old.clients old.speaker v start.sessions stood.said) no_surplus stood.sessions) in
    let now : SessionsAre (all_wait old.clients) None None (begun start).sessions stood.said = record {
      each = zip_waits None stood.said old.clients start.sessions are.each;
      rising = rising_map (λ (x : Session). record x { waits = true }) (λ x. refl) start.sessions are.rising;
      leaves_left = void_waits start.sessions stood.said are.leaves_left;
    } in
    record {
      chain = stood.chain;
      magic = stood.magic;
      found = stood.found;
      ahead = stood.ahead;
      start = stood.start;
      set = stood.set;
      ordered = stood.ordered;
      node = stood.node;
      said = stood.said;
      sessions = subst (λ (u : Option ℕ). SessionsAre (all_wait old.clients) u old.surplus (begun start).sessions stood.said) (sym no_speaker)
          (subst (λ (v : Option ℕ). SessionsAre (all_wait old.clients) None v (begun start).sessions stood.said) (sym no_surplus) now);
      speaker_last = λ q s. absurd (no_some q (sym s ∙ no_speaker));
      surplus_last = λ q s. absurd (no_some q (sym s ∙ no_surplus));
      before = tip_is;
      desk = stood.desk;
      tellings = tellings_begun start.side stood.start old.touched start.sessions stood.tellings still (stood.set.still still) (none_wait_world start.sessions all_told);
      left_is = stood.left_is;
    }

module _ {G A : Type 0} (of : Ghosts G A) where
  -- a turn of the node's last tip line
  pub ahead_turned : {Y : Type 0} (of_relay : relays.Ghosts Y) (y : Y) (old new : State G) (before after : A) (world : World) (left : List Event) (o : code.Outs) → Stands of.ledger.stands old world left
      → (of.files.tells → AllGrow world.side.files (of.files.bytes before)) → (old.ahead ≡ [] → ⊥) → new ≡ record old { ledger = new.ledger; holdings = new.holdings; caches = new.caches; ahead = new.ahead; touched = new.touched }
      → new.holdings.magic ≡ old.holdings.magic
      → ((side : Side) (start : Chain) → IsAt of (beneath old.ledger before) old.holdings old.caches side start → side.found ≡ old.holdings.tree → Answered of (Moving of.files side 0 old.ahead) (serving old before) (serving new after) side start o)
      → TookTurn (asked_ghosts of of_relay) (lent old before y) (lent new after y) world left (outs_of o)
  ahead_turned of_relay y old new before after world left o stood told some same magic turn =
      let busy : world.side.ahead ≡ [] → ⊥ = λ e. some (stood.ahead ∙ e) in
      ahead_step of of_relay y old new before after world left o
      (record {
        stood = stood;
        answered = subst (λ (ns : List Node). Answered of (Moving of.files world.side 0 ns) (serving old before) (serving new after) world.side stood.start o) stood.ahead
            (turn world.side stood.start (record { stood = stood.chain; set = stood.set; told = told }) (sym stood.found));
        magic = magic;
        desk = ap (λ (s : State G). s.desk) same;
        clients = ap (λ (s : State G). s.clients) same;
        speaker = ap (λ (s : State G). s.speaker) same;
        surplus = ap (λ (s : State G). s.surplus) same;
        before_is = ap (λ (s : State G). s.before) same;
        waits = stood.tellings.busy busy;
      })
      busy (ap (λ (s : State G). s.node) same)

  -- the server's headers are the side's
  from_side : (old mid : State G) (world : World) (left : List Event) → Stands of.ledger.stands old world left → mid ≡ record old { node = mid.node } → mid.ahead ≡ [] → IsFrom mid.holdings world.side
  from_side old mid world left stood same still = record {
    found = sym (ap (λ (s : State G). s.holdings.tree) same ∙ stood.found);
    magic = sym (ap (λ (s : State G). s.holdings.magic) same ∙ stood.magic);
    still = sym stood.ahead ∙ sym (ap (λ (s : State G). s.ahead) same) ∙ still;
  }

  -- a line of the node: `read` is the state after the line was read
  pub node_turned : {Y : Type 0} (of_relay : relays.Ghosts Y) (y : Y) (old read new : State G) (before after : A) (world : World) (left : List Event) (o : code.Outs) (e : LineEvent) → ((k : G) (chain : Chain) → of.ledger.stands k chain → of.ledger.tip k ≡ tip_of chain) → Stands of.ledger.stands old world left
      → (of.files.tells → AllGrow world.side.files (of.files.bytes before)) → read.ahead ≡ [] → waiting read.clients ≡ [] → read ≡ record old { node = read.node } → read.node.limit ≡ old.node.limit → GivesEvent old.node e read.node
      → new ≡ record read { ledger = new.ledger; holdings = new.holdings; caches = new.caches; ahead = new.ahead; clients = new.clients; before = new.before; touched = new.touched }
      → new.holdings.magic ≡ read.holdings.magic
      → (new.clients ≡ all_wait read.clients) × (new.before ≡ of.ledger.tip read.ledger)
      → ((side : Side) (start : Chain) → IsAt of (beneath read.ledger before) read.holdings read.caches side start → IsFrom read.holdings side
      → Answered of (OrdersLine of.files side e) (serving (begun_at (of.ledger.tip read.ledger) read) before) (serving new after) side start o)
      → TookTurn (asked_ghosts of of_relay) (lent old before y) (lent new after y) world left (outs_of o)
  unfolding begun_stands
  node_turned of_relay y old read new before after world left o e tip_is stood told still quiet_all same limit gives then magic begins turn =
      let ledger_is : read.ledger ≡ old.ledger = ap (λ (s : State G). s.ledger) same in
      let from = from_side old read world left stood same still in
      let clients_is : read.clients ≡ old.clients = ap (λ (s : State G). s.clients) same in
      let all_told : AllTold world = all_told_world old.clients old.speaker stood.said world.sessions stood.sessions.each (rw clients_is at quiet_all) in
      let n = next_order old.node read.node world.heard stood.ordered e stood.node limit gives in
      let tip : IsSure world.side → of.ledger.tip read.ledger ≡ tip_of world.side.chain = λ sure. tip_is read.ledger world.side.chain (rw ledger_is (stood.chain sure)) in
      let began = begun_stands of.ledger.stands old world left n.rest e (of.ledger.tip read.ledger) stood n.first_is from.still all_told tip in
      let a = turn world.side stood.start (record { stood = rw ledger_is stood.chain; set = rw (ap (λ (s : State G). s.holdings) same, ap (λ (s : State G). s.caches) same) stood.set; told = told }) from in
      let node : new.node ≡ read.node = ap (λ (s : State G). s.node) then in
      node_step of of_relay y old (begun_at (of.ledger.tip read.ledger) old) new before after world left o e
      (record {
        stood = began;
        answered = record {
          answer = a.answer;
          moved = a.moved;
          changed = a.changed;
          sends = a.sends;
          led = subst (λ (k : G). Leads of (OrdersLine of.files world.side e) world.side stood.start
              (record { was = beneath k before; now = beneath new.ledger after; answer = a.answer; found = new.holdings.tree; ahead = new.ahead; moved = a.moved; changed = a.changed; holdings = new.holdings; caches = new.caches })) ledger_is a.led;
          covers = subst (λ (cs : List ClientState). CoversAll (all_wait cs) [] a.moved a.changed new.touched) clients_is a.covers;
        };
        magic = magic ∙ ap (λ (s : State G). s.holdings.magic) same;
        desk = ap (λ (s : State G). s.desk) then ∙ ap (λ (s : State G). s.desk) same;
        clients = begins.0 ∙ ap all_wait clients_is;
        speaker = ap (λ (s : State G). s.speaker) then ∙ ap (λ (s : State G). s.speaker) same;
        surplus = ap (λ (s : State G). s.surplus) then ∙ ap (λ (s : State G). s.surplus) same;
        before_is = begins.1;
        waits = all_mapped _ _ (λ (x : Session). record x { waits = true }) world.sessions (λ x h. refl) (none_wait_world world.sessions all_told);
      })
      (rw node n) from.still all_told refl

  -- a client may be answered
  settled : (old : State G) (files : A) (world : World) (left : List Event) (known_files : ℕ → List ℕ) → Stands of.ledger.stands old world left → (of.files.tells → AllGrow known_files (of.files.bytes files)) → old.ahead ≡ []
      → IsSettled of (beneath old.ledger files) old.holdings old.caches (record world.side { files = known_files })
  settled old files world left known_files stood told still = record {
    stood = stood.chain;
    set = λ sure. subst (λ (c : Chain). KeptStandFor old.holdings.pool.entries c world.side.kept) (stood.set.still (sym stood.ahead ∙ still)) (stood.set.stood sure);
    fees = stood.set.fees;
    computed = λ sure. subst (λ (c : Chain). CachesStand old.caches c world.side.chain) (stood.set.still (sym stood.ahead ∙ still)) (stood.set.computed sure);
    found = stood.found;
    told = told;
  }

  beside : {Y : Type 0} (of_relay : relays.Ghosts Y) (old new : State G) (world : World) (left : List Event) → LeavesOwn of.ledger → of.ledger.is_live old.ledger → Stands of.ledger.stands old world left
      → old.ahead ≡ [] → waiting old.clients ≡ [] → HasGivenAll old.node → new ≡ record old { ledger = new.ledger; caches = new.caches; desk = new.desk; clients = new.clients; speaker = new.speaker; surplus = new.surplus }
      → Asked of.ledger old.ledger new.ledger → CachesStay of.ledger old.ledger old.caches new.caches → Beside (asked_ghosts of of_relay) old new world left
  beside of_relay old new world left own live stood still quiet_all all same asked stays = record {
    stood = stood;
    none_left = none_ordered old.node world.heard stood.ordered stood.node all;
    still = sym stood.ahead ∙ still;
    all_told = all_told_world old.clients old.speaker stood.said world.sessions stood.sessions.each quiet_all;
    moved = λ sure. asked_moved of.ledger old.ledger new.ledger world.side.chain own live asked (stood.chain sure);
    holdings = ap (λ (s : State G). s.holdings) same;
    caches = λ sure.
        let start_is = stood.set.still (sym stood.ahead ∙ still) in
        subst (λ (c : Chain). CachesStand new.caches c world.side.chain) (sym start_is) (stays world.side.chain (stood.chain sure)
        (subst (λ (c : Chain). CachesStand old.caches c world.side.chain) start_is (stood.set.computed sure)));
    ahead = ap (λ (s : State G). s.ahead) same;
    node = ap (λ (s : State G). s.node) same;
    before = ap (λ (s : State G). s.before) same;
    touched = ap (λ (s : State G). s.touched) same;
  }

  -- a turn where the node has nothing left
  pub peers_turned : {Y : Type 0} (of_relay : relays.Ghosts Y) (y z : Y) (old new : State G) (before after : A) (world : World) (left : List Event) (o : Option code.Outs) → LeavesOwn of.ledger → of.ledger.is_live old.ledger → Stands of.ledger.stands old world left
      → (of.files.tells → AllGrow world.side.files (of.files.bytes before)) → (of.files.tells → AllGrow (of.files.bytes before) (of.files.bytes after)) → old.ahead ≡ [] → waiting old.clients ≡ [] → HasGivenAll old.node
      → new ≡ record old { ledger = new.ledger; caches = new.caches; desk = new.desk; clients = new.clients; speaker = new.speaker; surplus = new.surplus } → Asked of.ledger old.ledger new.ledger → CachesStay of.ledger old.ledger old.caches new.caches
      → ((side : Side) → IsSettled of (beneath old.ledger before) old.holdings old.caches side → PeersTurn of.files.tells side (passing (asked_ghosts of of_relay) (asking_of (lent old before y)) (asking_of (lent new after z))) old o new)
      → IfSome o (λ out. TookTurn (asked_ghosts of of_relay) (lent old before y) (lent new after z) world left (outs_of out))
  peers_turned of_relay y z old new before after world left o own live stood told grows still quiet_all all same asked stays turn =
      peers_step (asked_ghosts of of_relay) old new before after y z world left o (beside of_relay old new world left own live stood still quiet_all all same asked stays)
      (λ t. all_grow_more world.side.files (of.files.bytes before) (of.files.bytes after) (told t) (grows t))
      (turn world.side (settled old before world left world.side.files stood told still))

  -- what is known of it whatever the side knows of the block files
  pub peers_any : {Y : Type 0} (of_relay : relays.Ghosts Y) (y z : Y) (old new : State G) (before after : A) (world : World) (left : List Event) (o : Option code.Outs) → Stands of.ledger.stands old world left → old.ahead ≡ []
      → ((side : Side) → IsSettled of (beneath old.ledger before) old.holdings old.caches side → PeersTurn of.files.tells side (passing (asked_ghosts of of_relay) (asking_of (lent old before y)) (asking_of (lent new after z))) old o new)
      → PeersTurn of.files.tells (record world.side { files = of.files.bytes before }) (passing (asked_ghosts of of_relay) (asking_of (lent old before y)) (asking_of (lent new after z))) old o new
  peers_any of_relay y z old new before after world left o stood still turn =
      turn (record world.side { files = of.files.bytes before }) (settled old before world left (of.files.bytes before) stood (λ t. all_grow_none (of.files.bytes before)) still)

  pub peers_ended : {Y : Type 0} (of_relay : relays.Ghosts Y) (y z : Y) (old new : State G) (before after : A) (world : World) (left : List Event) (o : Option code.Outs) → LeavesOwn of.ledger → of.ledger.is_live old.ledger → Stands of.ledger.stands old world left
      → old.ahead ≡ [] → waiting old.clients ≡ [] → HasGivenAll old.node → new ≡ record old { ledger = new.ledger; caches = new.caches; desk = new.desk; clients = new.clients; speaker = new.speaker; surplus = new.surplus }
      → Asked of.ledger old.ledger new.ledger → CachesStay of.ledger old.ledger old.caches new.caches
      → ((side : Side) → IsSettled of (beneath old.ledger before) old.holdings old.caches side → PeersTurn of.files.tells side (passing (asked_ghosts of of_relay) (asking_of (lent old before y)) (asking_of (lent new after z))) old o new)
      → IfNone o (IsDone of.ledger.stands of.files world left new)
  peers_ended of_relay y z old new before after world left o own live stood still quiet_all all same asked stays turn =
      peers_none (asked_ghosts of of_relay) _ _ (passing (asked_ghosts of of_relay) (asking_of (lent old before y)) (asking_of (lent new after z))) old new world left o (beside of_relay old new world left own live stood still quiet_all all same asked stays)
      refl refl (peers_any of_relay y z old new before after world left o stood still turn)

-- no memory for the node's next line: nothing has happened
pub unread_failed : {G A : Type 0} (of : Ghosts G A) (old new : State G) (files : A) (world : World) (left : List Event) → LeavesOwn of.ledger → of.ledger.is_live old.ledger
    → new ≡ old → Stands of.ledger.stands old world left → NextIsLine old.node → waiting old.clients ≡ [] → TurnFailed of (beneath old.ledger files) (beneath new.ledger files) world left fault.Memory
unread_failed of old new files world left own live same stood line quiet_all =
    rw same (record {
      losses = [];
      stops = run.no_memory refl (nodes_turn of.ledger.stands old world left stood line (all_told_world old.clients old.speaker stood.said world.sessions stood.sessions.each quiet_all)) refl refl refl;
      within = tt;
      rose = λ of_link of_relay. all_rose_none (failed_beneath of of_link of_relay (beneath old.ledger files));
      later = false;
      stops_at = λ sure. stops_still of old.ledger files world.side.chain false _ own live (stood.chain sure);
      kept = λ k sure. absurd k;
      live = λ m. live;
    })

-- a line of the node in which the server stops: `read` is the state after the line was read
pub node_failed : {G A : Type 0} (of : Ghosts G A) (old read : State G) (new : G) (before after : A) (world : World) (left : List Event) (said : LineEvent) (e : QueryFault)
    → Stands of.ledger.stands old world left → (of.files.tells → AllGrow world.side.files (of.files.bytes before)) → read.ahead ≡ [] → waiting read.clients ≡ [] → read ≡ record old { node = read.node } → read.node.limit ≡ old.node.limit
    → GivesEvent old.node said read.node → (e ≡ fault.Memory → of.ledger.is_live new)
    → ((side : Side) (start : Chain) → IsSure side → IsAt of (beneath read.ledger before) read.holdings read.caches side start → IsFrom read.holdings side → StopsAt of (beneath read.ledger before) (beneath new after) side.chain false (IsFirstMove side said) e)
    → ((side : Side) (start : Chain) → side.sure ≡ false → IsAt of (beneath read.ledger before) read.holdings read.caches side start → IsFrom read.holdings side → StepFails of (beneath read.ledger before) (beneath new after) side.chain false e)
    → TurnFailed of (beneath old.ledger before) (beneath new after) world left e
node_failed {G} of old read new before after world left said e stood told still quiet_all same limit gives live stopped lost =
    let ledger_is : read.ledger ≡ old.ledger = ap (λ (s : State G). s.ledger) same in
    let from = from_side of old read world left stood same still in
    let all_told : AllTold world = all_told_world old.clients old.speaker stood.said world.sessions stood.sessions.each (rw (ap (λ (s : State G). s.clients) same) at quiet_all) in
    let n = next_order old.node read.node world.heard stood.ordered said stood.node limit gives in
    let at : IsAt of (beneath read.ledger before) read.holdings read.caches world.side stood.start = record { stood = rw ledger_is stood.chain; set = rw (ap (λ (s : State G). s.holdings) same, ap (λ (s : State G). s.caches) same) stood.set; told = told } in
    let r : IsSure world.side → StopsAt of (beneath old.ledger before) (beneath new after) world.side.chain false (IsFirstMove world.side said) e = λ sure. rw ledger_is at (stopped world.side stood.start sure at from) in
    let f : world.side.sure ≡ false → StepFails of (beneath old.ledger before) (beneath new after) world.side.chain false e = λ un. rw ledger_is at (lost world.side stood.start un at from) in
    line_failed of old.ledger new before after world left (n.rest ++ stood.said) e said from.still all_told
    (stood.left_is ∙ ap (λ (es : List Event). es ++ stood.said) n.first_is) live r f

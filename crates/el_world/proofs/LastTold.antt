-- The chain of a world whose side is sure is the one that the node was told last, through turns, runs and stops.
use Rattle.std.proofs.Common.{◌≡◌, ◌≢◌, inr, ℕ, suc, Bool, true, false, nat_lt, List, [], ◌∷◌, ◌++◌, length, append_assoc, Option, None, Some, refl, sym, ap, ◌∙◌, subst, true≢false, arith, length-append}
use Rattle.std.specs.Prelude.{find, MatchBool}
use Rattle.std.specs.List.{AllByRecursion}
use Rattle.std.specs.Option.{option_to_list}
use Rattle.el_base.proofs.Lists.{all_append, all_mid, all_weaker}
use Rattle.el_side.specs.Deeds.{Deed}
use Rattle.el_outside.specs.declared.archive.Archive as block_files
use Rattle.el_outside.specs.Trace.{ArrivalWithBytes, Message, Closing}
use Rattle.el_chain.specs.Chains.{Chain}
use Rattle.el_lines.specs.Lines.{line, too_long}
use Rattle.el_lines.specs.NodeAnswers.{text_of}
use Rattle.el_lines.specs.declared.node_answer.NodeAnswer.{NodeAnswer}
use Rattle.el_side.specs.Side.{Side, IsSure, Moving, OrdersLine}
use Rattle.el_world.specs.World as world_of
use Rattle.el_world.specs.World.{World, Session, Event, Outs, Takes, IsLed, IsAnswered, Replied, Notifies, is_peer, is_client, with_session, without_client, hearing, after_hearing, lines_said, events, client_limit, told, after_reply}
use Rattle.el_world.specs.Run as run_of
use Rattle.el_world.specs.Run.{OneTurn, Delivers, Turns, Run, Stop, Stops, StopsIn, Halts}
use Rattle.el_world.specs.Flights.{acked}
use Rattle.el_world.specs.LastTold as told_of
use Rattle.el_world.specs.LastTold.{IsLastTold, IsNoAtLine, at_line}
use Rattle.el_world.proofs.Sureness.{replied_side, turn_sure, same_side, heard_side}
use Rattle.el_world.proofs.NodeAlone.{ToClients, NoNode, IsOfPeers, found_client, found_peer, without_no_node, with_no_node, begun_no_node, all_to, replied_no_node, still_no_node, sent_to_clients, sent_to_node, all_front, all_back, events_of_peers, heard_no_node}
use Rattle.el_world.proofs.NodeTexts.{TellsEnd, tells, stays, no_at_text, busy_some, of_moving, of_line}

-- ---- lists of messages

told_joined : (before mid after : Chain) (ms ns : List Message) → IsLastTold before ms mid → IsLastTold mid ns after
    → IsLastTold before (ms ++ ns) after
told_joined before mid after ms ns first (told_of.told front rest h height whole none tip top) =
    told_of.told (ms ++ front) rest h height (rw whole (sym (append_assoc ms front (at_line h height ∷ rest)))) none tip top
told_joined before mid after ms ns (told_of.told front rest h height whole none tip top) (told_of.untold more same) =
    told_of.told front (rest ++ ns) h height (rw whole (append_assoc front (at_line h height ∷ rest) ns))
    (all_append IsNoAtLine rest ns none more) (rw same tip) (rw same top)
told_joined before mid after ms ns (told_of.untold none as_before) (told_of.untold more same) =
    told_of.untold (all_append IsNoAtLine ms ns none more) (same ∙ as_before)

clients_told : (chain : Chain) (ms : List Message) → ToClients ms → IsLastTold chain ms chain
clients_told chain ms all =
    told_of.untold (all_weaker (λ (m : Message). m.peer ≢ 0) IsNoAtLine ms
    (λ m not_so h height e. not_so (ap (λ (x : Message). x.peer) e)) all) refl

-- ---- one turn

-- a turn speaks to clients alone and leaves the side, or to the node, of whose side it tells the end
pub data Turned (world : World) (outs : Outs) (left : World) : Type 0 where
  to_clients : ToClients outs.messages → left.side ≡ world.side → NoNode left → Turned world outs left
  to_node : (answer : NodeAnswer) → outs ≡ world_of.to_node (text_of answer)
      → TellsEnd world.side.chain answer left.side.chain → NoNode left → Turned world outs left

led : (leads : NodeAnswer → List Deed → Side → Type 0) (world first : World) (outs : Outs)
    (losses : List Deed) (left : World) → NoNode first
    → ((answer : NodeAnswer) (side : Side) → leads answer losses side
    → TellsEnd world.side.chain answer side.chain)
    → IsLed leads first outs losses left → Turned world outs left
led leads world first outs losses left all ends l =
    to_node l.answer l.outs_is (rw l.next_is (ends l.answer l.side l.led)) (rw l.next_is all)

module _ {A : Type 0} (of_files : block_files.Ghosts A) (world : World) (sure : IsSure world.side) (all : NoNode world) where
  answered : (p : ℕ) (bytes : List ℕ) (session : Session) (outs : Outs) (losses : List Deed) (left : World)
      → find (is_peer p) world.sessions ≡ Some session
      → IsAnswered of_files.tells world p bytes session outs losses left → Turned world outs left
  answered p bytes session outs losses left is (world_of.replied reply kept desk comes o n) =
      let client' = found_client (is_peer p) world.sessions session all is in
      let not_so : p ≢ 0 = rw (← found_peer p world.sessions session is) client' in
      rw (o, n) (to_clients (all_to p (option_to_list reply.text) not_so)
      (replied_side p reply session kept (record world { desk = desk })) (replied_no_node p reply session kept (record world { desk = desk }) client' all))
  answered p bytes session outs losses left is (world_of.starved e kept desk comes o n) =
      rw (o, n) (to_clients tt refl (without_no_node p world all))

  replied : (p : ℕ) (bytes : List ℕ) (found : Option Session) (outs : Outs) (losses : List Deed)
      (left : World) → find (is_peer p) world.sessions ≡ found
      → Replied of_files.tells world p bytes found outs losses left → Turned world outs left
  replied p bytes None outs losses left is r = rw (r.0, r.1) (to_clients tt refl all)
  replied p bytes (Some session) outs losses left is r = answered p bytes session outs losses left is r

  taken : (event : Event) (outs : Outs) (losses : List Deed) (left : World) → IsOfPeers event
      → Takes of_files world event outs losses left → Turned world outs left
  taken (world_of.joins p) outs losses left client' t =
      by (nat_lt (length world.sessions) client_limit) t
    where
      by : (b : Bool) → MatchBool b (world_of.OnlyDoes world_of.nothing (world_of.with_client p world) outs losses left)
          (world_of.OnlyDoes (world_of.closes_surplus p) world outs losses left) → Turned world outs left
      by true d = rw (d.0, d.1) (to_clients tt refl
          (all_append (λ (s : Session). s.peer ≢ 0) world.sessions (world_of.new_session p ∷ []) all (client', tt)))
      by false d = rw (d.0, d.1) (to_clients tt refl all)
  taken (world_of.leaves p) outs losses left client' t =
      rw (t.0, t.1) (to_clients tt refl (without_no_node p world all))
  taken (world_of.says p (line bytes)) outs losses left client' t =
      replied p bytes (find (is_peer p) world.sessions) outs losses left refl t
  taken (world_of.says p too_long) outs losses left client' t = by (is_client p world) t
    where
      by : (b : Bool) → MatchBool b (world_of.OnlyDoes (world_of.closes_long p) (without_client p world) outs losses left)
          (world_of.OnlyDoes world_of.nothing world outs losses left) → Turned world outs left
      by true d = rw (d.0, d.1) (to_clients tt refl (without_no_node p world all))
      by false d = rw (d.0, d.1) (to_clients tt refl all)
  taken (world_of.orders met) outs losses left client' t =
      led (OrdersLine of_files world.side met) world (world_of.begun world) outs losses left
      (begun_no_node world all) (λ answer side o. of_line of_files world.side sure answer losses side met o) t

  notified : (outs : Outs) (losses : List Deed) (left : World) → Notifies world outs losses left
      → Turned world outs left
  notified outs losses left (world_of.tells session is o n z) =
      let client' = found_client (λ (s : Session). s.waits) world.sessions session all is in
      rw (o, n) (to_clients (all_to session.peer _ client') refl
      (with_no_node session.peer (told world session) world client' all))
  notified outs losses left (world_of.fails session is o n z) =
      rw (o, n) (to_clients tt refl (without_no_node session.peer world all))
  notified outs losses left (world_of.unsure un session texts now is told' kept' o n z) = absurd (true≢false (sym sure ∙ un))

  turned : (done : List Event) (outs : Outs) (losses : List Deed) (left : World)
      → AllByRecursion IsOfPeers done → OneTurn of_files world done outs losses left → Turned world outs left
  turned done outs losses left of_peers (run_of.takes event still everyone d t) =
      taken event outs losses left (rw d at of_peers).0 t
  turned done outs losses left of_peers (run_of.works busy d w) =
      led (Moving of_files world.side 0 world.side.ahead) world world outs losses left all
      (λ answer side m. of_moving of_files world.side sure answer losses side 0 world.side.ahead
      (inr (busy_some world.side.ahead busy)) m) w
  turned done outs losses left of_peers (run_of.notifies still d n) = notified outs losses left n
  turned done outs losses left of_peers (run_of.departs p is d o n z) =
      rw (o, n) (to_clients tt refl (without_no_node p world all))

-- ---- what of it is sent

-- what the node was told in turns of a sure side, and that it is no client after them
pub record Tells (first : World) (messages : List Message) (world : World) : Type 0 where
  pub sure : IsSure world.side
  pub told : IsLastTold first.side.chain messages world.side.chain
  pub none : NoNode world

delivered : (world left next : World) (outs : Outs) (sent : List Message) (closings : List Closing)
    (losses : List Deed) → IsSure left.side → Turned world outs left
    → Delivers left outs.messages outs.closing sent closings losses next → Tells world sent next
delivered world left next outs sent closings losses sure (to_clients to same none) d = record {
  sure = ap (λ (s : Side). s.sure) (same_side d) ∙ sure;
  told = rw (same_side d ∙ same) (clients_told world.side.chain sent (sent_to_clients d to));
  none = still_no_node d none;
}
delivered world left next outs sent closings losses sure (to_node answer o ends none) d =
    let d' = rw o at d in
    let one = sent_to_node left next (text_of answer) sent closings losses none d' in
    record { sure = ap (λ (s : Side). s.sure) (same_side d) ∙ sure; told = rw (one, same_side d) (by ends); none = still_no_node d none }
  where
    by : TellsEnd world.side.chain answer left.side.chain
        → IsLastTold world.side.chain (record { peer = 0; text = text_of answer } ∷ []) left.side.chain
    by (tells h height e tip top) = rw e (told_of.told [] [] h height refl tt tip top)
    by (stays not_so same) = told_of.untold
        ((λ h height e. no_at_text answer not_so h height (ap (λ (x : Message). x.text) e)), tt) same

tells_joined : (first mid world : World) (ms ns : List Message) → Tells first ms mid → Tells mid ns world
    → Tells first (ms ++ ns) world
tells_joined first mid world ms ns a b = record {
  sure = b.sure;
  told = told_joined first.side.chain mid.side.chain world.side.chain ms ns a.told b.told;
  none = b.none;
}

nothing_told : (world : World) → IsSure world.side → NoNode world → Tells world [] world
nothing_told world sure none = record { sure = sure; told = told_of.untold tt refl; none = none }

turns_tell : {A : Type 0} {of_files : block_files.Ghosts A} {first world : World} {past : List Event} {messages : List Message}
    {closings : List Closing} {losses : List Deed}
    → Turns of_files first past messages closings losses world → IsSure first.side → NoNode first
    → AllByRecursion IsOfPeers past → Tells first messages world
turns_tell {first = first} run_of.none sure none of_peers = nothing_told first sure none
turns_tell {A} {of_files} {first} (run_of.more past messages closings losses world done outs failed left sent closed'
    lost next turns turn d) sure none of_peers =
    let before = turns_tell turns sure none (all_front past done of_peers) in
    tells_joined first world next messages sent before
    (delivered world left next outs sent closed' lost (turn_sure of_files world outs failed left done turn ∙ before.sure)
    (turned of_files world before.sure before.none done outs failed left (all_back past done of_peers) turn) d)

heard_tells : (arrival : ArrivalWithBytes) (world next : World) (messages : List Message)
    → Tells (after_hearing arrival world) messages next → Tells world messages next
heard_tells arrival world next messages t = record {
  sure = t.sure;
  told = rw (heard_side arrival world) at t.told;
  none = t.none;
}

run_tells : {A : Type 0} {of_files : block_files.Ghosts A} {first world : World} {arrivals : List ArrivalWithBytes}
    {messages : List Message} {closings : List Closing} {losses : List Deed}
    → Run of_files first arrivals messages closings losses world → IsSure first.side → NoNode first → Tells first messages world
run_tells {first = first} run_of.none sure none = nothing_told first sure none
run_tells {A} {of_files} {first} (run_of.more arrivals messages closings losses world arrival more_messages
    more_closings more_losses next run turns still everyone) sure none =
    let before = run_tells run sure none in
    tells_joined first world next messages more_messages before
    (heard_tells arrival world next more_messages
    (turns_tell turns (ap (λ (s : Side). s.sure) (heard_side arrival world) ∙ before.sure) (heard_no_node arrival world before.none) (events_of_peers world arrival)))

-- ---- where a run stops

first_alone : (x m : Message) (front more : List Message) → x ∷ [] ≡ front ++ m ∷ more → front ≡ []
first_alone x m [] more e = refl
first_alone x m (y ∷ ys) more e =
    let one : 1 ≡ suc (length (ys ++ m ∷ more)) = ap (λ (ms : List Message). length ms) e in
    let many = length-append ys (m ∷ more) in
    absurd (omega (arith, one, many))

nothing_sent : {w n : World} {s : List Message} {c : List Closing} {l : List Deed}
    → Delivers w [] None s c l n → s ≡ []
nothing_sent (run_of.all w closing) = refl

-- of the turn in which it stops the node gets no `at` line
stop_tells : {A : Type 0} {of_files : block_files.Ghosts A} (world : World) {left : List Event} {stop : Stop} {sent : List Message}
    {closings : List Closing} {losses : List Deed} → IsSure world.side → NoNode world → AllByRecursion IsOfPeers left
    → Stops of_files world left stop sent closings losses
    → IsLastTold world.side.chain sent world.side.chain
stop_tells world sure none of_peers (run_of.disk_failed by_ nodes sent_none closed_none lost) = rw sent_none (told_of.untold tt refl)
stop_tells world sure none of_peers (run_of.sift_failed by_ busy sent_none closed_none lost) = rw sent_none (told_of.untold tt refl)
stop_tells world sure none of_peers (run_of.no_memory by_ nodes sent_none closed_none lost) = rw sent_none (told_of.untold tt refl)
stop_tells world sure none of_peers (run_of.untold by_ busy sent_none closed_none lost) = rw sent_none (told_of.untold tt refl)
stop_tells {A} {of_files} world {sent = sent} sure none of_peers
    (run_of.unsent done rest outs failed after front more m lost last next whole turn cut node d by_ z) =
    by (turned of_files world sure none done outs failed after (all_front done rest (rw whole at of_peers)) turn)
  where
    by : Turned world outs after → IsLastTold world.side.chain sent world.side.chain
    by (to_clients to same none') =
        absurd (all_mid (λ (x : Message). x.peer ≢ 0) front m more (rw cut at to) node)
    by (to_node answer o ends none') =
        let messages : (world_of.to_node (text_of answer)).messages ≡ front ++ m ∷ more =
        sym (ap (λ (x : Outs). x.messages) o) ∙ cut in
        let alone = first_alone _ m front more messages in
        rw (nothing_sent (rw alone at d)) (told_of.untold tt refl)

stops_in_tells : {A : Type 0} {of_files : block_files.Ghosts A} (world : World) (arrival : ArrivalWithBytes) {stop : Stop}
    {messages : List Message} {closings : List Closing} {losses : List Deed} → IsSure world.side → NoNode world
    → (s : StopsIn of_files world arrival stop messages closings losses)
    → IsLastTold world.side.chain messages (acked s)
stops_in_tells world arrival {messages = messages} sure none (run_of.unheard starves by_ sent_none closed_none lost) =
    let r : IsLastTold world.side.chain messages world.side.chain = rw sent_none (told_of.untold tt refl) in
    r
stops_in_tells world arrival {messages = messages} sure none (run_of.in_turn done left past sent past_closings closed'
    past_losses lost mid whole turns stops a b c) =
    let of_peers = rw whole at (events_of_peers world arrival) in
    let before = heard_tells arrival world mid past
    (turns_tell turns (ap (λ (s : Side). s.sure) (heard_side arrival world) ∙ sure) (heard_no_node arrival world none) (all_front done left of_peers)) in
    let r : IsLastTold world.side.chain messages mid.side.chain =
    rw a (told_joined world.side.chain mid.side.chain mid.side.chain past sent before.told
    (stop_tells mid before.sure before.none (all_back done left of_peers) stops)) in
    r

halt_tells : {A : Type 0} {of_files : block_files.Ghosts A} {first : World} {stop : Stop} {arrivals : List ArrivalWithBytes}
    {messages : List Message} {closings : List Closing} {losses : List Deed}
    (h : Halts of_files first stop arrivals messages closings losses) → IsSure first.side → NoNode first
    → IsLastTold first.side.chain messages (acked h.stops)
halt_tells {first = first} h sure none =
    let before = run_tells h.run sure none in
    subst (λ (ms : List Message). IsLastTold first.side.chain ms (acked h.stops)) (sym h.messages_are)
    (told_joined first.side.chain h.world.side.chain (acked h.stops) h.past_messages h.sent before.told
    (stops_in_tells h.world h.last before.sure before.none h.stops))

-- ---- from a world without clients

pub run_last_told : {A : Type 0} {of_files : block_files.Ghosts A} {first world : World} {arrivals : List ArrivalWithBytes}
    {messages : List Message} {closings : List Closing} {losses : List Deed} → first.sessions ≡ [] → IsSure first.side
    → Run of_files first arrivals messages closings losses world
    → IsLastTold first.side.chain messages world.side.chain
run_last_told nobody sure run = (run_tells run sure (rw nobody tt)).told

pub halt_last_told : {A : Type 0} {of_files : block_files.Ghosts A} {first : World} {stop : Stop} {arrivals : List ArrivalWithBytes}
    {messages : List Message} {closings : List Closing} {losses : List Deed} → first.sessions ≡ [] → IsSure first.side
    → (h : Halts of_files first stop arrivals messages closings losses)
    → IsLastTold first.side.chain messages (acked h.stops)
halt_last_told nobody sure h = halt_tells h sure (rw nobody tt)

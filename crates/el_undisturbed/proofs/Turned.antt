-- Turns and runs of a sure side, in which no call of a device fails.
use Rattle.std.proofs.Common.{◌≡◌, ◌≢◌, inl, inr, ℕ, ◌==◌, Bool, true, false, if◌then◌else◌, nat_lt, List, [], ◌∷◌, ◌++◌, length, Option, None, Some, refl, sym, ap, ◌∙◌, true≢false}
use Rattle.std.specs.Prelude.{find, MatchBool, IfSome}
use Rattle.std.specs.List.{AllByRecursion}
use Rattle.std.specs.Option.{option_to_list}
use Rattle.el_base.proofs.Lists.{all_append, all_filter, all_weaker}
use Rattle.el_side.specs.Deeds.{Deed, NoneLost}
use Rattle.el_side.proofs.Deeds.{not_lost, none_front, none_back}
use Rattle.el_outside.specs.Files.{AllGrow}
use Rattle.el_outside.proofs.Traces.{all_grow_none, all_grow_more}
use Rattle.el_outside.specs.declared.archive.Archive as block_files
use Rattle.el_outside.specs.declared.link.Why.{Why}
use Rattle.el_outside.specs.declared.link.Why.TheVariants as why
use Rattle.el_outside.specs.Trace.{ArrivalWithBytes, Message, Closing}
use Rattle.el_lines.specs.Lines.{line, too_long}
use Rattle.el_lines.specs.declared.node_answer.NodeAnswer.{NodeAnswer}
use Rattle.el_side.specs.Side.{Side, IsSure, Moving, OrdersLine}
use Rattle.el_world.specs.World as world_of
use Rattle.el_world.specs.World.{World, Session, Event, Outs, Takes, IsLed, IsAnswered, Replied, Notifies, is_peer, is_client, without_client, after_hearing, events, client_limit, told}
use Rattle.el_world.specs.Run as run_of
use Rattle.el_world.specs.Run.{OneTurn, Delivers, Turns, Run, Stop, Stops, StopsIn, Halts, IsDeparture, lost_by, unless_of, by_memory, files_at, files_left}
use Rattle.el_world.proofs.NodeAlone.{ToClients, NoNode, IsOfPeers, found_client, found_peer, without_no_node, with_no_node, begun_no_node, all_to, replied_no_node, still_no_node, all_front, all_back, events_of_peers, heard_no_node}
use Rattle.el_world.proofs.Sureness.{replied_side, line_sure, moving_sure, same_side, heard_side}
use Rattle.el_undisturbed.specs.HasAll.{HasAll}
use Rattle.el_undisturbed.specs.WholeRecords.{ShowWholeRecords}
use Rattle.el_undisturbed.specs.Undisturbed.{IsDue, TellsNoFailure, Undisturbed}
use Rattle.el_undisturbed.proofs.NodeLines.{own_line, of_client}
use Rattle.el_undisturbed.proofs.Standing.{shows_within}
use Rattle.el_undisturbed.proofs.Forward.{Forward, line_forward, moving_forward, turn_forward, turns_forward, arrival_forward, run_forward, stop_forward, stops_in_forward}
use Rattle.el_undisturbed.proofs.Led.{Goes, Records, of_line, of_moving}

-- ---- lists

to_clients : (ms : List Message) → ToClients ms → AllByRecursion TellsNoFailure ms
to_clients ms to = all_weaker (λ (m : Message). m.peer ≢ 0) TellsNoFailure ms (λ m client. of_client m client) to

-- ---- one turn

-- the world is sure, its block files have all, and the node is no client of it
pub record Keeps (world : World) : Type 0 where
  pub sure : IsSure world.side
  pub has : HasAll world.side
  pub none : NoNode world

-- the closing, if there is one, is due
abbrev pub MayClose : Option Closing → Type 0
MayClose closing = IfSome closing (λ c. IsDue c.why)

-- a turn sends and closes nothing for a failure
pub record Turned (outs : Outs) (left : World) : Type 0 where
  pub keeps : Keeps left
  pub sends : AllByRecursion TellsNoFailure outs.messages
  pub closes : MayClose outs.closing

-- one that leaves the side
by_clients : (world left : World) (outs : Outs) → Keeps world → left.side ≡ world.side → NoNode left → ToClients outs.messages → MayClose outs.closing
    → Turned outs left
by_clients world left outs keeps same none to may = record {
  keeps = record { sure = ap (λ (s : Side). s.sure) same ∙ keeps.sure; has = rw same keeps.has; none = none };
  sends = to_clients outs.messages to;
  closes = may;
}

version_due : (p : ℕ) (b : Bool) → MayClose (if b then Some (record { peer = p; why = why.Version }) else None)
version_due p true = tt
version_due p false = tt

module _ {A : Type 0} (of_files : block_files.Ghosts A) (records : Records of_files) (told' : of_files.tells) (world : World) (end : ℕ → List ℕ)
    (shows : ShowWholeRecords of_files world.side.magic world.side.files end) (keeps : Keeps world)
    (outs : Outs) (losses : List Deed) (none : NoneLost losses) (left : World) (ends : AllGrow left.side.files end) where
  answered : (p : ℕ) (bytes : List ℕ) (session : Session) → find (is_peer p) world.sessions ≡ Some session
      → IsAnswered of_files.tells world p bytes session outs losses left → Turned outs left
  answered p bytes session is (world_of.replied reply kept desk comes o n) =
      let client' = found_client (is_peer p) world.sessions session keeps.none is in
      let not_so : p ≢ 0 = rw (← found_peer p world.sessions session is) client' in
      rw (o, n) (by_clients world _ _ keeps (replied_side p reply session kept (record world { desk = desk })) (replied_no_node p reply session kept (record world { desk = desk }) client' keeps.none)
      (all_to p (option_to_list reply.text) not_so) (version_due p reply.closes))
  answered p bytes session is (world_of.starved e kept desk comes o n) =
      rw (o, n) (by_clients world _ _ keeps refl (without_no_node p world keeps.none) tt tt)

  replied : (p : ℕ) (bytes : List ℕ) (found : Option Session) → find (is_peer p) world.sessions ≡ found
      → Replied of_files.tells world p bytes found outs losses left → Turned outs left
  replied p bytes None is r = rw (r.0, r.1) (by_clients world _ _ keeps refl keeps.none tt tt)
  replied p bytes (Some session) is r = answered p bytes session is r

  led : (leads : NodeAnswer → List Deed → Side → Type 0) (first : World) → NoNode first
      → ((answer : NodeAnswer) (side : Side) → AllGrow side.files end → leads answer losses side → Goes answer side × (side.sure ≡ world.side.sure))
      → IsLed leads first outs losses left → Turned outs left
  led leads first nobody goes l =
      let g = goes l.answer l.side (rw l.next_is at ends) l.led in
      rw (l.outs_is, l.next_is) (record {
        keeps = record { sure = g.1 ∙ keeps.sure; has = g.0.has; none = nobody };
        sends = (own_line l.answer g.0.own, tt);
        closes = tt;
      })

  taken : (event : Event) → IsOfPeers event → Takes of_files world event outs losses left → Turned outs left
  taken (world_of.joins p) client' t = by (nat_lt (length world.sessions) client_limit) t
    where
      by : (b : Bool) → MatchBool b (world_of.OnlyDoes world_of.nothing (world_of.with_client p world) outs losses left)
          (world_of.OnlyDoes (world_of.closes_surplus p) world outs losses left) → Turned outs left
      by true d = rw (d.0, d.1) (by_clients world _ _ keeps refl
          (all_append (λ (s : Session). s.peer ≢ 0) world.sessions (world_of.new_session p ∷ []) keeps.none (client', tt)) tt tt)
      by false d = rw (d.0, d.1) (by_clients world _ _ keeps refl keeps.none tt tt)
  taken (world_of.leaves p) client' t = rw (t.0, t.1) (by_clients world _ _ keeps refl (without_no_node p world keeps.none) tt tt)
  taken (world_of.says p (line bytes)) client' t = replied p bytes (find (is_peer p) world.sessions) refl t
  taken (world_of.says p too_long) client' t = by (is_client p world) t
    where
      by : (b : Bool) → MatchBool b (world_of.OnlyDoes (world_of.closes_long p) (without_client p world) outs losses left)
          (world_of.OnlyDoes world_of.nothing world outs losses left) → Turned outs left
      by true d = rw (d.0, d.1) (by_clients world _ _ keeps refl (without_no_node p world keeps.none) tt tt)
      by false d = rw (d.0, d.1) (by_clients world _ _ keeps refl keeps.none tt tt)
  taken (world_of.orders met) client' t =
      led (OrdersLine of_files world.side met) (world_of.begun world) (begun_no_node world keeps.none)
      (λ answer side later o. (
        of_line of_files records told' world.side end shows keeps.sure keeps.has answer losses none side later met o,
        line_sure of_files world.side answer losses side met o,
      )) t

  notified : Notifies world outs losses left → Turned outs left
  notified (world_of.tells session is o n z) =
      let client' = found_client (λ (s : Session). s.waits) world.sessions session keeps.none is in
      rw (o, n) (by_clients world _ _ keeps refl (with_no_node session.peer (told world session) world client' keeps.none)
      (all_to session.peer _ client') tt)
  notified (world_of.fails session is o n z) = absurd (not_lost _ losses none z)
  notified (world_of.unsure un session texts now is all stays o n z) = absurd (true≢false (sym keeps.sure ∙ un))

  pub turned : (done : List Event) → AllByRecursion IsOfPeers done → OneTurn of_files world done outs losses left → Turned outs left
  turned done of_peers (run_of.takes event still everyone d t) = taken event (rw d at of_peers).0 t
  turned done of_peers (run_of.works busy d w) =
      led (Moving of_files world.side 0 world.side.ahead) world keeps.none
      (λ answer side later m. (
        of_moving of_files records told' world.side end shows keeps.sure keeps.has answer losses none side later 0 world.side.ahead keeps.has.ahead m,
        moving_sure of_files world.side answer losses side 0 world.side.ahead m,
      )) w
  turned done of_peers (run_of.notifies still d n) = notified n
  turned done of_peers (run_of.departs p is d o n z) =
      rw (o, n) (by_clients world _ _ keeps refl (without_no_node p world keeps.none) tt tt)

-- ---- what of it is sent

closing_due : (closing : Option Closing) → MayClose closing → AllByRecursion (λ (c : Closing). IsDue c.why) (option_to_list closing)
closing_due None may = tt
closing_due (Some c) may = (may, tt)

unless_due : (p : ℕ) (closing : Option Closing) → MayClose closing → MayClose (unless_of p closing)
unless_due p None may = tt
unless_due p (Some c) may = by (c.peer == p)
  where
    by : (b : Bool) → MayClose (if b then None else Some c)
    by true = tt
    by false = may

departs_due : (reason : Why) (losses : List Deed) → IsDeparture reason → NoneLost (lost_by reason ++ losses) → IsDue reason
departs_due reason losses (inl gone) lost = absurd (rw gone at lost).0
departs_due reason losses (inr memory) lost = rw memory tt

pub sent_due : {world next : World} {messages sent : List Message} {closing : Option Closing} {closings : List Closing} {losses : List Deed}
    → Delivers world messages closing sent closings losses next → NoneLost losses → AllByRecursion TellsNoFailure messages → MayClose closing
    → Undisturbed sent closings
sent_due (run_of.all world closing) lost tell may = record { sent = tt; closed = closing_due closing may }
sent_due (run_of.sends world m messages closing sent closings losses next d) lost tell may =
    let rest = sent_due d lost tell.1 may in
    record { sent = (tell.0, rest.sent); closed = rest.closed }
sent_due (run_of.loses world m messages closing reason sent closings losses next is departs d) lost tell may =
    let rest = sent_due d (none_back (lost_by reason) losses lost) (all_filter TellsNoFailure _ messages tell.1) (unless_due m.peer closing may) in
    record { sent = rest.sent; closed = (departs_due reason losses departs lost, rest.closed) }

undisturbed_joined : (ms ns : List Message) (cs ds : List Closing) → Undisturbed ms cs → Undisturbed ns ds → Undisturbed (ms ++ ns) (cs ++ ds)
undisturbed_joined ms ns cs ds a b = record {
  sent = all_append TellsNoFailure ms ns a.sent b.sent;
  closed = all_append (λ (c : Closing). IsDue c.why) cs ds a.closed b.closed;
}

-- ---- turns

-- what turns send and close, and the world that they leave
pub record Went (messages : List Message) (closings : List Closing) (world : World) : Type 0 where
  pub keeps : Keeps world
  pub calm : Undisturbed messages closings

module _ {A : Type 0} (of_files : block_files.Ghosts A) (records : Records of_files) (told' : of_files.tells) where
  -- what is found from a side on, where that is shown from an earlier one on
  shows_from : (first side : Side) (end : ℕ → List ℕ) → Forward first side → ShowWholeRecords of_files first.magic first.files end
      → ShowWholeRecords of_files side.magic side.files end
  shows_from first side end f shows =
      rw f.magic (shows_within of_files first.magic first.files end side.files end f.grows (all_grow_none end) shows)

  pub turns_go : {first world : World} {past : List Event} {messages : List Message} {closings : List Closing} {losses : List Deed} (end : ℕ → List ℕ)
      → Turns of_files first past messages closings losses world → NoneLost losses → Keeps first → AllByRecursion IsOfPeers past
      → ShowWholeRecords of_files first.side.magic first.side.files end → AllGrow world.side.files end → Went messages closings world
  turns_go end run_of.none lost keeps of_peers shows ends = record { keeps = keeps; calm = record { sent = tt; closed = tt } }
  turns_go {first = first} end (run_of.more past messages closings losses world done outs failed left sent closed' lost next turns turn d) no_loss keeps of_peers shows ends =
      let left_ends : AllGrow left.side.files end = rw (same_side d) at ends in
      let on = turn_forward of_files told' world outs failed left done turn in
      let world_ends = all_grow_more world.side.files left.side.files end on.grows left_ends in
      let before = turns_go end turns (none_front losses (failed ++ lost) no_loss) keeps (all_front past done of_peers) shows world_ends in
      let now = none_back losses (failed ++ lost) no_loss in
      let here = shows_from first.side world.side end (turns_forward of_files told' turns) shows in
      let t = turned of_files records told' world end here before.keeps outs failed (none_front failed lost now) left left_ends done (all_back past done of_peers) turn in
      record {
        keeps = record {
          sure = ap (λ (s : Side). s.sure) (same_side d) ∙ t.keeps.sure;
          has = rw (same_side d) t.keeps.has;
          none = still_no_node d t.keeps.none;
        };
        calm = undisturbed_joined messages sent closings closed' before.calm (sent_due d (none_back failed lost now) t.sends t.closes);
      }

  heard_keeps : (arrival : ArrivalWithBytes) (world : World) → Keeps world → Keeps (after_hearing arrival world)
  heard_keeps arrival world keeps = record {
    sure = ap (λ (s : Side). s.sure) (heard_side arrival world) ∙ keeps.sure;
    has = rw (heard_side arrival world) keeps.has;
    none = heard_no_node arrival world keeps.none;
  }

  -- what is found in an arrival
  shows_heard : (arrival : ArrivalWithBytes) (first world : World) (end : ℕ → List ℕ) → Forward first.side world.side
      → ShowWholeRecords of_files first.side.magic first.side.files end
      → ShowWholeRecords of_files (after_hearing arrival world).side.magic (after_hearing arrival world).side.files end
  shows_heard arrival first world end f shows = rw (heard_side arrival world) (shows_from first.side world.side end f shows)

  pub run_goes : {first world : World} {arrivals : List ArrivalWithBytes} {messages : List Message} {closings : List Closing} {losses : List Deed} (end : ℕ → List ℕ)
      → Run of_files first arrivals messages closings losses world → NoneLost losses → Keeps first
      → ShowWholeRecords of_files first.side.magic first.side.files end → AllGrow world.side.files end → Went messages closings world
  run_goes end run_of.none lost keeps shows ends = record { keeps = keeps; calm = record { sent = tt; closed = tt } }
  run_goes {first = first} end (run_of.more arrivals messages closings losses world arrival more_messages more_closings more_losses next run turns still everyone) no_loss keeps shows ends =
      let on = arrival_forward of_files told' arrival world turns in
      let before = run_goes end run (none_front losses more_losses no_loss) keeps shows (all_grow_more world.side.files next.side.files end on.grows ends) in
      let here = shows_heard arrival first world end (run_forward of_files told' run) shows in
      let t = turns_go end turns (none_back losses more_losses no_loss) (heard_keeps arrival world before.keeps) (events_of_peers world arrival) here ends in
      record { keeps = t.keeps; calm = undisturbed_joined messages more_messages closings more_closings before.calm t.calm }

  -- ---- where a run stops

  all_before : {X : Type 0} (P : X → Type 0) (xs ys : List X) → AllByRecursion P (xs ++ ys) → AllByRecursion P xs
  all_before P [] ys all = tt
  all_before P (x ∷ xs) ys all = (all.0, all_before P xs ys all.1)

  -- a message to the node isn't sent where no memory is found for it
  unsent_by : (stop : Stop) (last : List Deed) → run_of.LostBy stop last → NoneLost last → stop ≡ by_memory
  unsent_by run_of.by_disk last lost none = absurd lost
  unsent_by run_of.by_link last lost none = absurd (not_lost _ last none lost)
  unsent_by run_of.by_memory last lost none = refl

  stop_goes : (world : World) (end : ℕ → List ℕ) {left : List Event} {stop : Stop} {sent : List Message} {closings : List Closing} {losses : List Deed}
      → Keeps world → AllByRecursion IsOfPeers left → NoneLost losses → ShowWholeRecords of_files world.side.magic world.side.files end
      → (s : Stops of_files world left stop sent closings losses) → AllGrow (files_at s) end → (stop ≡ by_memory) × Undisturbed sent closings
  stop_goes world end keeps of_peers no_loss shows (run_of.disk_failed by_ nodes s c lost) ends = absurd (not_lost _ _ no_loss lost)
  stop_goes world end keeps of_peers no_loss shows (run_of.sift_failed by_ busy s c lost) ends = absurd (rw lost at no_loss).0
  stop_goes world end keeps of_peers no_loss shows (run_of.no_memory by_ nodes s c lost) ends = (by_, rw (s, c) (record { sent = tt; closed = tt }))
  stop_goes world end keeps of_peers no_loss shows (run_of.untold by_ busy s c lost) ends = absurd (not_lost _ _ no_loss lost)
  stop_goes world end {stop = stop} keeps of_peers no_loss shows (run_of.unsent done rest outs failed after front more m lost last next whole turn cut node d by_ z) ends =
      let none = rw z at no_loss in
      let later = none_back failed (lost ++ last) none in
      let t = turned of_files records told' world end shows keeps outs failed (none_front failed (lost ++ last) none) after ends done
      (all_front done rest (rw whole at of_peers)) turn in (
        unsent_by stop last by_ (none_back lost last later),
        sent_due d (none_front lost last later) (all_before TellsNoFailure front (m ∷ more) (rw cut at t.sends)) tt,
      )

  stops_in_goes : (first world : World) (arrival : ArrivalWithBytes) (end : ℕ → List ℕ) {stop : Stop} {messages : List Message} {closings : List Closing} {losses : List Deed}
      → Keeps world → NoneLost losses → Forward first.side world.side → ShowWholeRecords of_files first.side.magic first.side.files end
      → (s : StopsIn of_files world arrival stop messages closings losses) → AllGrow (files_left s) end → (stop ≡ by_memory) × Undisturbed messages closings
  stops_in_goes first world arrival end keeps no_loss on shows (run_of.unheard starves by_ s c lost) ends = (by_, rw (s, c) (record { sent = tt; closed = tt }))
  stops_in_goes first world arrival end keeps no_loss on shows (run_of.in_turn done left past sent past_closings closed' past_losses lost mid whole turns stops a b c) ends =
      let none = rw c at no_loss in
      let of_peers = rw whole at (events_of_peers world arrival) in
      let here = shows_heard arrival first world end on shows in
      let mid_ends = all_grow_more mid.side.files (files_at stops) end (stop_forward of_files told' stops) ends in
      let before = turns_go end turns (none_front past_losses lost none) (heard_keeps arrival world keeps) (all_front done left of_peers) here mid_ends in
      let there = shows_from (after_hearing arrival world).side mid.side end (turns_forward of_files told' turns) here in
      let s = stop_goes mid end before.keeps (all_back done left of_peers) (none_back past_losses lost none) there stops ends in
      (s.0, rw (a, b) (undisturbed_joined past sent past_closings closed' before.calm s.1))

  pub halt_goes : {first : World} {stop : Stop} {arrivals : List ArrivalWithBytes} {messages : List Message} {closings : List Closing} {losses : List Deed}
      → (h : Halts of_files first stop arrivals messages closings losses) → NoneLost losses → Keeps first
      → ShowWholeRecords of_files first.side.magic first.side.files (files_left h.stops) → (stop ≡ by_memory) × Undisturbed messages closings
  halt_goes {first = first} h no_loss keeps shows =
      let end = files_left h.stops in
      let none = rw h.losses_are at no_loss in
      let before = run_goes end h.run (none_front h.past_losses h.lost none) keeps shows (stops_in_forward of_files told' h.stops) in
      let s = stops_in_goes first h.world h.last end before.keeps (none_back h.past_losses h.lost none) (run_forward of_files told' h.run) shows h.stops (all_grow_none end) in
      (s.0, rw (h.messages_are, h.closings_are) (undisturbed_joined h.past_messages h.sent h.past_closings h.closed before.calm s.1))

  -- a world without clients
  pub keeps_first : (first : World) → first.sessions ≡ [] → IsSure first.side → HasAll first.side → Keeps first
  keeps_first first nobody sure has = record { sure = sure; has = has; none = rw nobody tt }

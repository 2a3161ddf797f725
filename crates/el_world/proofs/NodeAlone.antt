-- The node, which is peer 0, is no client: through a run no client has its number.
use Rattle.std.proofs.Common.{◌≡◌, ◌≢◌, inl, inr, ℕ, ◌==◌, Bool, true, false, not, if◌then◌else◌, List, [], ◌∷◌, ◌++◌, map, Option, None, Some, refl, sym, ◌∙◌, eqb-true, eq-eqb, true≢false}
use Rattle.std.specs.Prelude.{find}
use Rattle.std.specs.List.{AllByRecursion, list_any, flat_map}
use Rattle.el_base.proofs.Lists.{all_append, all_filter}
use Rattle.el_side.specs.Deeds.{Deed}
use Rattle.el_outside.specs.Trace.{ArrivalWithBytes, opened, brought, closed, quiet, ended, Message, Closing}
use Rattle.el_lines.specs.Lines.{LineEvent, added_lines}
use Rattle.el_lines.specs.NodeAnswers.{node_limit}
use Rattle.el_lines.proofs.Cuts.{either}
use Rattle.el_replies.specs.declared.line.LineReply.{LineReply}
use Rattle.el_sessions.specs.declared.session.Session as client
use Rattle.el_world.specs.World as world_of
use Rattle.el_world.specs.World.{World, Session, Event, is_peer, with_session, without_client, hearing, after_hearing, lines_said, events, after_reply}
use Rattle.el_world.specs.Run as run_of
use Rattle.el_world.specs.Run.{Delivers}

-- messages to clients
abbrev pub ToClients : List Message → Type 0
ToClients ms = AllByRecursion (λ (m : Message). m.peer ≢ 0) ms

-- ---- peer 0 is no client

abbrev pub NoNode : World → Type 0
NoNode world = AllByRecursion (λ (s : Session). s.peer ≢ 0) world.sessions

pub no_client : (ss : List Session) → AllByRecursion (λ (s : Session). s.peer ≢ 0) ss
    → list_any (is_peer 0) ss ≡ true → ⊥
no_client [] all is = true≢false (sym is)
no_client (s ∷ ss) all is = elim (either (is_peer 0 s)) [
  | inl h ↦ all.0 (eqb-true s.peer 0 h)
  | inr h ↦ no_client ss all.1 (rw h at is)
]

pub found_client : (p : Session → Bool) (ss : List Session) (s : Session)
    → AllByRecursion (λ (s : Session). s.peer ≢ 0) ss → find p ss ≡ Some s → s.peer ≢ 0
found_client p [] s all is = absurd cc
found_client p (x ∷ ss) s all is = elim (either (p x)) [
  | inl h ↦ let found : Some x ≡ Some s = rw h at is in let same : x ≡ s = cc in rw (← same) all.0
  | inr h ↦ found_client p ss s all.1 (rw h at is)
]

pub found_peer : (p : ℕ) (ss : List Session) (s : Session) → find (is_peer p) ss ≡ Some s → s.peer ≡ p
found_peer p [] s is = absurd cc
found_peer p (x ∷ ss) s is = elim (either (is_peer p x)) [
  | inl h ↦ let found : Some x ≡ Some s = rw h at is in let same : x ≡ s = cc in rw (← same) (eqb-true x.peer p h)
  | inr h ↦ found_peer p ss s (rw h at is)
]

pub without_no_node : (p : ℕ) (world : World) → NoNode world → NoNode (without_client p world)
without_no_node p world all =
    all_filter (λ (s : Session). s.peer ≢ 0) (λ (s : Session). not (is_peer p s)) world.sessions all

mapped : (f : Session → Session) (ss : List Session) → ((s : Session) → s.peer ≢ 0 → (f s).peer ≢ 0)
    → AllByRecursion (λ (s : Session). s.peer ≢ 0) ss → AllByRecursion (λ (s : Session). s.peer ≢ 0) (map f ss)
mapped f [] keeps all = tt
mapped f (s ∷ ss) keeps all = (keeps s all.0, mapped f ss keeps all.1)

pub with_no_node : (p : ℕ) (now : Session) (world : World) → now.peer ≢ 0 → NoNode world
    → NoNode (with_session p now world)
with_no_node p now world not_so all =
    mapped (λ (s : Session). if is_peer p s then now else s) world.sessions (λ s is. by s is (is_peer p s)) all
  where
    by : (s : Session) → s.peer ≢ 0 → (b : Bool) → (if b then now else s).peer ≢ 0
    by s is true = not_so
    by s is false = is

pub begun_no_node : (world : World) → NoNode world → NoNode (world_of.begun world)
begun_no_node world all =
    mapped (λ (s : Session). record s { waits = true }) world.sessions (λ s is. is) all

-- an event in which no peer 0 joins
abbrev pub IsOfPeers : Event → Type 0
IsOfPeers (world_of.joins p) = p ≢ 0
IsOfPeers other = Unit {0}

-- texts to one client
pub all_to : (p : ℕ) (texts : List (List ℕ)) → p ≢ 0
    → ToClients (map (λ (t : List ℕ). record { peer = p; text = t }) texts)
all_to p [] not_so = tt
all_to p (t ∷ ts) not_so = (not_so, all_to p ts not_so)

pub replied_no_node : (p : ℕ) (reply : LineReply) (session : Session) (kept : client.Session) (world : World)
    → session.peer ≢ 0 → NoNode world → NoNode (after_reply p reply session kept world)
replied_no_node p reply session kept world client' all = by reply.closes
  where
    by : (b : Bool) → NoNode (if b then without_client p world
        else with_session p (record session { client = kept }) world)
    by true = without_no_node p world all
    by false = with_no_node p (record session { client = kept }) world client' all

-- ---- what is sent

pub still_no_node : {world next : World} {messages sent : List Message} {closing : Option Closing}
    {closings : List Closing} {losses : List Deed}
    → Delivers world messages closing sent closings losses next → NoNode world → NoNode next
still_no_node (run_of.all world closing) none = none
still_no_node (run_of.sends world m messages closing sent closings losses next d) none = still_no_node d none
still_no_node (run_of.loses world m messages closing reason sent closings losses next is departs d) none =
    still_no_node d (without_no_node m.peer world none)

pub sent_to_clients : {world next : World} {messages sent : List Message} {closing : Option Closing}
    {closings : List Closing} {losses : List Deed}
    → Delivers world messages closing sent closings losses next → ToClients messages → ToClients sent
sent_to_clients (run_of.all world closing) to = tt
sent_to_clients (run_of.sends world m messages closing sent closings losses next d) to =
    (to.0, sent_to_clients d to.1)
sent_to_clients (run_of.loses world m messages closing reason sent closings losses next is departs d) to =
    sent_to_clients d (all_filter (λ (m : Message). m.peer ≢ 0) _ messages to.1)

-- a message to the node goes out
pub sent_to_node : (world next : World) (text : List ℕ) (sent : List Message) (closings : List Closing)
    (losses : List Deed) → NoNode world
    → Delivers world (record { peer = 0; text = text } ∷ []) None sent closings losses next
    → sent ≡ record { peer = 0; text = text } ∷ []
sent_to_node world next text sent closings losses none
    (run_of.sends w m messages closing more c l n (run_of.all w' closing')) = refl
sent_to_node world next text sent closings losses none
    (run_of.loses w m messages closing reason more c l n (inl is) departs d) =
    absurd (no_client world.sessions none is)
sent_to_node world next text sent closings losses none
    (run_of.loses w m messages closing reason more c l n (inr is) departs d) = absurd is

pub all_front : (xs ys : List Event) → AllByRecursion IsOfPeers (xs ++ ys) → AllByRecursion IsOfPeers xs
all_front [] ys all = tt
all_front (x ∷ xs) ys all = (all.0, all_front xs ys all.1)

pub all_back : (xs ys : List Event) → AllByRecursion IsOfPeers (xs ++ ys) → AllByRecursion IsOfPeers ys
all_back [] ys all = all
all_back (x ∷ xs) ys all = all_back xs ys all.1

-- ---- arrivals

said_of_peers : (p : ℕ) (ls : List LineEvent) → AllByRecursion IsOfPeers (map (world_of.says p) ls)
said_of_peers p [] = tt
said_of_peers p (l ∷ ls) = (tt, said_of_peers p ls)

ordered_of_peers : (ls : List LineEvent) → AllByRecursion IsOfPeers (map world_of.orders ls)
ordered_of_peers [] = tt
ordered_of_peers (l ∷ ls) = (tt, ordered_of_peers ls)

lines_of_peers : (p : ℕ) (bytes : List ℕ) (ss : List Session)
    → AllByRecursion IsOfPeers (flat_map (lines_said p bytes) ss)
lines_of_peers p bytes [] = tt
lines_of_peers p bytes (s ∷ ss) =
    all_append IsOfPeers (lines_said p bytes s) (flat_map (lines_said p bytes) ss) (by (is_peer p s))
    (lines_of_peers p bytes ss)
  where
    by : (b : Bool) → AllByRecursion IsOfPeers
        (if b then map (world_of.says p) (added_lines world_of.line_limit s.heard bytes) else [])
    by true = said_of_peers p _
    by false = tt

pub events_of_peers : (world : World) (arrival : ArrivalWithBytes) → AllByRecursion IsOfPeers (events world arrival)
events_of_peers world (opened p) = by (p == 0) refl
  where
    by : (b : Bool) → (p == 0) ≡ b → AllByRecursion IsOfPeers (if b then [] else world_of.joins p ∷ [])
    by true e = tt
    by false e = (λ is. true≢false (sym (eq-eqb p 0 is) ∙ e), tt)
events_of_peers world (brought p bytes) = by (p == 0)
  where
    by : (b : Bool) → AllByRecursion IsOfPeers (if b then map world_of.orders (added_lines node_limit world.heard bytes)
        else flat_map (lines_said p bytes) world.sessions)
    by true = ordered_of_peers _
    by false = lines_of_peers p bytes world.sessions
events_of_peers world (closed p) = (tt, tt)
events_of_peers world quiet = tt
events_of_peers world ended = tt

-- what an arrival brings makes no client of the node
pub heard_no_node : (arrival : ArrivalWithBytes) (world : World) → NoNode world
    → NoNode (after_hearing arrival world)
heard_no_node (opened p) world none = none
heard_no_node (brought p bytes) world none = by (p == 0)
  where
    hears : (s : Session) → s.peer ≢ 0 → (b : Bool)
        → (if b then record s { heard = s.heard ++ bytes } else s).peer ≢ 0
    hears s is true = is
    hears s is false = is

    by : (b : Bool) → NoNode (if b then record world { heard = world.heard ++ bytes }
        else record world { sessions = map (hearing p bytes) world.sessions })
    by true = none
    by false = mapped (hearing p bytes) world.sessions (λ s is. hears s is (is_peer p s)) none
heard_no_node (closed p) world none = none
heard_no_node quiet world none = none
heard_no_node ended world none = none

-- Whom a turn leaves connected, and whom it closes.
use Rattle.std.proofs.Common.{◌≡◌, inl, inr, ℕ, ◌==◌, true, false, nat_lt, List, [], ◌∷◌, ◌++◌, length, map, Some, None, refl, ap, sym, ◌∙◌, append_assoc, Option, eqb-true}
use Rattle.std.specs.Prelude.{find}
use Rattle.std.specs.List.{AllByRecursion, AllZip, list_any}
use Rattle.std.specs.Option.{option_to_list}
use Rattle.el_outside.specs.declared.archive.Archive as archive
use Rattle.el_outside.specs.Trace.{Trace, Message}
use Rattle.el_outside.specs.declared.link.Why.{Why}
use Rattle.el_outside.specs.declared.link.Why.TheVariants as why
use Rattle.el_chain.specs.Chains.{Chain}
use Rattle.el_lines.specs.Lines.{LineEvent, line, too_long}
use Rattle.el_lines.specs.declared.node_answer.NodeAnswer.{NodeAnswer}
use Rattle.el_subs.specs.Told.{status}
use Rattle.el_subs.specs.Notices.{notices}
use Rattle.el_side.specs.Side.{Side}
use Rattle.el_world.specs.World.{World, Session, Event, joins, leaves, says, orders, Outs, IsLed, Takes, Replied, replied, starved, Notifies, tells as is_told, fails, unsure, told, begun, outs_of_telling, texts_to, with_session, is_peer, is_client, without_client, client_limit}
use Rattle.el_side.specs.Deeds.{Deed}
use Rattle.el_world.specs.Run.{OneTurn, takes, works, notifies, departs}
use Rattle.el_lines.proofs.Cuts.{either}
use Rattle.el_core.specs.State.{State, ClientState, Stands, IsSession, SessionsAre, AllVoid, HearsLeft, in_order, losing, IsSaidBy}
use Rattle.el_loop.specs.within.Sending.{AllOpen, CanClose}
use Rattle.el_loop.specs.within.Progress.{IsNotClosed, ClientsAreOpen}
use Rattle.el_loop.proofs.Openness.{peers, same_open, same_peer, peers_with, peers_begun, client_open, all_but, not_among, all_same, found_open, found_client, who_is_client, stranger_left}

-- all clients are open, and who is closed is open and no client
pub record After (trace : Trace) (outs : Outs) (next : World) : Type 0 where
  pub sessions : AllOpen trace next.sessions
  pub closing : CanClose next trace outs.closing

-- nobody is closed, and nobody comes or leaves
pub record Quietly (world : World) (outs : Outs) (next : World) : Type 0 where
  pub none : outs.closing ≡ None
  pub same : peers next.sessions ≡ peers world.sessions

quiet_after : (trace : Trace) (world : World) (outs : Outs) (next : World) → Quietly world outs next
    → AllOpen trace world.sessions → After trace outs next
quiet_after trace world outs next q are = record {
  sessions = same_open trace world.sessions next.sessions (sym q.same) are;
  closing = rw q.none tt;
}

-- the node is answered
by_lead : (leads : NodeAnswer → List Deed → Side → Type 0) (world : World) (outs : Outs) (losses : List Deed)
    (next : World) → IsLed leads world outs losses next → Quietly world outs next
by_lead leads world outs losses next l = record { none = rw l.outs_is refl; same = rw l.next_is refl }

-- where a line of the node begins, with which all are to be told
by_line_of_node : (leads : NodeAnswer → List Deed → Side → Type 0) (world : World) (outs : Outs)
    (losses : List Deed) (next : World) → IsLed leads (begun world) outs losses next
    → Quietly world outs next
by_line_of_node leads world outs losses next l =
    record { none = rw l.outs_is refl; same = rw l.next_is (peers_begun world.sessions) }

-- a client is told
by_telling : (world : World) (session : Session) (outs : Outs) (next : World) → outs ≡ outs_of_telling world session
    → next ≡ with_session session.peer (told world session) world → Quietly world outs next
by_telling world session outs next outs_is next_is = record {
  none = rw outs_is refl;
  same = rw next_is (peers_with world.sessions session.peer (told world session) refl);
}

by_texts : (world : World) (session now : Session) (texts : List (List ℕ)) (outs : Outs) (next : World) → outs ≡ texts_to session.peer texts → now.peer ≡ session.peer
    → next ≡ with_session session.peer now world → Quietly world outs next
by_texts world session now texts outs next outs_is peer next_is = record {
  none = rw outs_is refl;
  same = rw next_is (peers_with world.sessions session.peer now peer);
}

-- a client is closed
shut : (trace : Trace) (world : World) (p : ℕ) (reason : Why) (outs : Outs) (next : World)
    → is_client p world ≡ true → outs.closing ≡ Some (record { peer = p; why = reason })
    → next ≡ without_client p world → AllOpen trace world.sessions → After trace outs next
shut trace world p reason outs next client is gone are = record {
  sessions = rw gone (all_but trace world.sessions p are);
  closing = rw (is, gone) (client_open trace world.sessions p client are, not_among world.sessions p);
}

by_line : (tells : Type 0) (trace : Trace) (world : World) (p : ℕ) (bytes : List ℕ) (found : Option Session)
    (outs : Outs) (losses : List Deed) (next : World) → find (is_peer p) world.sessions ≡ found
    → Replied tells world p bytes found outs losses next → AllOpen trace world.sessions
    → After trace outs next
by_line tells trace world p bytes None outs losses next is t are =
    quiet_after trace world outs next (record { none = rw t.0 refl; same = rw t.1 refl }) are
-- the reply may close the client, or change what is kept of it
by_line tells trace world p bytes (Some session) outs losses next is
    (replied reply kept desk comes outs_is next_is) are = elim (either reply.closes) [
      | inl h ↦ shut trace (record world { desk = desk }) p why.Version outs next (found_client world.sessions p session is)
          (rw outs_is (rw h refl)) (rw next_is (rw h refl)) are
      | inr h ↦ record {
        sessions = rw next_is (rw h (all_same trace world.sessions p (record session { client = kept })
            (found_open trace world.sessions p session is are) are));
        closing = rw outs_is (rw h tt);
      }
    ]
by_line tells trace world p bytes (Some session) outs losses next is (starved e kept desk comes outs_is next_is)
    are =
    shut trace (record world { desk = desk }) p why.Memory outs next (found_client world.sessions p session is)
    (rw outs_is refl) next_is are

first_said : (met : List LineEvent) (said : List Event) (p : ℕ) (rest : List Event)
    → joins p ∷ rest ≡ map orders met ++ said → joins p ∷ rest ≡ said
first_said [] said p rest is = is
first_said (m ∷ ms) said p rest is = absurd cc

no_says : (peer : ℕ) (met : List LineEvent) (p : ℕ) (rest : List Event) → joins p ∷ rest ≡ map (says peer) met
    → ⊥
no_says peer [] p rest is = cc
no_says peer (m ∷ ms) p rest is = cc

no_joins : (c : ClientState) (heard : List ℕ) (p : ℕ) (rest : List Event) → HearsLeft c heard (joins p ∷ rest)
    → ⊥
no_joins c heard p rest (in_order given kept at' few is) = no_says c.peer _ p rest is
no_joins c heard p rest (losing lost are) = are.0

-- the client that speaks, with its bytes
speaking : (clients : List ClientState) (sessions : List Session) (q : ℕ) (left : List Event)
    → AllZip (IsSession (Some q) left) clients sessions → list_any (is_peer q) sessions ≡ true
    → (c : ClientState) × (heard : List ℕ) × HearsLeft c heard left
speaking [] [] q left each there = absurd (let e = there in cc)
speaking [] (x ∷ xs) q left each there = absurd each
speaking (c ∷ cs) [] q left each there = absurd each
speaking (c ∷ cs) (x ∷ xs) q left each there = elim (either (x.peer == q)) [
  | inl h ↦ (c, x.heard, each.0.speaks (ap Some (sym (each.0.peer ∙ eqb-true x.peer q h))))
  | inr h ↦ speaking cs xs q left each.1 (rw h at there)
]

-- who joins is the one too many
joins_too_many : (clients : List ClientState) (speaker surplus : Option ℕ) (sessions : List Session) (p : ℕ)
    (rest : List Event) → SessionsAre clients speaker surplus sessions (joins p ∷ rest)
    → (surplus ≡ Some p) × (nat_lt (length sessions) client_limit ≡ false)
joins_too_many clients None None sessions p rest are = absurd are.leaves_left.0.1
joins_too_many clients None (Some q) sessions p rest are =
    let is = are.leaves_left.0 in
    let same : p ≡ q = cc in
    (ap Some (sym same), are.leaves_left.1)
joins_too_many clients (Some q) None sessions p rest are =
    let s = speaking clients sessions q (joins p ∷ rest) are.each are.leaves_left in
    absurd (no_joins s.0 s.1 p rest s.2)
joins_too_many clients (Some q) (Some r) sessions p rest are = absurd are.leaves_left

waiting : {G : Type 0} (stands : G → Chain → Type 0) (s : State G) (world : World) (left : List Event) (p : ℕ)
    (rest : List Event) → Stands stands s world left → left ≡ joins p ∷ rest
    → (s.surplus ≡ Some p) × (nat_lt (length world.sessions) client_limit ≡ false)
waiting stands s world left p rest stood is =
    let split = sym is ∙ stood.left_is ∙ ap (λ (l : List Event). l ++ stood.said) stood.node.left_is in
    let said = first_said _ stood.said p rest split in
    joins_too_many s.clients s.speaker s.surplus world.sessions p rest (rw said stood.sessions)

by_event : {G A : Type 0} (stands : G → Chain → Type 0) (of_files : archive.Ghosts A) (trace : Trace)
    (s : State G)
    (world : World) (left rest : List Event) (event : Event) (outs : Outs) (losses : List Deed)
    (next : World)
    → Stands stands s world left → left ≡ event ∷ rest → Takes of_files world event outs losses next
    → ClientsAreOpen s world trace → After trace outs next
by_event stands of_files trace s world left rest (joins p) outs losses next stood is t are =
    let w = waiting stands s world left p rest stood is in
    let e = rw w.1 at t in
    let here = are.surplus p w.0 in
    record { sessions = rw e.1 are.sessions; closing = rw (e.0, e.1) here }
by_event stands of_files trace s world left rest (leaves p) outs losses next stood is t are =
    record { sessions = rw t.1 (all_but trace world.sessions p are.sessions); closing = rw t.0 tt }
by_event stands of_files trace s world left rest (says p (line bytes)) outs losses next stood is t are =
    by_line of_files.tells trace world p bytes (find (is_peer p) world.sessions) outs losses next refl t
    are.sessions
by_event stands of_files trace s world left rest (says p too_long) outs losses next stood is t are =
    elim (either (is_client p world)) [
      | inl h ↦ let e = rw h at t in shut trace world p why.Long outs next h
          (ap (λ (o : Outs). o.closing) e.0) e.1 are.sessions
      | inr h ↦ let e = rw h at t in quiet_after trace world outs next
          (record { none = ap (λ (o : Outs). o.closing) e.0; same = ap (λ (w : World). peers w.sessions) e.1 })
          are.sessions
    ]
by_event stands of_files trace s world left rest (orders met) outs losses next stood is t are =
    quiet_after trace world outs next (by_line_of_node _ world outs losses next t) are.sessions

-- who is told, or closed since the index's device failed
by_notice : (trace : Trace) (world : World) (outs : Outs) (losses : List Deed) (next : World)
    → Notifies world outs losses next → AllOpen trace world.sessions → After trace outs next
by_notice trace world outs losses next (is_told session is outs_is next_is lossless) are =
    quiet_after trace world outs next (by_telling world session outs next outs_is next_is) are
by_notice trace world outs losses next (fails session is outs_is next_is lost) are =
    shut trace world session.peer why.Disk outs next (who_is_client world.sessions _ session is)
    (ap (λ (o : Outs). o.closing) outs_is) next_is are
by_notice trace world outs losses next (unsure un session texts now is all' stays outs_is next_is lossless) are =
    quiet_after trace world outs next (by_texts world session (record session { client = now; waits = false }) texts outs next outs_is refl next_is) are

pub after_turn : {G A : Type 0} (stands : G → Chain → Type 0) (of_files : archive.Ghosts A) (trace : Trace)
    (s : State G)
    (world : World) (left rest done : List Event) (outs : Outs) (losses : List Deed)
    (next : World) → Stands stands s world left → left ≡ done ++ rest
    → OneTurn of_files world done outs losses next → ClientsAreOpen s world trace → After trace outs next
after_turn stands of_files trace s world left rest done outs losses next stood whole
    (takes event still all_told is t) are =
    by_event stands of_files trace s world left rest event outs losses next stood (rw is at whole) t are
after_turn stands of_files trace s world left rest done outs losses next stood whole (works busy is t) are =
    quiet_after trace world outs next (by_lead _ world outs losses next t) are.sessions
after_turn stands of_files trace s world left rest done outs losses next stood whole (notifies still is t)
    are =
    by_notice trace world outs losses next t are.sessions
after_turn stands of_files trace s world left rest done outs losses next stood whole
    (departs p client is closes gone lost) are =
    shut trace world p why.Memory outs next client (ap (λ (o : Outs). o.closing) closes) gone are.sessions

-- where a client too many joins last, it is what is left of the clients
said_ends : (met : List LineEvent) (said front : List Event) (q : ℕ)
    → map orders met ++ said ≡ front ++ joins q ∷ [] → (ys : List Event) × (said ≡ ys ++ joins q ∷ [])
said_ends [] said front q is = (front, is)
said_ends (m ∷ ms) said [] q is = absurd cc
said_ends (m ∷ ms) said (x ∷ xs) q is =
    let more : map orders ms ++ said ≡ xs ++ joins q ∷ [] = cc in
    said_ends ms said xs q more

one_last : (p q : ℕ) (ys : List Event) → joins p ∷ [] ≡ ys ++ joins q ∷ [] → p ≡ q
one_last p q [] is = cc
one_last p q (y ∷ []) is = absurd cc
one_last p q (y ∷ z ∷ zs) is = absurd cc

says_last : (peer : ℕ) (met : List LineEvent) (ys : List Event) (q : ℕ)
    → map (says peer) met ≡ ys ++ joins q ∷ [] → ⊥
says_last peer [] [] q is = cc
says_last peer [] (y ∷ ys) q is = cc
says_last peer (m ∷ ms) [] q is = cc
says_last peer (m ∷ ms) (y ∷ ys) q is =
    let more : map (says peer) ms ≡ ys ++ joins q ∷ [] = cc in
    says_last peer ms ys q more

last_said : (peer : ℕ) (ys : List Event) (q : ℕ) → AllByRecursion (IsSaidBy peer) (ys ++ joins q ∷ []) → ⊥
last_said peer [] q are = are.0
last_said peer (y ∷ ys) q are = last_said peer ys q are.1

last_void : (sessions : List Session) (ys : List Event) (q : ℕ) → AllVoid sessions (ys ++ joins q ∷ []) → ⊥
last_void sessions [] q are = are.0.1
last_void sessions (y ∷ ys) q are = last_void sessions ys q are.1

last_heard : (c : ClientState) (heard : List ℕ) (said ys : List Event) (q : ℕ) → HearsLeft c heard said
    → said ≡ ys ++ joins q ∷ [] → ⊥
last_heard c heard said ys q (in_order given kept at' few is) whole = says_last c.peer _ ys q (sym is ∙ whole)
last_heard c heard said ys q (losing lost are) whole = last_said c.peer ys q (rw whole at are)

-- a client too many waits, and that it joins is all that is left of the clients
record Waits (surplus : Option ℕ) (said : List Event) (q : ℕ) : Type 0 where
  too_many : surplus ≡ Some q
  is : said ≡ joins q ∷ []

waits_last : (clients : List ClientState) (speaker surplus : Option ℕ) (sessions : List Session)
    (said ys : List Event) (q : ℕ) → SessionsAre clients speaker surplus sessions said
    → said ≡ ys ++ joins q ∷ [] → Waits surplus said q
waits_last clients None None sessions said ys q are whole =
    absurd (last_void sessions ys q (rw whole at are.leaves_left))
waits_last clients None (Some p) sessions said ys q are whole =
    let is = are.leaves_left.0 in
    let same = one_last p q ys (sym is ∙ whole) in
    record { too_many = ap Some same; is = rw (← same) is }
waits_last clients (Some p) None sessions said ys q are whole =
    let s = speaking clients sessions p said are.each are.leaves_left in
    absurd (last_heard s.0 s.1 said ys q s.2 whole)
waits_last clients (Some p) (Some r) sessions said ys q are whole = absurd are.leaves_left

waits_now : (clients : List ClientState) (speaker surplus : Option ℕ) (sessions : List Session)
    (said : List Event) (q : ℕ) → SessionsAre clients speaker surplus sessions said
    → surplus ≡ Some q → Waits surplus said q
waits_now clients None None sessions said q are is = absurd cc
waits_now clients None (Some p) sessions said q are is =
    let same : p ≡ q = cc in
    record { too_many = is; is = rw (← same) are.leaves_left.0 }
waits_now clients (Some p) None sessions said q are is = absurd cc
waits_now clients (Some p) (Some r) sessions said q are is = absurd are.leaves_left

no_more_after : (q : ℕ) (ys : List Event) → [] ≡ ys ++ joins q ∷ [] → ⊥
no_more_after q [] is = cc
no_more_after q (y ∷ ys) is = cc

-- the turn was one of the node
by_node : {A : Type 0} (of_files : archive.Ghosts A) (world : World) (met : List LineEvent) (event : Event)
    (rest ys : List Event)
    (q : ℕ) (outs : Outs) (losses : List Deed) (next : World) → map orders met ++ joins q ∷ [] ≡ event ∷
    rest
    → rest ≡ ys ++ joins q ∷ [] → Takes of_files world event outs losses next → Quietly world outs next
by_node of_files world [] event rest ys q outs losses next split more t =
    absurd (let e : [] ≡ ys ++ joins q ∷ [] = cc in no_more_after q ys e)
by_node of_files world (m ∷ ms) event rest ys q outs losses next split more t =
    let is : event ≡ orders m = cc in
    by_line_of_node _ world outs losses next (rw is at t)

-- What becomes of a client too many that waits after a turn: it waited before, and is neither closed nor
-- connected.
pub record StillWaits (surplus : Option ℕ) (world : World) (outs : Outs) (next : World) (q : ℕ) : Type 0 where
  pub waited : surplus ≡ Some q
  pub stays : is_client q world ≡ false → (is_client q next ≡ false) × IsNotClosed q outs.closing

stays_by : (world : World) (outs : Outs) (next : World) (q : ℕ) → Quietly world outs next
    → is_client q world ≡ false → (is_client q next ≡ false) × IsNotClosed q outs.closing
stays_by world outs next q quiet missing =
    (same_peer q next.sessions world.sessions quiet.same ∙ missing, rw quiet.none tt)

-- another client is closed
stays_apart : (world : World) (outs : Outs) (next : World) (p q : ℕ) (reason : Why) → is_client p world ≡ true
    → outs.closing ≡ Some (record { peer = p; why = reason }) → next ≡ without_client p world
    → is_client q world ≡ false → (is_client q next ≡ false) × IsNotClosed q outs.closing
stays_apart world outs next p q reason client closing gone missing = elim (either (q == p)) [
  | inl h ↦ absurd (let e = eqb-true q p h in let f = rw e at missing in cc)
  | inr h ↦ (rw gone (stranger_left world.sessions q p missing), rw closing h)
]

-- another client is told
stays_told : (world : World) (outs : Outs) (losses : List Deed) (next : World) (q : ℕ)
    → Notifies world outs losses next → is_client q world ≡ false
    → (is_client q next ≡ false) × IsNotClosed q outs.closing
stays_told world outs losses next q (is_told session is outs_is next_is lossless) =
    stays_by world outs next q (by_telling world session outs next outs_is next_is)
stays_told world outs losses next q (fails session is outs_is next_is lost) =
    stays_apart world outs next session.peer q why.Disk (who_is_client world.sessions _ session is)
    (ap (λ (o : Outs). o.closing) outs_is) next_is
stays_told world outs losses next q (unsure un session texts now is all' stays outs_is next_is lossless) =
    stays_by world outs next q (by_texts world session (record session { client = now; waits = false }) texts outs next outs_is refl next_is)

-- Where a client too many waits after a turn, it waited before, and stays as it was.
pub still_waiting : {G A : Type 0} (stands : G → Chain → Type 0) (of_files : archive.Ghosts A)
    (s turned : State G)
    (world : World) (left rest done : List Event) (outs : Outs) (losses : List Deed)
    (next : World) (q : ℕ) → Stands stands s world left → left ≡ done ++ rest
    → OneTurn of_files world done outs losses next → Stands stands turned next rest → turned.surplus ≡ Some q
    → StillWaits s.surplus world outs next q
still_waiting stands of_files s turned world left rest done outs losses next q stood whole turn later is =
    let now = waits_now turned.clients turned.speaker turned.surplus next.sessions later.said q
    later.sessions is in
    let more : rest ≡ later.ordered ++ joins q ∷ [] =
    later.left_is ∙ ap (λ (l : List Event). later.ordered ++ l) now.is in
    let front : left ≡ (done ++ later.ordered) ++ joins q ∷ [] =
    whole ∙ ap (λ (l : List Event). done ++ l) more
    ∙ sym (append_assoc done later.ordered (joins q ∷ [])) in
    let split = ap (λ (l : List Event). l ++ stood.said) (sym stood.node.left_is) ∙ sym stood.left_is
    ∙ front in
    let said = said_ends _ stood.said (done ++ later.ordered) q split in
    let then' = waits_last s.clients s.speaker s.surplus world.sessions stood.said said.0 q stood.sessions
    said.1 in
    record {
      waited = then'.too_many;
      stays = elim turn [
        | takes event still all_told one t ↦
            let both = ap (λ (l : List Event). l ++ joins q ∷ []) (sym stood.node.left_is)
            ∙ ap (λ (l : List Event). stood.ordered ++ l) (sym then'.is) ∙ sym stood.left_is
            ∙ whole ∙ ap (λ (l : List Event). l ++ rest) one in
            stays_by world outs next q
            (by_node of_files world _ event rest later.ordered q outs losses next both more t)
        | works busy none t ↦ stays_by world outs next q (by_lead _ world outs losses next t)
        | notifies still none t ↦ stays_told world outs losses next q t
        | departs p client none closes gone lost ↦ stays_apart world outs next p q why.Memory client
            (ap (λ (o : Outs). o.closing) closes) gone
      ];
    }

-- The messages of a turn go to one peer.
all_to : (p : ℕ) (texts : List (List ℕ))
    → AllByRecursion (λ (m : Message). m.peer ≡ p) (map (λ (t : List ℕ). record { peer = p; text = t }) texts)
all_to p [] = tt
all_to p (t ∷ ts) = (refl, all_to p ts)

abbrev pub ToOne : Outs → Type 0
ToOne outs = (p : ℕ) × AllByRecursion (λ (m : Message). m.peer ≡ p) outs.messages

lead_to_one : (leads : NodeAnswer → List Deed → Side → Type 0) (world : World) (outs : Outs)
    (losses : List Deed) (next : World) → IsLed leads world outs losses next → ToOne outs
lead_to_one leads world outs losses next l = (0, rw l.outs_is (refl, tt))

event_to_one : {A : Type 0} (of_files : archive.Ghosts A) (world : World) (event : Event) (outs : Outs)
    (losses : List Deed) (next : World) → Takes of_files world event outs losses next → ToOne outs
event_to_one of_files world (joins p) outs losses next t =
    elim (either (nat_lt (length world.sessions) client_limit)) [
      | inl h ↦ let e = rw h at t in (0, rw e.0 tt)
      | inr h ↦ let e = rw h at t in (0, rw e.0 tt)
    ]
event_to_one of_files world (leaves p) outs losses next t = (0, rw t.0 tt)
event_to_one of_files world (says p (line bytes)) outs losses next t =
    line_to_one of_files.tells world p bytes (find (is_peer p) world.sessions) outs losses next t
  where
    line_to_one : (tells : Type 0) (world : World) (p : ℕ) (bytes : List ℕ) (found : Option Session)
        (outs : Outs) (losses : List Deed) (next : World) → Replied tells world p bytes found outs losses next
        → ToOne outs
    line_to_one tells world p bytes None outs losses next t = (0, rw t.0 tt)
    line_to_one tells world p bytes (Some session) outs losses next
        (replied reply kept desk comes outs_is next_is) = (p, rw outs_is (all_to p (option_to_list reply.text)))
    line_to_one tells world p bytes (Some session) outs losses next
        (starved e kept desk comes outs_is next_is) = (p, rw outs_is tt)
event_to_one of_files world (says p too_long) outs losses next t = elim (either (is_client p world)) [
  | inl h ↦ let e = rw h at t in (0, rw e.0 tt)
  | inr h ↦ let e = rw h at t in (0, rw e.0 tt)
]
event_to_one of_files world (orders met) outs losses next t = lead_to_one _ (begun world) outs losses next t

notice_to_one : (world : World) (outs : Outs) (losses : List Deed) (next : World)
    → Notifies world outs losses next → ToOne outs
notice_to_one world outs losses next (is_told session is outs_is next_is lossless) =
    let told = notices (status world.side.chain world.side.kept) world.before world.side.chain session.client in
    (session.peer, rw outs_is (all_to session.peer told))
notice_to_one world outs losses next (fails session is outs_is next_is lost) = (0, rw outs_is tt)
notice_to_one world outs losses next (unsure un session texts now is all' stays outs_is next_is lossless) =
    (session.peer, rw outs_is (all_to session.peer texts))

pub turn_to_one : {A : Type 0} (of_files : archive.Ghosts A) (world : World) (done : List Event)
    (outs : Outs) (losses : List Deed) (next : World) → OneTurn of_files world done outs losses next → ToOne outs
turn_to_one of_files world done outs losses next (takes event still all_told is t) =
    event_to_one of_files world event outs losses next t
turn_to_one of_files world done outs losses next (works busy is t) = lead_to_one _ world outs losses next t
turn_to_one of_files world done outs losses next (notifies still is t) =
    notice_to_one world outs losses next t
turn_to_one of_files world done outs losses next (departs p client is closes gone lost) = (0, rw closes tt)

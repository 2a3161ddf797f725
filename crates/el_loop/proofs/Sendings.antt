-- The messages of a turn.
use Rattle.std.proofs.Common.{◌≡◌, ◌≢◌, ◌⊎◌, inl, inr, ℕ, ◌+◌, ◌==◌, true, false, List, [], ◌∷◌, ◌++◌, length, Some, None, refl, ap, sym, ◌∙◌, append-nil, append_assoc, IsTrue, eqb-true, eq-eqb, Option, take, drop, get_or, ◌<◌}
use Rattle.std.specs.Prelude.{MatchBool}
use Rattle.std.specs.Option.{option_to_list}
use Rattle.std.specs.List.{AllByRecursion}
use Rattle.std.proofs.lemmas.List.{take_more, drop_more, map-append, take-append-drop}
use Rattle.el_outside.specs.Counts.{RoseBy}
use Rattle.el_outside.specs.Trace.{Trace, Message, Closing, GoesOn, is_open}
use Rattle.el_outside.specs.declared.link.Why.{Why}
use Rattle.el_outside.specs.declared.link.SendFault.{SendFault}
use Rattle.el_outside.specs.declared.link.SendFault.TheVariants as fault
use Rattle.el_side.proofs.Deeds.{failures_on}
use Rattle.el_outside.proofs.Traces.{goes_none, goes_more, rose_more, rose_none}
use Rattle.el_chain.specs.Chains.{Chain}
use Rattle.el_world.specs.World.{World, Event, is_client, without_client}
use Rattle.el_side.specs.Deeds as deed
use Rattle.el_side.specs.Deeds.{Deed, link, failures}
use Rattle.el_world.specs.Run.{lost_by, IsDeparture, Delivers, all, sends, loses as lets_go, to_others, unless_of, IsClosingOf, Stop}
use Rattle.el_lines.proofs.Cuts.{either}
use Rattle.el_core.specs.State.{State, Stands}
use Rattle.el_core.specs.Turn.{GoesTo, messages_of}
use Rattle.el_loop.specs.declared.halt.Halt.{Halt}
use Rattle.el_loop.specs.within.Sending.{halt_stop, LossOf, Forgets, Sent, sent, loses, Unsent, AllOpen, OpenToClose, CanClose, Delivering, whole, broken, SentAll, StoppedSending, closing_left, first_some}
use Rattle.el_outside.proofs.Traces.{sent_stays_open}
use Rattle.el_loop.proofs.Openness.{closed_open, all_sent, all_others, client_open}

-- a message to the node that was not sent
pub unsent_node : {G : Type 0} (tells : Type 0) (p : ℕ) (f : SendFault) (reason : Why) (h : Halt)
    (s : State G) (before after : Trace) (low high : ℕ)
    → p ≡ 0 → LossOf f reason h → (f ≡ fault.Gone → RoseBy low high 1) → (f ≡ fault.Memory → high ≡ low)
    → (tells → after ≡ before)
    → Unsent tells p (halt_stop h) s before low s after high
unsent_node tells p fault.Gone reason h s before after low high node lost gone memory same =
    rw lost.1 (record {
      node = node;
      losses = deed.lost link ∷ [];
      lost = refl;
      rose = gone refl;
      same = refl;
      trace = same;
    })
unsent_node tells p fault.Memory reason h s before after low high node lost gone memory same =
    rw lost.1 (record {
      node = node;
      losses = [];
      lost = refl;
      rose = rw (memory refl) (rose_none low);
      same = refl;
      trace = same;
    })

-- why it is closed is a departure, which was counted
lost_so : (f : SendFault) (reason : Why) (h : Halt) (low high : ℕ) → LossOf f reason h
    → (f ≡ fault.Gone → RoseBy low high 1) → (f ≡ fault.Memory → high ≡ low)
    → IsDeparture reason × RoseBy low high (failures link (lost_by reason))
lost_so fault.Gone reason h low high lost gone memory = (inl lost.0, rw lost.0 (gone refl))
lost_so fault.Memory reason h low high lost gone memory =
    (inr lost.0, rw lost.0 (rw (memory refl) (rose_none low)))

-- one to a client that was not sent
pub lost_client : {G : Type 0} (stands : G → Chain → Type 0) (tells : Type 0) (m : Message) (f : SendFault)
    (reason : Why) (h : Halt) (s next : State G) (before mid after : Trace)
    (low middle high : ℕ) → m.peer ≢ 0 → LossOf f reason h → (f ≡ fault.Gone → RoseBy low middle 1)
    → (f ≡ fault.Memory → middle ≡ low) → high ≡ middle
    → Forgets stands s m.peer next → (tells → mid ≡ before)
    → (tells → MatchBool (is_open mid m.peer)
    (GoesOn mid after [] [] (record { peer = m.peer; why = reason } ∷ [])) (after ≡ mid))
    → Sent stands tells m (Some m.peer) s before low next after high
lost_client stands tells m f reason h s next before mid after low middle high client lost gone memory still
    forgets same closing =
    let so = lost_so f reason h low middle lost gone memory in
    loses reason refl client so.0 forgets (rw still so.1) (λ t open'.
    let e = same t in
    let c = rw e at (closing t) in
    closed_open before after m.peer reason open' c)

-- all of some messages are delivered
all_delivered : (w : World) (ms : List Message) (c : Option Closing)
    → Delivers w ms c ms (option_to_list c) [] w
all_delivered w [] c = all w c
all_delivered w (m ∷ ms) c = sends w m ms c ms (option_to_list c) [] w (all_delivered w ms c)

-- some, then one is lost
then_lost : (w : World) (front : List Message) (m : Message) (more : List Message) (c : Option Closing)
    (reason : Why) → (is_client m.peer w ≡ true) ⊎ IsClosingOf c m.peer → IsDeparture reason
    → Delivers w (front ++ m ∷ more) c (front ++ to_others m.peer more)
    (record { peer = m.peer; why = reason } ∷ option_to_list (unless_of m.peer c)) (lost_by reason ++ [])
    (without_client m.peer w)
then_lost w [] m more c reason client departure =
    lets_go w m more c reason (to_others m.peer more) (option_to_list (unless_of m.peer c)) []
    (without_client m.peer w) client departure
    (all_delivered (without_client m.peer w) (to_others m.peer more) (unless_of m.peer c))
then_lost w (x ∷ xs) m more c reason client departure =
    sends w x (xs ++ m ∷ more) c (xs ++ to_others m.peer more) _ _ _
    (then_lost w xs m more c reason client departure)

-- what was sent, with the closing
pub delivers : (w : World) (ms sent' : List Message) (cs : List Closing) (ls : List Deed) (next : World)
    (lost : Option ℕ) (c : Option Closing) → Delivering w ms c sent' cs ls next lost
    → Delivers w ms c sent' (cs ++ option_to_list (closing_left lost c)) ls next
delivers w ms sent' cs ls next None c (whole is none lossless same) =
    rw (is, none, lossless, same) (all_delivered w ms c)
delivers w ms sent' cs ls next (Some p) c
    (broken front m more reason is client departure are closed' lost' gone) =
    rw (is, are, closed', lost', gone) (rw append-nil at (then_lost w front m more c reason client departure))

-- the one to close is open
is_open_to_close : (w : World) (trace : Trace) (c : Option Closing) → CanClose w trace c → OpenToClose trace c
is_open_to_close w trace None can = tt
is_open_to_close w trace (Some c) can = can.0

stays_to_close : (s t : Trace) (ms : List Message) (c : Option Closing) → GoesOn s t [] ms []
    → OpenToClose s c → OpenToClose t c
stays_to_close s t ms None goes open' = tt
stays_to_close s t ms (Some c) goes open' = sent_stays_open s t c.peer ms open' goes

open_by_closing : (trace : Trace) (c : Option Closing) (p : ℕ) → IsClosingOf c p → OpenToClose trace c
    → IsTrue (is_open trace p)
open_by_closing trace None p is open' = absurd is
open_by_closing trace (Some c) p is open' = rw is at open'

-- to whom a message goes is open
goes_open : (trace : Trace) (w : World) (c : Option Closing) (p : ℕ)
    → (is_client p w ≡ true) ⊎ IsClosingOf c p → AllOpen trace w.sessions → OpenToClose trace c
    → IsTrue (is_open trace p)
goes_open trace w c p (inl client) are open' = client_open trace w.sessions p client are
goes_open trace w c p (inr is) are open' = open_by_closing trace c p is open'

-- before the first message
pub sent_none : {G : Type 0} (stands : G → Chain → Type 0) (tells : Type 0) (w : World) (rest : List Event)
    (c : Option Closing) (s : State G) (trace : Trace) (low : ℕ)
    → Stands stands s w rest → (tells → AllOpen trace w.sessions) → (tells → CanClose w trace c)
    → SentAll stands tells w rest c [] None s trace low s trace low
sent_none stands tells w rest c s trace low stood are can = record {
  sent = [];
  closings = [];
  losses = [];
  next = w;
  delivers = whole refl refl refl refl;
  to_close = λ none t. is_open_to_close w trace c (can t);
  stood = stood;
  ledger = refl;
  surplus = refl;
  trace = λ t. goes_none trace;
  are_open = are;
  rose = rose_none low;
}

same_not : (p : ℕ) → (p == p) ≡ false → ⊥
same_not p e = absurd (let f = eq-eqb p p refl in cc)

others_but : (p : ℕ) (xs : List Message) (m : Message) → m.peer ≡ p
    → to_others p (xs ++ m ∷ []) ≡ to_others p xs
others_but p [] m is = elim (either (m.peer == p)) [
  | inl h ↦ rw h refl
  | inr h ↦ absurd (let e = rw is at h in same_not p e)
]
others_but p (x ∷ xs) m is = elim (either (x.peer == p)) [
  | inl h ↦ rw h (others_but p xs m is)
  | inr h ↦ rw h (ap (λ (l : List Message). x ∷ l) (others_but p xs m is))
]

others_and : (p : ℕ) (xs : List Message) (m : Message) → m.peer ≢ p
    → to_others p (xs ++ m ∷ []) ≡ to_others p xs ++ m ∷ []
others_and p [] m not_p = elim (either (m.peer == p)) [
  | inl h ↦ absurd (not_p (eqb-true m.peer p h))
  | inr h ↦ rw h refl
]
others_and p (x ∷ xs) m not_p = elim (either (x.peer == p)) [
  | inl h ↦ rw h (others_and p xs m not_p)
  | inr h ↦ rw h (ap (λ (l : List Message). x ∷ l) (others_and p xs m not_p))
]

step_skip : (w : World) (c : Option Closing) (ms sent' : List Message) (cs : List Closing) (ls : List Deed)
    (next : World) (m : Message) (p : ℕ) → m.peer ≡ p
    → Delivering w ms c sent' cs ls next (Some p) → Delivering w (ms ++ m ∷ []) c sent' cs ls next (Some p)
step_skip w c ms sent' cs ls next m p is
    (broken front x more reason split client departure are closed' lost' gone) =
    broken front x (more ++ m ∷ []) reason (rw split (append_assoc front (x ∷ more) (m ∷ []))) client
    departure
    (are ∙ ap (λ (l : List Message). front ++ l) (sym (others_but x.peer more m is))) closed' lost' gone

step_sent : (w : World) (c : Option Closing) (ms sent' : List Message) (cs : List Closing) (ls : List Deed)
    (next : World) (m : Message) (lost : Option ℕ) → lost ≢ Some m.peer
    → Delivering w ms c sent' cs ls next lost
    → Delivering w (ms ++ m ∷ []) c (sent' ++ m ∷ []) cs ls next lost
step_sent w c ms sent' cs ls next m None differs (whole is none lossless same) =
    whole (rw is refl) none lossless same
step_sent w c ms sent' cs ls next m (Some p) differs
    (broken front x more reason split client departure are closed' lost' gone) =
    broken front x (more ++ m ∷ []) reason (rw split (append_assoc front (x ∷ more) (m ∷ []))) client
    departure
    (rw are (append_assoc front (to_others x.peer more) (m ∷ [])
    ∙ ap (λ (l : List Message). front ++ l)
    (sym (others_and x.peer more m (λ e. differs (ap Some (sym e))))))) closed' lost' gone

step_lost : (w : World) (c : Option Closing) (ms sent' : List Message) (cs : List Closing) (ls : List Deed)
    (next : World) (m : Message) (reason : Why) → (is_client m.peer w ≡ true) ⊎ IsClosingOf c m.peer
    → IsDeparture reason → Delivering w ms c sent' cs ls next None
    → Delivering w (ms ++ m ∷ []) c sent' (cs ++ record { peer = m.peer; why = reason } ∷ [])
    (ls ++ lost_by reason) (without_client m.peer w) (Some m.peer)
step_lost w c ms sent' cs ls next m reason client departure (whole is none lossless same) =
    broken ms m [] reason refl client departure (is ∙ sym (append-nil ms)) (rw none refl)
    (rw lossless refl) refl

same_next : (w : World) (c : Option Closing) (ms sent' : List Message) (cs : List Closing) (ls : List Deed)
    (next : World) → Delivering w ms c sent' cs ls next None → next ≡ w
same_next w c ms sent' cs ls next (whole is none lossless same) = same

-- one more message, to a client that is lost
pub sent_skip : {G : Type 0} (stands : G → Chain → Type 0) (tells : Type 0) (w : World) (rest : List Event)
    (c : Option Closing) (ms : List Message) (m : Message) (lost : Option ℕ) (s now : State G)
    (before after : Trace) (low high : ℕ) → lost ≡ Some m.peer
    → SentAll stands tells w rest c ms lost s before low now after high
    → SentAll stands tells w rest c (ms ++ m ∷ []) lost s before low now after high
sent_skip stands tells w rest c ms m lost s now before after low high is far = record {
  sent = far.sent;
  closings = far.closings;
  losses = far.losses;
  next = far.next;
  delivers = rw is (step_skip w c ms far.sent far.closings far.losses far.next m m.peer refl
      (rw is at far.delivers));
  to_close = far.to_close;
  stood = far.stood;
  ledger = far.ledger;
  surplus = far.surplus;
  trace = far.trace;
  are_open = far.are_open;
  rose = far.rose;
}

-- one more, which was sent
sent_go : {G : Type 0} (stands : G → Chain → Type 0) (tells : Type 0) (w : World) (rest : List Event)
    (c : Option Closing) (ms : List Message) (m : Message) (lost : Option ℕ) (s now later : State G)
    (before mid after : Trace) (low middle high : ℕ) → lost ≢ Some m.peer → later ≡ now → high ≡ middle
    → (tells → GoesOn mid after [] (m ∷ []) [])
    → SentAll stands tells w rest c ms lost s before low now mid middle
    → SentAll stands tells w rest c (ms ++ m ∷ []) lost s before low later after high
sent_go stands tells w rest c ms m lost s now later before mid after low middle high differs same still goes
    far = record {
      sent = far.sent ++ m ∷ [];
      closings = far.closings;
      losses = far.losses;
      next = far.next;
      delivers = step_sent w c ms far.sent far.closings far.losses far.next m lost differs far.delivers;
      to_close = λ none t. stays_to_close mid after (m ∷ []) c (goes t) (far.to_close none t);
      stood = rw same far.stood;
      ledger = rw same far.ledger;
      surplus = rw same far.surplus;
      trace = λ t.
          let both = goes_more before mid after [] [] far.sent (m ∷ []) far.closings []
          (far.trace t) (goes t) in
          rw (append-nil far.closings) at both;
      are_open = λ t. all_sent mid after far.next.sessions (m ∷ []) (goes t) (far.are_open t);
      rose = rw still far.rose;
    }

-- one more, whose client is lost
sent_lost : {G : Type 0} (stands : G → Chain → Type 0) (tells : Type 0) (w : World) (rest : List Event)
    (c : Option Closing) (ms : List Message) (m : Message) (reason : Why) (s now later : State G)
    (before mid after : Trace) (low middle high : ℕ) → (is_client m.peer w ≡ true) ⊎ IsClosingOf c m.peer
    → s.surplus ≡ None
    → IsDeparture reason → Forgets stands now m.peer later
    → RoseBy middle high (failures link (lost_by reason))
    → (tells → IsTrue (is_open mid m.peer)
    → GoesOn mid after [] [] (record { peer = m.peer; why = reason } ∷ []))
    → SentAll stands tells w rest c ms None s before low now mid middle
    → SentAll stands tells w rest c (ms ++ m ∷ []) (Some m.peer) s before low later after high
sent_lost stands tells w rest c ms m reason s now later before mid after low middle high client alone
    departure forgets rose closing far =
    let same = same_next w c ms far.sent far.closings far.losses far.next far.delivers in
    record {
      sent = far.sent;
      closings = far.closings ++ record { peer = m.peer; why = reason } ∷ [];
      losses = far.losses ++ lost_by reason;
      next = without_client m.peer w;
      delivers = step_lost w c ms far.sent far.closings far.losses far.next m reason client departure
          far.delivers;
      to_close = λ none t. absurd (let e = none in cc);
      stood = forgets.stood (far.surplus ∙ alone) w rest (rw same at far.stood);
      ledger = forgets.ledger ∙ far.ledger;
      surplus = forgets.surplus ∙ far.surplus;
      trace = λ t.
          let are = rw same at (far.are_open t) in
          let goes = closing t (goes_open mid w c m.peer client are (far.to_close refl t)) in
          let both = goes_more before mid after [] [] far.sent [] far.closings
          (record { peer = m.peer; why = reason } ∷ []) (far.trace t) goes in
          rw (append-nil far.sent) at both;
      are_open = λ t.
          let are = rw same at (far.are_open t) in
          let goes = closing t (goes_open mid w c m.peer client are (far.to_close refl t)) in
          all_others mid after w.sessions m.peer reason goes are;
      rose = rw (failures_on link far.losses (lost_by reason)) (rose_more low middle high
          (failures link far.losses)
          (failures link (lost_by reason)) far.rose rose);
    }

all_mid : (P : Message → Type 0) (xs ys : List Message) (m : Message) → AllByRecursion P (xs ++ m ∷ ys) → P m
all_mid P [] ys m h = h.0
all_mid P (x ∷ xs) ys m h = all_mid P xs ys m h.1

all_front : (P : Message → Type 0) (xs ys : List Message) → AllByRecursion P (xs ++ ys) → AllByRecursion P xs
all_front P [] ys h = tt
all_front P (x ∷ xs) ys h = (h.0, all_front P xs ys h.1)

-- the client that is lost is the one to which all messages go
lost_is_one : (w : World) (c : Option Closing) (ms sent' : List Message) (cs : List Closing)
    (ls : List Deed) (next : World) (q p : ℕ) → Delivering w ms c sent' cs ls next (Some q)
    → AllByRecursion (λ (m : Message). m.peer ≡ p) ms → q ≡ p
lost_is_one w c ms sent' cs ls next q p
    (broken front x more reason split client departure are closed' lost' gone) to_one =
    all_mid (λ (m : Message). m.peer ≡ p) front more x (rw split at to_one)

to_client : (next : World) (surplus : Option ℕ) (c : Option Closing) (m : Message) → m.peer ≢ 0
    → GoesTo next surplus c m → ((is_client m.peer next ≡ true) ⊎ IsClosingOf c m.peer) × (surplus ≡ None)
to_client next surplus c m client (inl node) = absurd (client node)
to_client next surplus c m client (inr is) = is

-- one more, to which this happened
pub sent_more : {G : Type 0} (stands : G → Chain → Type 0) (tells : Type 0) (w : World) (rest : List Event)
    (c : Option Closing) (ms : List Message) (m : Message) (lost out : Option ℕ)
    (s now later : State G) (before mid after : Trace) (low middle high : ℕ) (p : ℕ)
    → AllByRecursion (λ (x : Message). x.peer ≡ p) ms → m.peer ≡ p → GoesTo w s.surplus c m
    → lost ≢ Some m.peer
    → Sent stands tells m out now mid middle later after high
    → SentAll stands tells w rest c ms lost s before low now mid middle
    → SentAll stands tells w rest c (ms ++ m ∷ []) (first_some out lost) s before low later after high
sent_more stands tells w rest c ms m lost out s now later before mid after low middle high p to_one here
    goes_to differs (sent is same still goes) far =
    rw is (sent_go stands tells w rest c ms m lost s now later before mid after low middle high differs same
    still goes far)
sent_more stands tells w rest c ms m None out s now later before mid after low middle high p to_one here
    goes_to differs (loses reason is client departure forgets rose closing) far =
    let to = to_client w s.surplus c m client goes_to in
    rw is (sent_lost stands tells w rest c ms m reason s now later before mid after low middle high to.0 to.1
    departure forgets rose closing far)
sent_more stands tells w rest c ms m (Some q) out s now later before mid after low middle high p to_one here
    goes_to differs (loses reason is client departure forgets rose closing) far =
    let first = lost_is_one w c ms far.sent far.closings far.losses far.next q p far.delivers to_one in
    absurd (differs (ap Some (first ∙ sym here)))

-- the messages before one that was not sent, all of which were
front_delivers : (w : World) (c : Option Closing) (ms sent' : List Message) (cs : List Closing)
    (ls : List Deed) (next : World) (lost : Option ℕ) (p : ℕ)
    → AllByRecursion (λ (x : Message). x.peer ≡ p) ms → lost ≢ Some p
    → Delivering w ms c sent' cs ls next lost → Delivers w ms None sent' cs ls next
front_delivers w c ms sent' cs ls next None p to_one differs (whole is none lossless same) =
    rw (is, none, lossless, same) (all_delivered w ms None)
front_delivers w c ms sent' cs ls next (Some q) p to_one differs d =
    absurd (differs (ap Some (lost_is_one w c ms sent' cs ls next q p d to_one)))

pub stopped_at : {G : Type 0} (stands : G → Chain → Type 0) (tells : Type 0) (w : World) (rest : List Event)
    (c : Option Closing) (all' front more : List Message) (m : Message) (lost : Option ℕ) (p : ℕ)
    (stop : Stop) (s now later : State G) (before mid after : Trace) (low middle high : ℕ)
    → all' ≡ front ++ m ∷ more → m.peer ≡ p → AllByRecursion (λ (x : Message). x.peer ≡ p) front
    → lost ≢ Some p
    → Unsent tells p stop now mid middle later after high
    → SentAll stands tells w rest c front lost s before low now mid middle
    → StoppedSending tells w all' stop s before low later after high
stopped_at {G} stands tells w rest c all' front more m lost p stop s now later before mid after low middle
    high split is to_one differs un far = record {
      front = front;
      m = m;
      more = more;
      whole = split;
      node = is ∙ un.node;
      sent = far.sent;
      closings = far.closings;
      losses = far.losses;
      last = un.losses;
      next = far.next;
      delivers = front_delivers w c front far.sent far.closings far.losses far.next lost p to_one differs
          far.delivers;
      lost = un.lost;
      ledger = ap (λ (x : State G). x.ledger) un.same ∙ far.ledger;
      trace = λ t. rw (un.trace t) (far.trace t);
      rose = rw (failures_on link far.losses un.losses) (rose_more low middle high (failures link far.losses)
          (failures link un.losses) far.rose un.rose);
    }

abbrev pub message_of : ℕ × List ℕ → Message
message_of x = record { peer = x.0; text = x.1 }

-- one message of some
pub more_messages : (xs : List (ℕ × List ℕ)) (i : ℕ) (r : ℕ × List ℕ) → i < length xs → r ≡ get_or xs i r
    → messages_of (take (i + 1) xs) ≡ messages_of (take i xs) ++ message_of r ∷ []
more_messages xs i r lt is =
    ap messages_of (take_more xs i r lt) ∙ map-append message_of (take i xs) (get_or xs i r ∷ [])
    ∙ ap (λ (x : ℕ × List ℕ). messages_of (take i xs) ++ message_of x ∷ []) (sym is)

pub here_messages : (xs : List (ℕ × List ℕ)) (i : ℕ) (r : ℕ × List ℕ) → i < length xs → r ≡ get_or xs i r
    → messages_of xs ≡ messages_of (take i xs) ++ message_of r ∷ messages_of (drop (i + 1) xs)
here_messages xs i r lt is =
    ap messages_of (sym (take-append-drop i xs)) ∙ map-append message_of (take i xs) (drop i xs)
    ∙ ap (λ (l : List (ℕ × List ℕ)). messages_of (take i xs) ++ messages_of l) (drop_more xs i r lt)
    ∙ ap (λ (x : ℕ × List ℕ). messages_of (take i xs) ++ message_of x ∷ messages_of (drop (i + 1) xs))
    (sym is)

pub message_goes : (P : Message → Type 0) (xs : List (ℕ × List ℕ)) (i : ℕ) (r : ℕ × List ℕ) → i < length xs
    → r ≡ get_or xs i r → AllByRecursion P (messages_of xs) → P (message_of r)
message_goes P xs i r lt is h = all_mid P (messages_of (take i xs)) (messages_of (drop (i + 1) xs))
    (message_of r) (rw (here_messages xs i r lt is) at h)

pub front_goes : (P : Message → Type 0) (xs : List (ℕ × List ℕ)) (i : ℕ) (r : ℕ × List ℕ) → i < length xs
    → r ≡ get_or xs i r → AllByRecursion P (messages_of xs) → AllByRecursion P (messages_of (take i xs))
front_goes P xs i r lt is h =
    all_front P (messages_of (take i xs)) (message_of r ∷ messages_of (drop (i + 1) xs))
    (rw (here_messages xs i r lt is) at h)

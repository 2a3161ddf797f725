-- Which peers are open.
use Rattle.std.proofs.Common.{◌≡◌, inl, inr, ℕ, ◌==◌, Bool, true, false, not, List, [], ◌∷◌, map, Some, refl, IsTrue, eq-eqb, eqb-true}
use Rattle.std.specs.Prelude.{MatchBool, find, if◌then◌else◌}
use Rattle.std.specs.List.{filter, list_any}
use Rattle.el_outside.specs.Trace.{Trace, Message, GoesOn, is_open}
use Rattle.el_outside.specs.declared.link.Why.{Why}
use Rattle.el_outside.proofs.Traces.{sent_stays_open, other_stays_open}
use Rattle.el_world.specs.World.{Session, is_peer}
use Rattle.el_lines.proofs.Cuts.{either}
use Rattle.el_loop.specs.within.Sending.{AllOpen}

-- an open peer is closed
pub closed_open : (s t : Trace) (p : ℕ) (reason : Why) → IsTrue (is_open s p)
    → MatchBool (is_open s p) (GoesOn s t [] [] (record { peer = p; why = reason } ∷ [])) (t ≡ s)
    → GoesOn s t [] [] (record { peer = p; why = reason } ∷ [])
closed_open s t p reason open' h = rw open' at h

abbrev pub some_peer : ℕ → List Session → Bool
some_peer p sessions = list_any (is_peer p) sessions

-- the numbers of the clients
abbrev pub peers : List Session → List ℕ
peers sessions = map (λ (session : Session). session.peer) sessions

-- clients with the same numbers are as open
pub same_open : (t : Trace) (xs ys : List Session) → peers xs ≡ peers ys → AllOpen t xs → AllOpen t ys
same_open t [] [] same all = tt
same_open t [] (y ∷ ys) same all = absurd cc
same_open t (x ∷ xs) [] same all = absurd cc
same_open t (x ∷ xs) (y ∷ ys) same all =
    let here : x.peer ≡ y.peer = cc in
    let more : peers xs ≡ peers ys = cc in
    (rw (← here) all.0, same_open t xs ys more all.1)

pub same_peer : (p : ℕ) (xs ys : List Session) → peers xs ≡ peers ys → some_peer p xs ≡ some_peer p ys
same_peer p [] [] same = refl
same_peer p [] (y ∷ ys) same = absurd cc
same_peer p (x ∷ xs) [] same = absurd cc
same_peer p (x ∷ xs) (y ∷ ys) same =
    let here : x.peer ≡ y.peer = cc in
    let more : peers xs ≡ peers ys = cc in
    rw (here, same_peer p xs ys more) refl

-- a session changes, and its number doesn't
pub peers_with : (sessions : List Session) (p : ℕ) (now : Session) → now.peer ≡ p
    → peers (map (λ (session : Session). if is_peer p session then now else session) sessions) ≡ peers sessions
peers_with [] p now is = refl
peers_with (x ∷ xs) p now is = elim (either (x.peer == p)) [
  | inl h ↦ rw (h, peers_with xs p now is, is, eqb-true x.peer p h) refl
  | inr h ↦ rw (h, peers_with xs p now is) refl
]

-- all are to be told of a line of the node
pub peers_begun : (sessions : List Session)
    → peers (map (λ (session : Session). record session { waits = true }) sessions) ≡ peers sessions
peers_begun [] = refl
peers_begun (x ∷ xs) = rw (peers_begun xs) refl

abbrev pub but : ℕ → List Session → List Session
but p sessions = filter (λ (session : Session). not (is_peer p session)) sessions

-- a client of the world is open
pub client_open : (trace : Trace) (sessions : List Session) (p : ℕ) → some_peer p sessions ≡ true
    → AllOpen trace sessions → IsTrue (is_open trace p)
client_open trace [] p is all = absurd cc
client_open trace (s ∷ ss) p is all = elim (either (s.peer == p)) [
  | inl h ↦ rw (← eqb-true s.peer p h) all.0
  | inr h ↦ client_open trace ss p (rw h at is) all.1
]

-- all stay open while messages are sent
pub all_sent : (s t : Trace) (sessions : List Session) (ms : List Message) → GoesOn s t [] ms []
    → AllOpen s sessions → AllOpen t sessions
all_sent s t [] ms goes all = tt
all_sent s t (x ∷ xs) ms goes all = (sent_stays_open s t x.peer ms all.0 goes, all_sent s t xs ms goes all.1)

-- all others stay open while a client is closed
pub all_others : (s t : Trace) (sessions : List Session) (p : ℕ) (reason : Why)
    → GoesOn s t [] [] (record { peer = p; why = reason } ∷ []) → AllOpen s sessions
    → AllOpen t (but p sessions)
all_others s t [] p reason goes all = tt
all_others s t (x ∷ xs) p reason goes all = elim (either (x.peer == p)) [
  | inl h ↦ rw h (all_others s t xs p reason goes all.1)
  | inr h ↦ rw h (other_stays_open s t x.peer p reason all.0 h goes, all_others s t xs p reason goes all.1)
]

pub all_strangers : (s t : Trace) (sessions : List Session) (p : ℕ) (reason : Why)
    → GoesOn s t [] [] (record { peer = p; why = reason } ∷ []) → AllOpen s sessions
    → some_peer p sessions ≡ false → AllOpen t sessions
all_strangers s t [] p reason goes all unnamed = tt
all_strangers s t (x ∷ xs) p reason goes all unnamed = elim (either (x.peer == p)) [
  | inl h ↦ absurd (let e = rw h at unnamed in cc)
  | inr h ↦ (
    other_stays_open s t x.peer p reason all.0 h goes,
    all_strangers s t xs p reason goes all.1
        (rw h at unnamed),
  )
]

-- some of the clients
pub all_but : (s : Trace) (sessions : List Session) (p : ℕ) → AllOpen s sessions → AllOpen s (but p sessions)
all_but s [] p all = tt
all_but s (x ∷ xs) p all = elim (either (x.peer == p)) [
  | inl h ↦ rw h (all_but s xs p all.1)
  | inr h ↦ rw h (all.0, all_but s xs p all.1)
]

-- who is taken out is no client
pub not_among : (sessions : List Session) (p : ℕ) → some_peer p (but p sessions) ≡ false
not_among [] p = refl
not_among (x ∷ xs) p = elim (either (x.peer == p)) [
  | inl h ↦ rw h (not_among xs p)
  | inr h ↦ rw h (rw h (not_among xs p))
]

-- a client with its session as it was found
pub all_same : (s : Trace) (sessions : List Session) (p : ℕ) (now : Session) → IsTrue (is_open s now.peer)
    → AllOpen s sessions
    → AllOpen s (map (λ (session : Session). if is_peer p session then now else session) sessions)
all_same s [] p now open' all = tt
all_same s (x ∷ xs) p now open' all = elim (either (x.peer == p)) [
  | inl h ↦ rw h (open', all_same s xs p now open' all.1)
  | inr h ↦ rw h (all.0, all_same s xs p now open' all.1)
]

pub found_open : (s : Trace) (sessions : List Session) (p : ℕ) (x : Session)
    → find (is_peer p) sessions ≡ Some x → AllOpen s sessions → IsTrue (is_open s x.peer)
found_open s [] p x is all = absurd cc
found_open s (y ∷ ys) p x is all = elim (either (y.peer == p)) [
  | inl h ↦ let e : y ≡ x = (let f = rw h at is in cc) in rw (← e) all.0
  | inr h ↦ found_open s ys p x (rw h at is) all.1
]

-- who is found by anything is a client
pub who_is_client : (sessions : List Session) (which : Session → Bool) (x : Session)
    → find which sessions ≡ Some x → some_peer x.peer sessions ≡ true
who_is_client [] which x is = absurd cc
who_is_client (y ∷ ys) which x is = elim (either (which y)) [
  | inl h ↦ let e : y ≡ x = (let f = rw h at is in cc) in rw (e, eq-eqb x.peer x.peer refl) refl
  | inr h ↦ elim (either (y.peer == x.peer)) [
    | inl k ↦ rw k refl
    | inr k ↦ rw k (who_is_client ys which x (rw h at is))
  ]
]

pub found_client : (sessions : List Session) (p : ℕ) (x : Session) → find (is_peer p) sessions ≡ Some x
    → some_peer p sessions ≡ true
found_client [] p x is = absurd cc
found_client (y ∷ ys) p x is = elim (either (y.peer == p)) [
  | inl h ↦ rw h refl
  | inr h ↦ rw h (found_client ys p x (rw h at is))
]

-- who is no client is none of those that are left
pub stranger_left : (sessions : List Session) (p q : ℕ) → some_peer p sessions ≡ false
    → some_peer p (but q sessions) ≡ false
stranger_left [] p q missing = refl
stranger_left (x ∷ xs) p q missing = elim (either (x.peer == p)) [
  | inl h ↦ absurd (let e = rw h at missing in cc)
  | inr h ↦ elim (either (x.peer == q)) [
    | inl k ↦ rw k (stranger_left xs p q (rw h at missing))
    | inr k ↦ rw k (rw h (stranger_left xs p q (rw h at missing)))
  ]
]

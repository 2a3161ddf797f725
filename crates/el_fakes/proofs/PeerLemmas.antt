-- On the peers of a link in memory.
use Rattle.std.proofs.Common.{◌≡◌, ℕ, suc, ◌+◌, ◌<◌, ◌≤◌, ◌==◌, Bool, true, false, not, cond, ◌||◌, ◌&&◌, List, [], ◌∷◌, ◌++◌, length, map, max, refl, sym, ap, ◌∙◌, arith, inl, inr, length-append}
use Rattle.std.specs.List.{list_any}
use Rattle.std.proofs.lemmas.Bool.{cases_eq, cases_lt, eq-eqb, ne_eqb, eqb-true, and_parts}
use Rattle.std.proofs.Math.Bool.{or-false, and-false}
use Rattle.std.proofs.lemmas.List.Folds.{list_any-append}
use Rattle.el_outside.specs.declared.link.Arrival.{Arrival}
use Rattle.el_outside.specs.declared.link.Arrival.TheVariants as arrival
use Rattle.el_outside.specs.declared.link.Why.{Why}
use Rattle.el_outside.specs.Trace.{ArrivalWithBytes, opened, closed, quiet, ended, with_bytes, IsNextArrival, Message, Closing, Trace, is_open, opens, leaves}
use Rattle.el_fakes.specs.Greatest.{number, greatest_arrived, greatest_closed, greatest_peer}
use Rattle.el_fakes.specs.within.Laws.{none_opens, none_leaves, none_closed}
use Rattle.el_fakes.specs.declared.kept.Closed.{Closed}
use Rattle.el_fakes.specs.Kept.{trace_closing}
use Rattle.el_fakes.specs.within.Peers.{adds, but, peers_after, greatest_after, closed_in, AreOpenPeers}

-- the greatest number with one more arrival
pub greatest_arrived-push : (xs : List ArrivalWithBytes) (c : ArrivalWithBytes) → greatest_arrived (xs ++ c ∷ []) ≡ max (greatest_arrived xs) (number c)
greatest_arrived-push [] c = omega arith
greatest_arrived-push (x ∷ xs) c = omega (arith, greatest_arrived-push xs c)

-- the greatest number with one more closing
pub greatest_closed-push : (cs : List Closing) (c : Closing) → greatest_closed (cs ++ c ∷ []) ≡ max (greatest_closed cs) c.peer
greatest_closed-push [] c = omega arith
greatest_closed-push (x ∷ xs) c = omega (arith, greatest_closed-push xs c)

but_step : (b : Bool) (q : ℕ) (fs : List ℕ) (n : ℕ) → length fs ≤ n → length (cond (not b) (q ∷ fs) fs) ≤ suc n
but_step true q fs n few = omega arith
but_step false q fs n few = omega arith

-- the peers without one are no more
pub length-but : (p : ℕ) (peers : List ℕ) → length (but p peers) ≤ length peers
length-but p [] = omega arith
length-but p (q ∷ qs) = but_step (p == q) q (but p qs) (length qs) (length-but p qs)

fewer_step : (b a : Bool) (q : ℕ) (fs : List ℕ) (n : ℕ) → length fs ≤ n → (a ≡ true → length fs < n) → (b || a) ≡ true
    → length (cond (not b) (q ∷ fs) fs) < suc n
fewer_step true a q fs n few fewer is = omega arith
fewer_step false a q fs n few fewer is = let less : length fs < n = fewer is in omega arith

-- and fewer, where it was one of them
pub shorter-but : (p : ℕ) (peers : List ℕ) → list_any (λ q. p == q) peers ≡ true → length (but p peers) < length peers
shorter-but p [] is = absurd (cc)
shorter-but p (q ∷ qs) is =
    fewer_step (p == q) (list_any (λ r. p == r) qs) q (but p qs) (length qs) (length-but p qs) (shorter-but p qs) is

-- an arrival adds one peer at most
pub length-peers_after : (peers : List ℕ) (a : Arrival) → length (peers_after peers a) ≤ length peers + adds a
length-peers_after peers (arrival.Opened p) = omega (arith, length-append peers (p ∷ []))
length-peers_after peers (arrival.Bytes p n) = omega arith
length-peers_after peers (arrival.Closed p) = omega (arith, length-but p peers)
length-peers_after peers arrival.Quiet = omega arith
length-peers_after peers arrival.Ended = omega arith

out_step : (e c a f : Bool) → f ≡ (a && not e) → c ≡ e → f ≡ ((c || a) && not e)
out_step true true true f is same = is
out_step true true false f is same = is
out_step true false a f is same = absurd (cc)
out_step false true a f is same = absurd (cc)
out_step false false a f is same = is

in_step : (e c a f : Bool) → f ≡ (a && not e) → (c ≡ true → e ≡ false) → (c || f) ≡ ((c || a) && not e)
in_step true true a f is apart = absurd (let no : true ≡ false = apart refl in cc)
in_step true false a f is apart = is
in_step false true a f is apart = refl
in_step false false a f is apart = is

-- a peer is one of the others
pub any-but : (p q : ℕ) (peers : List ℕ) → list_any (λ r. q == r) (but p peers) ≡ (list_any (λ r. q == r) peers && not (q == p))
any-but p q [] = refl
any-but p q (r ∷ rs) =
    elim (cases_eq p r) [
      | inl same ↦ rw (eq-eqb p r same) (out_step (q == p) (q == r) (list_any (λ x. q == x) rs) _ (any-but p q rs) (ap (λ x. q == x) (sym same)))
      | inr apart ↦ rw (ne_eqb p r apart) (in_step (q == p) (q == r) (list_any (λ x. q == x) rs) _ (any-but p q rs)
          (λ is. ne_eqb q p (λ other. apart (sym other ∙ eqb-true q r is))))
    ]

-- who is open with one more arrival
pub is_open-push : (xs : List ArrivalWithBytes) (ms : List Message) (cs : List Closing) (c : ArrivalWithBytes) (q : ℕ)
    → is_open (record { arrivals = xs ++ c ∷ []; messages = ms; closings = cs }) q
    ≡ ((list_any (opens q) xs || opens q c) && (not (list_any (leaves q) xs || leaves q c) && not (list_any (λ (d : Closing). q == d.peer) cs)))
is_open-push xs ms cs c q = simp (list_any-append, or-false)

-- what holds of the tests of an open peer, where it came, left or was closed by now
arrived_step : (o l w e : Bool) → (e ≡ true → (l ≡ false) × (w ≡ false))
    → ((o && (not l && not w)) || (e || false)) ≡ ((o || e) && (not (l || false) && not w))
arrived_step o l w false unused = simp or-false
arrived_step o true w true unused = absurd (let no : true ≡ false = (unused refl).0 in cc)
arrived_step o false true true unused = absurd (let no : true ≡ false = (unused refl).1 in cc)
arrived_step true false false true unused = refl
arrived_step false false false true unused = refl

left_step : (o l w e : Bool) → ((o && (not l && not w)) && not e) ≡ ((o || false) && (not (l || e) && not w))
left_step true true w e = refl
left_step true false true e = sym (and-false (not e))
left_step true false false true = refl
left_step true false false false = refl
left_step false l w e = refl

closed_step : (o l w e : Bool) → (o && (not l && not (w || (e || false)))) ≡ ((o && (not l && not w)) && not e)
closed_step true true w e = refl
closed_step true false true e = refl
closed_step true false false true = refl
closed_step true false false false = refl
closed_step false l w e = refl

-- who is open with one more closing
pub is_open-close : (xs : List ArrivalWithBytes) (ms : List Message) (cs : List Closing) (p : ℕ) (why : Why) (q : ℕ)
    → is_open (record { arrivals = xs; messages = ms; closings = cs ++ record { peer = p; why = why } ∷ [] }) q
    ≡ (is_open (record { arrivals = xs; messages = ms; closings = cs }) q && not (q == p))
is_open-close xs ms cs p why q =
    ap (λ b. list_any (opens q) xs && (not (list_any (leaves q) xs) && not b)) (list_any-append (λ (d : Closing). q == d.peer) cs (record { peer = p; why = why } ∷ []))
    ∙ closed_step (list_any (opens q) xs) (list_any (leaves q) xs) (list_any (λ (d : Closing). q == d.peer) cs) (q == p)

-- nothing changes where nobody came or left
still_open : (xs : List ArrivalWithBytes) (ms : List Message) (cs : List Closing) (c : ArrivalWithBytes) (q : ℕ) → opens q c ≡ false → leaves q c ≡ false
    → is_open (record { arrivals = xs; messages = ms; closings = cs }) q ≡ is_open (record { arrivals = xs ++ c ∷ []; messages = ms; closings = cs }) q
still_open xs ms cs c q not_opened not_left =
    sym (is_open-push xs ms cs c q ∙ simp (not_opened, not_left, or-false))

-- the open peers after an arrival
pub arrives : (xs : List ArrivalWithBytes) (ms : List Message) (cs : List Closing) (peers : List ℕ) (a : Arrival) (buf : List ℕ) (now : ℕ)
    → AreOpenPeers (record { arrivals = xs; messages = ms; closings = cs }) peers
    → IsNextArrival (greatest_peer (record { arrivals = xs; messages = ms; closings = cs })) a now
    → AreOpenPeers (record { arrivals = xs ++ with_bytes a buf ∷ []; messages = ms; closings = cs }) (peers_after peers a)
arrives xs ms cs peers (arrival.Opened p) buf now are next q =
    list_any-append (λ r. q == r) peers (p ∷ []) ∙ ap (λ b. b || (q == p || false)) (are q)
    ∙ arrived_step (list_any (opens q) xs) (list_any (leaves q) xs) (list_any (λ (d : Closing). q == d.peer) cs) (q == p)
    (λ is. let same : q ≡ p = eqb-true q p is in (none_leaves xs q (omega arith), none_closed cs q (omega arith)))
    ∙ sym (is_open-push xs ms cs (opened p) q)
arrives xs ms cs peers (arrival.Bytes p n) buf now are next q = are q ∙ still_open xs ms cs (with_bytes (arrival.Bytes p n) buf) q refl refl
arrives xs ms cs peers (arrival.Closed p) buf now are next q =
    any-but p q peers ∙ ap (λ b. b && not (q == p)) (are q)
    ∙ left_step (list_any (opens q) xs) (list_any (leaves q) xs) (list_any (λ (d : Closing). q == d.peer) cs) (q == p)
    ∙ sym (is_open-push xs ms cs (closed p) q)
arrives xs ms cs peers arrival.Quiet buf now are next q = are q ∙ still_open xs ms cs quiet q refl refl
arrives xs ms cs peers arrival.Ended buf now are next q = are q ∙ still_open xs ms cs ended q refl refl

-- the open peers after a closing
pub closes : (xs : List ArrivalWithBytes) (ms : List Message) (cs : List Closing) (peers : List ℕ) (p : ℕ) (why : Why)
    → AreOpenPeers (record { arrivals = xs; messages = ms; closings = cs }) peers
    → AreOpenPeers (record { arrivals = xs; messages = ms; closings = cs ++ record { peer = p; why = why } ∷ [] }) (but p peers)
closes xs ms cs peers p why are q =
    any-but p q peers ∙ ap (λ b. b && not (q == p)) (are q) ∙ sym (is_open-close xs ms cs p why q)

-- the greatest number after an arrival
pub last-arrives : (xs : List ArrivalWithBytes) (ms : List Message) (cs : List Closing) (last : ℕ) (a : Arrival) (buf : List ℕ)
    → last ≡ greatest_peer (record { arrivals = xs; messages = ms; closings = cs })
    → greatest_after last a ≡ greatest_peer (record { arrivals = xs ++ with_bytes a buf ∷ []; messages = ms; closings = cs })
last-arrives xs ms cs last (arrival.Opened p) buf is = omega (arith, greatest_arrived-push xs (opened p))
last-arrives xs ms cs last (arrival.Bytes p n) buf is = omega (arith, greatest_arrived-push xs (with_bytes (arrival.Bytes p n) buf))
last-arrives xs ms cs last (arrival.Closed p) buf is = omega (arith, greatest_arrived-push xs (closed p))
last-arrives xs ms cs last arrival.Quiet buf is = omega (arith, greatest_arrived-push xs quiet)
last-arrives xs ms cs last arrival.Ended buf is = omega (arith, greatest_arrived-push xs ended)

-- an open peer's number is not greater than the greatest
pub open_is_below : (trace : Trace) (p : ℕ) → is_open trace p ≡ true → p ≤ greatest_peer trace
open_is_below trace p is =
    elim (cases_lt (greatest_arrived trace.arrivals) p) [
      | inl above ↦ absurd (let with_bytes : list_any (opens p) trace.arrivals ≡ true = (and_parts _ _ is).0 in
          let none : list_any (opens p) trace.arrivals ≡ false = none_opens trace.arrivals p above in cc)
      | inr below ↦ omega arith
    ]

-- closing an open peer leaves the greatest number
pub last-closes : (xs : List ArrivalWithBytes) (ms : List Message) (cs : List Closing) (p : ℕ) (why : Why)
    → is_open (record { arrivals = xs; messages = ms; closings = cs }) p ≡ true
    → greatest_peer (record { arrivals = xs; messages = ms; closings = cs ++ record { peer = p; why = why } ∷ [] }) ≡ greatest_peer (record { arrivals = xs; messages = ms; closings = cs })
last-closes xs ms cs p why is =
    omega (arith, greatest_closed-push cs (record { peer = p; why = why }), open_is_below (record { arrivals = xs; messages = ms; closings = cs }) p is)

-- the peers that were closed are those of the list that is kept
pub closed_of : (list : List Closed) (p : ℕ) → list_any (λ (d : Closing). p == d.peer) (map trace_closing list) ≡ closed_in list p
closed_of [] p = refl
closed_of (c ∷ cs) p = ap (λ b. p == c.peer || b) (closed_of cs p)

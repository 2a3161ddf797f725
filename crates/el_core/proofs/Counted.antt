-- How many clients subscribe to a script hash, as clients and subscriptions come and go.
use Rattle.std.proofs.Common.{◌≡◌, ◌||◌, inl, inr, ℕ, zero, suc, ◌+◌, ◌-◌, ◌<◌, ◌≤◌, nat_lt, Bool, true, false, if◌then◌else◌, List, [], ◌∷◌, ◌++◌, length, slice_get, Option, Some, None, refl, sym, ap, ◌∙◌, subst, arith, eq-eqb, lt-ltb}
use Rattle.std.specs.List.{AllByRecursion}
use Rattle.std.specs.Map.{keys_of}
use Rattle.std.specs.Prelude.{get_or, slice_set}
use Rattle.std.proofs.lemmas.Option.{slice_get_read}
use Rattle.el_base.specs.declared.hash.Hash32.{Hash32}
use Rattle.el_sessions.specs.Sessions.{Subscription, same_script, is_subscribed}
use Rattle.el_sessions.specs.Watching.{times, counted, Follows}
use Rattle.el_lines.proofs.Cuts.{either}
use Rattle.el_core.specs.Arrivals.{kept_clients}
use Rattle.el_core.specs.State.{ClientState, is_numbered}
use Rattle.el_core.specs.within.Clients.{client_replaced, all_wait}
use Rattle.el_core.specs.within.Touching.{is_held}
use Rattle.el_core.specs.within.Watching.{held_keys, CountWatchers}
use Rattle.el_core.proofs.Places.{same_some}
use Rattle.el_core.proofs.Replacing.{set_is_replaced}

-- ---- clients

zero_more : (n : ℕ) → 0 + n ≡ n
zero_more n = omega arith

times_append : (t : Hash32) (xs ys : List Hash32) → times t (xs ++ ys) ≡ times t xs + times t ys
times_append t [] ys = sym (zero_more (times t ys))
times_append t (x ∷ xs) ys =
    let e = times_append t xs ys in
    omega arith

-- what a client holds is among what all hold
held_at : (t : Hash32) (clients : List ClientState) (i : ℕ) (c : ClientState) → slice_get clients i ≡ Some c
    → times t (held_keys clients) ≡ times t (held_keys (client_replaced i None clients)) + times t (keys_of c.session.subs)
held_at t [] i c at = absurd cc
held_at t (x ∷ xs) zero c at =
    let is : x ≡ c = same_some x c at in
    let e = times_append t (keys_of c.session.subs) (held_keys xs) in
    rw is (omega arith)
held_at t (x ∷ xs) (suc i) c at =
    let e = times_append t (keys_of x.session.subs) (held_keys xs) in
    let f = times_append t (keys_of x.session.subs) (held_keys (client_replaced i None xs)) in
    let g = held_at t xs i c at in
    omega arith

-- a client keeps its script hashes
pub held_same : (clients : List ClientState) (i : ℕ) (c next : ClientState) → slice_get clients i ≡ Some c → keys_of next.session.subs ≡ keys_of c.session.subs
    → held_keys (client_replaced i (Some next) clients) ≡ held_keys clients
held_same [] i c next at same = refl
held_same (x ∷ xs) zero c next at same =
    let is : x ≡ c = same_some x c at in
    rw is (ap (λ (l : List Hash32). l ++ held_keys xs) same)
held_same (x ∷ xs) (suc i) c next at same = ap (λ (l : List Hash32). keys_of x.session.subs ++ l) (held_same xs i c next at same)

pub held_waiting : (clients : List ClientState) → held_keys (all_wait clients) ≡ held_keys clients
held_waiting [] = refl
held_waiting (x ∷ xs) = ap (λ (l : List Hash32). keys_of x.session.subs ++ l) (held_waiting xs)

-- one comes that subscribes to nothing
pub held_more : (clients : List ClientState) (c : ClientState) → c.session.subs ≡ [] → held_keys (clients ++ c ∷ []) ≡ held_keys clients
held_more [] c none = rw none refl
held_more (x ∷ xs) c none = ap (λ (l : List Hash32). keys_of x.session.subs ++ l) (held_more xs c none)

pub counts_of : (entries : List (Hash32 × ℕ)) (old new : List ClientState) → held_keys new ≡ held_keys old → CountWatchers entries old → CountWatchers entries new
counts_of entries old new same counts s = counts s ∙ ap (times s) (sym same)

pub none_counts : (entries : List (Hash32 × ℕ)) (clients : List ClientState) → entries ≡ [] → clients ≡ [] → CountWatchers entries clients
none_counts entries clients no_entries no_clients s = rw (no_entries, no_clients) refl

-- the client at that place keeps its script hashes
pub set_counts : (entries : List (Hash32 × ℕ)) (items : List ClientState) (i : ℕ) (c next : ClientState) → i < length items → c ≡ get_or items i c → keys_of next.session.subs ≡ keys_of c.session.subs → CountWatchers entries items
    → CountWatchers entries (slice_set items i next)
set_counts entries items i c next lt is same counts =
    rw (set_is_replaced items i next lt) (counts_of entries items (client_replaced i (Some next) items) (held_same items i c next (slice_get_read items (length items) i c refl lt is) same) counts)

-- ---- whether someone subscribes

above_zero : (a b : ℕ) → nat_lt 0 (a + b) ≡ (nat_lt 0 a || nat_lt 0 b)
above_zero zero b = ap (nat_lt 0) (zero_more b)
above_zero (suc a) b = rw (lt-ltb 0 (suc a) (omega arith)) (lt-ltb 0 (suc a + b) (omega arith))

any_times : (s : Hash32) (subs : List Subscription) → nat_lt 0 (times s (keys_of subs)) ≡ is_subscribed s subs
any_times s [] = refl
any_times s (x ∷ xs) = elim (either (same_script s x.0)) [
  | inl h ↦ rw h (lt-ltb 0 (1 + times s (keys_of xs)) (omega arith))
  | inr h ↦ rw h (ap (nat_lt 0) (zero_more (times s (keys_of xs))) ∙ any_times s xs)
]

any_held : (s : Hash32) (clients : List ClientState) → nat_lt 0 (times s (held_keys clients)) ≡ is_held clients s
any_held s [] = refl
any_held s (c ∷ cs) =
    ap (nat_lt 0) (times_append s (keys_of c.session.subs) (held_keys cs))
    ∙ above_zero (times s (keys_of c.session.subs)) (times s (held_keys cs))
    ∙ ap (λ (b : Bool). b || nat_lt 0 (times s (held_keys cs))) (any_times s c.session.subs)
    ∙ ap (λ (b : Bool). is_subscribed s c.session.subs || b) (any_held s cs)

pub counted_held : (entries : List (Hash32 × ℕ)) (clients : List ClientState) (s : Hash32) → CountWatchers entries clients → nat_lt 0 (counted entries s) ≡ is_held clients s
counted_held entries clients s counts = ap (nat_lt 0) (counts s) ∙ any_held s clients

-- ---- a client goes, or has subscribed

-- what a client holds that comes to that place is among what all hold
held_put : (t : Hash32) (clients : List ClientState) (i : ℕ) (c next : ClientState) → slice_get clients i ≡ Some c
    → times t (held_keys (client_replaced i (Some next) clients)) ≡ times t (held_keys (client_replaced i None clients)) + times t (keys_of next.session.subs)
held_put t [] i c next at = absurd cc
held_put t (x ∷ xs) zero c next at =
    let e = times_append t (keys_of next.session.subs) (held_keys xs) in
    omega arith
held_put t (x ∷ xs) (suc i) c next at =
    let e = times_append t (keys_of x.session.subs) (held_keys (client_replaced i (Some next) xs)) in
    let f = times_append t (keys_of x.session.subs) (held_keys (client_replaced i None xs)) in
    let g = held_put t xs i c next at in
    omega arith

-- what is counted follows the subscriptions of the client at that place
pub set_follows : (old new : List (Hash32 × ℕ)) (items : List ClientState) (i : ℕ) (c next : ClientState) → i < length items → c ≡ get_or items i c → Follows c.session.subs next.session.subs old new → CountWatchers old items
    → CountWatchers new (slice_set items i next)
set_follows old new items i c next lt is follows counts =
    rw (set_is_replaced items i next lt) (by (slice_get_read items (length items) i c refl lt is))
  where
    by : slice_get items i ≡ Some c → CountWatchers new (client_replaced i (Some next) items)
    by at s =
        let held = held_at s items i c at in
        let all = counts s in
        let there : times s (keys_of c.session.subs) ≤ counted old s = omega arith in
        let step = follows s there in
        let put = held_put s items i c next at in
        omega arith

-- it goes, and what was counted of it goes with it
pub gone_counts : (old new : List (Hash32 × ℕ)) (items left : List ClientState) (i : ℕ) (c : ClientState) → slice_get items i ≡ Some c → CountWatchers old items
    → ((t : Hash32) → counted new t ≡ counted old t - times t (keys_of c.session.subs)) → left ≡ client_replaced i None items → CountWatchers new left
gone_counts old new items left i c at counts less gone s =
    let held = held_at s items i c at in
    let all = counts s in
    let fewer = less s in
    rw gone (omega arith)

-- ---- a number is forgotten

pub kept_gone : (p : ℕ) (clients : List ClientState) (i : ℕ) (c : ClientState) → slice_get clients i ≡ Some c → c.peer ≡ p → kept_clients p (client_replaced i None clients) ≡ kept_clients p clients
kept_gone p [] i c at is = refl
kept_gone p (x ∷ xs) zero c at is =
    let e : x.peer ≡ p = ap (λ (d : ClientState). d.peer) (same_some x c at) ∙ is in
    rw (eq-eqb x.peer p e) refl
kept_gone p (x ∷ xs) (suc i) c at is = elim (either (is_numbered p x)) [
  | inl h ↦ rw h (kept_gone p xs i c at is)
  | inr h ↦ rw h (ap (λ (l : List ClientState). x ∷ l) (kept_gone p xs i c at is))
]

pub kept_all : (p : ℕ) (clients : List ClientState) → AllByRecursion (λ (c : ClientState). is_numbered p c ≡ false) clients → kept_clients p clients ≡ clients
kept_all p [] none = refl
kept_all p (x ∷ xs) none = rw none.0 (ap (λ (l : List ClientState). x ∷ l) (kept_all p xs none.1))

pub gone_shorter : (clients : List ClientState) (i : ℕ) → i < length clients → length (client_replaced i None clients) < length clients
gone_shorter [] i lt = absurd (omega arith)
gone_shorter (x ∷ xs) zero lt = omega arith
gone_shorter (x ∷ xs) (suc i) lt =
    let e = gone_shorter xs i (omega arith) in
    omega arith

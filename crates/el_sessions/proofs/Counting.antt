-- How many clients subscribe to a script hash, as subscriptions come and go.
use Rattle.std.proofs.Common.{◌≡◌, ◌||◌, inl, inr, ℕ, ◌+◌, ◌-◌, ◌<◌, ◌≤◌, Bool, true, false, true≢false, if◌then◌else◌, List, [], ◌∷◌, length, Option, Some, None, Result, Ok, Err, refl, sym, ap, ◌∙◌, subst, arith}
use Rattle.std.specs.Map.{keys_of, lookup}
use Rattle.std.specs.Option.{unwrap_or}
use Rattle.std.specs.Prelude.{OnOk, OnErr, is_err}
use Rattle.el_base.specs.declared.hash.Hash32.{Hash32}
use Rattle.el_sessions.specs.Sessions.{Subscription, same_script, is_to, is_subscribed, subscribed, unsubscribed}
use Rattle.el_sessions.specs.Watching.{times, counted, NoneIdle, Follows}
use Rattle.el_sessions.proofs.Scripts.{one_script, either_way, turned, nothing_dropped}
use Rattle.el_sessions.proofs.Numbered.{one_fewer}

-- ---- one script hash

-- one more
pub one_up : (old new : List (Hash32 × ℕ)) (s : Hash32) (count : ℕ) → count ≡ counted old s → (t : Hash32)
    → lookup (same_script t) new ≡ (if same_script s t then Some (count + 1) else lookup (same_script t) old)
    → counted new t ≡ counted old t + times t (s ∷ [])
one_up old new s count is t set = elim (either_way (same_script s t)) [
  | inl h ↦
      let e : s ≡ t = one_script s t h in
      let a : counted new t ≡ count + 1 = ap (λ (o : Option ℕ). unwrap_or o 0) (rw h at set) in
      let b : count ≡ counted old t = subst (λ (k : Hash32). count ≡ counted old k) e is in
      let f : same_script t s ≡ true = turned s t true h in
      rw f (omega arith)
  | inr h ↦
      let a : counted new t ≡ counted old t = ap (λ (o : Option ℕ). unwrap_or o 0) (rw h at set) in
      let f : same_script t s ≡ false = turned s t false h in
      rw f (omega arith)
]

-- one less
pub one_down : (old new : List (Hash32 × ℕ)) (s : Hash32) (count : ℕ) (left : Option ℕ) → count ≡ counted old s → unwrap_or left 0 ≡ count - 1 → (t : Hash32)
    → lookup (same_script t) new ≡ (if same_script s t then left else lookup (same_script t) old)
    → counted new t ≡ counted old t - times t (s ∷ [])
one_down old new s count left is less t set = elim (either_way (same_script s t)) [
  | inl h ↦
      let e : s ≡ t = one_script s t h in
      let a : counted new t ≡ unwrap_or left 0 = ap (λ (o : Option ℕ). unwrap_or o 0) (rw h at set) in
      let b : count ≡ counted old t = subst (λ (k : Hash32). count ≡ counted old k) e is in
      let f : same_script t s ≡ true = turned s t true h in
      rw f (omega arith)
  | inr h ↦
      let a : counted new t ≡ counted old t = ap (λ (o : Option ℕ). unwrap_or o 0) (rw h at set) in
      let f : same_script t s ≡ false = turned s t false h in
      rw f (omega arith)
]

-- none stands beside one to which nobody subscribes: a number above 0 is set, or one is taken out
pub none_idle : (old new : List (Hash32 × ℕ)) (s : Hash32) (count : ℕ) → 0 < count → NoneIdle old
    → ((t : Hash32) → lookup (same_script t) new ≡ (if same_script s t then Some count else lookup (same_script t) old)) → NoneIdle new
none_idle old new s count more none set t is = elim (either_way (same_script s t)) [
  | inl h ↦
      let e : ◌≡◌ {A = Option ℕ} (Some count) (Some 0) = sym (rw h at (set t)) ∙ is in
      let z : count ≡ 0 = cc in
      absurd (omega arith)
  | inr h ↦ none t (sym (rw h at (set t)) ∙ is)
]

pub still_none_idle : (old new : List (Hash32 × ℕ)) (s : Hash32) → NoneIdle old
    → ((t : Hash32) → lookup (same_script t) new ≡ (if same_script s t then None else lookup (same_script t) old)) → NoneIdle new
still_none_idle old new s none dropped t is = elim (either_way (same_script s t)) [
  | inl h ↦ absurd (let e : ◌≡◌ {A = Option ℕ} None (Some 0) = sym (rw h at (dropped t)) ∙ is in cc)
  | inr h ↦ none t (sym (rw h at (dropped t)) ∙ is)
]

-- a number above 0 is there, so that setting it doesn't fail
pub when_there : {T E : Type 0} (P : Type 0) (r : Result T E) (old : List (Hash32 × ℕ)) (s : Hash32) (count : ℕ) → count ≡ counted old s → 0 < count → OnErr r (lookup (same_script s) old ≡ None) → OnOk r P → P
when_there P (Ok x) old s count is more absent ok = ok
when_there P (Err e) old s count is more absent ok =
    let none : counted old s ≡ 0 = ap (λ (o : Option ℕ). unwrap_or o 0) absent in
    absurd (let c : count ≡ 0 = is ∙ none in omega arith)

-- what was counted holds where nothing failed
pub when_counted : {T E : Type 0} (P : Type 0) (r : Result T E) → is_err r ≡ false → OnOk r P → P
when_counted P (Ok x) is ok = ok
when_counted P (Err e) is ok = absurd (true≢false is)

-- ---- one subscription

-- one that is new
pub times_more : (t s : Hash32) (told : Option Hash32) (subs : List Subscription) → is_subscribed s subs ≡ false
    → times t (keys_of (subscribed s told subs)) ≡ times t (keys_of subs) + times t (s ∷ [])
times_more t s told [] none = omega arith
times_more t s told (x ∷ xs) none = by (is_to s x) refl (λ rest. times_more t s told xs rest)
  where
    by : (b : Bool) → is_to s x ≡ b → (is_subscribed s xs ≡ false → times t (keys_of (subscribed s told xs)) ≡ times t (keys_of xs) + times t (s ∷ [])) → times t (keys_of (subscribed s told (x ∷ xs))) ≡ times t (keys_of (x ∷ xs)) + times t (s ∷ [])
    by true is later = absurd (true≢false (sym (ap (λ (b : Bool). b || is_subscribed s xs) is) ∙ none))
    by false is later =
        let rest = later (sym (ap (λ (b : Bool). b || is_subscribed s xs) is) ∙ none) in
        rw is (omega (arith, rest))

-- one that is there
pub times_same : (t s : Hash32) (told : Option Hash32) (subs : List Subscription) → is_subscribed s subs ≡ true
    → times t (keys_of (subscribed s told subs)) ≡ times t (keys_of subs)
times_same t s told [] some = absurd (true≢false (sym some))
times_same t s told (x ∷ xs) some = by (is_to s x) refl (λ rest. times_same t s told xs rest)
  where
    by : (b : Bool) → is_to s x ≡ b → (is_subscribed s xs ≡ true → times t (keys_of (subscribed s told xs)) ≡ times t (keys_of xs)) → times t (keys_of (subscribed s told (x ∷ xs))) ≡ times t (keys_of (x ∷ xs))
    by true is later = rw is refl
    by false is later =
        let rest = later (sym (ap (λ (b : Bool). b || is_subscribed s xs) is) ∙ some) in
        rw is (omega (arith, rest))

-- one that is dropped
pub times_less : (t s : Hash32) (subs : List Subscription) → is_subscribed s subs ≡ true
    → times t (keys_of subs) ≡ times t (keys_of (unsubscribed s subs)) + times t (s ∷ [])
times_less t s [] some = absurd (true≢false (sym some))
times_less t s (x ∷ xs) some = by (is_to s x) refl (λ rest. times_less t s xs rest)
  where
    by : (b : Bool) → is_to s x ≡ b → (is_subscribed s xs ≡ true → times t (keys_of xs) ≡ times t (keys_of (unsubscribed s xs)) + times t (s ∷ [])) → times t (keys_of (x ∷ xs)) ≡ times t (keys_of (unsubscribed s (x ∷ xs))) + times t (s ∷ [])
    by true is later =
        let same : s ≡ x.0 = one_script s x.0 is in
        rw (is, same) (omega arith)
    by false is later =
        let rest = later (sym (ap (λ (b : Bool). b || is_subscribed s xs) is) ∙ some) in
        rw is (omega (arith, rest))

pub follows_same : (subs : List Subscription) (entries : List (Hash32 × ℕ)) → Follows subs subs entries entries
follows_same subs entries s le = refl

pub follows_more : (a b c : List Subscription) (x y z : List (Hash32 × ℕ)) → Follows a b x y → Follows b c y z → Follows a c x z
follows_more a b c x y z first second s le =
    let one = first s le in
    let there : times s (keys_of b) ≤ counted y s = omega (arith, one, le) in
    let two = second s there in
    omega (arith, one, two)

-- what was noted changes no script hash
pub follows_noted : (was now : List Subscription) (s : Hash32) (told : Option Hash32) (entries : List (Hash32 × ℕ)) → is_subscribed s was ≡ true
    → now ≡ subscribed s told was → Follows was now entries entries
follows_noted was now s told entries some is t le =
    let same = times_same t s told was some in
    rw is (omega (arith, same))

pub follows_added : (was now : List Subscription) (s : Hash32) (told : Option Hash32) (before after : List (Hash32 × ℕ)) → is_subscribed s was ≡ false
    → now ≡ subscribed s told was → ((t : Hash32) → counted after t ≡ counted before t + times t (s ∷ [])) → Follows was now before after
follows_added was now s told before after none is up t le =
    let more = times_more t s told was none in
    let step = up t in
    rw is (omega (arith, more, step))

-- one that found no memory is taken back
pub follows_back : (was now : List Subscription) (s : Hash32) (before between after : List (Hash32 × ℕ)) → now ≡ was
    → ((t : Hash32) → counted between t ≡ counted before t + times t (s ∷ [])) → ((t : Hash32) → counted after t ≡ counted between t - times t (s ∷ [])) → Follows was now before after
follows_back was now s before between after is up down t le =
    let one = up t in
    let two = down t in
    rw is (omega (arith, one, two))

pub follows_none : (was now : List Subscription) (s : Hash32) (entries : List (Hash32 × ℕ)) → is_subscribed s was ≡ false
    → now ≡ unsubscribed s was → Follows was now entries entries
follows_none was now s entries none is t le = rw (is, nothing_dropped s was none) refl

pub follows_less : (was now : List Subscription) (s : Hash32) (before after : List (Hash32 × ℕ)) → is_subscribed s was ≡ true
    → now ≡ unsubscribed s was → ((t : Hash32) → counted after t ≡ counted before t - times t (s ∷ [])) → Follows was now before after
follows_less was now s before after some is down t le =
    let less = times_less t s was some in
    let step = down t in
    rw is (omega (arith, less, step, le))

-- a client that goes drops one after the other
pub one_uncounted : (t s : Hash32) (was now : List Subscription) (before after all : ℕ) → is_subscribed s was ≡ true → now ≡ unsubscribed s was
    → after ≡ before - times t (s ∷ []) → before - times t (keys_of was) ≡ all → after - times t (keys_of now) ≡ all
one_uncounted t s was now before after all some is down left =
    let less = times_less t s was some in
    rw is (omega (arith, less, down, left))

pub fewer : (s : Hash32) (subs : List Subscription) → is_subscribed s subs ≡ true → length (unsubscribed s subs) < length subs
fewer s subs some = let e = one_fewer s subs some in omega (arith, e)

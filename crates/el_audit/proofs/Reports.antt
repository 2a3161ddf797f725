-- The report on claims: the first place at which lists differ, the first claim that isn't right.
use Rattle.std.proofs.Common.{◌≡◌, ◌≢◌, inl, inr, ℕ, zero, suc, ◌+◌, ◌<◌, ◌≤◌, Bool, true, false, nat_lt, List, [], ◌∷◌, ◌++◌, length, map, take, drop, get_or, slice_get, None, Some, refl, ap, sym, subst, ◌∙◌, arith}
use Rattle.std.proofs.lemmas.List.{take_all, length-map, length-take}
use Rattle.std.proofs.lemmas.Bool.{ltb-true, ltb-false}
use Rattle.std.specs.List.{AllByRecursion}
use Rattle.el_base.specs.declared.hash.Hash32.{Hash32}
use Rattle.el_base.proofs.Lists.{all_more, taken_at, cut_at}
use Rattle.el_chain.specs.Chains.{Chain}
use Rattle.el_audit.specs.declared.claim.Claim.{Claim}
use Rattle.el_audit.specs.declared.claim.Kind.{Kind}
use Rattle.el_audit.specs.declared.claim.Kind.TheVariants.{History, Unspent, Balance}
use Rattle.el_audit.specs.declared.claim.Report.{Report}
use Rattle.el_audit.specs.declared.claim.Report.TheVariants.{Same, Differs}
use Rattle.el_audit.specs.Claims.{claim_of, IsRight}
use Rattle.el_audit.specs.Reports.{DifferAt, IsDifference, IsFirstDifference, IsReport}

-- ---- claims

-- a difference stays the first where right claims stand before
pub after_right : (chain : Chain) (front back : List Claim) (s : Hash32) (kind : Kind) (at : ℕ) → AllByRecursion (IsRight chain) front → IsFirstDifference chain back s kind at
    → IsFirstDifference chain (front ++ back) s kind at
after_right chain [] back s kind at right first = first
after_right chain (c ∷ cs) back s kind at right first = inr (right.0, after_right chain cs back s kind at right.1 first)

-- and whatever stands behind
pub before_any : (chain : Chain) (front back : List Claim) (s : Hash32) (kind : Kind) (at : ℕ) → IsFirstDifference chain front s kind at → IsFirstDifference chain (front ++ back) s kind at
before_any chain [] back s kind at first = absurd first
before_any chain (c ∷ cs) back s kind at (inl here) = inl here
before_any chain (c ∷ cs) back s kind at (inr later) = inr (later.0, before_any chain cs back s kind at later.1)

-- the claim at a place differs, and those before it are right
pub differs_here : (chain : Chain) (claims : List Claim) (i : ℕ) (c : Claim) (s : Hash32) (kind : Kind) (at : ℕ) → i < length claims → c ≡ get_or claims i c
    → AllByRecursion (IsRight chain) (take i claims) → s ≡ c.script → IsDifference (claim_of chain c.script) c kind at → IsFirstDifference chain claims s kind at
differs_here chain claims i c s kind at lt is right same found =
    subst (λ (l : List Claim). IsFirstDifference chain l s kind at) (sym (cut_at claims i c lt is))
    (after_right chain (take i claims) (c ∷ drop (i + 1) claims) s kind at right (inl (same, found)))

-- one more is right
pub right_more : (chain : Chain) (claims : List Claim) (i : ℕ) (c : Claim) → i < length claims → c ≡ get_or claims i c → AllByRecursion (IsRight chain) (take i claims) → IsRight chain c
    → AllByRecursion (IsRight chain) (take (i + 1) claims)
right_more chain claims i c lt is right here =
    subst (AllByRecursion (IsRight chain)) (sym (taken_at claims i c lt is)) (all_more (IsRight chain) (take i claims) c right here)

-- all are
pub right_all : (chain : Chain) (claims : List Claim) (i : ℕ) → length claims ≤ i → AllByRecursion (IsRight chain) (take i claims) → AllByRecursion (IsRight chain) claims
right_all chain claims i most right = subst (AllByRecursion (IsRight chain)) (take_all i claims most) right

-- claims that are right don't differ
claim_differs : (w c : Claim) (kind : Kind) (at : ℕ) → c ≡ w → IsDifference w c kind at → ⊥
claim_differs w c (History a b) at is h = h.0.here (ap (λ (x : Claim). slice_get x.history at) (sym is))
claim_differs w c (Unspent a b) at is h = h.1.here (ap (λ (x : Claim). slice_get x.unspent at) (sym is))
claim_differs w c (Balance a b) at is h = h.2 (ap (λ (x : Claim). x.balance) (sym is))

pub never_both : (chain : Chain) (claims : List Claim) (s : Hash32) (kind : Kind) (at : ℕ) → AllByRecursion (IsRight chain) claims → IsFirstDifference chain claims s kind at → ⊥
never_both chain [] s kind at right first = first
never_both chain (c ∷ cs) s kind at right (inl here) = claim_differs (claim_of chain c.script) c kind at right.0 here.1
never_both chain (c ∷ cs) s kind at right (inr later) = never_both chain cs s kind at right.1 later.1

right_answers : (chain : Chain) (scripts : List Hash32) → AllByRecursion (IsRight chain) (map (claim_of chain) scripts)
right_answers chain [] = tt
right_answers chain (s ∷ ss) = (refl, right_answers chain ss)

-- the chain's own answers are reported to be the same
pub answers_right : (chain : Chain) (scripts : List Hash32) (report : Report) → IsReport chain (map (claim_of chain) scripts) report → report ≡ Same (length scripts)
answers_right chain scripts (Same n) h = ap Same (h.1 ∙ length-map scripts (claim_of chain))
answers_right chain scripts (Differs s kind at) h = absurd (never_both chain (map (claim_of chain) scripts) s kind at (right_answers chain scripts) h)

-- ---- lists

get_past : {X : Type 0} (xs : List X) (i : ℕ) → length xs ≤ i → slice_get xs i ≡ None
get_past [] i most = refl
get_past (x ∷ xs) zero most = absurd (omega arith)
get_past (x ∷ xs) (suc i) most = get_past xs i (omega arith)

get_within : {X : Type 0} (xs : List X) (i : ℕ) → i < length xs → slice_get xs i ≡ None → ⊥
get_within [] i lt none = absurd (omega arith)
get_within (x ∷ xs) zero lt none = cc
get_within (x ∷ xs) (suc i) lt none = get_within xs i (omega arith) none

-- the value at a place is what a loop knows of it
pub get_at : {X : Type 0} (xs : List X) (i : ℕ) (x : X) → i < length xs → x ≡ get_or xs i x → slice_get xs i ≡ Some x
get_at [] i x lt is = absurd (omega arith)
get_at (y ∷ ys) zero x lt is = ap (λ z. Some z) (sym is)
get_at (y ∷ ys) (suc i) x lt is = get_at ys i x (omega arith) is

-- a value stands at a place of the list
pub get_before : {X : Type 0} (xs : List X) (i : ℕ) (x : X) → slice_get xs i ≡ Some x → i < length xs
get_before [] i x is = absurd (none_some is)
  where
    none_some : None ≡ Some x → ⊥
    none_some e = cc
get_before (y ∷ ys) zero x is = omega arith
get_before (y ∷ ys) (suc i) x is = let rest = get_before ys i x is in omega (arith, rest)

get_got : {X : Type 0} (xs : List X) (i : ℕ) (x d : X) → slice_get xs i ≡ Some x → x ≡ get_or xs i d
get_got [] i x d is = absurd (none_some is)
  where
    none_some : None ≡ Some x → ⊥
    none_some e = cc
get_got (y ∷ ys) zero x d is = some_same x y (sym is)
  where
    some_same : {Y : Type 0} (a b : Y) → Some a ≡ Some b → a ≡ b
    some_same a b e = cc
get_got (y ∷ ys) (suc i) x d is = get_got ys i x d is

-- the lists are the same up to the next place
pub same_more : {X : Type 0} (xs ys : List X) (i : ℕ) (x : X) → i < length xs → x ≡ get_or xs i x → take i xs ≡ take i ys → slice_get ys i ≡ Some x → take (i + 1) xs ≡ take (i + 1) ys
same_more xs ys i x lt is same there = taken_at xs i x lt is ∙ ap (λ l. l ++ x ∷ []) same ∙ sym (taken_at ys i x (get_before ys i x there) (get_got ys i x x there))

-- they differ at it
pub differ_at : {X : Type 0} (xs ys : List X) (i : ℕ) (x : X) → i < length xs → x ≡ get_or xs i x → take i xs ≡ take i ys → slice_get ys i ≢ Some x → DifferAt xs ys i
differ_at xs ys i x lt is same other = record { before = same; here = λ e. other (sym e ∙ get_at xs i x lt is) }

-- the first has ended
pub differ_longer : {X : Type 0} (xs ys : List X) (i : ℕ) → length xs ≤ i → length xs < length ys → take i xs ≡ take i ys → DifferAt xs ys (length xs)
differ_longer {X} xs ys i most longer same =
    let e : length xs ≡ length (take i ys) = ap length (sym (take_all i xs most) ∙ same) in
    let l = length-take i ys in
    let is : i ≡ length xs = omega (arith, e, l, longer, most) in
    record {
      before = subst (λ (n : ℕ). take n xs ≡ take n ys) is same;
      here = λ f. get_within ys (length xs) longer (sym f ∙ get_past xs (length xs) (omega arith));
    }

-- both have
pub same_whole : {X : Type 0} (xs ys : List X) (i : ℕ) → length xs ≤ i → length ys ≤ i → take i xs ≡ take i ys → xs ≡ ys
same_whole xs ys i most few same = sym (take_all i xs most) ∙ same ∙ take_all i ys few

-- ---- one report

get_take : {X : Type 0} (xs : List X) (i j : ℕ) → i < j → slice_get (take j xs) i ≡ slice_get xs i
get_take xs i zero lt = absurd (omega arith)
get_take [] i (suc j) lt = refl
get_take (x ∷ xs) zero (suc j) lt = refl
get_take (x ∷ xs) (suc i) (suc j) lt = get_take xs i j (omega arith)

-- lists that are the same up to a place have the same before it
not_before : {X : Type 0} (xs ys : List X) (i j : ℕ) → i < j → DifferAt xs ys i → DifferAt xs ys j → ⊥
not_before xs ys i j lt d e = d.here (sym (get_take xs i j lt) ∙ ap (λ l. slice_get l i) e.before ∙ get_take ys i j lt)

place_one : {X : Type 0} (xs ys : List X) (i j : ℕ) → DifferAt xs ys i → DifferAt xs ys j → i ≡ j
place_one xs ys i j d e = by (nat_lt i j) refl (nat_lt j i) refl
  where
    by : (a : Bool) → nat_lt i j ≡ a → (b : Bool) → nat_lt j i ≡ b → i ≡ j
    by true p b q = absurd (not_before xs ys i j (ltb-true i j p) d e)
    by false p true q = absurd (not_before xs ys j i (ltb-true j i q) e d)
    by false p false q = let least = ltb-false i j p in let most = ltb-false j i q in omega (arith, least, most)

kind_one : (w c : Claim) (k l : Kind) (i j : ℕ) → IsDifference w c k i → IsDifference w c l j → (k ≡ l) × (i ≡ j)
kind_one w c (History a b) (History p q) i j h g =
    let is = place_one w.history c.history i j h.0 g.0 in
    (rw (h.1, h.2, g.1, g.2, is) refl, is)
kind_one w c (History a b) (Unspent p q) i j h g = absurd (h.0.here (ap (λ l. slice_get l i) g.0))
kind_one w c (History a b) (Balance p q) i j h g = absurd (h.0.here (ap (λ l. slice_get l i) g.0))
kind_one w c (Unspent a b) (History p q) i j h g = absurd (g.0.here (ap (λ l. slice_get l j) h.0))
kind_one w c (Unspent a b) (Unspent p q) i j h g =
    let is = place_one w.unspent c.unspent i j h.1 g.1 in
    (rw (h.2, h.3, g.2, g.3, is) refl, is)
kind_one w c (Unspent a b) (Balance p q) i j h g = absurd (h.1.here (ap (λ l. slice_get l i) g.1))
kind_one w c (Balance a b) (History p q) i j h g = absurd (g.0.here (ap (λ l. slice_get l j) h.0))
kind_one w c (Balance a b) (Unspent p q) i j h g = absurd (g.1.here (ap (λ l. slice_get l j) h.1))
kind_one w c (Balance a b) (Balance p q) i j h g = (rw (h.3, h.4, g.3, g.4) refl, h.5 ∙ sym g.5)

first_one : (chain : Chain) (claims : List Claim) (s t : Hash32) (k l : Kind) (i j : ℕ) → IsFirstDifference chain claims s k i → IsFirstDifference chain claims t l j
    → Differs s k i ≡ Differs t l j
first_one chain [] s t k l i j h g = absurd h
first_one chain (c ∷ cs) s t k l i j (inl h) (inl g) = let same = kind_one (claim_of chain c.script) c k l i j h.1 g.1 in rw (h.0, g.0, same.0, same.1) refl
first_one chain (c ∷ cs) s t k l i j (inl h) (inr g) = absurd (claim_differs (claim_of chain c.script) c k i g.0 h.1)
first_one chain (c ∷ cs) s t k l i j (inr h) (inl g) = absurd (claim_differs (claim_of chain c.script) c l j h.0 g.1)
first_one chain (c ∷ cs) s t k l i j (inr h) (inr g) = first_one chain cs s t k l i j h.1 g.1

pub one_report : (chain : Chain) (claims : List Claim) (a b : Report) → IsReport chain claims a → IsReport chain claims b → a ≡ b
one_report chain claims (Same n) (Same m) h g = ap Same (h.1 ∙ sym g.1)
one_report chain claims (Same n) (Differs s k i) h g = absurd (never_both chain claims s k i h.0 g)
one_report chain claims (Differs s k i) (Same m) h g = absurd (never_both chain claims s k i g.0 h)
one_report chain claims (Differs s k i) (Differs t l j) h g = first_one chain claims s t k l i j h g

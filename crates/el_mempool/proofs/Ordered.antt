-- A list put in an order: what holds of each element, and what a filter leaves of it.
use Rattle.std.proofs.Common.{◌≡◌, inl, inr, true, false, Bool, cond, List, [], ◌∷◌, refl, ap, sym, ◌∙◌}
use Rattle.std.proofs.lemmas.Bool.{cases_Bool}
use Rattle.std.specs.declared.cmp.Ordering.{Ordering}
use Rattle.std.specs.declared.cmp.Ordering.TheVariants.{Less, Equal, Greater}
use Rattle.std.specs.Ordering.{is_gt, ordering_reverse}
use Rattle.std.specs.Cmp.{IsTotalOrder}
use Rattle.std.proofs.lemmas.Cmp.{upto}
use Rattle.std.specs.List.{AllByRecursion, filter}
use Rattle.el_base.proofs.Lists.{all_weaker, all_filter}
use Rattle.el_mempool.specs.Unconfirmed.{put, in_order}

-- no element is greater than those after it
abbrev pub InOrder : {X : Type 0} → (X → X → Ordering) → List X → Type 0
InOrder R [] = Unit {0}
InOrder R (x ∷ xs) = AllByRecursion (λ y. is_gt (R x y) ≡ false) xs × InOrder R xs

pub all_put : {X : Type 0} (R : X → X → Ordering) (P : X → Type 0) (x : X) (ys : List X) → P x → AllByRecursion P ys → AllByRecursion P (put R x ys)
all_put R P x [] p h = (p, tt)
all_put R P x (y ∷ ys) p h = elim (cases_Bool (is_gt (R x y))) [
  | inl g ↦ rw g (h.0, all_put R P x ys p h.1)
  | inr g ↦ rw g (p, h)
]

pub all_in_order : {X : Type 0} (R : X → X → Ordering) (P : X → Type 0) (xs : List X) → AllByRecursion P xs → AllByRecursion P (in_order R xs)
all_in_order R P [] h = tt
all_in_order R P (x ∷ xs) h = all_put R P x (in_order R xs) h.0 (all_in_order R P xs h.1)

all_put_back : {X : Type 0} (R : X → X → Ordering) (P : X → Type 0) (x : X) (ys : List X) → AllByRecursion P (put R x ys) → P x × AllByRecursion P ys
all_put_back R P x [] h = (h.0, tt)
all_put_back R P x (y ∷ ys) h = elim (cases_Bool (is_gt (R x y))) [
  | inl g ↦ let here = rw g at h in let more = all_put_back R P x ys here.1 in (more.0, (here.0, more.1))
  | inr g ↦ let here = rw g at h in (here.0, here.1)
]

pub all_in_order_back : {X : Type 0} (R : X → X → Ordering) (P : X → Type 0) (xs : List X) → AllByRecursion P (in_order R xs) → AllByRecursion P xs
all_in_order_back R P [] h = tt
all_in_order_back R P (x ∷ xs) h = let parts = all_put_back R P x (in_order R xs) h in (parts.0, all_in_order_back R P xs parts.1)

-- what is not less is not greater the other way round
turned : (a b : Ordering) → b ≡ ordering_reverse a → is_gt a ≡ true → is_gt b ≡ false
turned Less b e h = absurd (cc)
turned Equal b e h = absurd (cc)
turned Greater b e h = rw e refl

put_ordered : {X : Type 0} (R : X → X → Ordering) → IsTotalOrder R → (x : X) (ys : List X) → InOrder R ys → InOrder R (put R x ys)
put_ordered R o x [] h = (tt, tt)
put_ordered R o x (y ∷ ys) h = elim (cases_Bool (is_gt (R x y))) [
  | inl g ↦ rw g (all_put R (λ z. is_gt (R y z) ≡ false) x ys (turned (R x y) (R y x) (o.antisymm y x) g) h.0, put_ordered R o x ys h.1)
  | inr g ↦ rw g ((g, all_weaker (λ z. is_gt (R y z) ≡ false) (λ z. is_gt (R x z) ≡ false) ys (λ z below. upto o x y z g below) h.0), h)
]

pub ordered : {X : Type 0} (R : X → X → Ordering) → IsTotalOrder R → (xs : List X) → InOrder R (in_order R xs)
ordered R o [] = tt
ordered R o (x ∷ xs) = put_ordered R o x (in_order R xs) (ordered R o xs)

put_first : {X : Type 0} (R : X → X → Ordering) (x : X) (ys : List X) → AllByRecursion (λ y. is_gt (R x y) ≡ false) ys → put R x ys ≡ x ∷ ys
put_first R x [] h = refl
put_first R x (y ∷ ys) h = let here = h.0 in rw here refl

filter_put : {X : Type 0} (R : X → X → Ordering) → IsTotalOrder R → (q : X → Bool) (x : X) (ys : List X) → InOrder R ys
    → filter q (put R x ys) ≡ cond (q x) (put R x (filter q ys)) (filter q ys)
filter_put R o q x [] h = refl
filter_put R o q x (y ∷ ys) h = elim (cases_Bool (is_gt (R x y))) [
  | inl g ↦ rw g (elim (cases_Bool (q y)) [
    | inl k ↦ rw k (ap (λ l. y ∷ l) (filter_put R o q x ys h.1) ∙ by_q g (q x))
    | inr k ↦ rw k (filter_put R o q x ys h.1)
  ])
  | inr g ↦
      let all : AllByRecursion (λ z. is_gt (R x z) ≡ false) (y ∷ ys) = (g, all_weaker (λ z. is_gt (R y z) ≡ false) (λ z. is_gt (R x z) ≡ false) ys (λ z below. upto o x y z g below) h.0) in
      let first = put_first R x (filter q (y ∷ ys)) (all_filter (λ z. is_gt (R x z) ≡ false) q (y ∷ ys) all) in
      rw g (ap (λ l. cond (q x) l (filter q (y ∷ ys))) (sym first))
]
  where
    by_q : is_gt (R x y) ≡ true → (b : Bool) → y ∷ cond b (put R x (filter q ys)) (filter q ys) ≡ cond b (put R x (y ∷ filter q ys)) (y ∷ filter q ys)
    by_q g true = rw g refl
    by_q g false = refl

-- a filter leaves what is left, in that order
pub filter_in_order : {X : Type 0} (R : X → X → Ordering) → IsTotalOrder R → (q : X → Bool) (xs : List X) → in_order R (filter q xs) ≡ filter q (in_order R xs)
filter_in_order R o q [] = refl
filter_in_order R o q (x ∷ xs) =
    let inner = filter_in_order R o q xs in
    let whole = filter_put R o q x (in_order R xs) (ordered R o xs) in
    elim (cases_Bool (q x)) [
      | inl g ↦ let is = rw g at whole in rw g (ap (put R x) inner ∙ sym is)
      | inr g ↦ let is = rw g at whole in rw g (inner ∙ sym is)
    ]

-- Passing a text, and what a reading step gives.
use Rattle.std.proofs.Common.{◌≡◌, ℕ, ◌+◌, Bool, true, false, cond, List, [], ◌++◌, length, Result, Ok, Err, refl, sym, ap, subst, ◌∙◌, append_assoc, length-append, arith}
use Rattle.std.proofs.lemmas.List.{append_cancel_left}
use Rattle.el_base.specs.Left.{Left, AreBytes}
use Rattle.el_tx.specs.declared.fault.TxFault.{TxFault}
use Rattle.el_tx.specs.FirstFault.{After}
use Rattle.el_tx.specs.within.Reading.{◌>>=◌}

-- the text stands between two places
pub record Passed (left : Left) (text : List ℕ) (next : Left) : Type 0 where
  pub parts : left.rest ≡ text ++ next.rest
  pub place : next.place ≡ left.place + length text

-- the same, and bytes are left
pub record Took (left : Left) (text : List ℕ) (next : Left) : Type 0 where
  pub passed : Passed left text next
  pub fits : AreBytes next.rest

pub Passed-then : (a : Left) (x : List ℕ) (b : Left) (y : List ℕ) (c : Left) → Passed a x b → Passed b y c → Passed a (x ++ y) c
Passed-then a x b y c p q =
    let size = length-append x y in
    let first = p.place in
    let second = q.place in
    record { parts = p.parts ∙ ap (λ (t : List ℕ). x ++ t) q.parts ∙ sym (append_assoc x y c.rest); place = omega arith }

pub Took-then : (a : Left) (x : List ℕ) (b : Left) (y : List ℕ) (c : Left) → Took a x b → Took b y c → Took a (x ++ y) c
Took-then a x b y c p q = record { passed = Passed-then a x b y c p.passed q.passed; fits = q.fits }

-- the place between two texts
abbrev pub middle : Left → List ℕ → List ℕ → Left → Left
middle a x y c = record { place = a.place + length x; rest = y ++ c.rest }

pub Passed-front : (a : Left) (x y : List ℕ) (c : Left) → Passed a (x ++ y) c → Passed a x (middle a x y c)
Passed-front a x y c p = record { parts = p.parts ∙ append_assoc x y c.rest; place = refl }

pub Passed-back : (a : Left) (x y : List ℕ) (c : Left) → Passed a (x ++ y) c → Passed (middle a x y c) y c
Passed-back a x y c p =
    let size = length-append x y in
    let whole = p.place in
    record { parts = refl; place = omega arith }

pub Left-is : (l m : Left) → l.place ≡ m.place → l.rest ≡ m.rest → l ≡ m
Left-is l m p q =
    let made : ℕ → List ℕ → Left = λ place rest. record { place = place; rest = rest } in
    ap (λ place. made place l.rest) p ∙ ap (made m.place) q

-- a text leads to one place
pub Passed-same : (a : Left) (x : List ℕ) (b c : Left) → Passed a x b → Passed a x c → b ≡ c
Passed-same a x b c p q = Left-is b c (p.place ∙ sym q.place) (append_cancel_left x b.rest c.rest (sym p.parts ∙ q.parts))

pub none_passed : (a b : Left) → Passed a [] b → a ≡ b
none_passed a b p =
    let place = p.place in
    Left-is a b (omega arith) p.parts

-- a fault after a text
pub after : (text : List ℕ) (Next : ℕ → List ℕ → TxFault → Type 0) (left next : Left) (f : TxFault) → Passed left text next → Next next.place next.rest f
    → After text Next left.place left.rest f
after text Next left next f p s = record { more = next.rest; parts = p.parts; next = subst (λ (k : ℕ). Next k next.rest f) p.place s }

-- where it stands
abbrev pub stand : List ℕ → Left → List ℕ → Left
stand text left more = record { place = left.place + length text; rest = more }

pub stand_passed : (text : List ℕ) (Next : ℕ → List ℕ → TxFault → Type 0) (left : Left) (f : TxFault) (b : After text Next left.place left.rest f) → Passed left text (stand text left b.more)
stand_passed text Next left f b = record { parts = b.parts; place = refl }

-- what a reading gives: a value with one property, or a fault with the other
pub data Sound {A : Type 0} (r : Result A TxFault) (P : A → Type 0) (Q : TxFault → Type 0) : Type 0 where
  ok : (x : A) → r ≡ Ok x → P x → Sound r P Q
  err : (f : TxFault) → r ≡ Err f → Q f → Sound r P Q

pub done : {A : Type 0} (x : A) {P : A → Type 0} {Q : TxFault → Type 0} → P x → Sound (Ok x) P Q
done x p = ok x refl p

pub step : {A B : Type 0} (r : Result A TxFault) (f : A → Result B TxFault) {P : A → Type 0} {Q : TxFault → Type 0} {P' : B → Type 0} {Q' : TxFault → Type 0}
    → Sound r P Q → ((x : A) → P x → Sound (f x) P' Q') → ((e : TxFault) → Q e → Q' e) → Sound (r >>= f) P' Q'
step r f (ok x e p) k h = rw e (k x p)
step r f (err d e q) k h = rw e (err d refl (h d q))

pub weaker : {A : Type 0} (r : Result A TxFault) {P : A → Type 0} {Q : TxFault → Type 0} {P' : A → Type 0} {Q' : TxFault → Type 0}
    → Sound r P Q → ((x : A) → P x → P' x) → ((e : TxFault) → Q e → Q' e) → Sound r P' Q'
weaker r (ok x e p) k h = ok x e (k x p)
weaker r (err d e q) k h = err d e (h d q)

-- a test that may be the fault
pub guarded : {A : Type 0} (b : Bool) (d : TxFault) (r : Result A TxFault) {P : A → Type 0} {Q : TxFault → Type 0}
    → (b ≡ true → Q d) → (b ≡ false → Sound r P Q) → Sound (cond b (Err d) r) P Q
guarded true d r h k = err d refl (h refl)
guarded false d r h k = k refl

-- either way of a test
pub either : {A : Type 0} (b : Bool) (r s : Result A TxFault) {P : A → Type 0} {Q : TxFault → Type 0}
    → (b ≡ true → Sound r P Q) → (b ≡ false → Sound s P Q) → Sound (cond b r s) P Q
either true r s h k = h refl
either false r s h k = k refl

-- Lists of clients and of their sessions, changed at one place.
use Rattle.std.proofs.Common.{◌≡◌, inl, inr, ℕ, zero, suc, ◌<◌, ◌==◌, Bool, true, false, not, if◌then◌else◌, List, [], ◌∷◌, ◌++◌, map, filter, slice_get, Option, Some, None, refl, sym, ap, ◌∙◌, subst, arith, true≢false, eq-eqb, eqb-true}
use Rattle.std.specs.Prelude.{find, ⊤}
use Rattle.std.specs.List.{AllByRecursion, AllZip, list_any}
use Rattle.el_world.specs.World.{Session, is_peer}
use Rattle.el_lines.proofs.Cuts.{either}
use Rattle.el_core.specs.State.{Rising}
use Rattle.el_core.specs.within.Clients.{client_replaced}

-- what holds of both, or nothing where neither is there
abbrev pub Both : {A B : Type 0} → (A → B → Type 0) → Option A → Option B → Type 0
Both R None None = ⊤
Both R (Some x) (Some y) = R x y
Both R None (Some y) = ⊥
Both R (Some x) None = ⊥

abbrev pub IfThere : {A : Type 0} → (A → Type 0) → Option A → Type 0
IfThere P None = ⊤
IfThere P (Some x) = P x

pub same_some : {A : Type 0} (x y : A) → ◌≡◌ {A = Option A} (Some x) (Some y) → x ≡ y
same_some x y e = cc

pub no_some : {A : Type 0} (x : A) → ◌≡◌ {A = Option A} (Some x) None → ⊥
no_some x e = cc

pub not_same : (a b : ℕ) → (a ≡ b → ⊥) → a == b ≡ false
not_same a b other = elim (either (a == b)) [
  | inl h ↦ absurd (other (eqb-true a b h))
  | inr h ↦ h
]

pub differs : (a b : ℕ) → a == b ≡ false → a ≡ b → ⊥
differs a b e same = true≢false (sym (eq-eqb a b same) ∙ e)

-- what stands there of the other list
pub zip_at : {A B : Type 0} (R : A → B → Type 0) (xs : List A) (ys : List B) (i : ℕ) (x : A) → AllZip R xs ys → slice_get xs i ≡ Some x → (y : B) × (slice_get ys i ≡ Some y) × R x y
zip_at R [] ys i x z at = absurd (no_some x (sym at))
zip_at R (a ∷ xs) [] i x z at = absurd z
zip_at R (a ∷ xs) (b ∷ ys) zero x z at = (b, refl, subst (λ c. R c b) (same_some a x at) z.0)
zip_at R (a ∷ xs) (b ∷ ys) (suc i) x z at = zip_at R xs ys i x z.1 at

pub all_at : {A : Type 0} (P : A → Type 0) (xs : List A) (i : ℕ) (x : A) → AllByRecursion P xs → slice_get xs i ≡ Some x → P x
all_at P [] i x all at = absurd (no_some x (sym at))
all_at P (a ∷ xs) zero x all at = subst P (same_some a x at) all.0
all_at P (a ∷ xs) (suc i) x all at = all_at P xs i x all.1 at

pub all_map : {A : Type 0} (P Q : A → Type 0) (xs : List A) → ((x : A) → P x → Q x) → AllByRecursion P xs → AllByRecursion Q xs
all_map P Q [] f all = tt
all_map P Q (x ∷ xs) f all = (f x all.0, all_map P Q xs f all.1)

pub all_mapped : {A : Type 0} (P Q : A → Type 0) (g : A → A) (xs : List A) → ((x : A) → P x → Q (g x)) → AllByRecursion P xs → AllByRecursion Q (map g xs)
all_mapped P Q g [] f all = tt
all_mapped P Q g (x ∷ xs) f all = (f x all.0, all_mapped P Q g xs f all.1)

pub all_filter : {A : Type 0} (P : A → Type 0) (p : A → Bool) (xs : List A) → AllByRecursion P xs → AllByRecursion P (filter p xs)
all_filter P p [] all = tt
all_filter P p (x ∷ xs) all = elim (either (p x)) [
  | inl h ↦ rw h (all.0, all_filter P p xs all.1)
  | inr h ↦ rw h (all_filter P p xs all.1)
]

pub all_replaced : {A : Type 0} (P : A → Type 0) (xs : List A) (i : ℕ) (left : Option A) → AllByRecursion P xs → IfThere P left → AllByRecursion P (client_replaced i left xs)
all_replaced P [] i left all new = tt
all_replaced P (x ∷ xs) zero None all new = all.1
all_replaced P (x ∷ xs) zero (Some y) all new = (new, all.1)
all_replaced P (x ∷ xs) (suc i) left all new = (all.0, all_replaced P xs i left all.1 new)

-- a greater number isn't this one
above : (p q : ℕ) → p < q → q ≡ p → ⊥
above p q lt same = (let l : q < q = subst (λ (n : ℕ). n < q) (sym same) lt in omega arith)

below : (p q : ℕ) → q < p → q ≡ p → ⊥
below p q lt same = (let l : p < p = subst (λ (n : ℕ). n < p) same lt in omega arith)

module _ {A : Type 0} (R S : A → Session → Type 0) where
  zip_above : (xs : List A) (ys : List Session) (p : ℕ) → AllZip R xs ys → AllByRecursion (λ (y : Session). p < y.peer) ys
      → ((x : A) (y : Session) → R x y → (y.peer ≡ p → ⊥) → S x y) → AllZip S xs ys
  zip_above [] [] p z all f = tt
  zip_above [] (y ∷ ys) p z all f = absurd z
  zip_above (x ∷ xs) [] p z all f = absurd z
  zip_above (x ∷ xs) (y ∷ ys) p z all f = (f x y z.0 (above p y.peer all.0), zip_above xs ys p z.1 all.1 f)

  -- both lists changed at one place, where the numbers of the others differ
  pub zip_replaced : (xs : List A) (ys : List Session) (i : ℕ) (s : Session) (left : Option A) (now : Option Session) → AllZip R xs ys → Rising ys → slice_get ys i ≡ Some s
      → ((x : A) (y : Session) → R x y → (y.peer ≡ s.peer → ⊥) → S x y) → Both S left now → AllZip S (client_replaced i left xs) (client_replaced i now ys)
  zip_replaced [] [] i s left now z up at f b = absurd (no_some s (sym at))
  zip_replaced [] (y ∷ ys) i s left now z up at f b = absurd z
  zip_replaced (x ∷ xs) [] i s left now z up at f b = absurd z
  zip_replaced (x ∷ xs) (y ∷ ys) zero s None None z up at f b = zip_above xs ys s.peer z.1 (subst (λ (t : Session). AllByRecursion (λ (u : Session). t.peer < u.peer) ys) (same_some y s at) up.0) f
  zip_replaced (x ∷ xs) (y ∷ ys) zero s (Some l) (Some n) z up at f b =
      (b, zip_above xs ys s.peer z.1 (subst (λ (t : Session). AllByRecursion (λ (u : Session). t.peer < u.peer) ys) (same_some y s at) up.0) f)
  zip_replaced (x ∷ xs) (y ∷ ys) zero s None (Some n) z up at f b = absurd b
  zip_replaced (x ∷ xs) (y ∷ ys) zero s (Some l) None z up at f b = absurd b
  zip_replaced (x ∷ xs) (y ∷ ys) (suc i) s left now z up at f b =
      (f x y z.0 (below s.peer y.peer (all_at (λ (u : Session). y.peer < u.peer) ys i s up.0 at)), zip_replaced xs ys i s left now z.1 up.1 at f b)

-- the numbers still rise
pub rising_replaced : (ys : List Session) (i : ℕ) (s : Session) (now : Option Session) → Rising ys → slice_get ys i ≡ Some s → IfThere (λ (n : Session). n.peer ≡ s.peer) now → Rising (client_replaced i now ys)
rising_replaced [] i s now up at same = tt
rising_replaced (y ∷ ys) zero s None up at same = up.1
rising_replaced (y ∷ ys) zero s (Some n) up at same =
    let e : y.peer ≡ n.peer = ap (λ (t : Session). t.peer) (same_some y s at) ∙ sym same in
    (subst (λ (p : ℕ). AllByRecursion (λ (u : Session). p < u.peer) ys) e up.0, up.1)
rising_replaced (y ∷ ys) (suc i) s now up at same =
    (all_replaced (λ (u : Session). y.peer < u.peer) ys i now up.0 (by now same), rising_replaced ys i s now up.1 at same)
  where
    by : (n : Option Session) → IfThere (λ (m : Session). m.peer ≡ s.peer) n → IfThere (λ (u : Session). y.peer < u.peer) n
    by None e = tt
    by (Some m) e =
        let l = all_at (λ (u : Session). y.peer < u.peer) ys i s up.0 at in
        rw e l

pub rising_filter : (p : Session → Bool) (ys : List Session) → Rising ys → Rising (filter p ys)
rising_filter p [] up = tt
rising_filter p (y ∷ ys) up = elim (either (p y)) [
  | inl h ↦ rw h (all_filter (λ (u : Session). y.peer < u.peer) p ys up.0, rising_filter p ys up.1)
  | inr h ↦ rw h (rising_filter p ys up.1)
]

pub rising_more : (ys : List Session) (n : Session) → Rising ys → AllByRecursion (λ (u : Session). u.peer < n.peer) ys → Rising (ys ++ n ∷ [])
rising_more [] n up all = (tt, tt)
rising_more (y ∷ ys) n up all = (more ys up.0, rising_more ys n up.1 all.1)
  where
    more : (zs : List Session) → AllByRecursion (λ (u : Session). y.peer < u.peer) zs → AllByRecursion (λ (u : Session). y.peer < u.peer) (zs ++ n ∷ [])
    more [] h = (all.0, tt)
    more (z ∷ zs) h = (h.0, more zs h.1)

pub rising_map : (g : Session → Session) → ((x : Session) → (g x).peer ≡ x.peer) → (ys : List Session) → Rising ys → Rising (map g ys)
rising_map g same [] up = tt
rising_map g same (y ∷ ys) up =
    (rw (same y) (all_mapped (λ (u : Session). y.peer < u.peer) (λ (u : Session). y.peer < u.peer) g ys (λ x l. rw (same x) l) up.0), rising_map g same ys up.1)

-- ---- what the model says of the session with a number

module _ (p : ℕ) where
  none_above : (ys : List Session) → AllByRecursion (λ (y : Session). p < y.peer) ys → AllByRecursion (λ (y : Session). is_peer p y ≡ false) ys
  none_above [] all = tt
  none_above (y ∷ ys) all = (not_same y.peer p (above p y.peer all.0), none_above ys all.1)

  pub none_mapped : (g : Session → Session) (ys : List Session) → AllByRecursion (λ (y : Session). is_peer p y ≡ false) ys → map (λ (y : Session). if is_peer p y then g y else y) ys ≡ ys
  none_mapped g [] all = refl
  none_mapped g (y ∷ ys) all = rw all.0 (ap (λ (l : List Session). y ∷ l) (none_mapped g ys all.1))

  pub none_filtered : (ys : List Session) → AllByRecursion (λ (y : Session). is_peer p y ≡ false) ys → filter (λ (y : Session). not (is_peer p y)) ys ≡ ys
  none_filtered [] all = refl
  none_filtered (y ∷ ys) all = rw all.0 (ap (λ (l : List Session). y ∷ l) (none_filtered ys all.1))

  pub none_found : (ys : List Session) → AllByRecursion (λ (y : Session). is_peer p y ≡ false) ys → find (is_peer p) ys ≡ None
  none_found [] all = refl
  none_found (y ∷ ys) all = rw all.0 (none_found ys all.1)

  pub found_none : (ys : List Session) → find (is_peer p) ys ≡ None → AllByRecursion (λ (y : Session). is_peer p y ≡ false) ys
  found_none [] none = tt
  found_none (y ∷ ys) none = elim (either (is_peer p y)) [
    | inl h ↦ absurd (no_some y (rw h at none))
    | inr h ↦ (h, found_none ys (rw h at none))
  ]

  pub none_there : (ys : List Session) → AllByRecursion (λ (y : Session). is_peer p y ≡ false) ys → list_any (is_peer p) ys ≡ false
  none_there [] all = refl
  none_there (y ∷ ys) all = rw all.0 (none_there ys all.1)

  -- one session has it
  pub one_mapped : (g : Session → Session) (ys : List Session) (i : ℕ) (s : Session) → Rising ys → slice_get ys i ≡ Some s → s.peer ≡ p
      → map (λ (y : Session). if is_peer p y then g y else y) ys ≡ client_replaced i (Some (g s)) ys
  one_mapped g [] i s up at is = refl
  one_mapped g (y ∷ ys) zero s up at is =
      let e : y ≡ s = same_some y s at in
      let f : y.peer ≡ p = ap (λ (t : Session). t.peer) e ∙ is in
      let all = subst (λ (q : ℕ). AllByRecursion (λ (u : Session). q < u.peer) ys) f up.0 in
      rw (eq-eqb y.peer p f, none_mapped g ys (none_above ys all)) (ap (λ (t : Session). g t ∷ ys) e)
  one_mapped g (y ∷ ys) (suc i) s up at is =
      let l = all_at (λ (u : Session). y.peer < u.peer) ys i s up.0 at in
      let e : is_peer p y ≡ false = not_same y.peer p (below p y.peer (rw is at l)) in
      rw e (ap (λ (t : List Session). y ∷ t) (one_mapped g ys i s up.1 at is))

  pub one_filtered : (ys : List Session) (i : ℕ) (s : Session) → Rising ys → slice_get ys i ≡ Some s → s.peer ≡ p → filter (λ (y : Session). not (is_peer p y)) ys ≡ client_replaced i None ys
  one_filtered [] i s up at is = refl
  one_filtered (y ∷ ys) zero s up at is =
      let e : y ≡ s = same_some y s at in
      let f : y.peer ≡ p = ap (λ (t : Session). t.peer) e ∙ is in
      let all = subst (λ (q : ℕ). AllByRecursion (λ (u : Session). q < u.peer) ys) f up.0 in
      rw (eq-eqb y.peer p f) (none_filtered ys (none_above ys all))
  one_filtered (y ∷ ys) (suc i) s up at is =
      let l = all_at (λ (u : Session). y.peer < u.peer) ys i s up.0 at in
      let e : is_peer p y ≡ false = not_same y.peer p (below p y.peer (rw is at l)) in
      rw e (ap (λ (t : List Session). y ∷ t) (one_filtered ys i s up.1 at is))

  pub one_found : (ys : List Session) (i : ℕ) (s : Session) → Rising ys → slice_get ys i ≡ Some s → s.peer ≡ p → find (is_peer p) ys ≡ Some s
  one_found [] i s up at is = absurd (no_some s (sym at))
  one_found (y ∷ ys) zero s up at is =
      let e : y ≡ s = same_some y s at in
      let f : y.peer ≡ p = ap (λ (t : Session). t.peer) e ∙ is in
      rw (eq-eqb y.peer p f) (ap (λ (t : Session). Some t) e)
  one_found (y ∷ ys) (suc i) s up at is =
      let l = all_at (λ (u : Session). y.peer < u.peer) ys i s up.0 at in
      let e : is_peer p y ≡ false = not_same y.peer p (below p y.peer (rw is at l)) in
      rw e (one_found ys i s up.1 at is)

  pub one_there : (ys : List Session) (i : ℕ) (s : Session) → slice_get ys i ≡ Some s → s.peer ≡ p → list_any (is_peer p) ys ≡ true
  one_there [] i s at is = absurd (no_some s (sym at))
  one_there (y ∷ ys) zero s at is =
      let f : y.peer ≡ p = ap (λ (t : Session). t.peer) (same_some y s at) ∙ is in
      rw (eq-eqb y.peer p f) refl
  one_there (y ∷ ys) (suc i) s at is = elim (either (is_peer p y)) [
    | inl h ↦ rw h refl
    | inr h ↦ rw h (one_there ys i s at is)
  ]

  -- the first of them that has it
  pub there_at : (ys : List Session) → list_any (is_peer p) ys ≡ true → find (is_peer p) ys ≡ None → ⊥
  there_at ys there none = true≢false (sym there ∙ none_there ys (found_none ys none))

  pub gone_found : (q : ℕ) (ys : List Session) → find (is_peer p) ys ≡ None → find (is_peer p) (filter (λ (y : Session). not (is_peer q y)) ys) ≡ None
  gone_found q ys none = none_found _ (all_filter (λ (y : Session). is_peer p y ≡ false) (λ (y : Session). not (is_peer q y)) ys (found_none ys none))

  pub gone_itself : (ys : List Session) → find (is_peer p) (filter (λ (y : Session). not (is_peer p y)) ys) ≡ None
  gone_itself [] = refl
  gone_itself (y ∷ ys) = elim (either (is_peer p y)) [
    | inl h ↦ rw h (gone_itself ys)
    | inr h ↦ rw (h, h) (gone_itself ys)
  ]

  pub there_still : (q : ℕ) (ys : List Session) → (q ≡ p → ⊥) → list_any (is_peer p) ys ≡ true → list_any (is_peer p) (filter (λ (y : Session). not (is_peer q y)) ys) ≡ true
  there_still q [] other there = absurd (true≢false (sym there))
  there_still q (y ∷ ys) other there = elim (either (is_peer q y)) [
    | inl h ↦
        let n : is_peer p y ≡ false = not_same y.peer p (λ e. other (sym (eqb-true y.peer q h) ∙ e)) in
        rw h (there_still q ys other (rw n at there))
    | inr h ↦ elim (either (is_peer p y)) [
      | inl k ↦ rw (h, k) refl
      | inr k ↦ rw (h, k) (there_still q ys other (rw k at there))
    ]
  ]

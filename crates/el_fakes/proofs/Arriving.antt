-- What a link in memory hands over next.
use Rattle.std.proofs.Common.{◌≡◌, ℕ, suc, ◌+◌, ◌-◌, ◌<◌, nat_le, Bool, true, false, ◌||◌, List, [], ◌∷◌, length, take, drop, min, get_or, refl, sym, ap, ◌∙◌, add-one, arith, inl, inr, length-drop}
use Rattle.std.proofs.Math.Seq.{drop-cons}
use Rattle.std.proofs.lemmas.List.{drop-drop, take_min}
use Rattle.std.proofs.lemmas.Bool.{cases_lt, lt-ltb, le-ltb}
use Rattle.el_outside.specs.Trace.{with_bytes}
use Rattle.el_fakes.specs.declared.coming.Coming.{Coming}
use Rattle.el_fakes.specs.declared.coming.Coming.TheVariants as step
use Rattle.el_fakes.specs.declared.taking.Spot.{Spot}
use Rattle.el_fakes.specs.declared.taking.Taken.{Taken}
use Rattle.el_fakes.specs.Coming.{is_unlawful, bytes_left, hand_first}
use Rattle.el_fakes.specs.within.Taking.{step_left, steps_left, steps_from, after_piece, IsHanded}

-- the step at a place stands before those after it
pub here : (steps : List Coming) (i : ℕ) (x : Coming) → i < length steps → x ≡ get_or steps i x → drop i steps ≡ x ∷ drop (i + 1) steps
here steps i x less is = rw add-one (drop-cons steps i x less ∙ ap (λ y. y ∷ drop (suc i) steps) (sym is))

-- before any of its bytes was handed over, all of a step is left
whole_step : (c : Coming) → step_left 0 c ≡ c
whole_step (step.Opened p) = refl
whole_step (step.Bytes p bytes) = refl
whole_step (step.Closed p) = refl
whole_step step.Quiet = refl

pub all_left : (steps : List Coming) → steps_left 0 steps ≡ steps
all_left [] = refl
all_left (c ∷ cs) = ap (λ x. x ∷ cs) (whole_step c)

-- what is handed over is the step's next piece, and the rest of it comes later
piece_text : (bytes : List ℕ) (given : ℕ) → take (min 65536 (length bytes - given)) (drop given bytes) ≡ take 65536 (drop given bytes)
piece_text bytes given = rw (← length-drop given bytes) (take_min 65536 (drop given bytes))

piece_rest : (p : ℕ) (bytes : List ℕ) (spot : Spot) (rest steps : List Coming) → drop spot.place steps ≡ step.Bytes p bytes ∷ rest → drop (spot.place + 1) steps ≡ rest
    → bytes_left p (drop spot.given bytes) rest ≡ steps_from (after_piece bytes spot) steps
piece_rest p bytes spot rest steps is after = elim (cases_lt 65536 (length bytes - spot.given)) [
  | inl more ↦
      let not_last : nat_le (length bytes - spot.given) 65536 ≡ false = grind arith in
      rw (length-drop spot.given bytes, lt-ltb 65536 (length bytes - spot.given) more, not_last, is, drop-drop 65536 spot.given bytes) refl
  | inr last ↦
      let is_last : nat_le (length bytes - spot.given) 65536 ≡ true = grind arith in
      rw (length-drop spot.given bytes, le-ltb 65536 (length bytes - spot.given) last, is_last, after, all_left) refl
]

-- the step at the spot is what comes next, where it may be handed over
pub is_next : (c : Coming) (rest steps : List Coming) (spot : Spot) (taken : Taken) (buf : List ℕ) (last : ℕ) (is_closed : ℕ → Bool)
    → drop spot.place steps ≡ c ∷ rest → drop (spot.place + 1) steps ≡ rest → is_unlawful last is_closed (step_left spot.given c) ≡ false → IsHanded c spot taken buf
    → hand_first last is_closed (steps_from spot steps) ≡ record { arrival = with_bytes taken.arrival buf; coming = steps_from taken.spot steps }
is_next (step.Opened p) rest steps spot taken buf last is_closed is after lawful handed = rw (handed, is, lawful, after, all_left) refl
is_next (step.Bytes p bytes) rest steps spot taken buf last is_closed is after lawful piece =
    rw (piece.peer, piece.place, is, lawful, ← piece_rest p bytes spot rest steps is after, piece.text, piece_text) refl
is_next (step.Closed p) rest steps spot taken buf last is_closed is after lawful handed = rw (handed, is, lawful, after, all_left) refl
is_next step.Quiet rest steps spot taken buf last is_closed is after lawful handed = rw (handed, is, after, all_left) refl

-- a step that may not be handed over is passed over
pub passes : (c : Coming) (rest steps : List Coming) (spot : Spot) (last : ℕ) (is_closed : ℕ → Bool)
    → drop spot.place steps ≡ c ∷ rest → drop (spot.place + 1) steps ≡ rest → is_unlawful last is_closed (step_left spot.given c) ≡ true
    → hand_first last is_closed (steps_from spot steps) ≡ hand_first last is_closed (steps_from (record { place = spot.place + 1; given = 0 }) steps)
passes c rest steps spot last is_closed is after unlawful = rw (is, unlawful, after, all_left) refl

-- the same peers are closed, so the same comes next
same_lawful : (last : ℕ) (f g : ℕ → Bool) → ((p : ℕ) → f p ≡ g p) → (c : Coming) → is_unlawful last f c ≡ is_unlawful last g c
same_lawful last f g same (step.Opened p) = refl
same_lawful last f g same (step.Bytes p bytes) = ap (λ b. nat_le (length bytes) 0 || b) (same p)
same_lawful last f g same (step.Closed p) = same p
same_lawful last f g same step.Quiet = refl

pub same_next : (last : ℕ) (f g : ℕ → Bool) → ((p : ℕ) → f p ≡ g p) → (steps : List Coming) → hand_first last f steps ≡ hand_first last g steps
same_next last f g same [] = refl
same_next last f g same (c ∷ cs) = rw (same_lawful last f g same c, same_next last f g same cs) refl

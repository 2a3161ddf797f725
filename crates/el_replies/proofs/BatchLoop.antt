-- The elements of a batch, one after the other.
use Rattle.std.proofs.Common.{◌≡◌, sym, subst, List, [], ◌∷◌, Result, refl, inl, inr}
use Rattle.serde_json.specs.Data.{Data}
use Rattle.el_json.specs.declared.request.Request.{Request}
use Rattle.el_json.specs.declared.request.Item.{Item}
use Rattle.el_calls.specs.declared.refusal.Refusal.{Refusal}
use Rattle.el_sessions.specs.declared.session.Session.{Session}
use Rattle.el_replies.specs.Batches.{Replies, Step, Steps, CutStep, CutSteps, Completes, CutCompletes}

module _ {X : Type 0} (answers : X → Request → Session → Result Data Refusal → X → Session → Type 0) where
  pub begins : (left all : List Item) (x : X) (s : Session) (b : Replies) → left ≡ all
      → Completes answers left x s b all x s b
  begins left all x s b is = λ z u d steps.
      let P : List Item → Type 0 = λ es. Steps answers es x s b z u d in subst P is steps

  pub cut_begins : (left all : List Item) (x : X) (s : Session) (b : Replies) → left ≡ all
      → CutCompletes answers left x s b all x s b
  cut_begins left all x s b is = λ z cut.
      let P : List Item → Type 0 = λ es. CutSteps answers es x s b z in subst P is cut

  pub goes_on : (i : Item) (left rest all : List Item) (x y : X) (s t : Session) (b c : Replies)
      (x0 : X) (s0 : Session) (b0 : Replies) → left ≡ i ∷ rest
      → Completes answers left x s b all x0 s0 b0 → Step answers i x s b y t c
      → Completes answers rest y t c all x0 s0 b0
  goes_on i left rest all x y s t b c x0 s0 b0 is before step = λ z u d steps.
      let P : List Item → Type 0 = λ es. Steps answers es x s b z u d in
      before z u d (subst P (sym is) (y, t, c, step, steps))

  pub cut_goes_on : (i : Item) (left rest all : List Item) (x y : X) (s t : Session) (b c : Replies)
      (x0 : X) (s0 : Session) (b0 : Replies) → left ≡ i ∷ rest
      → CutCompletes answers left x s b all x0 s0 b0 → Step answers i x s b y t c
      → CutCompletes answers rest y t c all x0 s0 b0
  cut_goes_on i left rest all x y s t b c x0 s0 b0 is before step = λ z cut.
      let P : List Item → Type 0 = λ es. CutSteps answers es x s b z in
      before z (subst P (sym is) (inr (y, t, c, step, cut)))

  pub ends : (left all : List Item) (x : X) (s : Session) (b : Replies) (x0 : X) (s0 : Session)
      (b0 : Replies) → left ≡ [] → Completes answers left x s b all x0 s0 b0
      → Steps answers all x0 s0 b0 x s b
  ends left all x s b x0 s0 b0 is before =
      let P : List Item → Type 0 = λ es. Steps answers es x s b x s b in
      before x s b (subst P (sym is) (refl, refl, refl))

  pub cut_here : (i : Item) (left rest all : List Item) (x y : X) (s : Session) (b : Replies)
      (x0 : X) (s0 : Session) (b0 : Replies) → left ≡ i ∷ rest
      → CutCompletes answers left x s b all x0 s0 b0 → CutStep answers i x s b y → CutSteps answers all x0 s0 b0 y
  cut_here i left rest all x y s b x0 s0 b0 is before cut =
      let P : List Item → Type 0 = λ es. CutSteps answers es x s b y in
      before y (subst P (sym is) (inl cut))

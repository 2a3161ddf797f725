-- How calls on a disk add up.
use Rattle.std.proofs.Common.{◌≡◌, ◌≢◌, ◌<◌, refl, ◌∙◌, ℕ, ◌≤◌, ⊎_elim, false, true, Result, Ok, Err, IsErr, OnOk}
use Rattle.std.proofs.lemmas.Bool.{cases_lt}
use Rattle.el_outside.specs.declared.disk.Disk as disk
use Rattle.el_outside.specs.Disk.{Image, Follows, NothingNew}
use Rattle.el_outside.specs.Moments.{LeftNow, Passes}
use Rattle.el_outside.proofs.Moments.{started, one_call, joined}
use Rattle.el_redone.specs.Steps.{EachNow, Leaves, IsAside, StaysAside}

module _ {D : Type 0} (G : disk.Ghosts D) where
  -- a call that takes steps which keep P
  pub keeps : (old new : D) (P : Image → Type 0) (step : Image → Image → Type 0) → Passes G.moment G.left_since old new
      → Follows step (LeftNow G.moment G.left_since old) (LeftNow G.moment G.left_since new)
      → ((d c : Image) → P d → step d c → P c) → EachNow G P old → Leaves G P old new
  keeps old new P step passes follows kept each =
      one_call G.moment G.left_since old new P (LeftNow G.moment G.left_since new) passes.time each
      (λ c left. let from = follows c left in kept from.0 c (each from.0 from.1) from.2)

  -- a call after which a crash leaves nothing new
  pub stays : (old new : D) (P : Image → Type 0) → Passes G.moment G.left_since old new
      → NothingNew (LeftNow G.moment G.left_since old) (LeftNow G.moment G.left_since new) → EachNow G P old → Leaves G P old new
  stays old new P passes nothing each =
      one_call G.moment G.left_since old new P (LeftNow G.moment G.left_since new) passes.time each (λ c left. each c (nothing c left))

  pub no_calls : (old : D) (P : Image → Type 0) → EachNow G P old → Leaves G P old old
  no_calls old P each = started G.moment G.left_since old P each

module _ {D : Type 0} (G : disk.Ghosts D)
    (earlier : (d : D) (t u : ℕ) (c : Image) → t ≤ u → G.left_since d u c → G.left_since d t c) where
  -- what a run leaves now
  pub now_has : (old new : D) (P : Image → Type 0) → Leaves G P old new → EachNow G P new
  now_has old new P run c left = run.each c (earlier new (G.moment old) (G.moment new) c run.later left)

  -- one run after the other
  pub goes_on : (old mid new : D) (P : Image → Type 0) → Leaves G P old mid → (EachNow G P mid → Leaves G P mid new) → Leaves G P old new
  goes_on old mid new P first second = joined G.moment G.left_since old mid new P first (second (now_has old mid P first))

  -- writes behind the gate, one after the other
  pub aside_more : (first redo : ℕ) (old mid new : D) → StaysAside G first redo old mid → StaysAside G first redo mid new → StaysAside G first redo old new
  aside_more first redo old mid new one two = record {
    others = λ f ne. two.others f ne ∙ one.others f ne;
    crash = λ files each. goes_on old mid new (IsAside first redo files) (one.crash files each) (two.crash files);
  }

module _ {D : Type 0} (G : disk.Ghosts D) where
  pub aside_none : (first redo : ℕ) (old : D) → StaysAside G first redo old old
  aside_none first redo old = record { others = λ f ne. refl; crash = λ files each. no_calls G old (IsAside first redo files) each }

  -- a sync of the redo file
  pub aside_sync : (first redo : ℕ) (old new : D) → Passes G.moment G.left_since old new
      → NothingNew (LeftNow G.moment G.left_since old) (LeftNow G.moment G.left_since new)
      → ((f : ℕ) → f ≢ redo → G.seen new f ≡ G.seen old f) → StaysAside G first redo old new
  aside_sync first redo old new passes nothing others = record {
    others = others;
    crash = λ files each. stays G old new (IsAside first redo files) passes nothing each;
  }

-- a call that succeeded kept below the limit
pub below_on_ok : {T E : Type 0} (r : Result T E) (n limit : ℕ) → (limit ≤ n → IsErr r) → OnOk r (n < limit)
below_on_ok (Ok x) n limit refused = ⊎_elim (λ lt. lt) (λ ge. absurd (let e : false ≡ true = refused ge in cc)) (cases_lt n limit)
below_on_ok (Err e) n limit refused = tt

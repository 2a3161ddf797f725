-- What each step leaves of an image.
use Rattle.std.proofs.Common.{◌≡◌, ◌≢◌, inl, inr, ⊎_elim, ℕ, suc, ◌<◌, ◌≤◌, List, [], ◌∷◌, length, sym, ◌∙◌, ap, subst, arith}
use Rattle.std.proofs.lemmas.Bool.{cases_eq}
use Rattle.std.proofs.lemmas.List.{ext_get_or}
use Rattle.el_outside.specs.Disk.{Image, Torn, OnFile}
use Rattle.el_redone.specs.Redone.{Write, overlaid, WritesFit, into, Covers}
use Rattle.el_redone.specs.declared.steps.TheConstants.{ROOT}
use Rattle.el_redone.specs.Steps.{IsAside, IsGated, WillBe}
use Rattle.el_redone.proofs.Writes.{torn_overlaid, fits_more}

-- behind the gate the gate stays
pub torn_behind : (at n gate : ℕ) (rest c : List ℕ) → 1 ≤ at → Torn at n (gate ∷ rest) c → (after : List ℕ) × (c ≡ gate ∷ after)
torn_behind at n gate rest [] behind torn = absurd (omega (arith, torn.no_shorter))
torn_behind at n gate rest (x ∷ after) behind torn = (after, ap (λ h. h ∷ after) (torn.same 0 (inl (omega (arith, behind)))))

-- at the gate what stands behind it stays
pub torn_gate : (gate : ℕ) (rest c : List ℕ) → Torn 0 1 (gate ∷ rest) c → (now : ℕ) × (c ≡ now ∷ rest)
torn_gate gate rest [] torn = absurd (omega (arith, torn.no_shorter))
torn_gate gate rest (x ∷ after) torn = (
  x,
  ap (λ (l : List ℕ). x ∷ l) (ext_get_or 0 after rest (omega (arith, torn.no_shorter, torn.no_longer)) (λ i lt. torn.same (suc i) (inr (omega arith)))),
)

apart : (f redo : ℕ) → f < redo → f ≢ redo
apart f redo lt is = omega (arith, lt, is)

module _ (first redo : ℕ) (files : Image) where
  -- step 1
  pub aside_step : (at n : ℕ) (d c : Image) → 1 ≤ at → IsAside first redo files d → OnFile redo (Torn at n) d c → IsAside first redo files c
  aside_step at n d c behind was step =
      let torn = torn_behind at n was.closed.gate was.closed.rest (c redo) behind (subst (λ (l : List ℕ). Torn at n l (c redo)) was.closed.is step.here) in
      record {
        same = λ f low lt. step.others f (apart f redo lt) ∙ was.same f low lt;
        root = λ after. step.others ROOT (λ is. omega (arith, after, is)) ∙ was.root after;
        closed = record { gate = was.closed.gate; rest = torn.0; is = torn.1; closed = was.closed.closed };
      }

  -- steps 2 and 4
  pub gated_step : (rest : List ℕ) (d c : Image) → IsGated first redo files rest d → OnFile redo (Torn 0 1) d c → IsGated first redo files rest c
  gated_step rest d c was step =
      let torn = torn_gate was.gate rest (c redo) (subst (λ (l : List ℕ). Torn 0 1 l (c redo)) was.is step.here) in
      record {
        same = λ f low lt. step.others f (apart f redo lt) ∙ was.same f low lt;
        root = λ after. step.others ROOT (λ is. omega (arith, after, is)) ∙ was.root after;
        gate = torn.0;
        is = torn.1;
      }

  -- step 3
  pub will_be_step : (ws : List Write) (file : List ℕ) (f at n : ℕ) (d c : Image) → first ≤ f → f < redo → Covers (into f ws) at n
      → WillBe first redo files ws file d → OnFile f (Torn at n) d c → WillBe first redo files ws file c
  will_be_step ws file f at n d c low high covers was step = record {
    file_is = step.others redo (λ is. omega (arith, high, is)) ∙ was.file_is;
    root = λ after. step.others ROOT (λ is. omega (arith, after, high, is)) ∙ was.root after;
    same = λ g ge lt. ⊎_elim
        (λ (is : g ≡ f). subst (λ h. overlaid (into h ws) (c h) ≡ overlaid (into h ws) (d h)) (sym is)
        (torn_overlaid (into f ws) at n (d f) (c f) covers (was.fits f low high) step.here))
        (λ ne. ap (λ (b : List ℕ). overlaid (into g ws) b) (step.others g ne))
        (cases_eq g f) ∙ was.same g ge lt;
    fits = λ g ge lt. ⊎_elim
        (λ (is : g ≡ f). subst (λ h. WritesFit (into h ws) (length (c h))) (sym is) (fits_more (into f ws) _ _ step.here.no_shorter (was.fits f low high)))
        (λ ne. subst (λ (b : List ℕ). WritesFit (into g ws) (length b)) (sym (step.others g ne)) (was.fits g ge lt))
        (cases_eq g f);
  }

-- Images with the same files, and redo files that say the same, stand alike.
use Rattle.std.proofs.Common.{◌≡◌, ◌⊎◌, inl, inr, ⊎_elim, ℕ, ◌<◌, ◌≤◌, List, [], length, refl, sym, ◌∙◌, ap, subst, arith, length-append}
use Rattle.std.specs.Int.{w64, to_le_bytes}
use Rattle.el_outside.specs.Disk.{Image}
use Rattle.el_redone.specs.Redone.{Write, overlaid, WritesFit, into, IsClosed, Waits, ImageStandsFor, StandsAlike, record_bytes}
use Rattle.el_pages.specs.declared.layout.Layout.{Layout}
use Rattle.el_pages.specs.Layouts.{redo_of}
use Rattle.el_pages.specs.Records.{Spells}

long_record : (body : List ℕ) → 8 ≤ length (record_bytes body)
unfolding record_bytes
long_record body = omega (arith, length-append (to_le_bytes w64 (length body)) body)

-- a redo file of fewer than two bytes has no record
no_record : (l : Layout) (file : List ℕ) (ws : List Write) → length file < 2 → Waits (Spells l) file ws → ⊥
no_record l file ws short waits = omega (arith, short, long_record waits.body, ap (λ (b : List ℕ). length b) waits.is, length-append (record_bytes waits.body) waits.stale)

module _ (l : Layout) (files d c : Image) (others : (f : ℕ) → l.first ≤ f → f < redo_of l → c f ≡ d f) where
  begun_same : c (redo_of l) ≡ d (redo_of l) → ImageStandsFor (Spells l) l.first (redo_of l) files d → ImageStandsFor (Spells l) l.first (redo_of l) files c
  begun_same here stands = record {
    writes = stands.writes;
    pending = ⊎_elim
        (λ none. inl (⊎_elim (λ (short : length (d (redo_of l)) < 2). inl (omega (arith, short, ap (λ (b : List ℕ). length b) here))) (λ closed. inr (subst (λ (b : List ℕ). IsClosed b) (sym here) closed)) none.0, none.1))
        (λ waits. inr (record { body = waits.body; stale = waits.stale; is = here ∙ waits.is; spelled = waits.spelled }))
        stands.pending;
    same = λ f low lt. ap (λ (b : List ℕ). overlaid (into f stands.writes) b) (others f low lt) ∙ stands.same f low lt;
    fits = λ f low lt. subst (λ (b : List ℕ). WritesFit (into f stands.writes) (length b)) (sym (others f low lt)) (stands.fits f low lt);
  }

  begun_short : length (d (redo_of l)) < 2 → length (c (redo_of l)) < 2 → ImageStandsFor (Spells l) l.first (redo_of l) files d → ImageStandsFor (Spells l) l.first (redo_of l) files c
  begun_short was now stands =
      let none : stands.writes ≡ [] = ⊎_elim (λ closed. closed.1) (λ waits. absurd (no_record l (d (redo_of l)) stands.writes was waits)) stands.pending in
      record {
        writes = [];
        pending = inl (inl now, refl);
        same = λ f low lt. others f low lt ∙ sym (ap (λ (w : List Write). overlaid (into f w) (d f)) none) ∙ stands.same f low lt;
        fits = λ f low lt. tt;
      }

  pub begun_stands : (c (redo_of l) ≡ d (redo_of l)) ⊎ ((length (d (redo_of l)) < 2) × (length (c (redo_of l)) < 2))
      → ImageStandsFor (Spells l) l.first (redo_of l) files d → ImageStandsFor (Spells l) l.first (redo_of l) files c
  begun_stands here stands = ⊎_elim (λ same. begun_same same stands) (λ short. begun_short short.0 short.1 stands) here

pub begun_alike : (l : Layout) (d c : Image) → ((f : ℕ) → l.first ≤ f → f < redo_of l → c f ≡ d f)
    → (c (redo_of l) ≡ d (redo_of l)) ⊎ ((length (d (redo_of l)) < 2) × (length (c (redo_of l)) < 2)) → StandsAlike (Spells l) l.first (redo_of l) d c
begun_alike l d c others here = record {
  there = λ files stands. begun_stands l files d c others here stands;
  back = λ files stands. begun_stands l files c d (λ f low lt. sym (others f low lt)) (⊎_elim (λ same. inl (sym same)) (λ short. inr (short.1, short.0)) here) stands;
}

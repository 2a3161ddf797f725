-- What the images of each step stand for.
use Rattle.std.proofs.Common.{◌≡◌, ◌⊎◌, inl, inr, ⊎_elim, ℕ, ◌<◌, ◌≤◌, List, [], ◌∷◌, ◌++◌, length, refl, sym, ◌∙◌, ap, subst}
use Rattle.std.proofs.lemmas.Bool.{cases_eq}
use Rattle.el_outside.specs.Disk.{Image}
use Rattle.el_redone.specs.Redone.{Write, overlaid, WritesFit, into, IsClosed, ImageStandsFor, record_bytes}
use Rattle.el_redone.specs.Steps.{IsAside, IsGated, WillBe}
use Rattle.el_redone.proofs.Writes.{overlaid_twice, fits_overlaid}
use Rattle.el_pages.specs.declared.layout.Layout.{Layout}
use Rattle.el_pages.specs.Layouts.{redo_of}
use Rattle.el_pages.specs.Records.{Spells}

module _ (l : Layout) (files : Image) where
  -- a closed gate: the files as they are
  pub stands_shut : (c : Image) → IsClosed (c (redo_of l)) → ((f : ℕ) → l.first ≤ f → f < redo_of l → c f ≡ files f) → ImageStandsFor (Spells l) l.first (redo_of l) files c
  stands_shut c closed same = record {
    writes = [];
    pending = inl (inr closed, refl);
    same = same;
    fits = λ f low lt. tt;
  }

  -- an open gate with a whole record: what it makes of the files
  pub stands_open : (c : Image) (body stale : List ℕ) (ws : List Write) → Spells l body ws → c (redo_of l) ≡ 1 ∷ (record_bytes body ++ stale)
      → ((f : ℕ) → l.first ≤ f → f < redo_of l → overlaid (into f ws) (c f) ≡ files f) → ((f : ℕ) → l.first ≤ f → f < redo_of l → WritesFit (into f ws) (length (c f)))
      → ImageStandsFor (Spells l) l.first (redo_of l) files c
  stands_open c body stale ws spelled is same fits = record {
    writes = ws;
    pending = inr (record { body = body; stale = stale; is = is; spelled = spelled });
    same = same;
    fits = fits;
  }

  pub aside_stands : (c : Image) → IsAside l.first (redo_of l) files c → ImageStandsFor (Spells l) l.first (redo_of l) files c
  aside_stands c aside = stands_shut c aside.closed aside.same

  -- a gate of which nothing is known: the files, or what the record makes of them
  pub gated_stands : (body stale : List ℕ) (ws : List Write) (c : Image) → Spells l body ws → ((f : ℕ) → l.first ≤ f → f < redo_of l → WritesFit (into f ws) (length (files f)))
      → IsGated l.first (redo_of l) files (record_bytes body ++ stale) c
      → ImageStandsFor (Spells l) l.first (redo_of l) files c ⊎ ImageStandsFor (Spells l) l.first (redo_of l) (λ f. overlaid (into f ws) (files f)) c
  gated_stands body stale ws c spelled fits gated = ⊎_elim
      (λ (one : gated.gate ≡ 1). inr (record {
        writes = ws;
        pending = inr (record { body = body; stale = stale; is = gated.is ∙ ap (λ h. h ∷ (record_bytes body ++ stale)) one; spelled = spelled });
        same = λ f low lt. ap (λ (b : List ℕ). overlaid (into f ws) b) (gated.same f low lt);
        fits = λ f low lt. subst (λ (b : List ℕ). WritesFit (into f ws) (length b)) (sym (gated.same f low lt)) (fits f low lt);
      }))
      (λ closed. inl (stands_shut c (record { gate = gated.gate; rest = record_bytes body ++ stale; is = gated.is; closed = closed }) gated.same))
      (cases_eq gated.gate 1)

  pub will_stand : (body stale : List ℕ) (ws : List Write) (c : Image) → Spells l body ws → WillBe l.first (redo_of l) files ws (1 ∷ (record_bytes body ++ stale)) c
      → ImageStandsFor (Spells l) l.first (redo_of l) files c
  will_stand body stale ws c spelled will = stands_open c body stale ws spelled will.file_is will.same will.fits

-- once the record's rows are written, whatever the gate is
pub settled_stands : (l : Layout) (files : Image) (body stale : List ℕ) (ws : List Write) (c : Image) → Spells l body ws → ((f : ℕ) → l.first ≤ f → f < redo_of l → WritesFit (into f ws) (length (files f)))
    → IsGated l.first (redo_of l) (λ f. overlaid (into f ws) (files f)) (record_bytes body ++ stale) c
    → ImageStandsFor (Spells l) l.first (redo_of l) (λ f. overlaid (into f ws) (files f)) c
settled_stands l files body stale ws c spelled fits gated = ⊎_elim
    (λ (one : gated.gate ≡ 1). record {
      writes = ws;
      pending = inr (record { body = body; stale = stale; is = gated.is ∙ ap (λ h. h ∷ (record_bytes body ++ stale)) one; spelled = spelled });
      same = λ f low lt. ap (λ (b : List ℕ). overlaid (into f ws) b) (gated.same f low lt) ∙ overlaid_twice (into f ws) (files f) (fits f low lt);
      fits = λ f low lt. subst (λ (b : List ℕ). WritesFit (into f ws) (length b)) (sym (gated.same f low lt)) (fits_overlaid (into f ws) (files f) (fits f low lt));
    })
    (λ closed. stands_shut l (λ f. overlaid (into f ws) (files f)) c (record { gate = gated.gate; rest = record_bytes body ++ stale; is = gated.is; closed = closed }) gated.same)
    (cases_eq gated.gate 1)

-- The meta row, written after the changed rows.
use Rattle.std.proofs.Common.{◌≡◌, ◌≢◌, ⊎_elim, ℕ, ◌+◌, ◌<◌, ◌≤◌, max, List, [], ◌∷◌, ◌++◌, length, map, refl, sym, ◌∙◌, ap, subst}
use Rattle.std.proofs.lemmas.Bool.{cases_eq}
use Rattle.el_outside.specs.Disk.{Image, over}
use Rattle.el_rows.specs.Changes.{Changes}
use Rattle.el_redone.specs.Redone.{Write, overlaid, WritesFit, into, Covers}
use Rattle.el_redone.proofs.Writes.{into_here, into_other, into_append, overlaid_append, covers_one}
use Rattle.el_pages.specs.declared.layout.TheConstants.{FORMAT_2}
use Rattle.el_pages.specs.Records.{write_of, writes_of}
use Rattle.el_pages.proofs.Laid.{into_meta}

fits_front : (xs ys : List Write) (m : ℕ) → WritesFit (xs ++ ys) m → WritesFit xs m
fits_front [] ys m fits = tt
fits_front (x ∷ xs) ys m fits = (fits.0, fits_front xs ys (max m (x.at + length x.bytes)) fits.1)

abbrev pub meta_write : List ℕ → Write
meta_write meta = record { file = 20; at = 0; bytes = meta }

module _ (meta : List ℕ) (changes : Changes) where
  split : (f : ℕ) → into f (writes_of FORMAT_2 meta changes) ≡ into f (map (write_of FORMAT_2) changes) ++ into f (meta_write meta ∷ [])
  split f = into_append (map (write_of FORMAT_2) changes) (meta_write meta ∷ []) f

  pub rows_first : (f m : ℕ) → WritesFit (into f (writes_of FORMAT_2 meta changes)) m → WritesFit (into f (map (write_of FORMAT_2) changes)) m
  rows_first f m fits = fits_front (into f (map (write_of FORMAT_2) changes)) (into f (meta_write meta ∷ [])) m (subst (λ (w : List Write). WritesFit w m) (split f) fits)

  pub meta_covered : Covers (into 20 (writes_of FORMAT_2 meta changes)) 0 (length meta)
  meta_covered = covers_one (into 20 (writes_of FORMAT_2 meta changes)) [] (meta_write meta) [] (into_meta FORMAT_2 meta changes)

  -- the meta row over files that have the changed rows
  pub meta_last : (start mid now : Image) → ((f : ℕ) → 20 ≤ f → f < 29 → mid f ≡ overlaid (into f (map (write_of FORMAT_2) changes)) (start f)) → now 20 ≡ over (mid 20) 0 meta → ((f : ℕ) → f ≢ 20 → now f ≡ mid f)
      → (f : ℕ) → 20 ≤ f → f < 29 → now f ≡ overlaid (into f (writes_of FORMAT_2 meta changes)) (start f)
  meta_last start mid now rows here others f low lt =
      one f
      ∙ ap (λ (b : List ℕ). overlaid (into f (meta_write meta ∷ [])) b) (rows f low lt)
      ∙ sym (ap (λ (w : List Write). overlaid w (start f)) (split f) ∙ overlaid_append (into f (map (write_of FORMAT_2) changes)) (into f (meta_write meta ∷ [])) (start f))
    where
      one : (g : ℕ) → now g ≡ overlaid (into g (meta_write meta ∷ [])) (mid g)
      one g = ⊎_elim
          (λ (is : g ≡ 20). subst (λ h. now h ≡ overlaid (into h (meta_write meta ∷ [])) (mid h)) (sym is) (here ∙ sym (ap (λ (w : List Write). overlaid w (mid 20)) (into_here (meta_write meta) [] 20 refl))))
          (λ (ne : g ≢ 20). others g ne ∙ sym (ap (λ (w : List Write). overlaid w (mid g)) (into_other (meta_write meta) [] g (λ e. ne (sym e)))))
          (cases_eq g 20)

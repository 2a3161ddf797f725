-- An image stands for one list of bytes in each file, so two that stand for the same files stand alike.
use Rattle.std.proofs.Common.{◌≡◌, ⊎_elim, ◌<◌, ◌≤◌, ◌^◌, ℕ, List, length, ap, sym, ◌∙◌}
use Rattle.el_outside.specs.Disk.{Image}
use Rattle.el_redone.specs.Redone.{Write, overlaid, into, Waits, Pending, ImageStandsFor, StandsAlike}
use Rattle.el_pages.specs.declared.layout.Layout.{Layout}
use Rattle.el_pages.specs.Layouts.{redo_of}
use Rattle.el_pages.specs.Records.{Spells}
use Rattle.el_recovery.proofs.Spelled.{one_pending}

module _ (l : Layout) where
  one_writes : (file : List ℕ) (ws vs : List Write) → length file < 2 ^ 62 → Pending (Spells l) file ws → Pending (Spells l) file vs → ws ≡ vs
  one_writes file ws vs small a b = ⊎_elim
      (λ none. ⊎_elim
      (λ also. none.1 ∙ sym also.1)
      (λ (waits : Waits (Spells l) file vs). one_pending l file waits.body waits.stale vs ws small waits.is waits.spelled a)
      b)
      (λ (waits : Waits (Spells l) file ws). sym (one_pending l file waits.body waits.stale ws vs small waits.is waits.spelled b))
      a

  -- the files for which an image stands
  pub one_stands : (image a b : Image) → length (image (redo_of l)) < 2 ^ 62 → ImageStandsFor (Spells l) l.first (redo_of l) a image → ImageStandsFor (Spells l) l.first (redo_of l) b image
      → (f : ℕ) → l.first ≤ f → f < redo_of l → a f ≡ b f
  one_stands image a b small x y f low lt =
      sym (x.same f low lt)
      ∙ ap (λ (w : List Write). overlaid (into f w) (image f)) (one_writes (image (redo_of l)) x.writes y.writes small x.pending y.pending)
      ∙ y.same f low lt

  stands_for_same : (image a b : Image) → ((f : ℕ) → l.first ≤ f → f < redo_of l → a f ≡ b f) → ImageStandsFor (Spells l) l.first (redo_of l) a image → ImageStandsFor (Spells l) l.first (redo_of l) b image
  stands_for_same image a b same stands = record {
    writes = stands.writes;
    pending = stands.pending;
    same = λ f low lt. stands.same f low lt ∙ same f low lt;
    fits = stands.fits;
  }

  -- two that stand for these files
  pub both_stand : (files a b : Image) → length (a (redo_of l)) < 2 ^ 62 → length (b (redo_of l)) < 2 ^ 62
      → ImageStandsFor (Spells l) l.first (redo_of l) files a → ImageStandsFor (Spells l) l.first (redo_of l) files b → StandsAlike (Spells l) l.first (redo_of l) a b
  both_stand files a b small less x y = record {
    there = λ other stands. stands_for_same b files other (one_stands a files other small x stands) y;
    back = λ other stands. stands_for_same a files other (one_stands b files other less y stands) x;
  }

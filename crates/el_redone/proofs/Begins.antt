-- What the first steps of an opening leave.
use Rattle.std.proofs.Common.{◌≡◌, inl, inr, ℕ, ◌<◌, ◌≤◌, List, [], ◌∷◌, length, refl, sym, ◌∙◌, ap, arith}
use Rattle.std.proofs.lemmas.List.{drop_all}
use Rattle.el_outside.specs.declared.disk.Disk as disk
use Rattle.el_outside.specs.Disk.{Image, over, Torn, OnFile, OnDisk, Follows}
use Rattle.el_outside.specs.Moments.{LeftNow, Passes}
use Rattle.el_outside.proofs.Moments.{weaker, one_call}
use Rattle.el_redone.specs.Steps.{Leaves, IsBegun}

-- a short file with a byte 0 over it
pub begun_file : (file : List ℕ) → length file < 2 → over file 0 (0 ∷ []) ≡ 0 ∷ []
begun_file file short = ap (λ (l : List ℕ). 0 ∷ l) (drop_all 1 file (omega (arith, short)))

module _ {D : Type 0} (G : disk.Ghosts D) (redo : ℕ)
    (earlier : (d : D) (t u : ℕ) (c : Image) → t ≤ u → G.left_since d u c → G.left_since d t c) where
  -- what is begun after a run that left nothing new
  pub begun_later : (old mid new : D) → ((c : Image) → LeftNow G.moment G.left_since mid c → LeftNow G.moment G.left_since old c)
      → Leaves G (IsBegun G redo mid) mid new → Leaves G (IsBegun G redo old) mid new
  begun_later old mid new fewer run = weaker G.moment G.left_since mid new (IsBegun G redo mid) (IsBegun G redo old)
      (λ c b. record { from = b.from; left = fewer b.from b.left; others = b.others; here = b.here }) run

  -- a run that left nothing new
  pub begun_still : (old new : D) → Leaves G (LeftNow G.moment G.left_since old) old new → Leaves G (IsBegun G redo old) old new
  begun_still old new run = weaker G.moment G.left_since old new (LeftNow G.moment G.left_since old) (IsBegun G redo old)
      (λ c left. record { from = c; left = left; others = λ f ne. refl; here = inl refl }) run

  -- the byte is written over a short file
  pub begun_write : (old new : D) → length (G.seen old redo) < 2 → OnDisk redo (G.seen old) (LeftNow G.moment G.left_since old) → Passes G.moment G.left_since old new
      → Follows (OnFile redo (Torn 0 1)) (LeftNow G.moment G.left_since old) (LeftNow G.moment G.left_since new) → Leaves G (IsBegun G redo old) old new
  begun_write old new short on_disk passes follows = one_call G.moment G.left_since old new (IsBegun G redo old) (LeftNow G.moment G.left_since new) passes.time
      (λ c left. record { from = c; left = left; others = λ f ne. refl; here = inl refl })
      (λ c left.
      let from = follows c left in
      let was : length (from.0 redo) < 2 = omega (arith, ap (λ (b : List ℕ). length b) (on_disk from.0 from.1), short) in
      record {
        from = from.0;
        left = from.1;
        others = from.2.others;
        here = inr (was, omega (arith, from.2.here.no_longer, was));
      })

-- files that are on the disk stay there through calls that leave nothing new and show the same
pub still_on_disk : {D : Type 0} (G : disk.Ghosts D) (f : ℕ) (old new : D) → ((c : Image) → LeftNow G.moment G.left_since new c → LeftNow G.moment G.left_since old c) → G.seen new f ≡ G.seen old f
    → OnDisk f (G.seen old) (LeftNow G.moment G.left_since old) → OnDisk f (G.seen new) (LeftNow G.moment G.left_since new)
still_on_disk G f old new fewer same on_disk c left = on_disk c (fewer c left) ∙ sym same

-- What images stand for whose files are the same.
use Rattle.std.proofs.Common.{◌≡◌, ◌⊎◌, inl, inr, ⊎_elim, ◌<◌, ◌≤◌, ℕ, List, [], ◌∷◌, take, refl, ap, sym, subst, ◌∙◌, arith}
use Rattle.std.proofs.lemmas.Bool.{cases_eq}
use Rattle.el_outside.specs.declared.disk.Disk as disk
use Rattle.el_outside.specs.Disk.{Image, OnFile}
use Rattle.el_outside.specs.Moments.{LeftNow}
use Rattle.el_outside.proofs.Moments.{weaker}
use Rattle.el_redone.specs.Steps.{EachNow, Leaves}
use Rattle.el_chain.specs.Chains.{Chain}
use Rattle.el_redone.specs.declared.steps.TheConstants.{ROOT}
use Rattle.el_pages.specs.declared.layout.TheConstants.{FORMAT_1, FORMAT_2}
use Rattle.el_pages.specs.Indexes.{IsRooted}
use Rattle.el_recovery.proofs.Opens.{begun_stands}
use Rattle.el_migrate.specs.ImageChains.{StandsOld, StandsNew, ImageStands, StandsForOne}
use Rattle.el_migrate.specs.within.Moving.{HasOldFiles}
use Rattle.el_migrate.specs.within.Rooting.{HasBothFiles, HasNewFiles}

-- the root of an image that has this root
pub rooted_same : (a b : Image) → a ROOT ≡ b ROOT → IsRooted b → IsRooted a
rooted_same a b same rooted = subst (λ (x : List ℕ). take 1 x ≡ 2 ∷ []) (sym same) rooted

-- whether format 2 is live
pub rooted_or_not : (image : Image) → IsRooted image ⊎ (IsRooted image → ⊥)
rooted_or_not image = by (image ROOT)
  where
    by : (b : List ℕ) → (take 1 b ≡ 2 ∷ []) ⊎ (take 1 b ≡ 2 ∷ [] → ⊥)
    by [] = inr (λ e. cc)
    by (x ∷ rest) = ⊎_elim
        (λ (is : x ≡ 2). inl (ap (λ y. y ∷ []) is))
        (λ ne. inr (λ (e : x ∷ [] ≡ 2 ∷ []). ne (ap (λ (l : List ℕ). first l) e)))
        (cases_eq x 2)
      where
        first : List ℕ → ℕ
        first [] = 0
        first (y ∷ ys) = y

module _ (magic : List ℕ) (files image : Image) (chain : Chain) where
  -- format 1's files are the same
  pub old_there : ((f : ℕ) → f ≤ 9 → image f ≡ files f) → (IsRooted image → ⊥) → (old : StandsOld magic files chain) → StandsOld magic image chain
  old_there same unrooted old = record {
    unrooted = unrooted;
    tables = old.tables;
    shows = record {
      files = old.shows.files;
      stands = begun_stands FORMAT_1 old.shows.files files image (λ f low lt. same f (omega (arith, lt))) (inl (same 9 (omega arith))) old.shows.stands;
      counts = old.shows.counts;
      has = old.shows.has;
      same = old.shows.same;
    };
    stand = old.stand;
  }

  -- and the root
  pub old_same : HasOldFiles files image → StandsOld magic files chain → StandsOld magic image chain
  old_same same old = old_there same.same (λ rooted. old.unrooted (subst (λ (b : List ℕ). take 1 b ≡ 2 ∷ []) same.root rooted)) old

  -- format 2's files are the same
  pub new_there : ((f : ℕ) → 20 ≤ f → f < 30 → image f ≡ files f) → IsRooted image → (new : StandsNew magic files chain) → StandsNew magic image chain
  new_there same rooted new = record {
    rooted = rooted;
    bits = new.bits;
    may_be = new.may_be;
    tables = new.tables;
    shows = record {
      files = new.shows.files;
      stands = begun_stands FORMAT_2 new.shows.files files image (λ f low lt. same f low (omega (arith, lt))) (inl (same 29 (omega arith) (omega arith))) new.shows.stands;
      counts = new.shows.counts;
      has = new.shows.has;
      same = new.shows.same;
    };
    stand = new.stand;
  }

-- an image with the files of both formats stands for the chain, whatever its root is
pub both_stand : (magic : List ℕ) (files image : Image) (chain : Chain) → StandsOld magic files chain → (IsRooted image → StandsNew magic image chain)
    → ((f : ℕ) → f ≤ 9 → image f ≡ files f) → ImageStands magic image chain
both_stand magic files image chain old made same = ⊎_elim
    (λ rooted. inl (made rooted))
    (λ unrooted. inr (old_there magic files image chain same unrooted old))
    (rooted_or_not image)

-- a step of a file that is none of format 1's, nor the root
pub old_kept : (files d c : Image) (file : ℕ) (step : List ℕ → List ℕ → Type 0) → 9 < file → (ROOT ≡ file → ⊥) → HasOldFiles files d → OnFile file step d c → HasOldFiles files c
old_kept files d c file step high ne was on = record {
  same = λ f le. on.others f (λ is. omega (arith, is, le, high)) ∙ was.same f le;
  root = on.others ROOT ne ∙ was.root;
}

-- a step of the root
pub root_kept : (files d c : Image) (step : List ℕ → List ℕ → Type 0) → HasBothFiles files d → OnFile ROOT step d c → HasBothFiles files c
root_kept files d c step was on = record {
  old = λ f le. on.others f (λ is. omega (arith, is, le)) ∙ was.old f le;
  new = λ f low lt. on.others f (λ is. omega (arith, is, lt)) ∙ was.new f low lt;
}

module _ {D : Type 0} (G : disk.Ghosts D) (old : D) where
  -- an image that a crash might have left
  pub new_self : EachNow G (HasNewFiles G old) old
  new_self c left = record { from = c; left = left; same = λ f high. refl }

  -- a step of a file of format 1
  pub new_kept : (d c : Image) (file : ℕ) (step : List ℕ → List ℕ → Type 0) → file ≤ 9 → HasNewFiles G old d → OnFile file step d c → HasNewFiles G old c
  new_kept d c file step le was on = record {
    from = was.from;
    left = was.left;
    same = λ f high. on.others f (λ is. omega (arith, is, high, le)) ∙ was.same f high;
  }

  -- one run after another
  pub new_again : (mid new : D) → EachNow G (HasNewFiles G old) mid → Leaves G (HasNewFiles G mid) mid new → Leaves G (HasNewFiles G old) mid new
  new_again mid new each run = weaker G.moment G.left_since mid new (HasNewFiles G mid) (HasNewFiles G old) (λ c now.
      let was = each now.from now.left in
      record { from = was.from; left = was.left; same = λ f high. now.same f high ∙ was.same f high }) run

-- the disk was read
pub read_leaves : {D : Type 0} (G : disk.Ghosts D) (P : Image → Type 0) (old new : D) → Leaves G (LeftNow G.moment G.left_since old) old new → EachNow G P old → Leaves G P old new
read_leaves G P old new run each = weaker G.moment G.left_since old new (LeftNow G.moment G.left_since old) P each run

-- once format 2 is live in each image, dropping format 1's files changes nothing
module _ {D : Type 0} (G : disk.Ghosts D) (magic : List ℕ) (old new : D) (rooted : EachNow G (λ (image : Image). IsRooted image) old) where
  dropped_root : (c : Image) → HasNewFiles G old c → IsRooted c
  dropped_root c new_files = subst (λ (b : List ℕ). take 1 b ≡ 2 ∷ []) (sym (new_files.same ROOT (omega arith))) (rooted new_files.from new_files.left)

  dropped_for : (e : Chain) (c : Image) (new_files : HasNewFiles G old c) → ImageStands magic new_files.from e → ImageStands magic c e
  dropped_for e c new_files (inl stands) = inl (new_there magic new_files.from c e (λ f low lt. new_files.same f (omega (arith, low))) (dropped_root c new_files) stands)
  dropped_for e c new_files (inr stands) = absurd (stands.unrooted (rooted new_files.from new_files.left))

  module _ (run : Leaves G (HasNewFiles G old) old new) where
    pub dropped_one : (a b : Chain) → EachNow G (StandsForOne magic a b) old → Leaves G (StandsForOne magic a b) old new
    dropped_one a b each = weaker G.moment G.left_since old new (HasNewFiles G old) (StandsForOne magic a b) (λ c now.
        ⊎_elim (λ x. inl (dropped_for a c now x)) (λ x. inr (dropped_for b c now x)) (each now.from now.left)) run

    pub dropped_rooted : Leaves G (λ (image : Image). IsRooted image) old new
    dropped_rooted = weaker G.moment G.left_since old new (HasNewFiles G old) (λ (image : Image). IsRooted image) dropped_root run

-- what a disk stands for once format 1's files were dropped
pub dropped_stands : (magic : List ℕ) (old new : Image) (e : Chain) → IsRooted old → ((f : ℕ) → 9 < f → new f ≡ old f) → ImageStands magic old e → ImageStands magic new e
dropped_stands magic old new e rooted same (inl stands) =
    inl (new_there magic old new e (λ f low lt. same f (omega (arith, low))) (subst (λ (b : List ℕ). take 1 b ≡ 2 ∷ []) (sym (same ROOT (omega arith))) rooted) stands)
dropped_stands magic old new e rooted same (inr stands) = absurd (stands.unrooted rooted)

-- The steps before the opening of format 2, and that opening: what images stand for, one after another.
use Rattle.std.proofs.Common.{◌≡◌, ◌⊎◌, inl, inr, ⊎_elim, ◌<◌, ◌≤◌, ℕ, List, refl, ap, sym, subst, ◌∙◌, arith}
use Rattle.el_outside.specs.declared.disk.Disk as disk
use Rattle.el_outside.specs.Disk.{Image, OnDisk}
use Rattle.el_outside.specs.Moments.{LeftNow}
use Rattle.el_outside.proofs.Moments.{weaker, joined}
use Rattle.el_chain.specs.Chains.{Chain}
use Rattle.el_row_formats.specs.Tables.{Tables}
use Rattle.el_redo.specs.declared.faults.OpenFault.{OpenFault}
use Rattle.el_redo.specs.declared.faults.OpenFault.TheVariants as fault
use Rattle.el_redone.specs.Redone.{StandsAlike}
use Rattle.el_redone.specs.Steps.{EachNow, Leaves, IsAlike}
use Rattle.el_redone.specs.declared.steps.TheConstants.{ROOT}
use Rattle.el_redone.proofs.Runs.{now_has}
use Rattle.el_pages.specs.declared.layout.Layout.{Layout}
use Rattle.el_pages.specs.declared.layout.TheConstants.{FORMAT_1, FORMAT_2}
use Rattle.el_pages.specs.Layouts.{redo_of}
use Rattle.el_pages.specs.Records.{Spells}
use Rattle.el_pages.specs.Indexes.{IsRooted}
use Rattle.el_recovery.specs.Checks.{Found, bad_index, IsBadBody}
use Rattle.el_recovery.proofs.Opens.{begun_alike}
use Rattle.el_migrate.specs.ImageChains.{ImageStands, StandsForOne, IsOldIndex, IsNoIndex, IsLike, IsLikeOne, IsOtherFile}
use Rattle.el_migrate.specs.within.Ready.{IsBadOld, IsReady, IsOpeningRefused, KeepsAll}
use Rattle.el_migrate.specs.within.Rooting.{HasNewFiles}
use Rattle.el_migrate.proofs.Images.{rooted_same, read_leaves, dropped_one, dropped_rooted, dropped_stands}
use Rattle.el_migrate.proofs.SameFiles.{index_with}

-- ---- images that are like others

alike_self : (l : Layout) (c : Image) → StandsAlike (Spells l) l.first (redo_of l) c c
alike_self l c = record { there = λ files s. s; back = λ files s. s }

alike_then : (l : Layout) (a b c : Image) → StandsAlike (Spells l) l.first (redo_of l) a b → StandsAlike (Spells l) l.first (redo_of l) b c → StandsAlike (Spells l) l.first (redo_of l) a c
alike_then l a b c x y = record { there = λ files s. y.there files (x.there files s); back = λ files s. x.back files (y.back files s) }

like_self : (c : Image) → IsLike c c
like_self c = record { root = refl; new = λ r. alike_self FORMAT_2 c; old = λ u. alike_self FORMAT_1 c }

like_then : (a b c : Image) → IsLike a b → IsLike b c → IsLike a c
like_then a b c x y = record {
  root = y.root ∙ x.root;
  new = λ r. alike_then FORMAT_2 a b c (x.new r) (y.new (rooted_same b a x.root r));
  old = λ u. alike_then FORMAT_1 a b c (x.old u) (y.old (λ r. u (rooted_same a b (sym x.root) r)));
}

-- format 2 is live, and its files are the same
like_new : (from c : Image) → IsRooted from → ((f : ℕ) → 9 < f → c f ≡ from f) → IsLike from c
like_new from c rooted same = record {
  root = same ROOT (omega arith);
  new = λ r. begun_alike FORMAT_2 from c (λ f low lt. same f (omega (arith, low))) (inl (same 29 (omega arith)));
  old = λ u. absurd (u rooted);
}

pub beyond_old : (f : ℕ) → IsOtherFile f → 9 < f
beyond_old f (inl at) = at.0
beyond_old f (inr at) = omega (arith, at)

module _ {D : Type 0} (G : disk.Ghosts D) (earlier : (d : D) (t u : ℕ) (c : Image) → t ≤ u → G.left_since d u c → G.left_since d t c) where
  pub like_now : (old : D) → EachNow G (IsLikeOne G old) old
  like_now old c left = record { from = c; left = left; like = like_self c }

  like_after : (old mid : D) → EachNow G (IsLikeOne G old) mid → (c : Image) → IsLikeOne G mid c → IsLikeOne G old c
  like_after old mid each c x =
      let was = each x.from x.left in
      record { from = was.from; left = was.left; like = like_then was.from x.from c was.like x.like }

  module _ (magic : List ℕ) (old mid : D) where
    -- ---- the disk was read, or synced

    pub keeps_read : Leaves G (LeftNow G.moment G.left_since old) old mid → ((f : ℕ) → IsOtherFile f → G.seen mid f ≡ G.seen old f) → KeepsAll G magic old mid
    keeps_read run same = record {
      crash = λ a b each. read_leaves G (StandsForOne magic a b) old mid run each;
      like = λ h. read_leaves G (IsLikeOne G old) old mid run (like_now old);
      later = run.later;
      others = same;
    }

    pub keeps_after : (new : D) → Leaves G (LeftNow G.moment G.left_since old) old mid → G.seen mid ≡ G.seen old → KeepsAll G magic mid new → KeepsAll G magic old new
    keeps_after new run seen rest = record {
      crash = λ a b each.
          let first = read_leaves G (StandsForOne magic a b) old mid run each in
          joined G.moment G.left_since old mid new (StandsForOne magic a b) first (rest.crash a b (now_has G earlier old mid (StandsForOne magic a b) first));
      like = λ h.
          let first = read_leaves G (IsLikeOne G old) old mid run (like_now old) in
          joined G.moment G.left_since old mid new (IsLikeOne G old) first
          (weaker G.moment G.left_since mid new (IsLikeOne G mid) (IsLikeOne G old) (like_after old mid (now_has G earlier old mid (IsLikeOne G old) first))
          (rest.like (subst (λ (image : Image). IsRooted image ⊎ IsNoIndex magic image) (sym seen) h)));
      later = omega (arith, run.later, rest.later);
      others = λ f at. rest.others f at ∙ ap (λ (s : Image). s f) seen;
    }

    module _ (keeps : KeepsAll G magic old mid) (rooted : EachNow G (λ (image : Image). IsRooted image) mid) (new : D) where
      -- ---- the files of format 1 are dropped

      pub keeps_dropped : Leaves G (HasNewFiles G mid) mid new → ((f : ℕ) → 9 < f → G.seen new f ≡ G.seen mid f) → KeepsAll G magic old new
      keeps_dropped run same = record {
        crash = λ a b each.
            let first = keeps.crash a b each in
            joined G.moment G.left_since old mid new (StandsForOne magic a b) first (dropped_one G magic mid new rooted run a b (now_has G earlier old mid (StandsForOne magic a b) first));
        like = λ h.
            let first = keeps.like h in
            joined G.moment G.left_since old mid new (IsLikeOne G old) first
            (weaker G.moment G.left_since mid new (HasNewFiles G mid) (IsLikeOne G old)
            (λ c x. like_after old mid (now_has G earlier old mid (IsLikeOne G old) first) c
            (record { from = x.from; left = x.left; like = like_new x.from c (rooted x.from x.left) x.same }))
            run);
        later = omega (arith, keeps.later, run.later);
        others = λ f at. same f (beyond_old f at) ∙ keeps.others f at;
      }

      -- ---- format 2 is opened

      opened_for : (e : Chain) (c : Image) (alike : IsAlike G (Spells FORMAT_2) 20 29 mid c) → ImageStands magic alike.from e → ImageStands magic c e
      opened_for e c alike (inl s) = inl (record {
        rooted = rooted_same c alike.from (alike.root (omega arith)) s.rooted;
        bits = s.bits;
        may_be = s.may_be;
        tables = s.tables;
        shows = record {
          files = s.shows.files;
          stands = alike.alike.there s.shows.files s.shows.stands;
          counts = s.shows.counts;
          has = s.shows.has;
          same = s.shows.same;
        };
        stand = s.stand;
      })
      opened_for e c alike (inr s) = absurd (s.unrooted (rooted alike.from alike.left))

      module _ (run : Leaves G (IsAlike G (Spells FORMAT_2) 20 29 mid) mid new) where
        pub opened_crash : (a b : Chain) → EachNow G (StandsForOne magic a b) old → Leaves G (StandsForOne magic a b) old new
        opened_crash a b each =
            let first = keeps.crash a b each in
            let here = now_has G earlier old mid (StandsForOne magic a b) first in
            joined G.moment G.left_since old mid new (StandsForOne magic a b) first
            (weaker G.moment G.left_since mid new (IsAlike G (Spells FORMAT_2) 20 29 mid) (StandsForOne magic a b)
            (λ c x. ⊎_elim (λ s. inl (opened_for a c x s)) (λ s. inr (opened_for b c x s)) (here x.from x.left))
            run)

        pub opened_like : IsRooted (G.seen old) ⊎ IsNoIndex magic (G.seen old) → Leaves G (IsLikeOne G old) old new
        opened_like h =
            let first = keeps.like h in
            joined G.moment G.left_since old mid new (IsLikeOne G old) first
            (weaker G.moment G.left_since mid new (IsAlike G (Spells FORMAT_2) 20 29 mid) (IsLikeOne G old)
            (λ c x. like_after old mid (now_has G earlier old mid (IsLikeOne G old) first) c
            (record { from = x.from; left = x.left; like = record { root = x.root (omega arith); new = λ r. x.alike; old = λ u. absurd (u (rooted x.from x.left)) } }))
            run)

    -- ---- format 2 is live already

    pub ready_live : (bits : ℕ) → Leaves G (LeftNow G.moment G.left_since old) old mid → G.seen mid ≡ G.seen old → IsRooted (G.seen old)
        → OnDisk ROOT (G.seen old) (LeftNow G.moment G.left_since old) → IsReady G magic bits (G.seen old) mid
    ready_live bits run seen live root = record {
      rooted = λ c left. rooted_same c (G.seen old) (root c (now_has G earlier old mid (LeftNow G.moment G.left_since old) run c left)) live;
      stays = λ r f high. ap (λ (s : Image). s f) seen;
      index = λ u. absurd (u live);
      sound = λ u found bad. u live;
      moved = λ u. absurd (u live);
      chain = λ e s. subst (λ (image : Image). ImageStands magic image e) (sym seen) s;
    }

  -- and stays so once the files of format 1 are dropped
  pub ready_dropped : (magic : List ℕ) (bits : ℕ) (was : Image) (mid new : D) → (reads : (d : D) → LeftNow G.moment G.left_since d (G.seen d)) → IsReady G magic bits was mid
      → Leaves G (HasNewFiles G mid) mid new → ((f : ℕ) → 9 < f → G.seen new f ≡ G.seen mid f) → IsReady G magic bits was new
  ready_dropped magic bits was mid new reads ready run same = record {
    rooted = now_has G earlier mid new (λ (image : Image). IsRooted image) (dropped_rooted G magic mid new ready.rooted run);
    stays = λ r f high. same f high ∙ ready.stays r f high;
    index = ready.index;
    sound = ready.sound;
    moved = λ u.
        let m = ready.moved u in
        let i = index_with magic (G.seen mid) (G.seen new) m.tables (λ f low lt. same f (omega (arith, low))) m.index in
        record { tables = m.tables; index = i.0; is = i.1 ∙ m.is };
    chain = λ e s. dropped_stands magic (G.seen mid) (G.seen new) e (ready.rooted (G.seen mid) (reads mid)) same (ready.chain e s);
  }

-- ---- what is refused

-- a call failed
pub refused_failed : (magic : List ℕ) (was now : Image) (e : OpenFault) → e ≡ fault.DiskFailed → IsOpeningRefused magic was now e
refused_failed magic was now e failed = record {
  live = λ r. failed;
  which = inl failed;
  is_bad = λ u found bad. inl failed;
  opens = λ u tables i. inl failed;
  untouched = λ u found body. inl failed;
}

-- what an image is that reads the same
pub refused_was : (magic : List ℕ) (a b now : Image) (e : OpenFault) → a ≡ b → IsOpeningRefused magic a now e → IsOpeningRefused magic b now e
refused_was magic a b now e same refused = subst (λ (was : Image). IsOpeningRefused magic was now e) same refused

-- format 1 isn't opened
pub refused_old : (magic : List ℕ) (was now : Image) (e : OpenFault) → (IsRooted was → ⊥)
    → (e ≡ fault.DiskFailed) ⊎ ((found : Found) × (e ≡ bad_index found) × IsBadOld magic was found)
    → ((found : Found) → IsBadOld magic was found → (e ≡ fault.DiskFailed) ⊎ (e ≡ bad_index found))
    → ((tables : Tables) → IsOldIndex magic was tables → e ≡ fault.DiskFailed)
    → ((found : Found) → IsBadBody FORMAT_1 was found → (e ≡ fault.DiskFailed) ⊎ (now ≡ was)) → IsOpeningRefused magic was now e
refused_old magic was now e unrooted bad is_bad opens untouched = record {
  live = λ r. absurd (unrooted r);
  which = ⊎_elim (λ failed. inl failed) (λ b. inr (inr b)) bad;
  is_bad = λ u found b. is_bad found b;
  opens = λ u tables i. inl (opens tables i);
  untouched = λ u found body. ⊎_elim (λ failed. inl failed) (λ same. inr (λ f. ap (λ (s : Image). s f) same)) (untouched found body);
}

-- it is opened, and isn't moved
pub refused_move : (magic : List ℕ) (was now : Image) (e : OpenFault) → (IsRooted was → ⊥) → (e ≡ fault.DiskFailed) ⊎ (e ≡ fault.Memory)
    → (tables : Tables) × IsOldIndex magic was tables → ((found : Found) → IsBadOld magic was found → ⊥) → IsOpeningRefused magic was now e
refused_move magic was now e unrooted which index sound = record {
  live = λ r. absurd (unrooted r);
  which = ⊎_elim (λ failed. inl failed) (λ m. inr (inl (m, index))) which;
  is_bad = λ u found b. absurd (sound found b);
  opens = λ u tables i. which;
  untouched = λ u found body. absurd (sound found (inl body));
}

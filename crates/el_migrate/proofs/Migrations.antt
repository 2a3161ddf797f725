-- What images stand for while an index of format 1 becomes one of format 2.
use Rattle.std.proofs.Common.{◌≡◌, ◌⊎◌, inl, inr, ⊎_elim, ◌<◌, ◌≤◌, ◌^◌, ℕ, List, length, Result, Ok, Err, OnOk, refl, sym, subst, ◌∙◌, arith}
use Rattle.std.proofs.Math.Path.{fun_ext}
use Rattle.std.proofs.lemmas.Bool.{cases_lt}
use Rattle.el_outside.specs.declared.disk.Disk as disk
use Rattle.el_outside.specs.Disk.{Image, OnDisk}
use Rattle.el_outside.specs.Moments.{LeftNow}
use Rattle.el_outside.proofs.Moments.{weaker, joined}
use Rattle.el_chain.specs.Chains.{Chain}
use Rattle.el_row_formats.specs.declared.table.Table.{Table}
use Rattle.el_row_formats.specs.declared.limits.TheConstants.{MIN_HEAD_BITS, MAX_HEAD_BITS}
use Rattle.el_rows.specs.Changes.{count_at}
use Rattle.el_redone.specs.Redone.{IsClosed, ImageStandsFor}
use Rattle.el_redone.specs.Steps.{EachNow, Leaves, AreOnDisk, IsAlike}
use Rattle.el_redone.specs.declared.steps.TheConstants.{ROOT}
use Rattle.el_redone.proofs.Runs.{now_has}
use Rattle.el_tables.specs.ChainLists.{ListedBlock, lists, listed_blocks}
use Rattle.el_tables.specs.Lists.{Lists}
use Rattle.el_tables.specs.Tables.{HeadCounts, in_both}
use Rattle.el_pages.specs.declared.layout.TheConstants.{FORMAT_1}
use Rattle.el_pages.specs.Layouts.{file_of, size_in}
use Rattle.el_pages.specs.Records.{Spells}
use Rattle.el_pages.specs.Indexes.{IsRooted, tables_in}
use Rattle.el_pages.proofs.Laid.{length-rows_in}
use Rattle.el_recovery.specs.Checks.{Found}
use Rattle.el_row_formats.specs.Tables.{Tables}
use Rattle.el_migrate.specs.OldChecks.{HasOldHeads}
use Rattle.el_migrate.specs.OldIndexes.{HasOldCounts}
use Rattle.el_migrate.specs.OldRows.{old_heads}
use Rattle.el_migrate.specs.ImageChains.{StandsOld, StandsNew, ImageStands, StandsForOne, IsOldIndex, IsLikeOne}
use Rattle.el_migrate.specs.within.Moving.{HasOldFiles}
use Rattle.el_migrate.specs.within.Moved.{HaveOldRows, HaveNewRows, AreGrown, IsMetaWritten}
use Rattle.el_migrate.specs.within.Ready.{IsBadOld, IsIndexWith, IsReady}
use Rattle.el_migrate.specs.within.Rooting.{HasBothFiles, IsOpenedOld}
use Rattle.el_migrate.proofs.Images.{rooted_same, old_same, both_stand}
use Rattle.el_migrate.proofs.OldStanding.{held_old, old_opened, old_rows}
use Rattle.el_migrate.proofs.NewRows.{written_stands, written_index}

-- an image in which format 2 isn't live stands for a chain in format 1
pub old_of : (magic : List ℕ) (image : Image) (chain : Chain) → (IsRooted image → ⊥) → ImageStands magic image chain → StandsOld magic image chain
old_of magic image chain unrooted (inl new) = absurd (unrooted new.rooted)
old_of magic image chain unrooted (inr old) = old

-- and one in which it is, in format 2
pub new_of : (magic : List ℕ) (image : Image) (chain : Chain) → IsRooted image → ImageStands magic image chain → StandsNew magic image chain
new_of magic image chain rooted (inl new) = new
new_of magic image chain rooted (inr old) = absurd (old.unrooted rooted)

-- images that stand for the same files of format 1 stand for the same chains
pub old_alike : (magic : List ℕ) (a b : Image) (chain : Chain) → ((files : Image) → ImageStandsFor (Spells FORMAT_1) 0 9 files a → ImageStandsFor (Spells FORMAT_1) 0 9 files b)
    → (IsRooted b → ⊥) → StandsOld magic a chain → StandsOld magic b chain
old_alike magic a b chain there unrooted s = record {
  unrooted = unrooted;
  tables = s.tables;
  shows = record { files = s.shows.files; stands = there s.shows.files s.shows.stands; counts = s.shows.counts; has = s.shows.has; same = s.shows.same };
  stand = s.stand;
}

-- ---- format 1 is opened

module _ {D : Type 0} (G : disk.Ghosts D) (earlier : (d : D) (t u : ℕ) (c : Image) → t ≤ u → G.left_since d u c → G.left_since d t c)
    (reads : (d : D) → LeftNow G.moment G.left_since d (G.seen d)) (magic : List ℕ)
    (old m1 : D) (unrooted : IsRooted (G.seen old) → ⊥) (root : OnDisk ROOT (G.seen old) (LeftNow G.moment G.left_since old))
    (run : Leaves G (IsAlike G (Spells FORMAT_1) 0 9 old) old m1) where
  -- an image that an opening of format 1 leaves, in which format 2 isn't live either
  from_not : (image : Image) → LeftNow G.moment G.left_since old image → IsRooted image → ⊥
  from_not image left r = unrooted (rooted_same (G.seen old) image (sym (root image left)) r)

  alike_not : (c : Image) → IsAlike G (Spells FORMAT_1) 0 9 old c → IsRooted c → ⊥
  alike_not c like r = from_not like.from like.left (rooted_same like.from c (sym (like.root (omega arith))) r)

  -- stands for the chain for which one stood
  alike_one : (e : Chain) (c : Image) (like : IsAlike G (Spells FORMAT_1) 0 9 old c) → ImageStands magic like.from e → ImageStands magic c e
  alike_one e c like stands = inr (old_alike magic like.from c e like.alike.there (alike_not c like) (old_of magic like.from e (from_not like.from like.left) stands))

  pub opened_one : (a b : Chain) → EachNow G (StandsForOne magic a b) old → Leaves G (StandsForOne magic a b) old m1
  opened_one a b each = weaker G.moment G.left_since old m1 (IsAlike G (Spells FORMAT_1) 0 9 old) (StandsForOne magic a b)
      (λ c like. ⊎_elim (λ x. inl (alike_one a c like x)) (λ x. inr (alike_one b c like x)) (each like.from like.left)) run

  pub opened_like : Leaves G (IsLikeOne G old) old m1
  opened_like = weaker G.moment G.left_since old m1 (IsAlike G (Spells FORMAT_1) 0 9 old) (IsLikeOne G old)
      (λ c like. record {
        from = like.from;
        left = like.left;
        like = record { root = like.root (omega arith); new = λ r. absurd (from_not like.from like.left r); old = λ u. like.alike };
      })
      run

  pub not_yet : IsRooted (G.seen m1) → ⊥
  not_yet = alike_not (G.seen m1) (now_has G earlier old m1 (IsAlike G (Spells FORMAT_1) 0 9 old) run (G.seen m1) (reads m1))

  -- and then it is moved
  pub moved_one : (m2 : D) → ((e : Chain) → StandsOld magic (G.seen m1) e → Leaves G (λ (image : Image). ImageStands magic image e) m1 m2)
      → (a b : Chain) → EachNow G (StandsForOne magic a b) old → Leaves G (StandsForOne magic a b) old m2
  moved_one m2 moves a b each =
      let first = opened_one a b each in
      joined G.moment G.left_since old m1 m2 (StandsForOne magic a b) first
      (⊎_elim
      (λ x. weaker G.moment G.left_since m1 m2 (λ (image : Image). ImageStands magic image a) (StandsForOne magic a b) (λ c y. inl y) (moves a (old_of magic (G.seen m1) a not_yet x)))
      (λ x. weaker G.moment G.left_since m1 m2 (λ (image : Image). ImageStands magic image b) (StandsForOne magic a b) (λ c y. inr y) (moves b (old_of magic (G.seen m1) b not_yet x)))
      (now_has G earlier old m1 (StandsForOne magic a b) first (G.seen m1) (reads m1)))

  -- what the disk stood for as it read, it stands for
  pub opened_chain : ImageStandsFor (Spells FORMAT_1) 0 9 (G.seen m1) (G.seen old) → IsClosed (G.seen m1 9) → length (G.seen old 9) < 2 ^ 62
      → (e : Chain) → ImageStands magic (G.seen old) e → StandsOld magic (G.seen m1) e
  opened_chain stands closed small e x = old_opened magic (G.seen old) (G.seen m1) small stands closed e not_yet (old_of magic (G.seen old) e unrooted x)

-- ---- an index of format 1 that is opened is moved

module _ {D : Type 0} (G : disk.Ghosts D) (earlier : (d : D) (t u : ℕ) (c : Image) → t ≤ u → G.left_since d u c → G.left_since d t c)
    (magic pages : List ℕ) (bits : ℕ) (least : MIN_HEAD_BITS ≤ bits) (most : bits ≤ MAX_HEAD_BITS)
    (m1 : D) (opened : IsOpenedOld G magic pages m1) (small : length (G.seen m1 9) < 2 ^ 62) where
  pub keeps_old : EachNow G (HasOldFiles (G.seen m1)) m1
  keeps_old c left = record {
    same = λ f le. ⊎_elim
        (λ (lt : f < 9). opened.rest.on_disk f (omega arith) lt c left)
        (λ (ge : 9 ≤ f). let is : f ≡ 9 = omega (arith, le, ge) in subst (λ g. c g ≡ G.seen m1 g) (sym is) (opened.rest.redo_on_disk c left))
        (cases_lt f 9);
    root = opened.rest.root_on_disk (omega arith) c left;
  }

  module _ (m2 : D) (write : Leaves G (HasOldFiles (G.seen m1)) m1 m2) where
    -- all of format 2 but the root is written
    pub written_for : (e : Chain) → StandsOld magic (G.seen m1) e → Leaves G (λ (image : Image). ImageStands magic image e) m1 m2
    written_for e is = weaker G.moment G.left_since m1 m2 (HasOldFiles (G.seen m1)) (λ (image : Image). ImageStands magic image e) (λ c same. inr (old_same magic (G.seen m1) c e same is)) write

    module _ (have : (heads : HeadCounts) (bs : List ListedBlock) (l : Lists) → HaveOldRows heads bs l pages (G.seen m1) → HaveNewRows bits bs l pages (G.seen m2))
        (written : IsMetaWritten magic bits pages (G.seen m2)) (durable : AreOnDisk G 20 30 m2) (others : (f : ℕ) → (f < 20) ⊎ (29 < f) → G.seen m2 f ≡ G.seen m1 f) where
      -- each image with the files of format 2 stands for the chain, once format 2 is live in it
      made : (e : Chain) → StandsOld magic (G.seen m1) e → (image : Image) → ((f : ℕ) → 20 ≤ f → f < 30 → image f ≡ G.seen m2 f) → IsRooted image → StandsNew magic image e
      made e is =
          let had = old_rows magic pages (G.seen m1) is.tables small opened.rest.closed opened.has is.shows e is.stand in
          written_stands magic bits e (held_old is.tables e is.stand).0 (in_both (old_heads e)) pages (G.seen m1) (G.seen m2) least most opened.limited had
          (have (in_both (old_heads e)) (listed_blocks e) (lists e) had) written

      pub both_kept : EachNow G (HasBothFiles (G.seen m2)) m2
      both_kept c left =
          let kept = now_has G earlier m1 m2 (HasOldFiles (G.seen m1)) write c left in
          record {
            old = λ f le. kept.same f le ∙ sym (others f (inl (omega (arith, le))));
            new = λ f low lt. durable f low lt c left;
          }

      pub rooted_for : (m3 : D) → Leaves G (HasBothFiles (G.seen m2)) m2 m3 → (e : Chain) → StandsOld magic (G.seen m1) e → Leaves G (λ (image : Image). ImageStands magic image e) m1 m3
      rooted_for m3 set e is = joined G.moment G.left_since m1 m2 m3 (λ (image : Image). ImageStands magic image e) (written_for e is)
          (weaker G.moment G.left_since m2 m3 (HasBothFiles (G.seen m2)) (λ (image : Image). ImageStands magic image e)
          (λ c same. both_stand magic (G.seen m1) c e is (made e is c same.new) (λ f le. same.old f le ∙ others f (inl (omega (arith, le)))))
          set)

  -- whatever its rows are, it is an index of format 2
  pub built_index : (files now : Image) → AreGrown bits pages files → IsMetaWritten magic bits pages files → ((f : ℕ) → 20 ≤ f → f < 30 → now f ≡ files f) → IsIndexWith magic bits now
  built_index files now grown written same = written_index magic bits pages files least most opened.limited grown written now same

-- ---- what an opening of format 1 and the move give

-- the files that an opening leaves have tables for which the disk stood
pub opened_index : (magic pages : List ℕ) (was now : Image) → HasOldCounts magic now pages → ImageStandsFor (Spells FORMAT_1) 0 9 now was → HasOldHeads (count_at pages)
    → (tables : Tables) × IsOldIndex magic was tables
opened_index magic pages was now has stands heads = (
  tables_in FORMAT_1 now pages,
  record {
    shows = record { files = now; stands = stands; counts = pages; has = has; same = λ t. refl };
    heads = subst (λ (count : Table → ℕ). HasOldHeads count) (fun_ext (λ (t : Table). sym (length-rows_in (size_in FORMAT_1 t) (now (file_of FORMAT_1 t)) (count_at pages t)))) heads;
  },
)

-- format 2 is live then
pub ready_moved : {D T E : Type 0} (G : disk.Ghosts D) (magic : List ℕ) (bits : ℕ) (was mid : Image) (new : D) (r : Result T E) → (IsRooted was → ⊥)
    → (tables : Tables) × IsOldIndex magic was tables → ((found : Found) → IsBadOld magic was found → ⊥) → ((e : Chain) → ImageStands magic was e → StandsOld magic mid e)
    → OnOk r (EachNow G (λ (image : Image). IsRooted image) new) → OnOk r (IsIndexWith magic bits (G.seen new))
    → ((e : Chain) → StandsOld magic mid e → OnOk r (ImageStands magic (G.seen new) e)) → OnOk r (IsReady G magic bits was new)
ready_moved G magic bits was mid new (Ok x) unrooted index sound opens rooted moved chain = record {
  rooted = rooted;
  stays = λ r f high. absurd (unrooted r);
  index = λ u. index;
  sound = λ u. sound;
  moved = λ u. moved;
  chain = λ e s. chain e (opens e s);
}
ready_moved G magic bits was mid new (Err y) unrooted index sound opens rooted moved chain = tt

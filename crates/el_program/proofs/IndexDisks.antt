-- What an opening of the index leaves of the disk.
use Rattle.std.proofs.Common.{◌≡◌, ◌≢◌, ◌⊎◌, inl, inr, refl, ℕ, ◌≤◌, ◌<◌, List, [], ◌∷◌, take, sym, subst, arith}
use Rattle.el_outside.specs.declared.disk.Disk as disk
use Rattle.el_outside.specs.Disk.{Image}
use Rattle.el_outside.proofs.Moments.{weaker}
use Rattle.el_chain.specs.Chains.{Chain}
use Rattle.el_row_formats.specs.Tables.{Tables}
use Rattle.el_schema.specs.Standing.{StandWith}
use Rattle.el_redone.specs.Steps.{Leaves}
use Rattle.el_redone.specs.declared.steps.TheConstants.{ROOT}
use Rattle.el_pages.specs.Indexes.{IsRooted, ShowsFor}
use Rattle.el_redo.specs.declared.faults.OpenFault.{OpenFault}
use Rattle.el_redo.specs.declared.faults.OpenFault.TheVariants as fault
use Rattle.el_model.specs.Keeping.{Either}
use Rattle.el_index.specs.Means.{Means, AreRowsOf}
use Rattle.el_migrate.specs.ImageChains.{ImageStands, StandsForOne, IsAnyIndex, IsLike, IsLikeOne, IsOtherFile}
use Rattle.el_program.specs.Ends.{IsUnopened}
use Rattle.el_program.specs.IndexDisks.{LeavesOneOf, StandsForAll, IsAsBefore}
use Rattle.el_program.specs.OtherFiles.{OtherFilesStay}
use Rattle.el_program.specs.declared.status.Status.{Status}
use Rattle.el_program.specs.declared.status.Status.TheVariants as status
use Rattle.el_program.specs.within.Unread.{open_status}

-- ---- chains for which an image stands

-- an image that shows the rows of an index of a chain stands for it
pub shown_stands : (magic : List ℕ) (image : Image) (heads : ℕ) (rows : Tables) (chain : Chain)
    → ShowsFor magic image heads rows → AreRowsOf heads rows chain → ImageStands magic image chain
shown_stands magic image heads rows chain shown stand = inl (record {
  rooted = shown.rooted;
  bits = shown.bits;
  may_be = (shown.least, shown.most);
  tables = rows;
  shows = shown.shows;
  stand = subst (λ (n : ℕ). StandWith n rows chain) shown.as_many stand;
})

-- what an index leaves
pub means_stands : (magic : List ℕ) (image : Image) (chain : Chain) → Means (ShowsFor magic) image chain
    → ImageStands magic image chain
means_stands magic image chain means = shown_stands magic image means.0 means.1 chain means.2 means.3

pub means_one : (magic : List ℕ) (a b : Chain) (image : Image) → Either (Means (ShowsFor magic)) a b image
    → StandsForOne magic a b image
means_one magic a b image (inl means) = inl (means_stands magic image a means)
means_one magic a b image (inr means) = inr (means_stands magic image b means)

-- ---- images that are like others

rooted_there : (a b : Image) → IsLike a b → IsRooted a → IsRooted b
rooted_there a b like rooted = subst (λ (bytes : List ℕ). take 1 bytes ≡ 2 ∷ []) (sym like.root) rooted

rooted_back : (a b : Image) → IsLike a b → IsRooted b → IsRooted a
rooted_back a b like rooted = subst (λ (bytes : List ℕ). take 1 bytes ≡ 2 ∷ []) like.root rooted

-- stand for the same chains
chains_there : (a b : Image) → IsLike a b → (magic : List ℕ) (chain : Chain) → ImageStands magic a chain
    → ImageStands magic b chain
chains_there a b like magic chain (inl new) = inl (record {
  rooted = rooted_there a b like new.rooted;
  bits = new.bits;
  may_be = new.may_be;
  tables = new.tables;
  shows = record {
    files = new.shows.files;
    stands = (like.new new.rooted).there new.shows.files new.shows.stands;
    counts = new.shows.counts;
    has = new.shows.has;
    same = new.shows.same;
  };
  stand = new.stand;
})
chains_there a b like magic chain (inr old) = inr (record {
  unrooted = λ rooted. old.unrooted (rooted_back a b like rooted);
  tables = old.tables;
  shows = record {
    files = old.shows.files;
    stands = (like.old old.unrooted).there old.shows.files old.shows.stands;
    counts = old.shows.counts;
    has = old.shows.has;
    same = old.shows.same;
  };
  stand = old.stand;
})

-- and are indexes of the same tables
index_back : (a b : Image) → IsLike a b → (magic : List ℕ) (tables : Tables) → IsAnyIndex magic b tables
    → IsAnyIndex magic a tables
index_back a b like magic tables (inl index) =
    let rooted = rooted_back a b like index.0 in
    let shown = index.1.shows in inl (
      rooted,
      record {
        bits = index.1.bits;
        may_be = index.1.may_be;
        shows = record {
          files = shown.files;
          stands = (like.new rooted).back shown.files shown.stands;
          counts = shown.counts;
          has = shown.has;
          same = shown.same;
        };
        heads = index.1.heads;
      },
    )
index_back a b like magic tables (inr index) =
    let unrooted : IsRooted a → ⊥ = λ rooted. index.0 (rooted_there a b like rooted) in
    let shown = index.1.shows in inr (
      unrooted,
      record {
        shows = record {
          files = shown.files;
          stands = (like.old unrooted).back shown.files shown.stands;
          counts = shown.counts;
          has = shown.has;
          same = shown.same;
        };
        heads = index.1.heads;
      },
    )

like_stands : (a b : Image) → IsLike a b → StandsForAll a b
like_stands a b like = record {
  chains = chains_there a b like;
  none = λ magic no tables index. no tables (index_back a b like magic tables index);
}

-- ---- openings

-- an image stands for all for which it stands
stands_for_own : (image : Image) → StandsForAll image image
stands_for_own image = record { chains = λ magic chain stands. stands; none = λ magic no. no }

-- a disk that is not called
pub unchanged : {D : Type 0} (G : disk.Ghosts D) (d : D) → IsAsBefore G d d
unchanged G d = record {
  others = λ f beyond. refl;
  crash = record {
    later = omega arith;
    each = λ c left. (c, left, stands_for_own c);
    before = λ t c le left. inl left;
  };
}

-- an opening of what is no index leaves it as it was
pub as_before : {D : Type 0} (G : disk.Ghosts D) (old new : D) → OtherFilesStay G old new
    → Leaves G (IsLikeOne G old) old new → IsAsBefore G old new
as_before G old new others crash = record {
  others = others;
  crash = weaker G.moment G.left_since old new (IsLikeOne G old) _
      (λ image one. (one.from, one.left, like_stands one.from image one.like)) crash;
}

-- an opening that is stopped leaves an index of the one chain or of the other
pub keeps_one : {D : Type 0} (G : disk.Ghosts D) (magic : List ℕ) (old new : D) (a b : Chain)
    → ((t u : ℕ) (c : Image) → t ≤ u → G.left_since new u c → G.left_since new t c)
    → Leaves G (StandsForOne magic a b) old new → LeavesOneOf G magic new a b
keeps_one G magic old new a b earlier run image now =
    run.each image (earlier (G.moment old) (G.moment new) image run.later now)

-- after an opening each image shows the store's rows, which stand for what the disk stood for as it read
pub unread_leaves : (magic : List ℕ) (seen : Image) (was flight : Chain) (heads : ℕ) (rows : Tables)
    (image : Image) → ((chain : Chain) → ImageStands magic seen chain → AreRowsOf heads rows chain)
    → StandsForOne magic was flight seen → ShowsFor magic image heads rows
    → StandsForOne magic was flight image
unread_leaves magic seen was flight heads rows image chains (inl stands) shown =
    inl (shown_stands magic image heads rows was shown (chains was stands))
unread_leaves magic seen was flight heads rows image chains (inr stands) shown =
    inr (shown_stands magic image heads rows flight shown (chains flight stands))

-- files beyond both formats' are beyond those of format 2
pub beyond_new : (f : ℕ) → IsOtherFile f → (f < 20) ⊎ (29 < f)
beyond_new f (inl between) = inl between.1
beyond_new f (inr after) = inr (omega (arith, after))

-- how the program ends for a fault that tells of no bad index
pub not_bad : (f : OpenFault) (s : Status) → s ≡ open_status f → (f ≡ fault.DiskFailed) ⊎ (f ≡ fault.Memory)
    → s ≢ status.BadIndex
not_bad f s is (inl failed) = λ bad. absurd (let e = rw failed at is in cc)
not_bad f s is (inr memory) = λ bad. absurd (let e = rw memory at is in cc)

-- for one that doesn't tell of memory
pub told_so : (f : OpenFault) (s : Status) → s ≡ open_status f → (f ≢ fault.Memory)
    → (s ≡ status.DiskFailed) ⊎ (s ≡ status.BadIndex)
told_so fault.DiskFailed s is other = inl is
told_so (fault.BadIndex file wanted found) s is other = inr is
told_so fault.Memory s is other = absurd (other refl)

-- and then no index was opened
pub unopened : (s : Status) → (s ≡ status.DiskFailed) ⊎ (s ≡ status.BadIndex) → IsUnopened s
unopened s (inl failed) = rw failed tt
unopened s (inr bad) = rw bad tt

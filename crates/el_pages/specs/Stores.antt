-- A store over the files of a disk.
use Rattle.std.specs.Prelude.{◌≡◌, ◌≤◌, ◌<◌, ◌^◌, ◌||◌, nat_lt, ℕ, List, [], ◌∷◌, length, take, if◌then◌else◌}
use Rattle.std.proofs.lemmas.List.FromFn.{length-map-range_with_len}
use Rattle.std.proofs.Common.{sym, ◌∙◌, subst, inl, inr, refl, arith}
use Rattle.el_outside.specs.declared.disk.Disk as disk
use Rattle.el_outside.specs.Disk.{Image}
use Rattle.el_row_formats.specs.declared.table.Table.{Table}
use Rattle.el_row_formats.specs.Tables.{Tables, row_at}
use Rattle.el_row_formats.specs.declared.limits.TheConstants.{MIN_HEAD_BITS, MAX_HEAD_BITS}
use Rattle.el_rows.specs.Changes.{count_at}
use Rattle.el_page_cache.specs.Pages.{KeptPages, Agrees}
use Rattle.el_pages.specs.Layouts.{file_of, size_in, rows_in}
use Rattle.el_redo.specs.RedoBody.{head_bytes}
use Rattle.el_redone.specs.Redone.{IsClosed}
use Rattle.el_redone.specs.Steps.{IsAtRest}
use Rattle.el_redone.specs.declared.steps.TheConstants.{ROOT}
use Rattle.el_pages.specs.declared.layout.TheConstants.{FORMAT_2}
use Rattle.el_pages.specs.Indexes.{HasCounts, IsRooted, ShowsFor, tables_in}
use Rattle.el_redo.specs.declared.network.NetworkMagic as network
use Rattle.el_pages.specs.declared.store.Pages.{Pages}

-- What a disk holds beside the store: the files before the meta file and after the redo file, and no bytes in
-- the place of the store's own.
abbrev pub beside_in : Image → Image
beside_in files f = if nat_lt f 20 || nat_lt 29 f then files f else []

-- Over a disk that tells: all files are on the disk and the gate is closed; format 2 is live; the files are
-- those that the disk had at the last commit, or at the opening; they have tables with these counts; and each
-- page that is kept has rows of those tables.
pub record IsKept {D : Type 0} (G : disk.Ghosts D) (head : List ℕ) (now told : D)
    (counts : List ℕ) (cache : KeptPages) : Type 0 where
  pub rest : IsAtRest G 20 29 now
  pub rooted : IsRooted (G.seen now)
  pub same : (f : ℕ) → 20 ≤ f → f < 29 → G.seen now f ≡ G.seen told f
  pub has : HasCounts FORMAT_2 head (G.seen told) counts
  pub agrees : Agrees cache (tables_in FORMAT_2 (G.seen told) counts) (count_at counts)

-- the tables of a store: so many rows of the files that the disk had then
abbrev pub lists_in : {D : Type 0} → disk.Ghosts D → D → List ℕ → Tables
lists_in G told counts = tables_in FORMAT_2 (G.seen told) counts

-- the disk below a store
abbrev pub disk_below : {D N : Type 0} {G : disk.Ghosts D} {H : network.Ghosts N} → Pages D N G H → D
disk_below store = store.disk

-- the rows of a store
abbrev pub rows_of : {D N : Type 0} {G : disk.Ghosts D} {H : network.Ghosts N} → Pages D N G H → Tables
rows_of {D} {N} {G} {H} store = lists_in G store.told.value store.counts

-- how many bits the number of a bucket has
abbrev pub bits_of : {D N : Type 0} {G : disk.Ghosts D} {H : network.Ghosts N} → Pages D N G H → ℕ
bits_of store = store.bits

-- a store over a disk that tells has what its files have
abbrev pub IsLive : {D N : Type 0} {G : disk.Ghosts D} {H : network.Ghosts N} → Pages D N G H → Type 0
IsLive {D} {N} {G} {H} store =
    G.tells → IsKept G (head_bytes H.magic store.bits) store.disk store.told.value store.counts store.cache

after_redo : 29 < ROOT
after_redo = omega arith

-- between calls each image that a crash may leave stands for the store's tables
pub kept_shows : {D : Type 0} (G : disk.Ghosts D) (magic : List ℕ) (bits : ℕ) (now told : D)
    (counts : List ℕ) (cache : KeptPages) (image : Image)
    → MIN_HEAD_BITS ≤ bits → bits ≤ MAX_HEAD_BITS
    → IsKept G (head_bytes magic bits) now told counts cache → G.left_since now (G.moment now) image
    → ShowsFor magic image (2 ^ bits) (lists_in G told counts)
kept_shows G magic bits now told counts cache image least most kept left = record {
  rooted = subst (λ (b : List ℕ). take 1 b ≡ 2 ∷ []) (sym (kept.rest.root_on_disk after_redo image left))
      kept.rooted;
  bits = bits;
  least = least;
  most = most;
  as_many = refl;
  shows = record {
    files = G.seen told;
    stands = record {
      writes = [];
      pending = inl (
        inr (subst (λ (b : List ℕ). IsClosed b) (sym (kept.rest.redo_on_disk image left))
            kept.rest.closed),
        refl,
      );
      same = λ f low lt. kept.rest.on_disk f low lt image left ∙ kept.same f low lt;
      fits = λ f low lt. tt;
    };
    counts = counts;
    has = kept.has;
    same = λ t. refl;
  };
}

-- of a store that is live, each image that a crash now may leave stands for its tables
pub live_shows : {D N : Type 0} {G : disk.Ghosts D} {H : network.Ghosts N} (store : Pages D N G H)
    (image : Image) → G.tells → IsLive store
    → G.left_since (disk_below store) (G.moment (disk_below store)) image
    → ShowsFor H.magic image (2 ^ bits_of store) (rows_of store)
live_shows {D} {N} {G} {H} store image told live left =
    kept_shows G H.magic store.bits store.disk store.told.value store.counts store.cache image store.least
    store.most (live told) left

-- how many rows there are
rows_long : (size : ℕ) (file : List ℕ) (count : ℕ) → length (rows_in size file count) ≡ count
unfolding rows_in
rows_long size file count = length-map-range_with_len (row_at size file) 0 count

-- a table of the store has as many rows as are counted
pub lists_long : {D : Type 0} (G : disk.Ghosts D) (told : D) (counts : List ℕ) (t : Table)
    → length (lists_in G told counts t) ≡ count_at counts t
lists_long G told counts t =
    rows_long (size_in FORMAT_2 t) (G.seen told (file_of FORMAT_2 t)) (count_at counts t)

-- What calls leave of a store.
use Rattle.std.proofs.Common.{◌≡◌, ◌⊎◌, inl, inr, ⊎_elim, ℕ, ◌+◌, ◌*◌, ◌^◌, ◌<◌, ◌≤◌, List, [], ◌∷◌, ◌++◌, length, take, get_or, map, sym, ◌∙◌, refl, ap, subst, arith}
use Rattle.std.proofs.Math.Path.{fun_ext}
use Rattle.std.proofs.lemmas.Bool.{cases_lt}
use Rattle.std.proofs.lemmas.Bool.Decides.{nat_tests}
use Rattle.el_outside.specs.declared.disk.Disk as disk
use Rattle.el_outside.specs.Disk.{Image, NothingNew}
use Rattle.el_outside.specs.Moments.{LeftNow, LeavesOnly, LeavesNoMore, Passes}
use Rattle.el_row_formats.specs.declared.table.Table.{Table}
use Rattle.el_row_formats.specs.Tables.{Tables, size_of, row_at}
use Rattle.el_row_formats.specs.declared.limits.TheConstants.{MIN_HEAD_BITS, MAX_HEAD_BITS}
use Rattle.el_row_formats.proofs.Keys.{index_within}
use Rattle.el_rows.specs.Changes.{Changes, count_at, under}
use Rattle.el_rows.specs.Reads.{IsEither}
use Rattle.el_redo.specs.RedoBody.{head_bytes, all_tables, numbers_bytes}
use Rattle.el_redone.specs.Redone.{IsClosed}
use Rattle.el_redone.specs.Steps.{Leaves, HasRoot}
use Rattle.el_redone.specs.declared.steps.TheConstants.{ROOT}
use Rattle.el_outside.proofs.Moments.{weaker}
use Rattle.el_pages.specs.declared.layout.TheConstants.{FORMAT_2}
use Rattle.el_pages.specs.Layouts.{file_of, size_in, limit_in, rows_in}
use Rattle.el_pages.specs.Records.{meta_of}
use Rattle.el_pages.specs.Indexes.{HasCounts, ShowsTables, IsRooted, ShowsFor, tables_in}
use Rattle.el_pages.specs.Stores.{IsKept, beside_in, lists_in}
use Rattle.el_pages.specs.within.Caching.{HaveRows}
use Rattle.el_page_cache.specs.Pages.{KeptPages, Agrees}
use Rattle.el_page_cache.proofs.Rows.{row_ends}
use Rattle.el_pages.proofs.Laid.{sizes_2, get_or-rows_in}
use Rattle.el_pages.proofs.Facts.{tables_same}

-- what stands beside the store's files
pub beside_at : (files : Image) (f : ℕ) → (f < 20) ⊎ (29 < f) → beside_in files f ≡ files f
beside_at files f (inl lt) = grind (arith, nat_tests)
beside_at files f (inr lt) = grind (arith, nat_tests)

pub beside_same : (a b : Image) → ((f : ℕ) → (f < 20) ⊎ (29 < f) → b f ≡ a f) → beside_in b ≡ beside_in a
beside_same a b same = fun_ext each
  where
    none : (files : Image) (f : ℕ) → 20 ≤ f → f ≤ 29 → beside_in files f ≡ []
    none files f low le = grind (arith, nat_tests)

    outside : (f : ℕ) → (f < 20) ⊎ (29 < f) → beside_in b f ≡ beside_in a f
    outside f at = beside_at b f at ∙ same f at ∙ sym (beside_at a f at)

    each : (f : ℕ) → beside_in b f ≡ beside_in a f
    each f = ⊎_elim
        (λ (lt : f < 20). outside f (inl lt))
        (λ (low : 20 ≤ f). ⊎_elim
        (λ (lt : 29 < f). outside f (inr lt))
        (λ (le : f ≤ 29). none b f low le ∙ sym (none a f low le))
        (cases_lt 29 f))
        (cases_lt f 20)

-- a read brings nothing
pub no_more : {D : Type 0} (G : disk.Ghosts D) → ((d : D) (t u : ℕ) (c : Image) → t ≤ u → G.left_since d u c → G.left_since d t c) → (old new : D)
    → Passes G.moment G.left_since old new → NothingNew (LeftNow G.moment G.left_since old) (LeftNow G.moment G.left_since new) → LeavesNoMore G.moment G.left_since old new
no_more G earlier old new passes nothing = record {
  later = passes.time.later;
  before = λ t c le left. ⊎_elim (λ past. past) (λ now. earlier old t (G.moment old) c le (nothing c now)) (passes.time.nothing_else t c le left);
}

-- what is said of the disk, said of a store over it
module _ {D S : Type 0} (G : disk.Ghosts D) (a b : S) (disk_of : S → D) where
  pub store_leaves : (P : Image → Type 0) → Leaves G P (disk_of a) (disk_of b)
      → LeavesOnly (λ (s : S). G.moment (disk_of s)) (λ (s : S) (t : ℕ) (c : Image). G.tells × G.left_since (disk_of s) t c) a b P
  store_leaves P run = record {
    later = run.later;
    each = λ c left. run.each c left.1;
    before = λ t c le left. ⊎_elim (λ was. inl (left.0, was)) (λ p. inr p) (run.before t c le left.1);
  }

  pub store_no_more : LeavesNoMore G.moment G.left_since (disk_of a) (disk_of b)
      → LeavesNoMore (λ (s : S). G.moment (disk_of s)) (λ (s : S) (t : ℕ) (c : Image). G.tells × G.left_since (disk_of s) t c) a b
  store_no_more run = record { later = run.later; before = λ t c le left. (left.0, run.before t c le left.1) }

module _ {D : Type 0} (G : disk.Ghosts D) (head : List ℕ) (told : D) (counts : List ℕ) (cache : KeptPages) where
  -- the disk was only read
  pub kept_read : (now new : D) → G.seen new ≡ G.seen now → ((c : Image) → LeftNow G.moment G.left_since new c → LeftNow G.moment G.left_since now c)
      → (more : KeptPages) → Agrees more (lists_in G told counts) (count_at counts) → IsKept G head now told counts cache → IsKept G head new told counts more
  kept_read now new same fewer more agrees kept = record {
    rest = record {
      on_disk = λ f low lt c left. kept.rest.on_disk f low lt c (fewer c left) ∙ ap (λ (s : Image). s f) (sym same);
      redo_on_disk = λ c left. kept.rest.redo_on_disk c (fewer c left) ∙ ap (λ (s : Image). s 29) (sym same);
      root_on_disk = λ after c left. kept.rest.root_on_disk after c (fewer c left) ∙ ap (λ (s : Image). s ROOT) (sym same);
      closed = subst (λ (s : Image). IsClosed (s 29)) (sym same) kept.rest.closed;
    };
    rooted = subst (λ (s : Image). IsRooted s) (sym same) kept.rooted;
    same = λ f low lt. ap (λ (s : Image). s f) same ∙ kept.same f low lt;
    has = kept.has;
    agrees = agrees;
  }

  held : (t : Table) → HasCounts FORMAT_2 head (G.seen told) counts → count_at counts t * size_in FORMAT_2 t ≤ length (G.seen told (file_of FORMAT_2 t))
  held t has = has.holds t

  in_table : (now : D) (t : Table) → IsKept G head now told counts cache → G.seen now (file_of FORMAT_2 t) ≡ G.seen told (file_of FORMAT_2 t)
  in_table now t kept = kept.same (file_of FORMAT_2 t) (omega arith) (omega (arith, index_within t))

  -- a row is whole in its file
  pub kept_whole : (now : D) (t : Table) (i : ℕ) → IsKept G head now told counts cache → i < count_at counts t → i * size_of t + size_of t ≤ length (G.seen now (file_of FORMAT_2 t))
  kept_whole now t i kept lt =
      subst (λ s. i * s + s ≤ length (G.seen now (file_of FORMAT_2 t))) (sizes_2 t)
      (let ends_at = row_ends (size_in FORMAT_2 t) i (count_at counts t) lt in
      omega (arith, ends_at, held t kept.has, ap (λ (b : List ℕ). length b) (in_table now t kept)))

  -- and it is the row of the lists
  pub kept_row : (now : D) (t : Table) (i : ℕ) → IsKept G head now told counts cache → i < count_at counts t
      → row_at (size_of t) (G.seen now (file_of FORMAT_2 t)) i ≡ get_or (lists_in G told counts t) i []
  kept_row now t i kept lt =
      ap (λ s. row_at s (G.seen now (file_of FORMAT_2 t)) i) (sym (sizes_2 t))
      ∙ ap (λ (b : List ℕ). row_at (size_in FORMAT_2 t) b i) (in_table now t kept)
      ∙ sym (get_or-rows_in (size_in FORMAT_2 t) (G.seen told (file_of FORMAT_2 t)) (count_at counts t) i lt)

  -- so the disk has the rows
  pub kept_rows : (now : D) → IsKept G head now told counts cache → HaveRows (G.seen now) (lists_in G told counts) (count_at counts)
  kept_rows now kept = record { whole = λ t i lt. kept_whole now t i kept lt; same = λ t i lt. kept_row now t i kept lt }

  -- the lists are the tables of the disk as it reads
  pub lists_now : (now : D) → IsKept G head now told counts cache → tables_in FORMAT_2 (G.seen now) counts ≡ lists_in G told counts
  lists_now now kept = fun_ext (tables_same (G.seen told) (G.seen now) counts kept.same)

  module _ (old new : D) (more : List ℕ) (changes : Changes) (kept : IsKept G head old told counts cache) where
    pub commit_leaves : Leaves G (λ image. HasRoot 29 (G.seen old) image × IsEither (ShowsTables FORMAT_2 head) (tables_in FORMAT_2 (G.seen old) counts) (under (tables_in FORMAT_2 (G.seen old) counts) more changes) image) old new
        → Leaves G (λ image. IsRooted image × IsEither (ShowsTables FORMAT_2 head) (lists_in G told counts) (under (lists_in G told counts) more changes) image) old new
    commit_leaves run = weaker G.moment G.left_since old new _ _
        (λ image both. (
          subst (λ (b : List ℕ). take 1 b ≡ 2 ∷ []) (sym (both.0 (omega arith))) kept.rooted,
          subst (λ (tables : Tables). IsEither (ShowsTables FORMAT_2 head) tables (under tables more changes) image) (lists_now old kept) both.1,
        )) run

-- images that stand for tables in an index with so many buckets stand for them
pub either_shows : (magic : List ℕ) (bits : ℕ) (a b : Tables) (c : Image) → MIN_HEAD_BITS ≤ bits → bits ≤ MAX_HEAD_BITS
    → IsRooted c × IsEither (ShowsTables FORMAT_2 (head_bytes magic bits)) a b c → IsEither (λ image. ShowsFor magic image (2 ^ bits)) a b c
either_shows magic bits a b c least most (rooted, inl shows) = inl (record { rooted = rooted; bits = bits; least = least; most = most; as_many = refl; shows = shows })
either_shows magic bits a b c least most (rooted, inr shows) = inr (record { rooted = rooted; bits = bits; least = least; most = most; as_many = refl; shows = shows })

-- a meta row is that of its counts
pub meta_same : (head a b : List ℕ) → ((t : Table) → count_at b t ≡ count_at a t) → meta_of head b ≡ meta_of head a
unfolding meta_of
meta_same head a b same = ap (λ (f : Table → ℕ). head ++ numbers_bytes (map f all_tables)) (fun_ext same)

-- counts that are the same in another list
pub same_counts : (head : List ℕ) (files : Image) (a b : List ℕ) → ((t : Table) → count_at b t ≡ count_at a t) → HasCounts FORMAT_2 head files a → HasCounts FORMAT_2 head files b
same_counts head files a b same m = record {
  rest = m.rest;
  meta = m.meta ∙ ap (λ (x : List ℕ). x ++ m.rest) (sym (meta_same head a b same));
  limited = λ t. subst (λ n. n ≤ limit_in FORMAT_2 t) (sym (same t)) (m.limited t);
  holds = λ t. subst (λ n. n * size_in FORMAT_2 t ≤ length (files (file_of FORMAT_2 t))) (sym (same t)) (m.holds t);
}

-- and so the same tables
pub same_rows : (files : Image) (a b : List ℕ) → ((t : Table) → count_at b t ≡ count_at a t) → (t : Table) → tables_in FORMAT_2 files b t ≡ tables_in FORMAT_2 files a t
same_rows files a b same t = ap (λ n. rows_in (size_in FORMAT_2 t) (files (file_of FORMAT_2 t)) n) (same t)

-- What stands for a chain in format 1, once its record was redone.
use Rattle.std.proofs.Common.{◌≡◌, ⊎_elim, ◌<◌, ◌≤◌, ◌+◌, ◌*◌, ◌^◌, ℕ, List, [], ◌∷◌, ◌++◌, length, map, get_or, refl, ap, sym, subst, ◌∙◌, arith, length-append}
use Rattle.el_outside.specs.Disk.{Image}
use Rattle.el_chain.specs.Chains.{Chain}
use Rattle.el_chain.specs.Faults.{IsGood}
use Rattle.el_row_formats.specs.declared.table.Table.{Table}
use Rattle.el_row_formats.specs.Tables.{Tables, row_at}
use Rattle.el_row_formats.specs.OldRowBytes.{old_size_of}
use Rattle.el_row_formats.proofs.Keys.{index_within}
use Rattle.el_rows.specs.Changes.{count_at}
use Rattle.el_redo.specs.RedoBody.{numbers_bytes, all_tables}
use Rattle.el_redone.specs.Redone.{IsClosed, ImageStandsFor}
use Rattle.el_tables.specs.ChainLists.{lists, listed_blocks}
use Rattle.el_tables.specs.Tables as typed
use Rattle.el_tables.specs.Tables.{in_both, tables_of}
use Rattle.el_tables.proofs.Tables.{same_tables, tables_stand}
use Rattle.el_pages.specs.declared.layout.TheConstants.{FORMAT_1}
use Rattle.el_pages.specs.Layouts.{file_of, size_in}
use Rattle.el_pages.specs.Records.{Spells, meta_of}
use Rattle.el_pages.specs.Indexes.{HasCounts, IsRooted, tables_in}
use Rattle.el_pages.proofs.Laid.{length-rows_in, get_or-rows_in}
use Rattle.el_pages.proofs.Stands.{stands_shut}
use Rattle.el_recovery.proofs.Alike.{one_stands}
use Rattle.el_recovery.proofs.OneIndex.{one_index}
use Rattle.el_migrate.specs.OldIndexes.{old_head_bytes, IsUnwritten, HasOldCounts, ShowsOld}
use Rattle.el_migrate.specs.OldRows.{EncodeOld, old_bytes_of, old_heads, StandForOld}
use Rattle.el_migrate.specs.ImageChains.{StandsOld}
use Rattle.el_migrate.specs.within.Moved.{HaveOldRows}
use Rattle.el_migrate.proofs.OldLimits.{sizes_1, limits_1}

-- the rows of a chain are those of its lists
pub held_old : (rows : Tables) (chain : Chain) → StandForOld rows chain → IsGood chain × EncodeOld rows (tables_of (in_both (old_heads chain)) (listed_blocks chain) (lists chain))
held_old rows chain s =
    let heads = in_both (old_heads chain) in
    (s.stand.good, subst (λ (tb : typed.Tables). EncodeOld rows tb) (same_tables heads s.tables (tables_of heads (listed_blocks chain) (lists chain)) chain s.stand (tables_stand heads chain s.stand.good)) s.encode)

-- ---- once it was redone

module _ (magic : List ℕ) (old mid : Image) (small : length (old 9) < 2 ^ 62) (stands : ImageStandsFor (Spells FORMAT_1) 0 9 mid old) (closed : IsClosed (mid 9)) where
  -- its files stand for the same chain
  pub old_opened : (chain : Chain) → (IsRooted mid → ⊥) → StandsOld magic old chain → StandsOld magic mid chain
  old_opened chain unrooted s = record {
    unrooted = unrooted;
    tables = s.tables;
    shows = record {
      files = s.shows.files;
      stands = stands_shut FORMAT_1 s.shows.files mid closed (λ f low lt. sym (one_stands FORMAT_1 old s.shows.files mid small s.shows.stands stands f low lt));
      counts = s.shows.counts;
      has = s.shows.has;
      same = s.shows.same;
    };
    stand = s.stand;
  }

-- ---- the tables of files with these counts are those for which the image stands

head_long : (magic : List ℕ) → length (old_head_bytes magic) ≡ 8 + length magic
unfolding old_head_bytes
head_long magic = omega arith

-- an empty meta file has no meta row
no_meta : (magic counts rest : List ℕ) → [] ≡ meta_of (old_head_bytes magic) counts ++ rest → ⊥
unfolding meta_of
no_meta magic counts rest e =
    let head = old_head_bytes magic in
    let numbers = numbers_bytes (map (count_at counts) all_tables) in
    omega (arith, ap (λ (b : List ℕ). length b) e, length-append (head ++ numbers) rest, length-append head numbers, head_long magic)

same_file : (t : Table) → (0 ≤ file_of FORMAT_1 t) × (file_of FORMAT_1 t < 9)
same_file t = (omega arith, omega (arith, index_within t))

module _ (magic pages : List ℕ) (mid : Image) (tables : Tables) (small : length (mid 9) < 2 ^ 62) (closed : IsClosed (mid 9)) (has : HasOldCounts magic mid pages) (shows : ShowsOld magic mid tables) where
  self : ImageStandsFor (Spells FORMAT_1) 0 9 mid mid
  self = stands_shut FORMAT_1 mid mid closed (λ f low lt. refl)

  files_same : (f : ℕ) → 0 ≤ f → f < 9 → shows.files f ≡ mid f
  files_same = one_stands FORMAT_1 mid shows.files mid small shows.stands self

  no_rows : (counts : List ℕ) (t : Table) (files : Image) → count_at counts t ≡ 0 → tables_in FORMAT_1 files counts t ≡ []
  no_rows counts t files none = empty (tables_in FORMAT_1 files counts t) (length-rows_in (size_in FORMAT_1 t) (files (file_of FORMAT_1 t)) (count_at counts t) ∙ none)
    where
      empty : (rows : List (List ℕ)) → length rows ≡ 0 → rows ≡ []
      empty [] e = refl
      empty (r ∷ rs) e = absurd (omega (arith, e))

  pub tables_same : (t : Table) → tables_in FORMAT_1 mid pages t ≡ tables t
  tables_same t = ⊎_elim
      (λ (m : HasCounts FORMAT_1 (old_head_bytes magic) mid pages). ⊎_elim
      (λ (n : HasCounts FORMAT_1 (old_head_bytes magic) shows.files shows.counts).
      sym (one_index FORMAT_1 (λ u. omega (arith, limits_1 u)) (old_head_bytes magic) (old_head_bytes magic) refl mid (tables_in FORMAT_1 mid pages) tables small
      (record { files = mid; stands = self; counts = pages; has = m; same = λ u. refl })
      (record { files = shows.files; stands = shows.stands; counts = shows.counts; has = n; same = shows.same }) t))
      (λ (n : IsUnwritten shows.files shows.counts). absurd (no_meta magic pages m.rest (sym n.empty ∙ files_same 0 (omega arith) (omega arith) ∙ m.meta)))
      shows.has)
      (λ (m : IsUnwritten mid pages). ⊎_elim
      (λ (n : HasCounts FORMAT_1 (old_head_bytes magic) shows.files shows.counts). absurd (no_meta magic shows.counts n.rest (sym m.empty ∙ sym (files_same 0 (omega arith) (omega arith)) ∙ n.meta)))
      (λ (n : IsUnwritten shows.files shows.counts). no_rows pages t mid (m.none t) ∙ sym (shows.same t ∙ no_rows shows.counts t shows.files (n.none t)))
      shows.has)
      has

  -- each file has its rows
  holds : (t : Table) → count_at pages t * old_size_of t ≤ length (mid (file_of FORMAT_1 t))
  holds t = ⊎_elim
      (λ (m : HasCounts FORMAT_1 (old_head_bytes magic) mid pages). subst (λ s. count_at pages t * s ≤ length (mid (file_of FORMAT_1 t))) (sizes_1 t) (m.holds t))
      (λ (m : IsUnwritten mid pages). subst (λ n. n * old_size_of t ≤ length (mid (file_of FORMAT_1 t))) (sym (m.none t)) (omega arith))
      has

  -- so the files have the rows of the chain's lists
  pub old_rows : (chain : Chain) → StandForOld tables chain → HaveOldRows (in_both (old_heads chain)) (listed_blocks chain) (lists chain) pages mid
  old_rows chain stand =
      let held = (held_old tables chain stand).1 in
      let tb = tables_of (in_both (old_heads chain)) (listed_blocks chain) (lists chain) in
      let same : (t : Table) → tables_in FORMAT_1 mid pages t ≡ old_bytes_of tb t = λ t. tables_same t ∙ held.each t in
      record {
        rows = λ t. record {
          fit = held.fit;
          many = ap (λ (rows : List (List ℕ)). length rows) (sym (same t)) ∙ length-rows_in (size_in FORMAT_1 t) (mid (file_of FORMAT_1 t)) (count_at pages t);
          each = λ i lt. ap (λ s. row_at s (mid (file_of FORMAT_1 t)) i) (sym (sizes_1 t))
              ∙ sym (get_or-rows_in (size_in FORMAT_1 t) (mid (file_of FORMAT_1 t)) (count_at pages t) i lt) ∙ ap (λ (rows : List (List ℕ)). get_or rows i []) (same t);
        };
        long = λ t. holds t;
      }

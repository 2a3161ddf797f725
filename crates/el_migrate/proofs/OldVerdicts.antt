-- The files are bad in one way, and files with tables are not.
use Rattle.std.proofs.Common.{◌≡◌, ◌≢◌, ◌⊎◌, ⊎_elim, ◌<◌, ◌≤◌, ◌+◌, ◌*◌, ◌^◌, ℕ, List, ◌++◌, length, map, refl, ap, sym, ◌∙◌, arith, subst, length-append}
use Rattle.std.specs.Int.{w32, from_le_bytes}
use Rattle.std.proofs.Math.Path.{fun_ext}
use Rattle.std.proofs.lemmas.Bool.{cases_lt}
use Rattle.el_outside.specs.Disk.{Image}
use Rattle.el_row_formats.specs.declared.table.Table.{Table}
use Rattle.el_row_formats.specs.declared.table.Table.TheVariants as table
use Rattle.el_row_formats.specs.Tables.{number_of}
use Rattle.el_row_formats.proofs.Keys.{same_index, index_within}
use Rattle.el_rows.specs.Changes.{count_at}
use Rattle.el_redo.specs.RedoBody.{numbers_bytes, all_tables}
use Rattle.el_redone.specs.Redone.{ImageStandsFor}
use Rattle.el_pages.specs.declared.layout.Layout.{Layout}
use Rattle.el_pages.specs.declared.layout.TheConstants.{FORMAT_1, LETTERS}
use Rattle.el_pages.specs.Layouts.{file_of, redo_of, size_in, limit_in}
use Rattle.el_pages.specs.Records.{Spells, meta_of}
use Rattle.el_pages.specs.Indexes.{HasCounts}
use Rattle.el_recovery.specs.Checks.{Found, word, count_told, IsBadCount, IsBadSize, sizes_in}
use Rattle.el_migrate.proofs.OldLimits.{limits_1}
use Rattle.el_recovery.proofs.Alike.{one_stands}
use Rattle.el_recovery.proofs.Decided.{one_bad_body, stands_or_bad}
use Rattle.el_migrate.proofs.OldMetas.{meta_head, count_is}
use Rattle.el_migrate.specs.OldChecks.{HasOldHeads, IsOldHead, IsBadOldHead, IsBadOldHeads, IsBadOldRow, IsBadOldTable, IsBadOldFiles, HasBadOldFiles, IsBadOldIndex}
use Rattle.el_migrate.specs.OldIndexes.{old_head_bytes, IsUnwritten, HasOldCounts}
use Rattle.el_migrate.specs.declared.old_files.TheConstants.{OLD_BUCKETS}

-- ---- what is found is one

abbrev One : (Found → Type 0) → Type 0
One A = (a b : Found) → A a → A b → a ≡ b

one_is : (k : Found) → One (λ (found : Found). found ≡ k)
one_is k a b x y = x ∙ sym y

one_with : (P : Type 0) (A : Found → Type 0) → One A → One (λ (found : Found). P × A found)
one_with P A one a b x y = one a b x.1 y.1

one_of : (A B : Found → Type 0) → ((a b : Found) → A a → B b → ⊥) → One A → One B → One (λ (found : Found). A found ⊎ B found)
one_of A B apart one two a b x y = ⊎_elim
    (λ p. ⊎_elim (λ q. one a b p q) (λ q. absurd (apart a b p q)) y)
    (λ p. ⊎_elim (λ q. absurd (apart b a q p)) (λ q. two a b p q) y)
    x

-- the first of two that fails
one_first : (P : Type 0) (A B : Found → Type 0) → One A → One B → One (λ (found : Found). ((P → ⊥) × A found) ⊎ (P × B found))
one_first P A B one two = one_of (λ (found : Found). (P → ⊥) × A found) (λ (found : Found). P × B found) (λ a b x y. x.0 y.0) (one_with (P → ⊥) A one) (one_with P B two)

same_table : (a b : Table) → number_of a ≡ number_of b → a ≡ b
same_table a b same = same_index a b (omega (arith, same))

module _ (l : Layout) (magic : ℕ) (file : List ℕ) where
  one_head : One (IsBadOldHead l magic file)
  one_head = one_first (word file 0 ≡ LETTERS) (λ (found : Found). found ≡ (l.first, LETTERS, word file 0))
      (λ (found : Found). ((word file 4 ≢ l.format) × (found ≡ (l.first, l.format, word file 4))) ⊎ ((word file 4 ≡ l.format) × ((word file 8 ≢ magic) × (found ≡ (l.first, magic, word file 8)))))
      (one_is (l.first, LETTERS, word file 0))
      (one_first (word file 4 ≡ l.format) (λ (found : Found). found ≡ (l.first, l.format, word file 4)) (λ (found : Found). (word file 8 ≢ magic) × (found ≡ (l.first, magic, word file 8)))
      (one_is (l.first, l.format, word file 4))
      (one_with (word file 8 ≢ magic) (λ (found : Found). found ≡ (l.first, magic, word file 8)) (one_is (l.first, magic, word file 8))))

  head_good : (found : Found) → IsBadOldHead l magic file found → IsOldHead l magic file → ⊥
  head_good found bad head = ⊎_elim
      (λ x. x.0 head.letters)
      (λ more. ⊎_elim (λ x. x.0 head.format) (λ x. x.1.0 head.network) more.1)
      bad

module _ (l : Layout) (count size : Table → ℕ) where
  one_heads : One (IsBadOldHeads l count)
  one_heads a b x y =
      one_first (count table.TxHeads ≡ OLD_BUCKETS) (λ (found : Found). found ≡ (file_of l table.TxHeads, OLD_BUCKETS, count table.TxHeads))
      (λ (found : Found). (count table.ScriptHeads ≢ OLD_BUCKETS) × (found ≡ (file_of l table.ScriptHeads, OLD_BUCKETS, count table.ScriptHeads)))
      (one_is (file_of l table.TxHeads, OLD_BUCKETS, count table.TxHeads))
      (one_with (count table.ScriptHeads ≢ OLD_BUCKETS) (λ (found : Found). found ≡ (file_of l table.ScriptHeads, OLD_BUCKETS, count table.ScriptHeads)) (one_is (file_of l table.ScriptHeads, OLD_BUCKETS, count table.ScriptHeads)))
      a b x.which y.which

  heads_good : (found : Found) → IsBadOldHeads l count found → HasOldHeads count → ⊥
  heads_good found bad heads = ⊎_elim
      (λ both. ⊎_elim (λ x. x.0 both.0) (λ x. x.1.0 both.1) bad.which)
      (λ none. bad.some none)
      heads

  one_count : One (IsBadCount l count)
  one_count a b x y = ⊎_elim
      (λ (lt : number_of x.of < number_of y.of). absurd (omega (arith, x.above, y.before x.of lt)))
      (λ ge. ⊎_elim
      (λ (lt : number_of y.of < number_of x.of). absurd (omega (arith, y.above, x.before y.of lt)))
      (λ le. x.is ∙ ap (λ (t : Table). let f : Found = (file_of l t, limit_in l t, count t) in f) (same_table x.of y.of (omega (arith, ge, le))) ∙ sym y.is)
      (cases_lt (number_of y.of) (number_of x.of)))
      (cases_lt (number_of x.of) (number_of y.of))

  one_size : One (IsBadSize l count size)
  one_size a b x y = ⊎_elim
      (λ (lt : number_of x.of < number_of y.of). absurd (omega (arith, x.short, y.before x.of lt)))
      (λ ge. ⊎_elim
      (λ (lt : number_of y.of < number_of x.of). absurd (omega (arith, y.short, x.before y.of lt)))
      (λ le. x.is ∙ ap (λ (t : Table). let f : Found = (file_of l t, count t * size_in l t, size t) in f) (same_table x.of y.of (omega (arith, ge, le))) ∙ sym y.is)
      (cases_lt (number_of y.of) (number_of x.of)))
      (cases_lt (number_of x.of) (number_of y.of))

  count_good : (found : Found) → IsBadCount l count found → ((t : Table) → count t ≤ limit_in l t) → ⊥
  count_good found bad limited = omega (arith, bad.above, limited bad.of)

  size_good : (found : Found) → IsBadSize l count size found → ((t : Table) → count t * size_in l t ≤ size t) → ⊥
  size_good found bad holds = omega (arith, bad.short, holds bad.of)

module _ (l : Layout) (magic : ℕ) (file : List ℕ) (size : Table → ℕ) where
  abbrev after_head : Found → Type 0
  after_head found = IsBadOldHeads l (count_told l file) found ⊎ (HasOldHeads (count_told l file) × IsBadCount l (count_told l file) found)

  one_row : One (IsBadOldRow l magic file)
  one_row = one_of (IsBadOldHead l magic file) (λ (found : Found). IsOldHead l magic file × after_head found) (λ a b x y. head_good l magic file a x y.0)
      (one_head l magic file)
      (one_with (IsOldHead l magic file) after_head
      (one_of (IsBadOldHeads l (count_told l file)) (λ (found : Found). HasOldHeads (count_told l file) × IsBadCount l (count_told l file) found) (λ a b x y. heads_good l (count_told l file) size a x y.0)
      (one_heads l (count_told l file) size)
      (one_with (HasOldHeads (count_told l file)) (IsBadCount l (count_told l file)) (one_count l (count_told l file) size))))

  row_good : (found : Found) → IsBadOldRow l magic file found → IsOldHead l magic file → HasOldHeads (count_told l file) → ((t : Table) → count_told l file t ≤ limit_in l t) → ⊥
  row_good found bad head heads limited = ⊎_elim
      (λ x. head_good l magic file found x head)
      (λ more. ⊎_elim (λ x. heads_good l (count_told l file) size found x heads) (λ x. count_good l (count_told l file) size found x.1 limited) more.1)
      bad

  pub one_bad_files : One (IsBadOldFiles l magic file size)
  one_bad_files = one_of (λ (found : Found). (1 ≤ length file) × ((length file < l.meta) × (found ≡ (l.first, l.meta, length file))))
      (λ (found : Found). (l.meta ≤ length file) × (IsBadOldRow l magic file found ⊎ IsBadOldTable l magic file size found))
      (λ a b x y. omega (arith, x.1.0, y.0))
      (λ a b x y. x.1.1 ∙ sym y.1.1)
      (one_with (l.meta ≤ length file) (λ (found : Found). IsBadOldRow l magic file found ⊎ IsBadOldTable l magic file size found)
      (one_of (IsBadOldRow l magic file) (IsBadOldTable l magic file size) (λ a b x y. row_good a x y.head y.heads y.limited)
      one_row (λ a b x y. one_size l (count_told l file) size a b x.which y.which)))

  pub files_good : (found : Found) → IsBadOldFiles l magic file size found → l.meta ≤ length file → IsOldHead l magic file → HasOldHeads (count_told l file) → ((t : Table) → count_told l file t ≤ limit_in l t)
      → ((t : Table) → count_told l file t * size_in l t ≤ size t) → ⊥
  files_good found bad long head heads limited holds = ⊎_elim
      (λ short. omega (arith, short.1.0, long))
      (λ more. ⊎_elim (λ x. row_good found x head heads limited) (λ x. size_good l (count_told l file) size found x.which holds) more.1)
      bad

-- ---- files that an image stands for

same_files : (l : Layout) (magic : ℕ) (a b : Image) (found : Found) → ((f : ℕ) → l.first ≤ f → f < redo_of l → a f ≡ b f)
    → IsBadOldFiles l magic (a l.first) (sizes_in l a) found → IsBadOldFiles l magic (b l.first) (sizes_in l b) found
same_files l magic a b found same bad =
    let sizes : sizes_in l a ≡ sizes_in l b = fun_ext (λ (t : Table). ap (λ (x : List ℕ). length x) (same (file_of l t) (omega arith) (omega (arith, index_within t)))) in
    subst (λ (s : Table → ℕ). IsBadOldFiles l magic (b l.first) s found) sizes
    (subst (λ (x : List ℕ). IsBadOldFiles l magic x (sizes_in l a) found) (same l.first (omega arith) (omega arith)) bad)

-- an image is bad in one way
pub one_bad_index : (l : Layout) (sized : (t : Table) → 0 < size_in l t) (magic : ℕ) (image : Image) (a b : Found) → length (image (redo_of l)) < 2 ^ 62
    → IsBadOldIndex l magic image a → IsBadOldIndex l magic image b → a ≡ b
one_bad_index l sized magic image a b small first second = ⊎_elim
    (λ body. ⊎_elim
    (λ other. one_bad_body l sized image a b body other)
    (λ (files : HasBadOldFiles l magic image b). absurd (stands_or_bad l sized image files.files a small files.stands body))
    second)
    (λ (files : HasBadOldFiles l magic image a). ⊎_elim
    (λ body. absurd (stands_or_bad l sized image files.files b small files.stands body))
    (λ (other : HasBadOldFiles l magic image b). one_bad_files l magic (other.files l.first) (sizes_in l other.files) a b
    (same_files l magic files.files other.files a (one_stands l image files.files other.files small files.stands other.stands) files.which) other.which)
    second)
    first

-- a meta row is whole
meta_long : (magic counts rest file : List ℕ) → length magic ≡ 4 → file ≡ meta_of (old_head_bytes magic) counts ++ rest → 76 ≤ length file
unfolding meta_of old_head_bytes
meta_long magic counts rest file four is =
    let numbers = numbers_bytes (map (count_at counts) all_tables) in
    let numbers_long : length numbers ≡ 64 = refl in
    let row_long : length (meta_of (old_head_bytes magic) counts) ≡ 8 + length (magic ++ numbers) = omega arith in
    omega (arith, ap (λ (b : List ℕ). length b) is, length-append (meta_of (old_head_bytes magic) counts) rest, row_long, length-append magic numbers, numbers_long, four)

-- one that stands for tables with the heads that they may have isn't bad
pub settled_or_bad : (magic : List ℕ) (image files : Image) (counts : List ℕ) (found : Found) → length magic ≡ 4 → length (image 9) < 2 ^ 62 → ((t : Table) → 0 < size_in FORMAT_1 t)
    → ImageStandsFor (Spells FORMAT_1) 0 9 files image → HasOldCounts magic files counts → HasOldHeads (count_at counts)
    → IsBadOldIndex FORMAT_1 (from_le_bytes w32 magic) image found → ⊥
settled_or_bad magic image files counts found four small sized stands has heads bad = ⊎_elim
    (λ body. stands_or_bad FORMAT_1 sized image files found small stands body)
    (λ (other : HasBadOldFiles FORMAT_1 (from_le_bytes w32 magic) image found).
    let which = same_files FORMAT_1 (from_le_bytes w32 magic) other.files files found (one_stands FORMAT_1 image other.files files small other.stands stands) other.which in
    ⊎_elim
    (λ (m : HasCounts FORMAT_1 (old_head_bytes magic) files counts).
    let told : (t : Table) → count_told FORMAT_1 (files 0) t ≡ count_at counts t = λ t. count_is magic counts m.rest (files 0) four m.meta t (omega (arith, m.limited t, limits_1 t)) in
    let same : count_told FORMAT_1 (files 0) ≡ count_at counts = fun_ext told in
    files_good FORMAT_1 (from_le_bytes w32 magic) (files 0) (sizes_in FORMAT_1 files) found which
    (meta_long magic counts m.rest (files 0) four m.meta)
    (meta_head magic counts m.rest (files 0) four m.meta)
    (subst (λ (c : Table → ℕ). HasOldHeads c) (sym same) heads)
    (λ t. omega (arith, told t, m.limited t))
    (λ t. subst (λ n. n * size_in FORMAT_1 t ≤ length (files (file_of FORMAT_1 t))) (sym (told t)) (m.holds t)))
    (λ (none : IsUnwritten files counts). ⊎_elim
    (λ short. omega (arith, short.0, ap (λ (b : List ℕ). length b) none.empty))
    (λ more. omega (arith, more.0, ap (λ (b : List ℕ). length b) none.empty))
    which)
    has)
    bad

-- The files are bad in one way, and files with tables are not.
use Rattle.std.proofs.Common.{◌≡◌, ◌≢◌, ◌⊎◌, ⊎_elim, ◌<◌, ◌≤◌, ◌+◌, ◌*◌, ◌^◌, ℕ, List, ◌++◌, length, map, refl, ap, sym, ◌∙◌, arith, subst, length-append}
use Rattle.std.specs.Int.{w32, to_le_bytes, from_le_bytes}
use Rattle.std.proofs.Math.Path.{fun_ext}
use Rattle.std.proofs.lemmas.Bool.{cases_lt}
use Rattle.el_outside.specs.Disk.{Image}
use Rattle.el_row_formats.specs.declared.table.Table.{Table}
use Rattle.el_row_formats.specs.declared.table.Table.TheVariants as table
use Rattle.el_row_formats.specs.Tables.{number_of}
use Rattle.el_row_formats.specs.declared.limits.TheConstants.{MIN_HEAD_BITS}
use Rattle.el_row_formats.proofs.Keys.{same_index, index_within, few_rows}
use Rattle.el_rows.specs.Changes.{count_at}
use Rattle.el_redo.specs.RedoBody.{head_bytes, numbers_bytes, all_tables}
use Rattle.el_redone.specs.Redone.{ImageStandsFor}
use Rattle.el_pages.specs.declared.layout.Layout.{Layout}
use Rattle.el_pages.specs.declared.layout.TheConstants.{FORMAT_2, LETTERS}
use Rattle.el_pages.specs.Layouts.{file_of, redo_of, size_in, limit_in}
use Rattle.el_pages.specs.Records.{Spells, meta_of}
use Rattle.el_pages.specs.Indexes.{HasCounts}
use Rattle.el_recovery.specs.Checks.{Found, word, bits_told, count_told, HasBits, HasHeadOfEachBucket, IsHead, IsBadHead, IsBadHeads, IsBadCount, IsBadSize, IsBadRow, IsBadTable, IsBadFiles, sizes_in, HasBadFiles, IsBadIndex}
use Rattle.el_pages.proofs.Laid.{limits_2}
use Rattle.el_recovery.proofs.Alike.{one_stands}
use Rattle.el_recovery.proofs.Decided.{one_bad_body, stands_or_bad}
use Rattle.el_recovery.proofs.Metas.{meta_head, bits_there, count_is}

-- ---- what is found is one

abbrev One : (Found → Type 0) → Type 0
One A = (a b : Found) → A a → A b → a ≡ b

one_is : (k : Found) → One (λ (found : Found). found ≡ k)
one_is k a b x y = x ∙ sym y

one_with : (P : Type 0) (A : Found → Type 0) → One A → One (λ (found : Found). P × A found)
one_with P A one a b x y = one a b x.1 y.1

one_of : (A B : Found → Type 0) → ((a b : Found) → A a → B b → ⊥) → One A → One B → One (λ (found : Found). A found ⊎ B found)
one_of A B apart one two a b x y = ⊎_elim
    (λ p. ⊎_elim (λ q. one a b p q) (λ q. absurd (apart a b p q)) y)
    (λ p. ⊎_elim (λ q. absurd (apart b a q p)) (λ q. two a b p q) y)
    x

-- the first of two that fails
one_first : (P : Type 0) (A B : Found → Type 0) → One A → One B → One (λ (found : Found). ((P → ⊥) × A found) ⊎ (P × B found))
one_first P A B one two = one_of (λ (found : Found). (P → ⊥) × A found) (λ (found : Found). P × B found) (λ a b x y. x.0 y.0) (one_with (P → ⊥) A one) (one_with P B two)

same_table : (a b : Table) → number_of a ≡ number_of b → a ≡ b
same_table a b same = same_index a b (omega (arith, same))

module _ (l : Layout) (magic : ℕ) (file : List ℕ) where
  abbrev bits_found : Found → Type 0
  bits_found found = (HasBits (bits_told file) → ⊥) × (found ≡ (l.first, MIN_HEAD_BITS, bits_told file))

  abbrev network_found : Found → Type 0
  network_found found = ((word file 8 ≢ magic) × (found ≡ (l.first, magic, word file 8))) ⊎ ((word file 8 ≡ magic) × bits_found found)

  abbrev format_found : Found → Type 0
  format_found found = ((word file 4 ≢ l.format) × (found ≡ (l.first, l.format, word file 4))) ⊎ ((word file 4 ≡ l.format) × network_found found)

  one_network : One network_found
  one_network = one_first (word file 8 ≡ magic) (λ (found : Found). found ≡ (l.first, magic, word file 8)) bits_found (one_is (l.first, magic, word file 8))
      (one_with (HasBits (bits_told file) → ⊥) (λ (found : Found). found ≡ (l.first, MIN_HEAD_BITS, bits_told file)) (one_is (l.first, MIN_HEAD_BITS, bits_told file)))

  one_format : One format_found
  one_format = one_first (word file 4 ≡ l.format) (λ (found : Found). found ≡ (l.first, l.format, word file 4)) network_found (one_is (l.first, l.format, word file 4)) one_network

  one_head : One (IsBadHead l magic file)
  one_head = one_first (word file 0 ≡ LETTERS) (λ (found : Found). found ≡ (l.first, LETTERS, word file 0)) format_found (one_is (l.first, LETTERS, word file 0)) one_format

  head_good : (found : Found) → IsBadHead l magic file found → IsHead l magic file → ⊥
  head_good found bad head = ⊎_elim
      (λ x. x.0 head.letters)
      (λ more. ⊎_elim
      (λ x. x.0 head.format)
      (λ rest. ⊎_elim (λ x. x.0 head.network) (λ x. x.1.0 head.bits) rest.1)
      more.1)
      bad

module _ (l : Layout) (bits : ℕ) (count : Table → ℕ) where
  one_heads : One (IsBadHeads l bits count)
  one_heads = one_first (count table.TxHeads ≡ 2 ^ bits) (λ (found : Found). found ≡ (file_of l table.TxHeads, 2 ^ bits, count table.TxHeads))
      (λ (found : Found). (count table.ScriptHeads ≢ 2 ^ bits) × (found ≡ (file_of l table.ScriptHeads, 2 ^ bits, count table.ScriptHeads)))
      (one_is (file_of l table.TxHeads, 2 ^ bits, count table.TxHeads))
      (one_with (count table.ScriptHeads ≢ 2 ^ bits) (λ (found : Found). found ≡ (file_of l table.ScriptHeads, 2 ^ bits, count table.ScriptHeads)) (one_is (file_of l table.ScriptHeads, 2 ^ bits, count table.ScriptHeads)))

  heads_good : (found : Found) → IsBadHeads l bits count found → HasHeadOfEachBucket bits count → ⊥
  heads_good found bad heads = ⊎_elim (λ x. x.0 heads.0) (λ x. x.1.0 heads.1) bad

module _ (l : Layout) (count size : Table → ℕ) where
  one_count : One (IsBadCount l count)
  one_count a b x y = ⊎_elim
      (λ (lt : number_of x.of < number_of y.of). absurd (omega (arith, x.above, y.before x.of lt)))
      (λ ge. ⊎_elim
      (λ (lt : number_of y.of < number_of x.of). absurd (omega (arith, y.above, x.before y.of lt)))
      (λ le. x.is ∙ ap (λ (t : Table). let f : Found = (file_of l t, limit_in l t, count t) in f) (same_table x.of y.of (omega (arith, ge, le))) ∙ sym y.is)
      (cases_lt (number_of y.of) (number_of x.of)))
      (cases_lt (number_of x.of) (number_of y.of))

  one_size : One (IsBadSize l count size)
  one_size a b x y = ⊎_elim
      (λ (lt : number_of x.of < number_of y.of). absurd (omega (arith, x.short, y.before x.of lt)))
      (λ ge. ⊎_elim
      (λ (lt : number_of y.of < number_of x.of). absurd (omega (arith, y.short, x.before y.of lt)))
      (λ le. x.is ∙ ap (λ (t : Table). let f : Found = (file_of l t, count t * size_in l t, size t) in f) (same_table x.of y.of (omega (arith, ge, le))) ∙ sym y.is)
      (cases_lt (number_of y.of) (number_of x.of)))
      (cases_lt (number_of x.of) (number_of y.of))

  count_good : (found : Found) → IsBadCount l count found → ((t : Table) → count t ≤ limit_in l t) → ⊥
  count_good found bad limited = omega (arith, bad.above, limited bad.of)

  size_good : (found : Found) → IsBadSize l count size found → ((t : Table) → count t * size_in l t ≤ size t) → ⊥
  size_good found bad holds = omega (arith, bad.short, holds bad.of)

module _ (l : Layout) (magic : ℕ) (file : List ℕ) (size : Table → ℕ) where
  abbrev after_head : Found → Type 0
  after_head found = IsBadHeads l (bits_told file) (count_told l file) found ⊎ (HasHeadOfEachBucket (bits_told file) (count_told l file) × IsBadCount l (count_told l file) found)

  one_row : One (IsBadRow l magic file)
  one_row = one_of (IsBadHead l magic file) (λ (found : Found). IsHead l magic file × after_head found) (λ a b x y. head_good l magic file a x y.0)
      (one_head l magic file)
      (one_with (IsHead l magic file) after_head
      (one_of (IsBadHeads l (bits_told file) (count_told l file)) (λ (found : Found). HasHeadOfEachBucket (bits_told file) (count_told l file) × IsBadCount l (count_told l file) found) (λ a b x y. heads_good l (bits_told file) (count_told l file) a x y.0)
      (one_heads l (bits_told file) (count_told l file))
      (one_with (HasHeadOfEachBucket (bits_told file) (count_told l file)) (IsBadCount l (count_told l file)) (one_count l (count_told l file) size))))

  row_good : (found : Found) → IsBadRow l magic file found → IsHead l magic file → HasHeadOfEachBucket (bits_told file) (count_told l file) → ((t : Table) → count_told l file t ≤ limit_in l t) → ⊥
  row_good found bad head heads limited = ⊎_elim
      (λ x. head_good l magic file found x head)
      (λ more. ⊎_elim (λ x. heads_good l (bits_told file) (count_told l file) found x heads) (λ x. count_good l (count_told l file) size found x.1 limited) more.1)
      bad

  pub one_bad_files : One (IsBadFiles l magic file size)
  one_bad_files = one_of (λ (found : Found). (length file < l.meta) × (found ≡ (l.first, l.meta, length file)))
      (λ (found : Found). (l.meta ≤ length file) × (IsBadRow l magic file found ⊎ IsBadTable l magic file size found))
      (λ a b x y. omega (arith, x.0, y.0))
      (λ a b x y. x.1 ∙ sym y.1)
      (one_with (l.meta ≤ length file) (λ (found : Found). IsBadRow l magic file found ⊎ IsBadTable l magic file size found)
      (one_of (IsBadRow l magic file) (IsBadTable l magic file size) (λ a b x y. row_good a x y.head y.heads y.limited)
      one_row (λ a b x y. one_size l (count_told l file) size a b x.which y.which)))

  pub files_good : (found : Found) → IsBadFiles l magic file size found → l.meta ≤ length file → IsHead l magic file → HasHeadOfEachBucket (bits_told file) (count_told l file) → ((t : Table) → count_told l file t ≤ limit_in l t)
      → ((t : Table) → count_told l file t * size_in l t ≤ size t) → ⊥
  files_good found bad long head heads limited holds = ⊎_elim
      (λ short. omega (arith, short.0, long))
      (λ more. ⊎_elim (λ x. row_good found x head heads limited) (λ x. size_good l (count_told l file) size found x.which holds) more.1)
      bad

-- ---- files that an image stands for

same_files : (l : Layout) (magic : ℕ) (a b : Image) (found : Found) → ((f : ℕ) → l.first ≤ f → f < redo_of l → a f ≡ b f)
    → IsBadFiles l magic (a l.first) (sizes_in l a) found → IsBadFiles l magic (b l.first) (sizes_in l b) found
same_files l magic a b found same bad =
    let sizes : sizes_in l a ≡ sizes_in l b = fun_ext (λ (t : Table). ap (λ (x : List ℕ). length x) (same (file_of l t) (omega arith) (omega (arith, index_within t)))) in
    subst (λ (s : Table → ℕ). IsBadFiles l magic (b l.first) s found) sizes
    (subst (λ (x : List ℕ). IsBadFiles l magic x (sizes_in l a) found) (same l.first (omega arith) (omega arith)) bad)

-- an image is bad in one way
pub one_bad_index : (l : Layout) (sized : (t : Table) → 0 < size_in l t) (magic : ℕ) (image : Image) (a b : Found) → length (image (redo_of l)) < 2 ^ 62
    → IsBadIndex l magic image a → IsBadIndex l magic image b → a ≡ b
one_bad_index l sized magic image a b small first second = ⊎_elim
    (λ body. ⊎_elim
    (λ other. one_bad_body l sized image a b body other)
    (λ (files : HasBadFiles l magic image b). absurd (stands_or_bad l sized image files.files a small files.stands body))
    second)
    (λ (files : HasBadFiles l magic image a). ⊎_elim
    (λ body. absurd (stands_or_bad l sized image files.files b small files.stands body))
    (λ (other : HasBadFiles l magic image b). one_bad_files l magic (other.files l.first) (sizes_in l other.files) a b
    (same_files l magic files.files other.files a (one_stands l image files.files other.files small files.stands other.stands) files.which) other.which)
    second)
    first

-- a meta row is whole
meta_long : (magic counts rest file : List ℕ) (bits : ℕ) → length magic ≡ 4 → file ≡ meta_of (head_bytes magic bits) counts ++ rest → 80 ≤ length file
unfolding meta_of head_bytes
meta_long magic counts rest file bits four is =
    let numbers = numbers_bytes (map (count_at counts) all_tables) in
    let numbers_long : length numbers ≡ 64 = refl in
    let buckets = to_le_bytes w32 bits in
    let buckets_long : length buckets ≡ 4 = refl in
    let row_long : length (meta_of (head_bytes magic bits) counts) ≡ 8 + length ((magic ++ buckets) ++ numbers) = omega arith in
    omega (arith, ap (λ (b : List ℕ). length b) is, length-append (meta_of (head_bytes magic bits) counts) rest, row_long, length-append (magic ++ buckets) numbers, length-append magic buckets, numbers_long, buckets_long, four)

-- one that stands for tables with a head for each bucket isn't bad
pub settled_or_bad : (magic : List ℕ) (image files : Image) (counts : List ℕ) (bits : ℕ) (found : Found) → length magic ≡ 4 → length (image 29) < 2 ^ 62 → ((t : Table) → 0 < size_in FORMAT_2 t)
    → ImageStandsFor (Spells FORMAT_2) 20 29 files image → HasCounts FORMAT_2 (head_bytes magic bits) files counts → HasBits bits → HasHeadOfEachBucket bits (count_at counts)
    → IsBadIndex FORMAT_2 (from_le_bytes w32 magic) image found → ⊥
settled_or_bad magic image files counts bits found four small sized stands m may_be heads bad = ⊎_elim
    (λ body. stands_or_bad FORMAT_2 sized image files found small stands body)
    (λ (other : HasBadFiles FORMAT_2 (from_le_bytes w32 magic) image found).
    let which = same_files FORMAT_2 (from_le_bytes w32 magic) other.files files found (one_stands FORMAT_2 image other.files files small other.stands stands) other.which in
    let told : (t : Table) → count_told FORMAT_2 (files 20) t ≡ count_at counts t = λ t. count_is magic counts m.rest (files 20) bits four may_be m.meta t (omega (arith, m.limited t, limits_2 t, few_rows t)) in
    let same : count_told FORMAT_2 (files 20) ≡ count_at counts = fun_ext told in
    files_good FORMAT_2 (from_le_bytes w32 magic) (files 20) (sizes_in FORMAT_2 files) found which
    (meta_long magic counts m.rest (files 20) bits four m.meta)
    (meta_head magic counts m.rest (files 20) bits four may_be m.meta)
    (subst (λ b. HasHeadOfEachBucket b (count_told FORMAT_2 (files 20))) (sym (bits_there magic counts m.rest (files 20) bits four may_be m.meta)) (subst (λ (c : Table → ℕ). HasHeadOfEachBucket bits c) (sym same) heads))
    (λ t. omega (arith, told t, m.limited t))
    (λ t. subst (λ n. n * size_in FORMAT_2 t ≤ length (files (file_of FORMAT_2 t))) (sym (told t)) (m.holds t)))
    bad

-- Rows one after another in a list of bytes.
use Rattle.std.proofs.Common.{◌≡◌, ◌≢◌, ◌<◌, ◌≤◌, ◌+◌, ◌-◌, ◌*◌, ℕ, List, [], ◌∷◌, ◌++◌, length, get_or, take, drop, ap, sym, ◌∙◌, arith, subst, ⊎_elim, length-append, Vec, rules}
use Rattle.std.specs.Vec.{with_items}
use Rattle.std.proofs.Math.ListN.{set, length-set}
use Rattle.std.proofs.lemmas.List.{get_or_append_left, get_or_push, get_or-set_same, get_or-set_other, take-append-le, take-take, drop-drop, take_all, drop_at, with_items_is, places}
use Rattle.std.proofs.lemmas.List.Edits.{length-between}
use Rattle.std.proofs.lemmas.List.FromFn.{length-map-range_with_len, get_or-map-range_with_len, fill_by_all}
use Rattle.std.proofs.Math.Nat.{add-mul}
use Rattle.std.proofs.lemmas.Nat.{row_fits, mul-le}
use Rattle.std.proofs.lemmas.Slice.{between_is, take-put_mid_below, drop-put_mid, between-put_mid}
use borrow.Rule.Slice.PartMut.{put_mid}
use Rattle.std.proofs.lemmas.Bool.{cases_lt, cases_eq}
use Rattle.el_row_formats.specs.Tables.{row_at}
use Rattle.el_rows.specs.SizedRows.{SizedRows, cut_rows, HasGrown}

-- how many there are, one of them, and all of them
module _ (size : ℕ) (bytes : List ℕ) (count : ℕ) where
  pub length-cut_rows : length (cut_rows size bytes count) ≡ count
  unfolding cut_rows
  length-cut_rows = length-map-range_with_len (row_at size bytes) 0 count

  get_or-cut_rows : (i : ℕ) → i < count → get_or (cut_rows size bytes count) i [] ≡ row_at size bytes i
  unfolding cut_rows
  get_or-cut_rows i lt = get_or-map-range_with_len (row_at size bytes) 0 count i i [] lt (omega arith)

  are_rows : (rows : List (List ℕ)) → length rows ≡ count → ((i : ℕ) → i < count → get_or rows i [] ≡ row_at size bytes i) → cut_rows size bytes count ≡ rows
  unfolding cut_rows
  are_rows rows long each = sym (fill_by_all (row_at size bytes) rows count [] long each)

-- a row lies within the bytes
row_within : (size : ℕ) (bytes : List ℕ) (count i : ℕ) → length bytes ≡ count * size → i < count → i * size + size ≤ length bytes
row_within size bytes count i whole lt = omega (arith, whole, row_fits i size count size lt (omega arith))

length-row_at : (size : ℕ) (bytes : List ℕ) (count i : ℕ) → length bytes ≡ count * size → i < count → length (row_at size bytes i) ≡ size
length-row_at size bytes count i whole lt = length-between bytes (i * size) (i * size + size) (row_within size bytes count i whole lt) ∙ (let e : i * size + size - i * size ≡ size = omega arith in e)

-- a row among the bytes from one row to another
row_between : (size : ℕ) (bytes : List ℕ) (from to j : ℕ) → from + j < to → row_at size (take (to * size - from * size) (drop (from * size) bytes)) j ≡ row_at size bytes (from + j)
row_between size bytes from to j lt =
    let part = to * size - from * size in
    let ys = drop (from * size) bytes in
    let whole : (from + j) * size ≡ from * size + j * size = add-mul from j size in
    let le : j * size + size ≤ part = omega (arith, whole, row_fits (from + j) size to size lt (omega arith)) in
    between_is (take part ys) (j * size) (j * size + size)
    ∙ ap (λ (b : List ℕ). drop (j * size) b) (take-take (j * size + size) part ys le)
    ∙ sym (between_is ys (j * size) (j * size + size))
    ∙ ap (λ (b : List ℕ). take (j * size + size - j * size) b) (drop-drop (j * size) (from * size) bytes)
    ∙ ap (λ (n : ℕ). take n (drop (from * size + j * size) bytes)) (let e : j * size + size - j * size ≡ (from + j) * size + size - (from + j) * size = omega arith in e)
    ∙ ap (λ (n : ℕ). take ((from + j) * size + size - (from + j) * size) (drop n bytes)) (sym whole)

-- bytes that follow leave a row
row_before : (size : ℕ) (bytes more : List ℕ) (i : ℕ) → i * size + size ≤ length bytes → row_at size (bytes ++ more) i ≡ row_at size bytes i
row_before size bytes more i le = let at = i * size in
    between_is (bytes ++ more) at (at + size) ∙ ap (λ (b : List ℕ). drop at b) (take-append-le (at + size) bytes more le) ∙ sym (between_is bytes at (at + size))

-- one row more
push_row : (size : ℕ) (bytes : List ℕ) (count : ℕ) (row : List ℕ) → length bytes ≡ count * size → length row ≡ size
    → cut_rows size (bytes ++ row) (count + 1) ≡ cut_rows size bytes count ++ row ∷ []
push_row size bytes count row whole sized = are_rows size (bytes ++ row) (count + 1) (old ++ row ∷ []) (omega (arith, length-append old (row ∷ []), long))
    (λ i lt. ⊎_elim
    (λ (less : i < count). get_or_append_left old (row ∷ []) [] i (omega (arith, long, less)) ∙ get_or-cut_rows size bytes count i less ∙ sym (row_before size bytes row i (row_within size bytes count i whole less)))
    (λ more. let last : count ≡ i = omega (arith, more, lt) in
    subst (λ (n : ℕ). get_or (old ++ row ∷ []) n [] ≡ row_at size (bytes ++ row) n) last (get_or_push old row [] count long ∙ sym last_row))
    (cases_lt i count))
  where
    old : List (List ℕ)
    old = cut_rows size bytes count

    long : length old ≡ count
    long = length-cut_rows size bytes count

    last_row : row_at size (bytes ++ row) count ≡ row
    last_row = ap (λ (b : List ℕ). take (count * size + size - count * size) b) (drop_at bytes row (count * size) whole) ∙ take_all (count * size + size - count * size) row (omega (arith, sized))

-- more rows
grow_rows : (size : ℕ) (bytes : List ℕ) (count : ℕ) (more : List ℕ) (n : ℕ) → length bytes ≡ count * size → length (bytes ++ more) ≡ n * size → count ≤ n
    → HasGrown size (cut_rows size bytes count) (cut_rows size (bytes ++ more) n)
grow_rows size bytes count more n whole now le = record {
  longer = omega (arith, was, is, le);
  before = λ i lt. let few : i < count = omega (arith, was, lt) in
      get_or-cut_rows size (bytes ++ more) n i (omega (arith, few, le)) ∙ row_before size bytes more i (row_within size bytes count i whole few) ∙ sym (get_or-cut_rows size bytes count i few);
  sized = λ i _ lt. let below : i < n = omega (arith, is, lt) in ap length (get_or-cut_rows size (bytes ++ more) n i below) ∙ length-row_at size (bytes ++ more) n i now below;
}
  where
    was : length (cut_rows size bytes count) ≡ count
    was = length-cut_rows size bytes count

    is : length (cut_rows size (bytes ++ more) n) ≡ n
    is = length-cut_rows size (bytes ++ more) n

-- a row is written over
write_row : (size : ℕ) (bytes : List ℕ) (count i : ℕ) (row : List ℕ) → length bytes ≡ count * size → i < count → length row ≡ size
    → cut_rows size (put_mid (i * size) size bytes row) count ≡ set (cut_rows size bytes count) i row
write_row size bytes count i row whole lt sized = are_rows size new count (set old i row) (length-set old i row ∙ long)
    (λ j below. ⊎_elim
    (λ (e : i ≡ j). subst (λ (n : ℕ). get_or (set old i row) n [] ≡ row_at size new n) e (get_or-set_same old i row [] (omega (arith, long, lt)) ∙ sym row_here))
    (λ (ne : i ≢ j). get_or-set_other old i j row [] (λ e. ne (sym e)) ∙ get_or-cut_rows size bytes count j below ∙ sym (row_beside j (λ e. ne e)))
    (cases_eq i j))
  where
    at : ℕ
    at = i * size

    new : List ℕ
    new = put_mid at size bytes row

    old : List (List ℕ)
    old = cut_rows size bytes count

    long : length old ≡ count
    long = length-cut_rows size bytes count

    within : i * size + size ≤ length bytes
    within = row_within size bytes count i whole lt

    row_here : row_at size new i ≡ row
    row_here = between-put_mid at size bytes row (at + size) (omega (arith, within)) (omega (arith, sized))

    row_below : (j : ℕ) → j < i → row_at size new j ≡ row_at size bytes j
    row_below j less = let to = j * size + size in
        between_is new (j * size) to ∙ ap (λ (b : List ℕ). drop (j * size) b) (take-put_mid_below at size bytes row to (row_fits j size i size less (omega arith)) (omega (arith, within)))
        ∙ sym (between_is bytes (j * size) to)

    row_above : (j : ℕ) → i < j → row_at size new j ≡ row_at size bytes j
    row_above j more = ap (λ (b : List ℕ). take (j * size + size - j * size) b) (drop-put_mid at size bytes row (j * size) (row_fits i size j size more (omega arith)) (omega (arith, within)) sized)

    row_beside : (j : ℕ) → i ≢ j → row_at size new j ≡ row_at size bytes j
    row_beside j ne = ⊎_elim (row_below j) (λ le. row_above j (omega (arith, le, ne))) (cases_lt j i)

same_rows : (size same : ℕ) (rows others : List (List ℕ)) → size ≡ same → rows ≡ others → ◌≡◌ {A = SizedRows} (record { size = size; rows = rows }) (record { size = same; rows = others })
same_rows size same rows others is are = cc

-- a list of rows, which is so many of these bytes
module _ (self : SizedRows) (size : ℕ) (bytes : List ℕ) (count : ℕ) (is : record { size = size; rows = cut_rows size bytes count } ≡ self) where
  rows_are : cut_rows size bytes count ≡ self.rows
  rows_are = ap (λ (s : SizedRows). s.rows) is

  pub size_is : size ≡ self.size
  size_is = ap (λ (s : SizedRows). s.size) is

  pub count_is : count ≡ length self.rows
  count_is = sym (length-cut_rows size bytes count) ∙ ap (λ (rows : List (List ℕ)). length rows) rows_are

  pub row_is : (i : ℕ) → i < length self.rows → row_at size bytes i ≡ get_or self.rows i []
  row_is i lt = sym (get_or-cut_rows size bytes count i (omega (arith, count_is, lt))) ∙ ap (λ (rows : List (List ℕ)). get_or rows i []) rows_are

  pub is_within : (i : ℕ) → length bytes ≡ count * size → i < length self.rows → i * size + size ≤ length bytes
  is_within i whole lt = row_within size bytes count i whole (omega (arith, count_is, lt))

  pub is_end : (n : ℕ) → length bytes ≡ count * size → n ≤ length self.rows → n * size ≤ length bytes
  is_end n whole le = omega (arith, whole, mul-le n size count size (omega (arith, count_is, le)) (omega arith))

  pub between_rows : (from to j : ℕ) → to ≤ length self.rows → from + j < to → row_at self.size (take (to * size - from * size) (drop (from * size) bytes)) j ≡ get_or self.rows (from + j) []
  between_rows from to j le lt = ap (λ (s : ℕ). row_at s (take (to * size - from * size) (drop (from * size) bytes)) j) (sym size_is) ∙ row_between size bytes from to j lt ∙ row_is (from + j) (omega (arith, le, lt))

  pub written : (new : List ℕ) (i : ℕ) (row : List ℕ) → length bytes ≡ count * size → i < length self.rows → length row ≡ self.size → new ≡ put_mid (i * size) size bytes row
      → ◌≡◌ {A = SizedRows} (record { size = size; rows = cut_rows size new count }) (record { size = self.size; rows = set self.rows i row })
  written new i row whole lt sized by = same_rows size self.size (cut_rows size new count) (set self.rows i row) size_is
      (ap (λ (b : List ℕ). cut_rows size b count) by ∙ write_row size bytes count i row whole (omega (arith, count_is, lt)) (sized ∙ sym size_is)
      ∙ ap (λ (rows : List (List ℕ)). set rows i row) rows_are)

  pub pushed : (new : List ℕ) (one_more : ℕ) (row : List ℕ) → length bytes ≡ count * size → length row ≡ self.size → new ≡ bytes ++ row → one_more ≡ count + 1
      → ◌≡◌ {A = SizedRows} (record { size = size; rows = cut_rows size new one_more }) (record { size = self.size; rows = self.rows ++ row ∷ [] })
  pushed new one_more row whole sized by more = same_rows size self.size (cut_rows size new one_more) (self.rows ++ row ∷ []) size_is
      (ap (λ (b : List ℕ). cut_rows size b one_more) by ∙ ap (λ (n : ℕ). cut_rows size (bytes ++ row) n) more ∙ push_row size bytes count row whole (sized ∙ sym size_is)
      ∙ ap (λ (rows : List (List ℕ)). rows ++ row ∷ []) rows_are)

  pub grown : (new more : List ℕ) (n total : ℕ) → length bytes ≡ count * size → new ≡ bytes ++ more → length more ≡ total - length bytes → total ≡ n * size → count ≤ n
      → HasGrown self.size self.rows (cut_rows size new n)
  grown new more n total whole by long is le = let few : length bytes ≤ total = omega (arith, whole, is, mul-le count size n size le (omega arith)) in
      rw (by, ← rows_are, ← size_is) (grow_rows size bytes count more n whole (omega (arith, length-append bytes more, long, few, is)) le)

length-put_mid : (at size : ℕ) (bytes row : List ℕ) → length row ≡ size → at + size ≤ length bytes → length (put_mid at size bytes row) ≡ length bytes
length-put_mid at size bytes row sized le = search (rules, places)

-- bytes of which a row was written over
pub put_row : {Z : Type 0} (v : Vec ℕ Z) (at size part : ℕ) (xs ys row : List ℕ) → xs ≡ v.items → ys ≡ row → length row ≡ size → part ≡ size → at + size ≤ length v.items
    → (with_items v (put_mid at part xs ys)).items ≡ put_mid at size v.items row
put_row v at size part xs ys row same is sized all le = rw (same, is, all) (with_items_is v (put_mid at size v.items row) (omega (arith, v.ok.0, length-put_mid at size v.items row sized le)))

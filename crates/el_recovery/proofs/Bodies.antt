-- A body that an opening goes over, change by change.
use Rattle.std.proofs.Common.{◌≡◌, ◌≢◌, ⊎_elim, ◌<◌, ◌≤◌, ◌+◌, ◌*◌, ◌/◌, ◌^◌, max, ℕ, zero, suc, List, [], ◌∷◌, ◌++◌, length, take, drop, map, refl, ap, sym, ◌∙◌, arith, subst, append_assoc, append-nil, length-append, le-div_iff_mul-le}
use Rattle.std.specs.List.{AllByRecursion}
use Rattle.std.specs.Int.{w64, to_le_bytes, from_le_bytes}
use Rattle.std.proofs.Math.Path.{fun_ext}
use Rattle.std.proofs.lemmas.Bool.{cases_eq}
use Rattle.std.proofs.lemmas.List.{take_at, drop_at, drop-drop, take-append-drop, length-take-le}
use Rattle.std.proofs.lemmas.Nat.{from_le_bytes-to_le_bytes_8}
use Rattle.el_outside.specs.Disk.{Image}
use Rattle.el_row_formats.specs.declared.table.Table.{Table}
use Rattle.el_row_formats.specs.declared.table.RowKey.{RowKey}
use Rattle.el_row_formats.specs.Tables.{key, index_of}
use Rattle.el_row_formats.proofs.Keys.{same_index}
use Rattle.el_rows.specs.Changes.{Changes}
use Rattle.el_redo.specs.RedoBody.{change_bytes, changes_bytes}
use Rattle.el_redo.proofs.BodyLemmas.{length-change}
use Rattle.el_redone.specs.Redone.{Write, WritesFit, into, ends, record_bytes}
use Rattle.el_redone.proofs.Writes.{into_here, into_other, into_append}
use Rattle.el_pages.specs.declared.layout.Layout.{Layout}
use Rattle.el_pages.specs.Layouts.{file_of, redo_of, size_in}
use Rattle.el_pages.specs.Records.{write_of, writes_of, IsWhole}
use Rattle.el_recovery.specs.Checks.{Found, IsGateOpen, length_told, body_told, IsBadNext, IsBadChange}
use Rattle.el_recovery.specs.within.Checking.{HasBody, IsBodyChecked, IsNextRow}
use Rattle.el_recovery.specs.within.Redoing.{HasRedoRecord}

-- ---- lists of writes, and one more

pub fits_append : (xs : List Write) (w : Write) (n : ℕ) → WritesFit xs n → w.at ≤ max n (ends xs) → WritesFit (xs ++ w ∷ []) n
fits_append [] w n fits le = (omega (arith, le), tt)
fits_append (x ∷ xs) w n fits le = (fits.0, fits_append xs w (max n (x.at + length x.bytes)) fits.1 (omega (arith, le)))

pub ends_append : (xs : List Write) (w : Write) → ends (xs ++ w ∷ []) ≡ max (ends xs) (w.at + length w.bytes)
ends_append [] w = omega arith
ends_append (x ∷ xs) w = omega (arith, ends_append xs w)

-- a row number that isn't beyond a quotient begins within
pub begins_within : (row n size : ℕ) → 0 < size → row ≤ n / size → row * size ≤ n
begins_within row n size some le = (le-div_iff_mul-le some).0 le

-- ---- a redo file with a body

length_record : (body : List ℕ) → length (record_bytes body) ≡ 8 + length body
unfolding record_bytes
length_record body = length-append (to_le_bytes w64 (length body)) body

length_file : (body stale : List ℕ) → length (1 ∷ (record_bytes body ++ stale)) ≡ 9 + (length body + length stale)
length_file body stale =
    let two = length-append (record_bytes body) stale in
    let one : length (1 ∷ (record_bytes body ++ stale)) ≡ 1 + length (record_bytes body ++ stale) = omega arith in
    omega (arith, one, two, length_record body)

after_nine : (body stale : List ℕ) → drop 9 (1 ∷ (record_bytes body ++ stale)) ≡ body ++ stale
unfolding record_bytes
after_nine body stale = refl

eight_there : (body stale : List ℕ) → take 8 (drop 1 (1 ∷ (record_bytes body ++ stale))) ≡ to_le_bytes w64 (length body)
unfolding record_bytes
eight_there body stale =
    ap (λ (b : List ℕ). take 8 b) (append_assoc (to_le_bytes w64 (length body)) body stale)
    ∙ take_at (to_le_bytes w64 (length body)) (body ++ stale) 8 refl

module _ (file body stale : List ℕ) (is : file ≡ 1 ∷ (record_bytes body ++ stale)) where
  pub file_long : length file ≡ 9 + (length body + length stale)
  file_long = ap (λ (b : List ℕ). length b) is ∙ length_file body stale

  pub is_open_there : IsGateOpen file
  is_open_there = (record_bytes body ++ stale, is, omega (arith, file_long))

  pub length_there : length body < 2 ^ 64 → length_told file ≡ length body
  length_there small =
      ap (λ (b : List ℕ). from_le_bytes w64 (take 8 (drop 1 b))) is
      ∙ ap (λ (b : List ℕ). from_le_bytes w64 b) (eight_there body stale)
      ∙ from_le_bytes-to_le_bytes_8 (length body) small

  pub body_there : length body < 2 ^ 64 → body_told file ≡ body
  body_there small =
      ap (λ n. take n (drop 9 file)) (length_there small)
      ∙ ap (λ (b : List ℕ). take (length body) (drop 9 b)) is
      ∙ ap (λ (b : List ℕ). take (length body) b) (after_nine body stale)
      ∙ take_at body stale (length body) refl

  pub rest_there : (front rest : List ℕ) → body ≡ front ++ rest → drop (9 + length front) file ≡ rest ++ stale
  rest_there front rest split =
      sym (drop-drop (length front) 9 file)
      ∙ ap (λ (b : List ℕ). drop (length front) (drop 9 b)) is
      ∙ ap (λ (b : List ℕ). drop (length front) b) (after_nine body stale ∙ ap (λ (b : List ℕ). b ++ stale) split ∙ append_assoc front rest stale)
      ∙ drop_at front (rest ++ stale) (length front) refl

-- ---- changes, and one more

module _ (l : Layout) where
  map_more : (es : Changes) (e : RowKey × List ℕ) → map (write_of l) (es ++ e ∷ []) ≡ map (write_of l) es ++ write_of l e ∷ []
  map_more [] e = refl
  map_more (x ∷ xs) e = ap (λ (r : List Write). write_of l x ∷ r) (map_more xs e)

  changes_more : (es : Changes) (e : RowKey × List ℕ) → changes_bytes (es ++ e ∷ []) ≡ changes_bytes es ++ change_bytes e
  changes_more [] e = append-nil (change_bytes e)
  changes_more (x ∷ xs) e = ap (λ (r : List ℕ). change_bytes x ++ r) (changes_more xs e) ∙ sym (append_assoc (change_bytes x) (changes_bytes xs) (change_bytes e))

  whole_more : (es : Changes) (e : RowKey × List ℕ) → AllByRecursion (IsWhole l) es → IsWhole l e → AllByRecursion (IsWhole l) (es ++ e ∷ [])
  whole_more [] e all one = (one, tt)
  whole_more (x ∷ xs) e all one = (all.0, whole_more xs e all.1 one)

  into_more : (es : Changes) (e : RowKey × List ℕ) (f : ℕ) → into f (map (write_of l) (es ++ e ∷ [])) ≡ into f (map (write_of l) es) ++ into f (write_of l e ∷ [])
  into_more es e f = ap (λ (w : List Write). into f w) (map_more es e) ∙ into_append (map (write_of l) es) (write_of l e ∷ []) f

  into_more_here : (es : Changes) (e : RowKey × List ℕ) → into (file_of l e.0.table) (map (write_of l) (es ++ e ∷ [])) ≡ into (file_of l e.0.table) (map (write_of l) es) ++ write_of l e ∷ []
  into_more_here es e =
      into_more es e (file_of l e.0.table)
      ∙ ap (λ (w : List Write). into (file_of l e.0.table) (map (write_of l) es) ++ w) (into_here (write_of l e) [] (file_of l e.0.table) refl)

  into_more_other : (es : Changes) (e : RowKey × List ℕ) (f : ℕ) → f ≢ file_of l e.0.table → into f (map (write_of l) (es ++ e ∷ [])) ≡ into f (map (write_of l) es)
  into_more_other es e f ne =
      into_more es e f
      ∙ ap (λ (w : List Write). into f (map (write_of l) es) ++ w) (into_other (write_of l e) [] f (λ is. ne (sym is)))
      ∙ append-nil (into f (map (write_of l) es))

  -- nothing was gone over yet
  pub checked_none : (seen : Image) (len at end : ℕ) (body stale : List ℕ) (reach : Table → ℕ) → HasBody l seen len body stale
      → ((t : Table) → reach t ≡ length (seen (file_of l t))) → at ≡ 9 + l.meta → end ≡ 9 + len
      → IsBodyChecked l seen body stale at end [] (drop l.meta body) reach
  checked_none seen len at end body stale reach has sizes at_is end_is =
      let long : length (take l.meta body) ≡ l.meta = length-take-le l.meta body (omega (arith, has.room, has.long)) in
      record {
        is = has.is;
        meta = take l.meta body;
        long = long;
        split = sym (take-append-drop l.meta body);
        whole = tt;
        fits = λ f. tt;
        reaches = λ t. omega (arith, sizes t);
        starts_at = omega (arith, at_is, long);
        ends_at = omega (arith, end_is, has.long);
      }

  module _ (seen : Image) (body stale : List ℕ) (at end : ℕ) (changes : Changes) (rest : List ℕ) (reach : Table → ℕ)
      (c : IsBodyChecked l seen body stale at end changes rest reach) where
    split_front : body ≡ (c.meta ++ changes_bytes changes) ++ rest
    split_front = c.split ∙ sym (append_assoc c.meta (changes_bytes changes) rest)

    at_front : at ≡ 9 + length (c.meta ++ changes_bytes changes)
    at_front = omega (arith, c.starts_at, length-append c.meta (changes_bytes changes))

    pub rest_long : at + length rest ≡ end
    rest_long = omega (arith, at_front, c.ends_at, ap (λ (b : List ℕ). length b) split_front, length-append (c.meta ++ changes_bytes changes) rest)

    pub checked_rest : drop at (seen (redo_of l)) ≡ rest ++ stale
    checked_rest = ap (λ n. drop n (seen (redo_of l))) at_front ∙ rest_there (seen (redo_of l)) body stale c.is (c.meta ++ changes_bytes changes) rest split_front

    pub checked_long : end ≤ length (seen (redo_of l))
    checked_long = omega (arith, c.ends_at, file_long (seen (redo_of l)) body stale c.is)

    -- what stands there
    pub checked_front : (n : ℕ) → n ≤ length rest → take n (drop at (seen (redo_of l))) ≡ take n rest
    checked_front n le = ap (λ (b : List ℕ). take n b) checked_rest ∙ take_front n rest le
      where
        take_front : (n : ℕ) (xs : List ℕ) → n ≤ length xs → take n (xs ++ stale) ≡ take n xs
        take_front zero xs le = refl
        take_front (suc n) [] le = absurd (omega (arith, le))
        take_front (suc n) (x ∷ xs) le = ap (λ (b : List ℕ). x ∷ b) (take_front n xs (omega (arith, le)))

    pub body_small : length (seen (redo_of l)) < 2 ^ 62 → length body < 2 ^ 64
    body_small small = omega (arith, small, file_long (seen (redo_of l)) body stale c.is)

    -- one more is as it has to be
    pub checked_more : (now : Table → ℕ) (to : ℕ) (t : Table) (i : ℕ) (row after : List ℕ) → rest ≡ change_bytes (key t i, row) ++ after → length row ≡ size_in l t → i < 2 ^ 64
        → i * size_in l t ≤ reach t → now t ≡ max (reach t) (i * size_in l t + size_in l t) → ((u : Table) → u ≢ t → now u ≡ reach u) → to ≡ at + (9 + size_in l t)
        → IsBodyChecked l seen body stale to end (changes ++ (key t i, row) ∷ []) after now
    checked_more now to t i row after is sized small begins here others to_is =
        let e : RowKey × List ℕ = (key t i, row) in
        record {
          is = c.is;
          meta = c.meta;
          long = c.long;
          split = c.split
              ∙ ap (λ (b : List ℕ). c.meta ++ (changes_bytes changes ++ b)) is
              ∙ ap (λ (b : List ℕ). c.meta ++ b) (sym (append_assoc (changes_bytes changes) (change_bytes e) after))
              ∙ ap (λ (b : List ℕ). c.meta ++ (b ++ after)) (sym (changes_more changes e));
          whole = whole_more changes e c.whole (record { sized = sized; small = small });
          fits = λ f. ⊎_elim
              (λ (same : f ≡ file_of l t). subst (λ h. WritesFit (into h (map (write_of l) (changes ++ e ∷ []))) (length (seen h))) (sym same)
              (subst (λ (w : List Write). WritesFit w (length (seen (file_of l t)))) (sym (into_more_here changes e))
              (fits_append (into (file_of l t) (map (write_of l) changes)) (write_of l e) (length (seen (file_of l t))) (c.fits (file_of l t)) (omega (arith, begins, c.reaches t)))))
              (λ ne. subst (λ (w : List Write). WritesFit w (length (seen f))) (sym (into_more_other changes e f ne)) (c.fits f))
              (cases_eq f (file_of l t));
          reaches = λ u. ⊎_elim
              (λ (same : index_of u ≡ index_of t). subst (λ v. now v ≡ max (length (seen (file_of l v))) (ends (into (file_of l v) (map (write_of l) (changes ++ e ∷ []))))) (sym (same_index u t same))
              (omega (arith, here, c.reaches t, ap (λ (w : List Write). ends w) (into_more_here changes e), ends_append (into (file_of l t) (map (write_of l) changes)) (write_of l e), sized)))
              (λ ne. others u (λ same. ne (ap index_of same)) ∙ c.reaches u
              ∙ ap (λ (w : List Write). max (length (seen (file_of l u))) (ends w)) (sym (into_more_other changes e (file_of l u) (λ same. ne (omega (arith, same))))))
              (cases_eq (index_of u) (index_of t));
          starts_at = omega (arith, to_is, c.starts_at, ap (λ (b : List ℕ). length b) (changes_more changes e), length-append (changes_bytes changes) (change_bytes e), length-change e, sized);
          ends_at = c.ends_at;
        }

    -- the next is there
    pub next_checked : (now : Table → ℕ) (to : ℕ) (t : Table) (i : ℕ) → IsNextRow l rest t i → 0 < size_in l t → i ≤ reach t / size_in l t
        → now t ≡ max (reach t) (i * size_in l t + size_in l t) → ((u : Table) → u ≢ t → now u ≡ reach u) → to ≡ at + (9 + size_in l t)
        → (more : Changes) × (after : List ℕ) × IsBodyChecked l seen body stale to end more after now
    next_checked now to t i next some near here others to_is = (
      changes ++ (key t i, next.row) ∷ [],
      next.after,
      checked_more now to t i next.row next.after next.is next.sized next.small (begins_within i (reach t) (size_in l t) some near) here others to_is,
    )

    -- the next isn't
    pub checked_bad : length body < 2 ^ 64 → (found : Found) → IsBadNext l (λ (t : Table). reach t / size_in l t) rest found → IsBadChange l seen found
    checked_bad small found bad = record {
      changes = changes;
      rest = rest;
      reaches = record {
        opened = is_open_there (seen (redo_of l)) body stale c.is;
        nine = omega (arith, file_long (seen (redo_of l)) body stale c.is);
        room = omega (arith, file_long (seen (redo_of l)) body stale c.is, length_there (seen (redo_of l)) body stale c.is small);
        meta = c.meta;
        long = c.long;
        is = body_there (seen (redo_of l)) body stale c.is small ∙ c.split;
        whole = c.whole;
        fits = λ t. c.fits (file_of l t);
      };
      which = subst (λ (most : Table → ℕ). IsBadNext l most rest found) (fun_ext (λ t. ap (λ n. n / size_in l t) (c.reaches t))) bad;
    }

    -- all are
    pub checked_all : (len : ℕ) → HasBody l seen len body stale → end ≤ at → HasRedoRecord l seen len body stale (writes_of l c.meta changes)
    checked_all len has le =
        let none : rest ≡ [] = empty rest (omega (arith, rest_long, le)) in
        record {
          long = has.long;
          is = has.is;
          spelled = record {
            meta = c.meta;
            changes = changes;
            is = c.split ∙ ap (λ (b : List ℕ). c.meta ++ (changes_bytes changes ++ b)) none ∙ ap (λ (b : List ℕ). c.meta ++ b) (append-nil (changes_bytes changes));
            long = c.long;
            whole = c.whole;
            writes = refl;
          };
          fits = λ f. subst (λ (w : List Write). WritesFit w (length (seen f))) (sym (into_append (map (write_of l) changes) (record { file = l.first; at = 0; bytes = c.meta } ∷ []) f))
              (⊎_elim
              (λ (same : l.first ≡ f). subst (λ (w : List Write). WritesFit (into f (map (write_of l) changes) ++ w) (length (seen f))) (sym (into_here (record { file = l.first; at = 0; bytes = c.meta }) [] f same))
              (fits_append (into f (map (write_of l) changes)) (record { file = l.first; at = 0; bytes = c.meta }) (length (seen f)) (c.fits f) (omega arith)))
              (λ ne. subst (λ (w : List Write). WritesFit (into f (map (write_of l) changes) ++ w) (length (seen f))) (sym (into_other (record { file = l.first; at = 0; bytes = c.meta }) [] f ne))
              (subst (λ (w : List Write). WritesFit w (length (seen f))) (sym (append-nil (into f (map (write_of l) changes)))) (c.fits f)))
              (cases_eq l.first f));
        }
      where
        empty : (xs : List ℕ) → length xs ≡ 0 → xs ≡ []
        empty [] e = refl
        empty (x ∷ xs) e = absurd (omega (arith, e))

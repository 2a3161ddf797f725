-- A redo body is bad in one way, and a body that spells writes is not.
use Rattle.std.proofs.Common.{◌≡◌, ◌⊎◌, inl, inr, ⊎_elim, ◌<◌, ◌≤◌, ◌+◌, ◌^◌, max, ℕ, List, [], ◌∷◌, ◌++◌, length, get_or, drop, map, refl, ap, sym, ◌∙◌, arith, subst, append_assoc, append-nil, length-append, length-take, le-div_iff_mul-le}
use Rattle.std.specs.List.{AllByRecursion}
use Rattle.el_base.proofs.Lists.{same_cut}
use Rattle.el_outside.specs.Disk.{Image}
use Rattle.el_row_formats.specs.declared.table.Table.{Table}
use Rattle.el_row_formats.specs.declared.table.RowKey.{RowKey}
use Rattle.el_row_formats.specs.Tables.{number_of, index_of}
use Rattle.el_row_formats.proofs.Keys.{same_index}
use Rattle.el_rows.specs.Changes.{Changes}
use Rattle.el_redo.specs.RedoBody.{change_bytes, changes_bytes}
use Rattle.el_redo.proofs.BodyLemmas.{length-change}
use Rattle.el_redone.specs.Redone.{Write, WritesFit, into, ends, IsClosed, Waits, ImageStandsFor}
use Rattle.el_redone.proofs.Writes.{into_here, into_append}
use Rattle.el_pages.specs.declared.layout.Layout.{Layout}
use Rattle.el_pages.specs.Layouts.{file_of, redo_of, size_in}
use Rattle.el_pages.specs.Records.{write_of, IsWhole, Spells}
use Rattle.el_recovery.specs.Checks.{Found, IsGateOpen, length_told, body_told, rows_then, IsShortFile, IsLongBody, IsShortBody, IsBadRecord, IsNoTable, IsPart, IsBeyond, IsBadNext, IsBadChange, IsBadBody}
use Rattle.el_recovery.proofs.Spelled.{one_change, no_change}
use Rattle.el_recovery.proofs.Bodies.{file_long, length_there, body_there}

-- the first byte of a change
change_head : (e : RowKey × List ℕ) (rest : List ℕ) → get_or (change_bytes e ++ rest) 0 0 ≡ number_of e.0.table
unfolding change_bytes
change_head e rest = refl

same_table : (a b : Table) → number_of a ≡ number_of b → a ≡ b
same_table a b same = same_index a b (omega (arith, same))

fits_until : (xs : List Write) (w : Write) (ys : List Write) (n : ℕ) → WritesFit (xs ++ w ∷ ys) n → w.at ≤ max n (ends xs)
fits_until [] w ys n fits = omega (arith, fits.0)
fits_until (x ∷ xs) w ys n fits = omega (arith, fits_until xs w ys (max n (x.at + length x.bytes)) fits.1)

-- the changes of the one reading are the first of the other's
pub record IsFirst (l : Layout) (a b : Changes) (r s : List ℕ) : Type 0 where
  pub more : Changes
  pub is : b ≡ a ++ more
  pub after : r ≡ changes_bytes more ++ s
  pub whole : AllByRecursion (IsWhole l) more

module _ (l : Layout) (sized : (t : Table) → 0 < size_in l t) where
  -- ---- the next change

  -- it is bad, or it is there
  next_bad_or_there : (most : Table → ℕ) (rest : List ℕ) (found : Found) (e : RowKey × List ℕ) (after : List ℕ) → IsBadNext l most rest found
      → rest ≡ change_bytes e ++ after → IsWhole l e → e.0.row ≤ most e.0.table → ⊥
  next_bad_or_there most rest found e after bad is whole near = ⊎_elim
      (λ (bare : IsNoTable l rest found). bare.none e.0.table (sym (change_head e after) ∙ ap (λ (b : List ℕ). get_or b 0 0) (sym is ∙ bare.is)))
      (λ other. ⊎_elim
      (λ (part : IsPart l rest found).
      let same : part.of ≡ e.0.table = same_table part.of e.0.table (ap (λ (b : List ℕ). get_or b 0 0) (sym part.is ∙ is) ∙ change_head e after) in
      omega (arith, part.short, ap (size_in l) same, ap (λ (b : List ℕ). length b) is, length-append (change_bytes e) after, length-change e, whole.sized))
      (λ (past : IsBeyond l most rest found).
      let one = one_change l (past.key, past.row) e past.after after past.whole whole (sym past.is ∙ is) in
      let keys : past.key ≡ e.0 = ap (λ (p : RowKey × List ℕ). p.0) one.0 in
      omega (arith, past.beyond, near, ap (λ (k : RowKey). k.row) keys, ap (λ (k : RowKey). most k.table) keys))
      other)
      bad

  next_none : (most : Table → ℕ) (found : Found) → IsBadNext l most [] found → ⊥
  next_none most found bad = ⊎_elim
      (λ (bare : IsNoTable l [] found). absurd (omega (arith, ap (λ (b : List ℕ). length b) bare.is)))
      (λ other. ⊎_elim
      (λ (part : IsPart l [] found). absurd (omega (arith, ap (λ (b : List ℕ). length b) part.is)))
      (λ (past : IsBeyond l most [] found). no_change l (past.key, past.row) past.after past.is)
      other)
      bad

  part_beyond : (most : Table → ℕ) (rest : List ℕ) (a b : Found) → IsPart l rest a → IsBeyond l most rest b → ⊥
  part_beyond most rest a b part past =
      let same : part.of ≡ past.key.table = same_table part.of past.key.table (ap (λ (x : List ℕ). get_or x 0 0) (sym part.is ∙ past.is) ∙ change_head (past.key, past.row) past.after) in
      omega (arith, part.short, ap (size_in l) same, ap (λ (x : List ℕ). length x) past.is, length-append (change_bytes (past.key, past.row)) past.after, length-change (past.key, past.row), past.whole.sized)

  no_part : (rest : List ℕ) (a b : Found) → IsNoTable l rest a → IsPart l rest b → ⊥
  no_part rest a b bare part = bare.none part.of (ap (λ (x : List ℕ). get_or x 0 0) (sym part.is ∙ bare.is))

  no_beyond : (most : Table → ℕ) (rest : List ℕ) (a b : Found) → IsNoTable l rest a → IsBeyond l most rest b → ⊥
  no_beyond most rest a b bare past = bare.none past.key.table (sym (change_head (past.key, past.row) past.after) ∙ ap (λ (x : List ℕ). get_or x 0 0) (sym past.is ∙ bare.is))

  next_one : (most : Table → ℕ) (rest : List ℕ) (a b : Found) → IsBadNext l most rest a → IsBadNext l most rest b → a ≡ b
  next_one most rest a b first second = ⊎_elim
      (λ (bare : IsNoTable l rest a). ⊎_elim
      (λ (also : IsNoTable l rest b). bare.told ∙ ap (λ n. let f : Found = (redo_of l, 8, n) in f) (ap (λ (x : List ℕ). get_or x 0 0) (sym bare.is ∙ also.is)) ∙ sym also.told)
      (λ other. ⊎_elim (λ part. absurd (no_part rest a b bare part)) (λ past. absurd (no_beyond most rest a b bare past)) other)
      second)
      (λ more. ⊎_elim
      (λ (part : IsPart l rest a). ⊎_elim
      (λ also. absurd (no_part rest b a also part))
      (λ other. ⊎_elim
      (λ (also : IsPart l rest b). part.told ∙ ap (λ (t : Table). let f : Found = (redo_of l, 9 + size_in l t, length rest) in f)
      (same_table part.of also.of (ap (λ (x : List ℕ). get_or x 0 0) (sym part.is ∙ also.is))) ∙ sym also.told)
      (λ past. absurd (part_beyond most rest a b part past))
      other)
      second)
      (λ (past : IsBeyond l most rest a). ⊎_elim
      (λ also. absurd (no_beyond most rest b a also past))
      (λ other. ⊎_elim
      (λ part. absurd (part_beyond most rest b a part past))
      (λ (also : IsBeyond l most rest b).
      let one = one_change l (past.key, past.row) (also.key, also.row) past.after also.after past.whole also.whole (sym past.is ∙ also.is) in
      past.told ∙ ap (λ (p : RowKey × List ℕ). let f : Found = (file_of l p.0.table, most p.0.table, p.0.row) in f) one.0 ∙ sym also.told)
      other)
      second)
      more)
      first

  -- ---- two readings of one body

  which_first : (a b : Changes) (r s : List ℕ) → AllByRecursion (IsWhole l) a → AllByRecursion (IsWhole l) b
      → changes_bytes a ++ r ≡ changes_bytes b ++ s → IsFirst l a b r s ⊎ IsFirst l b a s r
  which_first [] b r s fit fits same = inl (record { more = b; is = refl; after = same; whole = fits })
  which_first (e ∷ es) [] r s fit fits same = inr (record { more = e ∷ es; is = refl; after = sym same; whole = fit })
  which_first (e ∷ es) (f ∷ fs) r s fit fits same =
      let one = one_change l e f (changes_bytes es ++ r) (changes_bytes fs ++ s) fit.0 fits.0 (sym (append_assoc (change_bytes e) (changes_bytes es) r) ∙ same ∙ append_assoc (change_bytes f) (changes_bytes fs) s) in
      ⊎_elim
      (λ (first : IsFirst l es fs r s). inl (record { more = first.more; is = ap (λ (c : Changes). f ∷ c) first.is ∙ ap (λ (x : RowKey × List ℕ). x ∷ (es ++ first.more)) (sym one.0); after = first.after; whole = first.whole }))
      (λ (first : IsFirst l fs es s r). inr (record { more = first.more; is = ap (λ (c : Changes). e ∷ c) first.is ∙ ap (λ (x : RowKey × List ℕ). x ∷ (fs ++ first.more)) one.0; after = first.after; whole = first.whole }))
      (which_first es fs r s fit.1 fits.1 one.1)

  map_split : (a b : Changes) → map (write_of l) (a ++ b) ≡ map (write_of l) a ++ map (write_of l) b
  map_split [] b = refl
  map_split (x ∷ xs) b = ap (λ (w : List Write). write_of l x ∷ w) (map_split xs b)

  -- a change that fits after others isn't beyond
  near_there : (image : Image) (a : Changes) (e : RowKey × List ℕ) (es : Changes) (all : Changes) → all ≡ a ++ e ∷ es
      → WritesFit (into (file_of l e.0.table) (map (write_of l) all)) (length (image (file_of l e.0.table))) → e.0.row ≤ rows_then l image a e.0.table
  near_there image a e es all is fits =
      let f = file_of l e.0.table in
      let split : into f (map (write_of l) all) ≡ into f (map (write_of l) a) ++ write_of l e ∷ into f (map (write_of l) es) =
      ap (λ (c : Changes). into f (map (write_of l) c)) is
      ∙ ap (λ (w : List Write). into f w) (map_split a (e ∷ es))
      ∙ into_append (map (write_of l) a) (map (write_of l) (e ∷ es)) f
      ∙ ap (λ (w : List Write). into f (map (write_of l) a) ++ w) (into_here (write_of l e) (map (write_of l) es) f refl) in
      (le-div_iff_mul-le (sized e.0.table)).1 (fits_until (into f (map (write_of l) a)) (write_of l e) (into f (map (write_of l) es)) (length (image f)) (subst (λ (w : List Write). WritesFit w (length (image f))) split fits))

  -- where the changes of another reading go on, the next isn't bad
  goes_on_bad : (image : Image) (a all more : Changes) (rest after : List ℕ) (found : Found) → all ≡ a ++ more → rest ≡ changes_bytes more ++ after → AllByRecursion (IsWhole l) more
      → ((t : Table) → WritesFit (into (file_of l t) (map (write_of l) all)) (length (image (file_of l t)))) → IsBadNext l (rows_then l image a) rest found → (more ≡ []) × (rest ≡ after)
  goes_on_bad image a all [] rest after found is there whole fits bad = (refl, there)
  goes_on_bad image a all (e ∷ es) rest after found is there whole fits bad =
      absurd (next_bad_or_there (rows_then l image a) rest found e (changes_bytes es ++ after) bad (there ∙ append_assoc (change_bytes e) (changes_bytes es) after) whole.0
      (near_there image a e es all is (fits e.0.table)))

  one_reading : (image : Image) (a b : Found) (first : IsBadChange l image a) (second : IsBadChange l image b)
      → IsFirst l first.changes second.changes first.rest second.rest → a ≡ b
  one_reading image a b first second more =
      let end = goes_on_bad image first.changes second.changes more.more first.rest second.rest a more.is more.after more.whole second.reaches.fits first.which in
      let same : second.changes ≡ first.changes = more.is ∙ ap (λ (c : Changes). first.changes ++ c) end.0 ∙ append-nil first.changes in
      next_one (rows_then l image first.changes) first.rest a b first.which
      (subst (λ (r : List ℕ). IsBadNext l (rows_then l image first.changes) r b) (sym end.1)
      (subst (λ (c : Changes). IsBadNext l (rows_then l image c) second.rest b) same second.which))

  pub one_bad_change : (image : Image) (a b : Found) → IsBadChange l image a → IsBadChange l image b → a ≡ b
  one_bad_change image a b first second =
      let cut = same_cut first.reaches.meta (changes_bytes first.changes ++ first.rest) second.reaches.meta (changes_bytes second.changes ++ second.rest)
      (first.reaches.long ∙ sym second.reaches.long) (sym first.reaches.is ∙ second.reaches.is) in
      ⊎_elim
      (λ more. one_reading image a b first second more)
      (λ more. sym (one_reading image b a second first more))
      (which_first first.changes second.changes first.rest second.rest first.reaches.whole second.reaches.whole cut.1)

  change_or_record : (image : Image) (a b : Found) → IsBadRecord l image a → IsBadChange l image b → ⊥
  change_or_record image a b bad change = ⊎_elim
      (λ (short : IsShortFile l image a). omega (arith, short.short, change.reaches.nine))
      (λ more. ⊎_elim
      (λ (long : IsLongBody l image a). omega (arith, long.beyond, change.reaches.room))
      (λ (few : IsShortBody l image a).
      omega (
        arith,
        few.short,
        few.room,
        change.reaches.long,
        ap (λ (x : List ℕ). length x) change.reaches.is,
        length-append change.reaches.meta (changes_bytes change.changes ++ change.rest),
        length-told image,
      ))
      more)
      bad
    where
      length-told : (image : Image) → length (body_told (image (redo_of l))) ≤ length_told (image (redo_of l))
      length-told image = omega (arith, length-take (length_told (image (redo_of l))) (drop 9 (image (redo_of l))))

  one_bad_record : (image : Image) (a b : Found) → IsBadRecord l image a → IsBadRecord l image b → a ≡ b
  one_bad_record image a b first second = ⊎_elim
      (λ (short : IsShortFile l image a). ⊎_elim
      (λ (also : IsShortFile l image b). short.is ∙ sym also.is)
      (λ more. ⊎_elim
      (λ (long : IsLongBody l image b). absurd (omega (arith, short.short, long.nine)))
      (λ (few : IsShortBody l image b). absurd (omega (arith, short.short, few.nine))) more) second)
      (λ rest. ⊎_elim
      (λ (long : IsLongBody l image a). ⊎_elim
      (λ (also : IsShortFile l image b). absurd (omega (arith, also.short, long.nine)))
      (λ more. ⊎_elim
      (λ (other : IsLongBody l image b). long.is ∙ sym other.is)
      (λ (few : IsShortBody l image b). absurd (omega (arith, long.beyond, few.room))) more) second)
      (λ (few : IsShortBody l image a). ⊎_elim
      (λ (also : IsShortFile l image b). absurd (omega (arith, also.short, few.nine)))
      (λ more. ⊎_elim
      (λ (other : IsLongBody l image b). absurd (omega (arith, other.beyond, few.room)))
      (λ (other : IsShortBody l image b). few.is ∙ sym other.is) more) second)
      rest)
      first

  -- a body is bad in one way
  pub one_bad_body : (image : Image) (a b : Found) → IsBadBody l image a → IsBadBody l image b → a ≡ b
  one_bad_body image a b first second = ⊎_elim
      (λ record_bad. ⊎_elim (λ other. one_bad_record image a b record_bad other) (λ change. absurd (change_or_record image a b record_bad change)) second)
      (λ change. ⊎_elim (λ other. absurd (change_or_record image b a other change)) (λ other. one_bad_change image a b change other) second)
      first

  -- ---- a body that spells writes isn't bad

  pub bad_opened : (image : Image) (found : Found) → IsBadBody l image found → IsGateOpen (image (redo_of l))
  bad_opened image found bad = ⊎_elim
      (λ rec. ⊎_elim (λ (x : IsShortFile l image found). x.opened) (λ more. ⊎_elim (λ (x : IsLongBody l image found). x.opened) (λ (x : IsShortBody l image found). x.opened) more) rec)
      (λ (change : IsBadChange l image found). change.reaches.opened)
      bad

  module _ (image files : Image) (found : Found) (small : length (image (redo_of l)) < 2 ^ 62) (stands : ImageStandsFor (Spells l) l.first (redo_of l) files image)
      (waits : Waits (Spells l) (image (redo_of l)) stands.writes) where
    long : length (image (redo_of l)) ≡ 9 + (length waits.body + length waits.stale)
    long = file_long (image (redo_of l)) waits.body waits.stale waits.is

    told_is : length_told (image (redo_of l)) ≡ length waits.body
    told_is = length_there (image (redo_of l)) waits.body waits.stale waits.is (omega (arith, small, long))

    body_is : body_told (image (redo_of l)) ≡ waits.body
    body_is = body_there (image (redo_of l)) waits.body waits.stale waits.is (omega (arith, small, long))

    body_long : length waits.body ≡ l.meta + length (changes_bytes waits.spelled.changes)
    body_long = omega (arith, ap (λ (b : List ℕ). length b) waits.spelled.is, length-append waits.spelled.meta (changes_bytes waits.spelled.changes), waits.spelled.long)

    record_good : IsBadRecord l image found → ⊥
    record_good bad = ⊎_elim
        (λ (x : IsShortFile l image found). omega (arith, x.short, long))
        (λ more. ⊎_elim
        (λ (x : IsLongBody l image found). omega (arith, x.beyond, told_is, long))
        (λ (x : IsShortBody l image found). omega (arith, x.short, told_is, body_long)) more)
        bad

    fit : (t : Table) → WritesFit (into (file_of l t) (map (write_of l) waits.spelled.changes)) (length (image (file_of l t)))
    fit t =
        let all = subst (λ (w : List Write). WritesFit (into (file_of l t) w) (length (image (file_of l t)))) waits.spelled.writes (stands.fits (file_of l t) (omega arith) (omega (arith, within t))) in
        fits_first (into (file_of l t) (map (write_of l) waits.spelled.changes)) (into (file_of l t) (record { file = l.first; at = 0; bytes = waits.spelled.meta } ∷ [])) (length (image (file_of l t)))
        (subst (λ (w : List Write). WritesFit w (length (image (file_of l t)))) (into_append (map (write_of l) waits.spelled.changes) (record { file = l.first; at = 0; bytes = waits.spelled.meta } ∷ []) (file_of l t)) all)
      where
        within : (t : Table) → index_of t < 8
        within t = grind arith

        fits_first : (xs ys : List Write) (m : ℕ) → WritesFit (xs ++ ys) m → WritesFit xs m
        fits_first [] ys m fits = tt
        fits_first (x ∷ xs) ys m fits = (fits.0, fits_first xs ys (max m (x.at + length x.bytes)) fits.1)

    change_good : IsBadChange l image found → ⊥
    change_good bad =
        let cut = same_cut bad.reaches.meta (changes_bytes bad.changes ++ bad.rest) waits.spelled.meta (changes_bytes waits.spelled.changes)
        (bad.reaches.long ∙ sym waits.spelled.long) (sym bad.reaches.is ∙ body_is ∙ waits.spelled.is) in
        ⊎_elim
        (λ (more : IsFirst l bad.changes waits.spelled.changes bad.rest []).
        let end = goes_on_bad image bad.changes waits.spelled.changes more.more bad.rest [] found more.is more.after more.whole fit bad.which in
        next_none (rows_then l image bad.changes) found (subst (λ (r : List ℕ). IsBadNext l (rows_then l image bad.changes) r found) end.1 bad.which))
        (λ (more : IsFirst l waits.spelled.changes bad.changes [] bad.rest).
        let none : bad.rest ≡ [] = tail_none (changes_bytes more.more) bad.rest more.after in
        next_none (rows_then l image bad.changes) found (subst (λ (r : List ℕ). IsBadNext l (rows_then l image bad.changes) r found) none bad.which))
        (which_first bad.changes waits.spelled.changes bad.rest [] bad.reaches.whole waits.spelled.whole (cut.1 ∙ sym (append-nil (changes_bytes waits.spelled.changes))))
      where
        tail_none : (xs ys : List ℕ) → [] ≡ xs ++ ys → ys ≡ []
        tail_none [] ys is = sym is
        tail_none (x ∷ xs) ys is = absurd (omega (arith, ap (λ (b : List ℕ). length b) is))

  pub stands_or_bad : (image files : Image) (found : Found) → length (image (redo_of l)) < 2 ^ 62 → ImageStandsFor (Spells l) l.first (redo_of l) files image → IsBadBody l image found → ⊥
  stands_or_bad image files found small stands bad = ⊎_elim
      (λ none. ⊎_elim
      (λ (short : length (image (redo_of l)) < 2). omega (arith, short, (bad_opened image found bad).2))
      (λ (closed : IsClosed (image (redo_of l))). closed.closed (ap (λ (b : List ℕ). get_or b 0 0) (sym closed.is ∙ (bad_opened image found bad).1)))
      none.0)
      (λ (waits : Waits (Spells l) (image (redo_of l)) stands.writes). ⊎_elim
      (λ rec. record_good image files found small stands waits rec)
      (λ change. change_good image files found small stands waits change)
      bad)
      stands.pending

-- An opening that writes a record's rows, one by one.
use Rattle.std.proofs.Common.{◌≡◌, ◌≢◌, ⊎_elim, ℕ, ◌+◌, ◌*◌, ◌<◌, ◌≤◌, ◌^◌, List, [], ◌∷◌, ◌++◌, Option, None, Some, unwrap_or, length, take, drop, map, refl, sym, ◌∙◌, ap, subst, arith, append_assoc, length-append}
use Rattle.std.specs.List.{AllByRecursion}
use Rattle.std.proofs.lemmas.Bool.{cases_eq}
use Rattle.std.proofs.lemmas.List.{drop_at, drop-drop}
use Rattle.el_outside.specs.declared.disk.Disk as disk
use Rattle.el_outside.specs.Disk.{Image, over}
use Rattle.el_outside.specs.Moments.{LeftNow}
use Rattle.el_outside.proofs.Bytes.{length-over}
use Rattle.el_outside.proofs.Moments.{weaker}
use Rattle.el_row_formats.specs.declared.table.Table.{Table}
use Rattle.el_row_formats.specs.declared.table.RowKey.{RowKey}
use Rattle.el_row_formats.specs.Tables.{key}
use Rattle.el_row_formats.proofs.Keys.{index_within}
use Rattle.el_rows.specs.Changes.{Changes}
use Rattle.el_redo.specs.RedoBody.{change_bytes, changes_bytes}
use Rattle.el_redo.proofs.BodyLemmas.{length-change}
use Rattle.el_redone.specs.Redone.{Write, overlaid, WritesFit, into}
use Rattle.el_redone.specs.Steps.{EachNow, Leaves, WillBe}
use Rattle.el_redone.proofs.Runs.{no_calls, goes_on}
use Rattle.el_redone.proofs.Writes.{into_here, into_other, fits_same}
use Rattle.el_pages.specs.declared.layout.Layout.{Layout}
use Rattle.el_pages.specs.Layouts.{file_of, redo_of, size_in}
use Rattle.el_pages.specs.Records.{write_of, writes_of, IsWhole}
use Rattle.el_recovery.specs.within.Redoing.{HasLeft}

abbrev pub pair_of : Table → ℕ → Option (Table × ℕ)
pair_of t i = Some (t, i)

abbrev pub change_of : Table → ℕ → List ℕ → RowKey × List ℕ
change_of t i row = (key t i, row)

-- some of the changes are written, and the rest is left
pub record Progress {D : Type 0} (G : disk.Ghosts D) (l : Layout) (start now : D) (at end : ℕ) (changes : Changes) (stale : List ℕ) : Type 0 where
  pub done : Changes
  pub rest : Changes
  pub split : changes ≡ done ++ rest
  pub left : HasLeft l (G.seen now) at end rest stale
  pub gives : (f : ℕ) → overlaid (into f (map (write_of l) rest)) (G.seen now f) ≡ overlaid (into f (map (write_of l) changes)) (G.seen start f)
  pub crash : (files : Image) (meta file : List ℕ) → EachNow G (WillBe l.first (redo_of l) files (writes_of l meta changes) file) start
      → Leaves G (WillBe l.first (redo_of l) files (writes_of l meta changes) file) start now

-- the first of those that are left
pub record Next (l : Layout) (rest : Changes) : Type 0 where
  pub e : RowKey × List ℕ
  pub es : Changes
  pub is : rest ≡ e ∷ es

pub next_of : (l : Layout) (seen : Image) (at end : ℕ) (rest : Changes) (stale : List ℕ) → HasLeft l seen at end rest stale → at < end → Next l rest
next_of l seen at end [] stale left lt = absurd (omega (arith, lt, left.ends_at))
next_of l seen at end (e ∷ es) stale left lt = record { e = e; es = es; is = refl }

none_of : (l : Layout) (seen : Image) (at end : ℕ) (rest : Changes) (stale : List ℕ) → HasLeft l seen at end rest stale → end ≤ at → rest ≡ []
none_of l seen at end [] stale left le = refl
none_of l seen at end (e ∷ es) stale left le = absurd (omega (arith, le, left.ends_at, length-append (change_bytes e) (changes_bytes es), length-change e))

module _ {D : Type 0} (G : disk.Ghosts D) (earlier : (d : D) (t u : ℕ) (c : Image) → t ≤ u → G.left_since d u c → G.left_since d t c) (l : Layout) where
  pub progress_none : (start : D) (at end : ℕ) (changes : Changes) (stale : List ℕ) → HasLeft l (G.seen start) at end changes stale → Progress G l start start at end changes stale
  progress_none start at end changes stale left = record {
    done = [];
    rest = changes;
    split = refl;
    left = left;
    gives = λ f. refl;
    crash = λ files meta file each. no_calls G start (WillBe l.first (redo_of l) files (writes_of l meta changes) file) each;
  }

  module _ (start now new : D) (at end : ℕ) (changes : Changes) (stale : List ℕ) (was : Progress G l start now at end changes stale) where
    -- the disk was read
    pub crash_read : Leaves G (LeftNow G.moment G.left_since now) now new → (files : Image) (meta file : List ℕ) → EachNow G (WillBe l.first (redo_of l) files (writes_of l meta changes) file) start
        → Leaves G (WillBe l.first (redo_of l) files (writes_of l meta changes) file) start new
    crash_read run files meta file each =
        let P : Image → Type 0 = WillBe l.first (redo_of l) files (writes_of l meta changes) file in
        goes_on G earlier start now new P (was.crash files meta file each) (λ mid. weaker G.moment G.left_since now new (LeftNow G.moment G.left_since now) P mid run)

    abbrev pub progress_read : G.seen new ≡ G.seen now → Leaves G (LeftNow G.moment G.left_since now) now new → Progress G l start new at end changes stale
    progress_read same run = record {
      done = was.done;
      rest = was.rest;
      split = was.split;
      left = subst (λ (s : Image). HasLeft l s at end was.rest stale) (sym same) was.left;
      gives = λ f. ap (λ (s : Image). overlaid (into f (map (write_of l) was.rest)) (s f)) same ∙ was.gives f;
      crash = crash_read run;
    }

    -- a row was written
    module _ (next : Next l was.rest) where
      e : RowKey × List ℕ
      e = next.e

      pub row_whole : IsWhole l next.e
      row_whole = (subst (λ (c : Changes). AllByRecursion (IsWhole l) c) next.is was.left.whole).0

      here : into (file_of l next.e.0.table) (map (write_of l) was.rest) ≡ write_of l next.e ∷ into (file_of l next.e.0.table) (map (write_of l) next.es)
      here = ap (λ (c : Changes). into (file_of l next.e.0.table) (map (write_of l) c)) next.is ∙ into_here (write_of l next.e) (map (write_of l) next.es) (file_of l next.e.0.table) refl

      elsewhere : (f : ℕ) → f ≢ file_of l next.e.0.table → into f (map (write_of l) was.rest) ≡ into f (map (write_of l) next.es)
      elsewhere f ne = ap (λ (c : Changes). into f (map (write_of l) c)) next.is ∙ into_other (write_of l next.e) (map (write_of l) next.es) f (λ is. ne (sym is))

      fit_here : WritesFit (write_of l next.e ∷ into (file_of l next.e.0.table) (map (write_of l) next.es)) (length (G.seen now (file_of l next.e.0.table)))
      fit_here = subst (λ (w : List Write). WritesFit w (length (G.seen now (file_of l next.e.0.table)))) here (was.left.fits (file_of l next.e.0.table))

      pub row_begins : next.e.0.row * size_in l next.e.0.table ≤ length (G.seen now (file_of l next.e.0.table))
      row_begins = fit_here.0

      -- what stands there in the record
      pub row_bytes : drop at (G.seen now (redo_of l)) ≡ change_bytes next.e ++ (changes_bytes next.es ++ stale)
      row_bytes = was.left.is ∙ ap (λ (c : Changes). changes_bytes c ++ stale) next.is ∙ append_assoc (change_bytes next.e) (changes_bytes next.es) stale

      split_next : changes ≡ was.done ++ next.e ∷ next.es
      split_next = was.split ∙ ap (λ (c : Changes). was.done ++ c) next.is

      -- the record's writes, as the call of the row names them
      pub crash_row : ((files : Image) (meta file : List ℕ) (done rest : Changes) → EachNow G (WillBe l.first (redo_of l) files (writes_of l meta (done ++ next.e ∷ rest)) file) now
          → Leaves G (WillBe l.first (redo_of l) files (writes_of l meta (done ++ next.e ∷ rest)) file) now new)
          → (files : Image) (meta file : List ℕ) → EachNow G (WillBe l.first (redo_of l) files (writes_of l meta changes) file) start
          → Leaves G (WillBe l.first (redo_of l) files (writes_of l meta changes) file) start new
      crash_row run files meta file each =
          goes_on G earlier start now new (WillBe l.first (redo_of l) files (writes_of l meta changes) file) (was.crash files meta file each)
          (subst (λ (c : Changes). EachNow G (WillBe l.first (redo_of l) files (writes_of l meta c) file) now → Leaves G (WillBe l.first (redo_of l) files (writes_of l meta c) file) now new) (sym split_next)
          (run files meta file was.done next.es))

      module _ (written : G.seen new (file_of l next.e.0.table) ≡ over (G.seen now (file_of l next.e.0.table)) (next.e.0.row * size_in l next.e.0.table) next.e.1)
          (others : (f : ℕ) → f ≢ file_of l next.e.0.table → G.seen new f ≡ G.seen now f) where
        redo_other : redo_of l ≢ file_of l next.e.0.table
        redo_other is = omega (arith, is, index_within next.e.0.table)

        pub progress_row : (to : ℕ) → to ≡ at + (9 + size_in l next.e.0.table)
            → ((files : Image) (meta file : List ℕ) (done rest : Changes) → EachNow G (WillBe l.first (redo_of l) files (writes_of l meta (done ++ next.e ∷ rest)) file) now
            → Leaves G (WillBe l.first (redo_of l) files (writes_of l meta (done ++ next.e ∷ rest)) file) now new)
            → Progress G l start new to end changes stale
        progress_row to to_is run =
            let n = 9 + size_in l next.e.0.table in
            let long : length (change_bytes next.e) ≡ n = length-change next.e ∙ ap (λ k. 9 + k) row_whole.sized in
            record {
              done = was.done ++ next.e ∷ [];
              rest = next.es;
              split = split_next ∙ sym (append_assoc was.done (next.e ∷ []) next.es);
              left = record {
                is = ap (λ (b : List ℕ). drop to b) (others (redo_of l) redo_other)
                    ∙ ap (λ k. drop k (G.seen now (redo_of l))) to_is
                    ∙ sym (drop-drop n at (G.seen now (redo_of l)))
                    ∙ ap (λ (b : List ℕ). drop n b) row_bytes
                    ∙ drop_at (change_bytes next.e) (changes_bytes next.es ++ stale) n long;
                ends_at = omega (arith, was.left.ends_at, to_is, ap (λ (c : Changes). length (changes_bytes c)) next.is, length-append (change_bytes next.e) (changes_bytes next.es), long);
                whole = (subst (λ (c : Changes). AllByRecursion (IsWhole l) c) next.is was.left.whole).1;
                fits = λ f. ⊎_elim
                    (λ (is : f ≡ file_of l next.e.0.table). subst (λ h. WritesFit (into h (map (write_of l) next.es)) (length (G.seen new h))) (sym is)
                    (fits_same (into (file_of l next.e.0.table) (map (write_of l) next.es)) _ _
                    (sym (ap (λ (b : List ℕ). length b) written ∙ length-over (G.seen now (file_of l next.e.0.table)) (next.e.0.row * size_in l next.e.0.table) next.e.1 row_begins)) fit_here.1))
                    (λ ne. subst (λ (b : List ℕ). WritesFit (into f (map (write_of l) next.es)) (length b)) (sym (others f ne)) (subst (λ (w : List Write). WritesFit w (length (G.seen now f))) (elsewhere f ne) (was.left.fits f)))
                    (cases_eq f (file_of l next.e.0.table));
              };
              gives = λ f. ⊎_elim
                  (λ (is : f ≡ file_of l next.e.0.table). subst (λ h. overlaid (into h (map (write_of l) next.es)) (G.seen new h) ≡ overlaid (into h (map (write_of l) was.rest)) (G.seen now h)) (sym is)
                  (ap (λ (b : List ℕ). overlaid (into (file_of l next.e.0.table) (map (write_of l) next.es)) b) written ∙ sym (ap (λ (w : List Write). overlaid w (G.seen now (file_of l next.e.0.table))) here)))
                  (λ ne. ap (λ (b : List ℕ). overlaid (into f (map (write_of l) next.es)) b) (others f ne) ∙ sym (ap (λ (w : List Write). overlaid w (G.seen now f)) (elsewhere f ne)))
                  (cases_eq f (file_of l next.e.0.table)) ∙ was.gives f;
              crash = crash_row run;
            }

    -- the next change was read, as `said` tells
    module _ (lt : at < end) (small : (f : ℕ) → length (G.seen now f) < 2 ^ 62) (o : Option (Table × ℕ)) (row : List ℕ)
        (said : (t : Table) (i : ℕ) (bytes after : List ℕ) → i < 2 ^ 64 → length bytes ≡ size_in l t → i * size_in l t < 2 ^ 62
        → drop at (G.seen now (redo_of l)) ≡ change_bytes (key t i, bytes) ++ after → (o ≡ pair_of t i) × (take (size_in l t) row ≡ bytes)) where
      pub first_left : Next l was.rest
      first_left = next_of l (G.seen now) at end was.rest stale was.left lt

      first_read : (o ≡ pair_of first_left.e.0.table first_left.e.0.row) × (take (size_in l first_left.e.0.table) row ≡ first_left.e.1)
      first_read =
          let whole = row_whole first_left in
          said first_left.e.0.table first_left.e.0.row first_left.e.1 (changes_bytes first_left.es ++ stale) whole.small whole.sized
          (omega (arith, row_begins first_left, small (file_of l first_left.e.0.table))) (row_bytes first_left)

      pub one_left : o ≡ None → ⊥
      one_left none = absurd (let some = first_read.0 in cc (some, none))

      module _ (t : Table) (i : ℕ) (is : o ≡ pair_of t i) (size : ℕ) (sized : size ≡ size_in l t) where
        pub same_change : change_of t i (take size row) ≡ first_left.e
        same_change =
            let same : pair_of t i ≡ pair_of first_left.e.0.table first_left.e.0.row = sym is ∙ first_read.0 in
            let tables : t ≡ first_left.e.0.table = ap (λ (p : Option (Table × ℕ)). (unwrap_or p (t, i)).0) same in
            let rows : i ≡ first_left.e.0.row = ap (λ (p : Option (Table × ℕ)). (unwrap_or p (t, i)).1) same in
            ap (λ (u : Table). change_of u i (take size row)) tables
            ∙ ap (λ (n : ℕ). change_of first_left.e.0.table n (take size row)) rows
            ∙ ap (λ (b : List ℕ). change_of first_left.e.0.table first_left.e.0.row b) (ap (λ n. take n row) (sized ∙ ap (size_in l) tables) ∙ first_read.1)

        -- it is the first of those that are left
        abbrev pub next_read : Next l was.rest
        next_read = record { e = change_of t i (take size row); es = first_left.es; is = first_left.is ∙ ap (λ (x : RowKey × List ℕ). x ∷ first_left.es) (sym same_change) }

    -- all are
    pub progress_all : end ≤ at → (f : ℕ) → G.seen now f ≡ overlaid (into f (map (write_of l) changes)) (G.seen start f)
    progress_all le f = sym (ap (λ (c : Changes). overlaid (into f (map (write_of l) c)) (G.seen now f)) (none_of l (G.seen now) at end was.rest stale was.left le)) ∙ was.gives f

-- Images with the same files of format 2: what the one is, the other is too.
use Rattle.std.proofs.Common.{◌≡◌, inl, inr, ⊎_elim, ◌<◌, ◌≤◌, ◌-◌, ◌/◌, ◌++◌, ℕ, max, List, length, map, refl, ap, sym, subst, ◌∙◌, arith}
use Rattle.std.proofs.Math.Path.{fun_ext}
use Rattle.el_outside.specs.Disk.{Image}
use Rattle.el_row_formats.specs.declared.table.Table.{Table}
use Rattle.el_row_formats.specs.Tables.{Tables}
use Rattle.el_row_formats.proofs.Keys.{index_within}
use Rattle.el_rows.specs.Changes.{Changes}
use Rattle.el_redo.specs.RedoBody.{changes_bytes}
use Rattle.el_redone.specs.Redone.{into, WritesFit, ends}
use Rattle.el_pages.specs.declared.layout.Layout.{Layout}
use Rattle.el_pages.specs.declared.layout.TheConstants.{FORMAT_2}
use Rattle.el_pages.specs.Layouts.{file_of, redo_of, size_in}
use Rattle.el_pages.specs.Records.{write_of}
use Rattle.el_recovery.specs.Checks.{Found, IsGateOpen, length_told, body_told, Reaches, rows_then, IsShortFile, IsLongBody, IsShortBody, IsBadNext, IsBadChange, IsBadBody, HasBadFiles, IsBadIndex, IsIndex}
use Rattle.el_recovery.proofs.Opens.{begun_stands}

module _ (l : Layout) (a b : Image) (same : (f : ℕ) → l.first ≤ f → f ≤ redo_of l → b f ≡ a f) (found : Found) where
  abbrev redo : b (redo_of l) ≡ a (redo_of l)
  redo = same (redo_of l) (omega arith) (omega arith)

  each : (t : Table) → b (file_of l t) ≡ a (file_of l t)
  each t = same (file_of l t) (omega arith) (omega (arith, index_within t))

  short_there : IsShortFile l a found → IsShortFile l b found
  short_there s =
      let k : List ℕ → Found = λ x. (redo_of l, 9, length x) in
      record {
        opened = subst (λ (x : List ℕ). IsGateOpen x) (sym redo) s.opened;
        short = subst (λ (x : List ℕ). length x < 9) (sym redo) s.short;
        is = s.is ∙ ap k (sym redo);
      }

  long_there : IsLongBody l a found → IsLongBody l b found
  long_there s =
      let k : List ℕ → Found = λ x. (redo_of l, length_told x, length x - 9) in
      record {
        opened = subst (λ (x : List ℕ). IsGateOpen x) (sym redo) s.opened;
        nine = subst (λ (x : List ℕ). 9 ≤ length x) (sym redo) s.nine;
        beyond = subst (λ (x : List ℕ). length x - 9 < length_told x) (sym redo) s.beyond;
        is = s.is ∙ ap k (sym redo);
      }

  short_body_there : IsShortBody l a found → IsShortBody l b found
  short_body_there s =
      let k : List ℕ → Found = λ x. (redo_of l, l.meta, length_told x) in
      record {
        opened = subst (λ (x : List ℕ). IsGateOpen x) (sym redo) s.opened;
        nine = subst (λ (x : List ℕ). 9 ≤ length x) (sym redo) s.nine;
        room = subst (λ (x : List ℕ). length_told x ≤ length x - 9) (sym redo) s.room;
        short = subst (λ (x : List ℕ). length_told x < l.meta) (sym redo) s.short;
        is = s.is ∙ ap k (sym redo);
      }

  reaches_there : (rest : List ℕ) (changes : Changes) → Reaches l a rest changes → Reaches l b rest changes
  reaches_there rest changes r = record {
    opened = subst (λ (x : List ℕ). IsGateOpen x) (sym redo) r.opened;
    nine = subst (λ (x : List ℕ). 9 ≤ length x) (sym redo) r.nine;
    room = subst (λ (x : List ℕ). length_told x ≤ length x - 9) (sym redo) r.room;
    meta = r.meta;
    long = r.long;
    is = subst (λ (x : List ℕ). body_told x ≡ r.meta ++ (changes_bytes changes ++ rest)) (sym redo) r.is;
    whole = r.whole;
    fits = λ t. subst (λ (x : List ℕ). WritesFit (into (file_of l t) (map (write_of l) changes)) (length x)) (sym (each t)) (r.fits t);
  }

  rows_same : (changes : Changes) → rows_then l a changes ≡ rows_then l b changes
  rows_same changes = fun_ext (λ t. ap (λ (x : List ℕ). max (length x) (ends (into (file_of l t) (map (write_of l) changes))) / size_in l t) (sym (each t)))

  change_there : IsBadChange l a found → IsBadChange l b found
  change_there s = record {
    changes = s.changes;
    rest = s.rest;
    reaches = reaches_there s.rest s.changes s.reaches;
    which = subst (λ (most : Table → ℕ). IsBadNext l most s.rest found) (rows_same s.changes) s.which;
  }

  pub body_there : IsBadBody l a found → IsBadBody l b found
  body_there bad = ⊎_elim
      (λ record_bad. inl (⊎_elim
      (λ s. inl (short_there s))
      (λ more. inr (⊎_elim (λ s. inl (long_there s)) (λ s. inr (short_body_there s)) more))
      record_bad))
      (λ s. inr (change_there s))
      bad

  pub bad_there : (magic : ℕ) → IsBadIndex l magic a found → IsBadIndex l magic b found
  bad_there magic bad = ⊎_elim
      (λ body. inl (body_there body))
      (λ (h : HasBadFiles l magic a found). inr (record {
        files = h.files;
        stands = begun_stands l h.files a b (λ f low lt. same f low (omega (arith, lt))) (inl redo) h.stands;
        which = h.which;
      }))
      bad

-- an index is one where its files are the same
pub index_there : (magic : List ℕ) (a b : Image) (tables : Tables) → ((f : ℕ) → 20 ≤ f → f < 30 → b f ≡ a f) → IsIndex magic a tables → IsIndex magic b tables
index_there magic a b tables same i = record {
  bits = i.bits;
  may_be = i.may_be;
  shows = record {
    files = i.shows.files;
    stands = begun_stands FORMAT_2 i.shows.files a b (λ f low lt. same f low (omega (arith, lt))) (inl (same 29 (omega arith) (omega arith))) i.shows.stands;
    counts = i.shows.counts;
    has = i.shows.has;
    same = i.shows.same;
  };
  heads = i.heads;
}

-- with as many buckets
pub index_with : (magic : List ℕ) (a b : Image) (tables : Tables) → ((f : ℕ) → 20 ≤ f → f < 30 → b f ≡ a f) → (i : IsIndex magic a tables) → (j : IsIndex magic b tables) × (j.bits ≡ i.bits)
unfolding index_there
index_with magic a b tables same i = (index_there magic a b tables same i, refl)

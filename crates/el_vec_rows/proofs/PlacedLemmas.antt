-- Tables in memory of which rows are written in place, and which are given other counts.
use Rattle.std.proofs.Common.{◌≡◌, ◌≢◌, ◌<◌, ◌≤◌, ℕ, List, [], length, get_or, take, ap, sym, ◌∙◌, arith, subst, ⊎_elim}
use Rattle.std.proofs.Math.ListN.{set, length-set}
use Rattle.std.proofs.Math.Seq.{take-set-lt}
use Rattle.std.proofs.lemmas.Bool.{cases_lt}
use Rattle.std.proofs.lemmas.List.{get_or-take, get_or_past, length-take-le}
use Rattle.el_row_formats.specs.declared.table.Table.{Table}
use Rattle.el_row_formats.specs.Tables.{Tables, tables_listed, list_of_tables, index_of, size_of}
use Rattle.el_row_formats.proofs.Keys.{same_table}
use Rattle.el_rows.specs.Changes.{OnTable, count_at}
use Rattle.el_rows.specs.SizedRows.{SizedRows}
use Rattle.el_vec_rows.specs.MemoryRows.{IsResized}
use Rattle.el_vec_rows.specs.within.InMemory.{no_list, sized_rows, tables_held, shown_rows, AreKept, AllGrown, HasEnoughRows}
use Rattle.el_vec_rows.proofs.InMemoryLemmas.{at_table, as_tables, set_row, set_at, set_beside}

-- what a resize shows
pub resized : (self : List (List (List ℕ))) (old new : List SizedRows) (counts more : List ℕ) → list_of_tables (shown_rows old counts) ≡ self → AreKept old counts → AllGrown old new → HasEnoughRows new more
    → IsResized more (tables_listed self) (tables_listed (list_of_tables (shown_rows new more)))
resized self old new counts more is were grew room = record {
  long = λ t. ap length (at_table (shown_rows new more) t) ∙ length-take-le (count_at more t) (tables_held new t) (room t);
  first = λ t i lt few. let below : i < count_at counts t = omega (arith, lt, ap length (was t), length-take-le (count_at counts t) (tables_held old t) (were.room t)) in
      ap (λ (rows : List (List ℕ)). get_or rows i []) (at_table (shown_rows new more) t) ∙ get_or-take (count_at more t) (tables_held new t) i [] few
      ∙ (grew.rows t).before i (omega (arith, below, were.room t))
      ∙ sym (ap (λ (rows : List (List ℕ)). get_or rows i []) (was t) ∙ get_or-take (count_at counts t) (tables_held old t) i [] below);
}
  where
    was : (t : Table) → tables_listed self t ≡ shown_rows old counts t
    was t = ap (λ (tables : Tables). tables t) (as_tables self (shown_rows old counts) is)

-- one row of those that are shown is written over
module _ (self : List (List (List ℕ))) (old new : List SizedRows) (counts : List ℕ) (t : Table) (i : ℕ) (row : List ℕ) (is : list_of_tables (shown_rows old counts) ≡ self) (were : AreKept old counts)
    (lt : i < length (tables_listed self t)) where
  was : (u : Table) → tables_listed self u ≡ shown_rows old counts u
  was u = ap (λ (tables : Tables). tables u) (as_tables self (shown_rows old counts) is)

  below : i < count_at counts t
  below = omega (arith, lt, ap length (was t), length-take-le (count_at counts t) (tables_held old t) (were.room t))

  pub in_kept : i < length (tables_held old t)
  in_kept = omega (arith, below, were.room t)

  -- a table of which rows are kept is among those that are kept
  within : index_of t < length old
  within = ⊎_elim
      (λ lt. lt)
      (λ (ge : length old ≤ index_of t). absurd (omega (arith, in_kept, ap (λ (l : SizedRows). length l.rows) (get_or_past old (index_of t) no_list ge))))
      (cases_lt (index_of t) (length old))

  pub of_size : length row ≡ size_of t → length row ≡ (sized_rows old t).size
  of_size sized = sized ∙ sym (were.sized t)

  module _ (wrote : new ≡ set old (index_of t) (set_row old t i row)) where
    here : sized_rows new t ≡ set_row old t i row
    here = ap (λ (kept : List SizedRows). sized_rows kept t) wrote ∙ set_at old t (set_row old t i row) within

    beside : (u : Table) → u ≢ t → sized_rows new u ≡ sized_rows old u
    beside u ne = ap (λ (kept : List SizedRows). sized_rows kept u) wrote ∙ set_beside old t u (set_row old t i row) ne

    each : (P : Table → SizedRows → SizedRows → Type 0) → P t (sized_rows old t) (set_row old t i row) → ((u : Table) → P u (sized_rows old u) (sized_rows old u)) → (u : Table) → P u (sized_rows old u) (sized_rows new u)
    each P at others u = ⊎_elim
        (λ (e : u ≡ t). subst (λ (v : Table). P v (sized_rows old v) (sized_rows new v)) (sym e) (subst (λ (l : SizedRows). P t (sized_rows old t) l) (sym here) at))
        (λ (ne : u ≢ t). subst (λ (l : SizedRows). P u (sized_rows old u) l) (sym (beside u ne)) (others u))
        (same_table u t)

    long : (u : Table) → length (tables_held new u) ≡ length (tables_held old u)
    long = each (λ u (a : SizedRows) (b : SizedRows). length b.rows ≡ length a.rows) (length-set (tables_held old t) i row) (λ u. let e : length (tables_held old u) ≡ length (tables_held old u) = omega arith in e)

    sizes : (u : Table) → (sized_rows new u).size ≡ (sized_rows old u).size
    sizes = each (λ u (a : SizedRows) (b : SizedRows). b.size ≡ a.size) (let e : (sized_rows old t).size ≡ (sized_rows old t).size = omega arith in e)
        (λ u. let e : (sized_rows old u).size ≡ (sized_rows old u).size = omega arith in e)

    pub still_kept : AreKept new counts
    still_kept = record {
      sized = λ u. sizes u ∙ were.sized u;
      room = λ u. omega (arith, long u, were.room u);
      limited = were.limited;
    }

    pub placed : OnTable (tables_listed self) (tables_listed (list_of_tables (shown_rows new counts))) t (set (tables_listed self t) i row)
    placed = record {
      here = at_table (shown_rows new counts) t ∙ ap (λ (l : SizedRows). take (count_at counts t) l.rows) here ∙ take-set-lt (count_at counts t) (tables_held old t) i row below
          ∙ ap (λ (rows : List (List ℕ)). set rows i row) (sym (was t));
      others = λ u ne. at_table (shown_rows new counts) u ∙ ap (λ (l : SizedRows). take (count_at counts u) l.rows) (beside u ne) ∙ sym (was u);
    }

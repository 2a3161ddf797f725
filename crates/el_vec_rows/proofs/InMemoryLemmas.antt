-- Tables in memory.
use Rattle.std.proofs.Common.{◌≡◌, ◌≢◌, ◌<◌, ◌≤◌, ◌+◌, ℕ, zero, suc, List, [], ◌∷◌, Option, Some, None, length, get_or, take, drop, unwrap_or, ap, sym, ◌∙◌, refl, arith, subst, ⊎_elim, drop-cons}
use Rattle.std.specs.Prelude.{slice_get}
use Rattle.std.proofs.Math.Path.{fun_ext}
use Rattle.std.proofs.Math.ListN.{set, length-set}
use Rattle.std.proofs.lemmas.List.{get_or-set_same, get_or-set_other, get_or-take, get_or_default, length-take-le, ext_get_or}
use Rattle.std.proofs.lemmas.Bool.{cases_lt, cases_eq}
use Rattle.std.proofs.lemmas.Map.Entries.{lookup_from_place}
use Rattle.std.proofs.lemmas.Map.Keys.{IsDistinct-from_sorted}
use Rattle.std.proofs.lemmas.Cmp.{eq_by_cmp_equiv}
use Rattle.std.proofs.lemmas.Option.{slice_get_within, get_or_from_slice_get}
use Rattle.std.specs.BTreeMap.{is_at}
use Rattle.std.specs.Map.{keys_of}
use Rattle.el_row_formats.specs.declared.table.Table.{Table}
use Rattle.el_row_formats.specs.declared.table.Table.TheVariants as table
use Rattle.el_row_formats.specs.declared.table.RowKey.{RowKey}
use Rattle.el_row_formats.specs.Tables.{Tables, tables_listed, list_of_tables, index_of, size_of, row_at, row_cmp, key}
use Rattle.el_rows.specs.Changes.{Changes, IsMadeFrom, changed_at, count_at, under}
use Rattle.el_rows.specs.SizedRows.{SizedRows, HasGrown}
use Rattle.el_vec_rows.specs.within.InMemory.{no_list, sized_rows, tables_held, shown_rows, AreSized, HasEnoughRows, AreKept, AllGrown, AreWriting, AreWritten}
use Rattle.el_row_formats.proofs.Keys.{keys_total, same_table, same_index, other_key}
use Rattle.el_rows.proofs.EditedLemmas.{if_false}
use Rattle.el_rows.proofs.UnderLemmas.{is_under}

-- a list that was read
pub is_read : (kept : List SizedRows) (t : Table) (i : ℕ) (list : SizedRows) → i < length kept → i ≡ index_of t → get_or kept i list ≡ sized_rows kept t
is_read kept t i list lt at = get_or_default kept i list no_list lt ∙ ap (λ (n : ℕ). get_or kept n no_list) at

-- one list was set
pub set_at : (kept : List SizedRows) (t : Table) (list : SizedRows) → index_of t < length kept → sized_rows (set kept (index_of t) list) t ≡ list
set_at kept t list lt = get_or-set_same kept (index_of t) list no_list lt

pub set_beside : (kept : List SizedRows) (t u : Table) (list : SizedRows) → u ≢ t → sized_rows (set kept (index_of t) list) u ≡ sized_rows kept u
set_beside kept t u list ne = get_or-set_other kept (index_of t) (index_of u) list no_list (λ e. ne (same_index u t e))

not_grown : (size : ℕ) (old : List (List ℕ)) → HasGrown size old old
not_grown size old = record { longer = omega arith; before = λ i lt. refl; sized = λ i le lt. absurd (omega (arith, le, lt)) }

-- two growths
grown_twice : (size : ℕ) (a b c : List (List ℕ)) → HasGrown size a b → HasGrown size b c → HasGrown size a c
grown_twice size a b c first second = record {
  longer = omega (arith, first.longer, second.longer);
  before = λ i lt. second.before i (omega (arith, lt, first.longer)) ∙ first.before i lt;
  sized = λ i le lt. ⊎_elim
      (λ less. ap length (second.before i less) ∙ first.sized i le less)
      (λ more. second.sized i more lt)
      (cases_lt i (length b));
}

pub all_grown_twice : (a b c : List SizedRows) → AllGrown a b → AllGrown b c → AllGrown a c
all_grown_twice a b c first second = record {
  sizes = λ t. second.sizes t ∙ first.sizes t;
  rows = λ t. grown_twice (sized_rows a t).size (tables_held a t) (tables_held b t) (tables_held c t) (first.rows t)
      (subst (λ (n : ℕ). HasGrown n (tables_held b t) (tables_held c t)) (first.sizes t) (second.rows t));
}

-- the tables in their order
abbrev all_tables : List Table
all_tables = table.Blocks ∷ table.Txs ∷ table.TxHeads ∷ table.Outs ∷ table.Ins ∷ table.Scripts ∷ table.ScriptHeads ∷ table.Entries ∷ []

table_at : (t : Table) → get_or all_tables (index_of t) table.Blocks ≡ t
table_at t = elim t as (λ u. get_or all_tables (index_of u) table.Blocks ≡ u) [
  | table.Blocks ↦ refl
  | table.Txs ↦ refl
  | table.TxHeads ↦ refl
  | table.Outs ↦ refl
  | table.Ins ↦ refl
  | table.Scripts ↦ refl
  | table.ScriptHeads ↦ refl
  | table.Entries ↦ refl
]

-- one table more has room
pub room_more : (old new : List SizedRows) (counts : List ℕ) (i : ℕ) → ((t : Table) → index_of t < i → count_at counts t ≤ length (tables_held old t)) → AllGrown old new
    → (let t = get_or all_tables i table.Blocks in count_at counts t ≤ length (tables_held new t)) → (t : Table) → index_of t < i + 1 → count_at counts t ≤ length (tables_held new t)
room_more old new counts i room grown here t lt = ⊎_elim
    (λ (less : index_of t < i). omega (arith, room t less, (grown.rows t).longer))
    (λ more. let last : i ≡ index_of t = omega (arith, more, lt) in
    subst (λ (u : Table). count_at counts u ≤ length (tables_held new u)) (ap (λ (n : ℕ). get_or all_tables n table.Blocks) last ∙ table_at t) here)
    (cases_lt (index_of t) i)

-- one list has grown
module _ (old new : List SizedRows) (t : Table) (list : SizedRows) (is : new ≡ set old (index_of t) list) (lt : index_of t < length old)
    (grown : HasGrown (sized_rows old t).size (tables_held old t) list.rows) (same : list.size ≡ (sized_rows old t).size) where
  list_here : sized_rows new t ≡ list
  list_here = ap (λ (kept : List SizedRows). sized_rows kept t) is ∙ set_at old t list lt

  list_beside : (u : Table) → u ≢ t → sized_rows new u ≡ sized_rows old u
  list_beside u ne = ap (λ (kept : List SizedRows). sized_rows kept u) is ∙ set_beside old t u list ne

  pub one_grown : AllGrown old new
  one_grown = record {
    sizes = λ u. ⊎_elim
        (λ (e : u ≡ t). subst (λ (v : Table). (sized_rows new v).size ≡ (sized_rows old v).size) (sym e) (ap (λ (l : SizedRows). l.size) list_here ∙ same))
        (λ (ne : u ≢ t). ap (λ (l : SizedRows). l.size) (list_beside u ne))
        (same_table u t);
    rows = λ u. ⊎_elim
        (λ (e : u ≡ t). subst (λ (v : Table). HasGrown (sized_rows old v).size (tables_held old v) (tables_held new v)) (sym e)
        (subst (λ (l : SizedRows). HasGrown (sized_rows old t).size (tables_held old t) l.rows) (sym list_here) grown))
        (λ (ne : u ≢ t). subst (λ (l : SizedRows). HasGrown (sized_rows old u).size (tables_held old u) l.rows) (sym (list_beside u ne)) (not_grown (sized_rows old u).size (tables_held old u)))
        (same_table u t);
  }

-- what is shown stays while spare rows come
pub shown_grown : (old new : List SizedRows) (counts : List ℕ) → AllGrown old new → HasEnoughRows old counts → shown_rows new counts ≡ shown_rows old counts
shown_grown old new counts grown room = fun_ext (λ t.
    let n = count_at counts t in
    let in_new : n ≤ length (tables_held new t) = omega (arith, room t, (grown.rows t).longer) in
    let long : length (take n (tables_held new t)) ≡ n = length-take-le n (tables_held new t) in_new in
    ext_get_or [] (take n (tables_held new t)) (take n (tables_held old t)) (long ∙ sym (length-take-le n (tables_held old t) (room t)))
    (λ i lt. let below : i < n = omega (arith, lt, long) in
    get_or-take n (tables_held new t) i [] below ∙ (grown.rows t).before i (omega (arith, below, room t)) ∙ sym (get_or-take n (tables_held old t) i [] below)))

-- the change of that number is what is changed at its row
pub change_at : (base : Table → ℕ) (counts : List ℕ) (changes : Changes) (k : ℕ) (t : Table) (i : ℕ) (row : List ℕ) → IsMadeFrom base counts changes → slice_get changes k ≡ Some (key t i, row) → changed_at changes t i ≡ Some row
change_at base counts changes k t i row made is = lookup_from_place (eq_by_cmp_equiv keys_total) changes k (key t i) row (IsDistinct-from_sorted row_cmp (keys_of changes) made.rising) is

first_goes : (changes : Changes) (k : ℕ) (e : RowKey × List ℕ) → slice_get changes k ≡ Some e → drop k changes ≡ e ∷ drop (k + 1) changes
first_goes changes k e is = drop-cons changes k e (slice_get_within changes k e is) ∙ ap (λ (x : RowKey × List ℕ). x ∷ drop (suc k) changes) (get_or_from_slice_get changes k e e is)
    ∙ ap (λ n. e ∷ drop n changes) (let next : suc k ≡ k + 1 = omega arith in next)

-- one change more
module _ (base : Table → ℕ) (counts : List ℕ) (changes : Changes) (old mid : List SizedRows) (k : ℕ) (t : Table) (i : ℕ) (row : List ℕ)
    (made : IsMadeFrom base counts changes) (room : HasEnoughRows old counts) (sized : AreSized old) (so_far : AreWriting old mid changes k) (is : slice_get changes k ≡ Some (key t i, row)) where
  found : changed_at changes t i ≡ Some row
  found = change_at base counts changes k t i row made is

  pub in_mid : i < length (tables_held mid t)
  in_mid = let few : i < count_at counts t = made.within t i (rw found refl) in let in_old : i < length (tables_held old t) = omega (arith, few, room t) in rw (so_far.long t) in_old

  pub same_size : length row ≡ (sized_rows mid t).size
  same_size = made.sized t i row found ∙ sym (so_far.sizes t ∙ sized t)

-- and what it leaves
abbrev pub set_row : List SizedRows → Table → ℕ → List ℕ → SizedRows
set_row kept t i row = record { size = (sized_rows kept t).size; rows = set (tables_held kept t) i row }

module _ (base : Table → ℕ) (counts : List ℕ) (changes : Changes) (old mid new : List SizedRows) (k : ℕ) (t : Table) (i : ℕ) (row : List ℕ)
    (made : IsMadeFrom base counts changes) (room : HasEnoughRows old counts) (sized : AreSized old) (so_far : AreWriting old mid changes k) (is : slice_get changes k ≡ Some (key t i, row))
    (set_is : new ≡ set mid (index_of t) (set_row mid t i row)) (within : index_of t < length mid) where
  here : sized_rows new t ≡ set_row mid t i row
  here = ap (λ (kept : List SizedRows). sized_rows kept t) set_is ∙ set_at mid t (set_row mid t i row) within

  beside : (u : Table) → u ≢ t → sized_rows new u ≡ sized_rows mid u
  beside u ne = ap (λ (kept : List SizedRows). sized_rows kept u) set_is ∙ set_beside mid t u (set_row mid t i row) ne

  change_is : changed_at changes t i ≡ Some row
  change_is = found base counts changes old mid k t i row made room sized so_far is

  same_sizes : (u : Table) → (sized_rows new u).size ≡ (sized_rows mid u).size
  same_sizes u = ⊎_elim
      (λ (e : u ≡ t). subst (λ (v : Table). (sized_rows new v).size ≡ (sized_rows mid v).size) (sym e) (ap (λ (l : SizedRows). l.size) here))
      (λ (ne : u ≢ t). ap (λ (l : SizedRows). l.size) (beside u ne))
      (same_table u t)

  same_long : (u : Table) → length (tables_held new u) ≡ length (tables_held mid u)
  same_long u = ⊎_elim
      (λ (e : u ≡ t). subst (λ (v : Table). length (tables_held new v) ≡ length (tables_held mid v)) (sym e) (ap (λ (l : SizedRows). length l.rows) here ∙ length-set (tables_held mid t) i row))
      (λ (ne : u ≢ t). ap (λ (l : SizedRows). length l.rows) (beside u ne))
      (same_table u t)

  new_here : get_or (tables_held new t) i [] ≡ row
  new_here = ap (λ (l : SizedRows). get_or l.rows i []) here ∙ get_or-set_same (tables_held mid t) i row [] (in_mid base counts changes old mid k t i row made room sized so_far is)

  new_beside : (u : Table) (j : ℕ) → (u ≡ t → j ≡ i → ⊥) → get_or (tables_held new u) j [] ≡ get_or (tables_held mid u) j []
  new_beside u j apart = ⊎_elim
      (λ (e : u ≡ t). subst (λ (v : Table). get_or (tables_held new v) j [] ≡ get_or (tables_held mid v) j []) (sym e)
      (ap (λ (l : SizedRows). get_or l.rows j []) here ∙ get_or-set_other (tables_held mid t) i j row [] (λ same. apart e same)))
      (λ (ne : u ≢ t). ap (λ (l : SizedRows). get_or l.rows j []) (beside u ne))
      (same_table u t)

  -- a row is the one that was written or another
  one_row : (P : Table → ℕ → Type 0) → P t i → ((u : Table) (j : ℕ) → (u ≡ t → j ≡ i → ⊥) → P u j) → (u : Table) (j : ℕ) → P u j
  one_row P at_it else_where u j = ⊎_elim
      (λ (e : u ≡ t). ⊎_elim
      (λ (same : j ≡ i). subst (λ (v : Table). P v j) (sym e) (subst (λ (n : ℕ). P t n) (sym same) at_it))
      (λ (ne : j ≢ i). else_where u j (λ _ same. ne same))
      (cases_eq j i))
      (λ (ne : u ≢ t). else_where u j (λ e _. ne e))
      (same_table u t)

  none_before : (u : Table) (j : ℕ) → (u ≡ t → j ≡ i → ⊥) → changed_at (drop (k + 1) changes) u j ≡ None → changed_at (drop k changes) u j ≡ None
  none_before u j apart none = ap (λ (c : Changes). changed_at c u j) (first_goes changes k (key t i, row) is)
      ∙ if_false (is_at (row_cmp (key u j)) (key t i)) (Some row) (changed_at (drop (k + 1) changes) u j) (other_key u t j i apart) ∙ none

  pub write_more : AreWriting old new changes (k + 1)
  write_more = record {
    tables = ap length set_is ∙ length-set mid (index_of t) (set_row mid t i row) ∙ so_far.tables;
    sizes = λ u. same_sizes u ∙ so_far.sizes u;
    long = λ u. same_long u ∙ so_far.long u;
    each = one_row (λ u j. j < length (tables_held old u) → changed_at (drop (k + 1) changes) u j ≡ None → get_or (tables_held new u) j [] ≡ unwrap_or (changed_at changes u j) (get_or (tables_held old u) j []))
        (λ _ _. new_here ∙ sym (ap (λ (o : Option (List ℕ)). unwrap_or o (get_or (tables_held old t) i [])) change_is))
        (λ u j apart lt none. new_beside u j apart ∙ so_far.each u j lt (none_before u j apart none));
  }

-- what is shown after a commit
module _ (old grown new : List SizedRows) (counts more : List ℕ) (changes : Changes) (were : AreKept old counts) (grew : AllGrown old grown) (room : HasEnoughRows grown more)
    (wrote : AreWritten grown new changes) (made : IsMadeFrom (λ t. length (shown_rows old counts t)) more changes) where
  shown_before : (t : Table) → length (shown_rows old counts t) ≡ count_at counts t
  shown_before t = length-take-le (count_at counts t) (tables_held old t) (were.room t)

  has_room : (t : Table) → count_at more t ≤ length (tables_held new t)
  has_room t = omega (arith, room t, wrote.long t)

  row_now : (t : Table) (i : ℕ) → i < count_at more t → (o : Option (List ℕ)) → changed_at changes t i ≡ o
      → unwrap_or o (get_or (tables_held grown t) i []) ≡ unwrap_or o (get_or (shown_rows old counts t) i [])
  row_now t i lt (Some row) is = refl
  row_now t i lt None is = let below : i < count_at counts t = subst (λ n. i < n) (shown_before t) (made.covers t i lt is) in
      (grew.rows t).before i (omega (arith, below, were.room t)) ∙ sym (get_or-take (count_at counts t) (tables_held old t) i [] below)

  pub shown_after : (t : Table) → shown_rows new more t ≡ under (shown_rows old counts) more changes t
  shown_after t = sym (is_under (shown_rows old counts) more changes t (shown_rows new more t) (length-take-le (count_at more t) (tables_held new t) (has_room t))
      (λ i lt. get_or-take (count_at more t) (tables_held new t) i [] lt ∙ wrote.each t i (omega (arith, lt, room t)) ∙ row_now t i lt (changed_at changes t i) refl))

-- a list of tables has each at its place
pub at_table : (tables : Tables) (t : Table) → tables_listed (list_of_tables tables) t ≡ tables t
at_table tables t = elim t as (λ u. tables_listed (list_of_tables tables) u ≡ tables u) [
  | table.Blocks ↦ refl
  | table.Txs ↦ refl
  | table.TxHeads ↦ refl
  | table.Outs ↦ refl
  | table.Ins ↦ refl
  | table.Scripts ↦ refl
  | table.ScriptHeads ↦ refl
  | table.Entries ↦ refl
]

pub as_tables : (self : List (List (List ℕ))) (tables : Tables) → list_of_tables tables ≡ self → tables_listed self ≡ tables
as_tables self tables is = fun_ext (λ t. ap (λ (x : List (List (List ℕ))). tables_listed x t) (sym is) ∙ at_table tables t)

-- a row that is shown is one that is kept
pub shown_row : (self : List (List (List ℕ))) (kept : List SizedRows) (counts : List ℕ) (t : Table) (i : ℕ) → list_of_tables (shown_rows kept counts) ≡ self → HasEnoughRows kept counts → i < length (tables_listed self t)
    → get_or (tables_held kept t) i [] ≡ get_or (tables_listed self t) i []
shown_row self kept counts t i is room lt =
    let same : tables_listed self t ≡ shown_rows kept counts t = ap (λ (tables : Tables). tables t) (as_tables self (shown_rows kept counts) is) in
    let below : i < count_at counts t = omega (arith, lt, ap (λ (rows : List (List ℕ)). length rows) same, length-take-le (count_at counts t) (tables_held kept t) (room t)) in
    sym (ap (λ (rows : List (List ℕ)). get_or rows i []) same ∙ get_or-take (count_at counts t) (tables_held kept t) i [] below)

-- the tables after a commit
pub committed : (self : List (List (List ℕ))) (old grown new : List SizedRows) (counts told more : List ℕ) (changes : Changes) → list_of_tables (shown_rows old counts) ≡ self → AreKept old counts → AllGrown old grown → HasEnoughRows grown more
    → AreWritten grown new changes → IsMadeFrom (λ t. length (tables_listed self t)) more changes → told ≡ more → (t : Table) → tables_listed (list_of_tables (shown_rows new told)) t ≡ under (tables_listed self) more changes t
committed self old grown new counts told more changes is were grew room wrote made same t =
    let shown : tables_listed self ≡ shown_rows old counts = as_tables self (shown_rows old counts) is in
    at_table (shown_rows new told) t ∙ ap (λ (c : List ℕ). shown_rows new c t) same
    ∙ rw shown (shown_after old grown new counts more changes were grew room wrote (subst (λ (l : Tables). IsMadeFrom (λ u. length (l u)) more changes) shown made) t)

-- rows of a run are rows of their table
pub run_in : (base : Table → ℕ) (counts : List ℕ) (changes : Changes) (old mid : List SizedRows) (k : ℕ) (t : Table) (first rows : ℕ) (bytes : List ℕ) → IsMadeFrom base counts changes → HasEnoughRows old counts → AreWriting old mid changes k
    → 0 < rows → ((j : ℕ) → j < rows → slice_get changes (k + j) ≡ Some (key t (first + j), row_at (size_of t) bytes j)) → first + rows ≤ length (tables_held mid t)
run_in base counts changes old mid k t first zero bytes made room so_far some each = absurd (omega (arith, some))
run_in base counts changes old mid k t first (suc n) bytes made room so_far some each =
    let found = change_at base counts changes (k + n) t (first + n) (row_at (size_of t) bytes n) made (each n (omega arith)) in
    let few : first + n < count_at counts t = made.within t (first + n) (rw found refl) in
    omega (arith, few, room t, so_far.long t)

-- a row that was written over leaves its list as long, and of its size
pub set_long : (mid new : List SizedRows) (t : Table) (i : ℕ) (row : List ℕ) → new ≡ set mid (index_of t) (set_row mid t i row) → index_of t < length mid
    → ((sized_rows new t).size ≡ (sized_rows mid t).size) × (length (tables_held new t) ≡ length (tables_held mid t))
set_long mid new t i row is within =
    let here : sized_rows new t ≡ set_row mid t i row = ap (λ (kept : List SizedRows). sized_rows kept t) is ∙ set_at mid t (set_row mid t i row) within in
    (ap (λ (l : SizedRows). l.size) here, ap (λ (l : SizedRows). length l.rows) here ∙ length-set (tables_held mid t) i row)

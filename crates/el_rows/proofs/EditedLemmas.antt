-- The edits of tables, one by one, as changes.
use Rattle.std.proofs.Common.{◌≡◌, ◌≢◌, ◌⊎◌, ◌<◌, ◌≤◌, ◌+◌, ◌-◌, ℕ, suc, List, [], ◌∷◌, ◌++◌, Bool, true, false, cond, Some, None, Option, map, refl, ap, sym, ◌∙◌, arith, subst, ⊎_elim, length, get_or}
use Rattle.std.specs.Prelude.{nat_lt, nat_eq, slice_get}
use Rattle.std.proofs.Math.ListN.{set}
use Rattle.std.proofs.lemmas.List.{get_or-set_same, get_or-set_other, get_or_default}
use Rattle.std.proofs.lemmas.Bool.{cases_eq, cases_lt}
use Rattle.std.specs.Map.{lookup}
use Rattle.std.specs.BTreeMap.{is_at}
use Rattle.el_row_formats.specs.declared.table.Table.{Table}
use Rattle.el_row_formats.specs.declared.table.Table.TheVariants as table
use Rattle.el_row_formats.specs.Tables.{row_cmp, index_of, size_of, limit_of, key}
use Rattle.el_rows.specs.Changes.{Changes, Sets, SetsCount, changed_at, count_at}
use Rattle.el_rows.specs.within.EditedTables.{EditedTable, edited_at, no_edits, edits_of, numbered, changes_in, all_changes, Writes, AreEdited}
use Rattle.el_row_formats.proofs.Keys.{same_key, self_key, other_key, same_index, same_table}

pub eq_true : (i j : ℕ) → i ≡ j → nat_eq i j ≡ true
eq_true i j e = grind arith

pub eq_false : (i j : ℕ) → i ≢ j → nat_eq i j ≡ false
eq_false i j ne = grind arith

-- keys of one table compare as their numbers
pub same_row : (t : Table) (i j : ℕ) → is_at (row_cmp (key t i)) (key t j) ≡ nat_eq i j
same_row t i j = ⊎_elim
    (λ (e : i ≡ j). subst (λ (k : ℕ). is_at (row_cmp (key t i)) (key t k) ≡ true) e (self_key t i) ∙ sym (eq_true i j e))
    (λ (ne : i ≢ j). other_key t t i j (λ _ e. ne e) ∙ sym (eq_false i j ne))
    (cases_eq i j)

module _ {K X : Type 0} (test : K → Bool) where
  after_cond : (b : Bool) (o p q : Option X) → p ≡ q → cond b o p ≡ cond b o q
  after_cond b o p q is = ap (λ r. cond b o r) is

  -- a search in the first list misses
  pub lookup_after : (xs ys : List (K × X)) → lookup test xs ≡ None → lookup test (xs ++ ys) ≡ lookup test ys
  lookup_after [] ys none = refl
  lookup_after (x ∷ xs) ys none = missed (test x.0) x.1 (lookup test xs) (lookup test (xs ++ ys)) none (λ rest. lookup_after xs ys rest)
    where
      missed : (b : Bool) (v : X) (o p : Option X) → cond b (Some v) o ≡ None → (o ≡ None → p ≡ lookup test ys) → cond b (Some v) p ≡ lookup test ys
      missed true v o p h next = cc
      missed false v o p h next = next h

  -- or in the second
  pub lookup_before : (xs ys : List (K × X)) → lookup test ys ≡ None → lookup test (xs ++ ys) ≡ lookup test xs
  lookup_before [] ys none = none
  lookup_before (x ∷ xs) ys none = after_cond (test x.0) (Some x.1) (lookup test (xs ++ ys)) (lookup test xs) (lookup_before xs ys none)

  pub lookup_neither : (xs ys : List (K × X)) → lookup test xs ≡ None → lookup test ys ≡ None → lookup test (xs ++ ys) ≡ None
  lookup_neither xs ys first second = lookup_after xs ys first ∙ second

pub if_true : {X : Type 0} (b : Bool) (o p : Option X) → b ≡ true → cond b o p ≡ o
if_true b o p is = ap (λ c. cond c o p) is

pub if_false : {X : Type 0} (b : Bool) (o p : Option X) → b ≡ false → cond b o p ≡ p
if_false b o p is = ap (λ c. cond c o p) is

none_twice : {X : Type 0} (b : Bool) (o : Option X) → o ≡ None → cond b o o ≡ o
none_twice true o none = refl
none_twice false o none = refl

-- ---- one table
lookup_changed : (t : Table) (i : ℕ) (rows : List (ℕ × List ℕ)) → lookup (is_at (row_cmp (key t i))) (map (λ c. (key t c.0, c.1)) rows) ≡ lookup (nat_eq i) rows
lookup_changed t i [] = refl
lookup_changed t i (c ∷ rows) = ap (λ b. cond b (Some c.1) (lookup (is_at (row_cmp (key t i))) (map (λ c. (key t c.0, c.1)) rows))) (same_row t i c.0)
    ∙ ap (λ r. cond (nat_eq i c.0) (Some c.1) r) (lookup_changed t i rows)

lookup_changed_other : (t u : Table) (i : ℕ) (rows : List (ℕ × List ℕ)) → t ≢ u → lookup (is_at (row_cmp (key t i))) (map (λ c. (key u c.0, c.1)) rows) ≡ None
lookup_changed_other t u i [] ne = refl
lookup_changed_other t u i (c ∷ rows) ne = if_false _ (Some c.1) _ (other_key t u i c.0 (λ e _. ne e)) ∙ lookup_changed_other t u i rows ne

at_numbered : (t : Table) (i n : ℕ) (rows : List (List ℕ)) → lookup (is_at (row_cmp (key t i))) (numbered t n rows) ≡ cond (nat_lt i n) None (slice_get rows (i - n))
at_numbered t i n [] = sym (none_twice (nat_lt i n) None refl)
at_numbered t i n (row ∷ rows) = ap (λ b. cond b (Some row) (lookup (is_at (row_cmp (key t i))) (numbered t (n + 1) rows))) (same_row t i n)
    ∙ ap (λ r. cond (nat_eq i n) (Some row) r) (at_numbered t i (n + 1) rows) ∙ next i n
  where
    next : (i n : ℕ) → cond (nat_eq i n) (Some row) (cond (nat_lt i (n + 1)) None (slice_get rows (i - (n + 1)))) ≡ cond (nat_lt i n) None (slice_get (row ∷ rows) (i - n))
    next i n = ⊎_elim
        (λ (lt : i < n). if_false _ (Some row) _ (eq_false i n (λ e. omega (arith, lt, e))) ∙ if_true _ None _ (let e : nat_lt i (n + 1) ≡ true = grind (arith, lt) in e) ∙ sym (if_true _ None _ (let e : nat_lt i n ≡ true = grind (arith, lt) in e)))
        (λ (ge : n ≤ i). ⊎_elim
        (λ (e : i ≡ n). if_true _ (Some row) _ (eq_true i n e) ∙ ap (λ k. slice_get (row ∷ rows) k) (let z : 0 ≡ i - n = omega (arith, e) in z) ∙ sym (if_false _ None _ (let b : nat_lt i n ≡ false = grind (arith, ge) in b)))
        (λ (ne : i ≢ n). let more : n + 1 ≤ i = omega (arith, ne, ge) in if_false _ (Some row) _ (eq_false i n ne) ∙ if_false _ None _ (let b : nat_lt i (n + 1) ≡ false = grind (arith, more) in b)
        ∙ ap (λ k. slice_get (row ∷ rows) k) (let z : suc (i - (n + 1)) ≡ i - n = omega (arith, more) in z) ∙ sym (if_false _ None _ (let b : nat_lt i n ≡ false = grind (arith, ge) in b)))
        (cases_eq i n))
        (cases_lt i n)

at_numbered_other : (t u : Table) (i n : ℕ) (rows : List (List ℕ)) → t ≢ u → lookup (is_at (row_cmp (key t i))) (numbered u n rows) ≡ None
at_numbered_other t u i n [] ne = refl
at_numbered_other t u i n (row ∷ rows) ne = if_false _ (Some row) _ (other_key t u i n (λ e _. ne e)) ∙ at_numbered_other t u i (n + 1) rows ne

-- what a table's edits have at a row, where the changed ones stand below the base
at_own : (t : Table) (base : ℕ) (e : EditedTable) (i : ℕ) → (base ≤ i → lookup (nat_eq i) e.changed ≡ None) → lookup (is_at (row_cmp (key t i))) (changes_in t base e) ≡ edited_at base e i
at_own t base e i below = ⊎_elim
    (λ (lt : i < base). lookup_before (is_at (row_cmp (key t i))) (map (λ c. (key t c.0, c.1)) e.changed) (numbered t base e.added.rows)
    (at_numbered t i base e.added.rows ∙ if_true _ None _ (let b : nat_lt i base ≡ true = grind (arith, lt) in b))
    ∙ lookup_changed t i e.changed ∙ sym (if_true _ _ (slice_get e.added.rows (i - base)) (let b : nat_lt i base ≡ true = grind (arith, lt) in b)))
    (λ (ge : base ≤ i). lookup_after (is_at (row_cmp (key t i))) (map (λ c. (key t c.0, c.1)) e.changed) (numbered t base e.added.rows) (lookup_changed t i e.changed ∙ below ge)
    ∙ at_numbered t i base e.added.rows ∙ ap (λ b. cond b None (slice_get e.added.rows (i - base))) (let b : nat_lt i base ≡ false = grind (arith, ge) in b) ∙ sym (if_false _ (lookup (nat_eq i) e.changed) _ (let b : nat_lt i base ≡ false = grind (arith, ge) in b)))
    (cases_lt i base)

at_other : (t u : Table) (base : ℕ) (e : EditedTable) (i : ℕ) → t ≢ u → lookup (is_at (row_cmp (key t i))) (changes_in u base e) ≡ None
at_other t u base e i ne = lookup_neither (is_at (row_cmp (key t i))) (map (λ c. (key u c.0, c.1)) e.changed) (numbered u base e.added.rows) (lookup_changed_other t u i e.changed ne) (at_numbered_other t u i base e.added.rows ne)

-- ---- all tables
module _ (base : List ℕ) (tables : List EditedTable) where
  abbrev of : Table → Changes
  of t = changes_in t (count_at base t) (edits_of tables t)

  module _ (t : Table) (i : ℕ) where
    abbrev at : Changes → Option (List ℕ)
    at changes = changed_at changes t i

    beside : (u : Table) → index_of t ≢ index_of u → at (of u) ≡ None
    beside u ne = at_other t u (count_at base u) (edits_of tables u) i (λ e. ne (ap index_of e))

    skip : (u : Table) (rest : Changes) (o : Option (List ℕ)) → index_of t ≢ index_of u → at rest ≡ o → at (of u ++ rest) ≡ o
    skip u rest o ne is = lookup_after (is_at (row_cmp (key t i))) (of u) rest (beside u ne) ∙ is

    stop : (rest : Changes) → at rest ≡ None → at (of t ++ rest) ≡ at (of t)
    stop rest none = lookup_before (is_at (row_cmp (key t i))) (of t) rest none

  at_all : (t : Table) (i : ℕ) → changed_at (all_changes base tables) t i ≡ changed_at (of t) t i
  at_all table.Blocks i = let t = table.Blocks in
      stop t i _ (skip t i table.Txs _ None (omega arith) (skip t i table.TxHeads _ None (omega arith) (skip t i table.Outs _ None (omega arith) (skip t i table.Ins _ None (omega arith) (skip t i table.Scripts _ None (omega arith) (skip t i table.ScriptHeads _ None (omega arith) (beside t i table.Entries (omega arith))))))))
  at_all table.Txs i = let t = table.Txs in
      skip t i table.Blocks _ _ (omega arith) (stop t i _ (skip t i table.TxHeads _ None (omega arith) (skip t i table.Outs _ None (omega arith) (skip t i table.Ins _ None (omega arith) (skip t i table.Scripts _ None (omega arith) (skip t i table.ScriptHeads _ None (omega arith) (beside t i table.Entries (omega arith))))))))
  at_all table.TxHeads i = let t = table.TxHeads in
      skip t i table.Blocks _ _ (omega arith) (skip t i table.Txs _ _ (omega arith) (stop t i _ (skip t i table.Outs _ None (omega arith) (skip t i table.Ins _ None (omega arith) (skip t i table.Scripts _ None (omega arith) (skip t i table.ScriptHeads _ None (omega arith) (beside t i table.Entries (omega arith))))))))
  at_all table.Outs i = let t = table.Outs in
      skip t i table.Blocks _ _ (omega arith) (skip t i table.Txs _ _ (omega arith) (skip t i table.TxHeads _ _ (omega arith) (stop t i _ (skip t i table.Ins _ None (omega arith) (skip t i table.Scripts _ None (omega arith) (skip t i table.ScriptHeads _ None (omega arith) (beside t i table.Entries (omega arith))))))))
  at_all table.Ins i = let t = table.Ins in
      skip t i table.Blocks _ _ (omega arith) (skip t i table.Txs _ _ (omega arith) (skip t i table.TxHeads _ _ (omega arith) (skip t i table.Outs _ _ (omega arith) (stop t i _ (skip t i table.Scripts _ None (omega arith) (skip t i table.ScriptHeads _ None (omega arith) (beside t i table.Entries (omega arith))))))))
  at_all table.Scripts i = let t = table.Scripts in
      skip t i table.Blocks _ _ (omega arith) (skip t i table.Txs _ _ (omega arith) (skip t i table.TxHeads _ _ (omega arith) (skip t i table.Outs _ _ (omega arith) (skip t i table.Ins _ _ (omega arith) (stop t i _ (skip t i table.ScriptHeads _ None (omega arith) (beside t i table.Entries (omega arith))))))))
  at_all table.ScriptHeads i = let t = table.ScriptHeads in
      skip t i table.Blocks _ _ (omega arith) (skip t i table.Txs _ _ (omega arith) (skip t i table.TxHeads _ _ (omega arith) (skip t i table.Outs _ _ (omega arith) (skip t i table.Ins _ _ (omega arith) (skip t i table.Scripts _ _ (omega arith) (stop t i _ (beside t i table.Entries (omega arith))))))))
  at_all table.Entries i = let t = table.Entries in
      skip t i table.Blocks _ _ (omega arith) (skip t i table.Txs _ _ (omega arith) (skip t i table.TxHeads _ _ (omega arith) (skip t i table.Outs _ _ (omega arith) (skip t i table.Ins _ _ (omega arith) (skip t i table.Scripts _ _ (omega arith) (skip t i table.ScriptHeads _ _ (omega arith) refl))))))

  -- what all edits have at a row
  pub at_changes : ((t : Table) (i : ℕ) → count_at base t ≤ i → lookup (nat_eq i) (edits_of tables t).changed ≡ None) → (t : Table) (i : ℕ)
      → changed_at (all_changes base tables) t i ≡ edited_at (count_at base t) (edits_of tables t) i
  at_changes below t i = at_all t i ∙ at_own t (count_at base t) (edits_of tables t) i (below t i)

-- a table's edits, found by its index
pub at_place : (tables : List EditedTable) (t : Table) (k : ℕ) (x : EditedTable) → k ≡ index_of t → k < length tables → get_or tables k x ≡ edits_of tables t
at_place tables t k x index lt = get_or_default tables k x no_edits lt ∙ ap (λ n. get_or tables n no_edits) index

pub edited_by_place : (base : List ℕ) (tables : List EditedTable) (t : Table) (k : ℕ) (x : EditedTable) (i : ℕ) → k ≡ index_of t → k < length tables
    → edited_at (get_or base k 0) (get_or tables k x) i ≡ edited_at (count_at base t) (edits_of tables t) i
edited_by_place base tables t k x i index lt = ap (λ n. edited_at (get_or base n 0) (get_or tables k x) i) index ∙ ap (λ e. edited_at (count_at base t) e i) (at_place tables t k x index lt)

-- ---- one table's edits are set
module _ (tables : List EditedTable) (t : Table) (new : EditedTable) where
  pub edits_set : index_of t < length tables → edits_of (set tables (index_of t) new) t ≡ new
  edits_set lt = get_or-set_same tables (index_of t) new no_edits lt

  pub edits_beside : (u : Table) → u ≢ t → edits_of (set tables (index_of t) new) u ≡ edits_of tables u
  edits_beside u ne = get_or-set_other tables (index_of t) (index_of u) new no_edits (λ e. ne (same_index u t e))

-- a row is written into a table's edits
module _ (base counts : List ℕ) (tables after : List EditedTable) (t : Table) (i : ℕ) (row : List ℕ)
    (edited : AreEdited base counts tables) (writes : Writes (count_at base t) (edits_of tables t) (edits_of after t) i row) (stay : (u : Table) → u ≢ t → edits_of after u ≡ edits_of tables u) where
  -- of each table it is this one or another
  each_table : (P : Table → EditedTable → Type 0) → P t (edits_of after t) → ((u : Table) → u ≢ t → P u (edits_of tables u)) → (u : Table) → P u (edits_of after u)
  each_table P here others u = ⊎_elim
      (λ (e : u ≡ t). subst (λ (v : Table). P v (edits_of after v)) (sym e) here)
      (λ (ne : u ≢ t). subst (λ (x : EditedTable). P u x) (sym (stay u ne)) (others u ne))
      (same_table u t)

  below_after : (u : Table) (j : ℕ) → count_at base u ≤ j → lookup (nat_eq j) (edits_of after u).changed ≡ None
  below_after u j = each_table (λ v x. count_at base v ≤ j → lookup (nat_eq j) x.changed ≡ None) (λ le. writes.below j le ∙ edited.below t j le) (λ v ne. edited.below v j) u

  at_after : (u : Table) (j : ℕ) → edited_at (count_at base u) (edits_of after u) j ≡ cond (is_at (row_cmp (key t i)) (key u j)) (Some row) (edited_at (count_at base u) (edits_of tables u) j)
  at_after u j = each_table (λ v x. edited_at (count_at base v) x j ≡ cond (is_at (row_cmp (key t i)) (key v j)) (Some row) (edited_at (count_at base v) (edits_of tables v) j))
      (writes.each j ∙ ap (λ b. cond b (Some row) (edited_at (count_at base t) (edits_of tables t) j)) (sym (same_row t i j)))
      (λ v ne. sym (if_false _ (Some row) _ (other_key t v i j (λ e _. ne (sym e))))) u

  pub write_sets : Sets (all_changes base tables) (all_changes base after) t i row
  write_sets = record {
    each = λ u j. at_changes base after below_after u j ∙ at_after u j ∙ ap (λ o. cond (is_at (row_cmp (key t i)) (key u j)) (Some row) o) (sym (at_changes base tables edited.below u j));
  }

  set_sized : (b : Bool) (size : ℕ) (o : Option (List ℕ)) → (b ≡ true → length row ≡ size) → ((x : List ℕ) → o ≡ Some x → length x ≡ size) → (x : List ℕ) → cond b (Some row) o ≡ Some x → length x ≡ size
  set_sized true size o now was x is = let same : row ≡ x = cc in subst (λ (y : List ℕ). length y ≡ size) same (now refl)
  set_sized false size o now was x is = was x is

  -- and what edits keep stays, also where a count now takes in the row
  pub write_edited : (more : List ℕ) → length row ≡ size_of t → ((u : Table) → u ≢ t → count_at more u ≡ count_at counts u) → (count_at more t ≤ count_at counts t ⊎ (count_at more t ≤ i + 1)) → count_at more t ≤ limit_of t
      → AreEdited base more after
  write_edited more sized others reach limit = record {
    below = below_after;
    sizes = each_table (λ v x. x.added.size ≡ size_of v) (writes.size ∙ edited.sizes t) (λ v ne. edited.sizes v);
    sized = λ u j x is. set_sized (is_at (row_cmp (key t i)) (key u j)) (size_of u) (edited_at (count_at base u) (edits_of tables u) j)
        (λ h. sized ∙ ap size_of (same_key t u i j h).0) (edited.sized u j) x (sym (at_after u j) ∙ is);
    reach = each_table (λ v x. count_at more v ≤ count_at base v + length x.added.rows)
        (⊎_elim (λ le. omega (arith, le, edited.reach t, writes.longer)) (λ one. omega (arith, one, writes.reach)) reach)
        (λ v ne. subst (λ n. n ≤ count_at base v + length (edits_of tables v).added.rows) (sym (others v ne)) (edited.reach v));
    limited = λ u. ⊎_elim
        (λ (e : u ≡ t). subst (λ (v : Table). count_at more v ≤ limit_of v) (sym e) limit)
        (λ (ne : u ≢ t). subst (λ n. n ≤ limit_of u) (sym (others u ne)) (edited.limited u))
        (same_table u t);
  }

-- the last rows go
pub fewer_edited : (base counts less : List ℕ) (tables : List EditedTable) (t : Table) (n : ℕ) → AreEdited base counts tables → n ≤ count_at counts t → SetsCount counts less t n → AreEdited base less tables
fewer_edited base counts less tables t n edited le counted =
    let fewer : (u : Table) → count_at less u ≤ count_at counts u = λ u. ⊎_elim
    (λ (e : u ≡ t). subst (λ (v : Table). count_at less v ≤ count_at counts v) (sym e) (omega (arith, counted.here)))
    (λ (ne : u ≢ t). omega (arith, counted.others u ne))
    (same_table u t) in record {
      below = edited.below;
      sizes = edited.sizes;
      sized = edited.sized;
      reach = λ u. omega (arith, fewer u, edited.reach u);
      limited = λ u. omega (arith, fewer u, edited.limited u);
    }

-- no edits, of rows of this size
abbrev pub none_of : ℕ → EditedTable
none_of size = record { changed = []; added = record { size = size; rows = [] } }

pub none_edited : (base : List ℕ) (tables : List EditedTable) → ((t : Table) → edits_of tables t ≡ none_of (size_of t)) → ((t : Table) → count_at base t ≤ limit_of t) → AreEdited base base tables
none_edited base tables none limited = record {
  below = λ t i le. ap (λ (e : EditedTable). lookup (nat_eq i) e.changed) (none t);
  sizes = λ t. ap (λ (e : EditedTable). e.added.size) (none t);
  sized = λ t i x is. absurd (nothing (nat_lt i (count_at base t)) (i - count_at base t) x (sym (ap (λ (e : EditedTable). edited_at (count_at base t) e i) (none t)) ∙ is));
  reach = λ t. omega arith;
  limited = limited;
}
  where
    nothing : (b : Bool) (k : ℕ) (x : List ℕ) → cond b None (slice_get [] k) ≡ Some x → ⊥
    nothing true k x is = cc
    nothing false k x is = cc

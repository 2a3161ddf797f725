-- Edits as a store takes them.
use Rattle.std.proofs.Common.{◌≡◌, ◌≢◌, ◌<◌, ◌≤◌, ◌+◌, ◌-◌, ℕ, zero, suc, List, [], ◌∷◌, ◌++◌, Bool, true, false, cond, ◌&&◌, ◌||◌, Some, None, Option, map, refl, ap, sym, ◌∙◌, arith, subst, ⊎_elim, length, get_or, unwrap_or, append_assoc, append-nil, drop}
use Rattle.std.specs.Prelude.{⊤, IsSome, is_some, nat_lt, nat_eq, slice_get}
use Rattle.std.specs.List.{list_any, AllByRecursion}
use Rattle.std.specs.List.Sorted.{IsStrictlySortedBy, IsStrictlyIncreasing}
use Rattle.std.specs.Map.{lookup, keys_of}
use Rattle.std.specs.BTreeMap.{is_at}
use Rattle.std.specs.Ordering.{nat_cmp, ordering_then}
use Rattle.std.specs.declared.cmp.Ordering.TheVariants.{Less, Equal}
use Rattle.std.proofs.lemmas.Option.{slice_get-get_or}
use Rattle.std.proofs.lemmas.Bool.{cases_lt}
use Rattle.std.proofs.lemmas.List.Folds.{list_any-append}
use Rattle.std.proofs.lemmas.Map.Keys.{sorted_from_strictly_increasing}
use Rattle.el_row_formats.specs.declared.table.Table.{Table}
use Rattle.el_row_formats.specs.declared.table.Table.TheVariants as table
use Rattle.el_row_formats.specs.declared.table.RowKey.{RowKey}
use Rattle.el_row_formats.specs.Tables.{row_cmp, index_of, key}
use Rattle.el_rows.specs.Changes.{Changes, IsMadeFrom, changed_at, count_at, shown_at}
use Rattle.el_rows.specs.within.EditedTables.{EditedTable, edited_at, edits_of, all_changes, listed_changes, rows_at, all_tables, keys_over, AreEdited, AreShown}
use Rattle.el_row_formats.proofs.Keys.{same_key, other_key, same_index, same_table}
use Rattle.el_rows.proofs.EditedLemmas.{same_row, at_changes, if_true, if_false}

-- whether a key is among keys
abbrev pub has_key : Table → ℕ → List RowKey → Bool
has_key t i keys = list_any (is_at (row_cmp (key t i))) keys

-- ---- changes that are listed by keys
abbrev pub listed_row : Changes → RowKey → List ℕ
listed_row changes k = unwrap_or (changed_at changes k.table k.row) []

pub keys_listed : (changes : Changes) (keys : List RowKey) → keys_of (listed_changes changes keys) ≡ keys
keys_listed changes [] = refl
keys_listed changes (k ∷ keys) = ap (λ (ks : List RowKey). k ∷ ks) (keys_listed changes keys)

at_listed : (changes : Changes) (keys : List RowKey) (t : Table) (i : ℕ) → changed_at (listed_changes changes keys) t i ≡ cond (has_key t i keys) (Some (unwrap_or (changed_at changes t i) [])) None
at_listed changes [] t i = refl
at_listed changes (k ∷ keys) t i = first (is_at (row_cmp (key t i)) k) (has_key t i keys) (λ h. let both = same_key t k.table i k.row h in ap (λ (u : Table). unwrap_or (changed_at changes u k.row) []) (sym both.0) ∙ ap (λ j. unwrap_or (changed_at changes t j) []) (sym both.1)) (at_listed changes keys t i)
  where
    first : (b c : Bool) → (b ≡ true → listed_row changes k ≡ unwrap_or (changed_at changes t i) []) → changed_at (listed_changes changes keys) t i ≡ cond c (Some (unwrap_or (changed_at changes t i) [])) None
        → cond b (Some (listed_row changes k)) (changed_at (listed_changes changes keys) t i) ≡ cond (b || c) (Some (unwrap_or (changed_at changes t i) [])) None
    first true c same rest = ap Some (same refl)
    first false c same rest = rest

both_of : (b : Bool) (o : Option (List ℕ)) → cond (b && is_some o) (Some (unwrap_or o [])) None ≡ cond b o None
both_of true (Some x) = refl
both_of true None = refl
both_of false o = refl

-- where the keys are those of the shown changes, so are the changes
pub listed_shown : (counts : List ℕ) (changes : Changes) (keys : List RowKey) → ((t : Table) (i : ℕ) → has_key t i keys ≡ (nat_lt i (count_at counts t) && is_some (changed_at changes t i)))
    → (t : Table) (i : ℕ) → changed_at (listed_changes changes keys) t i ≡ shown_at counts changes t i
listed_shown counts changes keys each t i = at_listed changes keys t i ∙ ap (λ b. cond b (Some (unwrap_or (changed_at changes t i) [])) None) (each t i) ∙ both_of (nat_lt i (count_at counts t)) (changed_at changes t i)

-- the key of a place, with its row
pub listed_at : (changes : Changes) (keys : List RowKey) (n : ℕ) (k : RowKey) → slice_get keys n ≡ Some k → slice_get (listed_changes changes keys) n ≡ Some (k, listed_row changes k)
listed_at changes [] n k is = cc
listed_at changes (x ∷ keys) zero k is = let same : x ≡ k = cc in ap (λ (y : RowKey). Some (y, listed_row changes y)) same
listed_at changes (x ∷ keys) (suc n) k is = listed_at changes keys n k is

pub nat_lt_true : (i n : ℕ) → nat_lt i n ≡ true → i < n
nat_lt_true i n h = grind arith

pub lt_nat_true : (i n : ℕ) → i < n → nat_lt i n ≡ true
lt_nat_true i n h = grind arith

if_some : (b : Bool) (o : Option (List ℕ)) (x : List ℕ) → cond b o None ≡ Some x → (b ≡ true) × (o ≡ Some x)
if_some true o x h = (refl, h)
if_some false o x h = cc

some_of : (o : Option (List ℕ)) → IsSome o → (x : List ℕ) × (o ≡ Some x)
some_of (Some x) h = (x, refl)
some_of None h = cc

slice_none : (rows : List (List ℕ)) (k : ℕ) → slice_get rows k ≡ None → length rows ≤ k
slice_none rows k none = ⊎_elim
    (λ (lt : k < length rows). absurd (let no : Some (get_or rows k []) ≡ None = sym (slice_get-get_or rows k [] lt) ∙ none in cc))
    (λ (le : length rows ≤ k). le)
    (cases_lt k (length rows))

-- what is not edited stands below the base
pub not_edited : (base counts : List ℕ) (tables : List EditedTable) → AreEdited base counts tables → (t : Table) (i : ℕ) → i < count_at counts t → edited_at (count_at base t) (edits_of tables t) i ≡ None → i < count_at base t
not_edited base counts tables edited t i lt none = ⊎_elim
    (λ (below : i < count_at base t). below)
    (λ (from : count_at base t ≤ i). absurd (omega (
      arith,
      from,
      lt,
      edited.reach t,
      slice_none (edits_of tables t).added.rows (i - count_at base t)
          (sym (if_false _ (lookup (nat_eq i) (edits_of tables t).changed) _ (let b : nat_lt i (count_at base t) ≡ false = grind (arith, from) in b)) ∙ none),
    )))
    (cases_lt i (count_at base t))

-- the shown changes are what a store takes
pub made : (base counts : List ℕ) (tables : List EditedTable) (keys : List RowKey) → AreEdited base counts tables → IsStrictlySortedBy row_cmp keys
    → ((t : Table) (i : ℕ) → has_key t i keys ≡ (nat_lt i (count_at counts t) && is_some (changed_at (all_changes base tables) t i)))
    → IsMadeFrom (count_at base) counts (listed_changes (all_changes base tables) keys)
made base counts tables keys edited rising each = record {
  covers = λ t i lt none. not_edited base counts tables edited t i lt (sym (at t i) ∙ sym (if_true _ _ None (lt_nat_true i _ lt)) ∙ sym (shown t i) ∙ none);
  sized = λ t i x is. edited.sized t i x (sym (at t i) ∙ (if_some (nat_lt i (count_at counts t)) (changed_at changes t i) x (sym (shown t i) ∙ is)).1);
  limited = edited.limited;
  within = λ t i some. let found = some_of _ some in nat_lt_true i _ (if_some (nat_lt i (count_at counts t)) (changed_at changes t i) found.0 (sym (shown t i) ∙ found.1)).0;
  rising = subst (λ (ks : List RowKey). IsStrictlySortedBy row_cmp ks) (sym (keys_listed changes keys)) rising;
}
  where
    changes : Changes
    changes = all_changes base tables

    at : (t : Table) (i : ℕ) → changed_at changes t i ≡ edited_at (count_at base t) (edits_of tables t) i
    at t i = at_changes base tables edited.below t i

    shown : (t : Table) (i : ℕ) → changed_at (listed_changes changes keys) t i ≡ shown_at counts changes t i
    shown t i = listed_shown counts changes keys each t i

-- the table of an index
abbrev pub nth_table : ℕ → Table
nth_table n = get_or (table.Blocks ∷ table.Txs ∷ table.TxHeads ∷ table.Outs ∷ table.Ins ∷ table.Scripts ∷ table.ScriptHeads ∷ table.Entries ∷ []) n table.Blocks

pub nth_index : (n : ℕ) → n < 8 → index_of (nth_table n) ≡ n
nth_index n lt = grind (arith, lt)

-- ---- the keys, table by table
-- keys of the first n tables, of those rows that are to be shown
pub record AreListed (counts : List ℕ) (changes : Changes) (n : ℕ) (keys : List RowKey) : Type 0 where
  pub rising : IsStrictlySortedBy row_cmp keys
  pub first : AllByRecursion (λ k. index_of k.table < n) keys
  pub each : (t : Table) (i : ℕ) → has_key t i keys ≡ (nat_lt (index_of t) n && (nat_lt i (count_at counts t) && is_some (changed_at changes t i)))

pub none_listed : (counts : List ℕ) (changes : Changes) → AreListed counts changes 0 []
unfolding IsStrictlySortedBy
none_listed counts changes = record {
  rising = tt;
  first = tt;
  each = λ t i. let b : nat_lt (index_of t) 0 ≡ false = grind arith in sym (ap (λ c. c && (nat_lt i (count_at counts t) && is_some (changed_at changes t i))) b);
}

all_append : {X : Type 0} (P : X → Type 0) (xs ys : List X) → AllByRecursion P xs → AllByRecursion P ys → AllByRecursion P (xs ++ ys)
all_append P [] ys first second = second
all_append P (x ∷ xs) ys first second = (first.0, all_append P xs ys first.1 second)

all_weaker : {X : Type 0} (P Q : X → Type 0) → ((x : X) → P x → Q x) → (xs : List X) → AllByRecursion P xs → AllByRecursion Q xs
all_weaker P Q gives [] all = tt
all_weaker P Q gives (x ∷ xs) all = (gives x all.0, all_weaker P Q gives xs all.1)

all_mapped : {X Y : Type 0} (P : X → Type 0) (Q : Y → Type 0) (f : X → Y) → ((x : X) → P x → Q (f x)) → (xs : List X) → AllByRecursion P xs → AllByRecursion Q (map f xs)
all_mapped P Q f gives [] all = tt
all_mapped P Q f gives (x ∷ xs) all = (gives x all.0, all_mapped P Q f gives xs all.1)

all_keys : (Q : RowKey → Type 0) (t : Table) → ((i : ℕ) → Q (key t i)) → (rows : List ℕ) → AllByRecursion Q (map (key t) rows)
all_keys Q t each [] = tt
all_keys Q t each (i ∷ rows) = (each i, all_keys Q t each rows)

earlier_table : (t u : Table) (i j : ℕ) → index_of t < index_of u → row_cmp (key t i) (key u j) ≡ Less
earlier_table t u i j lt = grind (arith, lt)

earlier_row : (t : Table) (i j : ℕ) → nat_cmp i j ≡ Less → row_cmp (key t i) (key t j) ≡ Less
earlier_row t i j less = let same : nat_cmp (index_of t) (index_of t) ≡ Equal = grind arith in ap (λ o. ordering_then o (nat_cmp i j)) same ∙ less

rising_keys : (t : Table) (rows : List ℕ) → IsStrictlySortedBy nat_cmp rows → IsStrictlySortedBy row_cmp (map (key t) rows)
unfolding IsStrictlySortedBy
rising_keys t [] rising = tt
rising_keys t (i ∷ rows) rising = (all_mapped (λ j. nat_cmp i j ≡ Less) (λ k. row_cmp (key t i) k ≡ Less) (key t) (λ j less. earlier_row t i j less) rows rising.0, rising_keys t rows rising.1)

rising_more : (t : Table) (keys : List RowKey) (rows : List ℕ) → IsStrictlySortedBy row_cmp keys → AllByRecursion (λ k. index_of k.table < index_of t) keys → IsStrictlySortedBy nat_cmp rows → IsStrictlySortedBy row_cmp (keys ++ map (key t) rows)
unfolding IsStrictlySortedBy
rising_more t [] rows rising first more = rising_keys t rows more
rising_more t (k ∷ keys) rows rising first more = (
  all_append (λ y. row_cmp k y ≡ Less) keys (map (key t) rows) rising.0 (all_keys (λ y. row_cmp k y ≡ Less) t (λ i. earlier_table k.table t k.row i first.0) rows),
  rising_more t keys rows rising.1 first.1 more,
)

has_own : (t : Table) (i : ℕ) (rows : List ℕ) → has_key t i (map (key t) rows) ≡ list_any (nat_eq i) rows
has_own t i [] = refl
has_own t i (j ∷ rows) = ap (λ b. b || has_key t i (map (key t) rows)) (same_row t i j) ∙ ap (λ b. nat_eq i j || b) (has_own t i rows)

has_other : (t u : Table) (i : ℕ) (rows : List ℕ) → t ≢ u → has_key t i (map (key u) rows) ≡ false
has_other t u i [] ne = refl
has_other t u i (j ∷ rows) ne = ap (λ b. b || has_key t i (map (key u) rows)) (other_key t u i j (λ e _. ne e)) ∙ has_other t u i rows ne

-- one table more
pub listed_more : (counts : List ℕ) (changes : Changes) (n : ℕ) (keys more : List RowKey) (t : Table) (rows : List ℕ) → AreListed counts changes n keys → index_of t ≡ n → more ≡ keys ++ map (key t) rows → IsStrictlyIncreasing rows
    → ((i : ℕ) → list_any (nat_eq i) rows ≡ (nat_lt i (count_at counts t) && is_some (changed_at changes t i))) → AreListed counts changes (n + 1) more
listed_more counts changes n keys more t rows so_far is more_is rising each = subst (λ (ks : List RowKey). AreListed counts changes (n + 1) ks) (sym more_is) (record {
  rising = rising_more t keys rows so_far.rising (all_weaker (λ k. index_of k.table < n) (λ k. index_of k.table < index_of t) (λ k lt. omega (arith, lt, is)) keys so_far.first) (sorted_from_strictly_increasing rows rising);
  first = all_append (λ k. index_of k.table < n + 1) keys (map (key t) rows) (all_weaker (λ k. index_of k.table < n) (λ k. index_of k.table < n + 1) (λ k lt. omega (arith, lt)) keys so_far.first)
      (all_keys (λ k. index_of k.table < n + 1) t (λ i. omega (arith, is)) rows);
  each = λ u i. list_any-append (is_at (row_cmp (key u i))) keys (map (key t) rows) ∙ ap (λ b. b || has_key u i (map (key t) rows)) (so_far.each u i)
      ∙ ⊎_elim (λ (e : u ≡ t). subst (λ (v : Table). either v i) (sym e) (here i)) (λ (ne : u ≢ t). beside u i ne) (same_table u t);
})
  where
    shows : Table → ℕ → Bool
    shows u i = nat_lt i (count_at counts u) && is_some (changed_at changes u i)

    either : Table → ℕ → Type 0
    either u i = ((nat_lt (index_of u) n && shows u i) || has_key u i (map (key t) rows)) ≡ (nat_lt (index_of u) (n + 1) && shows u i)

    here : (i : ℕ) → either t i
    here i =
        let not_yet : nat_lt (index_of t) n ≡ false = grind (arith, is) in
        let now : nat_lt (index_of t) (n + 1) ≡ true = grind (arith, is) in
        ap (λ b. (b && shows t i) || has_key t i (map (key t) rows)) not_yet ∙ has_own t i rows ∙ each i ∙ sym (ap (λ b. b && shows t i) now)

    or_false : (b : Bool) → (b || false) ≡ b
    or_false true = refl
    or_false false = refl

    beside : (u : Table) (i : ℕ) → u ≢ t → either u i
    beside u i ne =
        let other : index_of u ≢ n = (λ e. ne (same_index u t (e ∙ sym is))) in
        let same : nat_lt (index_of u) n ≡ nat_lt (index_of u) (n + 1) = grind (arith, other) in
        ap (λ b. (nat_lt (index_of u) n && shows u i) || b) (has_other u t i rows ne) ∙ or_false _ ∙ ap (λ b. b && shows u i) same

-- keys of all tables
pub all_listed : (counts : List ℕ) (changes : Changes) (keys : List RowKey) → AreListed counts changes 8 keys → (t : Table) (i : ℕ) → has_key t i keys ≡ (nat_lt i (count_at counts t) && is_some (changed_at changes t i))
all_listed counts changes keys listed t i = let b : nat_lt (index_of t) 8 ≡ true = grind arith in listed.each t i ∙ ap (λ c. c && (nat_lt i (count_at counts t) && is_some (changed_at changes t i))) b

-- ---- the keys of the rows of all tables
-- tables that follow one another from that one on
abbrev pub InTurn : ℕ → List Table → Type 0
InTurn n [] = ⊤
InTurn n (t ∷ ts) = (index_of t ≡ n) × InTurn (n + 1) ts

-- a table more, and those after it
listed_over : (counts : List ℕ) (changes : Changes) (rows : List (List ℕ)) → ((t : Table) → IsStrictlyIncreasing (rows_at rows t))
    → ((t : Table) (i : ℕ) → list_any (nat_eq i) (rows_at rows t) ≡ (nat_lt i (count_at counts t) && is_some (changed_at changes t i)))
    → (ts : List Table) (n : ℕ) (front : List RowKey) → InTurn n ts → AreListed counts changes n front → AreListed counts changes (n + length ts) (front ++ keys_over rows ts)
listed_over counts changes rows rising each [] n front turn so_far =
    subst (λ (k : ℕ). AreListed counts changes k (front ++ [])) (let z : n ≡ n + 0 = omega arith in z) (subst (λ (ks : List RowKey). AreListed counts changes n ks) (sym (append-nil front)) so_far)
listed_over counts changes rows rising each (t ∷ ts) n front turn so_far =
    let here = map (key t) (rows_at rows t) in
    let next = listed_more counts changes n front (front ++ here) t (rows_at rows t) so_far turn.0 refl (rising t) (each t) in
    subst (λ (ks : List RowKey). AreListed counts changes (n + length (t ∷ ts)) ks) (append_assoc front here (keys_over rows ts))
    (subst (λ (k : ℕ). AreListed counts changes k ((front ++ here) ++ keys_over rows ts)) (let z : n + 1 + length ts ≡ n + suc (length ts) = omega arith in z)
    (listed_over counts changes rows rising each ts (n + 1) (front ++ here) turn.1 next))

-- they are those of the shown changes
pub are_shown : (counts : List ℕ) (changes : Changes) (rows : List (List ℕ)) → ((t : Table) → IsStrictlyIncreasing (rows_at rows t))
    → ((t : Table) (i : ℕ) → list_any (nat_eq i) (rows_at rows t) ≡ (nat_lt i (count_at counts t) && is_some (changed_at changes t i)))
    → AreShown counts changes (keys_over rows all_tables)
are_shown counts changes rows rising each =
    let listed = listed_over counts changes rows rising each all_tables 0 [] (refl, (refl, (refl, (refl, (refl, (refl, (refl, (refl, tt)))))))) (none_listed counts changes) in
    record { rising = listed.rising; each = all_listed counts changes (keys_over rows all_tables) listed }

-- the tables from one on
pub tables_from : (n : ℕ) → n < 8 → drop n all_tables ≡ nth_table n ∷ drop (n + 1) all_tables
tables_from zero lt = refl
tables_from (suc zero) lt = refl
tables_from (suc (suc zero)) lt = refl
tables_from (suc (suc (suc zero))) lt = refl
tables_from (suc (suc (suc (suc zero)))) lt = refl
tables_from (suc (suc (suc (suc (suc zero))))) lt = refl
tables_from (suc (suc (suc (suc (suc (suc zero)))))) lt = refl
tables_from (suc (suc (suc (suc (suc (suc (suc zero))))))) lt = refl
tables_from (suc (suc (suc (suc (suc (suc (suc (suc n)))))))) lt = absurd (omega (arith, lt))

-- a key of the first table
pub front_at : (t : Table) (rows : List ℕ) (rest : List RowKey) (i row : ℕ) → slice_get rows i ≡ Some row → slice_get (map (key t) rows ++ rest) i ≡ Some (key t row)
front_at t [] rest i row is = cc
front_at t (x ∷ rows) rest zero row is = let same : x ≡ row = cc in ap (λ (r : ℕ). Some (key t r)) same
front_at t (x ∷ rows) rest (suc i) row is = front_at t rows rest i row is

-- and one behind it
pub back_at : (t : Table) (rows : List ℕ) (rest : List RowKey) (i j : ℕ) → i ≡ length rows + j → slice_get (map (key t) rows ++ rest) i ≡ slice_get rest j
back_at t [] rest i j is = ap (λ (k : ℕ). slice_get rest k) (let e : i ≡ j = omega (arith, is) in e)
back_at t (x ∷ rows) rest zero j is = absurd (omega (arith, is))
back_at t (x ∷ rows) rest (suc i) j is = back_at t rows rest i j (omega (arith, is))

pub keys_long : (t : Table) (rows : List ℕ) (rest : List RowKey) → length (map (key t) rows ++ rest) ≡ length rows + length rest
keys_long t [] rest = omega arith
keys_long t (x ∷ rows) rest = let more = keys_long t rows rest in omega (arith, more)

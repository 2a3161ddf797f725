-- Changed rows, and what their writes make of the files.
use Rattle.std.proofs.Common.{◌≡◌, ◌≢◌, ◌⊎◌, inl, inr, ⊎_elim, ℕ, zero, suc, ◌+◌, ◌-◌, ◌*◌, ◌<◌, ◌≤◌, max, List, [], ◌∷◌, ◌++◌, Bool, true, false, cond, Some, None, Option, length, get_or, drop, map, unwrap_or, refl, sym, ◌∙◌, ap, subst, arith, append-nil}
use Rattle.std.specs.Prelude.{IsSome}
use Rattle.std.specs.List.{AllByRecursion}
use Rattle.std.specs.List.Sorted.{IsStrictlySortedBy}
use Rattle.std.specs.Map.{keys_of}
use Rattle.std.specs.BTreeMap.{is_at}
use Rattle.std.specs.declared.cmp.Ordering.{Ordering}
use Rattle.std.specs.declared.cmp.Ordering.TheVariants.{Less, Equal, Greater}
use Rattle.std.specs.Ordering.{nat_cmp, ordering_then}
use Rattle.std.proofs.lemmas.Bool.{cases_eq, cases_lt}
use Rattle.std.proofs.lemmas.Nat.{mul-le}
use Rattle.std.proofs.lemmas.List.FromFn.{length-map-range_with_len, get_or-map-range_with_len}
use Rattle.el_outside.specs.Disk.{Image, over}
use Rattle.el_outside.proofs.Bytes.{length-over}
use Rattle.el_row_formats.specs.declared.table.Table.{Table}
use Rattle.el_row_formats.specs.declared.table.RowKey.{RowKey}
use Rattle.el_row_formats.specs.declared.table.Table.TheVariants as table
use Rattle.el_row_formats.specs.Tables.{index_of, row_cmp, key, row_at, size_of, limit_of}
use Rattle.el_row_formats.proofs.Keys.{self_key, other_key, same_table, same_index, index_within}
use Rattle.el_rows.specs.Changes.{Changes, changed_at, count_at, under, IsMadeFrom}
use Rattle.el_rows.proofs.UnderLemmas.{is_under}
use Rattle.el_base.proofs.Lists.{all_weaker}
use Rattle.el_redo.proofs.BodyLemmas.{made_fits}
use Rattle.el_redo.proofs.BodyLemmas as body
use Rattle.el_redone.specs.Redone.{Write, overlaid, WritesFit, into, ends}
use Rattle.el_redone.specs.declared.steps.TheConstants.{ROOT}
use Rattle.el_redone.proofs.Writes.{into_here, into_other, into_append, length-overlaid, fits_same}
use Rattle.el_pages.specs.declared.layout.Layout.{Layout}
use Rattle.el_pages.specs.declared.layout.TheConstants.{FORMAT_2}
use Rattle.el_pages.specs.Layouts.{file_of, redo_of, size_in, limit_in, rows_in}
use Rattle.el_pages.specs.Records.{meta_of, write_of, writes_of, IsWhole, Spells}
use Rattle.el_pages.specs.Indexes.{HasCounts, tables_in}
use Rattle.el_page_cache.proofs.Rows.{row_over_here, row_over_other, row_ends}

-- ---- what it means that a key is before another

then_less : (o p : Ordering) → ordering_then o p ≡ Less → (o ≡ Less) ⊎ ((o ≡ Equal) × (p ≡ Less))
then_less Less p h = inl refl
then_less Equal p h = inr (refl, h)
then_less Greater p h = cc

nat_less : (a b : ℕ) → nat_cmp a b ≡ Less → a < b
nat_less a b h = grind (arith, h)

nat_equal : (a b : ℕ) → nat_cmp a b ≡ Equal → a ≡ b
nat_equal a b h = grind (arith, h)

key_before : (a b : RowKey) → row_cmp a b ≡ Less → (index_of a.table < index_of b.table) ⊎ ((index_of a.table ≡ index_of b.table) × (a.row < b.row))
key_before a b h = ⊎_elim
    (λ less. inl (nat_less (index_of a.table) (index_of b.table) less))
    (λ same. inr (nat_equal (index_of a.table) (index_of b.table) same.0, nat_less a.row b.row same.1))
    (then_less (nat_cmp (index_of a.table) (index_of b.table)) (nat_cmp a.row b.row) h)

-- ---- what is found among changes

-- at the front
pub found_first : (e : RowKey × List ℕ) (es : Changes) (t : Table) (i : ℕ) → t ≡ e.0.table → i ≡ e.0.row → changed_at (e ∷ es) t i ≡ Some e.1
found_first e es t i same is =
    ap (λ (b : Bool). cond b (Some e.1) (changed_at es t i))
    (ap (λ (u : Table). is_at (row_cmp (key u i)) e.0) same ∙ ap (λ n. is_at (row_cmp (key e.0.table n)) e.0) is ∙ self_key e.0.table e.0.row)

-- or after it
pub found_later : (e : RowKey × List ℕ) (es : Changes) (t : Table) (i : ℕ) → (t ≡ e.0.table → i ≡ e.0.row → ⊥) → changed_at (e ∷ es) t i ≡ changed_at es t i
found_later e es t i apart = ap (λ (b : Bool). cond b (Some e.1) (changed_at es t i)) (other_key t e.0.table i e.0.row apart)

-- a key that isn't above the first one's isn't found after it
pub none_up_to : (t : Table) (r i : ℕ) (es : Changes) → i ≤ r → AllByRecursion (λ (y : RowKey). row_cmp (key t r) y ≡ Less) (keys_of es) → changed_at es t i ≡ None
none_up_to t r i [] le before = refl
none_up_to t r i (e ∷ es) le before =
    found_later e es t i (λ same is. ⊎_elim
    (λ (lt : index_of t < index_of e.0.table). omega (arith, lt, ap index_of same))
    (λ both. omega (arith, both.1, is, le))
    (key_before (key t r) e.0 before.0))
    ∙ none_up_to t r i es le before.1

none_not_some : (o : Option (List ℕ)) → o ≡ None → IsSome o → ⊥
none_not_some None is some = let e : false ≡ true = some in cc
none_not_some (Some x) is some = cc

some_is : (o : Option (List ℕ)) (x : List ℕ) → o ≡ Some x → IsSome o
some_is o x is = rw is refl

pub none_or_some : (o : Option (List ℕ)) → (o ≡ None) ⊎ IsSome o
none_or_some None = inl refl
none_or_some (Some x) = inr refl

pub other_row : (o : Option (List ℕ)) (x y : List ℕ) → IsSome o → unwrap_or o x ≡ unwrap_or o y
other_row None x y some = absurd (let e : false ≡ true = some in cc)
other_row (Some z) x y some = refl

module _ (l : Layout) (t : Table) where
  abbrev here : Changes → List Write
  here es = into (file_of l t) (map (write_of l) es)

  here_one : (e : RowKey × List ℕ) (es : Changes) → t ≡ e.0.table → here (e ∷ es) ≡ write_of l e ∷ here es
  here_one e es is = into_here (write_of l e) (map (write_of l) es) (file_of l t) (ap (λ (u : Table). file_of l u) (sym is))

  here_other : (e : RowKey × List ℕ) (es : Changes) → t ≢ e.0.table → here (e ∷ es) ≡ here es
  here_other e es ne = into_other (write_of l e) (map (write_of l) es) (file_of l t) (λ is. ne (same_index t e.0.table (omega (arith, is))))

  -- a changed row ends below the end of all
  ends_there : (es : Changes) (i : ℕ) → AllByRecursion (IsWhole l) es → IsSome (changed_at es t i) → i * size_in l t + size_in l t ≤ ends (here es)
  ends_there [] i whole some = absurd (let e : false ≡ true = some in cc)
  ends_there (e ∷ es) i whole some = ⊎_elim
      (λ (same : t ≡ e.0.table).
      let one = here_one e es same in
      let sized : length e.1 ≡ size_in l t = whole.0.sized ∙ ap (λ (u : Table). size_in l u) (sym same) in
      let at : e.0.row * size_in l e.0.table ≡ e.0.row * size_in l t = ap (λ (u : Table). e.0.row * size_in l u) (sym same) in
      ⊎_elim
      (λ (is : i ≡ e.0.row). let row : i * size_in l t ≡ e.0.row * size_in l t = ap (λ n. n * size_in l t) is in omega (arith, ap ends one, sized, at, row))
      (λ (ne : i ≢ e.0.row). let later = ends_there es i whole.1 (subst (λ (o : Option (List ℕ)). IsSome o) (found_later e es t i (λ _ is. ne is)) some) in omega (arith, ap ends one, later))
      (cases_eq i e.0.row))
      (λ ne. subst (λ (w : List Write). i * size_in l t + size_in l t ≤ ends w) (sym (here_other e es ne)) (ends_there es i whole.1 (subst (λ (o : Option (List ℕ)). IsSome o) (found_later e es t i (λ same _. ne same)) some)))
      (same_table t e.0.table)

  -- each changed row begins at most at the file's end then
  pub rows_fit : (es : Changes) (n reach m : ℕ) → IsStrictlySortedBy row_cmp (keys_of es) → AllByRecursion (IsWhole l) es
      → ((i : ℕ) → IsSome (changed_at es t i) → i < n) → ((i : ℕ) → reach ≤ i → i < n → IsSome (changed_at es t i)) → reach * size_in l t ≤ m → WritesFit (here es) m
  unfolding IsStrictlySortedBy
  rows_fit [] n reach m sorted whole within covers le = tt
  rows_fit (e ∷ es) n reach m sorted whole within covers le = ⊎_elim
      (λ (same : t ≡ e.0.table).
      let size = size_in l t in
      let r = e.0.row in
      let after : (i : ℕ) → i ≤ r → changed_at es t i ≡ None = λ i below. none_up_to t r i es below (subst (λ (u : Table). AllByRecursion (λ (y : RowKey). row_cmp (key u r) y ≡ Less) (keys_of es)) (sym same) sorted.0) in
      let few : r < n = within r (some_is (changed_at (e ∷ es) t r) e.1 (found_first e es t r same refl)) in
      let near : r ≤ reach = ⊎_elim
      (λ (lt : reach < r). absurd (none_not_some (changed_at es t reach) (after reach (omega (arith, lt)))
      (subst (λ (o : Option (List ℕ)). IsSome o) (found_later e es t reach (λ _ is. omega (arith, lt, is))) (covers reach (omega arith) (omega (arith, lt, few))))))
      (λ (ge : r ≤ reach). ge)
      (cases_lt reach r) in
      let at : r * size_in l e.0.table ≡ r * size = ap (λ (u : Table). r * size_in l u) (sym same) in
      let sized : length e.1 ≡ size = whole.0.sized ∙ ap (λ (u : Table). size_in l u) (sym same) in
      let begins : r * size ≤ reach * size = mul-le r size reach size near (omega arith) in
      let begins_m : r * size_in l e.0.table ≤ m = omega (arith, at, begins, le) in
      let room : max reach (r + 1) * size ≤ max m (r * size_in l e.0.table + length e.1) = ⊎_elim
      (λ (lt : r < reach). let is : max reach (r + 1) * size ≡ reach * size = ap (λ k. k * size) (let k_is : max reach (r + 1) ≡ reach = omega (arith, lt) in k_is) in omega (arith, is, le))
      (λ (ge : reach ≤ r). let is : max reach (r + 1) * size ≡ r * size + size = ap (λ k. k * size) (let k_is : max reach (r + 1) ≡ r + 1 = omega (arith, ge) in k_is) ∙ (let k_is : (r + 1) * size ≡ r * size + size = omega arith in k_is) in omega (arith, is, at, sized))
      (cases_lt r reach) in
      subst (λ (w : List Write). WritesFit w m) (sym (here_one e es same)) (
        begins_m,
        rows_fit es n (max reach (r + 1)) (max m (r * size_in l e.0.table + length e.1)) sorted.1 whole.1
            (λ i some. ⊎_elim
            (λ (is : i ≡ r). omega (arith, is, few))
            (λ (ne : i ≢ r). within i (subst (λ (o : Option (List ℕ)). IsSome o) (sym (found_later e es t i (λ _ is. ne is))) some))
            (cases_eq i r))
            (λ i ge lt. subst (λ (o : Option (List ℕ)). IsSome o) (found_later e es t i (λ _ is. omega (arith, ge, is))) (covers i (omega (arith, ge)) lt))
            room,
      ))
      (λ ne. subst (λ (w : List Write). WritesFit w m) (sym (here_other e es ne))
      (rows_fit es n reach m sorted.1 whole.1
      (λ i some. within i (subst (λ (o : Option (List ℕ)). IsSome o) (sym (found_later e es t i (λ same _. ne same))) some))
      (λ i ge lt. subst (λ (o : Option (List ℕ)). IsSome o) (found_later e es t i (λ same _. ne same)) (covers i ge lt)) le))
      (same_table t e.0.table)

  -- a row is then the changed one, or the one that was there
  pub row_laid : (es : Changes) (b : List ℕ) (i : ℕ) → IsStrictlySortedBy row_cmp (keys_of es) → AllByRecursion (IsWhole l) es → WritesFit (here es) (length b)
      → (changed_at es t i ≡ None → i * size_in l t + size_in l t ≤ length b)
      → row_at (size_in l t) (overlaid (here es) b) i ≡ unwrap_or (changed_at es t i) (row_at (size_in l t) b i)
  unfolding IsStrictlySortedBy
  row_laid [] b i sorted whole fits within = refl
  row_laid (e ∷ es) b i sorted whole fits within = ⊎_elim
      (λ (same : t ≡ e.0.table).
      let size = size_in l t in
      let r = e.0.row in
      let one = here_one e es same in
      let fit = subst (λ (w : List Write). WritesFit w (length b)) one fits in
      let at : r * size_in l e.0.table ≡ r * size = ap (λ (u : Table). r * size_in l u) (sym same) in
      let sized : length e.1 ≡ size = whole.0.sized ∙ ap (λ (u : Table). size_in l u) (sym same) in
      let begins : r * size ≤ length b = omega (arith, at, fit.0) in
      let c : List ℕ = over b (r * size) e.1 in
      let long : length c ≡ max (length b) (r * size + size) = length-over b (r * size) e.1 begins ∙ ap (λ n. max (length b) (r * size + n)) sized in
      let fit_c : WritesFit (here es) (length c) = fits_same (here es) (max (length b) (r * size_in l e.0.table + length e.1)) (length c) (omega (arith, long, at, sized)) fit.1 in
      let is_c : overlaid (here (e ∷ es)) b ≡ overlaid (here es) c = ap (λ (w : List Write). overlaid w b) one ∙ ap (λ n. overlaid (here es) (over b n e.1)) at in
      ap (λ (f : List ℕ). row_at size f i) is_c ∙
      ⊎_elim
      (λ (is : i ≡ r).
      let row : i * size ≡ r * size = ap (λ n. n * size) is in
      let none : changed_at es t i ≡ None = none_up_to t r i es (omega (arith, is)) (subst (λ (u : Table). AllByRecursion (λ (y : RowKey). row_cmp (key u r) y ≡ Less) (keys_of es)) (sym same) sorted.0) in
      row_laid es c i sorted.1 whole.1 fit_c (λ _. omega (arith, long, row))
      ∙ ap (λ (o : Option (List ℕ)). unwrap_or o (row_at size c i)) none
      ∙ ap (λ n. row_at size (over b (r * size) e.1) n) is ∙ row_over_here size b e.1 r begins sized
      ∙ sym (ap (λ (o : Option (List ℕ)). unwrap_or o (row_at size b i)) (found_first e es t i same is)))
      (λ (ne : i ≢ r).
      let later = found_later e es t i (λ _ is. ne is) in
      row_laid es c i sorted.1 whole.1 fit_c (λ none. let was : i * size + size ≤ length b = within (later ∙ none) in omega (arith, long, was))
      ∙ ⊎_elim
      (λ (none : changed_at es t i ≡ None). ap (λ (o : Option (List ℕ)). unwrap_or o (row_at size c i)) none
      ∙ row_over_other size b e.1 i r ne (within (later ∙ none)) begins sized
      ∙ sym (ap (λ (o : Option (List ℕ)). unwrap_or o (row_at size b i)) none))
      (λ some. other_row (changed_at es t i) (row_at size c i) (row_at size b i) some)
      (none_or_some (changed_at es t i))
      ∙ sym (ap (λ (o : Option (List ℕ)). unwrap_or o (row_at size b i)) later))
      (cases_eq i r))
      (λ ne.
      let later = found_later e es t i (λ same _. ne same) in
      ap (λ (w : List Write). row_at (size_in l t) (overlaid w b) i) (here_other e es ne)
      ∙ row_laid es b i sorted.1 whole.1 (subst (λ (w : List Write). WritesFit w (length b)) (here_other e es ne) fits) (λ none. within (later ∙ none))
      ∙ sym (ap (λ (o : Option (List ℕ)). unwrap_or o (row_at (size_in l t) b i)) later))
      (same_table t e.0.table)

-- ---- so many rows of a file

pub length-rows_in : (size : ℕ) (b : List ℕ) (n : ℕ) → length (rows_in size b n) ≡ n
unfolding rows_in
length-rows_in size b n = length-map-range_with_len (row_at size b) 0 n

pub get_or-rows_in : (size : ℕ) (b : List ℕ) (n i : ℕ) → i < n → get_or (rows_in size b n) i [] ≡ row_at size b i
unfolding rows_in
get_or-rows_in size b n i lt = get_or-map-range_with_len (row_at size b) 0 n i i [] lt (omega arith)

-- ---- which file has what

none_into : (l : Layout) (es : Changes) → into l.first (map (write_of l) es) ≡ []
none_into l [] = refl
none_into l (e ∷ es) = into_other (write_of l e) (map (write_of l) es) l.first (λ is. omega (arith, is)) ∙ none_into l es

-- nothing goes into the root, where it comes after the redo file
rows_spare : (l : Layout) (es : Changes) → redo_of l < ROOT → into ROOT (map (write_of l) es) ≡ []
rows_spare l [] after = refl
rows_spare l (e ∷ es) after = into_other (write_of l e) (map (write_of l) es) ROOT (λ is. omega (arith, is, after, index_within e.0.table)) ∙ rows_spare l es after

pub root_spared : (l : Layout) (body : List ℕ) (ws : List Write) → Spells l body ws → redo_of l < ROOT → into ROOT ws ≡ []
root_spared l body ws spelled after =
    let w : Write = record { file = l.first; at = 0; bytes = spelled.meta } in
    ap (into ROOT) spelled.writes
    ∙ into_append (map (write_of l) spelled.changes) (w ∷ []) ROOT
    ∙ ap (λ (x : List Write). x ++ into ROOT (w ∷ [])) (rows_spare l spelled.changes after)
    ∙ into_other w [] ROOT (λ is. omega (arith, is, after))

-- of format 2
pub sizes_2 : (t : Table) → size_in FORMAT_2 t ≡ size_of t
sizes_2 t = elim t as (λ u. size_in FORMAT_2 u ≡ size_of u) [
  | table.Blocks ↦ refl
  | table.Txs ↦ refl
  | table.TxHeads ↦ refl
  | table.Outs ↦ refl
  | table.Ins ↦ refl
  | table.Scripts ↦ refl
  | table.ScriptHeads ↦ refl
  | table.Entries ↦ refl
]

pub some_size : (t : Table) → 0 < size_in FORMAT_2 t
some_size table.Blocks = omega arith
some_size table.Txs = omega arith
some_size table.TxHeads = omega arith
some_size table.Outs = omega arith
some_size table.Ins = omega arith
some_size table.Scripts = omega arith
some_size table.ScriptHeads = omega arith
some_size table.Entries = omega arith

pub limits_2 : (t : Table) → limit_in FORMAT_2 t ≡ limit_of t
limits_2 t = elim t as (λ u. limit_in FORMAT_2 u ≡ limit_of u) [
  | table.Blocks ↦ refl
  | table.Txs ↦ refl
  | table.TxHeads ↦ refl
  | table.Outs ↦ refl
  | table.Ins ↦ refl
  | table.Scripts ↦ refl
  | table.ScriptHeads ↦ refl
  | table.Entries ↦ refl
]

pub into_meta : (l : Layout) (meta : List ℕ) (es : Changes) → into l.first (writes_of l meta es) ≡ record { file = l.first; at = 0; bytes = meta } ∷ []
into_meta l meta es =
    let w : Write = record { file = l.first; at = 0; bytes = meta } in
    into_append (map (write_of l) es) (w ∷ []) l.first
    ∙ ap (λ (x : List Write). x ++ into l.first (w ∷ [])) (none_into l es)
    ∙ into_here w [] l.first refl

pub into_table : (l : Layout) (meta : List ℕ) (es : Changes) (t : Table) → into (file_of l t) (writes_of l meta es) ≡ here l t es
into_table l meta es t =
    let w : Write = record { file = l.first; at = 0; bytes = meta } in
    into_append (map (write_of l) es) (w ∷ []) (file_of l t)
    ∙ ap (λ (x : List Write). here l t es ++ x) (into_other w [] (file_of l t) (λ is. omega (arith, is)))
    ∙ append-nil (here l t es)

table_at : (k : ℕ) → k < 8 → (t : Table) × (index_of t ≡ k)
table_at zero lt = (table.Blocks, refl)
table_at (suc zero) lt = (table.Txs, refl)
table_at (suc (suc zero)) lt = (table.TxHeads, refl)
table_at (suc (suc (suc zero))) lt = (table.Outs, refl)
table_at (suc (suc (suc (suc zero)))) lt = (table.Ins, refl)
table_at (suc (suc (suc (suc (suc zero))))) lt = (table.Scripts, refl)
table_at (suc (suc (suc (suc (suc (suc zero)))))) lt = (table.ScriptHeads, refl)
table_at (suc (suc (suc (suc (suc (suc (suc zero))))))) lt = (table.Entries, refl)
table_at (suc (suc (suc (suc (suc (suc (suc (suc k)))))))) lt = absurd (omega (arith, lt))

-- each file is the meta file or a table's
pub one_file : (l : Layout) (f : ℕ) → l.first ≤ f → f < l.first + 9 → (f ≡ l.first) ⊎ ((t : Table) × (f ≡ file_of l t))
one_file l f low high = ⊎_elim
    (λ (is : f ≡ l.first). inl is)
    (λ (ne : f ≢ l.first).
    let found = table_at (f - l.first - 1) (omega (arith, low, high, ne)) in
    inr (found.0, (let e : f ≡ l.first + (index_of found.0 + 1) = omega (arith, found.1, low, ne) in e)))
    (cases_eq f l.first)

-- ---- a commit

module _ (l : Layout) (head : List ℕ) (files : Image) (counts new : List ℕ) (changes : Changes)
    (sizes : (t : Table) → size_in l t ≡ size_of t) (limits : (t : Table) → limit_in l t ≡ limit_of t)
    (has : HasCounts l head files counts) (made : IsMadeFrom (count_at counts) new changes) where
  abbrev meta : List ℕ
  meta = meta_of head new

  abbrev after : Image
  after f = overlaid (into f (writes_of l meta changes)) (files f)

  pub whole : AllByRecursion (IsWhole l) changes
  whole = all_weaker body.Fits (IsWhole l) changes (λ e fit. record { sized = fit.sized ∙ sym (sizes e.0.table); small = fit.small }) (made_fits (count_at counts) new changes made)

  held : (t : Table) → count_at counts t * size_in l t ≤ length (files (file_of l t))
  held t = has.holds t

  is_changed : (t : Table) (i : ℕ) → count_at counts t ≤ i → i < count_at new t → IsSome (changed_at changes t i)
  is_changed t i ge lt = ⊎_elim
      (λ none. absurd (let few : i < count_at counts t = made.covers t i lt none in omega (arith, ge, few)))
      (λ some. some)
      (none_or_some (changed_at changes t i))

  fit_here : (t : Table) → WritesFit (here l t changes) (length (files (file_of l t)))
  fit_here t = rows_fit l t changes (count_at new t) (count_at counts t) (length (files (file_of l t))) made.rising whole (made.within t) (is_changed t) (held t)

  -- no write begins after the end of its file
  pub all_fit : (f : ℕ) → l.first ≤ f → f < l.first + 9 → WritesFit (into f (writes_of l meta changes)) (length (files f))
  all_fit f low high = ⊎_elim
      (λ (is : f ≡ l.first). subst (λ g. WritesFit (into g (writes_of l meta changes)) (length (files g))) (sym is)
      (subst (λ (w : List Write). WritesFit w (length (files l.first))) (sym (into_meta l meta changes)) (omega arith, tt)))
      (λ (at : (t : Table) × (f ≡ file_of l t)). subst (λ g. WritesFit (into g (writes_of l meta changes)) (length (files g))) (sym at.1)
      (subst (λ (w : List Write). WritesFit w (length (files (file_of l at.0)))) (sym (into_table l meta changes at.0)) (fit_here at.0)))
      (one_file l f low high)

  after_here : (t : Table) → after (file_of l t) ≡ overlaid (here l t changes) (files (file_of l t))
  after_here t = ap (λ (w : List Write). overlaid w (files (file_of l t))) (into_table l meta changes t)

  long_after : (t : Table) → length (after (file_of l t)) ≡ max (length (files (file_of l t))) (ends (here l t changes))
  long_after t = ap (λ (b : List ℕ). length b) (after_here t) ∙ length-overlaid (here l t changes) (files (file_of l t)) (fit_here t)

  -- the files then have the new counts
  pub has_after : HasCounts l head after new
  has_after = record {
    rest = drop (0 + length meta) (files l.first);
    meta = ap (λ (w : List Write). overlaid w (files l.first)) (into_meta l meta changes);
    limited = λ t. subst (λ n. count_at new t ≤ n) (sym (limits t)) (made.limited t);
    holds = λ t. ⊎_elim
        (λ (few : count_at counts t < count_at new t).
        let last : ℕ = count_at new t - 1 in
        let end = ends_there l t changes last whole (is_changed t last (omega (arith, few)) (omega (arith, few))) in
        let is : count_at new t * size_in l t ≡ last * size_in l t + size_in l t = ap (λ n. n * size_in l t) (let e : count_at new t ≡ last + 1 = omega (arith, few) in e) ∙ (let e : (last + 1) * size_in l t ≡ last * size_in l t + size_in l t = omega arith in e) in
        omega (arith, end, is, long_after t))
        (λ (le : count_at new t ≤ count_at counts t).
        let less : count_at new t * size_in l t ≤ count_at counts t * size_in l t = mul-le (count_at new t) (size_in l t) (count_at counts t) (size_in l t) le (omega arith) in
        omega (arith, less, held t, long_after t))
        (cases_lt (count_at counts t) (count_at new t));
  }

  -- and the new tables
  pub tables_after : (t : Table) → tables_in l after new t ≡ under (tables_in l files counts) new changes t
  tables_after t = sym (is_under (tables_in l files counts) new changes t (tables_in l after new t)
      (length-rows_in (size_in l t) (after (file_of l t)) (count_at new t))
      (λ i lt.
      let size = size_in l t in
      get_or-rows_in size (after (file_of l t)) (count_at new t) i lt
      ∙ ap (λ (b : List ℕ). row_at size b i) (after_here t)
      ∙ row_laid l t changes (files (file_of l t)) i made.rising whole (fit_here t)
      (λ none. let few : i < count_at counts t = made.covers t i lt none in let ends_at = row_ends size i (count_at counts t) few in omega (arith, ends_at, held t))
      ∙ ⊎_elim
      (λ (none : changed_at changes t i ≡ None). ap (λ (o : Option (List ℕ)). unwrap_or o (row_at size (files (file_of l t)) i)) none
      ∙ sym (get_or-rows_in size (files (file_of l t)) (count_at counts t) i (made.covers t i lt none))
      ∙ sym (ap (λ (o : Option (List ℕ)). unwrap_or o (get_or (tables_in l files counts t) i [])) none))
      (λ some. other_row (changed_at changes t i) (row_at size (files (file_of l t)) i) (get_or (tables_in l files counts t) i []) some)
      (none_or_some (changed_at changes t i))))

-- rows are small
pub small_size : (t : Table) → size_of t ≤ 116
small_size t = elim t as (λ u. size_of u ≤ 116) [
  | table.Blocks ↦ omega arith
  | table.Txs ↦ omega arith
  | table.TxHeads ↦ omega arith
  | table.Outs ↦ omega arith
  | table.Ins ↦ omega arith
  | table.Scripts ↦ omega arith
  | table.ScriptHeads ↦ omega arith
  | table.Entries ↦ omega arith
]

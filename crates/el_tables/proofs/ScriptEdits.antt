-- The rows after `add_entry` and `take_back_entry`.
use Rattle.std.proofs.Common.{◌≡◌, inl, inr, ℕ, suc, ◌+◌, ◌-◌, ◌<◌, ◌==◌, Bool, true, false, cond, is_some, List, [], ◌∷◌, ◌++◌, length, filter, take, set, get_or, Option, None, Some, refl, ap, ap₂, sym, ◌∙◌, arith, eq-eqb, ne_eqb}
use Rattle.std.proofs.lemmas.Bool.{cases_Bool}
use Rattle.std.proofs.lemmas.List.{take_at, take-append-le}
use Rattle.std.specs.Option.{option_or}
use Rattle.std.specs.List.{list_any}
use Rattle.el_base.specs.declared.hash.Hash32.{Hash32}
use Rattle.el_chain.specs.RowCounts.{is_script_among, add_script}
use Rattle.el_tables.specs.Lists.{ListedEntry, Lists, script_number, is_of_script, last_tx_of, is_tx, append_entry, add_entry, balance_of}
use Rattle.el_tables.specs.ChainLists.{ListedBlock}
use Rattle.el_tables.specs.Disconnecting.{but_last, last, take_back_entry}
use Rattle.el_tables.specs.Tables.{ScriptRow, EntryRow, HeadCounts, bucket_in, greatest_from, greatest, rows_from, heads, script_row, entry_row, tables_of}
use Rattle.el_tables.specs.Edits.{no_row, row_of, head_of, set_head, script_added, entered, entry_added, left, entry_left, script_dropped, entry_by, entry_dropped, tx_of_last}
use Rattle.el_tables.proofs.Outputs.{from_front}
use Rattle.el_tables.proofs.Scripts.{number_next, number_within}
use Rattle.el_tables.proofs.TakeBack.{but_last_is, last_is}
use Rattle.el_tables.proofs.OlderWalks.{greatest_more}
use Rattle.el_tables.proofs.RowLists.{rows_change, rows_grown, rows_at, length_rows, head_is, heads_more, heads_less}

-- 1. Entries of a script

none_some : {X : Type 0} (x : X) → None ≡ Some x → ⊥
none_some x e = cc

any_from : {X : Type 0} (n : ℕ) (test : X → Bool) (xs : List X) → list_any test xs ≡ is_some (greatest_from n test xs)
any_from n test [] = refl
any_from n test (x ∷ xs) = let rest = any_from (n + 1) test xs in elim (cases_Bool (test x)) [
  | inl h ↦ rw h (by (greatest_from (n + 1) test xs))
  | inr h ↦ rw (h, rest) (on (greatest_from (n + 1) test xs))
]
  where
    by : (r : Option ℕ) → true ≡ is_some (option_or r (Some n))
    by None = refl
    by (Some k) = refl

    on : (r : Option ℕ) → is_some r ≡ is_some (option_or r None)
    on None = refl
    on (Some k) = refl

pub count_more : {X : Type 0} (test : X → Bool) (xs : List X) (x : X) → length (filter test (xs ++ x ∷ [])) ≡ length (filter test xs) + cond (test x) 1 0
count_more test [] x = elim (cases_Bool (test x)) [
  | inl h ↦ rw h refl
  | inr h ↦ rw h refl
]
count_more test (y ∷ ys) x = let rest = count_more test ys x in elim (cases_Bool (test y)) [
  | inl h ↦ rw h (let e : suc (length (filter test (ys ++ x ∷ []))) ≡ suc (length (filter test ys)) + cond (test x) 1 0 = omega arith in e)
  | inr h ↦ rw h rest
]

last_other : (i : ℕ) (es : List ListedEntry) (e : ListedEntry) → (e.script ≡ i → ⊥) → greatest (is_of_script i) (es ++ e ∷ []) ≡ greatest (is_of_script i) es
last_other i es e other = let apart = ne_eqb e.script i other in greatest_more 0 (length es) (is_of_script i) es e (omega arith) ∙ rw apart refl

last_own : (es : List ListedEntry) (e : ListedEntry) → greatest (is_of_script e.script) (es ++ e ∷ []) ≡ Some (length es)
last_own es e = let self = eq-eqb e.script e.script refl in greatest_more 0 (length es) (is_of_script e.script) es e (omega arith) ∙ rw self refl

count_other : (i : ℕ) (es : List ListedEntry) (e : ListedEntry) → (e.script ≡ i → ⊥) → length (filter (is_of_script i) (es ++ e ∷ [])) ≡ length (filter (is_of_script i) es)
count_other i es e other =
    let apart = ne_eqb e.script i other in
    let n = length (filter (is_of_script i) es) in
    let none : n + 0 ≡ n = omega arith in
    count_more (is_of_script i) es e ∙ rw apart none

count_own : (es : List ListedEntry) (e : ListedEntry) → length (filter (is_of_script e.script) (es ++ e ∷ [])) ≡ length (filter (is_of_script e.script) es) + 1
count_own es e = let self = eq-eqb e.script e.script refl in count_more (is_of_script e.script) es e ∙ rw self refl

none_of : (n : ℕ) (es : List ListedEntry) → list_any (is_of_script n) es ≡ false → length (filter (is_of_script n) es) ≡ 0
none_of n [] none = refl
none_of n (e ∷ es) none = elim (cases_Bool (is_of_script n e)) [
  | inl h ↦ let wrong = rw h at none in absurd (yes_no wrong)
  | inr h ↦ let rest = rw h at none in rw h (none_of n es rest)
]
  where
    yes_no : true ≡ false → ⊥
    yes_no q = cc

no_last : (n : ℕ) (es : List ListedEntry) → list_any (is_of_script n) es ≡ false → greatest (is_of_script n) es ≡ None
no_last n es none = by (greatest (is_of_script n) es) (sym (any_from 0 (is_of_script n) es) ∙ none)
  where
    by : (r : Option ℕ) → is_some r ≡ false → r ≡ None
    by None h = refl
    by (Some k) h = absurd (yes_no h)
      where
        yes_no : true ≡ false → ⊥
        yes_no q = cc

-- the transaction of a script's last entry is that of the row that the script's `last` names
pub last_entry_is : (d : ListedEntry) (n : ℕ) (es : List ListedEntry) → last_tx_of n es ≡ tx_of_last d es (greatest (is_of_script n) es)
last_entry_is d n es = go 0 es es (λ k lt. let a : 0 + k ≡ k = omega arith in ap (λ (i : ℕ). get_or es i d) a)
  where
    go : (m : ℕ) (all rest : List ListedEntry) → ((k : ℕ) → k < length rest → get_or all (m + k) d ≡ get_or rest k d)
        → last_tx_of n rest ≡ tx_of_last d all (greatest_from m (is_of_script n) rest)
    go m all [] at = refl
    go m all (e ∷ rest) at =
        let next = go (m + 1) all rest (λ k lt. let a : m + 1 + k ≡ m + suc k = omega arith in ap (λ (i : ℕ). get_or all i d) a ∙ at (suc k) (omega arith)) in
        let zero_m : m + 0 ≡ m = omega arith in
        let here : get_or all m d ≡ e = ap (λ (i : ℕ). get_or all i d) (sym zero_m) ∙ at 0 (omega arith) in
        elim (cases_Bool (is_of_script n e)) [
          | inl h ↦ rw (h, next) (with_one (greatest_from (m + 1) (is_of_script n) rest) m all e here)
          | inr h ↦ rw (h, next) (with_none (greatest_from (m + 1) (is_of_script n) rest) all)
        ]
      where
        with_one : (r : Option ℕ) (m : ℕ) (all : List ListedEntry) (e : ListedEntry) → get_or all m d ≡ e
            → option_or (tx_of_last d all r) (Some e.tx) ≡ tx_of_last d all (option_or r (Some m))
        with_one None m all e here = ap (λ (x : ListedEntry). Some x.tx) (sym here)
        with_one (Some k) m all e here = refl

        with_none : (r : Option ℕ) (all : List ListedEntry) → option_or (tx_of_last d all r) None ≡ tx_of_last d all (option_or r None)
        with_none None all = refl
        with_none (Some k) all = refl

pub no_last_tx : (n : ℕ) (es : List ListedEntry) → list_any (is_of_script n) es ≡ false → last_tx_of n es ≡ None
no_last_tx n es none = let d : ListedEntry = record { tx = 0; script = 0 } in last_entry_is d n es ∙ ap (tx_of_last d es) (no_last n es none)

-- 2. Rows of entries

entries_grown : (es : List ListedEntry) (e : ListedEntry)
    → rows_from (entry_row (es ++ e ∷ [])) 0 (es ++ e ∷ []) ≡ rows_from (entry_row es) 0 es ++ record { listed = e; before = greatest (is_of_script e.script) es } ∷ []
entries_grown es e = rows_grown (entry_row es) (entry_row (es ++ e ∷ [])) es e _ same new
  where
    same : (i : ℕ) (x : ListedEntry) → i < length es → entry_row (es ++ e ∷ []) i x ≡ entry_row es i x
    same i x lt = let front = take-append-le i es (e ∷ []) (omega arith) in rw front refl

    new : entry_row (es ++ e ∷ []) (length es) e ≡ record { listed = e; before = greatest (is_of_script e.script) es }
    new = let front = take_at es (e ∷ []) (length es) refl in rw front refl

-- 3. Rows of scripts

-- the row, by its parts
abbrev row_with : Hash32 → Option ℕ → ℕ → Option ℕ → ℕ → ScriptRow
row_with s last entries next balance = record { script = s; next = next; last = last; entries = entries; balance = balance }

-- an entry of another script leaves a row
other_row : (c i : ℕ) (s : Hash32) (l : Lists) (e : ListedEntry) → (e.script ≡ i → ⊥)
    → script_row c (record l { entries = l.entries ++ e ∷ [] }) i s ≡ script_row c l i s
other_row c i s l e other =
    let ls = last_other i l.entries e other in
    let cs = count_other i l.entries e other in
    ap₂ (λ (a : Option ℕ) (n : ℕ). row_with s a n (script_row c l i s).next (script_row c l i s).balance) ls cs

-- one of its own is its last
own_row : (c : ℕ) (s : Hash32) (l : Lists) (e : ListedEntry)
    → script_row c (record l { entries = l.entries ++ e ∷ [] }) e.script s ≡ entered (length l.entries) (script_row c l e.script s)
own_row c s l e =
    ap₂ (λ (a : Option ℕ) (n : ℕ). row_with s a n (script_row c l e.script s).next (script_row c l e.script s).balance) (last_own l.entries e) (count_own l.entries e)

-- a script after others leaves their rows
front_row : (c i : ℕ) (s t : Hash32) (ss : List Hash32) (l : Lists) → i < length ss
    → script_row c (record l { scripts = ss ++ t ∷ [] }) i s ≡ script_row c (record l { scripts = ss }) i s
front_row c i s t ss l lt = let front = take-append-le i ss (t ∷ []) (omega arith) in rw front refl

-- 4. A new script

pub touch_new : (l : Lists) (s : Hash32) (tx : ℕ) → is_script_among s l.scripts ≡ false → list_any (is_of_script (length l.scripts)) l.entries ≡ false
    → add_entry s tx l ≡ record l { scripts = l.scripts ++ s ∷ []; entries = l.entries ++ record { tx = tx; script = length l.scripts } ∷ [] }
touch_new l s tx new none =
    let n = length l.scripts in
    let number = number_next s l.scripts new in
    let e : ListedEntry = record { tx = tx; script = n } in
    let last : last_tx_of n l.entries ≡ None = no_last_tx n l.entries none in
    let once : add_script s l.scripts ≡ l.scripts ++ s ∷ [] = rw new refl in
    let added : append_entry tx n l.entries ≡ l.entries ++ e ∷ [] = rw last refl in
    ap₂ (λ (a : List Hash32) (b : List ListedEntry). record l { scripts = a; entries = b }) once (ap (λ (k : ℕ). append_entry tx k l.entries) number ∙ added)

pub touch_new_rows : (counts : HeadCounts) (bs : List ListedBlock) (l : Lists) (s : Hash32) (tx : ℕ) → 0 < counts.scripts
    → is_script_among s l.scripts ≡ false → list_any (is_of_script (length l.scripts)) l.entries ≡ false → balance_of (length l.scripts) l.outs ≡ 0
    → tables_of counts bs (add_entry s tx l) ≡ script_added s tx (tables_of counts bs l)
touch_new_rows counts bs l s tx some new none empty =
    let c = counts.scripts in
    let n = length l.scripts in
    let e : ListedEntry = record { tx = tx; script = n } in
    let m : Lists = record l { scripts = l.scripts ++ s ∷ []; entries = l.entries ++ e ∷ [] } in
    let tb = tables_of counts bs l in
    let head = head_is c (λ (h : Hash32). h) l.scripts s some in
    let long_entries = length_rows (entry_row l.entries) 0 l.entries in
    let long_scripts = length_rows (script_row c l) 0 l.scripts in
    let row : ScriptRow = record { script = s; next = head_of s tb.script_heads; last = Some (length tb.entries); entries = 1; balance = 0 } in
    let same : (i : ℕ) (x : Hash32) → i < n → script_row c m i x ≡ script_row c l i x =
    λ i x lt. front_row c i x s l.scripts (record l { entries = l.entries ++ e ∷ [] }) lt ∙ other_row c i x l e (λ q. omega arith) in
    let front = take_at l.scripts (s ∷ []) n refl in
    let count = none_of n l.entries none in
    let counted : length (filter (is_of_script n) l.entries) + 1 ≡ 1 = omega arith in
    let nexts : greatest (λ u. bucket_in c u == bucket_in c s) (take n (l.scripts ++ s ∷ [])) ≡ head_of s tb.script_heads =
    ap (greatest (λ u. bucket_in c u == bucket_in c s)) front ∙ sym head in
    let mine : script_row c m n s ≡ row =
    ap (λ (o : Option ℕ). record (script_row c m n s) { next = o }) nexts
    ∙ ap₂ (λ (a : Option ℕ) (k : ℕ). row_with s a k (head_of s tb.script_heads) (balance_of n l.outs))
    (last_own l.entries e ∙ ap (λ (k : ℕ). Some k) (sym long_entries)) (count_own l.entries e ∙ counted)
    ∙ ap (row_with s (Some (length tb.entries)) 1 (head_of s tb.script_heads)) empty in
    let scripts = rows_grown (script_row c l) (script_row c m) l.scripts s row same mine in
    let lasts = no_last n l.entries none in
    let entries : rows_from (entry_row m.entries) 0 m.entries ≡ tb.entries ++ record { listed = record { tx = tx; script = length tb.scripts }; before = None } ∷ [] =
    entries_grown l.entries e
    ∙ ap₂ (λ (o : Option ℕ) (k : ℕ). tb.entries ++ record { listed = record { tx = tx; script = k }; before = o } ∷ []) lasts (sym long_scripts) in
    let hs : heads c (λ (h : Hash32). h) m.scripts ≡ set_head s (Some (length tb.scripts)) tb.script_heads =
    heads_more c (λ (h : Hash32). h) l.scripts s ∙ ap (λ (k : ℕ). set_head s (Some k) tb.script_heads) (sym long_scripts) in
    ap (tables_of counts bs) (touch_new l s tx new none)
    ∙ ap₂ (λ (a : List ScriptRow) (b : List (Option ℕ)). record (tables_of counts bs m) { scripts = a; script_heads = b }) scripts hs
    ∙ ap (λ (a : List EntryRow). record (script_added s tx tb) { entries = a }) entries

-- 5. A script that is there

pub touch_known_rows : (counts : HeadCounts) (bs : List ListedBlock) (l : Lists) (s : Hash32) (tx : ℕ)
    → is_script_among s l.scripts ≡ true → is_tx tx (last_tx_of (script_number s l.scripts) l.entries) ≡ false
    → tables_of counts bs (add_entry s tx l) ≡ entry_added (script_number s l.scripts) tx (tables_of counts bs l)
touch_known_rows counts bs l s tx known fresh =
    let c = counts.scripts in
    let n = script_number s l.scripts in
    let lt = number_within s l.scripts known in
    let e : ListedEntry = record { tx = tx; script = n } in
    let m : Lists = record l { entries = l.entries ++ e ∷ [] } in
    let tb = tables_of counts bs l in
    let once : add_script s l.scripts ≡ l.scripts = rw known refl in
    let added : append_entry tx n l.entries ≡ l.entries ++ e ∷ [] = rw fresh refl in
    let is : add_entry s tx l ≡ m = ap₂ (λ (a : List Hash32) (b : List ListedEntry). record l { scripts = a; entries = b }) once added in
    let long = length_rows (entry_row l.entries) 0 l.entries in
    let scripts = rows_change (script_row c l) (script_row c m) (entered (length l.entries)) no_row 0 n n l.scripts (omega arith)
    (λ i x other. other_row c i x l e (λ q. other (sym q))) (λ x. own_row c x l e) in
    let at = rows_at (script_row c l) no_row s 0 n n l.scripts (omega arith) lt in
    let before : (row_of n tb).last ≡ greatest (is_of_script n) l.entries = ap (λ (r : ScriptRow). r.last) at in
    let entries = entries_grown l.entries e ∙ ap (λ (o : Option ℕ). tb.entries ++ record { listed = e; before = o } ∷ []) (sym before) in
    ap (tables_of counts bs) is
    ∙ ap₂ (λ (a : List ScriptRow) (b : List EntryRow). record tb { scripts = a; entries = b })
    (scripts ∙ ap (λ (k : ℕ). set tb.scripts n (entered k (row_of n tb))) (sym long)) entries

pub touch_again : (l : Lists) (s : Hash32) (tx : ℕ) → is_script_among s l.scripts ≡ true → is_tx tx (last_tx_of (script_number s l.scripts) l.entries) ≡ true → add_entry s tx l ≡ l
touch_again l s tx known old =
    let once : add_script s l.scripts ≡ l.scripts = rw known refl in
    let added : append_entry tx (script_number s l.scripts) l.entries ≡ l.entries = rw old refl in
    ap₂ (λ (a : List Hash32) (b : List ListedEntry). record l { scripts = a; entries = b }) once added

-- 6. The last entry is taken back

-- where the script has no entry before, it is the last script
abbrev pub IsLastFirst : List Hash32 → List ListedEntry → Type 0
IsLastFirst scripts entries = (es : List ListedEntry) (e : ListedEntry) → entries ≡ es ++ e ∷ [] → list_any (is_of_script e.script) es ≡ false → e.script + 1 ≡ length scripts

back_stays : (counts : HeadCounts) (bs : List ListedBlock) (l : Lists) (es : List ListedEntry) (e : ListedEntry) (k : ℕ) → greatest (is_of_script e.script) es ≡ Some k
    → tables_of counts bs (record l { entries = es })
    ≡ entry_left (record { listed = e; before = greatest (is_of_script e.script) es }) (tables_of counts bs (record l { entries = es ++ e ∷ [] }))
back_stays counts bs l es e k found =
    let c = counts.scripts in
    let old : Lists = record l { entries = es ++ e ∷ [] } in
    let new : Lists = record l { entries = es } in
    let before = greatest (is_of_script e.script) es in
    let row : EntryRow = record { listed = e; before = before } in
    let back = ap but_last (entries_grown es e) ∙ but_last_is (rows_from (entry_row es) 0 es) row in
    let less : (x : Hash32) → script_row c new e.script x ≡ left before (script_row c old e.script x) =
    λ x. let more = count_own es e in
    let one : length (filter (is_of_script e.script) es) ≡ length (filter (is_of_script e.script) (es ++ e ∷ [])) - 1 = omega arith in
    ap (λ (n : ℕ). row_with x before n (script_row c old e.script x).next (script_row c old e.script x).balance) one in
    let scripts = rows_change (script_row c old) (script_row c new) (left before) no_row 0 e.script e.script l.scripts (omega arith)
    (λ i x other. sym (other_row c i x new e (λ q. other (sym q)))) less in
    ap₂ (λ (a : List ScriptRow) (b : List EntryRow). record (tables_of counts bs old) { scripts = a; entries = b }) scripts (sym back)

back_goes : (counts : HeadCounts) (bs : List ListedBlock) (l : Lists) (ss : List Hash32) (s : Hash32) (es : List ListedEntry) (e : ListedEntry) → e.script ≡ length ss
    → tables_of counts bs (record l { scripts = ss; entries = es })
    ≡ script_dropped (last (tables_of counts bs (record l { scripts = ss ++ s ∷ []; entries = es ++ e ∷ [] })).scripts)
    (tables_of counts bs (record l { scripts = ss ++ s ∷ []; entries = es ++ e ∷ [] }))
back_goes counts bs l ss s es e own =
    let c = counts.scripts in
    let old : Lists = record l { scripts = ss ++ s ∷ []; entries = es ++ e ∷ [] } in
    let new : Lists = record l { scripts = ss; entries = es } in
    let tb = tables_of counts bs old in
    let row : EntryRow = record { listed = e; before = greatest (is_of_script e.script) es } in
    let back = ap but_last (entries_grown es e) ∙ but_last_is (rows_from (entry_row es) 0 es) row in
    let gone = script_row c old (length ss) s in
    let same : (i : ℕ) (x : Hash32) → i < length ss → script_row c old i x ≡ script_row c new i x =
    λ i x lt. front_row c i x s ss (record l { entries = es ++ e ∷ [] }) lt ∙ other_row c i x new e (λ q. omega arith) in
    let grown = rows_grown (script_row c new) (script_row c old) ss s gone same refl in
    let scripts = ap but_last grown ∙ but_last_is (rows_from (script_row c new) 0 ss) gone in
    let found = ap last grown ∙ last_is (rows_from (script_row c new) 0 ss) gone in
    let front = take_at ss (s ∷ []) (length ss) refl in
    let next : gone.next ≡ greatest (λ u. bucket_in c u == bucket_in c s) ss = ap (greatest (λ u. bucket_in c u == bucket_in c s)) front in
    let hs = heads_less c (λ (h : Hash32). h) ss s ∙ ap (λ (o : Option ℕ). set_head s o tb.script_heads) (sym next) in
    ap₂ (λ (a : List ScriptRow) (b : List (Option ℕ)). record (tables_of counts bs new) { scripts = a; script_heads = b }) (sym scripts) hs
    ∙ ap (λ (b : List EntryRow). record tb { scripts = but_last tb.scripts; script_heads = set_head s gone.next tb.script_heads; entries = b }) (sym back)
    ∙ ap (λ (r : Option ScriptRow). script_dropped r tb) (sym found)

abbrev BackBy : HeadCounts → List ListedBlock → Lists → Type 0
BackBy counts bs l = tables_of counts bs (take_back_entry l) ≡ entry_dropped (last (tables_of counts bs l).entries) (tables_of counts bs l)

back_by : (counts : HeadCounts) (bs : List ListedBlock) (l : Lists) (ss : List Hash32) (es : List ListedEntry) (e : ListedEntry) (r : Option ℕ)
    → greatest (is_of_script e.script) es ≡ r → IsLastFirst ss (es ++ e ∷ []) → BackBy counts bs (record l { scripts = ss; entries = es ++ e ∷ [] })
back_by counts bs l ss es e (Some k) found fits =
    let old : Lists = record l { scripts = ss; entries = es ++ e ∷ [] } in
    let tb = tables_of counts bs old in
    let row : EntryRow = record { listed = e; before = greatest (is_of_script e.script) es } in
    let there : list_any (is_of_script e.script) es ≡ true = any_from 0 (is_of_script e.script) es ∙ ap is_some found in
    let taken : take_back_entry old ≡ record l { scripts = ss; entries = es } =
    let a = last_is es e in let b = but_last_is es e in rw (a, b, there) refl in
    let lasts = ap last (entries_grown es e) ∙ last_is (rows_from (entry_row es) 0 es) row in
    ap (tables_of counts bs) taken ∙ back_stays counts bs (record l { scripts = ss }) es e k found
    ∙ ap (λ (o : Option ℕ). entry_by o row tb) (sym found) ∙ ap (λ (o : Option EntryRow). entry_dropped o tb) (sym lasts)
back_by counts bs l ss es e None found fits = from_front
    (λ (us : List Hash32). e.script + 1 ≡ length us → BackBy counts bs (record l { scripts = us; entries = es ++ e ∷ [] }))
    (λ at. absurd (omega arith)) (λ us u before at. goes us u at) ss (fits es e refl none)
  where
    none : list_any (is_of_script e.script) es ≡ false
    none = any_from 0 (is_of_script e.script) es ∙ ap is_some found

    goes : (us : List Hash32) (u : Hash32) → e.script + 1 ≡ length (us ++ u ∷ []) → BackBy counts bs (record l { scripts = us ++ u ∷ []; entries = es ++ e ∷ [] })
    goes us u at =
        let long = Rattle.std.proofs.Common.length-append us (u ∷ []) in
        let old : Lists = record l { scripts = us ++ u ∷ []; entries = es ++ e ∷ [] } in
        let tb = tables_of counts bs old in
        let row : EntryRow = record { listed = e; before = greatest (is_of_script e.script) es } in
        let taken : take_back_entry old ≡ record l { scripts = us; entries = es } =
        let a = last_is es e in let b = but_last_is es e in let c = but_last_is us u in let n = none in rw (a, b, n, c) refl in
        let lasts = ap last (entries_grown es e) ∙ last_is (rows_from (entry_row es) 0 es) row in
        ap (tables_of counts bs) taken ∙ back_goes counts bs l us u es e (omega arith)
        ∙ ap (λ (o : Option ℕ). entry_by o row tb) (sym found) ∙ ap (λ (o : Option EntryRow). entry_dropped o tb) (sym lasts)

pub take_back_entry_rows : (counts : HeadCounts) (bs : List ListedBlock) (l : Lists) → IsLastFirst l.scripts l.entries
    → tables_of counts bs (take_back_entry l) ≡ entry_dropped (last (tables_of counts bs l).entries) (tables_of counts bs l)
take_back_entry_rows counts bs l fits = from_front (λ (es : List ListedEntry). IsLastFirst l.scripts es → BackBy counts bs (record l { entries = es }))
    (λ f. refl) (λ es e before f. back_by counts bs l l.scripts es e (greatest (is_of_script e.script) es) refl f) l.entries fits

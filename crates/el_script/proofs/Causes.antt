-- The number of a script, and when a table has no place for a row.
use Rattle.std.proofs.Common.{◌≡◌, inl, inr, ℕ, zero, suc, ◌+◌, ◌<◌, ◌≤◌, Bool, true, false, List, [], ◌∷◌, ◌++◌, length, get_or, if◌then◌else◌, Option, None, Some, refl, ap, ap₂, sym, ◌∙◌, arith, length-append}
use Rattle.std.specs.Option.{option_or}
use Rattle.std.proofs.lemmas.Bool.{cases_Bool, lt-ltb, le-ltb, or_left, or_right}
use Rattle.el_base.specs.declared.hash.Hash32.{Hash32}
use Rattle.el_chain.specs.Chains.{zero_hash}
use Rattle.el_chain.specs.Faults.{full}
use Rattle.el_chain.specs.Headers.{same_hash}
use Rattle.el_chain.specs.RowCounts.{row_limit, is_script_among}
use Rattle.el_chain.specs.declared.fault.ConnectFault.{ConnectFault}
use Rattle.el_chain.specs.declared.fault.ConnectFault.TheVariants as connect
use Rattle.el_tables.specs.ChainLists.{ListedBlock}
use Rattle.el_tables.specs.Fits.{Fits, Once}
use Rattle.el_tables.specs.Lists.{ListedEntry, Lists, add_entry, script_number, is_tx, last_tx_of}
use Rattle.el_tables.specs.Tables.{HeadCounts}
use Rattle.el_tables.proofs.FitLemmas.{new_has_no_entry, script_found}
use Rattle.el_tables.proofs.ScriptEdits.{touch_new}
use Rattle.el_tables.proofs.Scripts.{hash_from, hash_gives, number_at}
use Rattle.el_row_formats.specs.Tables as held
use Rattle.el_row_formats.specs.Tables.{limit_of}
use Rattle.el_row_formats.specs.declared.table.Table.TheVariants as table
use Rattle.el_buckets.specs.Faults.{NotAdded}
use Rattle.el_schema.specs.Rows.{Hold}
use Rattle.el_buckets.specs.Buckets.{newest_of}
use Rattle.el_script.specs.Touches.{touch_full}
use Rattle.el_script.specs.within.RowSteps.{IsEntryFault, IsScriptFault}
use Rattle.el_script.proofs.ScriptSteps.{many_scripts, many_entries}

-- 1. Numbers

-- the script hash of a number is there
pub hash_there : (n : ℕ) (ss : List Hash32) → n < length ss → is_script_among (get_or ss n zero_hash) ss ≡ true
hash_there n [] lt = absurd (omega arith)
hash_there zero (s ∷ ss) lt = or_left (same_hash s s) (is_script_among s ss) (hash_from s s refl)
hash_there (suc n) (s ∷ ss) lt = or_right (same_hash s (get_or ss n zero_hash)) (is_script_among (get_or ss n zero_hash) ss) (hash_there n ss (omega arith))

-- and has that number where each stands once
pub hash_number : (n : ℕ) (ss : List Hash32) → Once ss → n < length ss → n ≡ script_number (get_or ss n zero_hash) ss
hash_number n [] once lt = absurd (omega arith)
hash_number zero (s ∷ ss) once lt = let same = hash_from s s refl in rw same refl
hash_number (suc n) (s ∷ ss) once lt = elim (cases_Bool (same_hash s (get_or ss n zero_hash))) [
  | inl same ↦
      let here : is_script_among s ss ≡ true = ap (λ (t : Hash32). is_script_among t ss) (hash_gives s (get_or ss n zero_hash) same) ∙ hash_there n ss (omega arith) in
      let twice : true ≡ false = sym here ∙ once.0 in
      absurd cc
  | inr apart ↦ let rest = hash_number n ss once.1 (omega arith) in rw apart (ap suc rest)
]

-- there is no newest where the script isn't there
pub newest_none : (s : Hash32) (ss : List Hash32) → Once ss → newest_of s ss ≡ None → is_script_among s ss ≡ false
newest_none s ss once none = by (is_script_among s ss) (sym (script_found s ss once) ∙ none)
  where
    by : (b : Bool) → Rattle.std.proofs.Common.cond b (Some (script_number s ss)) None ≡ None → b ≡ false
    by true is = cc
    by false is = refl

-- and else it has the script's number
pub newest_some : (s : Hash32) (ss : List Hash32) (n : ℕ) → Once ss → newest_of s ss ≡ Some n → (is_script_among s ss ≡ true) × (n ≡ script_number s ss)
newest_some s ss n once some = by (is_script_among s ss) (sym (script_found s ss once) ∙ some)
  where
    by : (b : Bool) → Rattle.std.proofs.Common.cond b (Some (script_number s ss)) None ≡ Some n → (b ≡ true) × (n ≡ script_number s ss)
    by true is = (refl, cc)
    by false is = cc

-- which is that of this script hash
pub newest_hash : (s : Hash32) (ss : List Hash32) (n : ℕ) → Once ss → newest_of s ss ≡ Some n → get_or ss n zero_hash ≡ s
newest_hash s ss n once some =
    let found = newest_some s ss n once some in
    ap (λ (k : ℕ). get_or ss k zero_hash) found.1 ∙ number_at s zero_hash ss found.0

-- 2. Tables at their limit

full_none : (k n : ℕ) → n ≤ row_limit k → full k n ≡ None
full_none k n le = let few = le-ltb (row_limit k) n le in rw few refl

full_some : (k n : ℕ) → n ≡ row_limit k + 1 → full k n ≡ Some (connect.Full k (row_limit k))
full_some k n at = let many = lt-ltb (row_limit k) n (omega arith) in rw many refl

same_fault : (e : ConnectFault) (a b t rows : ℕ) → e ≡ connect.Full a b → e ≡ connect.Full t rows → Some (connect.Full a b) ≡ Some (connect.Full t rows)
same_fault e a b t rows x y = ap (λ (f : ConnectFault). Some f) (sym x ∙ y)

not_memory : (e : ConnectFault) (t rows : ℕ) → e ≡ connect.Memory → e ≡ connect.Full t rows → ⊥
not_memory e t rows x y = let both : connect.Memory ≡ connect.Full t rows = sym x ∙ y in cc

-- where all tables are within their limits after the step, none was full
pub room_left : (counts : HeadCounts) (bs : List ListedBlock) (s : Hash32) (tx : ℕ) (l : Lists) (new : held.Tables) → Hold counts bs (add_entry s tx l) new
    → length (new table.Scripts) ≤ limit_of table.Scripts → length (new table.Entries) ≤ limit_of table.Entries → touch_full s tx l ≡ None
room_left counts bs s tx l new hold a b =
    let m = add_entry s tx l in
    let c = many_scripts counts bs m new hold in
    let d = many_entries counts bs m new hold in
    ap₂ (λ (x y : Option ConnectFault). option_or x y) (full_none 6 (length m.scripts) (omega arith)) (full_none 8 (length m.entries) (omega arith))

-- nor was one where a script that is there has an entry more
pub room_known : (counts : HeadCounts) (bs : List ListedBlock) (s : Hash32) (tx : ℕ) (l : Lists) (old : held.Tables) → Hold counts bs l old → is_script_among s l.scripts ≡ true
    → length (old table.Scripts) ≤ limit_of table.Scripts → length (old table.Entries) < limit_of table.Entries → touch_full s tx l ≡ None
room_known counts bs s tx l old hold known few room =
    let c = many_scripts counts bs l old hold in
    let d = many_entries counts bs l old hold in
    let same_scripts : length (add_entry s tx l).scripts ≡ length l.scripts = rw known refl in
    let entries = one_more (is_tx tx (last_tx_of (script_number s l.scripts) l.entries)) in
    ap₂ (λ (x y : Option ConnectFault). option_or x y) (full_none 6 (length (add_entry s tx l).scripts) (omega arith)) (full_none 8 (length (add_entry s tx l).entries) (omega arith))
  where
    more : List ListedEntry
    more = l.entries ++ record { tx = tx; script = script_number s l.scripts } ∷ []

    one_more : (b : Bool) → length (if b then l.entries else more) ≤ length l.entries + 1
    one_more true = omega arith
    one_more false = let long = length-append l.entries (record { tx = tx; script = script_number s l.scripts } ∷ []) in omega arith

-- a script that isn't there, or its first entry, has no place
pub full_new : (counts : HeadCounts) (bs : List ListedBlock) (s : Hash32) (tx : ℕ) (l : Lists) (old : held.Tables) (e : ConnectFault) (t rows : ℕ) → Hold counts bs l old
    → Fits l → is_script_among s l.scripts ≡ false → IsScriptFault old e → e ≡ connect.Full t rows → touch_full s tx l ≡ Some (connect.Full t rows)
full_new counts bs s tx l old e t rows hold fits fresh fault is =
    let c = many_scripts counts bs l old hold in
    let d = many_entries counts bs l old hold in
    let added = touch_new l s tx fresh (new_has_no_entry l.scripts l.entries fits.numbered) in
    let more_scripts : length (add_entry s tx l).scripts ≡ length l.scripts + 1 = ap (λ (m : Lists). length m.scripts) added ∙ length-append l.scripts (s ∷ []) in
    let more_entries : length (add_entry s tx l).entries ≡ length l.entries + 1 = ap (λ (m : Lists). length m.entries) added ∙ length-append l.entries (record { tx = tx; script = length l.scripts } ∷ []) in
    let entries_part : NotAdded table.Entries (length (old table.Entries)) e → length (old table.Scripts) < limit_of table.Scripts → touch_full s tx l ≡ Some (connect.Full t rows) =
    λ why few. elim why [
      | inl entries ↦
          let at = entries.0 in
          ap₂ (λ (x y : Option ConnectFault). option_or x y) (full_none 6 (length (add_entry s tx l).scripts) (omega arith)) (full_some 8 (length (add_entry s tx l).entries) (omega arith))
          ∙ same_fault e 8 (row_limit 8) t rows entries.1 is
      | inr memory ↦ absurd (not_memory e t rows memory.1 is)
    ] in
    elim fault [
      | inl why ↦ elim why [
        | inl scripts ↦
            let at = scripts.0 in
            ap (λ (x : Option ConnectFault). option_or x (full 8 (length (add_entry s tx l).entries))) (full_some 6 (length (add_entry s tx l).scripts) (omega arith))
            ∙ same_fault e 6 (row_limit 6) t rows scripts.1 is
        | inr memory ↦ absurd (not_memory e t rows memory.1 is)
      ]
      | inr rest ↦ entries_part rest.1 rest.0
    ]

-- another entry of a script that is there has no place
pub full_known : (counts : HeadCounts) (bs : List ListedBlock) (s : Hash32) (n tx : ℕ) (l : Lists) (old : held.Tables) (e : ConnectFault) (t rows : ℕ) → Hold counts bs l old
    → is_script_among s l.scripts ≡ true → n ≡ script_number s l.scripts → is_tx tx (last_tx_of n l.entries) ≡ false → length (old table.Scripts) ≤ limit_of table.Scripts
    → IsEntryFault old e → e ≡ connect.Full t rows → touch_full s tx l ≡ Some (connect.Full t rows)
full_known counts bs s n tx l old e t rows hold known n_is fresh few fault is =
    let c = many_scripts counts bs l old hold in
    let d = many_entries counts bs l old hold in
    let same_scripts : length (add_entry s tx l).scripts ≡ length l.scripts = rw known refl in
    let apart : is_tx tx (last_tx_of (script_number s l.scripts) l.entries) ≡ false = ap (λ (k : ℕ). is_tx tx (last_tx_of k l.entries)) (sym n_is) ∙ fresh in
    let longer = length-append l.entries (record { tx = tx; script = script_number s l.scripts } ∷ []) in
    let more_entries : length (add_entry s tx l).entries ≡ length l.entries + 1 = rw apart longer in
    elim fault [
      | inl entries ↦
          let at = entries.0 in
          ap₂ (λ (x y : Option ConnectFault). option_or x y) (full_none 6 (length (add_entry s tx l).scripts) (omega arith)) (full_some 8 (length (add_entry s tx l).entries) (omega arith))
          ∙ same_fault e 8 (row_limit 8) t rows entries.1 is
      | inr memory ↦ absurd (not_memory e t rows memory.1 is)
    ]

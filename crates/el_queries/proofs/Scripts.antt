-- The script of a hash, and what stands where there is none.
use Rattle.std.proofs.Common.{◌≡◌, ◌<◌, ℕ, ◌==◌, ◌&&◌, Bool, true, false, List, [], ◌∷◌, length, filter, Option, None, Some, option_map, refl, ap, sym, ◌∙◌, arith, ne_eqb}
use Rattle.std.proofs.lemmas.Bool.{or_parts, and_left}
use Rattle.std.specs.List.{list_any}
use Rattle.el_base.specs.declared.hash.Hash32.{Hash32}
use Rattle.el_chain.specs.Chains.{Chain}
use Rattle.el_chain.specs.RowCounts.{is_script_among}
use Rattle.el_tables.specs.ChainLists.{lists}
use Rattle.el_tables.specs.Edits as edit
use Rattle.el_tables.specs.Fits.{Fits, OutsWithin}
use Rattle.el_tables.specs.Lists.{ListedOut, Lists, script_number, is_of_script, is_unspent, balance_of}
use Rattle.el_tables.specs.Tables.{HeadCounts, script_row, in_both}
use Rattle.el_tables.proofs.FitLemmas.{new_has_no_entry}
use Rattle.el_tables.proofs.Scripts.{number_next}
use Rattle.el_row_formats.specs.declared.script_row.ScriptRow.{ScriptRow}
use Rattle.el_buckets.specs.Buckets.{newest_of, below}
use Rattle.el_schema.specs.Rows.{script_fields}
use Rattle.el_buckets.proofs.Heads.{below_all}
use Rattle.el_script.proofs.Causes.{newest_none, newest_some}
use Rattle.el_script.specs.declared.lookup.FoundScript.{FoundScript}
use Rattle.el_script.specs.Found.{HasHeads, script_in}
use Rattle.el_queries.proofs.EntryWalks.{no_entry}

-- 1. The script of a hash

abbrev numbered : Hash32 → HeadCounts → Lists → ℕ → FoundScript
numbered s counts l n = record { number = n; row = script_fields (script_row counts.scripts l n s) }

pub script_there : (s : Hash32) (counts : HeadCounts) (l : Lists) (f : FoundScript) → Fits l → Some f ≡ script_in s counts l
    → (f.number ≡ script_number s l.scripts) × (f.row ≡ script_fields (script_row counts.scripts l (script_number s l.scripts) s)) × (is_script_among s l.scripts ≡ true)
script_there s counts l f fits is = by (newest_of s l.scripts) refl is
  where
    by : (o : Option ℕ) → newest_of s l.scripts ≡ o → Some f ≡ option_map (numbered s counts l) o
        → (f.number ≡ script_number s l.scripts) × (f.row ≡ script_fields (script_row counts.scripts l (script_number s l.scripts) s)) × (is_script_among s l.scripts ≡ true)
    by None at e = absurd cc
    by (Some n) at e =
        let found = newest_some s l.scripts n fits.numbered.once at in
        let f_is : f ≡ numbered s counts l n = cc in
        (ap (λ (x : FoundScript). x.number) f_is ∙ found.1, ap (λ (x : FoundScript). x.row) f_is ∙ ap (λ (k : ℕ). script_fields (script_row counts.scripts l k s)) found.1, found.0)

pub script_absent : (s : Hash32) (counts : HeadCounts) (l : Lists) → Fits l → None ≡ script_in s counts l → is_script_among s l.scripts ≡ false
script_absent s counts l fits is = newest_none s l.scripts fits.numbered.once (by (newest_of s l.scripts) is)
  where
    by : (o : Option ℕ) → None ≡ option_map (numbered s counts l) o → o ≡ None
    by None e = refl
    by (Some n) e = cc

-- 2. Where there is none

none_filtered : {X : Type 0} (test : X → Bool) (xs : List X) → list_any test xs ≡ false → filter test xs ≡ []
none_filtered test [] none = refl
none_filtered test (x ∷ xs) none =
    let parts = or_parts (test x) (list_any test xs) none in
    let isnt = parts.0 in
    rw isnt (none_filtered test xs parts.1)

-- it has no entry
pub none_listed : (s : Hash32) (l : Lists) → Fits l → is_script_among s l.scripts ≡ false → filter (is_of_script (script_number s l.scripts)) l.entries ≡ []
none_listed s l fits none =
    ap (λ (k : ℕ). filter (is_of_script k) l.entries) (number_next s l.scripts none)
    ∙ none_filtered (is_of_script (length l.scripts)) l.entries (new_has_no_entry l.scripts l.entries fits.numbered)

-- and holds nothing
none_held : (n : ℕ) (outs : List ListedOut) → OutsWithin n outs → balance_of n outs ≡ 0
none_held n [] all = refl
none_held n (x ∷ xs) all =
    let lt = all.0 in
    let apart : (x.script == n) ≡ false = ne_eqb x.script n (λ e. omega arith) in
    let rest = none_held n xs all.1 in
    let nothing : (x.script == n) && is_unspent x.state ≡ false = and_left (x.script == n) (is_unspent x.state) apart in
    rw (nothing, rest) refl

pub none_balance : (s : Hash32) (l : Lists) → Fits l → is_script_among s l.scripts ≡ false → balance_of (script_number s l.scripts) l.outs ≡ 0
none_balance s l fits none = ap (λ (k : ℕ). balance_of k l.outs) (number_next s l.scripts none) ∙ none_held (length l.scripts) l.outs fits.within

-- 3. Heads

-- of a chain
pub chain_has_heads : (heads : ℕ) (chain : Chain) → 0 < heads → HasHeads (in_both heads) (lists chain)
chain_has_heads heads chain there some = there

-- the last entry of the script that was found
pub last_is : (s : Hash32) (counts : HeadCounts) (l : Lists) (f : FoundScript) (count : ℕ) (link : Option ℕ) → Fits l → Some f ≡ script_in s counts l → count ≡ length l.entries
    → link ≡ below count f.row.last → link ≡ Rattle.el_tables.specs.Tables.greatest (is_of_script (script_number s l.scripts)) l.entries
last_is s counts l f count link fits found at is =
    let k = script_number s l.scripts in
    let there = script_there s counts l f fits found in
    is ∙ ap (λ (r : ScriptRow). below count r.last) there.1 ∙ below_all (is_of_script k) no_entry l.entries count (sym at)

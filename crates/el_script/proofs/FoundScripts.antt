-- The script that a walk along a bucket finds.
use Rattle.std.proofs.Common.{◌≡◌, ℕ, zero, suc, ◌<◌, List, [], ◌∷◌, length, get_or, None, Some, option_map, slice_get, refl, ap, sym, ◌∙◌, arith, inl, inr, ◌⊎◌}
use Rattle.el_base.specs.declared.hash.Hash32.{Hash32}
use Rattle.el_chain.specs.Chains.{zero_hash}
use Rattle.el_chain.specs.Headers.{same_hash}
use Rattle.el_tables.specs.Edits as edit
use Rattle.el_tables.specs.Lists.{Lists}
use Rattle.el_tables.specs.Tables.{HeadCounts, rows_from, script_row}
use Rattle.el_tables.proofs.RowLists.{length_rows, rows_at}
use Rattle.el_tables.proofs.Scripts.{hash_gives}
use Rattle.el_row_formats.specs.declared.script_row.ScriptRow.{ScriptRow}
use Rattle.el_schema.specs.Rows.{script_fields}
use Rattle.el_schema.proofs.Rows.{found_at, found_within}
use Rattle.el_buckets.specs.Buckets.{newest_of}
use Rattle.el_buckets.proofs.Walks.{greatest_passes}
use Rattle.el_script.specs.Found.{HasHeads, script_in}
use Rattle.el_script.specs.declared.lookup.FoundScript.{FoundScript}

abbrev numbered : Hash32 → HeadCounts → Lists → ℕ → FoundScript
numbered s counts l n = record { number = n; row = script_fields (script_row counts.scripts l n s) }

pub script_found_at : (c : ℕ) (l : Lists) (n : ℕ) (row : ScriptRow) → Some row ≡ option_map script_fields (slice_get (rows_from (script_row c l) 0 l.scripts) n)
    → row ≡ script_fields (script_row c l n (get_or l.scripts n zero_hash))
script_found_at c l n row e =
    let rows = rows_from (script_row c l) 0 l.scripts in
    let lt = found_within script_fields rows n row e in
    let long = length_rows (script_row c l) 0 l.scripts in
    found_at script_fields rows n edit.no_row row e ∙ ap script_fields (rows_at (script_row c l) edit.no_row zero_hash 0 n n l.scripts (omega arith) (omega arith))

-- it is the one of the hash
pub in_by_number : (s : Hash32) (counts : HeadCounts) (l : Lists) (n : ℕ) (row : ScriptRow) → newest_of s l.scripts ≡ Some n
    → Some row ≡ option_map script_fields (slice_get (rows_from (script_row counts.scripts l) 0 l.scripts) n) → Some (record { number = n; row = row }) ≡ script_in s counts l
in_by_number s counts l n row found read =
    let passes = greatest_passes (λ x. same_hash x s) zero_hash l.scripts n found in
    let hash_is : get_or l.scripts n zero_hash ≡ s = hash_gives (get_or l.scripts n zero_hash) s passes.1 in
    let is = script_found_at counts.scripts l n row read in
    let row_is : row ≡ script_fields (script_row counts.scripts l n s) = is ∙ ap (λ (h : Hash32). script_fields (script_row counts.scripts l n h)) hash_is in
    ap (λ (r : ScriptRow). Some (record { number = n; row = r })) row_is
    ∙ ap (option_map (numbered s counts l)) (sym found)

pub in_none : (s : Hash32) (counts : HeadCounts) (l : Lists) → newest_of s l.scripts ≡ None → None ≡ script_in s counts l
in_none s counts l none = sym (ap (option_map (numbered s counts l)) none)

no_members : {X : Type 0} (xs : List X) → length xs ≡ 0 → xs ≡ []
no_members [] e = refl
no_members (x ∷ xs) e = absurd (omega arith)

-- where there are no heads there is no script
pub no_script : (counts : HeadCounts) (l : Lists) (h : Hash32) → HasHeads counts l → counts.scripts ≡ 0 → newest_of h l.scripts ≡ None
no_script counts l h heads none =
    let empty : l.scripts ≡ [] = no_members l.scripts (by (length l.scripts) heads) in
    ap (newest_of h) empty
  where
    by : (n : ℕ) → (0 < n → 0 < counts.scripts) → n ≡ 0
    by zero lead = refl
    by (suc n) lead = let some = lead (omega arith) in absurd (omega arith)

pub some_or_none : (n : ℕ) → (n ≡ 0) ⊎ (0 < n)
some_or_none zero = inl refl
some_or_none (suc n) = inr (omega arith)

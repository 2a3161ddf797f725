-- Keys of rows, by table and number.
use Rattle.std.proofs.Common.{◌≡◌, ◌≢◌, ◌<◌, ◌≤◌, ℕ, Bool, true, false, refl, ap, arith, inl, inr, ◌⊎◌, ⊎_elim}
use Rattle.std.proofs.Common.{is_eq, Equal}
use Rattle.std.specs.declared.cmp.Ordering.{Ordering}
use Rattle.std.specs.Ordering.{nat_cmp}
use Rattle.std.specs.Cmp.{IsTotalOrder, nat_cmp_total}
use Rattle.std.proofs.lemmas.Cmp.{on_total, then_total, eq_by_cmp_equiv}
use Rattle.std.proofs.lemmas.Map.Lookups.{exact_pairs, exact_unsigned}
use Rattle.std.proofs.lemmas.Bool.{cases_eq}
use Rattle.std.specs.BTreeMap.{is_at}
use Rattle.el_row_formats.specs.declared.table.Table.{Table}
use Rattle.el_row_formats.specs.declared.table.Table.TheVariants as table
use Rattle.el_row_formats.specs.declared.table.RowKey.{RowKey}
use Rattle.el_row_formats.specs.Tables.{row_cmp, index_of, limit_of, key}

pub same_index : (a b : Table) → index_of a ≡ index_of b → a ≡ b
same_index a b = grind arith

pub index_within : (t : Table) → index_of t < 8
index_within t = grind arith

-- a table has at most 2^40 rows
pub few_rows : (t : Table) → limit_of t ≤ 1099511627776
few_rows table.Blocks = omega arith
few_rows table.Txs = omega arith
few_rows table.TxHeads = omega arith
few_rows table.Outs = omega arith
few_rows table.Ins = omega arith
few_rows table.Scripts = omega arith
few_rows table.ScriptHeads = omega arith
few_rows table.Entries = omega arith

-- is_eq o ≡ true says that o is Equal
eq_is : (o : Ordering) → is_eq o ≡ true → o ≡ Equal
eq_is o h = grind arith

pub keys_total : IsTotalOrder row_cmp
keys_total = then_total (on_total (λ (k : RowKey). index_of k.table) nat_cmp_total) (on_total (λ (k : RowKey). k.row) nat_cmp_total)

-- keys that compare alike are one
pub same_key : (t u : Table) (i j : ℕ) → is_at (row_cmp (key t i)) (key u j) ≡ true → (t ≡ u) × (i ≡ j)
same_key t u i j h =
    let both : (index_of t, i) ≡ (index_of u, j) = exact_pairs nat_cmp nat_cmp exact_unsigned exact_unsigned (index_of t, i) (index_of u, j) (eq_is _ h) in
    (same_index t u (ap (λ p. p.0) both), ap (λ p. p.1) both)

-- a key compares alike with itself
pub self_key : (t : Table) (i : ℕ) → is_at (row_cmp (key t i)) (key t i) ≡ true
self_key t i = (eq_by_cmp_equiv keys_total).refl (key t i)

false_is : (b : Bool) → (b ≡ true → ⊥) → b ≡ false
false_is true not_true = absurd (not_true refl)
false_is false not_true = refl

-- other keys don't
pub other_key : (t u : Table) (i j : ℕ) → (t ≡ u → i ≡ j → ⊥) → is_at (row_cmp (key t i)) (key u j) ≡ false
other_key t u i j apart = false_is _ (λ h. let both = same_key t u i j h in apart both.0 both.1)

-- two tables are one or differ
pub same_table : (t u : Table) → (t ≡ u) ⊎ (t ≢ u)
same_table t u = ⊎_elim (λ e. inl (same_index t u e)) (λ ne. inr (λ e. ne (ap index_of e))) (cases_eq (index_of t) (index_of u))

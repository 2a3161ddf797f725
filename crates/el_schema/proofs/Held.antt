-- Rows of bytes that are those of lists: how many there are, and lists with one member more, less or other.
use Rattle.std.proofs.Common.{◌≡◌, ℕ, zero, suc, ◌+◌, ◌<◌, Bool, List, [], ◌∷◌, ◌++◌, set, length, map, take, get_or, None, Some, refl, ap, ◌∙◌, arith}
use Rattle.std.specs.List.{AllByRecursion}
use Rattle.std.proofs.lemmas.List.{length-map}
use Rattle.el_chain.specs.Chains.{zero_hash}
use Rattle.el_tables.specs.ChainLists.{ListedBlock}
use Rattle.el_tables.specs.Lists.{ListedTx, Lists}
use Rattle.el_tables.specs.Tables as typed
use Rattle.el_tables.specs.Tables.{HeadCounts, greatest_from, rows_from, heads, tx_row, script_row, entry_row}
use Rattle.el_tables.specs.Disconnecting.{but_last, last}
use Rattle.el_tables.proofs.RowLists.{length_rows}
use Rattle.el_tables.proofs.Tables.{length_heads}
use Rattle.el_row_formats.specs.Tables as held
use Rattle.el_row_formats.specs.declared.table.Table.TheVariants as table
use Rattle.el_row_formats.specs.RowBytes.{tx_row_bytes, head_row_bytes, out_row_bytes, in_row_bytes, script_row_bytes, entry_row_bytes}
use Rattle.el_schema.specs.Rows.{Hold, head_fields, tx_fields, out_fields, in_fields, script_fields, entry_fields}

-- each of them
pub all_at : {X : Type 0} (P : X → Type 0) (xs : List X) (n : ℕ) (d : X) → AllByRecursion P xs → n < length xs → P (get_or xs n d)
all_at P [] n d all lt = absurd (omega arith)
all_at P (x ∷ xs) zero d all lt = all.0
all_at P (x ∷ xs) (suc n) d all lt = all_at P xs n d all.1 (omega arith)

-- and of one more, of one other, and of the first
pub all_more : {X : Type 0} (P : X → Type 0) (xs : List X) (x : X) → AllByRecursion P xs → P x → AllByRecursion P (xs ++ x ∷ [])
all_more P [] x all one = (one, tt)
all_more P (y ∷ ys) x all one = (all.0, all_more P ys x all.1 one)

pub all_set : {X : Type 0} (P : X → Type 0) (xs : List X) (n : ℕ) (x : X) → AllByRecursion P xs → P x → AllByRecursion P (set xs n x)
all_set P [] n x all one = tt
all_set P (y ∷ ys) zero x all one = (one, all.1)
all_set P (y ∷ ys) (suc n) x all one = (all.0, all_set P ys n x all.1 one)

pub all_but_last : {X : Type 0} (P : X → Type 0) (xs : List X) → AllByRecursion P xs → AllByRecursion P (but_last xs)
all_but_last P [] all = tt
all_but_last P (x ∷ []) all = tt
all_but_last P (x ∷ y ∷ xs) all = (all.0, all_but_last P (y ∷ xs) all.1)

-- all but the last are the first, and the last has the greatest number
pub but_last_at : {X : Type 0} (xs : List X) (n : ℕ) → length xs ≡ n + 1 → but_last xs ≡ take n xs
but_last_at [] n long = absurd (omega arith)
but_last_at (x ∷ []) n long = let none : n ≡ 0 = omega arith in rw none refl
but_last_at (x ∷ y ∷ xs) zero long = absurd (omega arith)
but_last_at (x ∷ y ∷ xs) (suc n) long = ap (λ l. x ∷ l) (but_last_at (y ∷ xs) n (omega arith))

pub last_at : {X : Type 0} (xs : List X) (n : ℕ) (d : X) → length xs ≡ n + 1 → last xs ≡ Some (get_or xs n d)
last_at [] n d long = absurd (omega arith)
last_at (x ∷ []) n d long = let none : n ≡ 0 = omega arith in rw none refl
last_at (x ∷ y ∷ xs) zero d long = absurd (omega arith)
last_at (x ∷ y ∷ xs) (suc n) d long = last_at (y ∷ xs) n d (omega arith)

pub map_but_last : {X Y : Type 0} (f : X → Y) (xs : List X) → map f (but_last xs) ≡ but_last (map f xs)
map_but_last f [] = refl
map_but_last f (x ∷ []) = refl
map_but_last f (x ∷ y ∷ xs) = ap (λ l. f x ∷ l) (map_but_last f (y ∷ xs))

-- the greatest of what a function makes of the members
pub greatest_map : {X Y : Type 0} (n : ℕ) (test : Y → Bool) (f : X → Y) (xs : List X) → greatest_from n test (map f xs) ≡ greatest_from n (λ x. test (f x)) xs
greatest_map n test f [] = refl
greatest_map n test f (x ∷ xs) = let rest = greatest_map (n + 1) test f xs in rw rest refl

pub no_tx : ListedTx
no_tx = record { txid = zero_hash; height = 0; start = 0; len = 0; first_out = 0; outs = 0; first_in = 0; ins = 0 }

pub no_tx_row : typed.TxRow
no_tx_row = record { listed = no_tx; older = None; next = None }

module _ (counts : HeadCounts) (bs : List ListedBlock) (l : Lists) (rows : held.Tables) (hold : Hold counts bs l rows) where
  -- how many rows there are
  pub count_txs : length (rows table.Txs) ≡ length l.txs
  count_txs = ap length (hold.each table.Txs) ∙ length-map (rows_from (tx_row counts.txs l.txs) 0 l.txs) (λ r. tx_row_bytes (tx_fields r)) ∙ length_rows (tx_row counts.txs l.txs) 0 l.txs

  pub count_scripts : length (rows table.Scripts) ≡ length l.scripts
  count_scripts = ap length (hold.each table.Scripts) ∙ length-map (rows_from (script_row counts.scripts l) 0 l.scripts) (λ r. script_row_bytes (script_fields r)) ∙ length_rows (script_row counts.scripts l) 0 l.scripts

  pub count_tx_heads : length (rows table.TxHeads) ≡ counts.txs
  count_tx_heads = ap length (hold.each table.TxHeads) ∙ length-map (heads counts.txs (λ (t : ListedTx). t.txid) l.txs) (λ link. head_row_bytes (head_fields link)) ∙ length_heads counts.txs (λ (t : ListedTx). t.txid) l.txs

  pub count_script_heads : length (rows table.ScriptHeads) ≡ counts.scripts
  count_script_heads = ap length (hold.each table.ScriptHeads) ∙ length-map (heads counts.scripts (λ s. s) l.scripts) (λ link. head_row_bytes (head_fields link)) ∙ length_heads counts.scripts (λ s. s) l.scripts

  pub count_outs : length (rows table.Outs) ≡ length l.outs
  count_outs = ap length (hold.each table.Outs) ∙ length-map l.outs (λ x. out_row_bytes (out_fields x))

  pub count_ins : length (rows table.Ins) ≡ length l.ins
  count_ins = ap length (hold.each table.Ins) ∙ length-map l.ins (λ k. in_row_bytes (in_fields k))

  pub count_entries : length (rows table.Entries) ≡ length l.entries
  count_entries =
      ap length (hold.each table.Entries) ∙ length-map (rows_from (entry_row l.entries) 0 l.entries) (λ e. entry_row_bytes (entry_fields e))
      ∙ length_rows (entry_row l.entries) 0 l.entries

-- The last rows of rows that hold lists.
use Rattle.std.proofs.Common.{◌≡◌, ℕ, ◌+◌, ◌<◌, false, List, [], ◌∷◌, length, get_or, None, Some, option_map, slice_get, refl, ap, sym, ◌∙◌, arith, nat_eq}
use Rattle.std.proofs.lemmas.List.{length-map}
use Rattle.el_tables.specs.ChainLists.{ListedBlock}
use Rattle.el_tables.specs.Disconnecting.{last, is_entry_of}
use Rattle.el_tables.specs.Lists.{ListedTx, ListedEntry, Lists}
use Rattle.el_tables.specs.Tables.{HeadCounts, rows_from, tx_row, entry_row}
use Rattle.el_tables.proofs.RowLists.{rows_at}
use Rattle.el_row_formats.specs.RowBytes.{block_row_bytes}
use Rattle.el_row_formats.specs.Tables as held
use Rattle.el_row_formats.specs.declared.block_row.BlockRow.{BlockRow}
use Rattle.el_row_formats.specs.declared.entry_row.EntryRow.{EntryRow}
use Rattle.el_row_formats.specs.declared.table.Table.TheVariants as table
use Rattle.el_row_formats.specs.declared.tx_row.TxRow.{TxRow}
use Rattle.el_schema.specs.Rows.{Hold, tx_fields, entry_fields, block_fields, listed_tx}
use Rattle.el_schema.proofs.Held.{count_txs, last_at, no_tx, count_entries}
use Rattle.el_schema.proofs.Rows.{found_at, listed_row}

module _ (counts : HeadCounts) (bs : List ListedBlock) (l : Lists) (rows : held.Tables) (hold : Hold counts bs l rows) where
  pub no_last_tx : length (rows table.Txs) ≡ 0 → None ≡ last l.txs
  no_last_tx none = empty l.txs (sym (count_txs counts bs l rows hold) ∙ none)
    where
      empty : (xs : List ListedTx) → length xs ≡ 0 → None ≡ last xs
      empty [] e = refl
      empty (x ∷ xs) e = absurd (omega arith)

  pub last_tx_is : (n : ℕ) (row : TxRow) → length (rows table.Txs) ≡ n + 1
      → Some row ≡ option_map tx_fields (slice_get (rows_from (tx_row counts.txs l.txs) 0 l.txs) n) → Some (listed_tx row) ≡ last l.txs
  last_tx_is n row long found =
      let at = listed_row counts.txs l.txs n row found in
      let many = count_txs counts bs l rows hold in
      ap (λ (r : TxRow). Some (listed_tx r)) at ∙ sym (last_at l.txs n no_tx (omega arith))

  pub no_last_entry : (tx : ℕ) → length (rows table.Entries) ≡ 0 → false ≡ is_entry_of tx (last l.entries)
  no_last_entry tx none = empty l.entries (sym (count_entries counts bs l rows hold) ∙ none)
    where
      empty : (xs : List ListedEntry) → length xs ≡ 0 → false ≡ is_entry_of tx (last xs)
      empty [] e = refl
      empty (x ∷ xs) e = absurd (omega arith)

  pub last_entry_is : (tx n : ℕ) (row : EntryRow) → length (rows table.Entries) ≡ n + 1
      → Some row ≡ option_map entry_fields (slice_get (rows_from (entry_row l.entries) 0 l.entries) n) → nat_eq row.tx tx ≡ is_entry_of tx (last l.entries)
  last_entry_is tx n row long found =
      let es = l.entries in
      let d : ListedEntry = record { tx = 0; script = 0 } in
      let xs = rows_from (entry_row es) 0 es in
      let many = count_entries counts bs l rows hold in
      let lt : n < length es = omega arith in
      let at : row ≡ entry_fields (entry_row es n (get_or es n d)) =
      found_at entry_fields xs n (record { listed = d; before = None }) row found ∙ ap entry_fields (rows_at (entry_row es) (record { listed = d; before = None }) d 0 n n es (omega arith) lt) in
      ap (λ (r : EntryRow). nat_eq r.tx tx) at ∙ ap (is_entry_of tx) (sym (last_at es n d (omega arith)))

  pub last_block_is : (n : ℕ) (b : ListedBlock) (row : BlockRow) → length (rows table.Blocks) ≡ n + 1
      → Some row ≡ option_map block_fields (slice_get bs n) → last bs ≡ Some b → row.txs ≡ b.txs
  last_block_is n b row long found there =
      let same = length-map bs (λ x. block_row_bytes (block_fields x)) in
      let many = ap length (hold.each table.Blocks) in
      let at = found_at block_fields bs n b row found in
      let the_last : last bs ≡ Some (get_or bs n b) = last_at bs n b (omega arith) in
      let is_b : Some (get_or bs n b) ≡ Some b = sym the_last ∙ there in
      ap (λ (r : BlockRow). r.txs) at ∙ whole (get_or bs n b) is_b
    where
      whole : (x : ListedBlock) → Some x ≡ Some b → x.txs ≡ b.txs
      whole x e = cc

-- Rows by their numbers, and a row of a block more.
use Rattle.std.proofs.Common.{◌≡◌, ℕ, ◌+◌, List, [], ◌∷◌, ◌++◌, length, take, slice_get, Some, option_map, ap, sym, subst, ◌∙◌, arith}
use Rattle.std.proofs.lemmas.List.{get_or_at, get_or-map, map-append}
use Rattle.el_base.specs.declared.hash.Hash32.{Hash32}
use Rattle.el_chain.specs.Chains.{zero_hash}
use Rattle.el_chain.specs.Headers.{same_hash}
use Rattle.el_tables.specs.ChainLists.{ListedBlock}
use Rattle.el_tables.specs.Edits as edit
use Rattle.el_tables.specs.Lists.{Lists, ListedTx, ListedOut, script_at, newest_tx, txid_at}
use Rattle.el_tables.specs.Tables.{HeadCounts, tables_of, rows_from, tx_row, greatest}
use Rattle.el_tables.proofs.TxEdits.{newest_is}
use Rattle.el_tables.proofs.OutEdits.{script_is}
use Rattle.el_rows.specs.Changes.{OnTable}
use Rattle.el_row_formats.specs.Tables as held
use Rattle.el_row_formats.specs.RowBytes.{block_row_bytes, FitsBlockRow}
use Rattle.el_row_formats.specs.declared.table.Table.{Table}
use Rattle.el_row_formats.specs.declared.table.Table.TheVariants as table
use Rattle.el_row_formats.specs.declared.block_row.BlockRow.{BlockRow}
use Rattle.el_row_formats.specs.declared.out_row.OutRow.{OutRow}
use Rattle.el_row_formats.specs.declared.tx_row.TxRow.{TxRow}
use Rattle.el_schema.specs.Rows.{Hold, bytes_of, block_fields, out_fields, tx_fields}
use Rattle.el_schema.proofs.Held.{all_more, no_tx}
use Rattle.el_schema.proofs.Rows.{found_at, listed_row, row_within}

-- the script hash's number of an output's row
pub script_read : (outs : List ListedOut) (k : ℕ) (r : OutRow) → Some r ≡ option_map out_fields (slice_get outs k) → r.script ≡ script_at k outs
script_read outs k r found = ap (λ (x : OutRow). x.script) (found_at out_fields outs k edit.no_out r found) ∙ sym (script_is k outs)

-- the `older` of a transaction's row
pub older_read : (c : ℕ) (txs : List ListedTx) (n : ℕ) (r : TxRow) → Some r ≡ option_map tx_fields (slice_get (rows_from (tx_row c txs) 0 txs) n)
    → r.older ≡ newest_tx (txid_at n txs) (take n txs)
older_read c txs n r found =
    let row = listed_row c txs n r found in
    let few = row_within c txs n r found in
    let id = get_or-map (λ (t : ListedTx). t.txid) txs n no_tx zero_hash few in
    ap (λ (x : TxRow). x.older) row
    ∙ ap (λ (h : Hash32). greatest (λ (u : ListedTx). same_hash u.txid h) (take n txs)) (sym id)
    ∙ sym (newest_is 0 (txid_at n txs) (take n txs))

-- the sum of the last block's row
pub sum_read : (bs : List ListedBlock) (b : ListedBlock) (n : ℕ) (r : BlockRow) → length (bs ++ b ∷ []) ≡ n + 1
    → Some r ≡ option_map block_fields (slice_get (bs ++ b ∷ []) n) → r.sum ≡ b.sum
sum_read bs b n r long found =
    let all = bs ++ b ∷ [] in
    let many = Rattle.std.proofs.Common.length-append bs (b ∷ []) in
    let at : length bs ≡ n = omega arith in
    ap (λ (x : BlockRow). x.sum) (found_at block_fields all n b r found)
    ∙ ap (λ (x : ListedBlock). x.sum) (get_or_at bs b [] b n at)

-- one block more
pub block_more : (counts : HeadCounts) (bs : List ListedBlock) (l : Lists) (b : ListedBlock) (old new : held.Tables) (bytes : List ℕ) (row : BlockRow) → Hold counts bs l old
    → row ≡ block_fields b → bytes ≡ block_row_bytes row → FitsBlockRow row → OnTable old new table.Blocks (old table.Blocks ++ bytes ∷ []) → Hold counts (bs ++ b ∷ []) l new
block_more counts bs l b old new bytes row hold same is fits on =
    let f : ListedBlock → List ℕ = λ x. block_row_bytes (block_fields x) in
    record {
      each = each;
      fit = record {
        blocks = all_more (λ x. FitsBlockRow (block_fields x)) bs b hold.fit.blocks (subst FitsBlockRow same fits);
        txs = hold.fit.txs;
        tx_heads = hold.fit.tx_heads;
        outs = hold.fit.outs;
        ins = hold.fit.ins;
        scripts = hold.fit.scripts;
        script_heads = hold.fit.script_heads;
        entries = hold.fit.entries;
      };
    }
  where
    g : ListedBlock → List ℕ
    g x = block_row_bytes (block_fields x)

    each : (u : Table) → new u ≡ bytes_of (tables_of counts (bs ++ b ∷ []) l) u
    each table.Blocks =
        on.here ∙ ap (λ (x : List ℕ). old table.Blocks ++ x ∷ []) (is ∙ ap block_row_bytes same)
        ∙ ap (λ (x : List (List ℕ)). x ++ g b ∷ []) (hold.each table.Blocks) ∙ sym (map-append g bs (b ∷ []))
    each table.Txs = on.others table.Txs (λ q. cc) ∙ hold.each table.Txs
    each table.TxHeads = on.others table.TxHeads (λ q. cc) ∙ hold.each table.TxHeads
    each table.Outs = on.others table.Outs (λ q. cc) ∙ hold.each table.Outs
    each table.Ins = on.others table.Ins (λ q. cc) ∙ hold.each table.Ins
    each table.Scripts = on.others table.Scripts (λ q. cc) ∙ hold.each table.Scripts
    each table.ScriptHeads = on.others table.ScriptHeads (λ q. cc) ∙ hold.each table.ScriptHeads
    each table.Entries = on.others table.Entries (λ q. cc) ∙ hold.each table.Entries

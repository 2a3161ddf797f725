-- Rows of bytes under one transaction more or less.
use Rattle.std.proofs.Common.{◌≡◌, ℕ, ◌+◌, ◌<◌, ◌^◌, List, [], ◌∷◌, ◌++◌, length, map, set, take, get_or, Option, Some, refl, ap, ap₂, sym, subst, ◌∙◌, arith}
use Rattle.std.specs.List.{AllByRecursion}
use Rattle.std.proofs.lemmas.List.{length-map, map-append, map-set, take-map, get_or-map}
use Rattle.el_base.specs.declared.hash.Hash32.{Hash32}
use Rattle.el_chain.specs.Headers.{same_hash}
use Rattle.el_tables.specs.ChainLists.{ListedBlock}
use Rattle.el_tables.specs.Disconnecting.{but_last, take_back_tx}
use Rattle.el_tables.specs.Lists.{ListedTx, Lists, newest_tx, add_tx}
use Rattle.el_tables.specs.Tables as typed
use Rattle.el_tables.specs.Tables.{HeadCounts, tables_of, bucket_in, heads}
use Rattle.el_tables.specs.Edits as edit
use Rattle.el_tables.proofs.TxEdits.{newest_is, add_tx_rows, take_back_tx_rows}
use Rattle.el_tables.proofs.RowLists.{head_is}
use Rattle.el_row_formats.specs.Tables as held
use Rattle.el_row_formats.specs.declared.table.Table.{Table}
use Rattle.el_row_formats.specs.declared.table.Table.TheVariants as table
use Rattle.el_row_formats.specs.declared.tx_row.TxRow.{TxRow}
use Rattle.el_row_formats.specs.RowBytes.{number_limit, tx_row_bytes, head_row_bytes, link_bytes, link_number, FitsTxRow, FitsHeadRow}
use Rattle.el_schema.specs.Rows.{Hold, Encode, bytes_of, listed_tx, tx_fields, head_fields}
use Rattle.el_buckets.specs.Buckets.{Pushed, Popped, OthersStay, bucket_head, newest_of, share_bucket}
use Rattle.el_buckets.specs.declared.bucket.Buckets.TheVariants as buckets
use Rattle.el_schema.proofs.Held.{greatest_map, all_more, all_set, all_at, all_but_last, but_last_at, last_at, no_tx_row}

abbrev id_of : ListedTx → Hash32
id_of t = t.txid

abbrev row_bytes : typed.TxRow → List ℕ
row_bytes r = tx_row_bytes (tx_fields r)

abbrev head_bytes : Option ℕ → List ℕ
head_bytes link = head_row_bytes (head_fields link)

abbrev RowFits : typed.TxRow → Type 0
RowFits r = FitsTxRow (tx_fields r)

abbrev HeadFits : Option ℕ → Type 0
HeadFits link = FitsHeadRow (head_fields link)

-- the newest of the txids is the newest of the transactions
pub newest_listed : (id : Hash32) (ts : List ListedTx) → newest_of id (map id_of ts) ≡ newest_tx id ts
newest_listed id ts = greatest_map 0 (λ x. same_hash x id) id_of ts ∙ sym (newest_is 0 id ts)

-- the head of the bucket is the greatest in it
head_listed : (count : ℕ) (id : Hash32) (ts : List ListedTx) → 0 < count → bucket_head count id (map id_of ts) ≡ edit.head_of id (heads count id_of ts)
head_listed count id ts some = greatest_map 0 (share_bucket count id) id_of ts ∙ sym (head_is count id_of ts id some)

module _ (T : typed.Tables) (old new : held.Tables) (e : Encode old T) (others : OthersStay table.Txs table.TxHeads old new) where
  heads_set : (id : Hash32) (link : Option ℕ) → new table.TxHeads ≡ set (old table.TxHeads) (bucket_in (length (old table.TxHeads)) id) (link_bytes link)
      → new table.TxHeads ≡ map head_bytes (edit.set_head id link T.tx_heads)
  heads_set id link is =
      let hs = T.tx_heads in
      let rows : old table.TxHeads ≡ map head_bytes hs = e.each table.TxHeads in
      let long : length (old table.TxHeads) ≡ length hs = ap length rows ∙ length-map hs head_bytes in
      is ∙ ap₂ (λ (xs : List (List ℕ)) (n : ℕ). set xs (bucket_in n id) (head_bytes link)) rows long ∙ sym (map-set head_bytes hs (bucket_in (length hs) id) link)

  -- only transactions and their heads change
  changed : (txs : List typed.TxRow) (links : List (Option ℕ)) → new table.Txs ≡ map row_bytes txs → new table.TxHeads ≡ map head_bytes links
      → AllByRecursion RowFits txs → AllByRecursion HeadFits links → Encode new (record T { txs = txs; tx_heads = links })
  changed txs links txs_are links_are txs_fit links_fit = record {
    each = by;
    fit = record {
      blocks = e.fit.blocks;
      txs = txs_fit;
      tx_heads = links_fit;
      outs = e.fit.outs;
      ins = e.fit.ins;
      scripts = e.fit.scripts;
      script_heads = e.fit.script_heads;
      entries = e.fit.entries;
    };
  }
    where
      by : (u : Table) → new u ≡ bytes_of (record T { txs = txs; tx_heads = links }) u
      by table.Blocks = others table.Blocks (λ q. cc) (λ q. cc) ∙ e.each table.Blocks
      by table.Txs = txs_are
      by table.TxHeads = links_are
      by table.Outs = others table.Outs (λ q. cc) (λ q. cc) ∙ e.each table.Outs
      by table.Ins = others table.Ins (λ q. cc) (λ q. cc) ∙ e.each table.Ins
      by table.Scripts = others table.Scripts (λ q. cc) (λ q. cc) ∙ e.each table.Scripts
      by table.ScriptHeads = others table.ScriptHeads (λ q. cc) (λ q. cc) ∙ e.each table.ScriptHeads
      by table.Entries = others table.Entries (λ q. cc) (λ q. cc) ∙ e.each table.Entries

  row_added : (r : typed.TxRow) → Pushed buckets.Txids r.listed.txid (row_bytes r) old new → RowFits r → length (old table.Txs) + 1 < number_limit
      → Encode new (record T { txs = T.txs ++ r ∷ []; tx_heads = edit.set_head r.listed.txid (Some (length T.txs)) T.tx_heads })
  row_added r pushed fits few =
      let id = r.listed.txid in
      let many : length (old table.Txs) ≡ length T.txs = ap length (e.each table.Txs) ∙ length-map T.txs row_bytes in
      let txs_are : new table.Txs ≡ map row_bytes (T.txs ++ r ∷ []) =
      pushed.rows ∙ ap (λ (xs : List (List ℕ)). xs ++ row_bytes r ∷ []) (e.each table.Txs) ∙ sym (map-append row_bytes T.txs (r ∷ [])) in
      let set_to : new table.TxHeads ≡ set (old table.TxHeads) (bucket_in (length (old table.TxHeads)) id) (link_bytes (Some (length T.txs))) =
      pushed.heads ∙ ap (λ (n : ℕ). set (old table.TxHeads) (bucket_in (length (old table.TxHeads)) id) (link_bytes (Some n))) many in
      changed (T.txs ++ r ∷ []) (edit.set_head id (Some (length T.txs)) T.tx_heads) txs_are (heads_set id (Some (length T.txs)) set_to)
      (all_more RowFits T.txs r e.fit.txs fits) (all_set HeadFits T.tx_heads (bucket_in (length T.tx_heads) id) (Some (length T.txs)) e.fit.tx_heads (record { head = omega (arith, few, many) }))

  row_dropped : (r : typed.TxRow) (n : ℕ) → length T.txs ≡ n + 1 → link_number r.next < number_limit → Popped buckets.Txids r.listed.txid n r.next old new
      → Encode new (record T { txs = but_last T.txs; tx_heads = edit.set_head r.listed.txid r.next T.tx_heads })
  row_dropped r n long fits popped =
      let id = r.listed.txid in
      let txs_are : new table.Txs ≡ map row_bytes (but_last T.txs) =
      popped.rows ∙ ap (take n) (e.each table.Txs) ∙ take-map row_bytes n T.txs ∙ ap (map row_bytes) (sym (but_last_at T.txs n long)) in
      changed (but_last T.txs) (edit.set_head id r.next T.tx_heads) txs_are (heads_set id r.next popped.heads)
      (all_but_last RowFits T.txs e.fit.txs) (all_set HeadFits T.tx_heads (bucket_in (length T.tx_heads) id) r.next e.fit.tx_heads (record { head = fits }))

-- the row that the last one's bytes read as
module _ (T : typed.Tables) (old : held.Tables) (e : Encode old T) (r : TxRow) (n : ℕ) (long : length (old table.Txs) ≡ n + 1)
    (only : (s : TxRow) → FitsTxRow s → tx_row_bytes s ≡ get_or (old table.Txs) n [] → s ≡ r) where
  pub rows_are : length T.txs ≡ n + 1
  rows_are = sym (ap length (e.each table.Txs) ∙ length-map T.txs row_bytes) ∙ long

  last_fits : RowFits (get_or T.txs n no_tx_row)
  last_fits = all_at RowFits T.txs n no_tx_row e.fit.txs (omega (arith, rows_are))

  last_read : tx_fields (get_or T.txs n no_tx_row) ≡ r
  last_read =
      only (tx_fields (get_or T.txs n no_tx_row)) last_fits
      (sym (ap (λ (x : List (List ℕ)). get_or x n []) (e.each table.Txs) ∙ get_or-map row_bytes T.txs n no_tx_row [] (omega (arith, rows_are))))

-- a transaction more
pub tx_grows : (counts : HeadCounts) (bs : List ListedBlock) (l : Lists) (old new : held.Tables) (row : TxRow) (older next : Option ℕ)
    → Hold counts bs l old → OthersStay table.Txs table.TxHeads old new → 0 < counts.txs
    → Pushed buckets.Txids row.txid (tx_row_bytes (record row { older = older; next = next })) old new
    → older ≡ newest_of row.txid (map id_of l.txs) → next ≡ bucket_head counts.txs row.txid (map id_of l.txs)
    → FitsTxRow (record row { older = older; next = next }) → length (old table.Txs) + 1 < number_limit
    → Hold counts bs (add_tx (listed_tx row) l) new
tx_grows counts bs l old new row older next hold others some pushed older_is next_is fits few =
    let t = listed_tx row in
    let T = tables_of counts bs l in
    let made : typed.TxRow = record { listed = t; older = newest_tx row.txid l.txs; next = edit.head_of row.txid T.tx_heads } in
    let linked_is : record row { older = older; next = next } ≡ tx_fields made =
    ap₂ (λ (a b : Option ℕ). tx_fields (record { listed = t; older = a; next = b })) (older_is ∙ newest_listed row.txid l.txs) (next_is ∙ head_listed counts.txs row.txid l.txs some) in
    subst (Encode new) (sym (add_tx_rows counts bs l t some))
    (row_added T old new hold others made (subst (λ (x : TxRow). Pushed buckets.Txids row.txid (tx_row_bytes x) old new) linked_is pushed) (subst FitsTxRow linked_is fits) few)

-- a transaction less
pub tx_shrinks : (counts : HeadCounts) (bs : List ListedBlock) (l : Lists) (old new : held.Tables) (r : TxRow) (n : ℕ) (next : Option ℕ)
    → Hold counts bs l old → OthersStay table.Txs table.TxHeads old new → length (old table.Txs) ≡ n + 1
    → ((s : TxRow) → FitsTxRow s → tx_row_bytes s ≡ get_or (old table.Txs) n [] → s ≡ r) → next ≡ r.next
    → Popped buckets.Txids r.txid n next old new → Hold counts bs (take_back_tx l) new
tx_shrinks counts bs l old new r n next hold others long only next_is popped =
    let T = tables_of counts bs l in
    let row = get_or T.txs n no_tx_row in
    let is = last_read T old hold r n long only in
    let rows = rows_are T old hold r n long only in
    let txid_is : r.txid ≡ row.listed.txid = ap (λ (x : TxRow). x.txid) (sym is) in
    let link_is : next ≡ row.next = next_is ∙ ap (λ (x : TxRow). x.next) (sym is) in
    let dropped : Popped buckets.Txids row.listed.txid n row.next old new =
    subst (λ (h : Hash32). Popped buckets.Txids h n row.next old new) txid_is (subst (λ (o : Option ℕ). Popped buckets.Txids r.txid n o old new) link_is popped) in
    subst (Encode new) (sym (take_back_tx_rows counts bs l ∙ ap (λ (o : Option typed.TxRow). edit.tx_dropped o T) (last_at T.txs n no_tx_row rows)))
    (row_dropped T old new hold others row n rows (last_fits T old hold r n long only).next dropped)

-- of no transactions none is less
pub none_shrinks : (l : Lists) → length l.txs ≡ 0 → take_back_tx l ≡ l
none_shrinks l none = ap (λ (ts : List ListedTx). record l { txs = ts }) (by l.txs none)
  where
    by : (ts : List ListedTx) → length ts ≡ 0 → but_last ts ≡ ts
    by [] none = refl
    by (t ∷ ts) none = absurd (omega arith)

-- The rows after `add_tx` and `take_back_tx`.
use Rattle.std.proofs.Common.{◌≡◌, ℕ, ◌+◌, ◌<◌, ◌==◌, List, [], ◌∷◌, ◌++◌, length, Option, Some, refl, ap, ap₂, sym, ◌∙◌, arith}
use Rattle.std.proofs.lemmas.List.{take_at, take-append-le}
use Rattle.el_base.specs.declared.hash.Hash32.{Hash32}
use Rattle.el_chain.specs.Headers.{same_hash}
use Rattle.el_tables.specs.Lists.{ListedTx, Lists, newest_from, newest_tx, add_tx, no_lists}
use Rattle.el_tables.specs.ChainLists.{ListedBlock}
use Rattle.el_tables.specs.Disconnecting.{but_last, last, take_back_tx}
use Rattle.el_tables.specs.Tables.{TxRow, HeadCounts, bucket_in, greatest_from, greatest, rows_from, heads, tx_row, tables_of}
use Rattle.el_tables.specs.Edits.{set_head, tx_added, tx_dropped, no_links, with_heads, with_blocks}
use Rattle.el_tables.proofs.Outputs.{from_front}
use Rattle.el_tables.proofs.TakeBack.{but_last_is, last_is}
use Rattle.el_tables.proofs.RowLists.{rows_grown, length_rows, head_is, heads_more, heads_less, no_heads}

pub newest_is : (n : ℕ) (id : Hash32) (ts : List ListedTx) → newest_from n id ts ≡ greatest_from n (λ (u : ListedTx). same_hash u.txid id) ts
newest_is n id [] = refl
newest_is n id (t ∷ ts) = let rest = newest_is (n + 1) id ts in rw rest refl

-- the rows with one more, by its own
txs_grown : (count : ℕ) (ts : List ListedTx) (t : ListedTx) → rows_from (tx_row count (ts ++ t ∷ [])) 0 (ts ++ t ∷ [])
    ≡ rows_from (tx_row count ts) 0 ts ++ record { listed = t; older = newest_tx t.txid ts; next = greatest (λ (u : ListedTx). bucket_in count u.txid == bucket_in count t.txid) ts } ∷ []
txs_grown count ts t = rows_grown (tx_row count ts) (tx_row count (ts ++ t ∷ [])) ts t _ same new
  where
    same : (i : ℕ) (u : ListedTx) → i < length ts → tx_row count (ts ++ t ∷ []) i u ≡ tx_row count ts i u
    same i u lt = let front = take-append-le i ts (t ∷ []) (omega arith) in rw front refl

    new : tx_row count (ts ++ t ∷ []) (length ts) t
        ≡ record { listed = t; older = newest_tx t.txid ts; next = greatest (λ (u : ListedTx). bucket_in count u.txid == bucket_in count t.txid) ts }
    new = let front = take_at ts (t ∷ []) (length ts) refl in let old = newest_is 0 t.txid ts in rw (front, old) refl

pub add_tx_rows : (counts : HeadCounts) (bs : List ListedBlock) (l : Lists) (t : ListedTx) → 0 < counts.txs
    → tables_of counts bs (add_tx t l) ≡ tx_added t (newest_tx t.txid l.txs) (tables_of counts bs l)
add_tx_rows counts bs l t some =
    let id = λ (u : ListedTx). u.txid in
    let head = head_is counts.txs id l.txs t.txid some in
    let long = length_rows (tx_row counts.txs l.txs) 0 l.txs in
    ap₂ (λ (rows : List TxRow) (hs : List (Option ℕ)). record (tables_of counts bs l) { txs = rows; tx_heads = hs })
    (txs_grown counts.txs l.txs t ∙ ap (λ (o : Option ℕ). rows_from (tx_row counts.txs l.txs) 0 l.txs ++ record { listed = t; older = newest_tx t.txid l.txs; next = o } ∷ []) (sym head))
    (heads_more counts.txs id l.txs t ∙ ap (λ (n : ℕ). set_head t.txid (Some n) (heads counts.txs id l.txs)) (sym long))

pub take_back_tx_rows : (counts : HeadCounts) (bs : List ListedBlock) (l : Lists)
    → tables_of counts bs (take_back_tx l) ≡ tx_dropped (last (tables_of counts bs l).txs) (tables_of counts bs l)
take_back_tx_rows counts bs l =
    from_front (λ (ts : List ListedTx). tables_of counts bs (take_back_tx (record l { txs = ts })) ≡ tx_dropped (last (tables_of counts bs (record l { txs = ts })).txs) (tables_of counts bs (record l { txs = ts })))
    refl (λ ts t before. step ts t) l.txs
  where
    step : (ts : List ListedTx) (t : ListedTx) → tables_of counts bs (take_back_tx (record l { txs = ts ++ t ∷ [] }))
        ≡ tx_dropped (last (tables_of counts bs (record l { txs = ts ++ t ∷ [] })).txs) (tables_of counts bs (record l { txs = ts ++ t ∷ [] }))
    step ts t =
        let id = λ (u : ListedTx). u.txid in
        let next = greatest (λ (u : ListedTx). bucket_in counts.txs u.txid == bucket_in counts.txs t.txid) ts in
        let row : TxRow = record { listed = t; older = newest_tx t.txid ts; next = next } in
        let rows = rows_from (tx_row counts.txs ts) 0 ts in
        let grown = txs_grown counts.txs ts t in
        let found : last (rows_from (tx_row counts.txs (ts ++ t ∷ [])) 0 (ts ++ t ∷ [])) ≡ Some row = ap last grown ∙ last_is rows row in
        let left : but_last (rows_from (tx_row counts.txs (ts ++ t ∷ [])) 0 (ts ++ t ∷ [])) ≡ rows = ap but_last grown ∙ but_last_is rows row in
        let back = but_last_is ts t in
        ap (λ (us : List ListedTx). tables_of counts bs (record l { txs = us })) back
        ∙ ap₂ (λ (rs : List TxRow) (hs : List (Option ℕ)). record (tables_of counts bs (record l { txs = ts })) { txs = rs; tx_heads = hs }) (sym left) (heads_less counts.txs id ts t)
        ∙ ap (λ (r : Option TxRow). tx_dropped r (tables_of counts bs (record l { txs = ts ++ t ∷ [] }))) (sym found)

pub first_heads : (none counts : HeadCounts) (bs : List ListedBlock)
    → tables_of counts bs no_lists ≡ with_heads (no_links counts.txs) (no_links counts.scripts) (tables_of none bs no_lists)
first_heads none counts bs =
    ap₂ (λ (a b : List (Option ℕ)). with_heads a b (tables_of none bs no_lists)) (no_heads counts.txs (λ (t : ListedTx). t.txid)) (no_heads counts.scripts (λ (s : Hash32). s))

pub other_blocks : (counts : HeadCounts) (old bs : List ListedBlock) (l : Lists) → tables_of counts bs l ≡ with_blocks bs (tables_of counts old l)
other_blocks counts old bs l = refl

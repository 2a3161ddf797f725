-- Heads and rows of buckets, as their bytes read.
use Rattle.std.proofs.Common.{◌≡◌, ℕ, ◌+◌, ◌<◌, Bool, List, [], ◌∷◌, length, map, take, get_or, Option, None, Some, refl, ap, sym, ◌∙◌, arith, if◌then◌else◌, mod-lt, ◌*◌}
use Rattle.std.specs.List.{AllByRecursion}
use Rattle.std.proofs.lemmas.List.{get_or-map, take-map, length-map, length-take-le}
use Rattle.std.proofs.lemmas.Bool.{lt-ltb}
use Rattle.el_base.specs.declared.hash.Hash32.{Hash32}
use Rattle.el_chain.specs.Chains.{zero_hash}
use Rattle.el_tables.specs.ChainLists.{ListedBlock}
use Rattle.el_tables.specs.Lists.{ListedTx, Lists}
use Rattle.el_tables.specs.Tables as typed
use Rattle.el_tables.specs.Tables.{HeadCounts, bucket_in, greatest, rows_from, heads, tx_row, script_row}
use Rattle.el_tables.specs.Edits as edit
use Rattle.el_tables.proofs.RowLists.{head_is, rows_at, length_rows}
use Rattle.el_tables.proofs.Tables.{length_heads}
use Rattle.el_row_formats.specs.Tables as held
use Rattle.el_row_formats.specs.declared.table.Table.TheVariants as table
use Rattle.el_row_formats.specs.declared.head_row.HeadRow.{HeadRow}
use Rattle.el_row_formats.specs.declared.tx_row.TxRow.{TxRow}
use Rattle.el_row_formats.specs.declared.script_row.ScriptRow.{ScriptRow}
use Rattle.el_row_formats.specs.RowBytes.{tx_row_bytes, head_row_bytes, script_row_bytes, FitsTxRow, FitsHeadRow, FitsScriptRow}
use Rattle.el_buckets.specs.declared.bucket.Buckets.{Buckets}
use Rattle.el_buckets.specs.declared.bucket.Buckets.TheVariants as buckets
use Rattle.el_schema.specs.Rows.{Hold, head_fields, tx_fields, script_fields}
use Rattle.el_buckets.specs.Buckets.{rows_table, heads_of, hashes_of, count_of, below, share_bucket, bucket_head}
use Rattle.el_schema.proofs.Held.{all_at, greatest_map, no_tx, no_tx_row, count_txs, count_scripts}
use Rattle.el_buckets.proofs.Walks.{greatest_passes}

-- the greatest is below the count
pub below_all : {X : Type 0} (test : X → Bool) (d : X) (xs : List X) (n : ℕ) → length xs ≡ n → below n (greatest test xs) ≡ greatest test xs
below_all test d xs n long = by (greatest test xs) (λ m is. let p = (greatest_passes test d xs m is).0 in omega arith)
  where
    by : (o : Option ℕ) → ((m : ℕ) → o ≡ Some m → m < n) → below n o ≡ o
    by None less = refl
    by (Some m) less = ap (λ b. if b then Some m else None) (lt-ltb m n (less m refl))

bucket_within : (count : ℕ) (h : Hash32) → 0 < count → bucket_in count h < count
unfolding bucket_in
bucket_within count h some = mod-lt (get_or h.0 0 0 + 256 * get_or h.0 1 0 + 65536 * get_or h.0 2 0) some

-- the head that a row of bytes reads as
head_read : (hs : List (Option ℕ)) (b : ℕ) (rows : List (List ℕ)) (r : HeadRow) → rows ≡ map (λ link. head_row_bytes (head_fields link)) hs
    → AllByRecursion (λ link. FitsHeadRow (head_fields link)) hs → b < length hs
    → ((s : HeadRow) → FitsHeadRow s → head_row_bytes s ≡ get_or rows b [] → s ≡ r) → r.head ≡ get_or hs b None
head_read hs b rows r is fit lt only =
    let bytes : head_row_bytes (head_fields (get_or hs b None)) ≡ get_or rows b [] =
    sym (ap (λ (l : List (List ℕ)). get_or l b []) is ∙ get_or-map (λ link. head_row_bytes (head_fields link)) hs b None [] lt) in
    sym (ap (λ (s : HeadRow). s.head) (only (head_fields (get_or hs b None)) (all_at (λ link. FitsHeadRow (head_fields link)) hs b None fit lt) bytes))

-- it is the greatest of the bucket
head_greatest : {X : Type 0} (count : ℕ) (hash : X → Hash32) (xs : List X) (h : Hash32) (rows : List (List ℕ)) (r : HeadRow) → 0 < count
    → rows ≡ map (λ link. head_row_bytes (head_fields link)) (heads count hash xs) → AllByRecursion (λ link. FitsHeadRow (head_fields link)) (heads count hash xs)
    → ((s : HeadRow) → FitsHeadRow s → head_row_bytes s ≡ get_or rows (bucket_in (length rows) h) [] → s ≡ r)
    → r.head ≡ bucket_head count h (map hash xs)
head_greatest count hash xs h rows r some is fit only =
    let hs = heads count hash xs in
    let many = length_heads count hash xs in
    let long : length rows ≡ count = ap length is ∙ length-map hs (λ link. head_row_bytes (head_fields link)) ∙ many in
    let lt : bucket_in (length rows) h < length hs = (let w = bucket_within count h some in rw (long, many) w) in
    head_read hs (bucket_in (length rows) h) rows r is fit lt only
    ∙ ap (λ (c : ℕ). get_or hs (bucket_in c h) None) (long ∙ sym many)
    ∙ head_is count hash xs h some
    ∙ sym (greatest_map 0 (share_bucket count h) hash xs)

pub head_found : (k : Buckets) (counts : HeadCounts) (bs : List ListedBlock) (l : Lists) (rows : held.Tables) (h : Hash32) (r : HeadRow) (buf : List ℕ) → Hold counts bs l rows → 0 < count_of k counts
    → buf ≡ get_or (rows (heads_of k)) (bucket_in (length (rows (heads_of k))) h) []
    → ((s : HeadRow) → FitsHeadRow s → head_row_bytes s ≡ buf → s ≡ r)
    → below (length (rows (rows_table k))) r.head ≡ bucket_head (count_of k counts) h (hashes_of k l)
head_found buckets.Txids counts bs l rows h r buf hold some is only =
    let hash : ListedTx → Hash32 = λ (t : ListedTx). t.txid in
    let found = head_greatest counts.txs hash l.txs h (rows table.TxHeads) r some (hold.each table.TxHeads) hold.fit.tx_heads (λ s fits e. only s fits (e ∙ sym is)) in
    ap (below (length (rows table.Txs))) found
    ∙ below_all (share_bucket counts.txs h) zero_hash (map hash l.txs) (length (rows table.Txs)) (length-map l.txs hash ∙ sym (count_txs counts bs l rows hold))
head_found buckets.ScriptHashes counts bs l rows h r buf hold some is only =
    let found = head_greatest counts.scripts (λ s. s) l.scripts h (rows table.ScriptHeads) r some (hold.each table.ScriptHeads) hold.fit.script_heads (λ s fits e. only s fits (e ∙ sym is)) in
    let same : map (λ s. s) l.scripts ≡ l.scripts = map-id l.scripts in
    ap (below (length (rows table.Scripts))) (found ∙ ap (bucket_head counts.scripts h) same)
    ∙ below_all (share_bucket counts.scripts h) zero_hash l.scripts (length (rows table.Scripts)) (sym (count_scripts counts bs l rows hold))
  where
    map-id : (xs : List Hash32) → map (λ s. s) xs ≡ xs
    map-id [] = refl
    map-id (x ∷ xs) = ap (λ ys. x ∷ ys) (map-id xs)

-- the hash of a row, and the link to the next, that its bytes read as
pub row_found : (k : Buckets) (counts : HeadCounts) (bs : List ListedBlock) (l : Lists) (rows : held.Tables) (n : ℕ) (buf : List ℕ) (hash : Hash32) (next : Option ℕ) → Hold counts bs l rows
    → n < length (rows (rows_table k)) → buf ≡ get_or (rows (rows_table k)) n []
    → ((r : TxRow) → k ≡ buckets.Txids → FitsTxRow r → tx_row_bytes r ≡ buf → (hash ≡ r.txid) × (next ≡ r.next))
    → ((r : ScriptRow) → k ≡ buckets.ScriptHashes → FitsScriptRow r → script_row_bytes r ≡ buf → (hash ≡ r.script) × (next ≡ r.next))
    → (hash ≡ get_or (hashes_of k l) n zero_hash) × (below n next ≡ bucket_head (count_of k counts) hash (take n (hashes_of k l))) × (next ≡ bucket_head (count_of k counts) hash (take n (hashes_of k l)))
row_found buckets.Txids counts bs l rows n buf hash next hold lt is tx script =
    let ts = l.txs in
    let c = counts.txs in
    let typed_rows = rows_from (tx_row c ts) 0 ts in
    let few : n < length ts = (let many = count_txs counts bs l rows hold in omega arith) in
    let few_rows : n < length typed_rows = (let many = length_rows (tx_row c ts) 0 ts in omega arith) in
    let row = get_or typed_rows n no_tx_row in
    let bytes : tx_row_bytes (tx_fields row) ≡ buf =
    sym (is ∙ ap (λ (x : List (List ℕ)). get_or x n []) (hold.each table.Txs) ∙ get_or-map (λ r. tx_row_bytes (tx_fields r)) typed_rows n no_tx_row [] few_rows) in
    let both = tx (tx_fields row) refl (all_at (λ r. FitsTxRow (tx_fields r)) typed_rows n no_tx_row hold.fit.txs few_rows) bytes in
    let t = get_or ts n no_tx in
    let row_is : row ≡ tx_row c ts n t = rows_at (tx_row c ts) no_tx_row no_tx 0 n n ts (omega arith) few in
    let hash_is : hash ≡ t.txid = both.0 ∙ ap (λ (r : typed.TxRow). r.listed.txid) row_is in
    let id : ListedTx → Hash32 = λ (u : ListedTx). u.txid in
    let links : next ≡ bucket_head c hash (take n (map id ts)) =
    both.1 ∙ ap (λ (r : typed.TxRow). r.next) row_is ∙ sym (greatest_map 0 (share_bucket c t.txid) id (take n ts))
    ∙ ap (λ (xs : List Hash32). bucket_head c t.txid xs) (sym (take-map id n ts)) ∙ ap (λ (h : Hash32). bucket_head c h (take n (map id ts))) (sym hash_is) in
    let short : length (take n (map id ts)) ≡ n = length-take-le n (map id ts) (let m = length-map ts id in omega arith) in
    (hash_is ∙ sym (get_or-map id ts n no_tx zero_hash few), ap (below n) links ∙ below_all (share_bucket c hash) zero_hash (take n (map id ts)) n short, links)
row_found buckets.ScriptHashes counts bs l rows n buf hash next hold lt is tx script =
    let ss = l.scripts in
    let c = counts.scripts in
    let typed_rows = rows_from (script_row c l) 0 ss in
    let few : n < length ss = (let many = count_scripts counts bs l rows hold in omega arith) in
    let few_rows : n < length typed_rows = (let many = length_rows (script_row c l) 0 ss in omega arith) in
    let row = get_or typed_rows n edit.no_row in
    let bytes : script_row_bytes (script_fields row) ≡ buf =
    sym (is ∙ ap (λ (x : List (List ℕ)). get_or x n []) (hold.each table.Scripts) ∙ get_or-map (λ r. script_row_bytes (script_fields r)) typed_rows n edit.no_row [] few_rows) in
    let both = script (script_fields row) refl (all_at (λ r. FitsScriptRow (script_fields r)) typed_rows n edit.no_row hold.fit.scripts few_rows) bytes in
    let s = get_or ss n zero_hash in
    let row_is : row ≡ script_row c l n s = rows_at (script_row c l) edit.no_row zero_hash 0 n n ss (omega arith) few in
    let hash_is : hash ≡ s = both.0 ∙ ap (λ (r : typed.ScriptRow). r.script) row_is in
    let links : next ≡ bucket_head c hash (take n ss) =
    both.1 ∙ ap (λ (r : typed.ScriptRow). r.next) row_is ∙ ap (λ (h : Hash32). bucket_head c h (take n ss)) (sym hash_is) in
    let short : length (take n ss) ≡ n = length-take-le n ss (omega arith) in
    (hash_is, ap (below n) links ∙ below_all (share_bucket c hash) zero_hash (take n ss) n short, links)

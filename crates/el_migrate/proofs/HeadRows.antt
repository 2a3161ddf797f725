-- Rows of heads.
use Rattle.std.proofs.Common.{◌≡◌, ◌==◌, ◌<◌, ℕ, Option, None, List, [], length, map, get_or, ap, sym, subst, ◌∙◌, arith}
use Rattle.std.proofs.Math.Path.{fun_ext}
use Rattle.std.proofs.lemmas.List.{length-map, get_or-map, take_all}
use Rattle.el_base.specs.declared.hash.Hash32.{Hash32}
use Rattle.el_row_formats.specs.declared.table.Table.TheVariants as table
use Rattle.el_row_formats.specs.RowBytes.{head_row_bytes, link_number}
use Rattle.el_row_formats.specs.OldRowBytes.{old_tx_row_bytes, old_script_row_bytes}
use Rattle.el_tables.specs.ChainLists.{ListedBlock}
use Rattle.el_tables.specs.Lists.{ListedTx, Lists}
use Rattle.el_tables.specs.Tables.{HeadCounts, bucket_in, heads, numbers_from, rows_from, tx_row, script_row}
use Rattle.el_tables.proofs.RowLists.{length_rows}
use Rattle.el_tables.proofs.Tables.{length_heads}
use Rattle.el_schema.specs.Rows.{tx_fields, head_fields, script_fields}
use Rattle.el_schema.proofs.Held.{greatest_map}
use Rattle.el_migrate.specs.within.Moving.{AreHeads, HeadsOf, HasOldRows, new_rows}
use Rattle.el_migrate.proofs.HeadLists.{head_at}

-- the bytes of all heads
abbrev pub head_rows : ℕ → List Hash32 → List (List ℕ)
head_rows n hashes = map (λ link. head_row_bytes (head_fields link)) (heads n (λ (h : Hash32). h) hashes)

-- the row of a bucket
pub head_row_at : (links : List ℕ) (hashes : List Hash32) (k : ℕ) (link : Option ℕ) → AreHeads links hashes → k < length links → link_number link ≡ get_or links k 0
    → head_row_bytes (head_fields link) ≡ get_or (head_rows (length links) hashes) k []
head_row_at links hashes k link are within is =
    let all = heads (length links) (λ (h : Hash32). h) hashes in
    let long = length_heads (length links) (λ (h : Hash32). h) hashes in
    ap (λ (o : Option ℕ). head_row_bytes (head_fields o)) (head_at links hashes k link are within is)
    ∙ sym (get_or-map (λ (o : Option ℕ). head_row_bytes (head_fields o)) all k None [] (omega (arith, long, within)))

-- once all transactions were moved
pub txs_whole : (counts : HeadCounts) (bs : List ListedBlock) (l : Lists) (n : ℕ) (file links : List ℕ) → HasOldRows counts bs l table.Txs n file → HeadsOf table.Txs l n links
    → AreHeads links (map (λ (t : ListedTx). t.txid) l.txs)
txs_whole counts bs l n file links had are =
    let many = had.many in
    let long = length-map (rows_from (tx_row counts.txs l.txs) 0 l.txs) (λ r. old_tx_row_bytes (tx_fields r)) ∙ length_rows (tx_row counts.txs l.txs) 0 l.txs in
    subst (λ (xs : List ListedTx). AreHeads links (map (λ (t : ListedTx). t.txid) xs)) (take_all n l.txs (omega (arith, many, long))) are

pub tx_head_rows : (n : ℕ) (bs : List ListedBlock) (l : Lists) → head_rows n (map (λ (t : ListedTx). t.txid) l.txs) ≡ new_rows n bs l table.TxHeads
tx_head_rows n bs l =
    let id : ListedTx → Hash32 = λ t. t.txid in
    ap (λ (f : ℕ → Option ℕ). map (λ link. head_row_bytes (head_fields link)) (map f (numbers_from 0 n))) (fun_ext (λ b. greatest_map 0 (λ (h : Hash32). bucket_in n h == b) id l.txs))

-- once all scripts were moved
pub scripts_whole : (counts : HeadCounts) (bs : List ListedBlock) (l : Lists) (n : ℕ) (file links : List ℕ) → HasOldRows counts bs l table.Scripts n file → HeadsOf table.Scripts l n links
    → AreHeads links l.scripts
scripts_whole counts bs l n file links had are =
    let many = had.many in
    let long = length-map (rows_from (script_row counts.scripts l) 0 l.scripts) (λ r. old_script_row_bytes (script_fields r)) ∙ length_rows (script_row counts.scripts l) 0 l.scripts in
    subst (λ (xs : List Hash32). AreHeads links xs) (take_all n l.scripts (omega (arith, many, long))) are

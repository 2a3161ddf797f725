-- No two rows of a table have the same bytes in format 1.
use Rattle.std.proofs.Common.{◌≡◌, ℕ, ◌<◌, ◌^◌, List, [], ◌++◌, Option, drop, sym, ap, ◌∙◌}
use Rattle.el_base.proofs.Lists.{same_cut}
use Rattle.el_base.proofs.ByteLemmas.{number_again}
use Rattle.el_row_formats.specs.declared.block_row.BlockRow.{BlockRow}
use Rattle.el_row_formats.specs.declared.tx_row.TxRow.{TxRow}
use Rattle.el_row_formats.specs.declared.head_row.HeadRow.{HeadRow}
use Rattle.el_row_formats.specs.declared.out_row.OutRow.{OutRow}
use Rattle.el_row_formats.specs.declared.in_row.InRow.{InRow}
use Rattle.el_row_formats.specs.declared.script_row.ScriptRow.{ScriptRow}
use Rattle.el_row_formats.specs.declared.entry_row.EntryRow.{EntryRow}
use Rattle.el_row_formats.specs.RowBytes.{link_number, state_number, state_by, state_of}
use Rattle.el_row_formats.specs.OldRowBytes.{old_number_limit, old_link_bytes, old_out_row_bytes, FitsOldOutRow, ReadsAsOldOut, old_block_row_bytes, FitsOldBlockRow, old_tx_row_bytes, FitsOldTxRow, old_head_row_bytes, FitsOldHeadRow, old_in_row_bytes, FitsOldInRow, old_script_row_bytes, FitsOldScriptRow, old_entry_row_bytes, FitsOldEntryRow}
use Rattle.el_row_formats.proofs.RowLemmas.{long_again, same_link, state_again, same_block_fields, same_tx_fields, same_head_fields, same_out_fields, same_in_fields, same_script_fields, same_entry_fields}

old_link_again : (a b : Option ℕ) (x y : List ℕ) → link_number a < old_number_limit → link_number b < old_number_limit → old_link_bytes a ++ x ≡ old_link_bytes b ++ y → (a ≡ b) × (x ≡ y)
old_link_again a b x y p q e = let both = number_again (link_number a) (link_number b) x y p q e in (same_link a b both.0, both.1)

pub one_old_block_row : (r s : BlockRow) → FitsOldBlockRow r → FitsOldBlockRow s → old_block_row_bytes r ≡ old_block_row_bytes s → r ≡ s
one_old_block_row r s p q e =
    let a0 = same_cut r.header _ s.header _ (p.header ∙ sym q.header) e in
    let a1 = number_again r.place.file s.place.file _ _ p.file q.file a0.1 in
    let a2 = long_again r.place.offset s.place.offset _ _ p.offset q.offset a1.1 in
    let a3 = number_again r.place.len s.place.len _ _ p.len q.len a2.1 in
    let a4 = number_again r.first_tx s.first_tx _ _ p.first_tx q.first_tx a3.1 in
    let a5 = number_again r.txs s.txs _ _ p.txs q.txs a4.1 in
    let a6 = long_again r.sum s.sum [] [] p.sum q.sum a5.1 in
    same_block_fields r.header s.header r.place.file s.place.file r.place.offset s.place.offset r.place.len s.place.len r.first_tx s.first_tx r.txs s.txs r.sum s.sum a0.0 a1.0 a2.0 a3.0 a4.0 a5.0 a6.0 (λ x0 x1 x2 x3 x4 x5 x6. record { header = x0; place = record { file = x1; offset = x2; len = x3 }; first_tx = x4; txs = x5; sum = x6 })

pub one_old_tx_row : (r s : TxRow) → FitsOldTxRow r → FitsOldTxRow s → old_tx_row_bytes r ≡ old_tx_row_bytes s → r ≡ s
one_old_tx_row r s p q e =
    let a0 = same_cut r.txid.0 _ s.txid.0 _ (p.txid ∙ sym q.txid) e in
    let a1 = number_again r.height s.height _ _ p.height q.height a0.1 in
    let a2 = number_again r.start s.start _ _ p.start q.start a1.1 in
    let a3 = number_again r.len s.len _ _ p.len q.len a2.1 in
    let a4 = number_again r.first_out s.first_out _ _ p.first_out q.first_out a3.1 in
    let a5 = number_again r.outs s.outs _ _ p.outs q.outs a4.1 in
    let a6 = number_again r.first_in s.first_in _ _ p.first_in q.first_in a5.1 in
    let a7 = number_again r.ins s.ins _ _ p.ins q.ins a6.1 in
    let a8 = old_link_again r.older s.older _ _ p.older q.older a7.1 in
    let a9 = old_link_again r.next s.next [] [] p.next q.next a8.1 in
    same_tx_fields r.txid.0 s.txid.0 r.height s.height r.start s.start r.len s.len r.first_out s.first_out r.outs s.outs r.first_in s.first_in r.ins s.ins r.older s.older r.next s.next a0.0 a1.0 a2.0 a3.0 a4.0 a5.0 a6.0 a7.0 a8.0 a9.0 (λ x0 x1 x2 x3 x4 x5 x6 x7 x8 x9. record { txid = record { 0 = x0 }; height = x1; start = x2; len = x3; first_out = x4; outs = x5; first_in = x6; ins = x7; older = x8; next = x9 })

pub one_old_head_row : (r s : HeadRow) → FitsOldHeadRow r → FitsOldHeadRow s → old_head_row_bytes r ≡ old_head_row_bytes s → r ≡ s
one_old_head_row r s p q e =
    let a0 = old_link_again r.head s.head [] [] p.head q.head e in
    same_head_fields r.head s.head a0.0 (λ x0. record { head = x0 })

pub one_old_in_row : (r s : InRow) → FitsOldInRow r → FitsOldInRow s → old_in_row_bytes r ≡ old_in_row_bytes s → r ≡ s
one_old_in_row r s p q e =
    let a0 = number_again r.out s.out [] [] p.out q.out e in
    same_in_fields r.out s.out a0.0 (λ x0. record { out = x0 })

pub one_old_script_row : (r s : ScriptRow) → FitsOldScriptRow r → FitsOldScriptRow s → old_script_row_bytes r ≡ old_script_row_bytes s → r ≡ s
one_old_script_row r s p q e =
    let a0 = same_cut r.script.0 _ s.script.0 _ (p.script ∙ sym q.script) e in
    let a1 = old_link_again r.next s.next _ _ p.next q.next a0.1 in
    let a2 = old_link_again r.last s.last _ _ p.last q.last a1.1 in
    let a3 = number_again r.entries s.entries _ _ p.entries q.entries a2.1 in
    let a4 = long_again r.balance s.balance [] [] p.balance q.balance a3.1 in
    same_script_fields r.script.0 s.script.0 r.next s.next r.last s.last r.entries s.entries r.balance s.balance a0.0 a1.0 a2.0 a3.0 a4.0 (λ x0 x1 x2 x3 x4. record { script = record { 0 = x0 }; next = x1; last = x2; entries = x3; balance = x4 })

pub one_old_entry_row : (r s : EntryRow) → FitsOldEntryRow r → FitsOldEntryRow s → old_entry_row_bytes r ≡ old_entry_row_bytes s → r ≡ s
one_old_entry_row r s p q e =
    let a0 = number_again r.tx s.tx _ _ p.tx q.tx e in
    let a1 = number_again r.script s.script _ _ p.script q.script a0.1 in
    let a2 = old_link_again r.before s.before [] [] p.before q.before a1.1 in
    same_entry_fields r.tx s.tx r.script s.script r.before s.before a0.0 a1.0 a2.0 (λ x0 x1 x2. record { tx = x0; script = x1; before = x2 })

-- what is written as an output's row is read again
pub one_old_out_row : (r s : OutRow) (bytes : List ℕ) (reads : ReadsAsOldOut bytes s) → FitsOldOutRow r → s.tx < old_number_limit → s.value < 2 ^ 64 → s.script < old_number_limit → reads.by < old_number_limit → old_out_row_bytes r ≡ bytes → r ≡ s
one_old_out_row r s bytes reads p tx value script by e =
    let a = number_again r.tx s.tx _ _ p.tx tx (e ∙ reads.fields) in
    let b = long_again r.value s.value _ _ p.value value a.1 in
    let c = number_again r.script s.script _ _ p.script script b.1 in
    let kind : state_number r.state ≡ reads.state = cc in
    let rest = number_again (state_by r.state) reads.by [] [] p.by by (ap (λ (t : List ℕ). drop 1 t) c.1) in
    let same : r.state ≡ s.state = sym (state_again r.state) ∙ ap (λ n. state_of n (state_by r.state)) kind ∙ ap (λ n. state_of reads.state n) rest.0 ∙ sym reads.is in
    same_out_fields r.tx s.tx r.value s.value r.script s.script r.state s.state a.0 b.0 c.0 same (λ x y z w. record { tx = x; value = y; script = z; state = w })

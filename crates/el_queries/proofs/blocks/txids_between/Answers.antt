use Rattle.std.proofs.Common.{◌≡◌, ℕ, suc, ◌+◌, ◌-◌, min, List, [], ◌∷◌, ◌++◌, length, map, take, drop, slice_get, Some, option_map, refl, ap, sym, subst, ◌∙◌, arith, length-drop}
use Rattle.std.proofs.lemmas.List.{length-map}
use Rattle.el_base.specs.declared.hash.Hash32.{Hash32}
use Rattle.el_tables.specs.Tables as typed
use Rattle.el_row_formats.specs.declared.table.Table.TheVariants as table
use Rattle.el_row_formats.specs.declared.tx_row.TxRow.{TxRow}
use Rattle.el_row_formats.specs.RowBytes.{tx_row_bytes}
use Rattle.el_rows.proofs.TransactionLemmas.{more}
use Rattle.el_schema.specs.Rows.{Encode, tx_fields}
use Rattle.el_queries.proofs.Fronts.{one_more, slice_drop, take_short}
use Rattle.el_queries.proofs.blocks.txids_between.Goals as goal

abbrev id_in_row : typed.TxRow → Hash32
id_in_row r = r.listed.txid

abbrev id_of_row : TxRow → Hash32
id_of_row r = r.txid

pub loop-n-preserved : goal.loop-n-preserved
loop-n-preserved g c = record {
  read = more c.loop-n.invariant.read c.in_ok-row.ensures.read;
  rows = omega (arith, c.tx_row.ensures.rows, c.loop-n.invariant.rows);
  within = omega (arith, c.loop-n-test.true);
  txids = λ tb told same.
      let before = subst (λ T. Encode T tb) (sym c.loop-n.invariant.read.tables) same in
      let first = c.args.first in
      let k = c.loop-n.n - first in
      let row = c.in_ok-row.row in
      let at = slice_drop tb.txs first c.loop-n.n c.loop-n.auto.n in
      let row_at : Some row ≡ option_map tx_fields (slice_get (drop first tb.txs) k) = c.in_ok-row.ensures.row tb told before ∙ ap (option_map tx_fields) (sym at) in
      let one = one_more tx_fields id_in_row id_of_row (λ r. refl) (drop first tb.txs) k row row_at in
      let next : suc k ≡ c.loop-n.n + 1 - first = (let le = c.loop-n.auto.n in omega arith) in
      c.in_ok-push.ensures.items ∙ ap (λ (xs : List Hash32). xs ++ row.txid ∷ []) (c.loop-n.invariant.txids tb told same)
      ∙ one ∙ ap (λ (m : ℕ). map id_in_row (take m (drop first tb.txs))) next;
}

pub returns-clause-txids : goal.returns-clause-txids
returns-clause-txids g c tb told same =
    let first = c.args.first in
    let many : c.count.result ≡ length tb.txs = c.count.ensures.count ∙ ap length (same.each table.Txs) ∙ length-map tb.txs (λ r. tx_row_bytes (tx_fields r)) in
    let left = length-drop first tb.txs in
    let is : c.loop-n.n - first ≡ min (c.args.end - first) (length (drop first tb.txs)) =
    (let a = c.min-most.ensures in let f = c.from-count.ensures in let b = c.loop-n-test.false in let d = c.loop-n.invariant.within in let e = c.loop-n.auto.n in omega arith) in
    c.loop-n.invariant.txids tb told same ∙ ap (map id_in_row) (take_short (c.args.end - first) (c.loop-n.n - first) (drop first tb.txs) is)

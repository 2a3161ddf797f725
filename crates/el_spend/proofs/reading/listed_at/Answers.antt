use Rattle.std.proofs.Common.{◌≡◌, ◌≤◌, ℕ, zero, suc, List, [], ◌∷◌, length, map, get_or, refl, ap, sym, ◌∙◌, arith}
use Rattle.std.proofs.lemmas.List.{get_or-map}
use Rattle.el_chain.specs.Chains.{zero_hash}
use Rattle.el_tables.specs.Lists.{ListedTx}
use Rattle.el_tables.specs.Tables.{tables_of}
use Rattle.el_rows.specs.Transaction.{with_edits}
use Rattle.el_row_formats.specs.declared.tx_row.TxRow.{TxRow}
use Rattle.el_schema.proofs.Held.{count_txs, no_tx}
use Rattle.el_schema.proofs.Rows.{listed_row, row_within}
use Rattle.el_spend.proofs.reading.listed_at.Goals as goal

past : {X Y : Type 0} (f : X → Y) (xs : List X) (n : ℕ) (d : Y) → length xs ≤ n → d ≡ get_or (map f xs) n d
past f [] n d le = refl
past f (x ∷ xs) zero d le = absurd (omega arith)
past f (x ∷ xs) (suc n) d le = past f xs n d (omega arith)

pub returns-then-tx-count-clause-listed : goal.returns-then-tx-count-clause-listed
returns-then-tx-count-clause-listed g c counts bs l told hold =
    let many = count_txs counts bs l (with_edits {G = g.R.Rows} c.args.t.now) hold in
    let le : length l.txs ≤ c.args.tx = omega (arith, many, c.count.ensures.count, c.if-tx-count.true) in
    (past (λ (t : ListedTx). t.txid) l.txs c.args.tx zero_hash le, past (λ (t : ListedTx). t.first_out) l.txs c.args.tx 0 le)

pub returns-clause-listed : goal.returns-clause-listed
returns-clause-listed g c counts bs l told hold =
    let found = c.in_ok-row.ensures.row (tables_of counts bs l) told hold in
    let is = listed_row counts.txs l.txs c.args.tx c.in_ok-row.row found in
    let lt = row_within counts.txs l.txs c.args.tx c.in_ok-row.row found in (
      ap (λ (r : TxRow). r.txid) is ∙ sym (get_or-map (λ (t : ListedTx). t.txid) l.txs c.args.tx no_tx zero_hash lt),
      ap (λ (r : TxRow). r.first_out) is ∙ sym (get_or-map (λ (t : ListedTx). t.first_out) l.txs c.args.tx no_tx 0 lt),
    )

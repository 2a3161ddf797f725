use Rattle.std.proofs.Common.{◌≡◌, ◌<◌, ◌≤◌, ◌+◌, ℕ, List, Option, Some, None, map, take, get_or, ap, ap₂, sym, ◌∙◌, refl, subst, arith}
use Rattle.el_rows.specs.Transaction.{with_edits, reads_in}
use Rattle.el_row_formats.specs.declared.tx_row.TxRow.{TxRow}
use Rattle.el_rows.proofs.TransactionLemmas.{begun, more}
use Rattle.el_tx.specs.declared.types.Outpoint.{Outpoint}
use Rattle.el_tables.specs.ChainLists.{ListedBlock}
use Rattle.el_tables.specs.Lists.{Lists, ListedTx}
use Rattle.el_tables.specs.Tables.{HeadCounts, tables_of, greatest}
use Rattle.el_tables.proofs.OlderWalks.{has_txid}
use Rattle.el_tables.proofs.TxEdits.{newest_is}
use Rattle.el_buckets.specs.Buckets.{bucket_size}
use Rattle.el_schema.specs.Rows.{Hold}
use Rattle.el_schema.proofs.Held.{no_tx}
use Rattle.el_schema.proofs.Rows.{listed_row}
use Rattle.el_buckets.proofs.Walks.{end_of, end_below, less_than}
use Rattle.el_spend.specs.Outputs.{txs_with}
use Rattle.el_spend.proofs.OlderWalks.{IsOlder, has_it, has_not, older_begins, older_found, older_ends, older_on, older_left, older_all, older_is}
use Rattle.el_spend.proofs.lookup.output_number.Goals.{else-n-below-via-then-n-below+else-index-outs, else-n-below-via-else-n-below}
use Rattle.el_spend.proofs.lookup.output_number.Goals as goal

pub loop-link-init : goal.loop-link-init
loop-link-init g c =
    let o : Outpoint = record { txid = c.args.txid.now; index = c.args.index } in
    let link = c.in_ok-link.link in
    let is = λ (counts : HeadCounts) (bs : List ListedBlock) (l : Lists) (told : g.R.Rows.tells) (hold : Hold counts bs l (with_edits {G = g.R.Rows} c.args.t.now)) (some : 0 < counts.txs).
    (let e : link ≡ greatest (has_txid o) l.txs = c.in_ok-link.ensures.newest counts bs l told hold some ∙ newest_is 0 o.txid l.txs in e) in
    record {
      read = begun c.in_ok-link.ensures.read;
      within = c.in_ok-link.ensures.below;
      none = c.in_ok-link.ensures.none;
      walk = λ counts bs l told hold some.
          subst (λ (k : Option ℕ). IsOlder o c.args.below no_tx l.txs k) (sym (is counts bs l told hold some)) (older_begins o c.args.below no_tx l.txs);
      rows = λ counts bs l told hold some.
          let begun = older_begins o c.args.below no_tx l.txs in
          let few = older_all o c.args.below no_tx l.txs (greatest (has_txid o) l.txs) begun.here in
          let all : txs_with o.txid (take (end_of link) l.txs) ≤ txs_with o.txid l.txs =
          subst (λ (k : Option ℕ). txs_with o.txid (take (end_of k) l.txs) ≤ txs_with o.txid l.txs) (sym (is counts bs l told hold some)) few in
          omega (arith, c.newest.ensures.rows counts bs l told hold some, all);
    }

pub returns-in_err-row-clause-rows : goal.returns-in_err-row-clause-rows
returns-in_err-row-clause-rows g c counts bs l told hold some =
    let o : Outpoint = record { txid = c.args.txid.now; index = c.args.index } in
    let walk = subst (λ (k : Option ℕ). IsOlder o c.args.below no_tx l.txs k) c.in-Some.is (c.loop-link.invariant.walk counts bs l told hold some) in
    let one = older_left o c.args.below no_tx l.txs c.in-Some.n None walk (omega arith) in
    let bound = 1 + bucket_size counts.txs o.txid (map (λ (x : ListedTx). x.txid) l.txs) + txs_with o.txid l.txs in
    let so_far = subst (λ (k : Option ℕ). (reads_in {G = g.R.Rows} c.loop-link.t) + txs_with o.txid (take (end_of k) l.txs) ≤ (reads_in {G = g.R.Rows} c.args.t.now) + bound) c.in-Some.is (c.loop-link.invariant.rows counts bs l told hold some) in
    omega (arith, c.tx_row.ensures.rows, one, so_far)

pub returns-then-index-outs-clause-rows : goal.returns-then-index-outs-clause-rows
returns-then-index-outs-clause-rows g c counts bs l told hold some =
    let o : Outpoint = record { txid = c.args.txid.now; index = c.args.index } in
    let walk = subst (λ (k : Option ℕ). IsOlder o c.args.below no_tx l.txs k) c.in-Some.is (c.loop-link.invariant.walk counts bs l told hold some) in
    let one = older_left o c.args.below no_tx l.txs c.in-Some.n None walk (omega arith) in
    let bound = 1 + bucket_size counts.txs o.txid (map (λ (x : ListedTx). x.txid) l.txs) + txs_with o.txid l.txs in
    let so_far = subst (λ (k : Option ℕ). (reads_in {G = g.R.Rows} c.loop-link.t) + txs_with o.txid (take (end_of k) l.txs) ≤ (reads_in {G = g.R.Rows} c.args.t.now) + bound) c.in-Some.is (c.loop-link.invariant.rows counts bs l told hold some) in
    omega (arith, c.tx_row.ensures.rows, one, so_far)

pub returns-then-index-outs-clause-number : goal.returns-then-index-outs-clause-number
returns-then-index-outs-clause-number g c counts bs l told hold some =
    let o : Outpoint = record { txid = c.args.txid.now; index = c.args.index } in
    let n = c.in-Some.n in
    let walk = subst (λ (k : Option ℕ). IsOlder o c.args.below no_tx l.txs k) c.in-Some.is (c.loop-link.invariant.walk counts bs l told hold some) in
    let before = subst (λ T. Hold counts bs l T) (sym c.loop-link.invariant.read.tables) hold in
    let is = listed_row counts.txs l.txs n c.in_ok-row.row (c.in_ok-row.ensures.row (tables_of counts bs l) told before) in
    let outs = ap (λ (r : TxRow). r.outs) is in
    let first = ap (λ (r : TxRow). r.first_out) is in
    ap₂ (λ (a b : ℕ). Some (a + b)) (c.from-first.ensures ∙ first) c.from-more.ensures
    ∙ older_found o c.args.below no_tx l.txs n walk c.if-n-below.true (has_it o (get_or l.txs n no_tx) (walk.here n refl).1 (omega (arith, c.if-index-outs.true, c.from-outs.ensures, outs)))

pub loop-link-preserved : goal.loop-link-preserved
loop-link-preserved g c =
    let o : Outpoint = record { txid = c.args.txid.now; index = c.args.index } in
    let n = c.in-Some.n in
    let row = c.in_ok-row.row in
    let next = c.if_below-link.result in
    let begun = λ (counts : HeadCounts) (bs : List ListedBlock) (l : Lists) (told : g.R.Rows.tells) (hold : Hold counts bs l (with_edits {G = g.R.Rows} c.args.t.now)) (some : 0 < counts.txs).
    subst (λ (k : Option ℕ). IsOlder o c.args.below no_tx l.txs k) c.in-Some.is (c.loop-link.invariant.walk counts bs l told hold some) in
    let row_is = λ (counts : HeadCounts) (bs : List ListedBlock) (l : Lists) (told : g.R.Rows.tells) (hold : Hold counts bs l (with_edits {G = g.R.Rows} c.args.t.now)).
    listed_row counts.txs l.txs n row (c.in_ok-row.ensures.row (tables_of counts bs l) told (subst (λ T. Hold counts bs l T) (sym c.loop-link.invariant.read.tables) hold)) in
    record {
      read = more c.loop-link.invariant.read c.in_ok-row.ensures.read;
      within = λ x is. let less = less_than n row.older x (sym c.if_below-link.ensures ∙ is) in let lt = c.loop-link.invariant.within n c.in-Some.is in omega (arith, less, lt);
      none = λ empty. let both : Some n ≡ None = sym c.in-Some.is ∙ c.loop-link.invariant.none empty in cc;
      walk = λ counts bs l told hold some.
          let walk = begun counts bs l told hold some in
          let is = row_is counts bs l told hold in
          let older = older_is o c.args.below counts.txs l.txs n row walk is in
          let outs = ap (λ (r : TxRow). r.outs) is in
          subst (λ (k : Option ℕ). IsOlder o c.args.below no_tx l.txs k) (sym (c.if_below-link.ensures ∙ older))
          (older_on o c.args.below no_tx l.txs n walk (λ lt. elim c.else-n-below.branch [
            | else-n-below-via-then-n-below+else-index-outs w ↦ has_not o (get_or l.txs n no_tx) (omega (arith, w.if-index-outs.false, c.from-outs.ensures, outs))
            | else-n-below-via-else-n-below w ↦ absurd (omega (arith, lt, w.if-n-below.false))
          ]));
      rows = λ counts bs l told hold some.
          let walk = begun counts bs l told hold some in
          let one = older_left o c.args.below no_tx l.txs n next walk (end_below n next (λ x is. less_than n row.older x (sym c.if_below-link.ensures ∙ is))) in
          let bound = 1 + bucket_size counts.txs o.txid (map (λ (x : ListedTx). x.txid) l.txs) + txs_with o.txid l.txs in
          let so_far = subst (λ (k : Option ℕ). (reads_in {G = g.R.Rows} c.loop-link.t) + txs_with o.txid (take (end_of k) l.txs) ≤ (reads_in {G = g.R.Rows} c.args.t.now) + bound) c.in-Some.is (c.loop-link.invariant.rows counts bs l told hold some) in
          omega (arith, c.tx_row.ensures.rows, one, so_far);
    }

pub returns-clause-number : goal.returns-clause-number
returns-clause-number g c counts bs l told hold some =
    let o : Outpoint = record { txid = c.args.txid.now; index = c.args.index } in
    older_ends o c.args.below no_tx l.txs (subst (λ (k : Option ℕ). IsOlder o c.args.below no_tx l.txs k) c.in_default.is (c.loop-link.invariant.walk counts bs l told hold some))

use Rattle.std.proofs.Common.{◌≡◌, ◌≤◌, ◌+◌, ℕ, List, Option, length, take, filter, get_or, reverse, flat_map, sum_by, ap, sym, ◌∙◌, refl, subst, arith, eqb-true}
use Rattle.el_row_formats.specs.Tables.{Tables}
use Rattle.el_rows.specs.Transaction.{with_edits, reads_in}
use Rattle.el_row_formats.specs.declared.table.Table.TheVariants as table
use Rattle.el_rows.proofs.TransactionLemmas.{begun, more}
use Rattle.el_tables.specs.ChainLists.{ListedBlock}
use Rattle.el_tables.specs.Fits.{Fits}
use Rattle.el_tables.specs.Lists.{ListedEntry, Lists, is_of_script, script_number}
use Rattle.el_tables.specs.Tables.{HeadCounts, tables_of, greatest}
use Rattle.el_buckets.specs.Buckets.{bucket_size}
use Rattle.el_schema.specs.Rows.{Hold}
use Rattle.el_schema.proofs.Held.{count_entries}
use Rattle.el_script.specs.Found.{HasHeads}
use Rattle.el_buckets.proofs.Walks.{end_of, less_than}
use Rattle.el_queries.specs.within.Histories.{shown_tx, entry_rows}
use Rattle.el_queries.proofs.EntryWalks.{IsGathered, no_entry, gather_begins, gather_on, gather_ends, cost_begins, cost_on, entry_found}
use Rattle.el_queries.proofs.Scripts.{script_absent, none_listed, last_is}
use Rattle.el_queries.proofs.TxRows.{shown_turned}
use Rattle.el_queries.proofs.histories.newest_first.Goals as goal

pub returns-in_default-clause-found : goal.returns-in_default-clause-found
returns-in_default-clause-found g c counts bs l told hold heads fits =
    let s = c.args.script_hash.now in
    let none = none_listed s l fits (script_absent s counts l fits (sym c.in_default.is ∙ c.in_ok-script.ensures.found counts bs l told hold heads)) in
    ap reverse c.new-found.ensures.items ∙ sym (ap (flat_map (λ (e : ListedEntry). shown_tx l.txs e.tx)) none)

pub loop-link-init : goal.loop-link-init
loop-link-init g c =
    let shown = with_edits {G = g.R.Rows} c.args.t.now in
    let s = c.args.script_hash.now in
    let link = c.if_below-link.result in
    let link_is = λ (counts : HeadCounts) (bs : List ListedBlock) (l : Lists) (told : g.R.Rows.tells) (hold : Hold counts bs l shown) (heads : HasHeads counts l) (fits : Fits l).
    last_is s counts l c.in-Some.script c.count.result link fits (sym c.in-Some.is ∙ c.in_ok-script.ensures.found counts bs l told hold heads)
    (c.count.ensures.count ∙ ap (λ (T : Tables). length (T table.Entries)) c.found_script.ensures.read.tables ∙ count_entries counts bs l shown hold) c.if_below-link.ensures in
    record {
      read = begun c.in_ok-script.ensures.read;
      within = λ x is.
          let less = less_than c.count.result c.in-Some.script.row.last x (sym c.if_below-link.ensures ∙ is) in
          let many = c.count.ensures.count ∙ ap (λ (T : Tables). length (T table.Entries)) c.found_script.ensures.read.tables in
          omega (arith, less, many);
      walk = λ counts bs l told hold heads fits.
          subst (λ (v : List _). IsGathered (is_of_script (script_number s l.scripts)) no_entry l.entries (λ (e : ListedEntry). shown_tx l.txs e.tx) link v) (sym c.new-found.ensures.items)
          (gather_begins (is_of_script (script_number s l.scripts)) no_entry l.entries (λ (e : ListedEntry). shown_tx l.txs e.tx) link (link_is counts bs l told hold heads fits));
      rows = λ counts bs l told hold heads fits.
          let all = cost_begins (is_of_script (script_number s l.scripts)) no_entry l.entries entry_rows link (link_is counts bs l told hold heads fits) in
          omega (arith, all, c.found_script.ensures.rows counts bs l told hold heads);
    }

pub returns-in_err-entry-clause-rows : goal.returns-in_err-entry-clause-rows
returns-in_err-entry-clause-rows g c counts bs l told hold heads fits =
    let s = c.args.script_hash.now in
    let n = c.in-Some-link.n in
    let test = is_of_script (script_number s l.scripts) in
    let walk = subst (λ (o : Option ℕ). IsGathered test no_entry l.entries (λ (e : ListedEntry). shown_tx l.txs e.tx) o c.loop-link.found.items) c.in-Some-link.is (c.loop-link.invariant.walk counts bs l told hold heads fits) in
    let here = walk.here n refl in
    let one = cost_on test no_entry l.entries entry_rows n (greatest test (take n l.entries)) here.0 here.1 refl in
    let so_far = subst (λ (o : Option ℕ). (reads_in {G = g.R.Rows} c.loop-link.t) + sum_by entry_rows (filter test (take (end_of o) l.entries))
    ≤ (reads_in {G = g.R.Rows} c.args.t.now) + (1 + bucket_size counts.scripts s l.scripts + sum_by entry_rows (filter test l.entries))) c.in-Some-link.is (c.loop-link.invariant.rows counts bs l told hold heads fits) in
    omega (arith, c.entry_row.ensures.rows, one, so_far)

pub returns-in_err-push_entry-clause-rows : goal.returns-in_err-push_entry-clause-rows
returns-in_err-push_entry-clause-rows g c counts bs l told hold heads fits =
    let s = c.args.script_hash.now in
    let n = c.in-Some-link.n in
    let test = is_of_script (script_number s l.scripts) in
    let walk = subst (λ (o : Option ℕ). IsGathered test no_entry l.entries (λ (e : ListedEntry). shown_tx l.txs e.tx) o c.loop-link.found.items) c.in-Some-link.is (c.loop-link.invariant.walk counts bs l told hold heads fits) in
    let here = walk.here n refl in
    let one = cost_on test no_entry l.entries entry_rows n (greatest test (take n l.entries)) here.0 here.1 refl in
    let so_far = subst (λ (o : Option ℕ). (reads_in {G = g.R.Rows} c.loop-link.t) + sum_by entry_rows (filter test (take (end_of o) l.entries))
    ≤ (reads_in {G = g.R.Rows} c.args.t.now) + (1 + bucket_size counts.scripts s l.scripts + sum_by entry_rows (filter test l.entries))) c.in-Some-link.is (c.loop-link.invariant.rows counts bs l told hold heads fits) in
    omega (arith, c.entry_row.ensures.rows, c.push_entry.ensures.rows, one, so_far)

pub loop-link-preserved : goal.loop-link-preserved
loop-link-preserved g c =
    let shown = with_edits {G = g.R.Rows} c.args.t.now in
    let s = c.args.script_hash.now in
    let n = c.in-Some-link.n in
    let entry = c.in_ok-entry.entry in
    let next = c.if_below-link-in-Some-link.result in
    let begun = λ (counts : HeadCounts) (bs : List ListedBlock) (l : Lists) (told : g.R.Rows.tells) (hold : Hold counts bs l shown) (heads : HasHeads counts l) (fits : Fits l).
    subst (λ (o : Option ℕ). IsGathered (is_of_script (script_number s l.scripts)) no_entry l.entries (λ (e : ListedEntry). shown_tx l.txs e.tx) o c.loop-link.found.items) c.in-Some-link.is
    (c.loop-link.invariant.walk counts bs l told hold heads fits) in
    let read = λ (counts : HeadCounts) (bs : List ListedBlock) (l : Lists) (told : g.R.Rows.tells) (hold : Hold counts bs l shown).
    entry_found l.entries n entry (c.in_ok-entry.ensures.row (tables_of counts bs l) told (subst (λ T. Hold counts bs l T) (sym c.loop-link.invariant.read.tables) hold)) in
    let next_is = λ (counts : HeadCounts) (bs : List ListedBlock) (l : Lists) (told : g.R.Rows.tells) (hold : Hold counts bs l shown) (heads : HasHeads counts l) (fits : Fits l).
    (let k = script_number s l.scripts in
    let own = eqb-true _ _ ((begun counts bs l told hold heads fits).here n refl).1 in
    let e : next ≡ greatest (is_of_script k) (take n l.entries) =
    c.if_below-link-in-Some-link.ensures ∙ (read counts bs l told hold).1 ∙ ap (λ (j : ℕ). greatest (is_of_script j) (take n l.entries)) own in e) in
    record {
      read = more (more c.loop-link.invariant.read c.in_ok-entry.ensures.read) c.in_ok-push_entry.ensures.read;
      within = λ x is. let less = less_than n entry.before x (sym c.if_below-link-in-Some-link.ensures ∙ is) in let lt = c.loop-link.invariant.within n c.in-Some-link.is in omega (arith, less, lt);
      walk = λ counts bs l told hold heads fits.
          let test = is_of_script (script_number s l.scripts) in
          let f : ListedEntry → List _ = λ e. shown_tx l.txs e.tx in
          let e = get_or l.entries n no_entry in
          let mid = subst (λ T. Hold counts bs l T) (sym (c.entry_row.ensures.read.tables ∙ c.loop-link.invariant.read.tables)) hold in
          let more : shown_tx l.txs entry.tx ≡ reverse (shown_tx l.txs e.tx) = ap (shown_tx l.txs) (read counts bs l told hold).0 ∙ sym (shown_turned l.txs e.tx) in
          subst (λ (v : List _). IsGathered test no_entry l.entries f next v) (sym (c.in_ok-push_entry.ensures.pushed counts bs l told mid))
          (gather_on test no_entry l.entries f n next c.loop-link.found.items (shown_tx l.txs entry.tx) (begun counts bs l told hold heads fits) (next_is counts bs l told hold heads fits) more);
      rows = λ counts bs l told hold heads fits.
          let test = is_of_script (script_number s l.scripts) in
          let here = (begun counts bs l told hold heads fits).here n refl in
          let one = cost_on test no_entry l.entries entry_rows n next here.0 here.1 (next_is counts bs l told hold heads fits) in
          let so_far = subst (λ (o : Option ℕ). (reads_in {G = g.R.Rows} c.loop-link.t) + sum_by entry_rows (filter test (take (end_of o) l.entries))
          ≤ (reads_in {G = g.R.Rows} c.args.t.now) + (1 + bucket_size counts.scripts s l.scripts + sum_by entry_rows (filter test l.entries))) c.in-Some-link.is (c.loop-link.invariant.rows counts bs l told hold heads fits) in
          omega (arith, c.entry_row.ensures.rows, c.push_entry.ensures.rows, one, so_far);
    }

pub returns-clause-found : goal.returns-clause-found
returns-clause-found g c counts bs l told hold heads fits =
    let test = is_of_script (script_number c.args.script_hash.now l.scripts) in
    gather_ends test no_entry l.entries (λ (e : ListedEntry). shown_tx l.txs e.tx) c.loop-link.found.items
    (subst (λ (o : Option ℕ). IsGathered test no_entry l.entries (λ (e : ListedEntry). shown_tx l.txs e.tx) o c.loop-link.found.items) c.in_default-link.is (c.loop-link.invariant.walk counts bs l told hold heads fits))

pub returns-clause-rows : goal.returns-clause-rows
returns-clause-rows g c counts bs l told hold heads fits = omega (arith, c.loop-link.invariant.rows counts bs l told hold heads fits)

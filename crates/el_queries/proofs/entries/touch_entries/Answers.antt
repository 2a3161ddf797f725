use Rattle.std.proofs.Common.{◌≡◌, ◌+◌, ◌-◌, ◌||◌, ℕ, ap, sym, subst, ◌∙◌, arith}
use Rattle.std.specs.List.{list_any}
use Rattle.el_chain.specs.Headers.{same_hash}
use Rattle.el_rows.specs.Transaction.{with_edits}
use Rattle.el_rows.proofs.TransactionLemmas.{more, nothing}
use Rattle.el_tables.specs.Tables.{tables_of}
use Rattle.el_schema.specs.Rows.{Hold}
use Rattle.el_schema.proofs.Held.{count_entries}
use Rattle.el_queries.specs.within.LastBlock.{is_at, is_entry_of_script}
use Rattle.el_queries.proofs.Walks.{EntriesLeft, listed_entry, entry_read, entries_begin, entry_ends, entries_end}
use Rattle.el_queries.proofs.EntrySkips.{entry_linked, entry_turn}
use Rattle.el_queries.proofs.entries.touch_entries.Goals as goal

pub loop-n-init : goal.loop-n-init
loop-n-init g c =
    let shown = with_edits {G = g.R.Rows} c.args.t.now in
    record {
      read = nothing c.args.t.now c.requires.live;
      within = omega (arith, c.count-n.ensures.count);
      walk = λ counts bs l s before own told hold split last late.
          entries_begin (is_entry_of_script s l) l.entries before own c.count-n.result (list_any (same_hash s) c.args.touched.now) split (c.count-n.ensures.count ∙ count_entries counts bs l shown hold);
    }

pub returns-then-entry-first-clause-touched : goal.returns-then-entry-first-clause-touched
returns-then-entry-first-clause-touched g c counts bs l s before own told hold split last late =
    let n = c.loop-n.n in
    let now = list_any (same_hash s) c.loop-n.touched in
    let all = list_any (same_hash s) c.args.touched.now || list_any (is_entry_of_script s l) own in
    let here = subst (λ T. Hold counts bs l T) (sym c.loop-n.invariant.read.tables) hold in
    let read = entry_read l.entries 0 l.entries (n - 1) c.in_ok-entry.entry (c.in_ok-entry.ensures.row (tables_of counts bs l) told here) in
    let one : n ≡ n - 1 + 1 = omega (arith, c.loop-n-test.true) in
    entry_ends (is_entry_of_script s l) c.args.first l.entries before own (n - 1) (listed_entry c.in_ok-entry.entry) now all split last read c.if-entry-first.true
    (subst (λ (k : ℕ). EntriesLeft (is_entry_of_script s l) before own k now all) one (c.loop-n.invariant.walk counts bs l s before own told hold split last late))

pub loop-n-preserved : goal.loop-n-preserved
loop-n-preserved g c =
    let n = c.loop-n.n in
    record {
      read = more (more c.loop-n.invariant.read c.in_ok-entry.ensures.read) c.in_ok-touch_entry.ensures.read;
      within = omega (arith, c.loop-n.invariant.within);
      walk = λ counts bs l s before own told hold split last late.
          let now = list_any (same_hash s) c.loop-n.touched in
          let all = list_any (same_hash s) c.args.touched.now || list_any (is_entry_of_script s l) own in
          let here = subst (λ T. Hold counts bs l T) (sym c.loop-n.invariant.read.tables) hold in
          let next = subst (λ T. Hold counts bs l T) (sym c.entry_row.ensures.read.tables) here in
          let read = entry_read l.entries 0 l.entries (n - 1) c.in_ok-entry.entry (c.in_ok-entry.ensures.row (tables_of counts bs l) told here) in
          let one : n ≡ n - 1 + 1 = omega (arith, c.loop-n-test.true) in
          let row = c.in_ok-entry.ensures.row (tables_of counts bs l) told here in
          entry_turn (is_entry_of_script s l) c.args.first c.args.since l.entries before own (n - 1) (listed_entry c.in_ok-entry.entry) c.in_ok-entry.entry.before now (list_any (same_hash s) c.touch_entry.new.touched) all split last late read c.if-entry-first.false
          (λ x y same. ap (is_at s l.scripts) same) (entry_linked l.entries (n - 1) c.in_ok-entry.entry row)
          (subst (λ (k : ℕ). EntriesLeft (is_entry_of_script s l) before own k now all) one (c.loop-n.invariant.walk counts bs l s before own told hold split last late))
          (c.in_ok-touch_entry.ensures.touched counts bs l s told next);
    }

pub returns-clause-touched : goal.returns-clause-touched
returns-clause-touched g c counts bs l s before own told hold split last late =
    let now = list_any (same_hash s) c.loop-n.touched in
    let all = list_any (same_hash s) c.args.touched.now || list_any (is_entry_of_script s l) own in
    let none : c.loop-n.n ≡ 0 = omega (arith, c.loop-n-test.false) in
    entries_end (is_entry_of_script s l) before own now all
    (subst (λ (k : ℕ). EntriesLeft (is_entry_of_script s l) before own k now all) none (c.loop-n.invariant.walk counts bs l s before own told hold split last late))

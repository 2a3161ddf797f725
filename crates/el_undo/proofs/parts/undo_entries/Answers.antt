use Rattle.std.proofs.Common.{◌≡◌, ◌∙◌, ℕ, true, false, length, subst, sym, ap, arith}
use Rattle.el_rows.proofs.TransactionLemmas.{more_edits, more_read}
use Rattle.el_rows.specs.Transaction.{with_edits}
use Rattle.el_tables.specs.Disconnecting.{last, is_entry_of, take_back_entries, take_back_entry}
use Rattle.el_tables.specs.Lists.{Lists}
use Rattle.el_tables.proofs.FitLemmas.{entry_back_numbers}
use Rattle.el_schema.specs.Rows.{Hold}
use Rattle.el_schema.proofs.Held.{count_entries}
use Rattle.el_undo.proofs.Entries.{entry_on, entry_stop, entry_end}
use Rattle.el_undo.proofs.parts.undo_entries.Goals as goal

pub loop-done-preserved : goal.loop-done-preserved
loop-done-preserved g c = record {
  lists = λ counts bs l told hold numbered.
      let back = c.loop-done.invariant.lists counts bs l told hold numbered in
      let is : is_entry_of c.args.tx (last back.now.entries) ≡ true = sym (c.in_ok-is_last_entry.ensures.is counts bs back.now told back.hold) ∙ c.if-not-branch.false in
      let before = subst (λ T. Hold counts bs back.now T) (sym c.is_last_entry.ensures.read.tables) back.hold in
      record {
        now = take_back_entry back.now;
        hold = c.in_ok-take_back_entry.ensures.lists counts bs back.now told before back.numbered;
        numbered = entry_back_numbers back.now back.numbered;
        whole = entry_on c.count-most.result c.loop-done.done c.args.tx l back.now c.loop-done-test.true back.whole is;
      };
  others = λ u a b d. c.take_back_entry.ensures.others u a b d ∙ ap (λ T. T u) c.is_last_entry.ensures.read.tables ∙ c.loop-done.invariant.others u a b d;
  edits = more_edits (more_read c.loop-done.invariant.edits c.in_ok-is_last_entry.ensures.read) c.in_ok-take_back_entry.ensures.edits;
  within = omega (arith, c.loop-done-test.true);
}

pub returns-then-not-branch-clause-lists : goal.returns-then-not-branch-clause-lists
returns-then-not-branch-clause-lists g c counts bs l told hold numbered =
    let back = c.loop-done.invariant.lists counts bs l told hold numbered in
    let is : is_entry_of c.args.tx (last back.now.entries) ≡ false = sym (c.in_ok-is_last_entry.ensures.is counts bs back.now told back.hold) ∙ c.if-not-branch.true in
    let after = subst (λ T. Hold counts bs back.now T) (sym c.is_last_entry.ensures.read.tables) back.hold in
    let many : c.count-most.result ≡ length l.entries = c.count-most.ensures.count ∙ count_entries counts bs l (with_edits {G = g.R.Rows} c.args.t.now) hold in
    subst (λ (x : Lists). Hold counts bs x (with_edits {G = g.R.Rows} c.is_last_entry.new.t))
    (entry_stop c.count-most.result c.loop-done.done c.args.tx l back.now c.loop-done-test.true back.whole is ∙ ap (λ (k : ℕ). take_back_entries k c.args.tx l) many) after

pub returns-clause-lists : goal.returns-clause-lists
returns-clause-lists g c counts bs l told hold numbered =
    let back = c.loop-done.invariant.lists counts bs l told hold numbered in
    let many : c.count-most.result ≡ length l.entries = c.count-most.ensures.count ∙ count_entries counts bs l (with_edits {G = g.R.Rows} c.args.t.now) hold in
    subst (λ (x : Lists). Hold counts bs x (with_edits {G = g.R.Rows} c.loop-done.t))
    (entry_end c.count-most.result c.loop-done.done c.args.tx l back.now c.loop-done-test.false back.whole ∙ ap (λ (k : ℕ). take_back_entries k c.args.tx l) many) back.hold

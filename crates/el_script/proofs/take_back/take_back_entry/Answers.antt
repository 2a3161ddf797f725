use Rattle.std.proofs.Common.{◌≡◌, ◌<◌, ◌≤◌, ◌+◌, ◌-◌, ◌∙◌, ℕ, [], sym, ap, subst, length, take, get_or, set, arith}
use Rattle.el_rows.specs.Changes.{OnTable}
use Rattle.el_row_formats.specs.RowBytes.{script_row_bytes, entry_row_bytes, FitsScriptRow, FitsEntryRow}
use Rattle.el_row_formats.specs.Tables.{Tables}
use Rattle.el_rows.specs.Transaction.{with_edits}
use Rattle.el_row_formats.specs.declared.table.Table.TheVariants as table
use Rattle.el_row_formats.specs.declared.entry_row.EntryRow.{EntryRow}
use Rattle.el_row_formats.specs.declared.script_row.ScriptRow.{ScriptRow}
use Rattle.el_buckets.specs.Buckets.{Popped, below}
use Rattle.el_schema.specs.Rows.{Hold}
use Rattle.el_buckets.specs.declared.bucket.Buckets.TheVariants as buckets
use Rattle.el_schema.proofs.Answered.{of_value}
use Rattle.el_script.specs.within.RowSteps.{left_row, ThreeStay}
use Rattle.el_script.proofs.ScriptSteps.{entry_shrinks, script_shrinks, none_shrinks, many_entries}
use Rattle.el_script.proofs.take_back.take_back_entry.Goals as goal
use Rattle.el_script.proofs.take_back.take_back_entry.Goals.{in-Some+in_ok-leave_entry-in-Some, in-None+in_ok-drop_script-in-None}

pub returns-then-count-eq0-clause-lists : goal.returns-then-count-eq0-clause-lists
returns-then-count-eq0-clause-lists g c counts bs l told hold numbered =
    let shown = with_edits {G = g.R.Rows} c.args.t.now in
    let none : length l.entries ≡ 0 = sym (many_entries counts bs l shown hold) ∙ sym c.count-count.ensures.count ∙ c.if-count-eq0.true in
    subst (λ m. Hold counts bs m shown) (sym (none_shrinks l none)) hold

pub returns-clause-lists : goal.returns-clause-lists
returns-clause-lists g c counts bs l told hold numbered =
    let shown = with_edits {G = g.R.Rows} c.args.t.now in
    let after = with_edits {G = g.R.Rows} c.shrink.new.self in
    let same = c.entry_row.ensures.read.tables in
    let n = c.count-count.result - 1 in
    let e = c.in_ok-entry.entry in
    let only = of_value (λ (x : EntryRow). (s : EntryRow) → FitsEntryRow s → entry_row_bytes s ≡ get_or (shown table.Entries) n [] → s ≡ x) _ c.entry_row.result c.map_err.result c.in_ok-entry.entry
    c.map_err.ensures.cases c.in_ok-entry.ensures.variant c.in_ok-entry.was (c.entry_row.ensures.only told) in
    let count = c.count-count.ensures.count in
    let long : length (shown table.Entries) ≡ n + 1 = omega (arith, count, c.if-count-eq0.false) in
    elim c.match-if_below.branch [
      | in-Some+in_ok-leave_entry-in-Some w ↦
          let k = w.in-Some.before in
          let mid = with_edits {G = g.R.Rows} w.leave_entry.new.t in
          let leave = w.in_ok-leave_entry-in-Some.ensures in
          let shrunk = subst (λ x. OnTable (with_edits {G = g.R.Rows} x) after table.Entries (take n (with_edits {G = g.R.Rows} x table.Entries))) w.t-is c.shrink.ensures.shrunk in
          let others : ThreeStay shown after = λ u a b d. shrunk.others u d ∙ leave.others u a ∙ ap (λ (T : Tables). T u) same in
          let there = subst (λ (T : Tables). e.script < length (T table.Scripts) → (r : ScriptRow) → FitsScriptRow r
          → script_row_bytes r ≡ get_or (T table.Scripts) e.script [] → mid table.Scripts ≡ set (T table.Scripts) e.script (script_row_bytes (left_row k r))) same (leave.left told) in
          let away = subst (λ (T : Tables). length (T table.Scripts) ≤ e.script → mid ≡ T) same leave.away in
          let scripts = shrunk.others table.Scripts (λ q. cc) in
          entry_shrinks counts bs l shown hold after others n e k long only (sym c.if_below.ensures ∙ w.in-Some.is)
          (λ lt r fits bytes. scripts ∙ there lt r fits bytes)
          (λ le. scripts ∙ ap (λ (T : Tables). T table.Scripts) (away le))
          (shrunk.others table.ScriptHeads (λ q. cc) ∙ leave.others table.ScriptHeads (λ q. cc) ∙ ap (λ (T : Tables). T table.ScriptHeads) same)
          (shrunk.here ∙ ap (take n) (leave.others table.Entries (λ q. cc) ∙ ap (λ (T : Tables). T table.Entries) same))
          numbered
      | in-None+in_ok-drop_script-in-None w ↦
          let mid = with_edits {G = g.R.Rows} w.drop_script.new.t in
          let drop = w.in_ok-drop_script-in-None.ensures in
          let shrunk = subst (λ x. OnTable (with_edits {G = g.R.Rows} x) after table.Entries (take n (with_edits {G = g.R.Rows} x table.Entries))) w.t-is c.shrink.ensures.shrunk in
          let others : ThreeStay shown after = λ u a b d. shrunk.others u d ∙ drop.others u a b ∙ ap (λ (T : Tables). T u) same in
          let popped = subst (λ (T : Tables). (m : ℕ) (r : ScriptRow) → g.R.Rows.tells → length (T table.Scripts) ≡ m + 1 → FitsScriptRow r
          → script_row_bytes r ≡ get_or (T table.Scripts) m [] → Popped buckets.ScriptHashes r.script m (below m r.next) T mid) same drop.dropped in
          script_shrinks counts bs l shown hold after others n e mid long only (sym c.if_below.ensures ∙ w.in-None.is)
          (λ m r at fits bytes. popped m r told at fits bytes)
          (subst (λ (T : Tables). length (T table.Scripts) ≡ 0 → mid ≡ T) same drop.none)
          (shrunk.others table.Scripts (λ q. cc)) (shrunk.others table.ScriptHeads (λ q. cc))
          (shrunk.here ∙ ap (take n) (drop.others table.Entries (λ q. cc) (λ q. cc) ∙ ap (λ (T : Tables). T table.Entries) same))
          numbered
    ]

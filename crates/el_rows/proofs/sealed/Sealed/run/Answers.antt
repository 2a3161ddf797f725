use Rattle.std.proofs.Common.{◌≡◌, ◌-◌, length, ◌<◌, ◌+◌, [], Some, ap, sym, ◌∙◌, arith, slice_get, unwrap_or}
use Rattle.el_rows.specs.Changes.{Update, changed_at, count_at}
use Rattle.el_row_formats.specs.Tables.{size_of}
use Rattle.el_rows.specs.within.EditedTables.{all_tables, keys_over}
use Rattle.el_rows.proofs.SealedLemmas.{listed_at}
use Rattle.el_rows.proofs.RunLemmas.{listed_below, listed_some, following_changes, following_within, within_keys, one_found, only_row}
use Rattle.el_rows.proofs.sealed.Sealed.run.Goals as goal
use Rattle.el_rows.proofs.sealed.Sealed.run.Goals.{After-place-table}

below : (c : After-place-table) → c.place-table.result.row < count_at c.self.inside.edits.counts c.place-table.result.table
below c = listed_below c.self.inside.edits.counts c.self.inside.edits.changes (keys_over c.self.inside.rows all_tables) c.self.invariant.0 c.args.i c.place-table.result.table c.place-table.result.row c.place-table.ensures

pub returns-then-row-base-clause-each : goal.returns-then-row-base-clause-each
returns-then-row-base-clause-each c j lt =
    let here = c.self.inside in
    let k = c.place-table.result in
    let is = c.place-table.ensures in
    let some = listed_some here.edits.counts here.edits.changes (keys_over here.rows all_tables) c.self.invariant.0 c.args.i k.table k.row is in
    let found = one_found (λ b. b.now) c.get.result _ c.unwrap_or-bytes.result (changed_at here.edits.changes k.table k.row) (size_of k.table) c.get.ensures.row c.unwrap_or-bytes.ensures some c.get.ensures.sized in
    let bytes = c.unwrap_or-bytes.result.now in
    let zero : j ≡ 0 = omega (arith, lt) in
    let first : slice_get c.args.self.now.changes c.args.i ≡ Some (k, bytes) =
    ap (λ (u : Update). slice_get u.changes c.args.i) (sym c.self.view_is) ∙ listed_at here.edits.changes (keys_over here.rows all_tables) c.args.i k is ∙ ap (λ o. Some (k, unwrap_or o [])) found.0 in
    only_row c.args.self.now.changes c.args.i j k bytes (size_of k.table) zero found.1 first

pub overflow_sub-result : goal.overflow_sub-result
overflow_sub-result c = omega (arith, below (goal.at.overflow_sub-result c).After-place-table, c.count-count.ensures.count)

pub added-requires-clause-below : goal.added-requires-clause-below
added-requires-clause-below c = omega (arith, below (goal.at.added-requires-clause-below c).After-place-table)

pub returns-clause-some : goal.returns-clause-some
returns-clause-some c = omega (arith, below (goal.at.returns-clause-some c).After-place-table, c.count-count.ensures.count)

pub returns-clause-each : goal.returns-clause-each
returns-clause-each c j lt =
    let here = c.self.inside in
    let k = c.place-table.result in
    ap (λ (u : Update). slice_get u.changes (c.args.i + j)) (sym c.self.view_is)
    ∙ following_changes here.edits.counts here.edits.changes (keys_over here.rows all_tables) c.self.invariant.0 c.args.i k.table k.row c.place-table.ensures c.added.result.now c.added.ensures.each j
    (omega (arith, lt, c.count-count.ensures.count))

pub returns-then-row-base-clause-limit : goal.returns-then-row-base-clause-limit
returns-then-row-base-clause-limit c = omega (arith, below (goal.at.returns-then-row-base-clause-limit c).After-place-table, c.count-count.ensures.count, c.count-count.ensures.limit)

pub returns-clause-within : goal.returns-clause-within
returns-clause-within c =
    let here = c.self.inside in
    let k = c.place-table.result in
    let lt = below (goal.at.returns-clause-within c).After-place-table in
    omega (
      arith,
      ap (λ (u : Update). length u.changes) c.self.view_is,
      following_within here.edits.counts here.edits.changes (keys_over here.rows all_tables) c.self.invariant.0 c.args.i k.table k.row c.place-table.ensures c.added.result.now c.added.ensures.each
          (c.count-count.result - k.row) (omega (arith, lt, c.count-count.ensures.count)) (omega (arith, lt, c.count-count.ensures.count)),
    )

pub returns-clause-limit : goal.returns-clause-limit
returns-clause-limit c = omega (arith, below (goal.at.returns-clause-limit c).After-place-table, c.count-count.ensures.count, c.count-count.ensures.limit)

pub place-table-requires : goal.place-table-requires
place-table-requires c = within_keys c.args.self.now c.self.inside.edits.counts c.self.inside.edits.changes (keys_over c.self.inside.rows all_tables) c.self.view_is c.args.i c.requires

pub returns-then-row-base-clause-long : goal.returns-then-row-base-clause-long
returns-then-row-base-clause-long c =
    let here = c.self.inside in
    let k = c.place-table.result in
    let some = listed_some here.edits.counts here.edits.changes (keys_over here.rows all_tables) c.self.invariant.0 c.args.i k.table k.row c.place-table.ensures in
    let found = one_found (λ b. b.now) c.get.result _ c.unwrap_or-bytes.result (changed_at here.edits.changes k.table k.row) (size_of k.table) c.get.ensures.row c.unwrap_or-bytes.ensures some c.get.ensures.sized in
    omega (arith, found.1)

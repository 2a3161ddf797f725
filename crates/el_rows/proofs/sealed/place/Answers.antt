use Rattle.std.proofs.Common.{◌≡◌, ◌<◌, ◌+◌, ◌-◌, ℕ, List, [], Some, None, length, get_or, drop, slice_get, ap, sym, subst, ◌∙◌, arith}
use Rattle.std.proofs.lemmas.List.{get_or_default}
use Rattle.std.proofs.lemmas.Option.{slice_get-get_or}
use Rattle.el_row_formats.specs.declared.table.Table.{Table}
use Rattle.el_row_formats.specs.declared.table.Table.TheVariants as table
use Rattle.el_row_formats.specs.Tables.{key}
use Rattle.el_rows.specs.within.EditedTables.{keys_over, rows_at, all_tables}
use Rattle.el_rows.proofs.SealedLemmas.{nth_table, tables_from, back_at}
use Rattle.el_rows.proofs.sealed.place.Goals as goal

pub loop-table-preserved : goal.loop-table-preserved
loop-table-preserved c =
    let rows = c.args.rows.now in
    let n = c.loop-table.table-index in
    let left = c.loop-table.left in
    let lt : n < 8 = omega (arith, c.loop-table-test.true) in
    let t = nth_table n in
    let within : c.index.result < length rows = omega (arith, c.index.ensures.within, c.type_inv.rows) in
    let here : get_or rows c.index.result c.index-rows-index.result ≡ rows_at rows t =
    get_or_default rows c.index.result c.index-rows-index.result [] within ∙ ap (λ (k : ℕ). get_or rows k []) c.index.ensures.index in
    sym (back_at t (rows_at rows t) (keys_over rows (drop (n + 1) all_tables)) left (left - c.len-left.result) (omega (arith, ap length here, c.len-left.ensures, c.len.ensures, c.if-left-len.false)))
    ∙ sym (ap (λ (ts : List Table). slice_get (keys_over rows ts) left) (tables_from n lt)) ∙ c.loop-table.invariant

pub unreachable-requires : goal.unreachable-requires
unreachable-requires c =
    let keys = keys_over c.args.rows.now all_tables in
    let end : c.loop-table.table-index ≡ 8 = omega (arith, c.loop-table-test.false, c.loop-table.auto.table-index-end) in
    let none = subst (λ (k : ℕ). slice_get (keys_over c.args.rows.now (drop k all_tables)) c.loop-table.left ≡ slice_get keys c.args.i) end c.loop-table.invariant in
    absurd (let no : None ≡ Some (get_or keys c.args.i (key table.Blocks 0)) = none ∙ slice_get-get_or keys c.args.i (key table.Blocks 0) c.requires in cc)

use Rattle.std.proofs.Common.{Some, ap, sym, ◌∙◌, arith}
use Rattle.el_rows.specs.within.EditedTables.{EditedTable, edited_at}
use Rattle.el_rows.proofs.PairedLemmas.{read_changed, read_none, read_added, read_past}
use Rattle.el_rows.proofs.table_edits.TableEdits.get.Goals as goal

pub returns-in-Some : goal.returns-in-Some
returns-in-Some c =
    let here = c.self.inside in
    ap Some c.row.ensures.row ∙ read_changed c.args.base c.args.i here.numbers.keys here.changed.rows here.added (omega (arith, c.if-i-base.true)) c.self.invariant.0 c.in-Some.place (sym c.in-Some.ensures.index)
    (omega (arith, c.in-Some.ensures.within, c.self.invariant.0)) ∙ ap (λ (e : EditedTable). edited_at c.args.base e c.args.i) c.self.view_is

pub returns-in-None : goal.returns-in-None
returns-in-None c =
    let here = c.self.inside in
    read_none c.args.base c.args.i here.numbers.keys here.changed.rows here.added (omega (arith, c.if-i-base.true)) c.self.invariant.0 (sym c.in-None.ensures.index)
    ∙ ap (λ (e : EditedTable). edited_at c.args.base e c.args.i) c.self.view_is

pub returns-then-place-len : goal.returns-then-place-len
returns-then-place-len c =
    let here = c.self.inside in
    ap Some c.row-then-place-len.ensures.row ∙ read_added c.args.base c.args.i here.numbers.keys here.changed.rows here.added (omega (arith, c.if-i-base.false)) (omega (arith, c.if-place-len.true, c.len.ensures))
    ∙ ap (λ (e : EditedTable). edited_at c.args.base e c.args.i) c.self.view_is

pub returns : goal.returns
returns c =
    let here = c.self.inside in
    read_past c.args.base c.args.i here.numbers.keys here.changed.rows here.added (omega (arith, c.if-i-base.false)) (omega (arith, c.if-place-len.false, c.len.ensures))
    ∙ ap (λ (e : EditedTable). edited_at c.args.base e c.args.i) c.self.view_is

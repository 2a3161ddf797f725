use Rattle.std.proofs.Common.{[], get_or, ap, ◌∙◌, arith}
use Rattle.el_rows.specs.SizedRows.{SizedRows}
use Rattle.el_vec_rows.proofs.InMemoryLemmas.{is_read, shown_row}
use Rattle.el_vec_rows.proofs.vec_rows.MemRows.bytes.Goals as goal

pub returns-clause-bytes : goal.returns-clause-bytes
returns-clause-bytes c =
    let list = is_read c.self.inside.kept c.args.t c.index.result c.index-self-index.result (omega (arith, c.self.told, c.index.ensures.within)) c.index.ensures.index in
    c.row.ensures.row ∙ ap (λ (l : SizedRows). get_or l.rows c.args.i []) list
    ∙ shown_row c.args.self.now c.self.inside.kept c.self.inside.counts c.args.t c.args.i c.self.view_is c.self.invariant.room c.requires

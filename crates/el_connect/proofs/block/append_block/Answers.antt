use Rattle.el_rows.specs.Transaction.{with_edits}
use Rattle.el_connect.proofs.RowLemmas.{block_more}
use Rattle.el_connect.proofs.block.append_block.Goals as goal

pub returns-in-Ok-clause-appended : goal.returns-in-Ok-clause-appended
returns-in-Ok-clause-appended g c counts bs l b hold is =
    block_more counts bs l b (with_edits {G = g.R.Rows} c.args.t.now) (with_edits {G = g.R.Rows} c.append.new.self) c.write.new.buf c.args.row.now hold is c.write.ensures c.requires.fits c.in-Ok.ensures.ok

use Rattle.el_rows.specs.Transaction.{with_edits}
use Rattle.el_undo.proofs.Dropped.{dropped}
use Rattle.el_undo.proofs.block.drop_block.Goals as goal

pub returns-clause-chain : goal.returns-clause-chain
returns-clause-chain g c heads chain b lacks =
    dropped heads (with_edits {G = g.R.Rows} c.args.t.now) (with_edits {G = g.R.Rows} c.shrink.new.self) chain b c.args.left lacks c.requires.left c.shrink.ensures.shrunk

use Rattle.std.proofs.Common.{arith}
use Rattle.el_rows.specs.Transaction.{with_edits}
use Rattle.el_index.proofs.LastBlock.{header_tip}
use Rattle.el_index.proofs.last_block.last_hash.Goals as goal

pub returns-clause-last : goal.returns-clause-last
returns-clause-last g c heads chain told stand =
    header_tip heads (with_edits {G = g.R.Rows} c.args.t.now) chain c.count-count.result c.in_ok-bytes.bytes c.block_hash.result stand c.count-count.ensures.count (omega arith) (c.in_ok-bytes.ensures.header chain told (heads, stand)) c.block_hash.ensures

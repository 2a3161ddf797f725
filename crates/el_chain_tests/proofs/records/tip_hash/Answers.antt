use Rattle.std.proofs.Common.{◌∙◌}
use Rattle.el_chain.proofs.Chains.{tip_of_last, hash_is}
use Rattle.el_chain_tests.proofs.records.tip_hash.Goals as goal

pub returns-in-len1-up : goal.returns-in-len1-up
returns-in-len1-up c =
    hash_is c.block_hash.result c.last-item.result.block.header c.encode_header.result c.block_hash.ensures
    c.encode_header.ensures
    ∙ tip_of_last c.args.blocks.now c.last-item.result c.in-len1-up.len_at_least c.last-item.is

use Rattle.std.proofs.Common.{◌∙◌}
use Rattle.el_chain.proofs.Chains.{tip_of_last, hash_is}
use Rattle.el_plain.proofs.plain_chain.PlainChain.tip.Goals as goal

pub returns-in-len1-up-clause-last : goal.returns-in-len1-up-clause-last
returns-in-len1-up-clause-last c =
    let chain = c.as_slice.ensures.value ∙ c.self.view_is in
    let some = rw chain at c.in-len1-up.len_at_least in
    let last = rw chain at c.last-item.is in
    hash_is c.block_hash.result c.last-item.result.block.header c.encode_header.result c.block_hash.ensures c.encode_header.ensures
    ∙ tip_of_last c.args.self.now c.last-item.result some last

use Rattle.std.proofs.Common.{◌≡◌, ◌≤◌, ◌<◌, length, take, ◌∙◌, inr, rules}
use Rattle.el_chain.proofs.GivenChains.{few_for_block, other_block}
use Rattle.el_chain.proofs.reading.compare_block.Goals as goal
use Rattle.el_chain.proofs.reading.compare_block.Goals.{else-bytes-wanted-2-via-then-bytes-wanted-2+else-eq, else-bytes-wanted-2-via-else-bytes-wanted-2}

pub returns-in_default-clause-other : goal.returns-in_default-clause-other
returns-in_default-clause-other c =
    let few : length c.args.bytes.now < 80 = search rules in
    few_for_block c.args.node.now c.args.bytes.now (inr few) c.requires.header

pub returns-else-bytes-wanted-2-clause-other : goal.returns-else-bytes-wanted-2-clause-other
returns-else-bytes-wanted-2-clause-other c =
    let bytes = c.args.bytes.now in
    let long : c.args.node.now.place.len ≤ length bytes = search rules in
    let enough : 80 ≤ length bytes = search rules in
    let front : c.in-Some.header.now ≡ take 80 bytes = search rules in
    other_block c.args.node.now bytes c.in-Some.header.now c.block_hash.result long enough front c.block_hash.ensures
    (λ b. elim c.else-bytes-wanted-2.branch [
      | else-bytes-wanted-2-via-then-bytes-wanted-2+else-eq w ↦ let h = front ∙ b.header in search rules
      | else-bytes-wanted-2-via-else-bytes-wanted-2 w ↦ let s = b.size in search rules
    ])

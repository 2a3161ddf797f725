use Rattle.std.proofs.Common.{◌∙◌, sym, rules}
use Rattle.el_merkle.proofs.Rows.{above, top}
use Rattle.el_merkle.proofs.tree.root.Goals as goal

pub loop-hashes-smaller : goal.loop-hashes-smaller
loop-hashes-smaller c =
    let next = above c.loop-hashes.hashes.items c.pair_up.new.row.items c.pair_up.ensures (search rules) in
    next.shorter

pub loop-hashes-preserved : goal.loop-hashes-preserved
loop-hashes-preserved c =
    let next = above c.loop-hashes.hashes.items c.pair_up.new.row.items c.pair_up.ensures (search rules) in
    record { some = next.some; same = next.same ∙ c.loop-hashes.invariant.same }

pub returns : goal.returns
returns c =
    let last = top c.loop-hashes.hashes.items c.index.result.now c.loop-hashes.invariant.some (search rules) c.index.ensures in
    sym last.root_is ∙ c.loop-hashes.invariant.same

use Rattle.std.proofs.Common.{◌+◌, ◌/◌, arith}
use Rattle.el_levels.specs.Kept.{block_hashes}
use Rattle.el_levels.proofs.ProofLemmas.{last_is}
use Rattle.el_levels.proofs.trees.last_hash.Goals as goal

pub returns-then-asked-number-clause-hash : goal.returns-then-asked-number-clause-hash
returns-then-asked-number-clause-hash g c = λ chain stands of.
    let rest = c.requires.rest in
    let last = c.if-asked-number.true in
    last_is (c.args.upto + 1) c.args.asked (block_hashes chain) c.args.group.now c.top.result (omega (arith, rest, last))
    c.requires.at of c.top.ensures

pub returns-clause-hash : goal.returns-clause-hash
returns-clause-hash g c = λ chain stands of.
    let rest = c.requires.rest in
    last_is (c.args.upto + 1) (c.args.upto / 2048) (block_hashes chain) c.in_ok-last.last c.top-2.result (omega (arith, rest))
    c.in_ok-last.ensures.at (c.in_ok-last.ensures.group chain stands) c.top-2.ensures

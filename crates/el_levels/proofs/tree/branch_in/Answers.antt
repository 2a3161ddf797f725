use Rattle.std.proofs.Common.{◌≡◌, ◌∙◌, ◌+◌, ◌-◌, ℕ, take, drop, ap, arith}
use Rattle.el_merkle.specs.Merkle.{partner, branch_through}
use Rattle.el_levels.proofs.TreeLemmas.{climb_begins, climb_more, climb_ends}
use Rattle.el_levels.proofs.tree.branch_in.Goals as goal

pub loop-init : goal.loop-init
loop-init c = rw c.new-partners.ensures.items (climb_begins c.args.hashes.now c.args.levels c.args.count c.args.pos c.requires)

pub loop-preserved : goal.loop-preserved
loop-preserved c =
    let len : (c.loop.start + c.loop.len) - c.loop.start ≡ c.loop.len = omega arith in
    climb_more c.args.hashes.now c.args.levels c.loop.counter c.loop.start c.loop.len c.loop.place c.loop.partners.items c.push.new.self.items
    (branch_through c.args.levels (take c.args.count c.args.hashes.now) c.args.pos) c.partner.result c.loop-test.true
    (c.partner.ensures ∙ ap (λ (k : ℕ). partner (take k (drop c.loop.start c.args.hashes.now)) c.loop.place) len)
    c.in_ok-push.ensures.items c.loop.invariant

pub returns : goal.returns
returns c =
    climb_ends c.args.hashes.now c.args.levels c.loop.counter c.loop.start c.loop.len c.loop.place c.loop.partners.items
    (branch_through c.args.levels (take c.args.count c.args.hashes.now) c.args.pos) c.loop-test.false c.loop.invariant

use Rattle.std.proofs.Common.{◌≡◌, ◌^◌, ◌≤◌, ℕ, subst, arith}
use Rattle.el_merkle.specs.Merkle.{levels}
use Rattle.el_merkle.proofs.Rows.{levels_more}
use Rattle.el_levels.proofs.TreeLemmas.{no_levels, few_levels, levels_reach}
use Rattle.el_levels.proofs.tree.levels_of.Goals as goal

pub overflow_add-levels : goal.overflow_add-levels
overflow_add-levels c =
    let small = c.ranges.count in
    let few = few_levels c.args.count 64 (omega (arith, small)) in
    let same = c.loop-left.invariant.same in
    omega arith

pub loop-left-preserved : goal.loop-left-preserved
loop-left-preserved c =
    let many = c.loop-left-test.true in
    let more = levels_more c.loop-left.left (omega (arith, many)) in
    let same = c.loop-left.invariant.same in
    let within = c.loop-left.invariant.within in
    record { within = omega arith; same = omega arith }

pub returns-clause-levels : goal.returns-clause-levels
returns-clause-levels c =
    let few = c.loop-left-test.false in
    let none = no_levels c.loop-left.left (omega (arith, few)) in
    let same = c.loop-left.invariant.same in
    omega arith

pub returns-clause-reach : goal.returns-clause-reach
returns-clause-reach c =
    let few = c.loop-left-test.false in
    let none = no_levels c.loop-left.left (omega (arith, few)) in
    let same = c.loop-left.invariant.same in
    let is : levels c.args.count ≡ c.loop-left.levels = omega arith in
    subst (λ (k : ℕ). c.args.count ≤ 2 ^ k) is (levels_reach c.args.count)

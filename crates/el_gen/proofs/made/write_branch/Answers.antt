use Rattle.std.proofs.Common.{◌≡◌, ◌<◌, ◌+◌, ◌-◌, refl, arith}
use Rattle.el_gen.proofs.Branches.{step_written, step_hash}
use Rattle.el_gen.proofs.made.write_branch.Goals as goal

pub loop-step-preserved : goal.loop-step-preserved
loop-step-preserved c =
    let tip = c.in_ok-tip.ensures.tip in
    let some : 0 < c.args.count - c.loop-step.step = omega arith in
    let less : c.args.count - (c.loop-step.step + 1) ≡ c.args.count - c.loop-step.step - 1 = omega arith in
    record {
      written = rw (tip, c.in_ok-tip.ensures.written) (step_written _ c.loop-step.out c.loop-step.tip.hash
          c.loop-step.tip.branch c.args.branch c.loop-step.tip.next (c.args.count - c.loop-step.step)
          (c.args.count - (c.loop-step.step + 1)) some less c.loop-step.invariant.written);
      hash = rw tip (step_hash _ c.loop-step.tip.hash c.loop-step.tip.branch c.args.branch
          c.loop-step.tip.next (c.args.count - c.loop-step.step) (c.args.count - (c.loop-step.step + 1)) some less
          c.loop-step.invariant.hash);
      next = rw tip (let before = c.loop-step.invariant.next in omega arith);
      same = λ first. rw tip refl;
    }

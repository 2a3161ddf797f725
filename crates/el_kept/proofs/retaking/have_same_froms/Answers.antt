use Rattle.std.proofs.Common.{◌<◌, length, subst}
use Rattle.el_kept.proofs.Retaken.{froms_apart, froms_more, when_not}
use Rattle.el_kept.proofs.retaking.have_same_froms.Goals as goal

pub returns-then-old-new : goal.returns-then-old-new
returns-then-old-new c = froms_apart c.args.old.now c.args.new.now c.if-old-new.true

pub loop-number-preserved : goal.loop-number-preserved
loop-number-preserved c = record {
  sizes = c.loop-number.invariant.sizes;
  same =
      let there : c.loop-number.number < length c.args.new.now = subst (λ n. c.loop-number.number < n) c.loop-number.invariant.sizes c.loop-number-test.true in
      froms_more c.args.old.now c.args.new.now c.loop-number.number _ _ c.loop-number-test.true there
      (when_not _ c.ne.result c.ne.ensures c.if-ne.false) c.loop-number.invariant.same;
}

use Rattle.std.proofs.Common.{◌<◌, length, subst}
use Rattle.el_kept.proofs.Retaken.{same_more}
use Rattle.el_kept.proofs.retaking.all_take_same.Goals as goal

pub loop-number-preserved : goal.loop-number-preserved
loop-number-preserved c = record {
  sizes = c.loop-number.invariant.sizes;
  same =
      let there : c.loop-number.number < length c.args.new.now = subst (λ n. c.loop-number.number < n) c.loop-number.invariant.sizes c.loop-number-test.true in
      same_more c.args.old.now c.args.new.now c.loop-number.number _ _ c.loop-number-test.true there c.loop-number.invariant.same (c.take_same.ensures c.if-not-take_same.false);
}

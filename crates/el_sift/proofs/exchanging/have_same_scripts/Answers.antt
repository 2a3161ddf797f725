use Rattle.std.proofs.Common.{◌<◌, length, subst}
use Rattle.el_sift.proofs.Exchanged.{when_not, same_more}
use Rattle.el_sift.proofs.exchanging.have_same_scripts.Goals as goal

pub loop-number-preserved : goal.loop-number-preserved
loop-number-preserved c = record {
  sizes = c.loop-number.invariant.sizes;
  same = λ s.
      let there : c.loop-number.number < length c.args.new.now = subst (λ n. c.loop-number.number < n) c.loop-number.invariant.sizes c.loop-number-test.true in
      same_more s c.args.old.now c.args.new.now c.loop-number.number _ _ c.loop-number-test.true there (c.loop-number.invariant.same s)
      (when_not _ c.ne.result c.ne.ensures c.if-ne.false);
}

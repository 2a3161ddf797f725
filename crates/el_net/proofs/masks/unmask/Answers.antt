use Rattle.std.proofs.Common.{rules, ◌≡◌, ◌∙◌, ap, sym, arith, refl, suc, ◌+◌}
use Rattle.std.specs.Cmp.Rules.{comparing}
use Rattle.el_net.proofs.Unmasking.{so_far, one_more, all_done, unmasked_plain}
use Rattle.el_net.proofs.masks.unmask.Goals as goal

pub returns-then-eq : goal.returns-then-eq
returns-then-eq c = sym (unmasked_plain c.args.mask.bytes c.args.place c.args.bytes.now (search (rules, comparing)))

pub loop-at-preserved : goal.loop-at-preserved
loop-at-preserved c = record {
  start = refl;
  bytes = let next : suc c.loop-at.at ≡ c.loop-at.at + 1 = omega arith in
      rw c.loop-at.invariant.bytes (one_more c.args.mask.bytes c.args.place c.args.bytes.now c.loop-at.at c.loop-at-test.true
      ∙ ap (so_far c.args.mask.bytes c.args.place c.args.bytes.now) next);
}

pub returns : goal.returns
returns c = c.loop-at.invariant.bytes ∙ all_done c.args.mask.bytes c.args.place c.args.bytes.now c.loop-at.at (omega (arith, c.loop-at-test.false))

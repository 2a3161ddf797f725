use Rattle.std.proofs.Common.{refl, sym, ◌∙◌, rules}
use Rattle.std.proofs.Math.ListN.{drop_of_length-le}
use Rattle.std.proofs.Math.Seq.{drop-length}
use Rattle.el_fakes.proofs.Arriving.{here, is_next, passes}
use Rattle.el_fakes.proofs.taking.take.Goals as goal

pub loop-place-preserved : goal.loop-place-preserved
loop-place-preserved c =
    c.loop-place.invariant
    ∙ passes c.index-coming-place.result _ c.args.coming.now _ c.args.last _ (here c.args.coming.now c.loop-place.place c.index-coming-place.result c.loop-place-test.true c.index-coming-place.is) refl
    (sym c.hand.ensures.passed ∙ search rules)

pub returns-in-Some-clause-handed : goal.returns-in-Some-clause-handed
returns-in-Some-clause-handed c =
    c.loop-place.invariant
    ∙ is_next c.index-coming-place.result _ c.args.coming.now _ c.in-Some.taken c.hand.new.buf c.args.last _
    (here c.args.coming.now c.loop-place.place c.index-coming-place.result c.loop-place-test.true c.index-coming-place.is) refl
    (sym c.hand.ensures.passed ∙ search rules) c.in-Some.ensures.handed

pub returns-clause-handed : goal.returns-clause-handed
returns-clause-handed c = c.loop-place.invariant ∙ rw (drop_of_length-le c.args.coming.now c.loop-place-test.false) (rw (drop-length c.args.coming.now) refl)

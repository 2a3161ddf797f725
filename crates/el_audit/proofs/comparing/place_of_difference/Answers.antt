use Rattle.std.proofs.Common.{rules}
use Rattle.el_audit.proofs.Reports.{same_more, differ_longer}
use Rattle.el_audit.proofs.comparing.place_of_difference.Goals as goal

pub loop-place-preserved : goal.loop-place-preserved
loop-place-preserved g c =
    same_more c.args.wanted.now c.args.claimed.now c.loop-place.place c.index-wanted-place.result c.loop-place-test.true c.index-wanted-place.is c.loop-place.invariant
    (c.has_at.ensures.0 (search rules))

pub returns-then-claimed-wanted : goal.returns-then-claimed-wanted
returns-then-claimed-wanted g c =
    differ_longer c.args.wanted.now c.args.claimed.now c.loop-place.place c.loop-place-test.false c.if-claimed-wanted.true c.loop-place.invariant

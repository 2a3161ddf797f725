use Rattle.std.proofs.Common.{◌≡◌, ◌-◌, suc, sym, ap, ◌∙◌, arith}
use Rattle.std.specs.Prelude.{slice_get}
use Rattle.el_sync.proofs.Compared.{none_below}
use Rattle.el_sync.proofs.comparing.last_of.Goals as goal

pub returns-in_err-node : goal.returns-in_err-node
returns-in_err-node c = λ hash path below is is_end le one.
    let up : c.loop-below.below ≡ suc (c.loop-below.below - 1) = (let t = c.loop-below-test.true in omega arith) in
    let here = ap (slice_get path) (sym up) ∙ c.loop-below.invariant.node hash path is is_end in
    absurd (none_below path c.loop-below.node (c.loop-below.below - 1) here (sym (c.in_err-node.ensures hash path (c.loop-below.below - 1) is here)))

pub loop-below-preserved : goal.loop-below-preserved
loop-below-preserved c =
    let up : c.loop-below.below ≡ suc (c.loop-below.below - 1) = (let t = c.loop-below-test.true in omega arith) in
    record {
      least = λ le. (let t = c.loop-below-test.true in omega arith);
      node = λ hash path is is_end. sym (c.in_ok-node.ensures hash path (c.loop-below.below - 1) is (ap (slice_get path) (sym up) ∙ c.loop-below.invariant.node hash path is is_end));
    }

pub returns : goal.returns
returns c = λ hash path below is is_end le one.
    let long = is_end.1 in
    let least = c.loop-below.invariant.least (omega (arith, long, le)) in
    let there : c.loop-below.below ≡ below = (let t = c.loop-below-test.false in omega (arith, least, one)) in
    sym (ap (slice_get path) (sym there) ∙ c.loop-below.invariant.node hash path is is_end)

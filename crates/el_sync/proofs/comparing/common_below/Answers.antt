use Rattle.std.proofs.Common.{◌≡◌, ◌∙◌, ◌-◌, suc, arith}
use Rattle.el_model.proofs.LedgerMoves.{asked_on}
use Rattle.el_sync.proofs.Compared.{below_to, below_next, below_same, below_none, below_has, other_hash, this_hash}
use Rattle.el_sync.proofs.comparing.common_below.Goals as goal

pub returns-in_default-clause-common : goal.returns-in_default-clause-common
returns-in_default-clause-common g c = λ hash path chain is stands first.
    let below = c.loop-height.invariant.below hash path chain is stands first in
    absurd (below_has chain path c.loop-height.height c.loop-height.at below (let t = c.loop-height-test.true in omega arith) c.in_default.is)

pub returns-in_default-clause-rows : goal.returns-in_default-clause-rows
returns-in_default-clause-rows g c = λ hash path chain is stands first.
    let below = c.loop-height.invariant.below hash path chain is stands first in
    absurd (below_has chain path c.loop-height.height c.loop-height.at below (let t = c.loop-height-test.true in omega arith) c.in_default.is)

pub returns-in_err-header-clause-rows : goal.returns-in_err-header-clause-rows
returns-in_err-header-clause-rows g c = λ hash path chain is stands first.
    let to = below_to chain path c.loop-height.height c.loop-height.at (c.loop-height.invariant.below hash path chain is stands first) in
    omega (arith, to, c.loop-height.invariant.rows, c.header.ensures.rows)

pub returns-then-has_hash-clause-common : goal.returns-then-has_hash-clause-common
returns-then-has_hash-clause-common g c = λ hash path chain is stands first.
    let below = c.loop-height.invariant.below hash path chain is stands first in
    let here = c.loop-height.invariant.asked.stays.still_stands chain stands in
    let one : c.loop-height.height ≡ suc (c.loop-height.height - 1) = (let t = c.loop-height-test.true in omega arith) in
    let all = below_same chain path c.loop-height.height (c.loop-height.height - 1) c.loop-height.at c.in-Some.node _ below one c.in-Some.is (c.in_ok-header.ensures.header chain here)
    (this_hash c.has_hash.result _ c.if-has_hash.true c.has_hash.ensures) in
    omega (arith, all, one)

pub returns-then-has_hash-clause-rows : goal.returns-then-has_hash-clause-rows
returns-then-has_hash-clause-rows g c = λ hash path chain is stands first.
    let to = below_to chain path c.loop-height.height c.loop-height.at (c.loop-height.invariant.below hash path chain is stands first) in
    omega (arith, to, c.loop-height.invariant.rows, c.header.ensures.rows)

pub loop-height-preserved : goal.loop-height-preserved
loop-height-preserved g c =
    record {
      asked = asked_on g.G.Ledger c.args.ledger.now c.loop-height.ledger c.header.new.self c.loop-height.invariant.asked c.in_ok-header.ensures.quiet;
      disk_count = c.in_ok-header.ensures.cause.uncounted ∙ c.loop-height.invariant.disk_count;
      rows = omega (arith, c.loop-height.invariant.rows, c.header.ensures.rows, c.loop-height-test.true);
      below = λ hash path chain is stands first.
          let here = c.loop-height.invariant.asked.stays.still_stands chain stands in
          let one : c.loop-height.height ≡ suc (c.loop-height.height - 1) = (let t = c.loop-height-test.true in omega arith) in
          below_next chain path c.loop-height.height (c.loop-height.height - 1) c.loop-height.at c.parent-at.result c.in-Some.node _ (c.loop-height.invariant.below hash path chain is stands first) one c.in-Some.is
          (c.in_ok-header.ensures.header chain here) (other_hash c.has_hash.result _ c.if-has_hash.false c.has_hash.ensures)
          (λ height there. c.parent-at.ensures hash path height is there);
    }

pub returns-clause-common : goal.returns-clause-common
returns-clause-common g c = λ hash path chain is stands first.
    below_none chain path c.loop-height.height c.loop-height.at (c.loop-height.invariant.below hash path chain is stands first) (let t = c.loop-height-test.false in omega arith)

pub returns-clause-rows : goal.returns-clause-rows
returns-clause-rows g c = λ hash path chain is stands first.
    let to = below_to chain path c.loop-height.height c.loop-height.at (c.loop-height.invariant.below hash path chain is stands first) in
    omega (arith, to, c.loop-height.invariant.rows, (let t = c.loop-height-test.false in t))

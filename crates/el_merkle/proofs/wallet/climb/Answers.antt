use Rattle.std.proofs.Common.{◌∙◌, sym, rules}
use Rattle.el_merkle.proofs.Rows.{climbed_even, climbed_odd, climbed_all}
use Rattle.el_merkle.proofs.wallet.climb.Goals as goal
use Rattle.el_merkle.proofs.wallet.climb.Goals.{then-place-eq0, else-place-eq0}

pub loop-next-preserved : goal.loop-next-preserved
loop-next-preserved c =
    elim c.if-place-eq0.branch [
      | then-place-eq0 w ↦
          climbed_even c.args.branch.now c.loop-next.next-index c.loop-next.hash c.if-place-eq0.hash c.loop-next.place _
          c.loop-next-test.true w.if-place-eq0.true (w.hash-is ∙ w.joined-hash.ensures)
          ∙ c.loop-next.invariant
      | else-place-eq0 w ↦
          climbed_odd c.args.branch.now c.loop-next.next-index c.loop-next.hash c.if-place-eq0.hash c.loop-next.place _
          c.loop-next-test.true w.if-place-eq0.false (w.hash-is ∙ w.joined-hash-else-place-eq0.ensures)
          ∙ c.loop-next.invariant
    ]

pub returns : goal.returns
returns c = sym (climbed_all c.args.branch.now c.loop-next.next-index c.loop-next.hash c.loop-next.place (search rules)) ∙ c.loop-next.invariant

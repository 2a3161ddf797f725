use Rattle.std.proofs.Common.{◌∙◌, ◌+◌, ◌-◌, ap, sym, arith}
use Rattle.el_merkle.specs.Merkle.{row}
use Rattle.el_merkle.proofs.Rows.{row_more, row_ends}
use Rattle.el_merkle.proofs.tree.row.Goals as goal

pub loop-preserved : goal.loop-preserved
loop-preserved c = record {
  inside = omega arith;
  same =
      ap (row (c.args.levels - (c.loop.counter + 1))) c.pair_up.ensures
      ∙ sym (row_more c.args.levels c.loop.counter c.loop.hashes.items c.loop-test.true) ∙ c.loop.invariant.same;
}

pub returns : goal.returns
returns c = sym (row_ends c.args.levels c.loop.counter c.loop.hashes.items c.loop-test.false) ∙ c.loop.invariant.same

use Rattle.std.proofs.Common.{◌∙◌, ◌++◌, List, ap, arith, rules}
use Rattle.el_base.specs.declared.hash.Hash32.{Hash32}
use Rattle.el_merkle.specs.Merkle.{row}
use Rattle.el_levels.specs.within.RowsThrough.{rows_through}
use Rattle.el_levels.proofs.TreeLemmas.{grown_begins, grown_more, grown_all}
use Rattle.el_levels.proofs.tree.rows_over.Goals as goal

pub loop-init : goal.loop-init
loop-init c = record {
  inside = omega arith;
  rows =
      grown_begins c.args.levels c.new-hashes.result.items c.in_ok-last.last.items c.args.list.now
      c.new-hashes.ensures.items (search rules);
}

pub loop-preserved : goal.loop-preserved
loop-preserved c = record {
  inside = omega arith;
  rows =
      grown_more c.args.levels c.loop.counter c.loop.hashes.items c.loop.last.items c.extend_from_slice.new.self.items
      c.in_ok-last-2.last.items (rows_through c.args.levels c.args.list.now) c.loop-test.true
      (c.in_ok-extend_from_slice.ensures.items ∙ ap (λ (t : List Hash32). c.loop.hashes.items ++ t) c.as_slice.ensures.value)
      (c.in_ok-last-2.ensures ∙ ap (row 1) c.as_slice-in-loop.ensures.value) c.loop.invariant.rows;
}

pub returns : goal.returns
returns c =
    c.in_ok-extend_from_slice-2.ensures.items
    ∙ ap (λ (t : List Hash32). c.loop.hashes.items ++ t) c.as_slice-2.ensures.value
    ∙ grown_all c.args.levels c.loop.counter c.loop.hashes.items c.loop.last.items (rows_through c.args.levels c.args.list.now)
    c.loop-test.false c.loop.invariant.rows

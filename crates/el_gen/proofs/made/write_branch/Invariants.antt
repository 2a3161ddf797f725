use Rattle.std.proofs.Common.{◌≡◌, ◌+◌, ◌-◌, ◌++◌}
use Rattle.el_gen.specs.MadeFile.{block_records, branch_blocks, last_block_hash}
use Rattle.el_gen.proofs.made.write_branch.Given as goal

abbrev pub invariant-loop-step : goal.invariant-loop-step
invariant-loop-step l = record {
  written : l.out ++ block_records (branch_blocks l.tip.hash l.tip.branch l.branch l.tip.next (l.count - l.step))
      ≡ l.fn.out ++ block_records (branch_blocks l.fn.last.hash l.fn.last.branch l.branch l.fn.last.next l.count);
  hash : last_block_hash l.tip.hash (branch_blocks l.tip.hash l.tip.branch l.branch l.tip.next (l.count - l.step))
      ≡ last_block_hash l.fn.last.hash (branch_blocks l.fn.last.hash l.fn.last.branch l.branch l.fn.last.next l.count);
  next : l.tip.next ≡ l.fn.last.next + l.step;
  same : l.fn.last.branch ≡ l.branch → l.tip.branch ≡ l.branch;
}

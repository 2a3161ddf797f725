use Rattle.std.proofs.Common.{refl, get_or}
use Rattle.el_outside.proofs.Calls.{has_one, reads_ok, reads_failed}
use Rattle.el_audit_run.proofs.Putting.{round_all, round_more, round_next, round_none, round_refused}
use Rattle.el_audit_run.proofs.chain.read_path.Goals as goal

pub loop-height-init : goal.loop-height-init
loop-height-init g c = rw c.new-chain.ensures (round_none g.A.Archive c.args.archive.now c.args.path.now c.requires.nodes c.requires.linked)

pub add_block-requires-clause-node : goal.add_block-requires-clause-node
add_block-requires-clause-node g c = λ κs within.
    (round_next g.A.Archive c.args.archive.now c.loop-height.archive c.args.path.now c.loop-height.height c.loop-height.chain (get_or c.args.path.now c.loop-height.height _) _ c.loop-height.invariant
    c.loop-height-test.true refl).node

pub add_block-requires-clause-names : goal.add_block-requires-clause-names
add_block-requires-clause-names g c = λ κs within.
    (round_next g.A.Archive c.args.archive.now c.loop-height.archive c.args.path.now c.loop-height.height c.loop-height.chain (get_or c.args.path.now c.loop-height.height _) _ c.loop-height.invariant
    c.loop-height-test.true refl).names

pub loop-height-preserved : goal.loop-height-preserved
loop-height-preserved g c =
    round_more g.A.Archive c.args.archive.now c.loop-height.archive c.add_block.new.archive c.args.path.now c.loop-height.height c.loop-height.chain c.add_block.new.chain
    (get_or c.args.path.now c.loop-height.height _) _ c.loop-height.invariant c.loop-height-test.true refl (has_one c.in-Ok.ensures.only_reads) c.in-Ok.ensures.added

pub returns-in-Err-clause-bad : goal.returns-in-Err-clause-bad
returns-in-Err-clause-bad g c =
    round_refused g.A.Archive c.args.archive.now c.loop-height.archive c.add_block.new.archive c.args.path.now c.loop-height.height c.loop-height.chain (get_or c.args.path.now c.loop-height.height _) _ c.in-Err.fault
    c.loop-height.invariant c.loop-height-test.true refl c.in-Err.ensures.only_reads.keeps c.in-Err.ensures.refused

pub returns-in-Err-clause-only_reads : goal.returns-in-Err-clause-only_reads
returns-in-Err-clause-only_reads g c = reads_failed c.loop-height.invariant.read c.in-Err.ensures.only_reads refl

pub returns-clause-read : goal.returns-clause-read
returns-clause-read g c = round_all g.A.Archive c.args.archive.now c.loop-height.archive c.args.path.now c.loop-height.height c.loop-height.chain c.loop-height.invariant c.loop-height-test.false

pub returns-clause-only_reads : goal.returns-clause-only_reads
returns-clause-only_reads g c = reads_ok c.loop-height.invariant.read

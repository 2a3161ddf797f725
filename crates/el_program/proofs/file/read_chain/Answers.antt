use Rattle.std.proofs.Common.{◌≡◌, refl, ap, Err}
use Rattle.el_outside.proofs.Traces.{all_grow_more}
use Rattle.el_outside.proofs.Calls.{has_one, has_then, reads_ok, reads_other, reads_failed}
use Rattle.el_program.specs.declared.file.FileFault.TheVariants as fault
use Rattle.el_block.proofs.BlockLemmas.{one_block}
use Rattle.el_program.proofs.FileLemmas.{round_none, round_more, round_refused, round_all}
use Rattle.el_program.proofs.file.read_chain.Goals as goal

pub loop-node-init : goal.loop-node-init
loop-node-init g c = rw c.new-ledger.ensures (round_none g.A.Archive c.scan_first.new.archive c.as_slice-node-items.result.now)

pub loop-node-preserved : goal.loop-node-preserved
loop-node-preserved g c =
    round_more g.A.Archive c.scan_first.new.archive c.loop-node.archive c.read_record.new.archive c.as_slice-node-items.result.now
    c.loop-node.node-index _ c.loop-node.ledger c.add_block.new.ledger c.in-Ok-read_record.block
    c.loop-node.invariant c.loop-node-test.true (has_one c.in-Ok-read_record.ensures.only_reads)
    c.in-Ok-add_block.ensures.added c.in-Ok-add_block.ensures.next c.in-Ok-read_record.ensures.read

pub returns-in-Err-read_record-clause-bad : goal.returns-in-Err-read_record-clause-bad
returns-in-Err-read_record-clause-bad g c = λ bad.
    let a = g.A.Archive in
    let is : c.in-Err-read_record.fault ≡ fault.Bad = cc in
    let read = c.in-Err-read_record.ensures.bad (ap Err is) in (
      c.in-Ok.found.items,
      a.bytes c.scan_first.new.archive,
      c.in-Ok.ensures.scanned,
      λ t. all_grow_more (a.bytes c.scan_first.new.archive) (a.bytes c.loop-node.archive) (a.bytes c.read_record.new.archive) (c.loop-node.invariant.read.keeps t) (c.in-Err-read_record.ensures.only_reads.keeps t),
      rw c.as_slice-node-items.ensures.value at
          (round_refused a c.scan_first.new.archive c.loop-node.archive c.read_record.new.archive c.as_slice-node-items.result.now c.loop-node.node-index _ c.loop-node.ledger
          c.loop-node.invariant c.loop-node-test.true c.in-Err-read_record.ensures.only_reads.keeps
          (read.0, read.1, λ b same encoded follows. read.2 b same encoded)),
    )

pub returns-in-Err-read_record-clause-only_reads : goal.returns-in-Err-read_record-clause-only_reads
returns-in-Err-read_record-clause-only_reads g c =
    reads_failed (has_then (has_one c.in-Ok.ensures.only_reads) c.loop-node.invariant.read)
    c.in-Err-read_record.ensures.only_reads refl

pub returns-in-Err-add_block-clause-bad : goal.returns-in-Err-add_block-clause-bad
returns-in-Err-add_block-clause-bad g c = λ bad.
    let a = g.A.Archive in
    let is : c.in-Err-add_block.fault ≡ fault.Bad = cc in
    let read = c.in-Ok-read_record.ensures.read in (
      c.in-Ok.found.items,
      a.bytes c.scan_first.new.archive,
      c.in-Ok.ensures.scanned,
      λ t. all_grow_more (a.bytes c.scan_first.new.archive) (a.bytes c.loop-node.archive) (a.bytes c.read_record.new.archive) (c.loop-node.invariant.read.keeps t) (c.in-Ok-read_record.ensures.only_reads.keeps t),
      rw c.as_slice-node-items.ensures.value at
          (round_refused a c.scan_first.new.archive c.loop-node.archive c.read_record.new.archive c.as_slice-node-items.result.now c.loop-node.node-index _ c.loop-node.ledger
          c.loop-node.invariant c.loop-node-test.true c.in-Ok-read_record.ensures.only_reads.keeps (
            read.0,
            read.2,
            λ b same encoded follows.
                c.in-Err-add_block.ensures.bad (ap Err is) (rw (one_block read.0 c.in-Ok-read_record.block b read.3 encoded) follows),
          )),
    )

pub returns-in-Err-add_block-clause-only_reads : goal.returns-in-Err-add_block-clause-only_reads
returns-in-Err-add_block-clause-only_reads g c =
    reads_other (has_then (has_then (has_one c.in-Ok.ensures.only_reads) c.loop-node.invariant.read)
    (has_one c.in-Ok-read_record.ensures.only_reads))
    (λ is. c.in-Err-add_block.ensures.not_failed (ap Err is))

pub returns-clause-good : goal.returns-clause-good
returns-clause-good g c = c.loop-node.invariant.good

pub returns-clause-nodes : goal.returns-clause-nodes
returns-clause-nodes g c = c.in-Ok.ensures.nodes

pub returns-clause-heads : goal.returns-clause-heads
returns-clause-heads g c = c.in-Ok.ensures.heads

pub returns-clause-read : goal.returns-clause-read
returns-clause-read g c =
    let a = g.A.Archive in (
      a.bytes c.scan_first.new.archive,
      c.in-Ok.ensures.scanned,
      c.loop-node.invariant.read.keeps,
      rw c.as_slice-node-items.ensures.value at
          (round_all a c.scan_first.new.archive c.loop-node.archive c.as_slice-node-items.result.now c.loop-node.node-index c.loop-node.ledger c.loop-node.invariant c.loop-node-test.false),
    )

pub returns-clause-only_reads : goal.returns-clause-only_reads
returns-clause-only_reads g c = reads_ok
    (has_then (has_one c.in-Ok.ensures.only_reads) c.loop-node.invariant.read)

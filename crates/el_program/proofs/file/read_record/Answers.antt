use Rattle.std.proofs.Common.{◌≡◌}
use Rattle.el_chain.specs.Moves.{StoodAt}
use Rattle.el_model.proofs.ReadBodies.{stood_now}
use Rattle.el_program.specs.declared.file.FileFault.TheVariants as fault
use Rattle.el_program.specs.within.Unread.{read_fault}
use Rattle.el_program.proofs.FileLemmas.{was_changed, read_as}
use Rattle.el_program.proofs.file.read_record.Goals as goal

pub returns-in-Err-clause-bad : goal.returns-in-Err-clause-bad
returns-in-Err-clause-bad g c = λ bad.
    let a = g.A.Archive in
    let is : read_fault c.in-Err.fault ≡ fault.Bad = (let e = c.read_fault_of.ensures in cc) in
    let was = was_changed c.in-Err.fault is in
    let changed = rw was.2 at c.in-Err.ensures.changed in (
      changed.0,
      stood_now a (a.bytes c.args.archive.now) c.read_block.new.archive c.args.node.now changed.0 c.in-Err.ensures.only_reads.keeps changed.1,
      λ b same encoded. changed.2.other same,
    )

pub returns-in-Ok-clause-read : goal.returns-in-Ok-clause-read
returns-in-Ok-clause-read g c =
    let a = g.A.Archive in
    read_as c.block_of.result c.args.node.now (StoodAt a (a.bytes c.args.archive.now) (a.bytes c.read_block.new.archive)) c.in-Ok.bytes.items c.in-Ok.ensures.block
    (stood_now a (a.bytes c.args.archive.now) c.read_block.new.archive c.args.node.now c.in-Ok.bytes.items c.in-Ok.ensures.only_reads.keeps c.in-Ok.ensures.stands)
    (rw c.as_slice.ensures.value at c.block_of.ensures.read)

pub returns-in-Ok-clause-bad : goal.returns-in-Ok-clause-bad
returns-in-Ok-clause-bad g c = λ bad.
    let a = g.A.Archive in (
      c.in-Ok.bytes.items,
      stood_now a (a.bytes c.args.archive.now) c.read_block.new.archive c.args.node.now c.in-Ok.bytes.items c.in-Ok.ensures.only_reads.keeps c.in-Ok.ensures.stands,
      λ b same encoded. (rw c.as_slice.ensures.value at c.block_of.ensures.bad bad) b encoded,
    )

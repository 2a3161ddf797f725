use Rattle.std.proofs.Common.{◌≡◌}
use Rattle.el_model.proofs.ReadBodies.{stood_now, unread_one}
use Rattle.el_model.proofs.reading.read_one.Goals as goal

pub returns-in-Ok-clause-told : goal.returns-in-Ok-clause-told
returns-in-Ok-clause-told g c =
    let a = g.A.Archive in
    rw c.from_vec.ensures (stood_now a (a.bytes c.args.archive.now) c.read_block.new.archive c.args.node.now c.in-Ok.bytes.items c.in-Ok.ensures.only_reads.keeps c.in-Ok.ensures.stands)

pub returns-in-Err-clause-unread : goal.returns-in-Err-clause-unread
returns-in-Err-clause-unread g c =
    let a = g.A.Archive in
    unread_one a (a.bytes c.args.archive.now) c.read_block.new.archive c.args.node.now c.in-Err.fault c.unread.result c.unread.ensures c.in-Err.ensures.only_reads.keeps
    c.in-Err.ensures.wanted c.in-Err.ensures.changed

use Rattle.std.proofs.Common.{ap, length, arith}
use Rattle.std.proofs.lemmas.List.{length-take-le}
use Rattle.el_tx.proofs.reading.hash_of.Goals as goal

pub copy_from_slice-requires : goal.copy_from_slice-requires
copy_from_slice-requires c =
    let taken = c.in_ok-front.ensures.taken in
    let size = length-take-le 32 c.args.c.now.rest taken.0 in
    let same = ap length taken.1 in
    omega arith

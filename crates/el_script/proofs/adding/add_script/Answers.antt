use Rattle.std.proofs.Common.{arith}
use Rattle.el_script.proofs.adding.add_script.Goals as goal

pub write-requires-clause-fits : goal.write-requires-clause-fits
write-requires-clause-fits g c =
    let few = c.in_ok-last.ensures.room in
    let count = c.in_ok-last.ensures.number in
    record { script = omega arith; next = c.requires.next; last = omega (arith, few, count); entries = omega arith; balance = omega arith }

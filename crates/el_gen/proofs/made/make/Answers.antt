use Rattle.std.proofs.Common.{◌≡◌, ◌≤◌, ◌-◌, refl, arith}
use Rattle.el_gen.proofs.Branches.{file_made, tip_made}
use Rattle.el_gen.proofs.made.make.Goals as goal

pub returns-clause-file : goal.returns-clause-file
returns-clause-file c =
    let le : c.min-left_out.result ≤ c.args.count = omega arith in
    let next : c.in_ok-fork.fork.next ≡ c.args.count - c.min-left_out.result =
    omega (arith, c.in_ok-fork.ensures.next) in
    file_made c.args.count c.min-left_out.result c.in_ok-fork.fork.hash c.in_ok-fork.fork.branch
    c.in_ok-fork.fork.next c.write_branch.new.out c.write_branch-2.new.out c.write_branch-3.new.out le
    c.min-left_out.ensures (rw c.new-file.ensures at c.in_ok-fork.ensures.written) c.in_ok-fork.ensures.hash
    (c.in_ok-fork.ensures.same refl) next c.in_ok-first.ensures.written
    c.in_ok-side.ensures.written

pub returns-clause-first : goal.returns-clause-first
returns-clause-first c =
    let le : c.min-left_out.result ≤ c.args.count = omega arith in
    let next : c.in_ok-fork.fork.next ≡ c.args.count - c.min-left_out.result =
    omega (arith, c.in_ok-fork.ensures.next) in
    tip_made c.args.count c.min-left_out.result c.in_ok-fork.fork.hash c.in_ok-first.first.hash
    c.in_ok-fork.fork.branch c.in_ok-fork.fork.next le c.in_ok-fork.ensures.hash
    (c.in_ok-fork.ensures.same refl) next c.in_ok-first.ensures.hash

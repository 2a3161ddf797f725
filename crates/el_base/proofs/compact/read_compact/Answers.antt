use Rattle.std.proofs.Common.{Ok, Err, length, ◌≡◌, ◌≤◌, sym, ◌∙◌, refl}
use Rattle.el_base.specs.Left.{AreBytes}
use Rattle.el_base.specs.CompactReading.{number_at, width_of}
use Rattle.el_base.proofs.CompactLemmas.{again, first_fault, refuses_short, refuses_long, wide_enough, passed}
use Rattle.el_base.proofs.compact.read_compact.Goals as goal

pub pass-requires : goal.pass-requires
pass-requires c =
    let e : number_at c.args.c.now.place c.args.c.now.rest ≡ Ok c.in-Ok.n = cc in
    let fits : AreBytes c.args.c.now.rest = rw c.rest-bytes.ensures at c.number_of.ensures.are_bytes in
    let w : width_of c.args.c.now.rest ≤ length c.args.c.now.rest = wide_enough _ c.args.c.now.rest _ fits e in
    let same : c.width.result ≡ width_of c.args.c.now.rest = cc in
    rw same w

pub returns-in-Ok-clause-read : goal.returns-in-Ok-clause-read
returns-in-Ok-clause-read c =
    let e : number_at c.args.c.now.place c.args.c.now.rest ≡ Ok c.in-Ok.n = cc in
    let fits : AreBytes c.args.c.now.rest = rw c.rest-bytes.ensures at c.number_of.ensures.are_bytes in
    let same : c.width.result ≡ width_of c.args.c.now.rest = cc in
    rw (c.pass.ensures.passed, same) (passed c.args.c.now.place c.args.c.now.rest c.in-Ok.n fits e)

pub returns-in-Ok-clause-only : goal.returns-in-Ok-clause-only
returns-in-Ok-clause-only c = λ bytes rest n s is.
    let e : number_at c.args.c.now.place c.args.c.now.rest ≡ Ok c.in-Ok.n = cc in
    sym e ∙ rw is (again c.args.c.now.place bytes rest n s)

pub returns-in-Ok-clause-short : goal.returns-in-Ok-clause-short
returns-in-Ok-clause-short c = λ ends.
    let e : number_at c.args.c.now.place c.args.c.now.rest ≡ Ok c.in-Ok.n = cc in
    sym e ∙ refuses_short c.args.c.now.place c.args.c.now.rest ends

pub returns-in-Ok-clause-long : goal.returns-in-Ok-clause-long
returns-in-Ok-clause-long c = λ long.
    let e : number_at c.args.c.now.place c.args.c.now.rest ≡ Ok c.in-Ok.n = cc in
    sym e ∙ refuses_long c.args.c.now.place c.args.c.now.rest long

pub returns-in-Ok-clause-exact : goal.returns-in-Ok-clause-exact
returns-in-Ok-clause-exact c =
    let e : number_at c.args.c.now.place c.args.c.now.rest ≡ Ok c.in-Ok.n = cc in
    let same : c.width.result ≡ width_of c.args.c.now.rest = cc in
    rw (e, c.pass.ensures.passed, same) refl

pub returns-in-Err-clause-fault : goal.returns-in-Err-clause-fault
returns-in-Err-clause-fault c =
    let e : number_at c.args.c.now.place c.args.c.now.rest ≡ Err c.in-Err.fault = cc in
    let fits : AreBytes c.args.c.now.rest = rw c.rest-bytes.ensures at c.number_of.ensures.are_bytes in
    first_fault c.args.c.now.place c.args.c.now.rest c.in-Err.fault fits e

pub returns-in-Err-clause-only : goal.returns-in-Err-clause-only
returns-in-Err-clause-only c = λ bytes rest n s is.
    let e : number_at c.args.c.now.place c.args.c.now.rest ≡ Err c.in-Err.fault = cc in
    sym e ∙ rw is (again c.args.c.now.place bytes rest n s)

pub returns-in-Err-clause-short : goal.returns-in-Err-clause-short
returns-in-Err-clause-short c = λ ends.
    let e : number_at c.args.c.now.place c.args.c.now.rest ≡ Err c.in-Err.fault = cc in
    sym e ∙ refuses_short c.args.c.now.place c.args.c.now.rest ends

pub returns-in-Err-clause-long : goal.returns-in-Err-clause-long
returns-in-Err-clause-long c = λ long.
    let e : number_at c.args.c.now.place c.args.c.now.rest ≡ Err c.in-Err.fault = cc in
    sym e ∙ refuses_long c.args.c.now.place c.args.c.now.rest long

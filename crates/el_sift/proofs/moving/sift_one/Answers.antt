use Rattle.std.proofs.Common.{◌≡◌, false}
use Rattle.el_mempool.specs.Sift.{may_join}
use Rattle.el_sift.proofs.Renewed.{if_none}
use Rattle.el_sift.proofs.Sifts.{goes, stays}
use Rattle.el_sift.proofs.Untouched.{both_told, passes}
use Rattle.el_sift.proofs.moving.sift_one.Goals as goal

pub returns-then-is_beyond-clause-sifted : goal.returns-then-is_beyond-clause-sifted
returns-then-is_beyond-clause-sifted g c = λ before chain all kept t e over unspent told keeps stood.
    both_told c.args.reach _ _ _ (c.is_beyond.ensures c.if-is_beyond.true) keeps
    (λ r untouched beyond. passes before chain all kept t c.args.entry.now c.args.found.now.gone c.args.confirmed.now r.touched.now c.args.found.now.changed c.args.found.now.fees c.args.found.now.touched
    untouched beyond.coins e unspent told)

pub returns-in_ok-keep-in-Some-clause-sifted : goal.returns-in_ok-keep-in-Some-clause-sifted
returns-in_ok-keep-in-Some-clause-sifted g c = λ before chain all kept t e over unspent told keeps stood.
    let may = rw c.in-Some.is at (c.in_ok-taken.ensures.stays before chain all kept t e over unspent told stood) in
    stays before chain all kept t c.args.entry.now c.args.found.now.gone c.args.found.now.changed c.keep.new.changed c.args.found.now.fees c.keep.new.fees c.args.found.now.touched c.keep.new.touched
    c.in-Some.taken.flag c.in-Some.taken.sources.items e may c.in_ok-keep-in-Some.ensures.changed c.in_ok-keep-in-Some.ensures.fees (λ s. c.in_ok-keep-in-Some.ensures.touched s)

pub returns-in_ok-leave-in-None-clause-sifted : goal.returns-in_ok-leave-in-None-clause-sifted
returns-in_ok-leave-in-None-clause-sifted g c = λ before chain all kept t e over unspent told keeps stood.
    goes before chain all kept t c.args.entry.now c.args.found.now.gone c.leave.new.gone c.args.found.now.changed c.args.found.now.fees c.leave.new.fees c.args.found.now.touched c.leave.new.touched e
    (if_none c.in_ok-taken.field-0 (may_join chain kept t ≡ false) c.in-None.is
    (c.in_ok-taken.ensures.goes before chain all kept t e over unspent told stood))
    (λ id. c.in_ok-leave-in-None.ensures.gone id) c.in_ok-leave-in-None.ensures.fees (λ s. c.in_ok-leave-in-None.ensures.touched s)

use Rattle.std.proofs.Common.{refl, arith}
use Rattle.el_core.proofs.Covered.{none_yet, one_more, all_of_them}
use Rattle.el_core.proofs.touching.add_held.Goals as goal

pub loop-script_hash-init : goal.loop-script_hash-init
loop-script_hash-init c = none_yet c.args.clients.now c.args.touched.now c.list-script_hash-items.result.now

pub loop-script_hash-preserved : goal.loop-script_hash-preserved
loop-script_hash-preserved c =
    one_more c.args.clients.now c.args.touched.now c.loop-script_hash.touched c.add_one.new.touched c.list-script_hash-items.result.now c.loop-script_hash.script_hash-index _ _ c.loop-script_hash-test.true refl
    c.loop-script_hash.invariant c.in_ok-add_one.ensures

pub returns-clause-covers : goal.returns-clause-covers
returns-clause-covers c =
    all_of_them c.args.clients.now c.args.touched.now c.loop-script_hash.touched c.list-script_hash-items.result.now c.args.scripts.now c.loop-script_hash.script_hash-index
    (let e = c.loop-script_hash-test.false in omega arith) c.list-script_hash-items.ensures.same c.loop-script_hash.invariant

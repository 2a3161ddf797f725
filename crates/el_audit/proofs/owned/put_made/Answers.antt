use Rattle.std.proofs.Common.{arith, refl}
use Rattle.std.proofs.lemmas.List.{drop_all}
use Rattle.el_audit.specs.within.Lists.{is_in_set}
use Rattle.el_audit.proofs.Walks.{put_more}
use Rattle.el_audit.proofs.owned.put_made.Goals as goal

pub loop-coin-preserved : goal.loop-coin-preserved
loop-coin-preserved c = λ coins h.
    let m = c.loop-coin.invariant coins h in
    put_more c.put.new.own (is_in_set c.args.names.now) c.args.made.now c.loop-coin.coin-index _ _ m.0 _ c.loop-coin-test.true refl (c.in_ok-put.ensures m.0 m.1) m.2

pub returns : goal.returns
returns c = λ coins h.
    let m = c.loop-coin.invariant coins h in
    let none = drop_all c.loop-coin.coin-index c.args.made.now (let e = c.loop-coin-test.false in omega arith) in
    let is = rw none at m.2 in
    rw is m.1

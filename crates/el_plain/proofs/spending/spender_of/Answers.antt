use Rattle.std.proofs.Common.{◌∙◌, sym, ap, arith, refl, []}
use Rattle.std.proofs.lemmas.List.{drop_all}
use Rattle.std.specs.List.{fold}
use Rattle.el_chain.specs.Coins.{coins_after_all}
use Rattle.el_chain.specs.History.{positions_from}
use Rattle.el_model.specs.Queries.{taken_after}
use Rattle.el_plain.proofs.Spenders.{spender_more}
use Rattle.el_plain.proofs.spending.spender_of.Goals as goal

pub loop-height-init : goal.loop-height-init
loop-height-init c = ([], refl)

pub loop-height-preserved : goal.loop-height-preserved
loop-height-preserved c =
    let m = c.loop-height.invariant in
    let b = c.index-blocks-height.result in (
      coins_after_all c.loop-height.height c.as_slice.result.now m.0,
      spender_more c.args.o.now c.loop-height.height c.args.blocks.now b c.as_slice.result.now m.0 c.loop-height.found c.spender_in-found.result _ c.loop-height-test.true c.index-blocks-height.is c.as_slice.ensures c.spender_in-found.ensures m.1,
    )

pub returns : goal.returns
returns c =
    let m = c.loop-height.invariant in
    let none = drop_all c.loop-height.height c.args.blocks.now (let e = c.loop-height-test.false in omega arith) in
    sym (ap (λ bs. fold (taken_after c.args.o.now) c.loop-height.found (positions_from c.loop-height.height bs m.0)) none) ∙ m.1

use Rattle.std.proofs.Common.{◌∙◌, ap, sym, arith, append-nil}
use Rattle.std.proofs.lemmas.List.{drop_all}
use Rattle.sha2.specs.Sha256.{sha256}
use Rattle.el_audit.proofs.Walks.{coin_is, made_step}
use Rattle.el_audit.proofs.owned.coins_of.Goals as goal

pub loop-index-preserved : goal.loop-index-preserved
loop-index-preserved c =
    let o = c.index-outputs-index.result in
    made_step c.args.txid c.args.height c.loop-index.index c.args.outputs.now o c.loop-index.made.items _ _ _ c.loop-index-test.true c.index-outputs-index.is
    c.loop-index.invariant c.in_ok-push.ensures.items
    (coin_is c.args.txid c.sha256.result c.args.height c.loop-index.index o (c.sha256.ensures ∙ ap sha256 c.as_slice.ensures))

pub returns : goal.returns
returns c =
    let none = drop_all c.loop-index.index c.args.outputs.now (let e = c.loop-index-test.false in omega arith) in
    let is = rw none at c.loop-index.invariant in
    sym (append-nil c.loop-index.made.items) ∙ is

use Rattle.std.proofs.Common.{rules, ap, ◌∙◌, ◌||◌, Bool}
use Rattle.std.specs.Str.{bytes_eq}
use Rattle.el_tx.specs.declared.types.TxOut.{TxOut}
use Rattle.el_chain.specs.Coins.{script_hash_of}
use Rattle.std.specs.List.{list_any}
use Rattle.el_chain.specs.Headers.{same_hash}
use Rattle.el_chain.proofs.TouchLemmas.{any_step, any_added, same_turned}
use Rattle.el_coins.proofs.touching.touch_outputs.Goals as goal

pub loop-output-preserved : goal.loop-output-preserved
loop-output-preserved c = λ s. any_step (λ (o : TxOut). bytes_eq (script_hash_of o) s.0) c.args.outputs.now c.loop-output.output-index c.output-item.result _
    (list_any (same_hash s) c.loop-output.touched) _ _ c.loop-output-test.true c.output-item.is
    (c.loop-output.invariant s)
    (any_added s c.sha256.result c.loop-output.touched c.add.new.self c.in_ok-add.ensures.ok
    ∙ ap (λ (b : Bool). list_any (same_hash s) c.loop-output.touched || b) (same_turned s c.sha256.result ∙ search rules))

use Rattle.std.proofs.Common.{ap, ◌∙◌, arith}
use Rattle.sha2.specs.Sha256.{sha256}
use Rattle.std.specs.Str.{bytes_eq}
use Rattle.el_tx.specs.declared.types.TxOut.{TxOut}
use Rattle.el_chain.specs.Coins.{script_hash_of}
use Rattle.el_chain.proofs.TouchLemmas.{any_step}
use Rattle.el_audit.specs.within.Lists.{is_in_set}
use Rattle.el_audit.proofs.Walks.{any_ends, paid_more}
use Rattle.el_audit.proofs.scripts.add_outputs.Goals as goal

pub loop-output-preserved : goal.loop-output-preserved
loop-output-preserved c = λ s. any_step (λ (o : TxOut). bytes_eq (script_hash_of o) s.0) c.args.outputs.now c.loop-output.output-index c.output-item.result _
    (is_in_set c.loop-output.scripts s) _ _ c.loop-output-test.true c.output-item.is (c.loop-output.invariant s)
    (paid_more c.sha256.result s (script_hash_of c.output-item.result) _ _ (c.sha256.ensures ∙ ap sha256 c.as_slice.ensures) (c.in_ok-insert.ensures.updates.0 s))

pub returns : goal.returns
returns c = λ s. any_ends (λ (o : TxOut). bytes_eq (script_hash_of o) s.0) c.args.outputs.now c.loop-output.output-index _ _
    (let e = c.loop-output-test.false in omega arith) (c.loop-output.invariant s)

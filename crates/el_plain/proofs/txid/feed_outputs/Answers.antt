use Rattle.std.proofs.Common.{◌++◌, length, arith, append_assoc}
use Rattle.std.specs.List.{flat_map}
use Rattle.el_base.specs.Compact.{compact}
use Rattle.el_tx.specs.Encoding.{output_encoding}
use Rattle.el_plain.proofs.Mapped.{fed_more, fed_all}
use Rattle.el_plain.proofs.txid.feed_outputs.Goals as goal

pub loop-output-init : goal.loop-output-init
loop-output-init g c = λ m h. (m ++ compact (length c.args.outputs.now), c.feed_compact.ensures m h, append_assoc m (compact (length c.args.outputs.now)) (flat_map output_encoding c.args.outputs.now))

pub loop-output-preserved : goal.loop-output-preserved
loop-output-preserved g c = λ m h.
    let before = c.loop-output.invariant m h in (
      before.0 ++ output_encoding c.output-item.result,
      c.feed_output.ensures before.0 before.1,
      fed_more output_encoding c.args.outputs.now c.loop-output.output-index c.output-item.result before.0 _ c.loop-output-test.true c.output-item.is before.2,
    )

pub returns : goal.returns
returns g c = λ m h.
    let before = c.loop-output.invariant m h in
    let all = fed_all output_encoding c.args.outputs.now c.loop-output.output-index before.0 _ (let e = c.loop-output-test.false in omega arith) before.2 in
    rw all at before.1

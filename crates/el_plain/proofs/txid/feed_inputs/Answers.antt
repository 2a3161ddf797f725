use Rattle.std.proofs.Common.{◌++◌, length, arith, append_assoc}
use Rattle.std.specs.List.{flat_map}
use Rattle.el_base.specs.Compact.{compact}
use Rattle.el_tx.specs.Encoding.{input_encoding}
use Rattle.el_plain.proofs.Mapped.{fed_more, fed_all}
use Rattle.el_plain.proofs.txid.feed_inputs.Goals as goal

pub loop-input-init : goal.loop-input-init
loop-input-init g c = λ m h. (m ++ compact (length c.args.inputs.now), c.feed_compact.ensures m h, append_assoc m (compact (length c.args.inputs.now)) (flat_map input_encoding c.args.inputs.now))

pub loop-input-preserved : goal.loop-input-preserved
loop-input-preserved g c = λ m h.
    let before = c.loop-input.invariant m h in (
      before.0 ++ input_encoding c.input-item.result,
      c.feed_input.ensures before.0 before.1,
      fed_more input_encoding c.args.inputs.now c.loop-input.input-index c.input-item.result before.0 _ c.loop-input-test.true c.input-item.is before.2,
    )

pub returns : goal.returns
returns g c = λ m h.
    let before = c.loop-input.invariant m h in
    let all = fed_all input_encoding c.args.inputs.now c.loop-input.input-index before.0 _ (let e = c.loop-input-test.false in omega arith) before.2 in
    rw all at before.1

use Rattle.std.proofs.Common.{◌≡◌, ◌∙◌, rules, arith, length, ◌-◌, ◌/◌, ◌<◌, ◌*◌}
use Rattle.el_merkle.specs.Merkle.{half_up, partner}
use Rattle.el_merkle.proofs.Rows.{paired_more, paired_all}
use Rattle.el_merkle.proofs.pairing.pair_up.Goals as goal

pub loop-i-preserved : goal.loop-i-preserved
loop-i-preserved c =
    let below : c.loop-i.i < half_up (length c.args.row.now.items) = search rules in
    let right : c.partner-right.result ≡ partner c.loop-i.row.items (2 * c.loop-i.i) = cc in
    paired_more c.args.row.now.items c.loop-i.row.items c.loop-i.i c.index.result.now c.partner-right.result c.joined.result
    c.loop-i.invariant below c.index.ensures right c.joined.ensures

pub returns : goal.returns
returns c =
    let all = c.loop-i.auto.i-end in
    c.truncate.ensures.items
    ∙ paired_all c.args.row.now.items c.loop-i.row.items c.loop-i.i (c.len.result - c.len-2.result / 2) c.loop-i.invariant (omega arith) (search rules)

use Rattle.std.proofs.Common.{◌<◌, ◌^◌, length, arith, rules}
use Rattle.el_join.proofs.examining.vsize_of.Goals as goal

pub vsize-requires : goal.vsize-requires
vsize-requires c =
    let few : length c.args.bytes.now < 2 ^ 61 = search rules in
    (c.args.bytes.now, c.requires, few)

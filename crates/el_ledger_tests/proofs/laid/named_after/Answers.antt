use Rattle.std.proofs.Common.{◌≡◌, ◌≤◌, ◌-◌, length, ◌∙◌, ap, arith}
use Rattle.el_model.specs.Queries.{blocks_in}
use Rattle.el_model.proofs.Heights.{blocks_are}
use Rattle.el_ledger_tests.proofs.Named.{some_left}
use Rattle.el_ledger_tests.proofs.laid.named_after.Goals as goal

pub returns-clause-named : goal.returns-clause-named
returns-clause-named g c = λ chain stands.
    let stood = c.in_ok-header.ensures.quiet.stays.stood chain stands in
    let blocks : c.count_of-count.result ≡ length chain = c.count_of-count.ensures.blocks
    ∙ ap blocks_in (g.met.G.Ledger.height_is c.args.ledger.now chain stood) ∙ blocks_are chain in
    let sub = c.in-Some.ensures in
    let left : c.in-Some.left ≡ length chain - c.args.back =
    omega (arith, blocks, sub.0, sub.1, c.from.ensures) in
    let within : c.args.back ≤ length chain = omega (arith, blocks, sub.0, c.from.ensures) in
    some_left chain c.args.back c.in-Some.left _ c.block_hash.result left within c.if-left-eq0.false
    (c.in_ok-header.ensures.header chain stood) c.block_hash.ensures

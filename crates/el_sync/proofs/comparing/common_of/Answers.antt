use Rattle.std.proofs.Common.{◌≡◌, ◌∙◌, ◌+◌, length, ap, arith}
use Rattle.std.specs.Prelude.{min}
use Rattle.el_model.specs.Queries.{blocks_in}
use Rattle.el_model.proofs.Heights.{blocks_are}
use Rattle.el_sync.proofs.Compared.{below_first}
use Rattle.el_sync.proofs.comparing.common_of.Goals as goal

pub returns-clause-common : goal.returns-clause-common
returns-clause-common g c = λ hash path chain is is_end stands.
    let blocks : c.count_of-count.result ≡ length chain = c.count_of-count.ensures.blocks ∙ ap blocks_in (g.met.G.Ledger.height_is c.args.ledger.now chain stands) ∙ blocks_are chain in
    let few = c.count_of-count.ensures.few in
    let both : c.min-both.result ≡ min c.count_of-count.result (c.args.end.now.height + 1) = omega (arith, few, c.min-both.ensures, c.saturating_add.ensures) in
    c.common_below.ensures.common hash path chain is stands
    (below_first chain path c.count_of-count.result c.min-both.result c.args.end.now.height c.args.end.now.node c.last_of-last.result blocks is_end both (λ below le one. c.last_of-last.ensures hash path below is is_end le one))

pub returns-clause-rows : goal.returns-clause-rows
returns-clause-rows g c = λ hash path chain is is_end stands.
    let blocks : c.count_of-count.result ≡ length chain = c.count_of-count.ensures.blocks ∙ ap blocks_in (g.met.G.Ledger.height_is c.args.ledger.now chain stands) ∙ blocks_are chain in
    let few = c.count_of-count.ensures.few in
    let both : c.min-both.result ≡ min c.count_of-count.result (c.args.end.now.height + 1) = omega (arith, few, c.min-both.ensures, c.saturating_add.ensures) in
    let rows = c.common_below.ensures.rows hash path chain is stands
    (below_first chain path c.count_of-count.result c.min-both.result c.args.end.now.height c.args.end.now.node c.last_of-last.result blocks is_end both (λ below le one. c.last_of-last.ensures hash path below is is_end le one)) in
    omega (arith, rows, blocks, both)

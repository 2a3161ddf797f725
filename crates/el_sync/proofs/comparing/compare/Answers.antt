use Rattle.std.proofs.Common.{◌≡◌, ◌∙◌, length, ap, arith}
use Rattle.el_model.specs.Queries.{blocks_in}
use Rattle.el_model.proofs.Heights.{blocks_are}
use Rattle.el_sync.proofs.comparing.compare.Goals as goal

pub returns-clause-way : goal.returns-clause-way
returns-clause-way g c = λ path chain is is_end stands.
    let here = c.in_ok-same.ensures.asked.stays.still_stands chain stands in
    let same = c.in_ok-same.ensures.common c.args.end.now.node.hash path chain is is_end stands in
    let blocks : c.count_of-count.result ≡ length chain = c.count_of-count.ensures.blocks ∙ ap blocks_in (g.met.G.Ledger.height_is c.common_of.new.ledger chain here) ∙ blocks_are chain in
    (omega (arith, blocks, same, c.saturating_sub.ensures), same)

pub returns-in_err-same-clause-rows : goal.returns-in_err-same-clause-rows
returns-in_err-same-clause-rows g c = λ path chain is is_end stands. c.common_of.ensures.rows c.args.end.now.node.hash path chain is is_end stands

pub returns-clause-rows : goal.returns-clause-rows
returns-clause-rows g c = λ path chain is is_end stands. c.common_of.ensures.rows c.args.end.now.node.hash path chain is is_end stands

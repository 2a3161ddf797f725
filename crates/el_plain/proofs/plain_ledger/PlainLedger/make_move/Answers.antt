use Rattle.std.proofs.Common.{length, drop, ◌++◌, ◌-◌, ap, ◌∙◌}
use Rattle.el_chain.specs.Chains.{Chain}
use Rattle.el_chain.specs.Coins.{coins}
use Rattle.el_chain.specs.Moves.{shorter, StoodAt}
use Rattle.el_chain.specs.Touches.{Touch}
use Rattle.el_model.specs.Queries.{height_of}
use Rattle.el_plain.proofs.PlainMoves.{plain_moved, plain_last, plain_top}
use Rattle.el_plain.proofs.plain_ledger.PlainLedger.make_move.Goals as goal

pub returns-clause-moved : goal.returns-clause-moved
returns-clause-moved g c =
    rw (← c.self.view_is) (plain_moved (StoodAt g.A.Archive (g.A.Archive.bytes c.args.archive.now) (g.A.Archive.bytes c.read_all.new.archive)) c.self.inside.chain c.move_all.new.self c.args.plan.now c.in_ok-texts.texts.items c.as_slice-nodes.result.now c.in_ok-touched.touched
    c.as_slice-nodes.ensures c.in_ok-texts.ensures.read (rw c.as_slice.ensures.value at c.in_ok-touched.ensures.ok) c.list-listed.ensures.once)

pub returns-clause-last : goal.returns-clause-last
returns-clause-last g c = λ some.
    let old = c.self.inside.chain in
    let back = c.args.plan.now.back in
    plain_last (StoodAt g.A.Archive (g.A.Archive.bytes c.args.archive.now) (g.A.Archive.bytes c.read_all.new.archive)) (shorter back old) c.move_all.new.self c.args.plan.now c.in_ok-texts.texts.items c.as_slice-nodes.result.now
    (λ (fresh : Chain). Touch c.in_ok-touched.touched (coins (shorter back old)) (drop (length old - back) old ++ fresh))
    c.requires.plan c.as_slice-nodes.ensures c.in_ok-texts.ensures.read (rw c.as_slice.ensures.value at c.in_ok-touched.ensures.ok) some

pub returns-clause-top : goal.returns-clause-top
returns-clause-top g c =
    let old = c.self.inside.chain in
    let back = c.args.plan.now.back in
    rw (← c.self.view_is) (rw c.as_slice-nodes.ensures at
    (plain_top old c.move_all.new.self back c.as_slice-nodes.result.now c.in_ok-texts.texts.items
    (λ (fresh : Chain). Touch c.in_ok-touched.touched (coins (shorter back old)) (drop (length old - back) old ++ fresh)) _
    (rw c.as_slice.ensures.value at c.in_ok-touched.ensures.ok) (c.top_of.ensures ∙ ap height_of c.blocks-2.ensures.blocks)))

use Rattle.std.proofs.Common.{arith, rules, ap, ◌∙◌, length}
use Rattle.std.proofs.lemmas.List.{length-map}
use Rattle.el_chain.specs.declared.placed.Placed.{Placed}
use Rattle.el_block.specs.Blocks.{block_hash}
use Rattle.el_plain.proofs.Mapped.{mapped_more, mapped_all}
use Rattle.el_plain.proofs.plain_calls.hashes_of.Goals as goal

pub loop-placed-preserved : goal.loop-placed-preserved
loop-placed-preserved c =
    mapped_more (λ (b : Placed). block_hash b.block.header) c.args.blocks.now c.loop-placed.placed-index c.placed-item.result c.loop-placed.found.items c.push.new.self.items _ c.loop-placed-test.true c.placed-item.is
    (search rules) c.loop-placed.invariant

pub returns : goal.returns
returns c =
    let items = mapped_all (λ (b : Placed). block_hash b.block.header) c.args.blocks.now c.loop-placed.placed-index c.loop-placed.found.items _ (let e = c.loop-placed-test.false in omega arith) c.loop-placed.invariant in
    record { hashes = items; len = ap length items ∙ length-map c.args.blocks.now (λ (b : Placed). block_hash b.block.header) }

use Rattle.std.proofs.Common.{rules, ◌≡◌, ◌∙◌, ◌+◌, length, sym, ap, arith}
use Rattle.std.proofs.lemmas.List.{drop_all}
use Rattle.el_block.specs.declared.limits.TheConstants.{MAX_BLOCK_WEIGHT}
use Rattle.el_chain.specs.Coins.{coins_after}
use Rattle.el_chain.specs.History.{positions_in, first_start}
use Rattle.el_model.proofs.Findings.{found_in, found_more, size_is, ends_within}
use Rattle.el_plain.proofs.finding.spot_in.Goals as goal

pub loop-pos-init : goal.loop-pos-init
loop-pos-init c =
    let begins : 80 + c.compact_len.result ≡ first_start c.args.placed.now.block.txs = ap (λ n. 80 + n) c.compact_len.ensures.length ∙ ap first_start c.as_slice-txs.ensures in
    record {
      within = let ends = c.requires.ends in omega (arith, begins, ends);
      found = λ coins. (coins, ap (λ start. found_in c.args.placed.now.place c.args.id.now (positions_in c.args.height 0 start c.args.placed.now.block.txs coins) c.args.before) begins);
    }

pub loop-pos-preserved : goal.loop-pos-preserved
loop-pos-preserved c =
    let txs = c.args.placed.now.block.txs in
    let t = c.index-txs-pos.result in
    let lt = rw c.as_slice-txs.ensures at c.loop-pos-test.true in
    let is = rw c.as_slice-txs.ensures at c.index-txs-pos.is in
    let start = c.loop-pos.start in
    let within = c.loop-pos.invariant.within in
    let size = size_is start MAX_BLOCK_WEIGHT c.loop-pos.pos c.sizes_of-len.result.full txs t lt is within (omega arith) c.sizes_of-len.ensures.full in
    record {
      within = ends_within start MAX_BLOCK_WEIGHT c.loop-pos.pos c.sizes_of-len.result.full txs t lt is size within;
      found = λ coins.
          let m = c.loop-pos.invariant.found coins in (
            coins_after c.args.height t m.0,
            found_more c.args.placed.now.place c.args.id.now c.args.height c.loop-pos.pos start c.sizes_of-len.result.full c.loop-pos.pos txs t m.0 c.loop-pos.found c.spot_where-found.result _ lt is size
                (search rules) m.1,
          );
    }

pub returns : goal.returns
returns c = λ coins.
    let m = c.loop-pos.invariant.found coins in
    let none = drop_all c.loop-pos.pos c.args.placed.now.block.txs (let e = c.loop-pos-test.false in let same = ap length c.as_slice-txs.ensures in omega (arith, e, same)) in
    sym (ap (λ us. found_in c.args.placed.now.place c.args.id.now (positions_in c.args.height c.loop-pos.pos c.loop-pos.start us m.0) c.loop-pos.found) none) ∙ m.1

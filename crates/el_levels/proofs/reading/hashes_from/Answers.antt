use Rattle.std.proofs.Common.{◌∙◌, ◌+◌, ap, refl, arith, ℕ, length, length-append}
use Rattle.el_levels.proofs.ReadingLemmas.{hash_more, within_top}
use Rattle.el_model.proofs.LedgerMoves.{asked_none, asked_on}
use Rattle.el_levels.proofs.reading.hashes_from.Goals as goal

pub loop-i-init : goal.loop-i-init
loop-i-init g c =
    let l = g.G.Ledger in
    record {
      quiet = asked_none l c.args.ledger.now;
      hashes = λ chain stands. c.new-hashes.ensures.items;
      len = ap length c.new-hashes.ensures.items;
      rows = omega arith;
      unfailed = refl;
    }

pub header-requires-clause-within : goal.header-requires-clause-within
header-requires-clause-within g c =
    rw c.loop-i.invariant.quiet.stays.same_height
    (within_top (g.G.Ledger.height c.args.ledger.now) (c.args.first + c.loop-i.i) (let w = c.requires.within in omega arith))

pub loop-i-preserved : goal.loop-i-preserved
loop-i-preserved g c =
    let l = g.G.Ledger in
    let before = c.loop-i.invariant in
    let more = c.header.ensures.rows in
    let rows = before.rows in
    record {
      quiet = asked_on l _ _ _ before.quiet c.header.ensures.quiet;
      hashes = λ chain stands.
          hash_more chain c.args.first c.loop-i.i c.in_ok-header.header c.block_hash.result c.loop-i.hashes.items _
          (c.in_ok-header.ensures.header chain (before.quiet.stays.still_stands chain stands)) c.block_hash.ensures c.in_ok-push.ensures.items (before.hashes chain stands);
      len = ap length c.in_ok-push.ensures.items ∙ length-append c.loop-i.hashes.items _ ∙ ap (λ (n : ℕ). n + 1) before.len;
      rows = omega (arith, more, rows);
      unfailed = c.in_ok-header.ensures.cause.uncounted ∙ before.unfailed;
    }

pub returns-in_err-header-clause-quiet : goal.returns-in_err-header-clause-quiet
returns-in_err-header-clause-quiet g c = asked_on g.G.Ledger _ _ _ c.loop-i.invariant.quiet c.header.ensures.quiet

pub returns-in_err-push-clause-quiet : goal.returns-in_err-push-clause-quiet
returns-in_err-push-clause-quiet g c = asked_on g.G.Ledger _ _ _ c.loop-i.invariant.quiet c.header.ensures.quiet

use Rattle.std.proofs.Common.{◌∙◌, ap, ◌++◌, refl, arith}
use Rattle.el_methods.specs.Results.{headers_bytes}
use Rattle.el_methods.proofs.ManyHeaders.{headers_more}
use Rattle.el_model.proofs.LedgerMoves.{asked_none, asked_on}
use Rattle.el_methods.proofs.blocks.headers_from.Goals as goal

pub loop-i-init : goal.loop-i-init
loop-i-init g c =
    let l = g.G.Ledger in
    record {
      quiet = asked_none l c.args.ledger.now;
      bytes = λ chain stands. c.new-bytes.ensures.items;
      rows = omega arith;
      unfailed = refl;
    }

pub loop-i-preserved : goal.loop-i-preserved
loop-i-preserved g c =
    let l = g.G.Ledger in
    let before = c.loop-i.invariant in
    let more = c.header.ensures.rows in
    let rows = before.rows in
    record {
      quiet = asked_on l _ _ _ before.quiet c.header.ensures.quiet;
      bytes = λ chain stands.
          let stood = before.quiet.stays.still_stands chain stands in
          c.in_ok-extend_from_slice-in-Ok.ensures.items ∙ ap (λ bs. bs ++ c.as_slice.result.now) (before.bytes chain stands)
          ∙ ap (λ h. headers_bytes chain c.args.start c.loop-i.i ++ h) c.as_slice.ensures
          ∙ headers_more chain c.args.start c.loop-i.i c.in-Ok.header (c.in-Ok.ensures.header chain stood);
      rows = omega (arith, more, rows);
      unfailed = c.in-Ok.ensures.cause.uncounted ∙ before.unfailed;
    }

pub returns-in_err-extend_from_slice-in-Ok-clause-quiet : goal.returns-in_err-extend_from_slice-in-Ok-clause-quiet
returns-in_err-extend_from_slice-in-Ok-clause-quiet g c =
    let l = g.G.Ledger in
    asked_on l _ _ _
    c.loop-i.invariant.quiet c.header.ensures.quiet

pub returns-in-Err-clause-quiet : goal.returns-in-Err-clause-quiet
returns-in-Err-clause-quiet g c =
    let l = g.G.Ledger in
    asked_on l _ _ _
    c.loop-i.invariant.quiet c.header.ensures.quiet

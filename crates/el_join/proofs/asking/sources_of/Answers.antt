use Rattle.std.proofs.Common.{◌∙◌, ap}
use Rattle.std.specs.Prelude.{option_map}
use Rattle.el_mempool.specs.Standing.{source_at}
use Rattle.el_kept.specs.declared.found.FoundOutput.{FoundOutput}
use Rattle.el_model.proofs.LedgerMoves.{asked_on}
use Rattle.el_join.proofs.Asked.{one_more, any_more}
use Rattle.el_join.proofs.asking.sources_of.Goals as goal

pub loop-input-preserved : goal.loop-input-preserved
loop-input-preserved g c =
    let d = g.G.Ledger in
    record {
      quiet = asked_on d
          c.args.ledger.now c.loop-input.ledger c.named.new.ledger c.loop-input.invariant.quiet c.in_ok-found.ensures.quiet;
      still = c.in_ok-found.ensures.cause.uncounted ∙ c.loop-input.invariant.still;
      any = rw c.in_ok-push.ensures.items (c.any_with-any_kept.ensures
          ∙ any_more c.args.table.now c.loop-input.sources.items (source_at c.input-item.result c.in-Some.found.held) c.loop-input.any_kept
          c.in-Some.found.is_kept (rw c.in-Some.is at c.in_ok-found.ensures.output) c.loop-input.invariant.any);
      so_far = λ chain kept over stood.
          rw c.in_ok-push.ensures.items (one_more chain kept c.args.inputs.now c.loop-input.input-index c.input-item.result c.in-Some.found.held c.loop-input.sources.items (option_map (λ (n : FoundOutput). n.held) c.in_ok-found.field-0)
          c.loop-input-test.true c.input-item.is (c.in_ok-found.ensures.named chain kept over (c.loop-input.invariant.quiet.stays.still_stands chain stood)) (ap (option_map (λ (n : FoundOutput). n.held)) c.in-Some.is)
          (c.loop-input.invariant.so_far chain kept over stood));
    }

pub returns-in_err-found-clause-quiet : goal.returns-in_err-found-clause-quiet
returns-in_err-found-clause-quiet g c =
    let d = g.G.Ledger in
    asked_on d
    c.args.ledger.now c.loop-input.ledger c.named.new.ledger c.loop-input.invariant.quiet c.in_err-found.ensures.quiet

pub returns-in_err-push-clause-quiet : goal.returns-in_err-push-clause-quiet
returns-in_err-push-clause-quiet g c =
    let d = g.G.Ledger in
    asked_on d
    c.args.ledger.now c.loop-input.ledger c.named.new.ledger c.loop-input.invariant.quiet c.in_ok-found.ensures.quiet

pub returns-in_default-clause-quiet : goal.returns-in_default-clause-quiet
returns-in_default-clause-quiet g c =
    let d = g.G.Ledger in
    asked_on d
    c.args.ledger.now c.loop-input.ledger c.named.new.ledger c.loop-input.invariant.quiet c.in_ok-found.ensures.quiet

use Rattle.std.proofs.Common.{◌≡◌, ◌∙◌, true, None, ap, get_or}
use Rattle.std.specs.Option.{is_some}
use Rattle.std.specs.Prelude.{option_map}
use Rattle.el_base.proofs.Lists.{all_at}
use Rattle.el_mempool.specs.declared.held.Source.{Source}
use Rattle.el_mempool.specs.Sift.{coin_named, output_among}
use Rattle.el_kept.specs.declared.found.FoundOutput.{FoundOutput}
use Rattle.el_sift.specs.within.Renewal.{source_with, output_left}
use Rattle.el_model.proofs.LedgerMoves.{asked_on}
use Rattle.el_kept.proofs.Lookups.{held_found}
use Rattle.el_sift.proofs.Renewed.{one_more, stops, any_more, kept_found}
use Rattle.el_sift.proofs.renewing.taken_again.Goals as goal

pub loop-input-preserved : goal.loop-input-preserved
loop-input-preserved g c =
    let d = g.G.Ledger in
    let at = get_or c.args.inputs.now c.loop-input.input-index in
    record {
      quiet = asked_on d
          c.args.ledger.now c.loop-input.ledger c.named_again.new.ledger c.loop-input.invariant.quiet c.in_ok-found.ensures.quiet;
      still = c.in_ok-found.ensures.cause.uncounted ∙ c.loop-input.invariant.still;
      any = λ chain kept seen stood.
          let here = all_at (λ (s : Source). (output_left c.args.table.now c.args.gone.now c.args.any s.from ≡ output_among s.from kept) × (is_some (output_among s.from kept) ≡ true → coin_named chain s.from ≡ None))
          c.args.inputs.now c.loop-input.input-index _ seen c.loop-input-test.true in
          rw c.in_ok-push.ensures.items (c.any_with-any_kept.ensures
          ∙ any_more kept c.loop-input.sources.items (source_with (at _) c.in-Some.found.held) c.loop-input.any_kept c.in-Some.found.is_kept
          (kept_found (output_left c.args.table.now c.args.gone.now c.args.any (at _).from) chain kept (at _).from c.in_ok-found.field-0 c.in-Some.found here.0
          (c.in_ok-found.ensures.found chain (c.loop-input.invariant.quiet.stays.still_stands chain stood)) c.in-Some.is)
          (c.loop-input.invariant.any chain kept seen stood));
      so_far = λ chain kept seen stood.
          let here = all_at (λ (s : Source). (output_left c.args.table.now c.args.gone.now c.args.any s.from ≡ output_among s.from kept) × (is_some (output_among s.from kept) ≡ true → coin_named chain s.from ≡ None))
          c.args.inputs.now c.loop-input.input-index _ seen c.loop-input-test.true in
          rw c.in_ok-push.ensures.items (one_more chain kept c.args.inputs.now c.loop-input.input-index _ c.in-Some.found.held c.loop-input.sources.items (option_map (λ (n : FoundOutput). n.held) c.in_ok-found.field-0)
          c.loop-input-test.true
          (held_found (output_left c.args.table.now c.args.gone.now c.args.any (at _).from) chain kept (at _).from c.in_ok-found.field-0 here.0 here.1
          (c.in_ok-found.ensures.found chain (c.loop-input.invariant.quiet.stays.still_stands chain stood)))
          (ap (option_map (λ (n : FoundOutput). n.held)) c.in-Some.is)
          (c.loop-input.invariant.so_far chain kept seen stood));
    }

pub returns-in_err-push-clause-quiet : goal.returns-in_err-push-clause-quiet
returns-in_err-push-clause-quiet g c =
    let d = g.G.Ledger in
    asked_on d
    c.args.ledger.now c.loop-input.ledger c.named_again.new.ledger c.loop-input.invariant.quiet c.in_ok-found.ensures.quiet

pub returns-in_default-clause-quiet : goal.returns-in_default-clause-quiet
returns-in_default-clause-quiet g c =
    let d = g.G.Ledger in
    asked_on d
    c.args.ledger.now c.loop-input.ledger c.named_again.new.ledger c.loop-input.invariant.quiet c.in_ok-found.ensures.quiet

pub returns-in_default-clause-missing : goal.returns-in_default-clause-missing
returns-in_default-clause-missing g c = λ chain kept seen stood.
    let at = get_or c.args.inputs.now c.loop-input.input-index in
    let here = all_at (λ (s : Source). (output_left c.args.table.now c.args.gone.now c.args.any s.from ≡ output_among s.from kept) × (is_some (output_among s.from kept) ≡ true → coin_named chain s.from ≡ None))
    c.args.inputs.now c.loop-input.input-index _ seen c.loop-input-test.true in
    stops chain kept c.args.inputs.now c.loop-input.input-index _ c.loop-input.sources.items (option_map (λ (n : FoundOutput). n.held) c.in_ok-found.field-0) c.loop-input-test.true
    (held_found (output_left c.args.table.now c.args.gone.now c.args.any (at _).from) chain kept (at _).from c.in_ok-found.field-0 here.0 here.1
    (c.in_ok-found.ensures.found chain (c.loop-input.invariant.quiet.stays.still_stands chain stood)))
    (ap (option_map (λ (n : FoundOutput). n.held)) c.in_default.is)
    (c.loop-input.invariant.so_far chain kept seen stood)

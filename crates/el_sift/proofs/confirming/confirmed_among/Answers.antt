use Rattle.std.proofs.Common.{◌∙◌, refl, arith}
use Rattle.std.proofs.lemmas.Result.{err_from_is_err_and}
use Rattle.el_model.specs.declared.fault.QueryFault.TheVariants as stop
use Rattle.el_model.proofs.LedgerMoves.{asked_on, asked_none}
use Rattle.el_sift.proofs.Sifts.{counts_moved}
use Rattle.el_sift.proofs.Known.{first_asked, next_asked, all_over}
use Rattle.el_sift.proofs.confirming.confirmed_among.Goals as goal

pub loop-id-init : goal.loop-id-init
loop-id-init g c =
    let d = g.G.Ledger in
    record {
      quiet = asked_none d c.args.ledger.now;
      still = refl;
      found = λ chain x stood. first_asked chain x c.new-confirmed.result c.args.ids.now c.new-confirmed.ensures;
    }

pub returns-in_err-ask-clause-cause : goal.returns-in_err-ask-clause-cause
returns-in_err-ask-clause-cause g c =
    let d = g.G.Ledger in
    let p = err_from_is_err_and c.from_residual.result c.from_residual.ensures.1 in
    counts_moved c.from_residual.result c.in_err-ask.field-0.0 p.0 (d.faults c.args.ledger.now) (d.faults c.loop-id.ledger) (d.faults c.ask.new.ledger) stop.DiskFailed
    c.loop-id.invariant.still p.1 p.2 c.in_err-ask.ensures.cause

pub loop-id-preserved : goal.loop-id-preserved
loop-id-preserved g c =
    let d = g.G.Ledger in
    record {
      quiet = asked_on d
          c.args.ledger.now c.loop-id.ledger c.ask.new.ledger c.loop-id.invariant.quiet c.in_ok-ask.ensures.quiet;
      still = c.in_ok-ask.ensures.cause.uncounted ∙ c.loop-id.invariant.still;
      found = λ chain x stood. next_asked chain x c.args.ids.now c.loop-id.id-index _ c.loop-id.confirmed c.ask.new.confirmed c.loop-id-test.true
          (c.in_ok-ask.ensures.asked chain x (c.loop-id.invariant.quiet.stays.still_stands chain stood)) (c.loop-id.invariant.found chain x stood);
    }

pub returns-clause-found : goal.returns-clause-found
returns-clause-found g c = λ chain x stood. all_over chain x c.args.ids.now c.loop-id.id-index c.loop-id.confirmed (let e = c.loop-id-test.false in omega arith) (c.loop-id.invariant.found chain x stood)

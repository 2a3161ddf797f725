use Rattle.std.proofs.Common.{refl, sym, subst, ◌∙◌, List}
use Rattle.std.proofs.lemmas.Result.{err_from_is_err_and}
use Rattle.el_mempool.specs.declared.held.KeptTx.{KeptTx}
use Rattle.el_mempool.specs.Standing.{KeptStandFor}
use Rattle.el_model.specs.declared.fault.QueryFault.TheVariants as stop
use Rattle.el_kept.specs.Tables.{undropped}
use Rattle.el_model.proofs.LedgerMoves.{asked_on, asked_none}
use Rattle.el_kept.proofs.Slots.{Slot}
use Rattle.el_sift.proofs.Sifts.{AreLeft, left_start, left_some, left_none, none_left, counts_moved}
use Rattle.el_sift.specs.within.Renewal.{KnowsAll}
use Rattle.el_sift.proofs.Known.{first_told, rest_told}
use Rattle.el_sift.proofs.moving.sift_all.Goals as goal

pub loop-slot-init : goal.loop-slot-init
loop-slot-init g c =
    let d = g.G.Ledger in
    record {
      can_next = tt;
      is_finite = tt;
      quiet = asked_none d c.args.ledger.now;
      still = refl;
      told = λ chain told. subst (λ (l : List Slot). KnowsAll chain c.args.confirmed.now (undropped l)) (sym (c.into_iter-slot-iterator.ensures.into_iter_gives ∙ c.iter-slot-items.ensures.rest)) told;
      left = λ before chain all over told keeps stood.
          left_start before chain all c.new.result c.new-2.result c.new-3.result c.new-4.result c.args.table.now.kept.entries c.into_iter-slot-iterator.result c.new.ensures c.new-2.ensures c.new-3.ensures c.new-4.ensures
          (c.into_iter-slot-iterator.ensures.into_iter_gives ∙ c.iter-slot-items.ensures.rest) (subst (λ (l : List KeptTx). KeptStandFor l before all) (sym over.table.are) over.stands);
    }

pub loop-slot-preserved-in-Continue-1 : goal.loop-slot-preserved-in-Continue-1
loop-slot-preserved-in-Continue-1 g c =
    let d = g.G.Ledger in
    record {
      can_next = tt;
      is_finite = tt;
      quiet = asked_on d
          c.args.ledger.now c.loop-slot.ledger c.sift_one.new.ledger c.loop-slot.invariant.quiet c.in_ok-sift_one.ensures.quiet;
      still = c.in_ok-sift_one.ensures.cause.uncounted ∙ c.loop-slot.invariant.still;
      told = λ chain told. (first_told chain c.args.confirmed.now c.loop-slot.slot-iterator c.next.new.self _ c.in-Some.slot.now c.in-Some-slot.entry c.in-Some.ensures.steps c.in-Some-slot.is (c.loop-slot.invariant.told chain told)).1;
      left = λ before chain all over told keeps stood.
          left_some before chain all c.loop-slot.found.gone c.sift_one.new.found.gone c.loop-slot.found.changed c.sift_one.new.found.changed c.loop-slot.found.fees c.sift_one.new.found.fees c.loop-slot.found.touched c.sift_one.new.found.touched
          c.loop-slot.slot-iterator c.next.new.self _ c.in-Some.slot.now c.in-Some-slot.entry c.in-Some.ensures.steps c.in-Some-slot.is (c.loop-slot.invariant.left before chain all over told keeps stood)
          (λ kept t e unspent. c.in_ok-sift_one.ensures.sifted before chain all kept t e over unspent
          (first_told chain c.args.confirmed.now c.loop-slot.slot-iterator c.next.new.self _ c.in-Some.slot.now c.in-Some-slot.entry c.in-Some.ensures.steps c.in-Some-slot.is (c.loop-slot.invariant.told chain told)).0 keeps
          (c.loop-slot.invariant.quiet.stays.still_stands chain stood));
    }

pub loop-slot-preserved : goal.loop-slot-preserved
loop-slot-preserved g c = record {
  can_next = tt;
  is_finite = tt;
  quiet = c.loop-slot.invariant.quiet;
  still = c.loop-slot.invariant.still;
  told = λ chain told. rest_told chain c.args.confirmed.now c.loop-slot.slot-iterator c.next.new.self _ c.in-Some.slot.now c.in-Some.ensures.steps c.in_default.is (c.loop-slot.invariant.told chain told);
  left = λ before chain all over told keeps stood.
      left_none before chain all c.loop-slot.found.gone c.loop-slot.found.changed c.loop-slot.found.fees c.loop-slot.found.touched c.loop-slot.slot-iterator c.next.new.self _ c.in-Some.slot.now c.in-Some.ensures.steps
      c.in_default.is (c.loop-slot.invariant.left before chain all over told keeps stood);
}

pub returns-clause-sifted : goal.returns-clause-sifted
returns-clause-sifted g c = λ before chain all over told keeps stood.
    none_left before chain all (undropped c.args.table.now.kept.entries) c.loop-slot.found.gone c.loop-slot.found.changed c.loop-slot.found.fees c.loop-slot.found.touched
    (subst (λ (l : List KeptTx). KeptStandFor l before all) (sym over.table.are) over.stands) c.list-list.ensures.once
    (subst (λ (l : List Slot). AreLeft before chain all c.loop-slot.found.gone c.loop-slot.found.changed c.loop-slot.found.fees c.loop-slot.found.touched (undropped l)) c.in-None.ensures.steps.0
    (c.loop-slot.invariant.left before chain all over told keeps stood))

pub returns-in_err-sift_one-clause-cause : goal.returns-in_err-sift_one-clause-cause
returns-in_err-sift_one-clause-cause g c =
    let d = g.G.Ledger in
    let p = err_from_is_err_and c.from_residual.result c.from_residual.ensures.1 in
    counts_moved c.from_residual.result c.in_err-sift_one.field-0.0 p.0 (d.faults c.args.ledger.now) (d.faults c.loop-slot.ledger) (d.faults c.sift_one.new.ledger) stop.DiskFailed
    c.loop-slot.invariant.still p.1 p.2 c.in_err-sift_one.ensures.cause

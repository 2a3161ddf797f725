use Rattle.std.proofs.Common.{ap, refl, inl, ◌∙◌, [], Err}
use Rattle.std.proofs.lemmas.Result.{err_from_is_err_and}
use Rattle.el_side.proofs.Deeds.{rose_of, rose_still}
use Rattle.el_chain.specs.Moves.{max_forward}
use Rattle.el_chain.specs.Records.{IsNode}
use Rattle.el_sync.proofs.Led.{memory_of, not_disk, starved_still}
use Rattle.el_sync.proofs.Tried.{broke, made_tries, move_failed, not_failed, not_made, rose_or_not, tells_refusal}
use Rattle.el_model.proofs.LedgerMoves.{asked_moved, asked_none}
use Rattle.el_sync.proofs.Lists.{plan_fits, left_linked}
use Rattle.el_side.specs.Side as side_of
use Rattle.el_sync.specs.within.Parts.{of_ledger}
use Rattle.el_headers.proofs.Paths.{all_drop}
use Rattle.el_sync.proofs.making.make_move.Goals as goal

pub go-requires-clause-fits : goal.go-requires-clause-fits
go-requires-clause-fits g c = λ chain stands. plan_fits c.args.back c.args.rest c.in_ok-forward.forward chain c.in_ok-forward.ensures (c.requires.fits chain stands)

pub returns-in-Ok-clause-tried : goal.returns-in-Ok-clause-tried
returns-in-Ok-clause-tried g c = λ side stood told.
    made_tries _ _ _ side c.args.back c.args.rest
    c.in_ok-forward.forward c.in-Ok.moved.tip c.in-Ok.moved.height _ told c.in-Ok.ensures.reads.keeps (c.in-Ok.ensures.moved side.chain stood) c.in_ok-forward.ensures
    (λ d s. c.in-Ok.ensures.answer.0 ∙ g.met.G.Ledger.tip_is c.go.new.self d s) (λ d s. c.in-Ok.ensures.answer.1 ∙ g.met.G.Ledger.height_is c.go.new.self d s)
    refl refl c.in-Ok.ensures.reads.uncounted c.in-Ok.ensures.cause.uncounted

pub returns-in-Ok-clause-keeps : goal.returns-in-Ok-clause-keeps
returns-in-Ok-clause-keeps g c =
    let e = c.in-Ok.ensures in
    record {
      live = e.live;
      left = c.passed.ensures;
      nodes = rw c.passed.ensures (all_drop IsNode max_forward c.args.rest c.requires.nodes);
      linked = left_linked c.requires.linked.0 c.args.rest c.passed.result (g.G.Ledger.tip c.go.new.self) c.passed.ensures c.requires.linked.1 (rw c.in_ok-forward.ensures at e.last);
      keeps = e.reads.keeps;
      archive_rose = inl (rose_still _ _ e.reads.uncounted);
      disk_same = e.cause.uncounted;
      beside = e.beside;
      tells = record {
        losses = [];
        says = of_ledger (rw c.passed.ensures (side_of.made c.in-Ok.moved.tip c.in-Ok.moved.height refl)) refl;
        rose = λ of_link of_relay. rose_of of_link of_relay _ _ _ _ [] refl refl (rose_still _ _ e.reads.uncounted) (rose_still _ _ e.cause.uncounted);
      };
    }

pub returns-in_ok-answer-in-Err-clause-tried : goal.returns-in_ok-answer-in-Err-clause-tried
returns-in_ok-answer-in-Err-clause-tried g c = λ side stood told.
    let e = c.in-Err.ensures in
    let other = not_disk c.in-Err.fault c.in_ok-answer-in-Err.answer c.in_ok-answer-in-Err.ensures.told in
    let quiet = e.unchanged other in
    not_made _ _ _ side c.args.back c.args.rest c.in_ok-forward.forward
    c.in-Err.fault _ told e.reads.keeps
    (asked_moved g.G.Ledger c.args.ledger.now c.go.new.self side.chain (λ a d f h i j k. g.met.G.Ledger.leaves_own a d f h i j k) c.requires.live quiet stood)
    (e.refused side.chain stood) c.in_ok-forward.ensures (λ is. e.reads.counted (ap Err is)) (λ is. e.reads.others_uncounted is) (e.cause.others_uncounted other)
    refl c.in_ok-answer-in-Err.ensures.told c.new-touched.ensures

pub returns-in_ok-answer-in-Err-clause-keeps : goal.returns-in_ok-answer-in-Err-clause-keeps
returns-in_ok-answer-in-Err-clause-keeps g c =
    let e = c.in-Err.ensures in
    let other = not_disk c.in-Err.fault c.in_ok-answer-in-Err.answer c.in_ok-answer-in-Err.ensures.told in
    record {
      live = (e.unchanged other).stays.still_live c.requires.live;
      left = c.none-left.ensures;
      nodes = rw c.none-left.ensures tt;
      linked = rw c.none-left.ensures tt;
      keeps = e.reads.keeps;
      archive_rose = rose_or_not c.in-Err.fault _ _ (λ is. e.reads.counted (ap Err is)) e.reads.others_uncounted;
      disk_same = e.cause.others_uncounted other;
      beside = e.beside;
      tells = tells_refusal _ _ _ c.args.rest c.in-Err.fault _ (λ is. e.reads.counted (ap Err is)) (λ is. e.reads.others_uncounted is)
          (e.cause.others_uncounted other) c.in_ok-answer-in-Err.ensures.told c.none-left.ensures;
    }

pub returns-in_err-answer-in-Err-clause-stopped : goal.returns-in_err-answer-in-Err-clause-stopped
returns-in_err-answer-in-Err-clause-stopped g c = λ chain stands.
    let e = c.in-Err.ensures in
    let p = err_from_is_err_and c.from_residual-in_err-answer-in-Err.result c.from_residual-in_err-answer-in-Err.ensures.1 in
    broke _ c.from_residual-in_err-answer-in-Err.result _ _ chain c.args.back c.args.rest
    c.in_ok-forward.forward c.in_err-answer-in-Err.field-0.0 (p.1 ∙ ap Err p.2) c.in_ok-forward.ensures
    (λ failed. e.crash_failed chain stands (ap Err (c.in_err-answer-in-Err.ensures.failed (ap Err failed))))
    (λ memory. asked_moved g.G.Ledger c.args.ledger.now c.go.new.self chain (λ a d f h i j k. g.met.G.Ledger.leaves_own a d f h i j k) c.requires.live
    (e.unchanged ((c.in_err-answer-in-Err.ensures.memory (ap Err memory)).0)) stands)
    (record {
      still_live = λ memory. (e.unchanged ((c.in_err-answer-in-Err.ensures.memory (ap Err memory)).0)).stays.still_live c.requires.live;
      keeps = e.reads.keeps;
      archive_rose = rose_still _ _ (e.reads.others_uncounted c.in_err-answer-in-Err.ensures.told_files);
      disk_rose = λ failed. e.cause.counted (ap Err (c.in_err-answer-in-Err.ensures.failed (ap Err failed)));
      disk_same = λ other. e.cause.others_uncounted (c.in_err-answer-in-Err.ensures.memory (ap Err (not_failed c.in_err-answer-in-Err.field-0.0 other))).0;
      beside = e.beside;
    })

pub returns-in_err-answer-in-Err-clause-failed : goal.returns-in_err-answer-in-Err-clause-failed
returns-in_err-answer-in-Err-clause-failed g c =
    let e = c.in-Err.ensures in
    let p = err_from_is_err_and c.from_residual-in_err-answer-in-Err.result c.from_residual-in_err-answer-in-Err.ensures.1 in
    move_failed _ c.from_residual-in_err-answer-in-Err.result c.in_err-answer-in-Err.field-0.0 _ _ (p.1 ∙ ap Err p.2)
    (record {
      still_live = λ memory. (e.unchanged ((c.in_err-answer-in-Err.ensures.memory (ap Err memory)).0)).stays.still_live c.requires.live;
      keeps = e.reads.keeps;
      archive_rose = rose_still _ _ (e.reads.others_uncounted c.in_err-answer-in-Err.ensures.told_files);
      disk_rose = λ failed. e.cause.counted (ap Err (c.in_err-answer-in-Err.ensures.failed (ap Err failed)));
      disk_same = λ other. e.cause.others_uncounted (c.in_err-answer-in-Err.ensures.memory (ap Err (not_failed c.in_err-answer-in-Err.field-0.0 other))).0;
      beside = e.beside;
    })

pub returns-in_err-forward-clause-stopped : goal.returns-in_err-forward-clause-stopped
returns-in_err-forward-clause-stopped g c = λ chain stands.
    let p = err_from_is_err_and c.from_residual.result c.from_residual.ensures.1 in
    starved_still _ c.from_residual.result _ c.args.ledger.now chain _
    (asked_moved g.G.Ledger c.args.ledger.now c.args.ledger.now chain (λ a d f h i j k. g.met.G.Ledger.leaves_own a d f h i j k) c.requires.live (asked_none g.G.Ledger c.args.ledger.now) stands)
    (memory_of c.from_residual.result p.0 p.1 p.2) refl

pub returns-in-Ok-clause-made : goal.returns-in-Ok-clause-made
returns-in-Ok-clause-made g c = λ moved is. absurd (let bad = is in cc)

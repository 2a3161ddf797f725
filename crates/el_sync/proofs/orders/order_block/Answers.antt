use Rattle.std.proofs.Common.{None, Some, refl}
use Rattle.el_sync.proofs.Led.{place_looked, place_failed, place_there}
use Rattle.el_files.proofs.Appends.{on_err}
use Rattle.el_sync.proofs.orders.order_block.Goals as goal

pub returns-in-Ok-None-clause-looked : goal.returns-in-Ok-None-clause-looked
returns-in-Ok-None-clause-looked g c = λ side from told.
    let e = c.in-Ok-None.ensures in
    let is = rw c.in-Ok-None.field-0-is at e.record in
    place_looked g.A.Archive c.args.archive.now c.record_at.new.archive c.args.holdings.now side c.args.file c.args.at None _ _ from told e.only_reads.keeps
    (record { read = tt; grows = e.only_reads.keeps; record_is = λ t. rw from.magic (is t) }) refl refl e.only_reads.uncounted

pub returns-in_ok-answer-in-Ok-Some-clause-looked : goal.returns-in_ok-answer-in-Ok-Some-clause-looked
returns-in_ok-answer-in-Ok-Some-clause-looked g c = λ side from told.
    let e = c.in-Ok-Some.ensures in
    let here = rw c.in-Ok-Some.field-0-is at e.node in
    let is = rw c.in-Ok-Some.field-0-is at e.record in
    place_looked g.A.Archive c.args.archive.now c.record_at.new.archive c.args.holdings.now side c.args.file c.args.at (Some c.in-Ok-Some.node) _ _ from told e.only_reads.keeps
    (record { read = rw from.magic here; grows = e.only_reads.keeps; record_is = λ t. rw from.magic (is t) })
    c.in_ok-answer-in-Ok-Some.ensures.joined c.in_ok-answer-in-Ok-Some.ensures.answer e.only_reads.uncounted

pub returns-in-Err-clause-looked : goal.returns-in-Err-clause-looked
returns-in-Err-clause-looked g c = λ side from told.
    place_failed g.A.Archive c.args.archive.now c.record_at.new.archive c.args.holdings.now side c.args.file c.args.at _ _ from told c.in-Err.ensures.only_reads.keeps refl
    refl (c.in-Err.ensures.only_reads.counted refl)

pub returns-in_err-answer-in-Ok-Some-clause-there : goal.returns-in_err-answer-in-Ok-Some-clause-there
returns-in_err-answer-in-Ok-Some-clause-there g c = λ side from told.
    let e = c.in-Ok-Some.ensures in
    let here = rw c.in-Ok-Some.field-0-is at e.node in
    let is = rw c.in-Ok-Some.field-0-is at e.record in
    on_err c.from_residual.result _ (
      c.in-Ok-Some.node,
      place_there g.A.Archive c.args.archive.now c.record_at.new.archive side c.args.file c.args.at (Some c.in-Ok-Some.node) told e.only_reads.keeps
          (record { read = rw from.magic here; grows = e.only_reads.keeps; record_is = λ t. rw from.magic (is t) }),
    )

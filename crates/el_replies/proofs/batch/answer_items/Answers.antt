use Rattle.std.proofs.Common.{◌≡◌, [], refl, arith}
use Rattle.el_outside.proofs.Traces.{all_grow_none, all_grow_more}
use Rattle.el_model.proofs.LedgerMoves.{asked_none, asked_on}
use Rattle.el_sessions.proofs.Counting.{follows_same, follows_more}
use Rattle.el_side.specs.Beneath.{beneath, ghosts}
use Rattle.el_side.proofs.Settled.{settled_on}
use Rattle.el_replies.specs.Losses.{AnswersOf}
use Rattle.el_replies.specs.within.Gathered.{replies_of}
use Rattle.el_replies.proofs.BatchLoop.{begins, cut_begins, goes_on, cut_goes_on, ends, cut_here}
use Rattle.el_replies.proofs.Losing.{so, none_lost, both, failed}
use Rattle.el_replies.proofs.Reading as rows
use Rattle.el_replies.proofs.batch.answer_items.Goals as goal

pub loop-item-init : goal.loop-item-init
loop-item-init g c =
    let l = g.G.Ledger in
    record {
      quiet = asked_none l
          c.args.ledger.now;
      grows = λ tells. all_grow_none _;
      watched = follows_same c.args.session.now.subs c.args.watched.now;
      disk_more = omega arith;
      end = c.requires.end;
      rows = λ chain stood kept. rows.begins chain _ c.args.elements.now _;
      caches = λ chain stood kept. kept;
      archive_more = omega arith;
      relay_more = omega arith;
      so_far = λ side settled.
          let answers = AnswersOf g.A.Archive.tells side in
          none_lost _ _ _ (λ before. (
            begins answers _ c.args.elements.now before c.args.session.now (replies_of c.args.replies.now) refl,
            cut_begins answers _ c.args.elements.now before c.args.session.now (replies_of c.args.replies.now) refl,
          ));
    }

pub loop-item-preserved : goal.loop-item-preserved
loop-item-preserved g c =
    let l = g.G.Ledger in
    record {
      quiet = asked_on l _ _ _
          c.loop-item.invariant.quiet c.answer_item.ensures.quiet;
      grows = λ tells. all_grow_more _ _ _ (c.loop-item.invariant.grows tells)
          (c.answer_item.ensures.grows tells);
      watched = follows_more c.args.session.now.subs c.loop-item.session.subs c.answer_item.new.session.subs
          c.args.watched.now c.loop-item.watched c.answer_item.new.watched
          c.loop-item.invariant.watched c.answer_item.ensures.watched;
      disk_more = omega (arith, c.loop-item.invariant.disk_more, c.answer_item.ensures.disk_more);
      end = c.in_ok-answer_item.ensures.end;
      rows = λ chain stood kept.
          let q = c.loop-item.invariant.quiet in
          rows.goes_on chain _ c.in-Some.item _ _ c.args.elements.now _ _ _ c.in-Some.ensures.item
          (c.loop-item.invariant.rows chain stood kept)
          (rw q.stays.same_buckets at (c.in_ok-answer_item.ensures.rows chain (q.stays.still_stands chain stood)
          (c.loop-item.invariant.caches chain stood kept)));
      caches = λ chain stood kept.
          c.answer_item.ensures.caches chain (c.loop-item.invariant.quiet.stays.still_stands chain stood) (c.loop-item.invariant.caches chain stood kept);
      archive_more = omega (arith, c.loop-item.invariant.archive_more, c.answer_item.ensures.archive_more);
      relay_more = omega (arith, c.loop-item.invariant.relay_more, c.answer_item.ensures.relay_more);
      so_far = λ side settled.
          let answers = AnswersOf g.A.Archive.tells side in
          let still = settled_on (ghosts g.G.Ledger g.A.Archive) _ (beneath c.loop-item.ledger c.loop-item.archive)
          c.args.holdings.now c.args.caches.now c.loop-item.caches side c.loop-item.invariant.quiet c.loop-item.invariant.grows c.loop-item.invariant.caches settled in
          both _ _ _ (λ x y z h k. (
            goes_on answers c.in-Some.item _ _ c.args.elements.now y z _ _ _ _ x c.args.session.now
                (replies_of c.args.replies.now) c.in-Some.ensures.item h.0 k,
            cut_goes_on answers c.in-Some.item _ _ c.args.elements.now y z _ _ _ _ x c.args.session.now
                (replies_of c.args.replies.now) c.in-Some.ensures.item h.1 k,
          ))
          (c.loop-item.invariant.so_far side settled)
          (c.in_ok-answer_item.ensures.answered side still);
    }

pub returns-clause-answered : goal.returns-clause-answered
returns-clause-answered g c = λ side settled.
    let answers = AnswersOf g.A.Archive.tells side in
    let none : c.loop-item.elements ≡ [] = c.in_default.ensures.item.0 in
    so _ _ (λ x y h. ends answers _ c.args.elements.now y _ _ x c.args.session.now
    (replies_of c.args.replies.now) none h.0)
    (c.loop-item.invariant.so_far side settled)

pub returns-in_err-answer_item-clause-answered : goal.returns-in_err-answer_item-clause-answered
returns-in_err-answer_item-clause-answered g c = λ side settled.
    let answers = AnswersOf g.A.Archive.tells side in
    let still = settled_on (ghosts g.G.Ledger g.A.Archive) _ (beneath c.loop-item.ledger c.loop-item.archive)
    c.args.holdings.now c.args.caches.now c.loop-item.caches side c.loop-item.invariant.quiet c.loop-item.invariant.grows c.loop-item.invariant.caches settled in
    both _ _ _ (λ x y z h k. failed c.from_residual.result _ _ _ c.from_residual.ensures.1
    (cut_here answers c.in-Some.item _ _ c.args.elements.now y z _ _ x c.args.session.now
    (replies_of c.args.replies.now) c.in-Some.ensures.item h.1 k))
    (c.loop-item.invariant.so_far side settled)
    (c.in_err-answer_item.ensures.answered side still)

pub returns-in_err-answer_item-clause-grows : goal.returns-in_err-answer_item-clause-grows
returns-in_err-answer_item-clause-grows g c = λ tells.
    all_grow_more _ _ _ (c.loop-item.invariant.grows tells) (c.in_err-answer_item.ensures.grows tells)

pub returns-in_err-answer_item-clause-quiet : goal.returns-in_err-answer_item-clause-quiet
returns-in_err-answer_item-clause-quiet g c =
    let l = g.G.Ledger in
    asked_on l _ _ _
    c.loop-item.invariant.quiet c.in_err-answer_item.ensures.quiet

pub returns-in_err-answer_item-clause-watched : goal.returns-in_err-answer_item-clause-watched
returns-in_err-answer_item-clause-watched g c =
    follows_more c.args.session.now.subs c.loop-item.session.subs c.answer_item.new.session.subs
    c.args.watched.now c.loop-item.watched c.answer_item.new.watched
    c.loop-item.invariant.watched c.in_err-answer_item.ensures.watched

pub returns-clause-rows : goal.returns-clause-rows
returns-clause-rows g c = λ chain stood kept. rows.ends chain _ _ c.args.elements.now _ _ (c.loop-item.invariant.rows chain stood kept)

pub returns-in_err-answer_item-clause-rows : goal.returns-in_err-answer_item-clause-rows
returns-in_err-answer_item-clause-rows g c = λ chain stood kept.
    let q = c.loop-item.invariant.quiet in
    rows.ends chain _ _ c.args.elements.now _ _ (rows.goes_on chain _ c.in-Some.item _ _ c.args.elements.now _ _ _ c.in-Some.ensures.item
    (c.loop-item.invariant.rows chain stood kept)
    (rw q.stays.same_buckets at (c.in_err-answer_item.ensures.rows chain (q.stays.still_stands chain stood)
    (c.loop-item.invariant.caches chain stood kept))))

pub returns-in_err-answer_item-clause-caches : goal.returns-in_err-answer_item-clause-caches
returns-in_err-answer_item-clause-caches g c = λ chain stood kept.
    c.in_err-answer_item.ensures.caches chain (c.loop-item.invariant.quiet.stays.still_stands chain stood) (c.loop-item.invariant.caches chain stood kept)

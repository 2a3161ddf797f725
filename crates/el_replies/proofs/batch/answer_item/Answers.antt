use Rattle.std.proofs.Common.{◌≡◌, refl, nat_lt, true, false, arith, sym, subst}
use Rattle.std.specs.Prelude.{MatchResult}
use Rattle.std.proofs.lemmas.Bool.Decides.{nat_tests}
use Rattle.el_json.specs.declared.request.Item.{Item}
use Rattle.el_replies.proofs.Losing.{so, none_lost, step_late, cut_late, in_time, done_or}
use Rattle.el_replies.specs.Batches.{Step, CutStep}
use Rattle.el_replies.specs.Losses.{AnswersOf}
use Rattle.el_replies.specs.within.Gathered.{replies_of}
use Rattle.el_replies.specs.declared.batch.TheConstants.{BATCH_LIMIT}
use Rattle.el_replies.proofs.Reading.{none_within, no_item, of_request}
use Rattle.el_replies.proofs.batch.answer_item.Goals as goal

pub returns-then-replies-gt-BATCH_LIMIT-clause-answered :
    goal.returns-then-replies-gt-BATCH_LIMIT-clause-answered
returns-then-replies-gt-BATCH_LIMIT-clause-answered g c = λ side settled.
    let limit = c.if-replies-gt-BATCH_LIMIT.true in
    let late : nat_lt BATCH_LIMIT c.args.replies.now.size ≡ true = grind (arith, nat_tests) in
    let answers = AnswersOf g.A.Archive.tells side in
    let was = replies_of c.args.replies.now in
    let is = replies_of c.refuse.new.replies in
    none_lost _ _ _ (λ before.
    let P : Item → Type 0 = λ i. MatchResult c.refuse.result
    (λ z. Step answers i before c.args.session.now was before c.args.session.now is)
    (λ e. CutStep answers i before c.args.session.now was before) in
    subst P (sym c.in-Good.is) (done_or c.refuse.result _ _ _
    (λ added. step_late answers c.in-Good.request before c.args.session.now c.args.session.now was is late refl
    added) (cut_late answers c.in-Good.request before c.args.session.now was late) c.refuse.ensures.added))

pub returns-else-replies-gt-BATCH_LIMIT-clause-answered :
    goal.returns-else-replies-gt-BATCH_LIMIT-clause-answered
returns-else-replies-gt-BATCH_LIMIT-clause-answered g c = λ side settled.
    let limit = c.if-replies-gt-BATCH_LIMIT.false in
    let early : nat_lt BATCH_LIMIT c.args.replies.now.size ≡ false = grind (arith, nat_tests) in
    let answers = AnswersOf g.A.Archive.tells side in
    let was = replies_of c.args.replies.now in
    let is = replies_of c.answer_in_time.new.replies in
    so _ _ (λ x y h.
    let P : Item → Type 0 = λ i. MatchResult c.answer_in_time.result
    (λ z. Step answers i x c.args.session.now was y c.answer_in_time.new.session is)
    (λ e. CutStep answers i x c.args.session.now was y) in
    subst P (sym c.in-Good.is) (in_time answers c.answer_in_time.result c.in-Good.request x y
    c.args.session.now c.answer_in_time.new.session was is early h))
    (c.answer_in_time.ensures.answered side settled)

pub returns-in-Invalid-clause-answered : goal.returns-in-Invalid-clause-answered
returns-in-Invalid-clause-answered g c = λ side settled.
    let answers = AnswersOf g.A.Archive.tells side in
    let was = replies_of c.args.replies.now in
    let is = replies_of c.refuse-in-Invalid.new.replies in
    none_lost _ _ _ (λ before.
    let P : Item → Type 0 = λ i. MatchResult c.refuse-in-Invalid.result
    (λ z. Step answers i before c.args.session.now was before c.args.session.now is)
    (λ e. CutStep answers i before c.args.session.now was before) in
    subst P (sym c.in-Invalid.is) (done_or c.refuse-in-Invalid.result _ _ _ (λ added. (refl, refl, added)) refl
    c.refuse-in-Invalid.ensures.added))

pub returns-then-replies-gt-BATCH_LIMIT-clause-rows : goal.returns-then-replies-gt-BATCH_LIMIT-clause-rows
returns-then-replies-gt-BATCH_LIMIT-clause-rows g c = λ chain stood kept. none_within _ _ (no_item chain _ c.args.item)

pub returns-else-replies-gt-BATCH_LIMIT-clause-rows : goal.returns-else-replies-gt-BATCH_LIMIT-clause-rows
returns-else-replies-gt-BATCH_LIMIT-clause-rows g c = λ chain stood kept.
    of_request chain _ c.args.item c.in-Good.request _ _ c.in-Good.is (c.answer_in_time.ensures.rows chain stood kept)

pub returns-in-Invalid-clause-rows : goal.returns-in-Invalid-clause-rows
returns-in-Invalid-clause-rows g c = λ chain stood kept. none_within _ _ (no_item chain _ c.args.item)

use Rattle.std.proofs.Common.{◌∙◌, sym}
use Rattle.std.specs.Prelude.{MatchResult, Some, None}
use Rattle.el_outside.proofs.Traces.{all_grow_more}
use Rattle.el_methods.proofs.Places.{asked_stays}
use Rattle.el_replies.proofs.Losing.{never_less}
use Rattle.el_replies.proofs.requested.answer_call.Goals as goal

pub returns-in-Some-clause-answered : goal.returns-in-Some-clause-answered
returns-in-Some-clause-answered g c = λ side settled.
    let answer = c.answer-given.ensures in
    record {
      given = c.answer-given.result;
      is_given = record {
        of_server = λ none. rw (← settled.found) (answer.of_server side.chain side.kept none);
        refusals = answer.refusals;
        changes = answer.changes;
        alone = answer.alone;
        unanswered = answer.unanswered;
        of_index = λ sure none.
            rw (← settled.found) (answer.of_index side.chain side.kept (settled.stood sure) (settled.set sure) (settled.fees sure) (settled.computed sure) none);
        of_files = λ is. rw (← settled.found) (answer.answer side.chain side.kept (settled.stood is.0) (settled.set is.0) (settled.fees is.0) (settled.computed is.0)
            is.1 (asked_stays _ _ side.chain c.args.call.now (all_grow_more _ _ _ (settled.told is.1) (answer.grows is.1)) is.2));
        own = λ sure reads. answer.own side.chain side.kept (settled.stood sure) (settled.set sure) reads;
        still = λ reads. answer.still side.kept reads;
        untold = λ sure none. answer.untold side.chain side.kept (settled.set sure) none;
        unchanged = λ is. answer.unchanged side.chain (settled.stood is.0) is.1
            (asked_stays _ _ side.chain c.args.call.now (all_grow_more _ _ _ (settled.told is.1) (answer.grows is.1)) is.2);
      };
      counted = answer.counted;
      told_is = sym c.told_of.ensures ∙ c.in-Some.is;
    }

pub returns-in-None-clause-answered : goal.returns-in-None-clause-answered
returns-in-None-clause-answered g c = λ side settled.
    let answer = c.answer-given.ensures in
    record {
      given = c.answer-given.result;
      is_given = record {
        of_server = λ none. rw (← settled.found) (answer.of_server side.chain side.kept none);
        refusals = answer.refusals;
        changes = answer.changes;
        alone = answer.alone;
        unanswered = answer.unanswered;
        of_index = λ sure none.
            rw (← settled.found) (answer.of_index side.chain side.kept (settled.stood sure) (settled.set sure) (settled.fees sure) (settled.computed sure) none);
        of_files = λ is. rw (← settled.found) (answer.answer side.chain side.kept (settled.stood is.0) (settled.set is.0) (settled.fees is.0) (settled.computed is.0)
            is.1 (asked_stays _ _ side.chain c.args.call.now (all_grow_more _ _ _ (settled.told is.1) (answer.grows is.1)) is.2));
        own = λ sure reads. answer.own side.chain side.kept (settled.stood sure) (settled.set sure) reads;
        still = λ reads. answer.still side.kept reads;
        untold = λ sure none. answer.untold side.chain side.kept (settled.set sure) none;
        unchanged = λ is. answer.unchanged side.chain (settled.stood is.0) is.1
            (asked_stays _ _ side.chain c.args.call.now (all_grow_more _ _ _ (settled.told is.1) (answer.grows is.1)) is.2);
      };
      counted = answer.counted;
      told_is = sym c.told_of.ensures ∙ c.in-None.is;
    }

pub returns-in-Some-clause-disk_more : goal.returns-in-Some-clause-disk_more
returns-in-Some-clause-disk_more g c =
    (never_less _ _ _ _ c.answer-given.result c.answer-given.ensures.counted).0

pub returns-in-Some-clause-archive_more : goal.returns-in-Some-clause-archive_more
returns-in-Some-clause-archive_more g c =
    (never_less _ _ _ _ c.answer-given.result c.answer-given.ensures.counted).1

pub returns-in-None-clause-disk_more : goal.returns-in-None-clause-disk_more
returns-in-None-clause-disk_more g c =
    (never_less _ _ _ _ c.answer-given.result c.answer-given.ensures.counted).0

pub returns-in-None-clause-archive_more : goal.returns-in-None-clause-archive_more
returns-in-None-clause-archive_more g c =
    (never_less _ _ _ _ c.answer-given.result c.answer-given.ensures.counted).1

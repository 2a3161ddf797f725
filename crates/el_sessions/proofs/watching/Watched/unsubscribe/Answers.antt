use Rattle.std.proofs.Common.{◌∙◌, sym}
use Rattle.el_sessions.proofs.Counting.{follows_none, follows_less}
use Rattle.el_sessions.proofs.watching.Watched.unsubscribe.Goals as goal

pub returns-then-not-unsubscribe-clause-counts : goal.returns-then-not-unsubscribe-clause-counts
returns-then-not-unsubscribe-clause-counts c =
    follows_none c.args.subs.now c.unsubscribe.new.self c.args.s.now c.args.self.now
    (sym c.unsubscribe.ensures.was ∙ c.if-not-unsubscribe.true) c.unsubscribe.ensures.gone

pub returns-clause-counts : goal.returns-clause-counts
returns-clause-counts c =
    follows_less c.args.subs.now c.unsubscribe.new.self c.args.s.now c.args.self.now c.count_down.new.self
    (sym c.unsubscribe.ensures.was ∙ c.if-not-unsubscribe.false) c.unsubscribe.ensures.gone c.count_down.ensures

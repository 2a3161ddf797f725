use Rattle.std.proofs.Common.{◌≡◌, ◌+◌, ◌∷◌, [], ◌∙◌, sym}
use Rattle.el_base.specs.declared.hash.Hash32.{Hash32}
use Rattle.el_sessions.specs.Watching.{counted, times}
use Rattle.el_sessions.proofs.Counting.{follows_added, when_counted}
use Rattle.el_sessions.proofs.watching.Watched.add.Goals as goal

pub returns-in-Ok-clause-counts : goal.returns-in-Ok-clause-counts
returns-in-Ok-clause-counts c =
    follows_added c.args.subs.now c.subscribe.new.self c.args.s c.args.told c.args.self.now c.count_up.new.self c.requires c.in-Ok.ensures.ok
    (when_counted ((t : Hash32) → counted c.count_up.new.self t ≡ counted c.args.self.now t + times t (c.args.s ∷ [])) c.count_up.result
    (sym c.is_err.ensures.value ∙ c.if-is_err.false) c.count_up.ensures.ok)

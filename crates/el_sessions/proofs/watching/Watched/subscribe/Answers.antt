use Rattle.std.proofs.Common.{◌≡◌, true, ◌∙◌, sym}
use Rattle.el_sessions.specs.Sessions.{is_subscribed}
use Rattle.el_sessions.proofs.Counting.{follows_noted}
use Rattle.el_sessions.proofs.watching.Watched.subscribe.Goals as goal

pub returns-then-holds-clause-counts : goal.returns-then-holds-clause-counts
returns-then-holds-clause-counts c =
    let there : is_subscribed c.args.s c.args.subs.now ≡ true = sym c.holds.ensures ∙ c.if-holds.true in
    follows_noted c.args.subs.now c.note.new.self c.args.s c.args.told c.args.self.now there (c.note.ensures.noted there)

use Rattle.std.proofs.Common.{◌≡◌, true, false, Some, sym, ◌∙◌}
use Rattle.std.specs.Map.{lookup}
use Rattle.std.specs.Option.{option_eq}
use Rattle.el_chain.specs.Headers.{same_hash}
use Rattle.el_sessions.specs.Sessions.{same_script}
use Rattle.el_subs.specs.Told.{status}
use Rattle.el_subs.proofs.News.{one_absent, one_same, one_told, keys_told, not_false, not_true}
use Rattle.el_subs.proofs.telling.tell_one.Goals as goal

pub returns-in_default-clause-told : goal.returns-in_default-clause-told
returns-in_default-clause-told g c = λ chain kept stood stands.
    one_absent (status chain kept) c.args.s.now c.args.found.now.items c.args.subs.now (sym c.told.ensures ∙ c.in_default.is)

pub returns-else-ne-clause-told : goal.returns-else-ne-clause-told
returns-else-ne-clause-told g c = λ chain kept stood stands.
    let at : lookup (same_script c.args.s.now) c.args.subs.now ≡ Some c.in-Some.told = sym c.told.ensures ∙ c.in-Some.is in
    let same : option_eq same_hash c.in_ok-now.now c.in-Some.told ≡ true = not_false _ (sym c.if-ne.ensures) in
    one_same (status chain kept) c.args.s.now c.in-Some.told c.in_ok-now.now c.args.found.now.items c.args.subs.now at same (c.in_ok-now.ensures.status chain kept stood stands)

pub returns-in_ok-push-clause-told : goal.returns-in_ok-push-clause-told
returns-in_ok-push-clause-told g c = λ chain kept stood stands.
    let at : lookup (same_script c.args.s.now) c.args.subs.now ≡ Some c.in-Some.told = sym c.told.ensures ∙ c.in-Some.is in
    let other : option_eq same_hash c.in_ok-now.now c.in-Some.told ≡ false = not_true _ (sym c.if-ne.ensures) in
    one_told (status chain kept) c.args.s.now c.in-Some.told c.in_ok-now.now c.args.found.now.items c.push.new.self.items c.args.subs.now c.note.new.self
    at other (c.in_ok-now.ensures.status chain kept stood stands) c.in_ok-push.ensures.items c.note.ensures.noted

pub returns-in_ok-push-clause-keys : goal.returns-in_ok-push-clause-keys
returns-in_ok-push-clause-keys g c = keys_told c.args.s.now c.in-Some.told c.in_ok-now.now c.args.subs.now c.note.new.self (sym c.told.ensures ∙ c.in-Some.is) c.note.ensures.noted

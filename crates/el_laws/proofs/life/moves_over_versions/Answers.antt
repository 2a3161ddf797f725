use Rattle.std.proofs.Common.{[]}
use Rattle.el_laws.proofs.Starts.{first_are, from_none}
use Rattle.el_laws.proofs.life.moves_over_versions.Goals as goal

pub go_on-end-requires-clause-follow : goal.go_on-end-requires-clause-follow
go_on-end-requires-clause-follow g c = λ lifetimes outlive.
    from_none _ c.in-Ok.index.tip (λ chain it. it.last) (c.in-Ok.ensures.stands [] tt (first_are 16 _ c.in_ok-rows.ensures.first)).last c.args.plans.now c.requires.follow

pub returns-in-Ok-clause-safe : goal.returns-in-Ok-clause-safe
returns-in-Ok-clause-safe g c =
    c.go_on-end.ensures.crash [] (c.in-Ok.ensures.stands [] tt (first_are 16 _ c.in_ok-rows.ensures.first))

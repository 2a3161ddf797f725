use Rattle.std.proofs.Common.{[]}
use Rattle.el_program.proofs.opening.caches_of.Goals as goal

pub returns-clause-stand : goal.returns-clause-stand
returns-clause-stand g c = λ chain stands. c.in_ok-follow.ensures.stand [] chain stands (c.new-caches.ensures chain)

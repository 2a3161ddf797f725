use Rattle.std.proofs.Common.{refl, arith}
use Rattle.el_side.proofs.caches.Caches.new.Goals as goal

pub returns : goal.returns
returns c = λ chain. record { levels = c.new.ensures; block = rw c.new-2.ensures tt; front = refl; within = omega arith }

use Rattle.std.proofs.Common.{◌≡◌, drop}
use Rattle.el_merkle.specs.Merkle as spec
use Rattle.el_merkle.proofs.wallet.climb.Given as goal

abbrev pub invariant-loop-next : goal.invariant-loop-next
invariant-loop-next l = spec.climb l.hash l.place (drop l.next-index l.branch) ≡ spec.climb l.fn.leaf l.fn.pos l.fn.branch

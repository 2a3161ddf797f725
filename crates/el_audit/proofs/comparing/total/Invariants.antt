use Rattle.std.proofs.Common.{◌≡◌, take}
use Rattle.el_chain.specs.Coins.{supply}
use Rattle.el_audit.proofs.comparing.total.Given as goal

-- the values so far
abbrev pub invariant-loop-coin : goal.invariant-loop-coin
invariant-loop-coin l = l.sum ≡ supply (take l.coin-index l.coins)

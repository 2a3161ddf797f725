use Rattle.std.proofs.Common.{◌≡◌, ℕ, List, drop}
use Rattle.std.specs.List.{fold}
use Rattle.el_chain.specs.declared.coin.Coin.{Coin}
use Rattle.el_chain.specs.History.{positions_in}
use Rattle.el_model.specs.Queries.{taken_after}
use Rattle.el_plain.proofs.spending.spender_in.Given as goal

-- the transactions that are left go on from what was found
abbrev pub invariant-loop-tx : goal.invariant-loop-tx
invariant-loop-tx l = (pos start : ℕ) (coins : List Coin) → (p s : ℕ) × (mid : List Coin)
    × (fold (taken_after l.o) l.found (positions_in l.height p s (drop l.tx-index l.txs) mid) ≡ fold (taken_after l.o) l.fn.before (positions_in l.height pos start l.txs coins))

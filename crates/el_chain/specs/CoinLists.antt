-- The coin that a list has for an outpoint, and transactions that can be in a block.
use Rattle.std.specs.Prelude.{◌≡◌, ℕ, ◌≤◌, List, [], ◌∷◌, length, Option, None, Some, find, ⊤}
use Rattle.el_tx.specs.Encoding.{HasEncoding}
use Rattle.el_tx.specs.declared.types.Outpoint.{Outpoint}
use Rattle.el_tx.specs.declared.types.Tx.{Tx}
use Rattle.el_chain.specs.declared.coin.Coin.{Coin}
use Rattle.el_block.specs.declared.limits.TheConstants.{MAX_BLOCK_WEIGHT}
use Rattle.el_chain.specs.Coins.{is_coin_of}

-- the coin that a list has for an outpoint
abbrev pub coin_in : List Coin → Outpoint → Option Coin
coin_in coins o = find (is_coin_of o) coins

-- what a coin holds, in satoshi; none holds nothing
abbrev pub value_in : Option Coin → ℕ
value_in None = 0
value_in (Some c) = c.value

-- no outpoint has two coins
abbrev pub AreOnce : List Coin → Type 0
AreOnce [] = ⊤
AreOnce (c ∷ cs) = (coin_in cs c.outpoint ≡ None) × AreOnce cs

-- a transaction that can be in a block: some bytes encode it, and it has no more outputs, and no more inputs,
-- than a block weighs
pub record FitsBlock (t : Tx) : Type 0 where
  pub encoded : HasEncoding t
  pub few : length t.outputs ≤ MAX_BLOCK_WEIGHT
  pub few_inputs : length t.inputs ≤ MAX_BLOCK_WEIGHT

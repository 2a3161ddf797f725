-- Which script hashes a move touches: those of which its blocks add or remove an entry of the history, or
-- change a coin. It takes back the last blocks of a chain and puts others in their place. A coin that these
-- blocks change is of one of their own outputs, or stands after the blocks that stay.
use Rattle.std.specs.Prelude.{◌≡◌, ℕ, ◌-◌, Bool, ◌||◌, List, ◌++◌, length, drop}
use Rattle.std.specs.List.{list_any}
use Rattle.el_base.specs.declared.hash.Hash32.{Hash32}
use Rattle.el_tx.specs.Hashing.{txid}
use Rattle.el_tx.specs.declared.types.Tx.{Tx}
use Rattle.el_block.specs.Blocks.{AllDiffer}
use Rattle.el_chain.specs.declared.placed.Placed.{Placed}
use Rattle.el_chain.specs.declared.coin.Coin.{Coin}
use Rattle.el_chain.specs.declared.moves.Plan.{Plan}
use Rattle.el_chain.specs.Chains.{Chain}
use Rattle.el_chain.specs.Coins.{coins}
use Rattle.el_chain.specs.CoinLaws.{coins_made}
use Rattle.el_chain.specs.Headers.{same_hash}
use Rattle.el_chain.specs.History.{has_own, funds, spends}
use Rattle.el_chain.specs.Moves.{shorter}

-- the transaction makes a coin in the place of one of these that has the script hash, as where two coinbases
-- have one txid (before BIP 34)
abbrev pub replaces : List ℕ → List Coin → Tx → Bool
replaces script_hash coins t =
    list_any (λ (c : Coin). has_own script_hash coins c.outpoint) (coins_made (txid t) 0 0 t.outputs)

-- the transaction has an output with the script hash, or takes or replaces one of these coins that has it
abbrev pub touches : List ℕ → List Coin → Tx → Bool
touches script_hash coins t = funds script_hash t || (spends script_hash coins t
    || replaces script_hash coins t)

-- a transaction of these blocks does
abbrev pub touches_any : List ℕ → List Coin → Chain → Bool
touches_any script_hash coins blocks =
    list_any (λ (b : Placed). list_any (touches script_hash coins) b.block.txs) blocks

-- these are the script hashes that these blocks touch
abbrev pub Touch : List Hash32 → List Coin → Chain → Type 0
Touch scripts coins blocks = (s : Hash32) → list_any (same_hash s) scripts ≡ touches_any s.0 coins blocks

-- These script hashes are touched, each once, where a move puts these blocks in the place of the last ones of
-- the chain. The coins are those after the blocks that stay.
pub record AreTouched (p : Plan) (chain blocks : Chain) (scripts : List Hash32) : Type 0 where
  pub each : Touch scripts (coins (shorter p.back chain)) (drop (length chain - p.back) chain ++ blocks)
  pub once : AllDiffer scripts

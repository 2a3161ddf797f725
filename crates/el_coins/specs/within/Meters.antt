-- Which script hashes transactions concern, as a walk over whole blocks counts them.
use Rattle.std.specs.Prelude.{◌≡◌, ℕ, ◌+◌, ◌-◌, ◌^◌, min, List, [], ◌∷◌, ◌++◌, length, map, flat_map, sum_by, option_map}
use Rattle.el_base.specs.declared.hash.Hash32.{Hash32}
use Rattle.indexmap.specs.IndexMap.{IndexMap, get}
use Rattle.el_tx.specs.declared.types.Outpoint.{Outpoint}
use Rattle.el_tx.specs.declared.types.Tx.{Tx}
use Rattle.el_tx.specs.Hashing.{same_outpoint, spending_inputs}
use Rattle.el_chain.specs.declared.coin.Coin.{Coin}
use Rattle.el_coins.specs.declared.meter.Meter.{Meter}
use Rattle.el_chain.specs.Chains.{Chain}
use Rattle.el_chain.specs.Coins.{coins_after, coins_after_all}
use Rattle.el_chain.specs.RowCounts.{spent_scripts, output_script, add_scripts}
use Rattle.el_chain.specs.CoinLists.{coin_in, AreOnce}

-- a map has the script hash of each coin, and no outpoint has two coins
pub record AreScripts {S : Type 0} (scripts : IndexMap Outpoint Hash32 S) (coins : List Coin) : Type 0 where
  pub each : (o : Outpoint) → get same_outpoint scripts o
      ≡ option_map (λ (c : Coin). c.script) (coin_in coins o)
  pub once : AreOnce coins

-- this is so of the coins whose script hashes a map has
abbrev pub IfScripts : {S : Type 0} → IndexMap Outpoint Hash32 S → (List Coin → Type 0) → Type 0
IfScripts scripts P = (coins : List Coin) → AreScripts scripts coins → P coins

-- the script hashes that a transaction concerns, before which these coins stand
abbrev pub met_by : List Coin → Tx → List Hash32
met_by coins t = spent_scripts coins (spending_inputs t) ++ map output_script t.outputs

-- those of transactions of a block of that height
abbrev pub met_in : ℕ → List Tx → List Coin → List (List Hash32)
met_in height [] coins = []
met_in height (t ∷ ts) coins = met_by coins t ∷ met_in height ts (coins_after height t coins)

-- those of blocks, the first of which has that height
abbrev pub met_from : ℕ → Chain → List Coin → List (List Hash32)
met_from height [] coins = []
met_from height (b ∷ bs) coins =
    met_in height b.block.txs coins ++ met_from (height + 1) bs (coins_after_all height b.block.txs coins)

-- how many script hashes stand in these lists, each counted once
abbrev pub distinct_count : List (List Hash32) → ℕ
distinct_count lists = length (add_scripts [] (flat_map (λ (l : List Hash32). l) lists))

-- how many stand in each list, each counted once in it
abbrev pub pair_count : List (List Hash32) → ℕ
pair_count lists = sum_by (λ (l : List Hash32). length (add_scripts [] l)) lists

-- what was counted of transactions that concern these script hashes and leave those coins
pub record IsMeter (m : Meter) (lists : List (List Hash32)) (coins : List Coin) : Type 0 where
  pub coins_are : AreScripts m.coins coins
  pub scripts : m.scripts.keys ≡ add_scripts [] (flat_map (λ (l : List Hash32). l) lists)
  pub entries : m.entries ≡ min (pair_count lists) (2 ^ 64 - 1)

-- this is so of what was counted
abbrev pub IfMeter : Meter → (List (List Hash32) → List Coin → Type 0) → Type 0
IfMeter m P = (lists : List (List Hash32)) (coins : List Coin) → IsMeter m lists coins → P lists coins

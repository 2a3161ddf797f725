-- What is said of the coins that a table stands for, and of each script hash.
use Rattle.std.specs.Prelude.{List}
use Rattle.el_base.specs.declared.hash.Hash32.{Hash32}
use Rattle.el_chain.specs.declared.coin.Coin.{Coin}
use Rattle.el_coins.specs.declared.coins.CoinTable.{CoinTable}
use Rattle.el_coins.specs.CoinTables.{coin_by, CoinsStandFor}

-- this is so of the coins that the table stands for, and of each script hash
abbrev pub IfCoins : CoinTable → (List Coin → Hash32 → Type 0) → Type 0
IfCoins table P = (coins : List Coin) → CoinsStandFor (coin_by table.map) table.supply coins → (s : Hash32)
    → P coins s

-- A table of the coins of those script hashes that are named, in the order in which they were made.
use Rattle.std.specs.Prelude.{◌≡◌, Bool, true, List, [], ◌∷◌, ◌++◌, Option, filter, option_to_list, IfSome}
use Rattle.std.specs.List.{AllByRecursion}
use Rattle.std.specs.Option.{option_flatten}
use Rattle.std.specs.Str.{bytes_eq}
use Rattle.indexmap.specs.IndexMap.{IndexMap, IsUnique, get}
use Rattle.el_base.specs.declared.hash.Hash32.{Hash32}
use Rattle.el_tx.specs.declared.types.Outpoint.{Outpoint}
use Rattle.el_tx.specs.Hashing.{same_outpoint}
use Rattle.el_chain.specs.declared.coin.Coin.{Coin}
use Rattle.el_chain.specs.Coins.{add_coin}

-- the coins that stand in the table; None stands where a coin was taken
abbrev pub standing : List (Outpoint × Option Coin) → List Coin
standing [] = []
standing (e ∷ es) = option_to_list e.1 ++ standing es

-- the coins of the script hashes that are named
abbrev pub own_of : (Hash32 → Bool) → List Coin → List Coin
own_of is_named coins = filter (λ (c : Coin). is_named c.script) coins

-- the coins of one script hash
abbrev pub coins_with : Hash32 → List Coin → List Coin
coins_with s coins = filter (λ (c : Coin). bytes_eq c.script.0 s.0) coins

-- each coin stands under its own outpoint
abbrev pub StandRight : List (Outpoint × Option Coin) → Type 0
StandRight es = AllByRecursion (λ (e : Outpoint × Option Coin). IfSome e.1 (λ c. c.outpoint ≡ e.0)) es

-- The table has those of the coins that have a script hash that is named, in their order. No outpoint stands
-- twice.
pub record AreOwn {S : Type 0} (own : IndexMap Outpoint (Option Coin) S) (is_named : Hash32 → Bool)
    (coins : List Coin) : Type 0 where
  pub are : standing own.entries ≡ own_of is_named coins
  pub right : StandRight own.entries
  pub once : IsUnique same_outpoint own

-- this is so of the coins whose own ones the table has
abbrev pub IfOwn : {S : Type 0} → IndexMap Outpoint (Option Coin) S → (Hash32 → Bool)
    → (List Coin → Type 0) → Type 0
IfOwn own is_named P = (coins : List Coin) → AreOwn own is_named coins → P coins

-- this is so of these coins, and of each script hash that is named
abbrev pub IfOwnOf : {S : Type 0} → IndexMap Outpoint (Option Coin) S → (List Coin → Hash32 → Type 0)
    → Type 0
IfOwnOf own P =
    (is_named : Hash32 → Bool) (coins : List Coin) → AreOwn own is_named coins
    → (s : Hash32) → is_named s ≡ true → P coins s

-- the coin that the table has for an outpoint
abbrev pub coin_in_table : {S : Type 0} → IndexMap Outpoint (Option Coin) S → Outpoint → Option Coin
coin_in_table own o = option_flatten (get same_outpoint own o)

-- the coins after these are put in, one after the other
abbrev pub put_coins : List Coin → List Coin → List Coin
put_coins [] coins = coins
put_coins (c ∷ cs) coins = put_coins cs (add_coin c coins)

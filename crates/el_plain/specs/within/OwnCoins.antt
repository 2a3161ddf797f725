-- A table of a script hash's own coins, in the order in which they were made.
use Rattle.std.specs.Prelude.{◌≡◌, ℕ, List, [], ◌∷◌, ◌++◌, Option, filter, option_to_list, IfSome}
use Rattle.std.specs.List.{AllByRecursion}
use Rattle.std.specs.Str.{bytes_eq}
use Rattle.indexmap.specs.IndexMap.{IndexMap, IsUnique}
use Rattle.el_tx.specs.declared.types.Outpoint.{Outpoint}
use Rattle.el_tx.specs.Hashing.{same_outpoint}
use Rattle.el_chain.specs.declared.coin.Coin.{Coin}

-- the coins that stand in the table; None stands where a coin was taken
abbrev pub standing : List (Outpoint × Option Coin) → List Coin
standing [] = []
standing (e ∷ es) = option_to_list e.1 ++ standing es

-- the coins with that script hash
abbrev pub coins_with_script : List ℕ → List Coin → List Coin
coins_with_script script_hash coins = filter (λ (c : Coin). bytes_eq c.script.0 script_hash) coins

-- each coin stands under its own outpoint
abbrev pub StandRight : List (Outpoint × Option Coin) → Type 0
StandRight es = AllByRecursion (λ (e : Outpoint × Option Coin). IfSome e.1 (λ c. c.outpoint ≡ e.0)) es

-- The table has those of the coins that have the script hash, in their order. No outpoint stands twice.
pub record HasOwnCoins {S : Type 0} (own : IndexMap Outpoint (Option Coin) S) (script_hash : List ℕ)
    (coins : List Coin) : Type 0 where
  pub are : standing own.entries ≡ coins_with_script script_hash coins
  pub right : StandRight own.entries
  pub once : IsUnique same_outpoint own

-- this is so of the coins whose own ones the table has
abbrev pub IfOwnCoins : {S : Type 0} → IndexMap Outpoint (Option Coin) S → List ℕ → (List Coin → Type 0)
    → Type 0
IfOwnCoins own script_hash P = (coins : List Coin) → HasOwnCoins own script_hash coins → P coins

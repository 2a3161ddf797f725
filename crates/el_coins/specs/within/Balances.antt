-- What the entries of a table of coins hold for a script hash.
use Rattle.std.specs.Prelude.{ℕ, ◌+◌, List, [], ◌∷◌, Option, None, Some, if◌then◌else◌}
use Rattle.std.specs.Str.{bytes_eq}
use Rattle.el_chain.specs.declared.coin.Coin.{Coin}

-- what the coin holds, where it has the script hash
abbrev pub own_value : List ℕ → Option Coin → ℕ
own_value script_hash None = 0
own_value script_hash (Some c) = if bytes_eq c.script.0 script_hash then c.value else 0

-- what the coins that have the script hash hold together
abbrev pub own_values : List ℕ → List (Option Coin) → ℕ
own_values script_hash [] = 0
own_values script_hash (c ∷ cs) = own_value script_hash c + own_values script_hash cs

-- What the touched script hashes of a move are, read off the transactions where they stand.
use Rattle.std.specs.Prelude.{ℕ, ◌-◌, Bool, ◌||◌, List, length, drop}
use Rattle.std.specs.List.{list_any}
use Rattle.el_chain.specs.declared.moves.Plan.{Plan}
use Rattle.el_chain.specs.Chains.{Chain}
use Rattle.el_chain.specs.Coins.{coins}
use Rattle.el_chain.specs.History.{Position, concerns, positions_from}
use Rattle.el_chain.specs.Moves.{shorter}
use Rattle.el_chain.specs.Touches.{replaces}

-- The transaction of the position has an entry in the history of the script hash, or makes a coin in the
-- place of one that has it; the coins are those before that very transaction.
abbrev pub changes : List ℕ → Position → Bool
changes script_hash p = concerns script_hash p || replaces script_hash p.before p.tx

-- the positions of blocks after a chain
abbrev pub positions_after : Chain → Chain → List Position
positions_after front blocks = positions_from (length front) blocks (coins front)

-- a transaction that the move takes back, or one that it puts in, does
abbrev pub changed_by : List ℕ → Plan → Chain → Chain → Bool
changed_by script_hash p chain blocks =
    list_any (changes script_hash)
    (positions_after (shorter p.back chain) (drop (length chain - p.back) chain))
    || list_any (changes script_hash) (positions_after (shorter p.back chain) blocks)

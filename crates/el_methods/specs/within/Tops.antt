-- How many blocks there are, by the height of the tip.
use Rattle.std.specs.Prelude.{ℕ, ◌+◌, Option, None, Some}

-- one more than the height of the tip, and 0 where there is no tip
abbrev pub block_count : Option ℕ → ℕ
block_count None = 0
block_count (Some top) = top + 1

-- A count that stands in contracts alone.
use Rattle.std.specs.Prelude.{ℕ, ◌+◌}
use Rattle.el_base.specs.declared.ghost_count.Ticks.{Ticks, Nothing, After'}

-- how many ticks were counted
abbrev pub ticks_of : Ticks → ℕ
ticks_of Nothing = 0
ticks_of (After' shape before) = ticks_of before + 1

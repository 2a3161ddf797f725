-- Whether a list of two parts is too long.
use Rattle.std.specs.Prelude.{ℕ, ◌+◌, nat_lt, Bool}
use Rattle.el_methods.specs.declared.limits.TheConstants.{ENTRY_LIMIT}

-- so many of the one part and of the other are together more than a list may have
abbrev pub are_too_many : ℕ → ℕ → Bool
are_too_many first second = nat_lt ENTRY_LIMIT (first + second)

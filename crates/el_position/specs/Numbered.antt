-- A transaction that was found.
use Rattle.std.specs.Prelude.{ℕ}
use Rattle.el_position.specs.declared.lookup.NumberedTx.{NumberedTx}

-- the number of the transaction that was found
abbrev pub found_number : NumberedTx → ℕ
found_number x = x.number

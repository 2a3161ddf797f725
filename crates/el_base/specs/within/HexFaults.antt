-- The faults of hex text.
use Rattle.std.specs.Prelude.{ℕ, Option, Some, None}
use Rattle.hex.specs.declared.error.FromHexError.{FromHexError}
use Rattle.hex.specs.declared.error.FromHexError.TheVariants.{InvalidHexCharacter, OddLength, InvalidStringLength, OutOfMemory}

-- where the digit stands that the text was refused for
abbrev pub bad_place_of : FromHexError → Option ℕ
bad_place_of (InvalidHexCharacter digit place) = Some place
bad_place_of OddLength = None
bad_place_of InvalidStringLength = None
bad_place_of OutOfMemory = None

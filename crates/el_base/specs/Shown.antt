-- How a hash is shown: the hex digits of its bytes from the last to the first.
use Rattle.std.specs.Prelude.{◌≡◌, ◌≢◌, ℕ, ◌<◌, List, length, take, reverse, slice_index, Ok, false}
use Rattle.std.specs.List.{AllPass}
use Rattle.hex.specs.Hex.{encode_lower, decode_of, is_hex_digit}
use Rattle.el_base.specs.declared.shown.HexFault.{HexFault}
use Rattle.el_base.specs.declared.shown.HexFault.TheVariants as fault

-- the lower-case text of a hash
abbrev pub shown : List ℕ → List ℕ
shown hash = encode_lower (reverse hash)

-- the text has 64 hex digits, in either case, which show these bytes
pub record Shows (text hash : List ℕ) : Type 0 where
  pub size : length text ≡ 64
  pub digits : decode_of text ≡ Ok (reverse hash)

-- the first byte that is no hex digit stands there
pub record IsFirstBadDigit (text : List ℕ) (place : ℕ) : Type 0 where
  pub inside : place < length text
  pub bad : is_hex_digit (slice_index text place) ≡ false
  pub before : AllPass is_hex_digit (take place text)

-- why a text shows no hash: it hasn't 64 bytes; else its first byte that is no hex digit
abbrev pub ShowsNothing : List ℕ → HexFault → Type 0
ShowsNothing text (fault.BadLength found) = (length text ≢ 64) × (found ≡ length text)
ShowsNothing text (fault.BadDigit place) = (length text ≡ 64) × IsFirstBadDigit text place

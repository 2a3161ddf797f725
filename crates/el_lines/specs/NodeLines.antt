-- The lines that a node says: where a block stands in its block files, which block is its tip, and which
-- unconfirmed transactions it has and no longer has. Words are separated by one blank (32), and nothing
-- stands before the first or after the last.
use Rattle.std.specs.Prelude.{◌≡◌, ℕ, ◌<◌, ◌≤◌, ◌^◌, List, ◌∷◌, ◌++◌, length, codes, Ok}
use Rattle.std.specs.List.{AllPass}
use Rattle.std.specs.Char.{is_ascii_digit}
use Rattle.std.specs.Str.Parse.{digits_value}
use Rattle.hex.specs.Hex.{decode_of}
use Rattle.el_base.specs.Shown.{Shows}

-- what a line says: a block stands in the block file of this number, at this place in bytes; the block of
-- this hash is the tip; the node has a transaction of these bytes; it no longer has the one of this txid.
-- Hashes stand in inner order.
pub data NodeLine : Type 0 where
  block : ℕ → ℕ → NodeLine
  tip : List ℕ → NodeLine
  tx : List ℕ → NodeLine
  dropped : List ℕ → NodeLine

-- The text is the number in decimal, by one digit at least and `most` at most, of which the first may be
-- zeros.
pub record ShowsNumber (text : List ℕ) (most bound n : ℕ) : Type 0 where
  pub some : 1 ≤ length text
  pub few : length text ≤ most
  pub digits : AllPass is_ascii_digit text
  pub value : n ≡ digits_value 10 text
  pub below : n < bound

-- The text is the bytes in hex, in upper case, lower case or both, and there is a byte at least.
pub record ShowsBytes (text bytes : List ℕ) : Type 0 where
  pub some : 2 ≤ length text
  pub digits : decode_of text ≡ Ok bytes

-- a file's number in 32 bits and a place in it in 63, with a blank between
pub record ShowsPlace (text : List ℕ) (file place : ℕ) : Type 0 where
  pub file_text : List ℕ
  pub place_text : List ℕ
  pub file_is : ShowsNumber file_text 10 (2 ^ 32) file
  pub place_is : ShowsNumber place_text 20 (2 ^ 63) place
  pub whole : text ≡ file_text ++ 32 ∷ place_text

-- The line begins with this word and its blank, and what stands after shows this.
pub record IsWordWith (word : List ℕ) (Shown : List ℕ → Type 0) (line : List ℕ) : Type 0 where
  pub text : List ℕ
  pub whole : line ≡ word ++ text
  pub shown : Shown text

-- The line, without the byte 10 that ended it, says this: `block F O`, `tip H`, `tx HEX` or `drop TXID`.
abbrev pub ReadsNodeLine : List ℕ → NodeLine → Type 0
ReadsNodeLine line (block file place) = IsWordWith (codes "block ") (λ text. ShowsPlace text file place) line
ReadsNodeLine line (tip hash) = IsWordWith (codes "tip ") (λ text. Shows text hash) line
ReadsNodeLine line (tx bytes) = IsWordWith (codes "tx ") (λ text. ShowsBytes text bytes) line
ReadsNodeLine line (dropped txid) = IsWordWith (codes "drop ") (λ text. Shows text txid) line

-- Lines: what a client sends is cut at each byte 10, the newline that ends each message of Electrum Protocol
-- 1.4. Sizes are in bytes.
use Rattle.std.specs.Prelude.{ℕ, ◌==◌, nat_lt, if◌then◌else◌, List, [], ◌∷◌, ◌++◌, length, map, drop}

-- whole lines without their byte 10, and the open line after the last, which no byte 10 has ended yet and
-- which may be empty
pub record Cut : Type 0 where
  pub whole : List (List ℕ)
  pub open_line : List ℕ

-- the byte becomes the first of the first line, which is the open one where there is no whole one
abbrev pub byte_before : ℕ → List (List ℕ) → List ℕ → Cut
byte_before byte [] open_line = record { whole = []; open_line = byte ∷ open_line }
byte_before byte (line ∷ lines) open_line = record { whole = (byte ∷ line) ∷ lines; open_line = open_line }

-- one byte before what is cut: byte 10 ends a line that has no bytes yet, another one is the first of the
-- first line
abbrev pub cut_before : ℕ → Cut → Cut
cut_before byte rest =
    if byte == 10 then record { whole = [] ∷ rest.whole; open_line = rest.open_line }
    else byte_before byte rest.whole rest.open_line

-- the bytes, cut at each newline: the whole lines, and the one that is still open
abbrev pub cut : List ℕ → Cut
cut [] = record { whole = []; open_line = [] }
cut (byte ∷ bytes) = cut_before byte (cut bytes)

-- what is met: a whole line that is not longer than the limit, without its byte 10, or one that is longer
pub data LineEvent : Type 0 where
  line : List ℕ → LineEvent
  too_long : LineEvent

-- a whole line as it is met
abbrev pub event_of : ℕ → List ℕ → LineEvent
event_of limit bytes = if nat_lt limit (length bytes) then too_long else line bytes

-- an open line is met as soon as it is longer than the limit, before its byte 10 comes, and else not yet
abbrev pub open_event : ℕ → List ℕ → List LineEvent
open_event limit bytes = if nat_lt limit (length bytes) then too_long ∷ [] else []

-- All bytes of a peer, cut at each byte 10: its lines in order, and one `too_long` for each that is longer
-- than the limit.
abbrev pub lines : ℕ → List ℕ → List LineEvent
lines limit bytes = map (event_of limit) (cut bytes).whole ++ open_event limit (cut bytes).open_line

-- the lines that bytes add to those of all bytes heard before, however they were cut into pieces
abbrev pub added_lines : ℕ → List ℕ → List ℕ → List LineEvent
added_lines limit heard bytes = drop (length (lines limit heard)) (lines limit (heard ++ bytes))

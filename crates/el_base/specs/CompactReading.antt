-- Reading a CompactSize from left to right: the number and what is left, or the first fault.
use Rattle.std.specs.Prelude.{ℕ, ◌^◌, List, [], ◌∷◌, length, take, nat_lt, ◌==◌, if◌then◌else◌, Result, Ok, Err}
use Rattle.std.specs.Int.{Width, w16, w32, w64, byte_len, from_le_bytes}
use Rattle.el_base.specs.Left.{Left, after}
use Rattle.el_base.specs.declared.compact.CompactFault.{CompactFault}
use Rattle.el_base.specs.declared.compact.CompactFault.TheVariants.{Short, LongSpelling}

-- the number after the first byte, which stands at the place and announces a number from least on
abbrev pub wide_at : ℕ → Width → ℕ → List ℕ → Result ℕ CompactFault
wide_at place w least rest =
    if nat_lt (length rest) (byte_len w) then Err (Short place)
    else (if nat_lt (from_le_bytes w (take (byte_len w) rest)) least then Err (LongSpelling place)
    else Ok (from_le_bytes w (take (byte_len w) rest)))

-- the number at the front
unfoldable pub number_at : ℕ → List ℕ → Result ℕ CompactFault
number_at place [] = Err (Short place)
number_at place (first ∷ rest) =
    if nat_lt first 253 then Ok first
    else (if first == 253 then wide_at place w16 253 rest
    else (if first == 254 then wide_at place w32 (2 ^ 16) rest
    else wide_at place w64 (2 ^ 32) rest))

-- how many bytes encode it
abbrev pub width_of : List ℕ → ℕ
width_of [] = 0
width_of (first ∷ rest) =
    if nat_lt first 253 then 1 else (if first == 253 then 3 else (if first == 254 then 5 else 9))

-- the number and what is left
abbrev pub with_left : Left → Result ℕ CompactFault → Result (ℕ × Left) CompactFault
with_left left (Ok n) = Ok (n, after (width_of left.rest) left)
with_left left (Err e) = Err e

-- a CompactSize at the front of what is left (Bitcoin's variable-length number), and what is left after it
abbrev pub compact_at : Left → Result (ℕ × Left) CompactFault
compact_at left = with_left left (number_at left.place left.rest)

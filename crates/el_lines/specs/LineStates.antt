-- What a line buffer was fed and has given.
use Rattle.std.specs.Prelude.{◌≡◌, ◌≢◌, ℕ, ◌+◌, ◌<◌, List, [], ◌++◌, length, Bool, true, false}
use Rattle.std.specs.List.{AllByRecursion}
use Rattle.el_lines.specs.Lines.{LineEvent, line, too_long, cut}
use Rattle.el_lines.specs.declared.line_buffer.LineEvent as given
use Rattle.el_lines.specs.declared.line_buffer.LineEvent.TheVariants as event

-- What a line buffer is at: how many bytes a line may have without its byte 10; the bytes that were fed and
-- belong to no event that was given; and whether the line that is fed now was given as too long, so that its
-- rest is skipped.
pub record LineState : Type 0 where
  pub limit : ℕ
  pub rest : List ℕ
  pub skips : Bool

-- Contracts see a line buffer as this: what it is at; how many bytes it keeps, and for how many it has room;
-- how many of those that are held are not known to be no byte 10; and how often a byte that was fed was
-- looked at.
pub record BufferState : Type 0 where
  pub state : LineState
  pub kept : ℕ
  pub room : ℕ
  pub unsearched : ℕ
  pub looks : ℕ

-- none of the bytes is this one
abbrev pub LacksByte : ℕ → List ℕ → Type 0
LacksByte byte bytes = AllByRecursion (λ b. b ≢ byte) bytes

-- none of the bytes is 10, the newline
abbrev pub HasNoNewline : List ℕ → Type 0
HasNoNewline bytes = LacksByte 10 bytes

-- These bytes were fed in all, and of their events (`lines`) the first `given` were given.
pub data WasFed (s : LineState) (fed : List ℕ) (given : ℕ) : Type 0 where
  -- an event for each line that has ended, and none for what is fed after these lines
  between_lines : (ended : List ℕ) → s.skips ≡ false → fed ≡ ended ++ s.rest → (cut ended).open_line ≡ []
      → given ≡ length (cut ended).whole → WasFed s fed given
  -- one more for the open line after them, which is above the limit
  in_long_line : (ended open_line : List ℕ) → s.skips ≡ true → s.rest ≡ [] → fed ≡ ended ++ open_line
      → (cut ended).open_line ≡ [] → HasNoNewline open_line → s.limit < length open_line
      → given ≡ length (cut ended).whole + 1 → WasFed s fed given

-- how many bytes belong to no event that was given
abbrev pub held_bytes : LineState → ℕ
held_bytes s = length s.rest

-- an event that was given, as `lines` has it
abbrev pub as_listed : given.LineEvent → LineEvent
as_listed (event.Line bytes) = line bytes
as_listed (event.TooLong limit) = too_long

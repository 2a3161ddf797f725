-- What a cursor has left.
use Rattle.std.specs.Prelude.{ℕ, ◌+◌, ◌<◌, List, drop, slice_index}

-- the place of the next byte, counted from the first byte handed in, and the bytes from there on
pub record Left : Type 0 where
  pub place : ℕ
  pub rest : List ℕ

-- after the next n bytes
abbrev pub after : ℕ → Left → Left
after n left = record { place = left.place + n; rest = drop n left.rest }

-- each is below 256
abbrev pub AreBytes : List ℕ → Type 0
AreBytes bytes = (i : ℕ) → slice_index bytes i < 256

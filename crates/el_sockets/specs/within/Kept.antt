-- What is kept of the bytes for a peer.
use Rattle.std.specs.Prelude.{ℕ, List}

-- Contracts see the unsent bytes as this: the bytes that are still to be sent; how many are kept in all, with
-- those in front that were sent; and for how many there is room.
pub record UnsentState : Type 0 where
  pub bytes : List ℕ
  pub kept : ℕ
  pub room : ℕ

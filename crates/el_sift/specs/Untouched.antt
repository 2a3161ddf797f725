-- What a move of the chain leaves as it was, as far as kept transactions ask for it.
use Rattle.std.specs.Prelude.{◌≡◌, ℕ, false, List, Some, take}
use Rattle.el_base.specs.declared.hash.Hash32.{Hash32}
use Rattle.el_tx.specs.declared.types.Outpoint.{Outpoint}
use Rattle.el_chain.specs.Chains.{Chain}
use Rattle.el_mempool.specs.declared.held.Held.{Held}
use Rattle.el_mempool.specs.Sift.{coin_named}
use Rattle.el_kept.specs.Tables.{has}

-- each coin of the first chain whose script hash isn't among these is one of the second, and holds the same
abbrev pub KeepsCoins : Chain → Chain → List Hash32 → Type 0
KeepsCoins before chain touched = (o : Outpoint) (h : Held) → coin_named before o ≡ Some h
    → has touched h.script ≡ false → coin_named chain o ≡ Some h

-- The first blocks of both chains are the same, so many, and coins of the first whose script hashes aren't
-- among these are coins of the second.
pub record KeepsUntouched (before chain : Chain) (same : ℕ) (touched : List Hash32) : Type 0 where
  pub blocks : take same before ≡ take same chain
  pub coins : KeepsCoins before chain touched

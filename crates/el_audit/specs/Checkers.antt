-- What a wallet checks of a proof (Electrum Protocol 1.4, `blockchain.transaction.get_merkle` and `cp_height`
-- of `blockchain.block.header`).
use Rattle.std.specs.Prelude.{◌≡◌, ℕ, ◌<◌, ◌^◌, List, length}
use Rattle.el_base.specs.declared.hash.Hash32.{Hash32}
use Rattle.el_base.specs.Hashing.{sha256d}
use Rattle.el_tx.specs.Headers.{header_of}
use Rattle.el_merkle.specs.Merkle.{climb}

-- A tree of so many levels has the place, and from the leaf at it the branch, which has a hash for each
-- level, leads to the root.
pub record IsProof (root leaf : Hash32) (place : ℕ) (branch : List Hash32) : Type 0 where
  pub within : place < 2 ^ length branch
  pub leads : climb leaf place branch ≡ root

-- the branch proves that the transaction with that txid stands at the place in the block with that header
abbrev pub ProvesTx : List ℕ → Hash32 → ℕ → List Hash32 → Type 0
ProvesTx header txid pos branch = IsProof (header_of header).root txid pos branch

-- the branch proves that the header is that of the height, in the tree over block hashes with that root
abbrev pub ProvesHeader : Hash32 → List ℕ → ℕ → List Hash32 → Type 0
ProvesHeader root header height branch = IsProof root (record { 0 = sha256d header }) height branch

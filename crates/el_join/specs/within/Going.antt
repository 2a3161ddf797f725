-- What goes with a kept transaction that is dropped.
use Rattle.std.specs.Prelude.{◌≡◌, ◌⊎◌, ◌<◌, ℕ, true, false, if◌then◌else◌, List, [], ◌∷◌, ◌++◌, length, Option, None, Some}
use Rattle.el_base.specs.declared.hash.Hash32.{Hash32}
use Rattle.el_tx.specs.declared.types.Outpoint.{Outpoint}
use Rattle.el_mempool.specs.declared.held.KeptTx.{KeptTx}
use Rattle.el_mempool.specs.declared.fees.FeeChange.{FeeChange}
use Rattle.el_mempool.specs.Fees.{fee_change}
use Rattle.el_kept.specs.Tables.{has}

-- these, with one more unless it is there
abbrev pub with_taker : Option Hash32 → List Hash32 → List Hash32
with_taker None ids = ids
with_taker (Some x) ids = if has ids x then ids else ids ++ x ∷ []

-- how many outputs it has
abbrev pub size : Option KeptTx → ℕ
size None = 0
size (Some k) = length k.outputs

-- that it goes, if it is kept
abbrev pub gone_change : Option KeptTx → List FeeChange
gone_change None = []
gone_change (Some k) = fee_change false k ∷ []

-- an output of the transaction
abbrev pub outpoint_numbered : Hash32 → ℕ → Outpoint
outpoint_numbered id n = record { txid = id; index = n }

-- The takers of the first n outputs of the transaction are there.
abbrev pub AreThere : (Outpoint → Option Hash32) → Hash32 → ℕ → List Hash32 → Type 0
AreThere taker id n ids = (i : ℕ) → i < n → (x : Hash32) → taker (outpoint_numbered id i) ≡ Some x
    → has ids x ≡ true

-- The takers of the first n outputs of the transaction were added, and nothing else.
pub record TakersAdded (taker : Outpoint → Option Hash32) (id : Hash32) (n : ℕ)
    (old new : List Hash32) : Type 0 where
  pub more : List Hash32
  pub is : new ≡ old ++ more
  pub comes : (x : Hash32) → has new x ≡ true
      → (has old x ≡ true) ⊎ ((o : Outpoint) × (o.txid ≡ id) × (taker o ≡ Some x))
  pub there : AreThere taker id n new

-- The transaction is among these; each other one takes an output of one of them; and whoever takes an
-- output of one of them is there too, unless that one is still to be looked at.
pub record Gathers (taker : Outpoint → Option Hash32) (sizes : Hash32 → ℕ) (start : Hash32)
    (left ids : List Hash32) : Type 0 where
  pub first : has ids start ≡ true
  pub comes : (x : Hash32) → has ids x ≡ true
      → (x ≡ start) ⊎ ((o : Outpoint) × (has ids o.txid ≡ true) × (taker o ≡ Some x))
  pub there : (id : Hash32) → has ids id ≡ true → (has left id ≡ true) ⊎ AreThere taker id (sizes id) ids

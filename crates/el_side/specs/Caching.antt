-- What was computed once of the chain and is kept, and of which chain it is.
use Rattle.std.specs.Prelude.{◌≡◌, ◌≤◌, length, take}
use Rattle.el_chain.specs.Chains.{Chain}
use Rattle.el_model.specs.declared.ledger.Ledger as ledger
use Rattle.el_levels.specs.Blocks.{IsTreeOf}
use Rattle.el_levels.specs.Kept.{IsKeptOf, block_hashes}
use Rattle.el_side.specs.declared.caches.Caches.{Caches}

-- All that is kept is of `start`, and the two chains have the blocks in common, from the first on, that are
-- noted as those that stay.
pub record CachesStand (caches : Caches) (start chain : Chain) : Type 0 where
  pub levels : IsKeptOf (block_hashes start) caches.levels
  pub block : IsTreeOf start caches.block
  pub front : take caches.same start ≡ take caches.same chain
  pub within : caches.same ≤ length chain

-- it is of each chain that the ledger stands for, where it was so before
abbrev pub CachesStay : {G : Type 0} → ledger.Ghosts G → G → Caches → Caches → Type 0
CachesStay of_ledger l old new =
    (chain : Chain) → of_ledger.stands l chain → CachesStand old chain chain → CachesStand new chain chain

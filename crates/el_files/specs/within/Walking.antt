-- How far a walk over a file has come.
use Rattle.std.specs.Prelude.{◌≡◌, ◌⊎◌, ℕ, ◌+◌, ◌<◌, List, ◌++◌, length, drop}
use Rattle.el_chain.specs.Records.{records_from}
use Rattle.el_chain.specs.declared.node.Node.{Node}
use Rattle.el_files.specs.Scanning.{ScannedTo}
use Rattle.el_files.specs.declared.limits.TheConstants.{HEAD_SIZE, MIN_RECORD_SIZE}

-- The walk began at the place of the file, where these bytes stand, and passed `passed` of them. It
-- appended the records that it passed.
pub record Walked (magic : List ℕ) (file place passed : ℕ) (bytes : List ℕ) (old new : List Node)
    : Type 0 where
  pub nodes : List Node
  pub appended : new ≡ old ++ nodes
  pub rest : records_from magic file place 0 bytes
      ≡ nodes ++ records_from magic file (place + passed) 0 (drop passed bytes)

-- A scan of a file whose size was told has come to the place, or the file was seen to have become shorter. It
-- appended the records that it passed.
pub record ScanIsAt (was_seen : List ℕ → Type 0) (magic : List ℕ) (file size at : ℕ) (old new : List Node)
    : Type 0 where
  pub place : ℕ
  pub nodes : List Node
  pub appended : new ≡ old ++ nodes
  pub scanned : ScannedTo was_seen magic file size place nodes
  pub here : (at ≡ place) ⊎ ((size < at + MIN_RECORD_SIZE)
      × ((bytes : List ℕ) × was_seen bytes × (length bytes < place + HEAD_SIZE)))

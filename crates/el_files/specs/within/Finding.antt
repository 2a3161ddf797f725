-- What a head tells of a block, before it is said where the head came from.
use Rattle.std.specs.Prelude.{◌≡◌, ℕ, List}
use Rattle.el_chain.specs.declared.node.Node.{Node}
use Rattle.el_files.specs.Scanning.{IsFoundBlock, HasHead}

-- the block's record stands at this place of this file
pub record IsRecordAt (number place : ℕ) (n : Node) : Type 0 where
  pub found : IsFoundBlock n
  pub file : n.place.file ≡ number
  pub offset : n.place.offset ≡ place

-- its head stands in these bytes, which begin at the place of this file
pub record IsHeadIn (magic : List ℕ) (number place : ℕ) (bytes : List ℕ) (n : Node) : Type 0 where
  pub found : IsFoundBlock n
  pub file : n.place.file ≡ number
  pub head : HasHead magic number place bytes n

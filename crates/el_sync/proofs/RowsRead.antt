-- Rows that a line of the node reads.
use Rattle.std.proofs.Common.{ℕ, arith}
use Rattle.el_base.specs.declared.hash.Hash32.{Hash32}
use Rattle.el_side.specs.Side.{Side}
use Rattle.el_sync.specs.RowBounds.{ReadsTip}

-- none
pub unread_tip : (side : Side) (h : Hash32) (rows : ℕ) → ReadsTip side h rows rows
unread_tip side h rows = record { no_path = λ none. omega arith; no_move = λ path is still. omega arith }

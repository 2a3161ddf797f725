-- What reading a node's line gives.
use Rattle.std.specs.Prelude.{ℕ, List}
use Rattle.el_lines.specs.NodeLines.{NodeLine, block, tip, tx, dropped, ReadsNodeLine}
use Rattle.el_lines.specs.declared.node_line.NodeLine as read
use Rattle.el_lines.specs.declared.node_line.NodeLine.TheVariants as node_line
use Rattle.el_lines.specs.declared.node_line.NodeLineFault.{NodeLineFault}
use Rattle.el_lines.specs.declared.node_line.NodeLineFault.TheVariants as fault

-- a line that was read, as the definitions have it
abbrev pub as_said : read.NodeLine → NodeLine
as_said (node_line.Block file at_place) = block file at_place
as_said (node_line.Tip hash) = tip hash.0
as_said (node_line.Tx bytes) = tx bytes
as_said (node_line.Drop txid) = dropped txid.0

-- why a line wasn't read: it says nothing; or it gives a transaction, for which no memory was found
abbrev pub IsLineRefused : List ℕ → NodeLineFault → Type 0
IsLineRefused line fault.Line = (said : NodeLine) → ReadsNodeLine line said → ⊥
IsLineRefused line fault.Memory = (bytes : List ℕ) × ReadsNodeLine line (tx bytes)

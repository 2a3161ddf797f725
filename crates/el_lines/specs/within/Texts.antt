-- Why a hex text was not read.
use Rattle.std.specs.Prelude.{ℕ, List}
use Rattle.el_lines.specs.NodeLines.{ShowsBytes}
use Rattle.el_lines.specs.declared.node_line.NodeLineFault.{NodeLineFault}
use Rattle.el_lines.specs.declared.node_line.NodeLineFault.TheVariants as fault

-- The text was not read for this cause: it shows no bytes, or it does and memory ran out.
abbrev pub TextIsRefused : List ℕ → NodeLineFault → Type 0
TextIsRefused text fault.Line = (bytes : List ℕ) → ShowsBytes text bytes → ⊥
TextIsRefused text fault.Memory = (bytes : List ℕ) × ShowsBytes text bytes

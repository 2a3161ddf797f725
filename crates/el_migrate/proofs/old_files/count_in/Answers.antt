use Rattle.std.proofs.Common.{ℕ, List, ap, ◌∙◌, arith}
use Rattle.std.specs.Int.{w64, from_le_bytes}
use Rattle.el_recovery.proofs.Cells.{eight_cells}
use Rattle.el_migrate.proofs.old_files.count_in.Goals as goal

pub returns : goal.returns
returns c = c.from_le_bytes.ensures ∙ ap (λ (b : List ℕ). from_le_bytes w64 b) (eight_cells c.args.meta.now c.args.at (omega (arith, c.requires, c.told-meta)))

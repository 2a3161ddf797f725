use Rattle.std.proofs.Common.{ℕ, List, ap, ◌∙◌, arith}
use Rattle.std.specs.Int.{w32, from_le_bytes}
use Rattle.el_recovery.proofs.Cells.{four_cells}
use Rattle.el_migrate.proofs.old_files.word_at.Goals as goal

pub returns-clause-bytes : goal.returns-clause-bytes
returns-clause-bytes c = record { long = c.told-meta; small = c.fits-meta }

pub returns-clause-word : goal.returns-clause-word
returns-clause-word c = c.from.ensures ∙ (c.from_le_bytes.ensures ∙ ap (λ (b : List ℕ). from_le_bytes w32 b) (four_cells c.args.meta.now c.args.at (omega (arith, c.requires, c.told-meta))))

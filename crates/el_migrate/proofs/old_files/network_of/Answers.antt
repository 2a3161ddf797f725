use Rattle.std.proofs.Common.{ℕ, List, ap, ◌∙◌}
use Rattle.std.specs.Int.{w32, from_le_bytes}
use Rattle.el_redo.proofs.BodyLemmas.{four_are}
use Rattle.el_migrate.proofs.old_files.network_of.Goals as goal

pub returns-clause-number : goal.returns-clause-number
returns-clause-number c = c.from.ensures ∙ (c.from_le_bytes.ensures ∙ ap (λ (b : List ℕ). from_le_bytes w32 b) (four_are c.args.magic.now c.told-magic))

pub returns-clause-bytes : goal.returns-clause-bytes
returns-clause-bytes c = record { long = c.told-magic; small = c.fits-magic }

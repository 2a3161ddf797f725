use Rattle.std.proofs.Common.{ap, sym, ◌∙◌}
use Rattle.el_row_formats.specs.RowBytes.{block_row_bytes}
use Rattle.el_migrate.proofs.Fits.{fits_block}
use Rattle.el_migrate.proofs.rows.move_block.Goals as goal

pub write-requires-clause-fits : goal.write-requires-clause-fits
write-requires-clause-fits c = fits_block c.read_old.result c.read_old.ensures.fits

pub returns-clause-row : goal.returns-clause-row
returns-clause-row c r fits is = c.write.ensures ∙ ap block_row_bytes (sym (c.read_old.ensures.only r fits is))

use Rattle.std.proofs.Common.{refl}
use Rattle.el_fees.specs.Tables.{sizes_of}
use Rattle.el_fees.proofs.table.FeeTable.new.Goals as goal

pub returns : goal.returns
unfolding sizes_of
returns c = refl

use Rattle.std.proofs.Common.{refl}
use Rattle.el_rows.specs.SizedRows.{cut_rows}
use Rattle.el_rows.proofs.row_list.RowList.new.Goals as goal

pub returns : goal.returns
unfolding cut_rows
returns c = refl

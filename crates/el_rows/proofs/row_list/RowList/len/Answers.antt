use Rattle.el_rows.proofs.RowListLemmas.{count_is}
use Rattle.el_rows.proofs.row_list.RowList.len.Goals as goal

pub returns : goal.returns
returns c = count_is c.args.self.now c.self.inside.size c.self.inside.bytes.items c.self.inside.count c.self.view_is

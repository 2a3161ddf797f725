use Rattle.el_rows.proofs.RowListLemmas.{pushed}
use Rattle.el_rows.proofs.row_list.RowList.push.Goals as goal

pub returns-clause-ok : goal.returns-clause-ok
returns-clause-ok c = pushed c.args.self.now c.self.inside.size c.self.inside.bytes.items c.self.inside.count c.self.view_is c.extend_from_slice.new.self.items c.in-Some.count c.args.bytes.now
    c.self.invariant c.requires.sized c.in_ok-extend_from_slice.ensures.items c.in-Some.ensures.1

use Rattle.el_check_laws.proofs.MadeWay.{numbers_are, last_blocks, side_blocks}
use Rattle.el_check_laws.proofs.laws.check_leads_along_both_branches.Goals as goal

pub returns : goal.returns
returns c = λ count some few differ way.
    let says_one = c.node_line_says_one_thing.ensures in
    record {
      sums = numbers_are says_one count some few differ way;
      last = last_blocks says_one count some few differ way;
      side = side_blocks says_one count some few differ way;
    }

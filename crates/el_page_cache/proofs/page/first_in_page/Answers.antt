use Rattle.std.proofs.Common.{◌/◌, ◌*◌, ap, arith}
use Rattle.el_page_cache.specs.Pages.{page_of}
use Rattle.el_page_cache.proofs.Places.{at_place}
use Rattle.el_page_cache.proofs.page.first_in_page.Goals as goal

pub returns-clause-first : goal.returns-clause-first
unfolding page_of
returns-clause-first c = ap (λ r. c.args.i / r * r) c.rows_in_page-rows.ensures.rows

pub returns-clause-low : goal.returns-clause-low
returns-clause-low c = omega (arith, returns-clause-first c, at_place c.args.t c.args.i)

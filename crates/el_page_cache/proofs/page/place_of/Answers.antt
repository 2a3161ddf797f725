use Rattle.std.proofs.Common.{◌%◌, ap}
use Rattle.el_page_cache.specs.Pages.{place_of}
use Rattle.el_page_cache.proofs.page.place_of.Goals as goal

pub returns-clause-place : goal.returns-clause-place
unfolding place_of
returns-clause-place c = ap (λ r. c.args.i % r) c.rows_in_page.ensures.rows

use Rattle.std.proofs.Common.{◌/◌, ap}
use Rattle.el_page_cache.specs.Pages.{rows_in_page}
use Rattle.el_page_cache.proofs.page.rows_in_page.Goals as goal

pub returns-clause-rows : goal.returns-clause-rows
unfolding rows_in_page
returns-clause-rows c = ap (λ s. 4096 / s) c.size.ensures

use Rattle.std.proofs.Common.{◌/◌, ◌+◌, ◌*◌, ap, ◌∙◌}
use Rattle.el_page_cache.specs.Pages.{page_of}
use Rattle.el_page_cache.proofs.page.key_of.Goals as goal

pub returns : goal.returns
unfolding page_of
returns c = ap (λ r. c.args.i / r * 8 + c.index.result) c.rows_in_page.ensures.rows ∙ ap (λ n. page_of c.args.t c.args.i * 8 + n) c.index.ensures.index

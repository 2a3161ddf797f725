use Rattle.std.proofs.Common.{sym, subst, ◌∙◌}
use Rattle.el_page_cache.specs.Pages.{KeptPages, page_of, page_key, page_in, Agrees}
use Rattle.el_page_cache.proofs.PageLemmas.{agrees_promoted, agrees_at, some_of}
use Rattle.el_page_cache.proofs.cache.PageCache.read.Goals as goal

pub returns-clause-agrees : goal.returns-clause-agrees
returns-clause-agrees c lists counts agrees =
    subst (λ (p : KeptPages). Agrees p lists counts) (sym c.find.ensures.recent) (agrees_promoted c.args.self.now lists counts agrees (page_key c.args.t (page_of c.args.t c.args.i)))

pub returns-clause-stored : goal.returns-clause-stored
returns-clause-stored c lists counts agrees lt is_true =
    let page = some_of (page_in c.args.self.now c.args.t (page_of c.args.t c.args.i)) (sym c.find.ensures.found ∙ is_true) in
    c.find.ensures.row page.0 page.1 ∙ agrees_at c.args.self.now lists counts agrees c.args.t c.args.i page.0 page.1 lt

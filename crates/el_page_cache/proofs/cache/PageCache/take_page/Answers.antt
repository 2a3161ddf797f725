use Rattle.std.proofs.Common.{◌-◌, length, take, sym, subst, ap, ◌∙◌}
use Rattle.el_page_cache.specs.Pages.{KeptPages, Agrees}
use Rattle.el_page_cache.proofs.PageLemmas.{entries_left, agrees_taken}
use Rattle.el_page_cache.proofs.cache.PageCache.take_page.Goals as goal

pub returns-clause-full : goal.returns-clause-full
returns-clause-full c long =
    entries_left c.self.inside.pages c.pop_lru.new.self c.args.self.now c.self.view_is c.pop_lru.ensures.entries
    ∙ ap (λ n. take (n - 1) c.args.self.now) long

pub returns-clause-agrees : goal.returns-clause-agrees
returns-clause-agrees c lists counts agrees =
    subst (λ (p : KeptPages). Agrees p lists counts) (sym (entries_left c.self.inside.pages c.pop_lru.new.self c.args.self.now c.self.view_is c.pop_lru.ensures.entries))
    (agrees_taken c.args.self.now lists counts agrees (length c.args.self.now - 1))

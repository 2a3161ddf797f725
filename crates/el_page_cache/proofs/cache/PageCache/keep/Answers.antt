use Rattle.std.proofs.Common.{List, ℕ, ap, sym, subst, ◌∙◌, ⊎_elim, arith}
use Rattle.el_row_formats.proofs.Keys.{few_rows}
use Rattle.lru.specs.LruCache.{LruCache}
use Rattle.el_page_cache.specs.Pages.{KeptPages, page_of, page_key, Agrees}
use Rattle.el_page_cache.proofs.PageLemmas.{entries_put, either, if_ok, agrees_put}
use Rattle.el_page_cache.proofs.cache.PageCache.keep.Goals as goal

pub key_of-requires : goal.key_of-requires
key_of-requires c = omega (arith, c.requires.limit, few_rows c.args.t)

pub returns-clause-kept : goal.returns-clause-kept
returns-clause-kept c is_true =
    entries_put c.self.inside.pages c.put.new.self c.args.self.now c.key_of.result (page_key c.args.t (page_of c.args.t c.args.i)) c.new.result c.args.page.items c.self.view_is c.self.invariant c.key_of.ensures c.new.ensures
    (if_ok c.put.result c.is_ok.result c.is_ok.ensures.value c.put.ensures.entries is_true)

pub returns-clause-agrees : goal.returns-clause-agrees
returns-clause-agrees c lists counts agrees has = ⊎_elim
    (λ put. subst (λ (p : KeptPages). Agrees p lists counts)
    (sym (entries_put c.self.inside.pages c.put.new.self c.args.self.now c.key_of.result (page_key c.args.t (page_of c.args.t c.args.i)) c.new.result c.args.page.items c.self.view_is c.self.invariant c.key_of.ensures c.new.ensures put))
    (agrees_put c.args.self.now lists counts agrees c.args.t (page_of c.args.t c.args.i) c.args.page.items has))
    (λ same. subst (λ (p : KeptPages). Agrees p lists counts) (sym (ap (λ (x : LruCache ℕ (List ℕ)). x.entries) same ∙ c.self.view_is)) agrees)
    (either c.put.result c.put.ensures.entries c.put.ensures.err)

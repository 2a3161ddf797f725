use Rattle.std.proofs.Common.{◌≡◌, ℕ, List, length, ap, sym, subst, ◌∙◌, arith}
use Rattle.std.proofs.lemmas.List.{with_items_is}
use Rattle.el_row_formats.specs.Tables.{size_of, row_at}
use Rattle.el_page_cache.specs.Pages.{page_of, place_of, HasRows}
use Rattle.el_pages.specs.declared.layout.TheConstants.{FORMAT_2}
use Rattle.el_pages.specs.Layouts.{file_of}
use Rattle.el_pages.proofs.PageReads.{row_in_page, page_has}
use Rattle.el_pages.proofs.caching.keep_row.Goals as goal

pub returns-clause-row : goal.returns-clause-row
returns-clause-row g c told whole =
    let t = c.args.t in
    let page = c.read_page.new.page in
    let long : length page ≡ c.args.page.len = omega (arith, c.args.page.ok.0, ap (λ (b : List ℕ). length b) c.deref_mut.ensures.value) in
    c.copy_row.ensures
    ∙ ap (λ (b : List ℕ). row_at (size_of t) b (place_of t c.args.i)) (c.deref.ensures.value ∙ with_items_is c.args.page page long)
    ∙ row_in_page t c.args.i (g.D.Disk.seen c.args.disk.now (file_of FORMAT_2 t)) page (c.in_ok-read_page.ensures.page told) whole

pub returns-clause-agrees : goal.returns-clause-agrees
returns-clause-agrees g c told lists counts have agrees =
    let t = c.args.t in
    let page = c.read_page.new.page in
    let long : length page ≡ c.args.page.len = omega (arith, c.args.page.ok.0, ap (λ (b : List ℕ). length b) c.deref_mut.ensures.value) in
    c.keep.ensures.agrees lists counts agrees
    (subst (λ (b : List ℕ). HasRows lists counts t (page_of t c.args.i) b) (sym (with_items_is c.args.page page long))
    (page_has (g.D.Disk.seen c.args.disk.now) lists counts t (page_of t c.args.i) page have (c.in_ok-read_page.ensures.page told)))

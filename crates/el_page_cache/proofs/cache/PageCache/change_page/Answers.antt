use Rattle.std.proofs.Common.{◌*◌, ◌≤◌, ◌≡◌, ℕ, List, take, length-take, sym, ap, ◌∙◌, ⊎_elim, arith}
use Rattle.std.specs.Prelude.{nat_eq}
use Rattle.std.specs.Map.{keys_of}
use Rattle.std.proofs.lemmas.Map.{keys-set_value}
use Rattle.std.proofs.lemmas.Nat.{mul-le}
use Rattle.el_row_formats.specs.Tables.{size_of, row_at}
use Rattle.el_page_cache.specs.Pages.{KeptPages, page_of, page_key, page_in}
use Rattle.el_page_cache.proofs.Rows.{row_take}
use Rattle.el_page_cache.proofs.PageLemmas.{none_or_some, written_page, written_same}
use Rattle.el_page_cache.proofs.cache.PageCache.change_page.Goals as goal

pub returns-clause-same : goal.returns-clause-same
returns-clause-same c =
    let pages = c.args.self.now in
    ⊎_elim
    (λ none. ap (λ (p : KeptPages). keys_of p) (c.write_page.ensures.none none))
    (λ some. ap (λ (p : KeptPages). keys_of p) (c.write_page.ensures.kept some.0 some.1) ∙ keys-set_value (nat_eq (page_key c.args.t (page_of c.args.t c.args.i))) pages _)
    (none_or_some (page_in pages c.args.t (page_of c.args.t c.args.i)))

pub returns-clause-written : goal.returns-clause-written
returns-clause-written c =
    let t = c.args.t in
    let here = c.min-here.result in
    let size_is : here * c.size.result ≡ here * size_of t = ap (λ s. here * s) c.size.ensures in
    let less : here * size_of t ≤ c.args.rows * size_of t = mul-le here (size_of t) c.args.rows (size_of t) (omega (arith, c.min-here.ensures)) (omega arith) in
    let front : List ℕ = take (here * c.size.result) c.args.bytes.now in
    written_same c.args.self.now c.write_page.new.self t c.args.i here front c.args.bytes.now
    (λ j lt. sym (ap (λ n. row_at (size_of t) (take n c.args.bytes.now) j) size_is ∙ row_take (size_of t) c.args.bytes.now here j lt))
    (written_page c.args.self.now c.write_page.new.self t c.args.i here front
    (omega (arith, c.min-here.ensures, c.rows_in_page.ensures.rows, c.place_of.ensures.place, c.place_of.ensures.within))
    (omega (arith, length-take (here * c.size.result) c.args.bytes.now, size_is, less, c.requires.long))
    c.write_page.ensures.kept c.write_page.ensures.whole c.write_page.ensures.none)

use Rattle.std.proofs.Common.{◌≤◌, ◌*◌, ◌-◌, length, min, take, drop, ap, ◌∙◌, arith}
use Rattle.std.proofs.lemmas.Nat.{mul-le}
use Rattle.el_row_formats.proofs.Keys.{few_rows}
use Rattle.el_page_cache.specs.Pages.{page_of, rows_in_page}
use Rattle.el_pages.specs.declared.layout.TheConstants.{FORMAT_2}
use Rattle.el_pages.specs.Layouts.{file_of}
use Rattle.el_pages.proofs.Laid.{small_size}
use Rattle.el_pages.proofs.StoreLemmas.{no_more}
use Rattle.el_pages.proofs.PageReads.{page_read}
use Rattle.el_pages.proofs.caching.read_page.Goals as goal

pub overflow_mul-at : goal.overflow_mul-at
overflow_mul-at g c =
    let less : c.first_in_page.result * c.size.result ≤ 1099511627776 * 116 = mul-le c.first_in_page.result c.size.result 1099511627776 116 (omega (arith, c.first_in_page.ensures.low, c.requires.limit, few_rows c.args.t)) (omega (arith, c.size.ensures, small_size c.args.t)) in
    omega (arith, less)

pub returns-clause-page : goal.returns-clause-page
returns-clause-page g c told =
    let t = c.args.t in
    let n = page_of t c.args.i in
    let seen = g.D.Disk.seen c.args.disk.now in
    let given = c.in_ok-read.field-0 in
    let at = c.first_in_page.result * c.size.result in
    page_read t n (seen (file_of FORMAT_2 t)) c.args.page.now c.read.new.buf given at
    (ap (λ m. m * c.size.result) c.first_in_page.ensures.first ∙ ap (λ s. n * rows_in_page t * s) c.size.ensures)
    c.requires.whole
    (c.in_ok-read.ensures.count told ∙ ap (λ f. min (length c.args.page.now) (length (seen f) - at)) c.file.ensures)
    (c.in_ok-read.ensures.filled told ∙ ap (λ f. take given (drop at (seen f))) c.file.ensures)

pub returns-clause-no_more : goal.returns-clause-no_more
returns-clause-no_more g c told = no_more g.D.Disk (λ d t u i le left. g.met.D.Disk.earlier d t u i told le left) c.args.disk.now c.read.new.self (c.read.ensures.time told) (c.read.ensures.crash told)

pub returns-in_err-read-clause-no_more : goal.returns-in_err-read-clause-no_more
returns-in_err-read-clause-no_more g c told = no_more g.D.Disk (λ d t u i le left. g.met.D.Disk.earlier d t u i told le left) c.args.disk.now c.read.new.self (c.read.ensures.time told) (c.read.ensures.crash told)

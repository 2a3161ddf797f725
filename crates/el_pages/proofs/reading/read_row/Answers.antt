use Rattle.std.proofs.Common.{◌≡◌, ◌≤◌, ◌+◌, ◌*◌, ◌-◌, ℕ, List, length, min, take, drop, ap, sym, ◌∙◌, arith}
use Rattle.std.proofs.lemmas.List.{take_all}
use Rattle.std.proofs.lemmas.Nat.{mul-le}
use Rattle.el_row_formats.proofs.Keys.{few_rows}
use Rattle.el_row_formats.specs.Tables.{size_of, row_at}
use Rattle.el_pages.specs.declared.layout.TheConstants.{FORMAT_2}
use Rattle.el_pages.specs.Layouts.{file_of}
use Rattle.el_pages.proofs.Laid.{small_size}
use Rattle.el_pages.proofs.StoreLemmas.{no_more}
use Rattle.el_pages.proofs.reading.read_row.Goals as goal

-- a row that is whole in its file is read whole
row_read : (size i : ℕ) (file old buf new : List ℕ) (given at : ℕ) → at ≡ i * size → length old ≡ size → length buf ≡ length old → i * size + size ≤ length file
    → given ≡ min (length old) (length file - at) → take given buf ≡ take given (drop at file) → (length buf ≤ given → new ≡ buf) → new ≡ row_at size file i
row_read size i file old buf new given at at_is sized same whole count filled rest =
    let given_is : given ≡ size = omega (arith, count, at_is, whole, sized) in
    rest (omega (arith, given_is, same, sized))
    ∙ sym (take_all given buf (omega (arith, given_is, same, sized)))
    ∙ filled
    ∙ ap (λ n. take given (drop n file)) at_is
    ∙ ap (λ n. take n (drop (i * size) file)) (let e : given ≡ i * size + size - i * size = omega (arith, given_is) in e)

pub overflow_mul-at : goal.overflow_mul-at
overflow_mul-at g c =
    let less : c.args.i * c.size.result ≤ 1099511627776 * 116 = mul-le c.args.i c.size.result 1099511627776 116 (omega (arith, c.requires.limit, few_rows c.args.t)) (omega (arith, c.size.ensures, small_size c.args.t)) in
    omega (arith, less)

pub returns-clause-row : goal.returns-clause-row
returns-clause-row g c told whole =
    let seen = g.D.Disk.seen c.args.disk.now in
    let at = c.args.i * c.size.result in
    row_read (size_of c.args.t) c.args.i (seen (file_of FORMAT_2 c.args.t)) c.args.buf.now c.read.new.buf c.zero_rest.new.buf c.in_ok-given.given at
    (ap (λ s. c.args.i * s) c.size.ensures) c.requires.sized (omega arith) whole
    (c.in_ok-given.ensures.count told ∙ ap (λ f. min (length c.args.buf.now) (length (seen f) - at)) c.file.ensures)
    (c.in_ok-given.ensures.filled told ∙ ap (λ f. take c.in_ok-given.given (drop at (seen f))) c.file.ensures)
    c.zero_rest.ensures.whole

pub returns-clause-no_more : goal.returns-clause-no_more
returns-clause-no_more g c told = no_more g.D.Disk (λ d t u i le left. g.met.D.Disk.earlier d t u i told le left) c.args.disk.now c.read.new.self (c.read.ensures.time told) (c.read.ensures.crash told)

pub returns-in_err-given-clause-no_more : goal.returns-in_err-given-clause-no_more
returns-in_err-given-clause-no_more g c told = no_more g.D.Disk (λ d t u i le left. g.met.D.Disk.earlier d t u i told le left) c.args.disk.now c.read.new.self (c.read.ensures.time told) (c.read.ensures.crash told)

use Rattle.std.proofs.Common.{◌≡◌, ◌<◌, ◌≤◌, ◌+◌, ℕ, Option, None, Some, IfSome, length, inl, inr, refl, ap, sym, ◌∙◌, arith}
use Rattle.std.proofs.lemmas.Result.{err_from_is_err_and}
use Rattle.el_outside.specs.declared.archive.TheConstants.{SIZE_LIMIT}
use Rattle.el_pages.specs.Layouts.{redo_of}
use Rattle.el_recovery.proofs.Fronts.{front_there}
use Rattle.el_recovery.proofs.Settles.{one_read, reads_on}
use Rattle.el_recovery.proofs.waiting.waiting.Goals as goal

-- what is weaker is said too
some_weaker : (o : Option ℕ) (P Q : ℕ → Type 0) → ((n : ℕ) → P n → Q n) → IfSome o P → IfSome o Q
some_weaker None P Q each said = tt
some_weaker (Some n) P Q each said = each n said

pub returns-clause-low : goal.returns-clause-low
returns-clause-low g c =
    some_weaker c.in_ok-len.len (λ (n : ℕ). 9 + n ≤ c.in_ok-size.size) (λ (n : ℕ). 9 + n < SIZE_LIMIT) (λ n le. omega (arith, le, c.in_ok-size.ensures.small)) c.in_ok-len.ensures.low

pub returns-clause-meta : goal.returns-clause-meta
returns-clause-meta g c = c.in_ok-len.ensures.meta

pub returns-then-size-lt2-clause-none : goal.returns-then-size-lt2-clause-none
returns-then-size-lt2-clause-none g c told none =
    let l = c.args.layout.now in
    let seen = g.D.Disk.seen c.args.disk.now in
    let long : length (seen (redo_of l)) ≡ c.in_ok-size.size = sym (c.in_ok-size.ensures.size told ∙ ap (λ f. length (seen f)) c.span-redo.ensures.redo) in
    inl (omega (arith, long, c.if-size-lt2.true))

pub returns-clause-none : goal.returns-clause-none
returns-clause-none g c told none =
    let l = c.args.layout.now in
    let seen = g.D.Disk.seen c.args.disk.now in
    let long : length (seen (redo_of l)) ≡ c.in_ok-size.size = sym (c.in_ok-size.ensures.size told ∙ ap (λ f. length (seen f)) c.span-redo.ensures.redo) in
    let same = front_there l seen (g.D.Disk.seen c.size.new.self) c.span-redo.result.redo c.in_ok-size.size c.in_ok-front.front c.span-redo.ensures.redo (c.size.ensures.seen told) long
    (c.in_ok-front.ensures.front told) in
    inr (c.in_ok-len.ensures.none seen long same none)

pub returns-clause-some : goal.returns-clause-some
returns-clause-some g c told =
    let l = c.args.layout.now in
    let seen = g.D.Disk.seen c.args.disk.now in
    let long : length (seen (redo_of l)) ≡ c.in_ok-size.size = sym (c.in_ok-size.ensures.size told ∙ ap (λ f. length (seen f)) c.span-redo.ensures.redo) in
    let same = front_there l seen (g.D.Disk.seen c.size.new.self) c.span-redo.result.redo c.in_ok-size.size c.in_ok-front.front c.span-redo.ensures.redo (c.size.ensures.seen told) long
    (c.in_ok-front.ensures.front told) in
    c.in_ok-len.ensures.some seen long same

pub returns-in_err-len-clause-bad : goal.returns-in_err-len-clause-bad
returns-in_err-len-clause-bad g c told =
    let p = err_from_is_err_and c.from_residual-in_err-len.result c.from_residual-in_err-len.ensures.1 in
    rw (p.1, p.2) (
    let l = c.args.layout.now in
    let seen = g.D.Disk.seen c.args.disk.now in
    let long : length (seen (redo_of l)) ≡ c.in_ok-size.size = sym (c.in_ok-size.ensures.size told ∙ ap (λ f. length (seen f)) c.span-redo.ensures.redo) in
    let same = front_there l seen (g.D.Disk.seen c.size.new.self) c.span-redo.result.redo c.in_ok-size.size c.in_ok-front.front c.span-redo.ensures.redo (c.size.ensures.seen told) long
    (c.in_ok-front.ensures.front told) in
    inr (c.in_err-len.ensures.bad seen long same)
    )

pub returns-in_err-size-clause-crash : goal.returns-in_err-size-clause-crash
returns-in_err-size-clause-crash g c told = one_read g.D.Disk c.args.disk.now c.size.new.self (c.size.ensures.time told) (c.size.ensures.crash told)

pub returns-then-size-lt2-clause-crash : goal.returns-then-size-lt2-clause-crash
returns-then-size-lt2-clause-crash g c told = one_read g.D.Disk c.args.disk.now c.size.new.self (c.size.ensures.time told) (c.size.ensures.crash told)

pub returns-in_err-front-clause-crash : goal.returns-in_err-front-clause-crash
returns-in_err-front-clause-crash g c told =
    let old = c.args.disk.now in
    let mid = c.size.new.self in
    reads_on g.D.Disk (λ d t u i le left. g.met.D.Disk.earlier d t u i told le left) old mid c.read_front.new.disk
    (one_read g.D.Disk old mid (c.size.ensures.time told) (c.size.ensures.crash told))
    (one_read g.D.Disk mid c.read_front.new.disk (c.read_front.ensures.time told) (c.read_front.ensures.crash told))

pub returns-in_err-len-clause-crash : goal.returns-in_err-len-clause-crash
returns-in_err-len-clause-crash g c told =
    let old = c.args.disk.now in
    let mid = c.size.new.self in
    reads_on g.D.Disk (λ d t u i le left. g.met.D.Disk.earlier d t u i told le left) old mid c.read_front.new.disk
    (one_read g.D.Disk old mid (c.size.ensures.time told) (c.size.ensures.crash told))
    (one_read g.D.Disk mid c.read_front.new.disk (c.read_front.ensures.time told) (c.read_front.ensures.crash told))

pub returns-clause-crash : goal.returns-clause-crash
returns-clause-crash g c told =
    let old = c.args.disk.now in
    let mid = c.size.new.self in
    reads_on g.D.Disk (λ d t u i le left. g.met.D.Disk.earlier d t u i told le left) old mid c.read_front.new.disk
    (one_read g.D.Disk old mid (c.size.ensures.time told) (c.size.ensures.crash told))
    (one_read g.D.Disk mid c.read_front.new.disk (c.read_front.ensures.time told) (c.read_front.ensures.crash told))

pub returns-in_err-size-clause-bad : goal.returns-in_err-size-clause-bad
returns-in_err-size-clause-bad g c told =
    let p = err_from_is_err_and c.from_residual.result c.from_residual.ensures.1 in
    rw (p.1, p.2) (inl refl)

pub returns-in_err-size-clause-only : goal.returns-in_err-size-clause-only
returns-in_err-size-clause-only g c =
    let p = err_from_is_err_and c.from_residual.result c.from_residual.ensures.1 in
    rw (p.1, p.2) (inl refl)

pub returns-in_err-front-clause-bad : goal.returns-in_err-front-clause-bad
returns-in_err-front-clause-bad g c told =
    let p = err_from_is_err_and c.from_residual-in_err-front.result c.from_residual-in_err-front.ensures.1 in
    rw (p.1, p.2) (inl refl)

pub returns-in_err-front-clause-only : goal.returns-in_err-front-clause-only
returns-in_err-front-clause-only g c =
    let p = err_from_is_err_and c.from_residual-in_err-front.result c.from_residual-in_err-front.ensures.1 in
    rw (p.1, p.2) (inl refl)

pub returns-in_err-len-clause-only : goal.returns-in_err-len-clause-only
returns-in_err-len-clause-only g c =
    let p = err_from_is_err_and c.from_residual-in_err-len.result c.from_residual-in_err-len.ensures.1 in
    let found = c.in_err-len.ensures.only in
    rw (p.1, p.2) (inr (found.0, found.1))

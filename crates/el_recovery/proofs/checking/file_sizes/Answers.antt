use Rattle.std.proofs.Common.{◌≡◌, ◌<◌, ◌+◌, ℕ, List, length, get_or, set, replicate, zero, suc, ⊎_elim, refl, ap, sym, ◌∙◌, arith, length-set}
use Rattle.std.proofs.lemmas.Bool.{cases_eq}
use Rattle.std.proofs.lemmas.List.{get_or-set_same, get_or-set_other}
use Rattle.el_outside.specs.Disk.{Image}
use Rattle.el_outside.specs.Moments.{LeftNow}
use Rattle.el_outside.specs.declared.archive.TheConstants.{SIZE_LIMIT}
use Rattle.el_row_formats.specs.Tables.{index_of}
use Rattle.el_row_formats.proofs.Keys.{index_within}
use Rattle.el_redone.proofs.Runs.{no_calls, stays, goes_on}
use Rattle.el_recovery.proofs.checking.file_sizes.Goals as goal

-- a list with one number set
small_set : (xs : List ℕ) (i x k limit : ℕ) → i < length xs → x < limit → ((j : ℕ) → get_or xs j 0 < limit) → get_or (set xs i x) k 0 < limit
small_set xs i x k limit lt small each = ⊎_elim
    (λ (is : k ≡ i). omega (arith, ap (λ n. get_or (set xs i x) n 0) is, get_or-set_same xs i x 0 lt, small))
    (λ ne. omega (arith, get_or-set_other xs i k x 0 ne, each k))
    (cases_eq k i)

-- zeros
zero_at : (n k : ℕ) → ◌≡◌ {A = ℕ} (get_or (replicate n 0) k 0) 0
zero_at zero k = refl
zero_at (suc n) zero = refl
zero_at (suc n) (suc k) = zero_at n k

pub loop-i-init : goal.loop-i-init
loop-i-init g c = record {
  sizes = λ told k lt. absurd (omega (arith, lt));
  small = λ k. omega (arith, zero_at 8 k);
  long = refl;
  seen = λ told. search arith;
  crash = λ told. no_calls g.D.Disk c.args.disk.now (LeftNow g.D.Disk.moment g.D.Disk.left_since c.args.disk.now) (λ i left. left);
  calls = omega arith;
  faults = search arith;
}

pub loop-i-preserved : goal.loop-i-preserved
loop-i-preserved g c =
    let was = c.loop-i.invariant in
    let i = c.loop-i.i in
    let size = c.in_ok-size.size in
    let within : i < length c.loop-i.sizes = omega (arith, was.long, c.loop-i-test.true) in
    record {
      sizes = λ told k lt. ⊎_elim
          (λ (is : k ≡ i). ap (λ n. get_or (set c.loop-i.sizes i size) n 0) is ∙ get_or-set_same c.loop-i.sizes i size 0 within
          ∙ c.in_ok-size.ensures.size told ∙ ap (λ (s : Image). length (s (c.args.layout.now.first + 1 + i))) (was.seen told)
          ∙ ap (λ n. length (g.D.Disk.seen c.args.disk.now (c.args.layout.now.first + 1 + n))) (sym is))
          (λ ne. get_or-set_other c.loop-i.sizes i k size 0 ne ∙ was.sizes told k (omega (arith, lt, ne)))
          (cases_eq k i);
      small = λ k. small_set c.loop-i.sizes i size k SIZE_LIMIT within c.in_ok-size.ensures.small was.small;
      long = length-set c.loop-i.sizes i size ∙ was.long;
      seen = λ told. c.size.ensures.seen told ∙ was.seen told;
      crash = λ told. goes_on g.D.Disk (λ d t u i le left. g.met.D.Disk.earlier d t u i told le left) c.args.disk.now c.loop-i.disk c.size.new.self (LeftNow g.D.Disk.moment g.D.Disk.left_since c.args.disk.now)
          (was.crash told)
          (λ now. stays g.D.Disk c.loop-i.disk c.size.new.self (LeftNow g.D.Disk.moment g.D.Disk.left_since c.args.disk.now) (c.size.ensures.time told) (c.size.ensures.crash told) now);
      calls = omega (arith, c.size.ensures.called, was.calls);
      faults = c.in_ok-size.ensures.cause.uncounted ∙ was.faults;
    }

pub returns-in_err-size-clause-crash : goal.returns-in_err-size-clause-crash
returns-in_err-size-clause-crash g c told =
    goes_on g.D.Disk (λ d t u i le left. g.met.D.Disk.earlier d t u i told le left) c.args.disk.now c.loop-i.disk c.size.new.self (LeftNow g.D.Disk.moment g.D.Disk.left_since c.args.disk.now)
    (c.loop-i.invariant.crash told)
    (λ now. stays g.D.Disk c.loop-i.disk c.size.new.self (LeftNow g.D.Disk.moment g.D.Disk.left_since c.args.disk.now) (c.size.ensures.time told) (c.size.ensures.crash told) now)

pub returns-clause-sizes : goal.returns-clause-sizes
returns-clause-sizes g c told t =
    c.loop-i.invariant.sizes told (index_of t) (omega (arith, index_within t, c.loop-i-test.false))
    ∙ ap (λ f. length (g.D.Disk.seen c.args.disk.now f)) (let e : c.args.layout.now.first + 1 + index_of t ≡ c.args.layout.now.first + (index_of t + 1) = omega arith in e)

pub returns-clause-small : goal.returns-clause-small
returns-clause-small g c t = c.loop-i.invariant.small (index_of t)

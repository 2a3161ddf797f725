use Rattle.std.proofs.Common.{◌≡◌, ◌<◌, ◌+◌, ℕ, length, refl, ap, subst, ◌∙◌, arith}
use Rattle.std.proofs.Math.ListN.{set, length-set}
use Rattle.el_row_formats.proofs.Keys.{index_within}
use Rattle.el_row_formats.specs.Tables.{index_of, size_of, row_at}
use Rattle.el_vec_rows.specs.within.InMemory.{AreWriting}
use Rattle.el_vec_rows.proofs.InMemoryLemmas.{set_row, set_long, write_more}
use Rattle.el_vec_rows.proofs.vec_rows.write_rows.Goals as goal

pub loop-j-init : goal.loop-j-init
loop-j-init c = record {
  tables = refl;
  long = refl;
  sized = c.requires.sized;
  writing = λ base counts changes old k made room sized each so_far. subst (λ (n : ℕ). AreWriting old c.args.kept.now changes n) (let e : k ≡ k + 0 = omega arith in e) so_far;
}

pub loop-j-preserved : goal.loop-j-preserved
loop-j-preserved c =
    let t = c.args.t in
    let j = c.loop-j.j in
    let mid = c.loop-j.kept in
    let new = c.write_one.new.kept in
    let row = row_at (size_of t) c.args.bytes.now j in
    let within : index_of t < length mid = omega (arith, index_within t, c.loop-j.invariant.tables, c.told-kept) in
    let set_is : new ≡ set mid (index_of t) (set_row mid t (c.args.first + j) row) =
    c.write_one.ensures ∙ ap (λ (s : ℕ). set mid (index_of t) (set_row mid t (c.args.first + j) (row_at s c.args.bytes.now j))) c.size-size.ensures in
    let same = set_long mid new t (c.args.first + j) row set_is within in
    record {
      tables = ap length set_is ∙ length-set mid (index_of t) (set_row mid t (c.args.first + j) row) ∙ c.loop-j.invariant.tables;
      long = same.1 ∙ c.loop-j.invariant.long;
      sized = same.0 ∙ c.loop-j.invariant.sized;
      writing = λ base counts changes old k made room sized each so_far.
          subst (λ (n : ℕ). AreWriting old new changes n) (let e : k + j + 1 ≡ k + (j + 1) = omega arith in e)
          (write_more base counts changes old mid new (k + j) t (c.args.first + j) row made room sized (c.loop-j.invariant.writing base counts changes old k made room sized each so_far) (each j c.loop-j-test.true) set_is within);
    }

pub returns : goal.returns
returns c base counts changes old k made room sized each so_far =
    subst (λ (n : ℕ). AreWriting old c.loop-j.kept changes n) (let e : k + c.loop-j.j ≡ k + c.args.rows = omega (arith, c.loop-j-test.false) in e)
    (c.loop-j.invariant.writing base counts changes old k made room sized each so_far)

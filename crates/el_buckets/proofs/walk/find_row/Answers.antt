use Rattle.std.proofs.Common.{◌≡◌, ◌<◌, ◌≤◌, ◌+◌, ◌^◌, ℕ, [], get_or, Option, Some, None, take, ap, sym, ◌∙◌, refl, subst, arith, count_by, eqb-true, ◌==◌}
use Rattle.el_row_formats.specs.Tables.{Tables}
use Rattle.el_rows.specs.Transaction.{with_edits, reads_in}
use Rattle.el_base.specs.declared.hash.Hash32.{Hash32}
use Rattle.el_chain.specs.Chains.{zero_hash}
use Rattle.el_chain.specs.Headers.{same_hash}
use Rattle.el_row_formats.specs.RowBytes.{number_limit, link_number}
use Rattle.el_rows.proofs.TransactionLemmas.{begun, more}
use Rattle.el_tables.specs.Tables.{bucket_in, greatest}
use Rattle.el_schema.specs.Rows.{Hold}
use Rattle.el_buckets.specs.Buckets.{rows_table, hashes_of, count_of, share_bucket}
use Rattle.el_buckets.proofs.Walks.{IsWalk, end_of, walk_begins, walk_on, walk_found, rows_within, rows_on, in_own_bucket, greatest_passes, end_below, number_below}
use Rattle.el_buckets.proofs.walk.find_row.Goals as goal

pub loop-link-init : goal.loop-link-init
loop-link-init g c =
    let k = c.args.buckets in
    let h = c.args.hash.now in
    let same : Hash32 → _ = λ x. same_hash x h in
    record {
      read = begun c.in_ok-head.ensures.read;
      below = c.in_ok-head.ensures.below;
      none = c.in_ok-head.ensures.none;
      fits = c.in_ok-head.ensures.fits;
      sized = c.requires.sized;
      idle = c.head.ensures.idle;
      walk = λ counts bs l told hold some.
          subst (λ (o : Option ℕ). IsWalk same (share_bucket (count_of k counts) h) zero_hash (hashes_of k l) o) (sym (c.in_ok-head.ensures.head counts bs l told hold some))
          (walk_begins same (share_bucket (count_of k counts) h) (in_own_bucket (count_of k counts) h) zero_hash (hashes_of k l));
      rows = λ counts bs l told hold some.
          let test = share_bucket (count_of k counts) h in
          let hs = hashes_of k l in
          let is = c.in_ok-head.ensures.head counts bs l told hold some in
          let few = rows_within same test (in_own_bucket (count_of k counts) h) zero_hash hs (greatest test hs) (greatest_passes test zero_hash hs) in
          let all : count_by test (take (end_of c.in_ok-head.head) hs) ≤ count_by test hs = subst (λ (o : Option ℕ). count_by test (take (end_of o) hs) ≤ count_by test hs) (sym is) few in
          omega (arith, c.head.ensures.rows, all);
    }

pub returns-in_err-found-clause-rows : goal.returns-in_err-found-clause-rows
returns-in_err-found-clause-rows g c counts bs l told hold some =
    let k = c.args.buckets in
    let h = c.args.hash.now in
    let same : Hash32 → _ = λ x. same_hash x h in
    let test = share_bucket (count_of k counts) h in
    let hs = hashes_of k l in
    let walk = subst (λ (o : Option ℕ). IsWalk same test zero_hash hs o) c.in-Some.is (c.loop-link.invariant.walk counts bs l told hold some) in
    let one = rows_on same test (in_own_bucket (count_of k counts) h) zero_hash hs c.in-Some.n None walk (omega arith) in
    let before = subst (λ (o : Option ℕ). (reads_in {G = g.R.Rows} c.loop-link.t) + count_by test (take (end_of o) hs) ≤ (reads_in {G = g.R.Rows} c.args.t.now) + 1 + count_by test hs) c.in-Some.is (c.loop-link.invariant.rows counts bs l told hold some) in
    omega (arith, c.at_row.ensures.rows, one, before)

pub returns-then-eq-clause-rows : goal.returns-then-eq-clause-rows
returns-then-eq-clause-rows g c counts bs l told hold some =
    let k = c.args.buckets in
    let h = c.args.hash.now in
    let same : Hash32 → _ = λ x. same_hash x h in
    let test = share_bucket (count_of k counts) h in
    let hs = hashes_of k l in
    let walk = subst (λ (o : Option ℕ). IsWalk same test zero_hash hs o) c.in-Some.is (c.loop-link.invariant.walk counts bs l told hold some) in
    let one = rows_on same test (in_own_bucket (count_of k counts) h) zero_hash hs c.in-Some.n None walk (omega arith) in
    let before = subst (λ (o : Option ℕ). (reads_in {G = g.R.Rows} c.loop-link.t) + count_by test (take (end_of o) hs) ≤ (reads_in {G = g.R.Rows} c.args.t.now) + 1 + count_by test hs) c.in-Some.is (c.loop-link.invariant.rows counts bs l told hold some) in
    omega (arith, c.at_row.ensures.rows, one, before)

pub returns-then-eq-clause-row : goal.returns-then-eq-clause-row
returns-then-eq-clause-row g c told m is =
    let k = c.args.buckets in
    let shown = with_edits {G = g.R.Rows} c.args.t.now in
    let both : Some c.in-Some.n ≡ Some m = is in
    let same : c.in-Some.n ≡ m = cc in
    c.in_ok-found.ensures.row told ∙ ap (λ (T : Tables). get_or (T (rows_table k)) c.in-Some.n []) c.loop-link.invariant.read.tables
    ∙ ap (λ (i : ℕ). get_or (shown (rows_table k)) i []) same

pub returns-then-eq-clause-none : goal.returns-then-eq-clause-none
returns-then-eq-clause-none g c empty = sym c.in-Some.is ∙ c.loop-link.invariant.none empty

pub returns-then-eq-clause-newest : goal.returns-then-eq-clause-newest
returns-then-eq-clause-newest g c counts bs l told hold some =
    let k = c.args.buckets in
    let h = c.args.hash.now in
    let same : Hash32 → _ = λ x. same_hash x h in
    let test = share_bucket (count_of k counts) h in
    let hs = hashes_of k l in
    let walk = subst (λ (o : Option ℕ). IsWalk same test zero_hash hs o) c.in-Some.is (c.loop-link.invariant.walk counts bs l told hold some) in
    let before = subst (λ T. Hold counts bs l T) (sym c.loop-link.invariant.read.tables) hold in
    walk_found same test (in_own_bucket (count_of k counts) h) zero_hash hs c.in-Some.n walk (ap same (sym (c.in_ok-found.ensures.hash counts bs l told before)) ∙ sym c.if-eq.ensures)

pub loop-link-preserved : goal.loop-link-preserved
loop-link-preserved g c =
    let k = c.args.buckets in
    let h = c.args.hash.now in
    let same : Hash32 → _ = λ x. same_hash x h in
    let n = c.in-Some.n in
    record {
      read = more c.loop-link.invariant.read c.in_ok-found.ensures.read;
      below = λ x is. let less = c.in_ok-found.ensures.below x is in let lt = c.loop-link.invariant.below n c.in-Some.is in omega (arith, less, lt);
      fits = let fit = subst (λ (o : Option ℕ). link_number o < number_limit) c.in-Some.is c.loop-link.invariant.fits in let less = number_below n c.in_ok-found.next c.in_ok-found.ensures.below in omega (arith, fit, less);
      none = λ empty. let both : Some n ≡ None = sym c.in-Some.is ∙ c.loop-link.invariant.none empty in cc;
      sized = c.at_row.ensures.sized;
      idle = λ empty. let both : Some n ≡ None = sym c.in-Some.is ∙ c.loop-link.invariant.none empty in cc;
      walk = λ counts bs l told hold some.
          let test = share_bucket (count_of k counts) h in
          let hs = hashes_of k l in
          let before = subst (λ T. Hold counts bs l T) (sym c.loop-link.invariant.read.tables) hold in
          let walk = subst (λ (o : Option ℕ). IsWalk same test zero_hash hs o) c.in-Some.is (c.loop-link.invariant.walk counts bs l told hold some) in
          let found_is = c.in_ok-found.ensures.hash counts bs l told before in
          let here = eqb-true _ _ (ap test found_is ∙ (walk.here n refl).1) in
          let next_is : c.in_ok-found.next ≡ greatest test (take n hs) =
          c.in_ok-found.ensures.next counts bs l told before ∙ ap (λ (b : ℕ). greatest (λ (x : Hash32). bucket_in (count_of k counts) x == b) (take n hs)) here in
          subst (λ (o : Option ℕ). IsWalk same test zero_hash hs o) (sym next_is)
          (walk_on same test (in_own_bucket (count_of k counts) h) zero_hash hs n walk (ap same (sym found_is) ∙ sym c.if-eq.ensures));
      rows = λ counts bs l told hold some.
          let test = share_bucket (count_of k counts) h in
          let hs = hashes_of k l in
          let walk = subst (λ (o : Option ℕ). IsWalk same test zero_hash hs o) c.in-Some.is (c.loop-link.invariant.walk counts bs l told hold some) in
          let one = rows_on same test (in_own_bucket (count_of k counts) h) zero_hash hs n c.in_ok-found.next walk (end_below n c.in_ok-found.next c.in_ok-found.ensures.below) in
          let so_far = subst (λ (o : Option ℕ). (reads_in {G = g.R.Rows} c.loop-link.t) + count_by test (take (end_of o) hs) ≤ (reads_in {G = g.R.Rows} c.args.t.now) + 1 + count_by test hs) c.in-Some.is (c.loop-link.invariant.rows counts bs l told hold some) in
          omega (arith, c.at_row.ensures.rows, one, so_far);
    }

pub returns-then-eq-clause-fits : goal.returns-then-eq-clause-fits
returns-then-eq-clause-fits g c = subst (λ (o : Option ℕ). link_number o < number_limit) c.in-Some.is c.loop-link.invariant.fits

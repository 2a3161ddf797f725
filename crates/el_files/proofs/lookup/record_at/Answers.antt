use Rattle.std.proofs.Common.{◌≡◌, ℕ, List, ◌+◌, ◌-◌, ◌<◌, length, take, drop, arith, ap, sym, ◌∙◌, rules, true, false, nat_le, IsTrue, Err}
use Rattle.std.proofs.lemmas.Result.{err_from_is_err_and}
use Rattle.el_outside.specs.Seen.{seen, WasSeen}
use Rattle.el_outside.proofs.Traces.{all_grow_none, all_grow_more}
use Rattle.el_outside.proofs.Calls.{has_more, reads_failed, reads_ok}
use Rattle.el_files.specs.declared.limits.TheConstants.{HEAD_SIZE, MIN_RECORD_SIZE}
use Rattle.el_files.proofs.Heading.{read_at}
use Rattle.el_files.proofs.Scans.{seen_now, seen_longer, looked_far, looked_short, looked_read}
use Rattle.el_files.proofs.lookup.record_at.Goals as goal
use Rattle.el_files.proofs.lookup.record_at.Goals.{then-size-lt-MIN_RECORD_SIZE-via-then-size-lt-MIN_RECORD_SIZE, then-size-lt-MIN_RECORD_SIZE-via-else-size-lt-MIN_RECORD_SIZE+then-at-size}

pub returns-then-size-lt-MIN_RECORD_SIZE-clause-record : goal.returns-then-size-lt-MIN_RECORD_SIZE-clause-record
returns-then-size-lt-MIN_RECORD_SIZE-clause-record g c = λ t.
    let a = g.A.Archive in
    let bytes : List ℕ = seen a c.size.new.self c.args.file in
    let sight = seen_now a (a.bytes c.args.archive.now) c.size.new.self c.args.file (c.in_ok-size.ensures.keeps t) in
    let far : c.in_ok-size.size < c.args.at + MIN_RECORD_SIZE = elim c.then-size-lt-MIN_RECORD_SIZE.branch [ then-size-lt-MIN_RECORD_SIZE-via-then-size-lt-MIN_RECORD_SIZE w ↦ omega arith | then-size-lt-MIN_RECORD_SIZE-via-else-size-lt-MIN_RECORD_SIZE+then-at-size w ↦ omega arith ] in
    let size : c.in_ok-size.size ≡ length bytes = c.in_ok-size.ensures.size t in
    record {
      sized = bytes;
      was_sized = sight;
      read = bytes;
      was_read = sight;
      is = looked_far c.args.magic c.args.file c.args.at (length bytes) bytes (omega (arith, far, size));
    }

pub returns-then-not-branch-clause-record : goal.returns-then-not-branch-clause-record
returns-then-not-branch-clause-record g c = λ t.
    let a = g.A.Archive in
    let before = a.bytes c.args.archive.now in
    let sized : List ℕ = seen a c.size.new.self c.args.file in
    let read : List ℕ = seen a c.fill.new.archive c.args.file in
    let grew = c.in_ok-size.ensures.keeps t in
    let grows = c.in_ok-fill.ensures.only_reads.keeps t in
    let wanted : length c.as_mut_slice.result.now ≡ HEAD_SIZE = search rules in
    let full : false ≡ nat_le HEAD_SIZE (length read - c.args.at) =
    sym c.if-not-branch.true ∙ c.in_ok-fill.ensures.full t ∙ ap (λ (n : ℕ). nat_le n (length read - c.args.at)) wanted in
    record {
      sized = sized;
      was_sized = seen_longer a before before (a.bytes c.size.new.self) (a.bytes c.fill.new.archive) c.args.file sized (all_grow_none before) grows (seen_now a before c.size.new.self c.args.file grew);
      read = read;
      was_read = seen_now a before c.fill.new.archive c.args.file (all_grow_more before (a.bytes c.size.new.self) (a.bytes c.fill.new.archive) grew grows);
      is = looked_short c.args.magic c.args.file c.args.at (length sized) read full;
    }

pub returns-clause-record : goal.returns-clause-record
returns-clause-record g c = λ t.
    let a = g.A.Archive in
    let before = a.bytes c.args.archive.now in
    let sized : List ℕ = seen a c.size.new.self c.args.file in
    let read : List ℕ = seen a c.fill.new.archive c.args.file in
    let grew = c.in_ok-size.ensures.keeps t in
    let grows = c.in_ok-fill.ensures.only_reads.keeps t in
    let size : c.in_ok-size.size ≡ length sized = c.in_ok-size.ensures.size t in
    let wanted : length c.as_mut_slice.result.now ≡ HEAD_SIZE = search rules in
    let filled : IsTrue c.in_ok-fill.field-0 = search rules in
    let full : true ≡ nat_le HEAD_SIZE (length read - c.args.at) =
    sym filled ∙ c.in_ok-fill.ensures.full t ∙ ap (λ (n : ℕ). nat_le n (length read - c.args.at)) wanted in
    let head : c.as_slice.result.now ≡ take HEAD_SIZE (drop c.args.at read) =
    c.as_slice.ensures ∙ c.in_ok-fill.ensures.filled t filled ∙ ap (λ (n : ℕ). take n (drop c.args.at read)) wanted in
    record {
      sized = sized;
      was_sized = seen_longer a before before (a.bytes c.size.new.self) (a.bytes c.fill.new.archive) c.args.file sized (all_grow_none before) grows (seen_now a before c.size.new.self c.args.file grew);
      read = read;
      was_read = seen_now a before c.fill.new.archive c.args.file (all_grow_more before (a.bytes c.size.new.self) (a.bytes c.fill.new.archive) grew grows);
      is = rw (← size) (looked_read c.args.magic c.args.file c.args.at c.in_ok-size.size c.as_slice.result.now read c.node_in.result full head c.node_in.ensures.is);
    }

pub returns-in_err-fill-clause-only_reads : goal.returns-in_err-fill-clause-only_reads
returns-in_err-fill-clause-only_reads g c =
    let p = err_from_is_err_and c.from_residual-in_err-fill.result c.from_residual-in_err-fill.ensures.1 in
    reads_failed (record { keeps = c.in_ok-size.ensures.keeps; same = c.in_ok-size.ensures.cause.uncounted }) c.in_err-fill.ensures.only_reads (p.1 ∙ ap Err p.2)

pub returns-then-not-branch-clause-only_reads : goal.returns-then-not-branch-clause-only_reads
returns-then-not-branch-clause-only_reads g c =
    reads_ok (has_more (record { keeps = c.in_ok-size.ensures.keeps; same = c.in_ok-size.ensures.cause.uncounted }) c.in_ok-fill.ensures.only_reads)

pub returns-clause-only_reads : goal.returns-clause-only_reads
returns-clause-only_reads g c =
    reads_ok (has_more (record { keeps = c.in_ok-size.ensures.keeps; same = c.in_ok-size.ensures.cause.uncounted }) c.in_ok-fill.ensures.only_reads)

pub returns-clause-node : goal.returns-clause-node
returns-clause-node g c =
    let full : IsTrue c.in_ok-fill.field-0 = search rules in
    let sized : length c.as_slice.result.now ≡ HEAD_SIZE = search rules in
    read_at g.A.Archive.gave c.args.magic c.as_slice.result.now c.fill.new.buffer c.args.file c.args.at (c.in_ok-size.size - c.args.at) c.node_in.result
    (c.in_ok-fill.ensures.given full) c.as_slice.ensures (omega arith) c.node_in.ensures.is c.node_in.ensures.node

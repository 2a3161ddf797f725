use Rattle.std.proofs.Common.{◌≡◌, ℕ, List, ◌+◌, length, arith, refl, sym, ap, ◌∙◌, Err}
use Rattle.std.proofs.lemmas.Result.{err_from_is_err_and}
use Rattle.el_outside.specs.Seen.{seen, WasSeen}
use Rattle.el_outside.proofs.Traces.{all_grow_none, all_grow_more}
use Rattle.el_outside.proofs.Calls.{has_more, has_none, has_then, reads_failed, reads_ok}
use Rattle.el_files.specs.Scanning.{IsFoundIn}
use Rattle.el_files.proofs.Appends.{only_none, only_joined, on_err}
use Rattle.el_files.proofs.Scans.{scan_begins, scan_piece_more, scan_goes, scan_ends, scanned_all, scanned_to, scanned_nothing, seen_now, seen_longer}
use Rattle.el_files.proofs.Counted.{pieces_read, size_asked}
use Rattle.el_files.proofs.scanning.scan_through.Goals as goal

pub returns-in_err-size-clause-front : goal.returns-in_err-size-clause-front
returns-in_err-size-clause-front g c = λ t.
    on_err _ _ (scanned_nothing g.A.Archive (g.A.Archive.bytes c.args.archive.now) c.size.new.self c.args.magic c.args.file c.args.found.now.items (c.in_err-size.ensures.keeps t))

pub loop-at-init : goal.loop-at-init
loop-at-init g c = record {
  walked = λ t. scan_begins _ c.args.magic c.args.file c.in_ok-size.size c.args.found.now.items;
  nodes = only_none _ _;
  reads = has_none _ _ _;
  within = omega arith;
  going = λ more. omega arith;
  calls = omega arith;
}

pub returns-in_err-at-clause-front : goal.returns-in_err-at-clause-front
returns-in_err-at-clause-front g c = λ t.
    let a = g.A.Archive in
    let told = a.bytes c.size.new.self in
    let was = a.bytes c.loop-at.archive in
    let now = a.bytes c.scan_piece.new.archive in
    let file = c.args.file in
    let grew = c.loop-at.invariant.reads.keeps t in
    let grows = c.in_err-at.ensures.only_reads.keeps t in
    let all = all_grow_more told was now grew grows in
    let w = c.in_err-at.ensures.walked t in
    on_err _ _ (scanned_to a (a.bytes c.args.archive.now) c.size.new.self c.scan_piece.new.archive c.args.magic file c.in_ok-size.size (c.loop-at.at + w.0) c.args.found.now.items c.scan_piece.new.found.items
    (record { grew = c.in_ok-size.ensures.keeps t; grows = all }) (c.in_ok-size.ensures.size t)
    (scan_piece_more (WasSeen a told was file) (WasSeen a told now file) c.args.magic file c.in_ok-size.size c.loop-at.at w.0 (seen a c.scan_piece.new.archive file)
    c.args.found.now.items c.loop-at.found.items c.scan_piece.new.found.items (c.loop-at.invariant.walked t) c.loop-at-test.true
    (λ bytes sight. seen_longer a told told was now file bytes (all_grow_none told) grows sight) (seen_now a told c.scan_piece.new.archive file all) w.1))

pub loop-at-preserved : goal.loop-at-preserved
loop-at-preserved g c = record {
  walked = λ t.
      let a = g.A.Archive in
      let told = a.bytes c.size.new.self in
      let was = a.bytes c.loop-at.archive in
      let now = a.bytes c.scan_piece.new.archive in
      let file = c.args.file in
      let grew = c.loop-at.invariant.reads.keeps t in
      let grows = c.in_ok-at.ensures.only_reads.keeps t in
      let all = all_grow_more told was now grew grows in
      let w = c.in_ok-at.ensures.walked t in
      scan_goes (WasSeen a told was file) (WasSeen a told now file) c.args.magic file c.in_ok-size.size c.loop-at.at c.in_ok-at.at w.0 (seen a c.scan_piece.new.archive file)
      c.args.found.now.items c.loop-at.found.items c.scan_piece.new.found.items (c.loop-at.invariant.walked t) c.loop-at-test.true
      (λ bytes sight. seen_longer a told told was now file bytes (all_grow_none told) grows sight) (seen_now a told c.scan_piece.new.archive file all) w.1 w.2;
  nodes = only_joined (IsFoundIn g.A.Archive.gave c.args.magic c.args.file) c.args.found.now.items c.loop-at.found.items c.scan_piece.new.found.items c.loop-at.invariant.nodes c.in_ok-at.ensures.nodes;
  reads = has_more c.loop-at.invariant.reads c.in_ok-at.ensures.only_reads;
  within = omega (arith, c.in_ok-at.ensures.goes);
  going = λ more. let far = c.in_ok-at.ensures.far more in omega (arith, far, c.loop-at.invariant.going c.loop-at-test.true, c.scan_piece.ensures.called);
  calls = omega (arith, c.loop-at.invariant.going c.loop-at-test.true, c.scan_piece.ensures.called, c.loop-at-test.true);
}

pub returns-clause-records : goal.returns-clause-records
returns-clause-records g c = λ t.
    let a = g.A.Archive in
    scanned_all a (a.bytes c.args.archive.now) c.size.new.self c.loop-at.archive c.args.magic c.args.file c.in_ok-size.size c.args.found.now.items c.loop-at.found.items
    (record { grew = c.in_ok-size.ensures.keeps t; grows = c.loop-at.invariant.reads.keeps t }) (c.in_ok-size.ensures.size t)
    (scan_ends (WasSeen a (a.bytes c.size.new.self) (a.bytes c.loop-at.archive) c.args.file) c.args.magic c.args.file c.in_ok-size.size c.loop-at.at c.args.found.now.items c.loop-at.found.items
    (c.loop-at.invariant.walked t) (omega arith))

pub returns-in_err-at-clause-only_reads : goal.returns-in_err-at-clause-only_reads
returns-in_err-at-clause-only_reads g c =
    let p = err_from_is_err_and c.from_residual-in_err-at.result c.from_residual-in_err-at.ensures.1 in
    reads_failed (has_then (record { keeps = c.in_ok-size.ensures.keeps; same = c.in_ok-size.ensures.cause.uncounted }) c.loop-at.invariant.reads)
    c.in_err-at.ensures.only_reads (p.1 ∙ ap Err p.2)

pub returns-clause-only_reads : goal.returns-clause-only_reads
returns-clause-only_reads g c =
    reads_ok (has_then (record { keeps = c.in_ok-size.ensures.keeps; same = c.in_ok-size.ensures.cause.uncounted }) c.loop-at.invariant.reads)

pub returns-in_err-size-clause-calls : goal.returns-in_err-size-clause-calls
returns-in_err-size-clause-calls g c = λ t.
    let a = g.A.Archive in
    let bytes : List ℕ = seen a c.size.new.self c.args.file in (
      bytes,
      seen_now a (a.bytes c.args.archive.now) c.size.new.self c.args.file (c.in_err-size.ensures.keeps t),
      size_asked (a.calls c.args.archive.now) (a.calls c.size.new.self) (length bytes) c.size.ensures.called,
    )

pub returns-in_err-at-clause-calls : goal.returns-in_err-at-clause-calls
returns-in_err-at-clause-calls g c = λ t.
    let a = g.A.Archive in
    let bytes : List ℕ = seen a c.size.new.self c.args.file in
    let size : c.in_ok-size.size ≡ length bytes = c.in_ok-size.ensures.size t in
    let before = a.bytes c.args.archive.now in
    let told = a.bytes c.size.new.self in
    let all = all_grow_more told (a.bytes c.loop-at.archive) (a.bytes c.scan_piece.new.archive) (c.loop-at.invariant.reads.keeps t) (c.in_err-at.ensures.only_reads.keeps t) in (
      bytes,
      seen_longer a before before told (a.bytes c.scan_piece.new.archive) c.args.file bytes (all_grow_none before) all (seen_now a before c.size.new.self c.args.file (c.in_ok-size.ensures.keeps t)),
      rw (← size) (pieces_read (a.calls c.args.archive.now) (a.calls c.scan_piece.new.archive) c.in_ok-size.size
          (omega (arith, c.loop-at.invariant.going c.loop-at-test.true, c.loop-at-test.true, c.scan_piece.ensures.called, c.size.ensures.called))),
    )

pub returns-clause-calls : goal.returns-clause-calls
returns-clause-calls g c = λ t.
    let a = g.A.Archive in
    let bytes : List ℕ = seen a c.size.new.self c.args.file in
    let size : c.in_ok-size.size ≡ length bytes = c.in_ok-size.ensures.size t in
    let before = a.bytes c.args.archive.now in
    let told = a.bytes c.size.new.self in (
      bytes,
      seen_longer a before before told (a.bytes c.loop-at.archive) c.args.file bytes (all_grow_none before) (c.loop-at.invariant.reads.keeps t) (seen_now a before c.size.new.self c.args.file (c.in_ok-size.ensures.keeps t)),
      rw (← size) (pieces_read (a.calls c.args.archive.now) (a.calls c.loop-at.archive) c.in_ok-size.size (omega (arith, c.loop-at.invariant.calls, c.size.ensures.called))),
    )

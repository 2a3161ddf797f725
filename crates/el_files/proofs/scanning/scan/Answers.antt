use Rattle.std.proofs.Common.{◌≡◌, ◌≤◌, arith, rules, inr, ◌∙◌, ap, ◌++◌, ℕ, Err}
use Rattle.std.proofs.lemmas.Result.{err_from_is_err_and}
use Rattle.el_outside.proofs.Calls.{has_more, reads_failed}
use Rattle.el_chain.specs.declared.node.Node.{Node}
use Rattle.el_outside.specs.declared.archive.TheConstants.{MOST_FILES}
use Rattle.el_files.specs.Scanning.{IsFoundIn, IsFoundBelow}
use Rattle.el_files.specs.declared.limits.TheConstants.{PIECE_SIZE}
use Rattle.el_files.proofs.Appends.{only_none, only_joined, only_weaker, on_err}
use Rattle.el_files.proofs.ManyFiles.{files_begin, files_more, files_all, files_front, called_none, called_more, called_all, found_below}
use Rattle.el_files.proofs.Scans.{buffer_kept}
use Rattle.el_files.proofs.scanning.scan.Goals as goal

pub loop-file-init : goal.loop-file-init
loop-file-init g c = record {
  scanned = λ t.
      files_begin g.A.Archive c.args.magic _ _ c.in_ok-count.count c.args.found.now.items (c.in_ok-count.ensures.keeps t)
      (c.in_ok-count.ensures.number t) (λ file more. g.A.Archive.none_after _ file t more);
  nodes = only_none _ _;
  reads = record { keeps = c.in_ok-count.ensures.keeps; same = c.in_ok-count.ensures.cause.uncounted };
  calls = λ t. called_none g.A.Archive _ _ c.files.ensures.called;
  long = c.in_ok-buffer.ensures;
}

pub returns-in_err-scan_through-clause-front : goal.returns-in_err-scan_through-clause-front
returns-in_err-scan_through-clause-front g c = λ t.
    let front = c.in_err-scan_through.ensures.front t in
    on_err _ _ (inr (files_front g.A.Archive c.args.magic _ _ _
    c.in_ok-count.count c.loop-file.file c.args.found.now.items c.loop-file.found.items c.scan_through.new.found.items front.0 (c.loop-file.invariant.scanned t)
    c.loop-file-test.true (c.in_err-scan_through.ensures.only_reads.keeps t) front.1 front.2))

pub returns-in_err-scan_through-clause-nodes : goal.returns-in_err-scan_through-clause-nodes
returns-in_err-scan_through-clause-nodes g c =
    let few : c.in_ok-count.count ≤ MOST_FILES = c.in_ok-count.ensures.few in
    only_joined (IsFoundBelow g.A.Archive.gave c.args.magic MOST_FILES) c.args.found.now.items c.loop-file.found.items c.scan_through.new.found.items c.loop-file.invariant.nodes
    (only_weaker (IsFoundIn g.A.Archive.gave c.args.magic c.loop-file.file) (IsFoundBelow g.A.Archive.gave c.args.magic MOST_FILES) c.loop-file.found.items c.scan_through.new.found.items
    (λ (n : Node) h. found_below g.A.Archive.gave c.args.magic c.loop-file.file c.in_ok-count.count n c.loop-file-test.true few h) c.in_err-scan_through.ensures.nodes)

pub returns-in_err-scan_through-clause-only_reads : goal.returns-in_err-scan_through-clause-only_reads
returns-in_err-scan_through-clause-only_reads g c =
    let p = err_from_is_err_and c.from_residual-in_err-scan_through.result c.from_residual-in_err-scan_through.ensures.1 in
    reads_failed c.loop-file.invariant.reads c.in_err-scan_through.ensures.only_reads (p.1 ∙ ap Err p.2)

pub loop-file-preserved : goal.loop-file-preserved
loop-file-preserved g c =
    let few : c.in_ok-count.count ≤ MOST_FILES = c.in_ok-count.ensures.few in
    record {
      scanned = λ t.
          let all = c.in_ok-scan_through.ensures.records t in
          files_more g.A.Archive c.args.magic _ _ _
          c.in_ok-count.count c.loop-file.file c.args.found.now.items c.loop-file.found.items c.scan_through.new.found.items all.0 (c.loop-file.invariant.scanned t)
          c.loop-file-test.true (c.in_ok-scan_through.ensures.only_reads.keeps t) all.1 all.2;
      nodes = only_joined (IsFoundBelow g.A.Archive.gave c.args.magic MOST_FILES) c.args.found.now.items c.loop-file.found.items c.scan_through.new.found.items c.loop-file.invariant.nodes
          (only_weaker (IsFoundIn g.A.Archive.gave c.args.magic c.loop-file.file) (IsFoundBelow g.A.Archive.gave c.args.magic MOST_FILES) c.loop-file.found.items c.scan_through.new.found.items
          (λ (n : Node) h. found_below g.A.Archive.gave c.args.magic c.loop-file.file c.in_ok-count.count n c.loop-file-test.true few h) c.in_ok-scan_through.ensures.nodes);
      reads = has_more c.loop-file.invariant.reads c.in_ok-scan_through.ensures.only_reads;
      calls = λ t. called_more g.A.Archive c.args.archive.now c.loop-file.archive c.scan_through.new.archive c.loop-file.file
          (c.loop-file.invariant.reads.keeps t) (c.in_ok-scan_through.ensures.only_reads.keeps t) (c.loop-file.invariant.calls t) (c.scan_through.ensures.calls t);
      long = buffer_kept c.loop-file.buffer.len PIECE_SIZE c.scan_through.new.buffer c.loop-file.buffer.items (search rules) c.loop-file.invariant.long (search rules);
    }

pub returns-clause-records : goal.returns-clause-records
returns-clause-records g c = λ t.
    let s = c.loop-file.invariant.scanned t in
    let few = s.files.few in
    let counted = s.counted in
    files_all g.A.Archive c.args.magic _ _ c.in_ok-count.count c.loop-file.file c.args.found.now.items c.loop-file.found.items s (omega (arith, few, counted))

pub returns-clause-calls : goal.returns-clause-calls
returns-clause-calls g c = λ t.
    let s = c.loop-file.invariant.scanned t in
    let few = s.files.few in
    let counted = s.counted in
    called_all g.A.Archive c.args.magic _ _ c.in_ok-count.count c.loop-file.file c.args.found.now.items c.loop-file.found.items s (omega (arith, few, counted)) (c.loop-file.invariant.calls t)

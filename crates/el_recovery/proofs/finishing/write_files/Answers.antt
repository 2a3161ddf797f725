use Rattle.std.proofs.Common.{◌≡◌, ◌≢◌, ◌⊎◌, inl, inr, ⊎_elim, ◌≤◌, ◌<◌, ◌+◌, ℕ, refl, ap, sym, subst, ◌∙◌, arith}
use Rattle.el_outside.specs.Disk.{Image}
use Rattle.el_pages.specs.Layouts.{redo_of}
use Rattle.el_recovery.proofs.Finishes.{record_left, room_there, record_written, body_run, meta_run, sync_run}
use Rattle.el_recovery.proofs.finishing.write_files.Goals as goal

pub write_body-requires : goal.write_body-requires
write_body-requires g c = record {
  few = c.requires.few;
  narrow = c.requires.narrow;
  low = c.requires.low;
  has = λ told.
      let has = c.requires.has told in
      let rec = has.3 in
      (rec.spelled.changes, has.1, record_left c.args.layout.now (g.D.Disk.seen c.args.disk.now) c.args.len has.0 has.1 has.2 rec);
}

pub returns-in_err-write_body-clause-crash : goal.returns-in_err-write_body-clause-crash
returns-in_err-write_body-clause-crash g c told body stale ws files file rec each =
    let l = c.args.layout.now in
    let old = c.args.disk.now in
    let mid = c.write_body.new.disk in
    let changes = rec.spelled.changes in
    let meta = rec.spelled.meta in
    body_run g.D.Disk (λ d t u i le left. g.met.D.Disk.earlier d t u i told le left) l old c.args.len body stale ws rec files file mid (c.write_body.ensures.crash told changes stale files meta file) each

pub returns-then-not-branch-clause-crash : goal.returns-then-not-branch-clause-crash
returns-then-not-branch-clause-crash g c told body stale ws files file rec each =
    let l = c.args.layout.now in
    let old = c.args.disk.now in
    let mid = c.write_body.new.disk in
    let changes = rec.spelled.changes in
    let meta = rec.spelled.meta in
    body_run g.D.Disk (λ d t u i le left. g.met.D.Disk.earlier d t u i told le left) l old c.args.len body stale ws rec files file mid (c.write_body.ensures.crash told changes stale files meta file) each

pub returns-in_err-write_meta-clause-crash : goal.returns-in_err-write_meta-clause-crash
returns-in_err-write_meta-clause-crash g c told body stale ws files file rec each =
    let l = c.args.layout.now in
    let old = c.args.disk.now in
    let mid = c.write_body.new.disk in
    let changes = rec.spelled.changes in
    let meta = rec.spelled.meta in
    let first = body_run g.D.Disk (λ d t u i le left. g.met.D.Disk.earlier d t u i told le left) l old c.args.len body stale ws rec files file mid (c.write_body.ensures.crash told changes stale files meta file) each in
    let after = (c.in_ok-write_body.ensures.written told changes stale (record_left l (g.D.Disk.seen old) c.args.len body stale ws rec)).1 in
    let second = meta_run g.D.Disk (λ d t u i le left. g.met.D.Disk.earlier d t u i told le left) l old c.args.len body stale ws rec files file mid first c.write_meta.new.disk after (c.write_meta.ensures.crash told meta changes files file) in
    second

pub returns-then-not-branch-2-clause-crash : goal.returns-then-not-branch-2-clause-crash
returns-then-not-branch-2-clause-crash g c told body stale ws files file rec each =
    let l = c.args.layout.now in
    let old = c.args.disk.now in
    let mid = c.write_body.new.disk in
    let changes = rec.spelled.changes in
    let meta = rec.spelled.meta in
    let first = body_run g.D.Disk (λ d t u i le left. g.met.D.Disk.earlier d t u i told le left) l old c.args.len body stale ws rec files file mid (c.write_body.ensures.crash told changes stale files meta file) each in
    let after = (c.in_ok-write_body.ensures.written told changes stale (record_left l (g.D.Disk.seen old) c.args.len body stale ws rec)).1 in
    let second = meta_run g.D.Disk (λ d t u i le left. g.met.D.Disk.earlier d t u i told le left) l old c.args.len body stale ws rec files file mid first c.write_meta.new.disk after (c.write_meta.ensures.crash told meta changes files file) in
    second

pub returns-in_err-sync_files-clause-crash : goal.returns-in_err-sync_files-clause-crash
returns-in_err-sync_files-clause-crash g c told body stale ws files file rec each =
    let l = c.args.layout.now in
    let old = c.args.disk.now in
    let mid = c.write_body.new.disk in
    let changes = rec.spelled.changes in
    let meta = rec.spelled.meta in
    let first = body_run g.D.Disk (λ d t u i le left. g.met.D.Disk.earlier d t u i told le left) l old c.args.len body stale ws rec files file mid (c.write_body.ensures.crash told changes stale files meta file) each in
    let after = (c.in_ok-write_body.ensures.written told changes stale (record_left l (g.D.Disk.seen old) c.args.len body stale ws rec)).1 in
    let second = meta_run g.D.Disk (λ d t u i le left. g.met.D.Disk.earlier d t u i told le left) l old c.args.len body stale ws rec files file mid first c.write_meta.new.disk after (c.write_meta.ensures.crash told meta changes files file) in
    sync_run g.D.Disk (λ d t u i le left. g.met.D.Disk.earlier d t u i told le left) l old c.args.len body stale ws rec files file c.write_meta.new.disk second c.sync_files.new.disk (c.sync_files.ensures.crash told)

pub returns-clause-crash : goal.returns-clause-crash
returns-clause-crash g c told body stale ws files file rec each =
    let l = c.args.layout.now in
    let old = c.args.disk.now in
    let mid = c.write_body.new.disk in
    let changes = rec.spelled.changes in
    let meta = rec.spelled.meta in
    let first = body_run g.D.Disk (λ d t u i le left. g.met.D.Disk.earlier d t u i told le left) l old c.args.len body stale ws rec files file mid (c.write_body.ensures.crash told changes stale files meta file) each in
    let after = (c.in_ok-write_body.ensures.written told changes stale (record_left l (g.D.Disk.seen old) c.args.len body stale ws rec)).1 in
    let second = meta_run g.D.Disk (λ d t u i le left. g.met.D.Disk.earlier d t u i told le left) l old c.args.len body stale ws rec files file mid first c.write_meta.new.disk after (c.write_meta.ensures.crash told meta changes files file) in
    sync_run g.D.Disk (λ d t u i le left. g.met.D.Disk.earlier d t u i told le left) l old c.args.len body stale ws rec files file c.write_meta.new.disk second c.sync_files.new.disk (c.sync_files.ensures.crash told)

pub returns-then-not-branch-clause-written : goal.returns-then-not-branch-clause-written
returns-then-not-branch-clause-written g c told body stale ws rec =
    let is_true = (c.in_ok-write_body.ensures.written told rec.spelled.changes stale (record_left c.args.layout.now (g.D.Disk.seen c.args.disk.now) c.args.len body stale ws rec)).0 in
    let is_false = c.if-not-branch.true in
    absurd (cc (is_true, is_false))

pub returns-then-not-branch-2-clause-written : goal.returns-then-not-branch-2-clause-written
returns-then-not-branch-2-clause-written g c told body stale ws rec =
    let l = c.args.layout.now in
    let old = c.args.disk.now in
    let after = (c.in_ok-write_body.ensures.written told rec.spelled.changes stale (record_left l (g.D.Disk.seen old) c.args.len body stale ws rec)).1 in
    let is_true = (c.in_ok-write_meta.ensures.written told (room_there l (g.D.Disk.seen old) c.args.len body stale ws rec (g.D.Disk.seen c.write_body.new.disk) after)).0 in
    let is_false = c.if-not-branch-2.true in
    absurd (cc (is_true, is_false))

pub returns-clause-written : goal.returns-clause-written
returns-clause-written g c told body stale ws rec =
    let l = c.args.layout.now in
    let old = c.args.disk.now in
    let seen = g.D.Disk.seen old in
    let mid = g.D.Disk.seen c.write_body.new.disk in
    let after = (c.in_ok-write_body.ensures.written told rec.spelled.changes stale (record_left l (g.D.Disk.seen old) c.args.len body stale ws rec)).1 in
    let here = (c.in_ok-write_meta.ensures.written told (room_there l seen c.args.len body stale ws rec mid after)).1 in (
      refl,
      λ f. ap (λ (s : Image). s f) (c.in_ok-sync_files.ensures.seen told)
          ∙ record_written l seen c.args.len body stale ws rec mid after (g.D.Disk.seen c.write_meta.new.disk) here (c.write_meta.ensures.others told) f,
    )

pub returns-clause-durable : goal.returns-clause-durable
returns-clause-durable g c told is_true f low lt =
    c.in_ok-sync_files.ensures.durable told f (subst (λ x. x ≤ f) (sym c.span-span.ensures.first) low) (subst (λ x. f < x) (sym c.span-span.ensures.redo) lt)

-- ---- the files beyond the span, and calls

apart : (first f : ℕ) → (f < first) ⊎ (first + 9 ≤ f) → f ≢ first
apart first f out is = ⊎_elim (λ lt. omega (arith, is, lt)) (λ le. omega (arith, is, le)) out

out_of : (first redo a b f : ℕ) → a ≡ first → b ≡ redo → (f < first) ⊎ (redo ≤ f) → (f < a) ⊎ (b ≤ f)
out_of first redo a b f low high out = ⊎_elim (λ lt. inl (omega (arith, low, lt))) (λ le. inr (omega (arith, high, le))) out

pub returns-in_err-write_body-clause-beside : goal.returns-in_err-write_body-clause-beside
returns-in_err-write_body-clause-beside g c told f out = c.write_body.ensures.beside told f out

pub returns-then-not-branch-clause-beside : goal.returns-then-not-branch-clause-beside
returns-then-not-branch-clause-beside g c told f out = c.write_body.ensures.beside told f out

pub returns-in_err-write_meta-clause-beside : goal.returns-in_err-write_meta-clause-beside
returns-in_err-write_meta-clause-beside g c told f out = c.write_meta.ensures.others told f (apart c.args.layout.now.first f out) ∙ c.write_body.ensures.beside told f out

pub returns-then-not-branch-2-clause-beside : goal.returns-then-not-branch-2-clause-beside
returns-then-not-branch-2-clause-beside g c told f out = c.write_meta.ensures.others told f (apart c.args.layout.now.first f out) ∙ c.write_body.ensures.beside told f out

pub returns-in_err-sync_files-clause-beside : goal.returns-in_err-sync_files-clause-beside
returns-in_err-sync_files-clause-beside g c told f out =
    c.sync_files.ensures.beside told f (out_of c.args.layout.now.first (redo_of c.args.layout.now) c.span-span.result.first c.span-span.result.redo f c.span-span.ensures.first c.span-span.ensures.redo out)
    ∙ c.write_meta.ensures.others told f (apart c.args.layout.now.first f out) ∙ c.write_body.ensures.beside told f out

pub returns-clause-beside : goal.returns-clause-beside
returns-clause-beside g c told f out =
    c.sync_files.ensures.beside told f (out_of c.args.layout.now.first (redo_of c.args.layout.now) c.span-span.result.first c.span-span.result.redo f c.span-span.ensures.first c.span-span.ensures.redo out)
    ∙ c.write_meta.ensures.others told f (apart c.args.layout.now.first f out) ∙ c.write_body.ensures.beside told f out

pub returns-in_err-write_body-clause-calls : goal.returns-in_err-write_body-clause-calls
returns-in_err-write_body-clause-calls g c = omega (arith, c.write_body.ensures.calls (omega (arith, c.requires.room)))

pub returns-then-not-branch-clause-calls : goal.returns-then-not-branch-clause-calls
returns-then-not-branch-clause-calls g c = omega (arith, c.write_body.ensures.calls (omega (arith, c.requires.room)))

pub returns-in_err-write_meta-clause-calls : goal.returns-in_err-write_meta-clause-calls
returns-in_err-write_meta-clause-calls g c = omega (arith, c.write_body.ensures.calls (omega (arith, c.requires.room)), c.write_meta.ensures.calls)

pub returns-then-not-branch-2-clause-calls : goal.returns-then-not-branch-2-clause-calls
returns-then-not-branch-2-clause-calls g c = omega (arith, c.write_body.ensures.calls (omega (arith, c.requires.room)), c.write_meta.ensures.calls)

pub returns-in_err-sync_files-clause-calls : goal.returns-in_err-sync_files-clause-calls
returns-in_err-sync_files-clause-calls g c =
    omega (arith, c.write_body.ensures.calls (omega (arith, c.requires.room)), c.write_meta.ensures.calls, c.sync_files.ensures.calls, c.span-span.ensures.first, c.span-span.ensures.redo)

pub returns-clause-calls : goal.returns-clause-calls
returns-clause-calls g c =
    omega (arith, c.write_body.ensures.calls (omega (arith, c.requires.room)), c.write_meta.ensures.calls, c.sync_files.ensures.calls, c.span-span.ensures.first, c.span-span.ensures.redo)

use Rattle.std.proofs.Common.{◌≡◌, ◌≢◌, ◌⊎◌, inl, inr, ⊎_elim, ◌≤◌, ◌<◌, ◌+◌, ◌++◌, ◌∷◌, [], ℕ, refl, sym, subst, ◌∙◌, arith}
use Rattle.el_outside.specs.Disk.{over, OnDisk}
use Rattle.el_outside.specs.Moments.{LeftNow}
use Rattle.el_redone.specs.Redone.{record_bytes}
use Rattle.el_pages.specs.Layouts.{redo_of}
use Rattle.el_recovery.proofs.Redoes.{gate_at, redone, written_alike, closed_alike, closed_files, closed_rest}
use Rattle.el_recovery.proofs.finishing.redo.Goals as goal

pub returns-in_err-write_files-clause-crash : goal.returns-in_err-write_files-clause-crash
returns-in_err-write_files-clause-crash g c told body stale ws rec on_disk redo_disk root_disk =
    let l = c.args.layout.now in
    let old = c.args.disk.now in
    written_alike g.D.Disk (λ d t u i le left. g.met.D.Disk.earlier d t u i told le left) l old c.args.len body stale ws rec on_disk redo_disk root_disk (g.met.D.Disk.small old (redo_of l) told)
    c.write_files.new.disk (c.write_files.ensures.crash told body stale ws (redone ws (g.D.Disk.seen old)) (1 ∷ (record_bytes body ++ stale)) rec)

pub returns-then-not-branch-clause-crash : goal.returns-then-not-branch-clause-crash
returns-then-not-branch-clause-crash g c told body stale ws rec on_disk redo_disk root_disk =
    let l = c.args.layout.now in
    let old = c.args.disk.now in
    written_alike g.D.Disk (λ d t u i le left. g.met.D.Disk.earlier d t u i told le left) l old c.args.len body stale ws rec on_disk redo_disk root_disk (g.met.D.Disk.small old (redo_of l) told)
    c.write_files.new.disk (c.write_files.ensures.crash told body stale ws (redone ws (g.D.Disk.seen old)) (1 ∷ (record_bytes body ++ stale)) rec)

pub returns-in_err-set_gate-clause-crash : goal.returns-in_err-set_gate-clause-crash
returns-in_err-set_gate-clause-crash g c told body stale ws rec on_disk redo_disk root_disk =
    let l = c.args.layout.now in
    let old = c.args.disk.now in
    let files = redone ws (g.D.Disk.seen old) in
    let tail = record_bytes body ++ stale in
    let written = c.in_ok-write_files.ensures.written told body stale ws rec in
    let close = gate_at g.D.Disk l c.span-span.result.first c.span-span.result.redo files tail c.write_files.new.disk c.set_gate.new.disk c.span-span.ensures.first c.span-span.ensures.redo (c.set_gate.ensures.crash told files tail) in
    closed_alike g.D.Disk (λ d t u i le left. g.met.D.Disk.earlier d t u i told le left) l old c.args.len body stale ws rec on_disk redo_disk root_disk (g.met.D.Disk.small old (redo_of l) told)
    c.write_files.new.disk (c.write_files.ensures.crash told body stale ws files (1 ∷ tail) rec) (c.in_ok-write_files.ensures.durable told written.0) written.1 c.set_gate.new.disk close

pub returns-clause-crash : goal.returns-clause-crash
returns-clause-crash g c told body stale ws rec on_disk redo_disk root_disk =
    let l = c.args.layout.now in
    let old = c.args.disk.now in
    let files = redone ws (g.D.Disk.seen old) in
    let tail = record_bytes body ++ stale in
    let written = c.in_ok-write_files.ensures.written told body stale ws rec in
    let close = gate_at g.D.Disk l c.span-span.result.first c.span-span.result.redo files tail c.write_files.new.disk c.set_gate.new.disk c.span-span.ensures.first c.span-span.ensures.redo (c.set_gate.ensures.crash told files tail) in
    closed_alike g.D.Disk (λ d t u i le left. g.met.D.Disk.earlier d t u i told le left) l old c.args.len body stale ws rec on_disk redo_disk root_disk (g.met.D.Disk.small old (redo_of l) told)
    c.write_files.new.disk (c.write_files.ensures.crash told body stale ws files (1 ∷ tail) rec) (c.in_ok-write_files.ensures.durable told written.0) written.1 c.set_gate.new.disk close

pub returns-then-not-branch-clause-at_rest : goal.returns-then-not-branch-clause-at_rest
returns-then-not-branch-clause-at_rest g c told body stale ws rec on_disk redo_disk root_disk =
    let is_true = (c.in_ok-write_files.ensures.written told body stale ws rec).0 in
    let is_false = c.if-not-branch.true in
    absurd (cc (is_true, is_false))

pub returns-clause-at_rest : goal.returns-clause-at_rest
returns-clause-at_rest g c told body stale ws rec on_disk redo_disk root_disk =
    let l = c.args.layout.now in
    let old = c.args.disk.now in
    let files = redone ws (g.D.Disk.seen old) in
    let tail = record_bytes body ++ stale in
    let written = c.in_ok-write_files.ensures.written told body stale ws rec in
    let close = gate_at g.D.Disk l c.span-span.result.first c.span-span.result.redo files tail c.write_files.new.disk c.set_gate.new.disk c.span-span.ensures.first c.span-span.ensures.redo (c.set_gate.ensures.crash told files tail) in
    let mid = c.write_files.new.disk in
    let new = c.set_gate.new.disk in
    let at = c.span-span.ensures.redo in
    let write = c.write_files.ensures.crash told body stale ws files (1 ∷ tail) rec in
    let durable = c.in_ok-write_files.ensures.durable told written.0 in
    let reads = g.met.D.Disk.reads_an_image mid told in
    let shut = subst (λ x. g.D.Disk.seen new x ≡ over (g.D.Disk.seen mid x) 0 (0 ∷ [])) at (c.in_ok-set_gate.ensures.written told) in
    let durable_redo = subst (λ x. OnDisk x (g.D.Disk.seen new) (LeftNow g.D.Disk.moment g.D.Disk.left_since new)) at (c.in_ok-set_gate.ensures.durable told) in
    let others : (f : ℕ) → f ≢ redo_of l → g.D.Disk.seen new f ≡ g.D.Disk.seen mid f = λ f ne. c.set_gate.ensures.others told f (subst (λ x. f ≢ x) (sym at) ne) in (
      refl,
      closed_rest g.D.Disk (λ d t u i le left. g.met.D.Disk.earlier d t u i told le left) l old c.args.len body stale ws rec on_disk redo_disk root_disk (g.met.D.Disk.small old (redo_of l) told)
          mid write durable written.1 new close reads (g.met.D.Disk.reads_an_image new told) shut durable_redo others,
      closed_files g.D.Disk (λ d t u i le left. g.met.D.Disk.earlier d t u i told le left) l old c.args.len body stale ws rec on_disk redo_disk root_disk (g.met.D.Disk.small old (redo_of l) told)
          mid write durable written.1 new close reads (g.met.D.Disk.reads_an_image new told) shut durable_redo others,
    )

-- ---- the files beyond the span, and calls

near : (first redo f : ℕ) → (f < first) ⊎ (redo < f) → (f < first) ⊎ (redo ≤ f)
near first redo f out = ⊎_elim (λ lt. inl lt) (λ gt. inr (omega (arith, gt))) out

apart : (first redo f : ℕ) → redo ≡ first + 9 → (f < first) ⊎ (first + 9 < f) → f ≢ redo
apart first redo f at out is = ⊎_elim (λ lt. omega (arith, at, is, lt)) (λ gt. omega (arith, at, is, gt)) out

pub returns-in_err-write_files-clause-beside : goal.returns-in_err-write_files-clause-beside
returns-in_err-write_files-clause-beside g c told f out = c.write_files.ensures.beside told f (near c.args.layout.now.first (redo_of c.args.layout.now) f out)

pub returns-then-not-branch-clause-beside : goal.returns-then-not-branch-clause-beside
returns-then-not-branch-clause-beside g c told f out = c.write_files.ensures.beside told f (near c.args.layout.now.first (redo_of c.args.layout.now) f out)

pub returns-in_err-set_gate-clause-beside : goal.returns-in_err-set_gate-clause-beside
returns-in_err-set_gate-clause-beside g c told f out =
    c.set_gate.ensures.others told f (apart c.args.layout.now.first c.span-span.result.redo f c.span-span.ensures.redo out)
    ∙ c.write_files.ensures.beside told f (near c.args.layout.now.first (redo_of c.args.layout.now) f out)

pub returns-clause-beside : goal.returns-clause-beside
returns-clause-beside g c told f out =
    c.set_gate.ensures.others told f (apart c.args.layout.now.first c.span-span.result.redo f c.span-span.ensures.redo out)
    ∙ c.write_files.ensures.beside told f (near c.args.layout.now.first (redo_of c.args.layout.now) f out)

pub returns-in_err-write_files-clause-calls : goal.returns-in_err-write_files-clause-calls
returns-in_err-write_files-clause-calls g c = omega (arith, c.write_files.ensures.calls)

pub returns-then-not-branch-clause-calls : goal.returns-then-not-branch-clause-calls
returns-then-not-branch-clause-calls g c = omega (arith, c.write_files.ensures.calls)

pub returns-in_err-set_gate-clause-calls : goal.returns-in_err-set_gate-clause-calls
returns-in_err-set_gate-clause-calls g c = omega (arith, c.write_files.ensures.calls, c.set_gate.ensures.calls)

pub returns-clause-calls : goal.returns-clause-calls
returns-clause-calls g c = omega (arith, c.write_files.ensures.calls, c.set_gate.ensures.calls)

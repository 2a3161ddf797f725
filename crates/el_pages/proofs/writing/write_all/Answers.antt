use Rattle.std.proofs.Common.{◌≡◌, ◌≢◌, ◌⊎◌, ◌<◌, ◌≤◌, ℕ, inl, inr, length, refl, ap, ◌∙◌, arith}
use Rattle.std.proofs.lemmas.Result.{on_ok_weaker}
use Rattle.el_outside.specs.Disk.{Image}
use Rattle.el_outside.specs.Moments.{LeftNow}
use Rattle.el_outside.proofs.Moments.{weaker}
use Rattle.el_redone.specs.Steps.{WillBe}
use Rattle.el_redone.proofs.Runs.{goes_on}
use Rattle.el_pages.specs.declared.layout.TheConstants.{FORMAT_2}
use Rattle.el_pages.specs.Records.{writes_of}
use Rattle.el_pages.proofs.MetaWrites.{rows_first, meta_covered, meta_last}
use Rattle.el_pages.proofs.writing.write_all.Goals as goal

pub write_rows-requires-clause-fits : goal.write_rows-requires-clause-fits
write_rows-requires-clause-fits g c told f low lt = rows_first c.args.meta.now c.args.sealed.now.changes f (length (g.D.Disk.seen c.args.disk.now f)) (c.requires.fits told f low lt)

pub returns-in_err-write_rows-clause-crash : goal.returns-in_err-write_rows-clause-crash
returns-in_err-write_rows-clause-crash g c told files file each = c.write_rows.ensures.crash told files (writes_of FORMAT_2 c.args.meta.now c.args.sealed.now.changes) c.args.meta.now file refl each

pub returns-in_err-write_covered-clause-crash : goal.returns-in_err-write_covered-clause-crash
returns-in_err-write_covered-clause-crash g c told files file each =
    let ws = writes_of FORMAT_2 c.args.meta.now c.args.sealed.now.changes in
    goes_on g.D.Disk (λ d t u i le left. g.met.D.Disk.earlier d t u i told le left) c.args.disk.now c.write_rows.new.disk c.write_covered.new.disk (WillBe 20 29 files ws file)
    (c.write_rows.ensures.crash told files ws c.args.meta.now file refl each)
    (c.write_covered.ensures.crash told files ws file (meta_covered c.args.meta.now c.args.sealed.now.changes))

pub returns-clause-crash : goal.returns-clause-crash
returns-clause-crash g c told files file each =
    let ws = writes_of FORMAT_2 c.args.meta.now c.args.sealed.now.changes in
    goes_on g.D.Disk (λ d t u i le left. g.met.D.Disk.earlier d t u i told le left) c.args.disk.now c.write_covered.new.disk c.sync_files.new.disk (WillBe 20 29 files ws file)
    (goes_on g.D.Disk (λ d t u i le left. g.met.D.Disk.earlier d t u i told le left) c.args.disk.now c.write_rows.new.disk c.write_covered.new.disk (WillBe 20 29 files ws file)
    (c.write_rows.ensures.crash told files ws c.args.meta.now file refl each)
    (c.write_covered.ensures.crash told files ws file (meta_covered c.args.meta.now c.args.sealed.now.changes)))
    (λ now. weaker g.D.Disk.moment g.D.Disk.left_since c.write_covered.new.disk c.sync_files.new.disk (LeftNow g.D.Disk.moment g.D.Disk.left_since c.write_covered.new.disk) (WillBe 20 29 files ws file) now (c.sync_files.ensures.crash told))

pub returns-clause-written : goal.returns-clause-written
returns-clause-written g c told = on_ok_weaker c.sync_files.result
    (λ (same : g.D.Disk.seen c.sync_files.new.disk ≡ g.D.Disk.seen c.write_covered.new.disk). λ f low lt. ap (λ (s : Image). s f) same
    ∙ meta_last c.args.meta.now c.args.sealed.now.changes (g.D.Disk.seen c.args.disk.now) (g.D.Disk.seen c.write_rows.new.disk) (g.D.Disk.seen c.write_covered.new.disk)
    (c.in_ok-write_rows.ensures.written told) (c.in_ok-write_covered.ensures.written told) (c.write_covered.ensures.others told) f low lt)
    (c.sync_files.ensures.seen told)

-- a file beside those of the rows isn't the meta file
past : (f : ℕ) → (f < 20) ⊎ (29 ≤ f) → f ≢ 20
past f (inl lt) is = omega (arith, is, lt)
past f (inr le) is = omega (arith, is, le)

pub returns-in_err-write_rows-clause-beside : goal.returns-in_err-write_rows-clause-beside
returns-in_err-write_rows-clause-beside g c told f at = c.write_rows.ensures.beside told f at

pub returns-in_err-write_covered-clause-beside : goal.returns-in_err-write_covered-clause-beside
returns-in_err-write_covered-clause-beside g c told f at = c.write_covered.ensures.others told f (past f at) ∙ c.write_rows.ensures.beside told f at

pub returns-clause-beside : goal.returns-clause-beside
returns-clause-beside g c told f at = c.sync_files.ensures.beside told f at ∙ c.write_covered.ensures.others told f (past f at) ∙ c.write_rows.ensures.beside told f at

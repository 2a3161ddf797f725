use Rattle.std.proofs.Common.{◌≡◌, ◌≢◌, ◌⊎◌, inl, inr, ◌<◌, ◌≤◌, ◌++◌, ◌∷◌, [], ℕ, List, length, refl, sym, subst, ◌∙◌, arith, rules, Result, Ok, Err}
use Rattle.std.specs.Prelude.{OnOk}
use Rattle.el_outside.specs.Disk.{OnDisk, over}
use Rattle.el_outside.specs.Moments.{LeftNow}
use Rattle.el_redo.specs.RedoBody.{head_bytes, changes_bytes}
use Rattle.el_rows.specs.Changes.{under}
use Rattle.el_redone.specs.Redone.{WritesFit, into}
use Rattle.el_pages.specs.declared.layout.TheConstants.{FORMAT_2}
use Rattle.el_pages.specs.Records.{writes_of}
use Rattle.el_pages.specs.Indexes.{tables_in}
use Rattle.el_pages.proofs.Facts.{fits_2, has_2, tables_2, spelled_2, has_same, tables_same, after}
use Rattle.el_pages.proofs.Commits.{run_one, run_two, run_three, run_four, holds_four, rest_four}
use Rattle.el_pages.proofs.committing.commit_on.Goals as goal

pub returns-in_err-stage-clause-crash : goal.returns-in_err-stage-clause-crash
returns-in_err-stage-clause-crash g c told =
    let files = g.D.Disk.seen c.args.disk.now in
    let head = head_bytes c.args.magic c.args.bits in
    let counts = c.args.counts.now in
    let new = c.args.sealed.now.counts in
    let changes = c.args.sealed.now.changes in
    let meta = c.meta_row-meta.result in
    let is = c.meta_row-meta.ensures in
    let has = c.requires.has told in
    let long : length meta ≡ 80 = search rules in
    run_one g.D.Disk (λ d t u i le left. g.met.D.Disk.earlier d t u i told le left) (λ d. g.met.D.Disk.reads_an_image d told)
    FORMAT_2 head counts new (meta ++ changes_bytes changes) (writes_of FORMAT_2 meta changes) (tables_in FORMAT_2 files counts) (under (tables_in FORMAT_2 files counts) new changes) c.args.disk.now
    has (λ t. refl) (has_2 head files counts new changes meta is has c.requires.made) (tables_2 head files counts new changes meta is has c.requires.made)
    (spelled_2 head files counts new changes meta is has c.requires.made long) (fits_2 head files counts new changes meta is has c.requires.made) (c.requires.at_rest told)
    c.stage.new.disk (c.stage.ensures.aside told)

pub returns-in_err-set_gate-clause-crash : goal.returns-in_err-set_gate-clause-crash
returns-in_err-set_gate-clause-crash g c told =
    let files = g.D.Disk.seen c.args.disk.now in
    let head = head_bytes c.args.magic c.args.bits in
    let counts = c.args.counts.now in
    let new = c.args.sealed.now.counts in
    let changes = c.args.sealed.now.changes in
    let meta = c.meta_row-meta.result in
    let is = c.meta_row-meta.ensures in
    let has = c.requires.has told in
    let long : length meta ≡ 80 = search rules in
    let staged = c.in_ok-stage.ensures.written told in
    run_two g.D.Disk (λ d t u i le left. g.met.D.Disk.earlier d t u i told le left) (λ d. g.met.D.Disk.reads_an_image d told)
    FORMAT_2 head counts new (meta ++ changes_bytes changes) (writes_of FORMAT_2 meta changes) (tables_in FORMAT_2 files counts) (under (tables_in FORMAT_2 files counts) new changes) c.args.disk.now
    has (λ t. refl) (has_2 head files counts new changes meta is has c.requires.made) (tables_2 head files counts new changes meta is has c.requires.made)
    (spelled_2 head files counts new changes meta is has c.requires.made long) (fits_2 head files counts new changes meta is has c.requires.made) (c.requires.at_rest told)
    c.stage.new.disk (c.stage.ensures.aside told)
    staged.1 staged.0 staged.2 (c.in_ok-stage.ensures.durable told) c.set_gate.new.disk (c.set_gate.ensures.crash told)

pub returns-in_err-write_all-clause-crash : goal.returns-in_err-write_all-clause-crash
returns-in_err-write_all-clause-crash g c told =
    let files = g.D.Disk.seen c.args.disk.now in
    let head = head_bytes c.args.magic c.args.bits in
    let counts = c.args.counts.now in
    let new = c.args.sealed.now.counts in
    let changes = c.args.sealed.now.changes in
    let meta = c.meta_row-meta.result in
    let is = c.meta_row-meta.ensures in
    let has = c.requires.has told in
    let long : length meta ≡ 80 = search rules in
    let staged = c.in_ok-stage.ensures.written told in
    run_three g.D.Disk (λ d t u i le left. g.met.D.Disk.earlier d t u i told le left) (λ d. g.met.D.Disk.reads_an_image d told)
    FORMAT_2 head counts new (meta ++ changes_bytes changes) (writes_of FORMAT_2 meta changes) (tables_in FORMAT_2 files counts) (under (tables_in FORMAT_2 files counts) new changes) c.args.disk.now
    has (λ t. refl) (has_2 head files counts new changes meta is has c.requires.made) (tables_2 head files counts new changes meta is has c.requires.made)
    (spelled_2 head files counts new changes meta is has c.requires.made long) (fits_2 head files counts new changes meta is has c.requires.made) (c.requires.at_rest told)
    c.stage.new.disk (c.stage.ensures.aside told)
    staged.1 staged.0 staged.2 (c.in_ok-stage.ensures.durable told) c.set_gate.new.disk (c.set_gate.ensures.crash told)
    (c.in_ok-set_gate.ensures.written told) (c.in_ok-set_gate.ensures.durable told) (c.set_gate.ensures.others told) c.write_all.new.disk (c.write_all.ensures.crash told)

pub returns-clause-crash : goal.returns-clause-crash
returns-clause-crash g c told =
    let files = g.D.Disk.seen c.args.disk.now in
    let head = head_bytes c.args.magic c.args.bits in
    let counts = c.args.counts.now in
    let new = c.args.sealed.now.counts in
    let changes = c.args.sealed.now.changes in
    let meta = c.meta_row-meta.result in
    let is = c.meta_row-meta.ensures in
    let has = c.requires.has told in
    let long : length meta ≡ 80 = search rules in
    let staged = c.in_ok-stage.ensures.written told in
    run_four g.D.Disk (λ d t u i le left. g.met.D.Disk.earlier d t u i told le left) (λ d. g.met.D.Disk.reads_an_image d told)
    FORMAT_2 head counts new (meta ++ changes_bytes changes) (writes_of FORMAT_2 meta changes) (tables_in FORMAT_2 files counts) (under (tables_in FORMAT_2 files counts) new changes) c.args.disk.now
    has (λ t. refl) (has_2 head files counts new changes meta is has c.requires.made) (tables_2 head files counts new changes meta is has c.requires.made)
    (spelled_2 head files counts new changes meta is has c.requires.made long) (fits_2 head files counts new changes meta is has c.requires.made) (c.requires.at_rest told)
    c.stage.new.disk (c.stage.ensures.aside told)
    staged.1 staged.0 staged.2 (c.in_ok-stage.ensures.durable told) c.set_gate.new.disk (c.set_gate.ensures.crash told)
    (c.in_ok-set_gate.ensures.written told) (c.in_ok-set_gate.ensures.durable told) (c.set_gate.ensures.others told) c.write_all.new.disk (c.write_all.ensures.crash told)
    (λ f low lt. c.in_ok-write_all.ensures.written told f low lt) (c.in_ok-write_all.ensures.durable told) c.set_gate-2.new.disk (c.set_gate-2.ensures.crash told)

pub write_all-requires-clause-fits : goal.write_all-requires-clause-fits
write_all-requires-clause-fits g c told f low lt =
    let files = g.D.Disk.seen c.args.disk.now in
    let head = head_bytes c.args.magic c.args.bits in
    let counts = c.args.counts.now in
    let new = c.args.sealed.now.counts in
    let changes = c.args.sealed.now.changes in
    let meta = c.meta_row-meta.result in
    let is = c.meta_row-meta.ensures in
    let has = c.requires.has told in
    let ne : f ≢ 29 = λ e. omega (arith, lt, e) in
    subst (λ (b : List ℕ). WritesFit (into f (writes_of FORMAT_2 meta changes)) (length b)) (sym (c.set_gate.ensures.others told f ne ∙ (c.stage.ensures.aside told).others f ne))
    (fits_2 head files counts new changes meta is has c.requires.made f low lt)

-- what holds of an answer for two reasons
on_ok_two : {T E P Q R : Type 0} (r : Result T E) → (P → Q → R) → OnOk r P → OnOk r Q → OnOk r R
on_ok_two (Ok x) f p q = f p q
on_ok_two (Err e) f p q = tt

pub returns-clause-at_rest : goal.returns-clause-at_rest
returns-clause-at_rest g c told =
    let files = g.D.Disk.seen c.args.disk.now in
    let head = head_bytes c.args.magic c.args.bits in
    let counts = c.args.counts.now in
    let new = c.args.sealed.now.counts in
    let changes = c.args.sealed.now.changes in
    let meta = c.meta_row-meta.result in
    let is = c.meta_row-meta.ensures in
    let has = c.requires.has told in
    let long : length meta ≡ 80 = search rules in
    let staged = c.in_ok-stage.ensures.written told in
    on_ok_two c.set_gate-2.result
    (λ (w4 : g.D.Disk.seen c.set_gate-2.new.disk 29 ≡ over (g.D.Disk.seen c.write_all.new.disk 29) 0 (0 ∷ [])) (d4 : OnDisk 29 (g.D.Disk.seen c.set_gate-2.new.disk) (LeftNow g.D.Disk.moment g.D.Disk.left_since c.set_gate-2.new.disk)).
    rest_four g.D.Disk (λ d t u i le left. g.met.D.Disk.earlier d t u i told le left) (λ d. g.met.D.Disk.reads_an_image d told)
    FORMAT_2 head counts new (meta ++ changes_bytes changes) (writes_of FORMAT_2 meta changes) (tables_in FORMAT_2 files counts) (under (tables_in FORMAT_2 files counts) new changes) c.args.disk.now
    has (λ t. refl) (has_2 head files counts new changes meta is has c.requires.made) (tables_2 head files counts new changes meta is has c.requires.made)
    (spelled_2 head files counts new changes meta is has c.requires.made long) (fits_2 head files counts new changes meta is has c.requires.made) (c.requires.at_rest told)
    c.stage.new.disk (c.stage.ensures.aside told)
    staged.1 staged.0 staged.2 (c.in_ok-stage.ensures.durable told) c.set_gate.new.disk (c.set_gate.ensures.crash told)
    (c.in_ok-set_gate.ensures.written told) (c.in_ok-set_gate.ensures.durable told) (c.set_gate.ensures.others told) c.write_all.new.disk (c.write_all.ensures.crash told)
    (λ f low lt. c.in_ok-write_all.ensures.written told f low lt) (c.in_ok-write_all.ensures.durable told) c.set_gate-2.new.disk (c.set_gate-2.ensures.crash told)
    w4 d4 (c.set_gate-2.ensures.others told))
    (c.set_gate-2.ensures.written told) (c.set_gate-2.ensures.durable told)

pub returns-clause-has : goal.returns-clause-has
returns-clause-has g c told =
    let files = g.D.Disk.seen c.args.disk.now in
    let head = head_bytes c.args.magic c.args.bits in
    let counts = c.args.counts.now in
    let new = c.args.sealed.now.counts in
    let changes = c.args.sealed.now.changes in
    let meta = c.meta_row-meta.result in
    let is = c.meta_row-meta.ensures in
    let has = c.requires.has told in
    let long : length meta ≡ 80 = search rules in
    let staged = c.in_ok-stage.ensures.written told in
    on_ok_two c.set_gate-2.result
    (λ (w4 : g.D.Disk.seen c.set_gate-2.new.disk 29 ≡ over (g.D.Disk.seen c.write_all.new.disk 29) 0 (0 ∷ [])) (d4 : OnDisk 29 (g.D.Disk.seen c.set_gate-2.new.disk) (LeftNow g.D.Disk.moment g.D.Disk.left_since c.set_gate-2.new.disk)).
    has_same head (after head files counts new changes meta is has c.requires.made) (g.D.Disk.seen c.set_gate-2.new.disk) new (holds_four g.D.Disk (λ d t u i le left. g.met.D.Disk.earlier d t u i told le left) (λ d. g.met.D.Disk.reads_an_image d told)
    FORMAT_2 head counts new (meta ++ changes_bytes changes) (writes_of FORMAT_2 meta changes) (tables_in FORMAT_2 files counts) (under (tables_in FORMAT_2 files counts) new changes) c.args.disk.now
    has (λ t. refl) (has_2 head files counts new changes meta is has c.requires.made) (tables_2 head files counts new changes meta is has c.requires.made)
    (spelled_2 head files counts new changes meta is has c.requires.made long) (fits_2 head files counts new changes meta is has c.requires.made) (c.requires.at_rest told)
    c.stage.new.disk (c.stage.ensures.aside told)
    staged.1 staged.0 staged.2 (c.in_ok-stage.ensures.durable told) c.set_gate.new.disk (c.set_gate.ensures.crash told)
    (c.in_ok-set_gate.ensures.written told) (c.in_ok-set_gate.ensures.durable told) (c.set_gate.ensures.others told) c.write_all.new.disk (c.write_all.ensures.crash told)
    (λ f low lt. c.in_ok-write_all.ensures.written told f low lt) (c.in_ok-write_all.ensures.durable told) c.set_gate-2.new.disk (c.set_gate-2.ensures.crash told)
    w4 d4 (c.set_gate-2.ensures.others told)) (has_2 head files counts new changes meta is has c.requires.made))
    (c.set_gate-2.ensures.written told) (c.set_gate-2.ensures.durable told)

pub returns-clause-tables : goal.returns-clause-tables
returns-clause-tables g c told =
    let files = g.D.Disk.seen c.args.disk.now in
    let head = head_bytes c.args.magic c.args.bits in
    let counts = c.args.counts.now in
    let new = c.args.sealed.now.counts in
    let changes = c.args.sealed.now.changes in
    let meta = c.meta_row-meta.result in
    let is = c.meta_row-meta.ensures in
    let has = c.requires.has told in
    let long : length meta ≡ 80 = search rules in
    let staged = c.in_ok-stage.ensures.written told in
    on_ok_two c.set_gate-2.result
    (λ (w4 : g.D.Disk.seen c.set_gate-2.new.disk 29 ≡ over (g.D.Disk.seen c.write_all.new.disk 29) 0 (0 ∷ [])) (d4 : OnDisk 29 (g.D.Disk.seen c.set_gate-2.new.disk) (LeftNow g.D.Disk.moment g.D.Disk.left_since c.set_gate-2.new.disk)).
    λ t. tables_same (after head files counts new changes meta is has c.requires.made) (g.D.Disk.seen c.set_gate-2.new.disk) new (holds_four g.D.Disk (λ d t u i le left. g.met.D.Disk.earlier d t u i told le left) (λ d. g.met.D.Disk.reads_an_image d told)
    FORMAT_2 head counts new (meta ++ changes_bytes changes) (writes_of FORMAT_2 meta changes) (tables_in FORMAT_2 files counts) (under (tables_in FORMAT_2 files counts) new changes) c.args.disk.now
    has (λ t. refl) (has_2 head files counts new changes meta is has c.requires.made) (tables_2 head files counts new changes meta is has c.requires.made)
    (spelled_2 head files counts new changes meta is has c.requires.made long) (fits_2 head files counts new changes meta is has c.requires.made) (c.requires.at_rest told)
    c.stage.new.disk (c.stage.ensures.aside told)
    staged.1 staged.0 staged.2 (c.in_ok-stage.ensures.durable told) c.set_gate.new.disk (c.set_gate.ensures.crash told)
    (c.in_ok-set_gate.ensures.written told) (c.in_ok-set_gate.ensures.durable told) (c.set_gate.ensures.others told) c.write_all.new.disk (c.write_all.ensures.crash told)
    (λ f low lt. c.in_ok-write_all.ensures.written told f low lt) (c.in_ok-write_all.ensures.durable told) c.set_gate-2.new.disk (c.set_gate-2.ensures.crash told)
    w4 d4 (c.set_gate-2.ensures.others told)) t ∙ sym (tables_2 head files counts new changes meta is has c.requires.made t))
    (c.set_gate-2.ensures.written told) (c.set_gate-2.ensures.durable told)

-- ---- the files beside

not_redo : (f : ℕ) → (f < 20) ⊎ (29 < f) → f ≢ 29
not_redo f (inl lt) is = omega (arith, is, lt)
not_redo f (inr lt) is = omega (arith, is, lt)

beside_rows : (f : ℕ) → (f < 20) ⊎ (29 < f) → (f < 20) ⊎ (29 ≤ f)
beside_rows f (inl lt) = inl lt
beside_rows f (inr lt) = inr (omega (arith, lt))

pub returns-in_err-stage-clause-beside : goal.returns-in_err-stage-clause-beside
returns-in_err-stage-clause-beside g c told f at = (c.stage.ensures.aside told).others f (not_redo f at)

pub returns-in_err-set_gate-clause-beside : goal.returns-in_err-set_gate-clause-beside
returns-in_err-set_gate-clause-beside g c told f at = c.set_gate.ensures.others told f (not_redo f at) ∙ (c.stage.ensures.aside told).others f (not_redo f at)

pub returns-in_err-write_all-clause-beside : goal.returns-in_err-write_all-clause-beside
returns-in_err-write_all-clause-beside g c told f at =
    c.write_all.ensures.beside told f (beside_rows f at) ∙ c.set_gate.ensures.others told f (not_redo f at) ∙ (c.stage.ensures.aside told).others f (not_redo f at)

pub returns-clause-beside : goal.returns-clause-beside
returns-clause-beside g c told f at =
    c.set_gate-2.ensures.others told f (not_redo f at)
    ∙ c.write_all.ensures.beside told f (beside_rows f at) ∙ c.set_gate.ensures.others told f (not_redo f at) ∙ (c.stage.ensures.aside told).others f (not_redo f at)

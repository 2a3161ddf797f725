use Rattle.std.proofs.Common.{inl, inr, ⊎_elim, ℕ, List, ap, sym, subst, ◌∙◌, arith}
use Rattle.std.specs.Int.{w32, from_le_bytes}
use Rattle.el_pages.specs.declared.layout.TheConstants.{FORMAT_2}
use Rattle.el_recovery.specs.Checks.{NoRecordWaits, length_told}
use Rattle.el_recovery.specs.Openings.{disk_in}
use Rattle.el_migrate.specs.within.Ready.{IsReady, IsOpeningRefused, KeepsAll}
use Rattle.el_migrate.proofs.Images.{rooted_or_not}
use Rattle.el_migrate.proofs.Readies.{opened_crash, opened_like}
use Rattle.el_migrate.proofs.SameFiles.{bad_there}
use Rattle.el_migrate.proofs.Openings.{index_after, shows_after, moved_after, chain_after, opens_after, memory_after, bad_after, untouched_after, stands_any, beyond_new, ok_more}
use Rattle.el_migrate.proofs.opening.open_any.Goals as goal

pub open_pages-requires : goal.open_pages-requires
open_pages-requires g c = record { rooted = λ told. (c.in-Ok.ensures.ready told).rooted }

pub returns-in-Ok-clause-shows : goal.returns-in-Ok-clause-shows
returns-in-Ok-clause-shows g c told =
    let ready : IsReady g.D.Disk g.N.NetworkMagic.magic c.args.bits (g.D.Disk.seen c.args.disk) c.prepare.new.disk =
    subst (λ (m : List ℕ). IsReady g.D.Disk m c.args.bits (g.D.Disk.seen c.args.disk) c.prepare.new.disk) c.magic.ensures (c.in-Ok.ensures.ready told) in
    shows_after c.args.disk c.prepare.new.disk c.args.bits ready (g.met.D.Disk.reads_an_image c.prepare.new.disk told) (g.met.D.Disk.small c.prepare.new.disk 29 told) c.open_pages.result (c.open_pages.ensures.shows told) c.open_pages.ensures.heads

pub returns-in-Ok-clause-moved : goal.returns-in-Ok-clause-moved
returns-in-Ok-clause-moved g c told =
    let ready : IsReady g.D.Disk g.N.NetworkMagic.magic c.args.bits (g.D.Disk.seen c.args.disk) c.prepare.new.disk =
    subst (λ (m : List ℕ). IsReady g.D.Disk m c.args.bits (g.D.Disk.seen c.args.disk) c.prepare.new.disk) c.magic.ensures (c.in-Ok.ensures.ready told) in
    moved_after c.args.disk c.prepare.new.disk c.args.bits ready (g.met.D.Disk.reads_an_image c.prepare.new.disk told) (g.met.D.Disk.small c.prepare.new.disk 29 told) c.open_pages.result (c.open_pages.ensures.shows told) c.open_pages.ensures.heads

pub returns-in-Ok-clause-chain : goal.returns-in-Ok-clause-chain
returns-in-Ok-clause-chain g c told =
    let ready : IsReady g.D.Disk g.N.NetworkMagic.magic c.args.bits (g.D.Disk.seen c.args.disk) c.prepare.new.disk =
    subst (λ (m : List ℕ). IsReady g.D.Disk m c.args.bits (g.D.Disk.seen c.args.disk) c.prepare.new.disk) c.magic.ensures (c.in-Ok.ensures.ready told) in
    chain_after c.args.disk c.prepare.new.disk c.args.bits ready (g.met.D.Disk.reads_an_image c.prepare.new.disk told) (g.met.D.Disk.small c.prepare.new.disk 29 told) c.open_pages.result (c.open_pages.ensures.shows told) c.open_pages.ensures.heads

pub returns-in-Ok-clause-index : goal.returns-in-Ok-clause-index
returns-in-Ok-clause-index g c told =
    let ready : IsReady g.D.Disk g.N.NetworkMagic.magic c.args.bits (g.D.Disk.seen c.args.disk) c.prepare.new.disk =
    subst (λ (m : List ℕ). IsReady g.D.Disk m c.args.bits (g.D.Disk.seen c.args.disk) c.prepare.new.disk) c.magic.ensures (c.in-Ok.ensures.ready told) in
    index_after c.args.disk c.prepare.new.disk c.args.bits ready (g.met.D.Disk.reads_an_image c.prepare.new.disk told) (g.met.D.Disk.small c.prepare.new.disk 29 told) c.open_pages.result (c.open_pages.ensures.shows told)

pub returns-in-Ok-clause-opens : goal.returns-in-Ok-clause-opens
returns-in-Ok-clause-opens g c told =
    let ready : IsReady g.D.Disk g.N.NetworkMagic.magic c.args.bits (g.D.Disk.seen c.args.disk) c.prepare.new.disk =
    subst (λ (m : List ℕ). IsReady g.D.Disk m c.args.bits (g.D.Disk.seen c.args.disk) c.prepare.new.disk) c.magic.ensures (c.in-Ok.ensures.ready told) in
    opens_after c.args.disk c.prepare.new.disk c.args.bits ready (g.met.D.Disk.reads_an_image c.prepare.new.disk told) (g.met.D.Disk.small c.prepare.new.disk 29 told) c.open_pages.result (c.open_pages.ensures.opens told)

pub returns-in-Ok-clause-opens_chain : goal.returns-in-Ok-clause-opens_chain
returns-in-Ok-clause-opens_chain g c told chain stands =
    let ready : IsReady g.D.Disk g.N.NetworkMagic.magic c.args.bits (g.D.Disk.seen c.args.disk) c.prepare.new.disk =
    subst (λ (m : List ℕ). IsReady g.D.Disk m c.args.bits (g.D.Disk.seen c.args.disk) c.prepare.new.disk) c.magic.ensures (c.in-Ok.ensures.ready told) in
    let any = stands_any g.N.NetworkMagic.magic (g.D.Disk.seen c.args.disk) chain stands in
    opens_after c.args.disk c.prepare.new.disk c.args.bits ready (g.met.D.Disk.reads_an_image c.prepare.new.disk told) (g.met.D.Disk.small c.prepare.new.disk 29 told) c.open_pages.result (c.open_pages.ensures.opens told) any.0 any.1

pub returns-in-Ok-clause-memory : goal.returns-in-Ok-clause-memory
returns-in-Ok-clause-memory g c told =
    let ready : IsReady g.D.Disk g.N.NetworkMagic.magic c.args.bits (g.D.Disk.seen c.args.disk) c.prepare.new.disk =
    subst (λ (m : List ℕ). IsReady g.D.Disk m c.args.bits (g.D.Disk.seen c.args.disk) c.prepare.new.disk) c.magic.ensures (c.in-Ok.ensures.ready told) in
    memory_after c.args.disk c.prepare.new.disk c.args.bits ready (g.met.D.Disk.reads_an_image c.prepare.new.disk told) (g.met.D.Disk.small c.prepare.new.disk 29 told) c.open_pages.result (c.open_pages.ensures.memory told)

pub returns-in-Ok-clause-crash : goal.returns-in-Ok-clause-crash
returns-in-Ok-clause-crash g c told =
    let ready : IsReady g.D.Disk g.N.NetworkMagic.magic c.args.bits (g.D.Disk.seen c.args.disk) c.prepare.new.disk =
    subst (λ (m : List ℕ). IsReady g.D.Disk m c.args.bits (g.D.Disk.seen c.args.disk) c.prepare.new.disk) c.magic.ensures (c.in-Ok.ensures.ready told) in
    let keeps : KeepsAll g.D.Disk g.N.NetworkMagic.magic c.args.disk c.prepare.new.disk = subst (λ (m : List ℕ). KeepsAll g.D.Disk m c.args.disk c.prepare.new.disk) c.magic.ensures (c.prepare.ensures.keeps told) in
    opened_crash g.D.Disk (λ d t u i le left. g.met.D.Disk.earlier d t u i told le left) g.N.NetworkMagic.magic c.args.disk c.prepare.new.disk keeps ready.rooted (disk_in c.open_pages.result) (c.open_pages.ensures.crash told)

pub returns-in-Ok-clause-like : goal.returns-in-Ok-clause-like
returns-in-Ok-clause-like g c told =
    let ready : IsReady g.D.Disk g.N.NetworkMagic.magic c.args.bits (g.D.Disk.seen c.args.disk) c.prepare.new.disk =
    subst (λ (m : List ℕ). IsReady g.D.Disk m c.args.bits (g.D.Disk.seen c.args.disk) c.prepare.new.disk) c.magic.ensures (c.in-Ok.ensures.ready told) in
    let keeps : KeepsAll g.D.Disk g.N.NetworkMagic.magic c.args.disk c.prepare.new.disk = subst (λ (m : List ℕ). KeepsAll g.D.Disk m c.args.disk c.prepare.new.disk) c.magic.ensures (c.prepare.ensures.keeps told) in
    opened_like g.D.Disk (λ d t u i le left. g.met.D.Disk.earlier d t u i told le left) g.N.NetworkMagic.magic c.args.disk c.prepare.new.disk keeps ready.rooted (disk_in c.open_pages.result) (c.open_pages.ensures.crash told)

pub returns-in-Ok-clause-later : goal.returns-in-Ok-clause-later
returns-in-Ok-clause-later g c told =
    omega (arith, (c.open_pages.ensures.crash told).later, (c.prepare.ensures.keeps told).later)

pub returns-in-Ok-clause-bad : goal.returns-in-Ok-clause-bad
returns-in-Ok-clause-bad g c told =
    let ready : IsReady g.D.Disk g.N.NetworkMagic.magic c.args.bits (g.D.Disk.seen c.args.disk) c.prepare.new.disk =
    subst (λ (m : List ℕ). IsReady g.D.Disk m c.args.bits (g.D.Disk.seen c.args.disk) c.prepare.new.disk) c.magic.ensures (c.in-Ok.ensures.ready told) in
    bad_after c.args.disk c.prepare.new.disk c.args.bits ready (g.met.D.Disk.reads_an_image c.prepare.new.disk told) (g.met.D.Disk.small c.prepare.new.disk 29 told) c.open_pages.result (from_le_bytes w32 g.N.NetworkMagic.magic) (c.open_pages.ensures.bad told) (c.open_pages.ensures.opens told)

pub returns-in-Ok-clause-is_bad : goal.returns-in-Ok-clause-is_bad
returns-in-Ok-clause-is_bad g c told found =
    let ready : IsReady g.D.Disk g.N.NetworkMagic.magic c.args.bits (g.D.Disk.seen c.args.disk) c.prepare.new.disk =
    subst (λ (m : List ℕ). IsReady g.D.Disk m c.args.bits (g.D.Disk.seen c.args.disk) c.prepare.new.disk) c.magic.ensures (c.in-Ok.ensures.ready told) in
    ⊎_elim
    (λ live. c.open_pages.ensures.is_bad told found (bad_there FORMAT_2 (g.D.Disk.seen c.args.disk) (g.D.Disk.seen c.prepare.new.disk) (λ f low le. ready.stays live.0 f (omega (arith, low))) found (from_le_bytes w32 g.N.NetworkMagic.magic) live.1))
    (λ old. absurd (ready.sound old.0 found old.1))

pub returns-in-Ok-clause-untouched : goal.returns-in-Ok-clause-untouched
returns-in-Ok-clause-untouched g c told live found body =
    let ready : IsReady g.D.Disk g.N.NetworkMagic.magic c.args.bits (g.D.Disk.seen c.args.disk) c.prepare.new.disk =
    subst (λ (m : List ℕ). IsReady g.D.Disk m c.args.bits (g.D.Disk.seen c.args.disk) c.prepare.new.disk) c.magic.ensures (c.in-Ok.ensures.ready told) in
    untouched_after c.args.disk c.prepare.new.disk c.args.bits ready (g.met.D.Disk.reads_an_image c.prepare.new.disk told) (g.met.D.Disk.small c.prepare.new.disk 29 told) c.open_pages.result (g.D.Disk.seen (disk_in c.open_pages.result)) live (c.open_pages.ensures.untouched told) found body

pub returns-in-Ok-clause-untouched_old : goal.returns-in-Ok-clause-untouched_old
returns-in-Ok-clause-untouched_old g c told not found body =
    let ready : IsReady g.D.Disk g.N.NetworkMagic.magic c.args.bits (g.D.Disk.seen c.args.disk) c.prepare.new.disk =
    subst (λ (m : List ℕ). IsReady g.D.Disk m c.args.bits (g.D.Disk.seen c.args.disk) c.prepare.new.disk) c.magic.ensures (c.in-Ok.ensures.ready told) in
    absurd (ready.sound not found (inl body))

pub returns-in-Ok-clause-others : goal.returns-in-Ok-clause-others
returns-in-Ok-clause-others g c told f at =
    c.open_pages.ensures.others told f (beyond_new f at) ∙ (c.prepare.ensures.keeps told).others f at

pub returns-in-Ok-clause-beside : goal.returns-in-Ok-clause-beside
returns-in-Ok-clause-beside g c told =
    ok_more c.open_pages.result _ _ (λ store beside f at. beside f (beyond_new f at) ∙ (c.prepare.ensures.keeps told).others f at) (c.open_pages.ensures.beside told)

pub returns-in-Err-clause-crash : goal.returns-in-Err-clause-crash
returns-in-Err-clause-crash g c told =
    let keeps : KeepsAll g.D.Disk g.N.NetworkMagic.magic c.args.disk c.prepare.new.disk = subst (λ (m : List ℕ). KeepsAll g.D.Disk m c.args.disk c.prepare.new.disk) c.magic.ensures (c.prepare.ensures.keeps told) in
    keeps.crash

pub returns-in-Err-clause-like : goal.returns-in-Err-clause-like
returns-in-Err-clause-like g c told =
    let keeps : KeepsAll g.D.Disk g.N.NetworkMagic.magic c.args.disk c.prepare.new.disk = subst (λ (m : List ℕ). KeepsAll g.D.Disk m c.args.disk c.prepare.new.disk) c.magic.ensures (c.prepare.ensures.keeps told) in
    keeps.like

pub returns-in-Err-clause-later : goal.returns-in-Err-clause-later
returns-in-Err-clause-later g c told =
    (c.prepare.ensures.keeps told).later

pub returns-in-Err-clause-others : goal.returns-in-Err-clause-others
returns-in-Err-clause-others g c told f at =
    (c.prepare.ensures.keeps told).others f at

pub returns-in-Err-clause-opens : goal.returns-in-Err-clause-opens
returns-in-Err-clause-opens g c told tables =
    let refused : IsOpeningRefused g.N.NetworkMagic.magic (g.D.Disk.seen c.args.disk) (g.D.Disk.seen c.prepare.new.disk) c.in-Err.fault =
    subst (λ (m : List ℕ). IsOpeningRefused m (g.D.Disk.seen c.args.disk) (g.D.Disk.seen c.prepare.new.disk) c.in-Err.fault) c.magic.ensures (c.in-Err.ensures.refused told) in
    ⊎_elim (λ live. inl (refused.live live.0)) (λ old. refused.opens old.0 tables old.1)

pub returns-in-Err-clause-opens_chain : goal.returns-in-Err-clause-opens_chain
returns-in-Err-clause-opens_chain g c told chain stands =
    let refused : IsOpeningRefused g.N.NetworkMagic.magic (g.D.Disk.seen c.args.disk) (g.D.Disk.seen c.prepare.new.disk) c.in-Err.fault =
    subst (λ (m : List ℕ). IsOpeningRefused m (g.D.Disk.seen c.args.disk) (g.D.Disk.seen c.prepare.new.disk) c.in-Err.fault) c.magic.ensures (c.in-Err.ensures.refused told) in
    let any = stands_any g.N.NetworkMagic.magic (g.D.Disk.seen c.args.disk) chain stands in
    ⊎_elim (λ live. inl (refused.live live.0)) (λ old. refused.opens old.0 any.0 old.1) any.1

pub returns-in-Err-clause-memory : goal.returns-in-Err-clause-memory
returns-in-Err-clause-memory g c told is =
    let refused : IsOpeningRefused g.N.NetworkMagic.magic (g.D.Disk.seen c.args.disk) (g.D.Disk.seen c.prepare.new.disk) c.in-Err.fault =
    subst (λ (m : List ℕ). IsOpeningRefused m (g.D.Disk.seen c.args.disk) (g.D.Disk.seen c.prepare.new.disk) c.in-Err.fault) c.magic.ensures (c.in-Err.ensures.refused told) in
    ⊎_elim
    (λ live. absurd (let failed = refused.live live in cc))
    (λ not. ⊎_elim
    (λ failed. absurd (cc (failed, is)))
    (λ more. ⊎_elim (λ m. (m.1.0, inr (not, m.1.1))) (λ b. absurd (let told_bad = b.1 in cc (told_bad, is))) more)
    refused.which)
    (rooted_or_not (g.D.Disk.seen c.args.disk))

pub returns-in-Err-clause-bad : goal.returns-in-Err-clause-bad
returns-in-Err-clause-bad g c told =
    let refused : IsOpeningRefused g.N.NetworkMagic.magic (g.D.Disk.seen c.args.disk) (g.D.Disk.seen c.prepare.new.disk) c.in-Err.fault =
    subst (λ (m : List ℕ). IsOpeningRefused m (g.D.Disk.seen c.args.disk) (g.D.Disk.seen c.prepare.new.disk) c.in-Err.fault) c.magic.ensures (c.in-Err.ensures.refused told) in
    ⊎_elim
    (λ live. inl (refused.live live))
    (λ not. ⊎_elim
    (λ failed. inl failed)
    (λ more. inr (⊎_elim (λ m. inl m.0) (λ b. inr (b.0, b.1, inr (not, b.2))) more))
    refused.which)
    (rooted_or_not (g.D.Disk.seen c.args.disk))

pub returns-in-Err-clause-is_bad : goal.returns-in-Err-clause-is_bad
returns-in-Err-clause-is_bad g c told found =
    let refused : IsOpeningRefused g.N.NetworkMagic.magic (g.D.Disk.seen c.args.disk) (g.D.Disk.seen c.prepare.new.disk) c.in-Err.fault =
    subst (λ (m : List ℕ). IsOpeningRefused m (g.D.Disk.seen c.args.disk) (g.D.Disk.seen c.prepare.new.disk) c.in-Err.fault) c.magic.ensures (c.in-Err.ensures.refused told) in
    ⊎_elim (λ live. inl (refused.live live.0)) (λ old. refused.is_bad old.0 found old.1)

pub returns-in-Err-clause-untouched : goal.returns-in-Err-clause-untouched
returns-in-Err-clause-untouched g c told live found body =
    let refused : IsOpeningRefused g.N.NetworkMagic.magic (g.D.Disk.seen c.args.disk) (g.D.Disk.seen c.prepare.new.disk) c.in-Err.fault =
    subst (λ (m : List ℕ). IsOpeningRefused m (g.D.Disk.seen c.args.disk) (g.D.Disk.seen c.prepare.new.disk) c.in-Err.fault) c.magic.ensures (c.in-Err.ensures.refused told) in
    inl (refused.live live)

pub returns-in-Err-clause-untouched_old : goal.returns-in-Err-clause-untouched_old
returns-in-Err-clause-untouched_old g c told not found body =
    let refused : IsOpeningRefused g.N.NetworkMagic.magic (g.D.Disk.seen c.args.disk) (g.D.Disk.seen c.prepare.new.disk) c.in-Err.fault =
    subst (λ (m : List ℕ). IsOpeningRefused m (g.D.Disk.seen c.args.disk) (g.D.Disk.seen c.prepare.new.disk) c.in-Err.fault) c.magic.ensures (c.in-Err.ensures.refused told) in
    refused.untouched not found body

-- ---- calls

pub returns-in-Ok-clause-quiet : goal.returns-in-Ok-clause-quiet
returns-in-Ok-clause-quiet g c told live none =
    let same = (c.in-Ok.ensures.ready told).stays live 29 (omega arith) in
    let few = c.open_pages.ensures.quiet told (subst (λ (file : List ℕ). NoRecordWaits file) (sym same) none) in
    omega (arith, few, c.prepare.ensures.quiet told live)

pub returns-in-Ok-clause-calls : goal.returns-in-Ok-clause-calls
returns-in-Ok-clause-calls g c told live =
    let same = (c.in-Ok.ensures.ready told).stays live 29 (omega arith) in
    let few = c.open_pages.ensures.calls told in
    let told_same = ap (λ (file : List ℕ). length_told file) same in
    omega (arith, few, told_same, c.prepare.ensures.quiet told live)

pub returns-in-Err-clause-quiet : goal.returns-in-Err-clause-quiet
returns-in-Err-clause-quiet g c told live none = omega (arith, c.prepare.ensures.quiet told live)

pub returns-in-Err-clause-calls : goal.returns-in-Err-clause-calls
returns-in-Err-clause-calls g c told live = omega (arith, c.prepare.ensures.quiet told live)

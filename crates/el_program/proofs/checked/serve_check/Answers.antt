use Rattle.std.proofs.Common.{◌≡◌, ◌⊎◌, inl, inr, ap, sym, ◌∙◌, arith}
use Rattle.el_outside.specs.Disk.{Image}
use Rattle.el_pages.specs.Stores.{disk_below}
use Rattle.el_gen.specs.MadeFile.{regtest_magic}
use Rattle.el_check_chain.specs.Summaries.{summary_line}
use Rattle.el_program.specs.declared.status.Status.TheVariants as status
use Rattle.el_program.specs.within.Unread.{check_status}
use Rattle.el_program.proofs.Checks.{summary_sent, nothing_sent, sent_caused, check_ends, check_counts}
use Rattle.el_program.proofs.FreshDisks.{fresh_index}
use Rattle.el_program.proofs.IndexDisks.{means_stands, beyond_new}
use Rattle.el_program.proofs.Rises.{unopened_caused}
use Rattle.el_program.proofs.checked.serve_check.Goals as goal

pub returns-in-Err-clause-ends : goal.returns-in-Err-clause-ends
returns-in-Err-clause-ends g c = λ turns of_files of_relay told fresh.
    let is = fresh_index g.D.Disk regtest_magic c.args.disk told (g.met.D.Disk.reads_an_image c.args.disk told) fresh in
    let u = c.in-Err.ensures.unopened _ _ _ is in
    let why : (c.in-Err.status ≡ status.DiskFailed) ⊎ (c.in-Err.status ≡ status.OutOfMemory) =
    elim c.in-Err.ensures.status [ inl bad ↦ absurd (u.0 bad) | inr other ↦ other ] in
    nothing_sent g.K.Link c.args.link.now _ of_relay turns of_files _ _ c.in-Err.status why c.in-Err.ensures.counted
    c.in-Err.ensures.others_uncounted

pub returns-in-Err-clause-causes : goal.returns-in-Err-clause-causes
returns-in-Err-clause-causes g c = λ turns of_files of_relay. unopened_caused _ _ _ _ _ _ c.in-Err.status
    c.in-Err.ensures.status c.in-Err.ensures.counted c.in-Err.ensures.others_uncounted

pub returns-in-Err-clause-others : goal.returns-in-Err-clause-others
returns-in-Err-clause-others g c = c.in-Err.ensures.others

pub returns-in-Ok-checked-clause-ends : goal.returns-in-Ok-checked-clause-ends
returns-in-Ok-checked-clause-ends g c = λ turns of_files of_relay told fresh.
    let is = fresh_index g.D.Disk regtest_magic c.args.disk told (g.met.D.Disk.reads_an_image c.args.disk told) fresh in
    let k = rw c.in-Ok-checked.is at (c.check_chain-checked.ensures.checked (c.in-Ok.ensures.stands _ _ _ is)) in
    summary_sent g.K.Link c.args.link.now c.send_summary.new.link _ (summary_line c.in-Ok-checked.summary) of_relay turns
    of_files _ _ c.send_summary.result c.send_summary.ensures.ends c.send_summary.ensures.sent
    c.send_summary.ensures.not_sent c.send_summary.ensures.counted c.send_summary.ensures.uncounted
    c.send_summary.ensures.same_calls
    (sym c.into_disk-disk.ensures.faults
    ∙ (rw c.in-Ok-checked.is at c.check_chain-checked.ensures.cause).uncounted ∙ c.in-Ok.ensures.uncounted)
    (record {
      way = k.way;
      line = ap summary_line k.sums;
      made = λ differ. c.check_leads_along_both_branches.ensures c.args.count c.requires.some c.requires.few differ
          k.way;
      leaves = λ image now. inl (means_stands regtest_magic image _
          (k.leaves told image (told, rw c.into_disk-disk.ensures.disk at now)));
      between = disk_below (k.between told).0;
      later = (let a = c.in-Ok.ensures.later told in let b = (k.between told).1 in omega arith);
      earlier = rw c.into_disk-disk.ensures.disk ((k.between told).2);
      stood = λ image now. inl (means_stands regtest_magic image _ ((k.between told).3 image (told, now)));
    })

pub returns-in-Ok-checked-clause-causes : goal.returns-in-Ok-checked-clause-causes
returns-in-Ok-checked-clause-causes g c = λ turns of_files of_relay. sent_caused turns _ _ _ _ of_files _ _
    c.send_summary.result c.send_summary.ensures.ends c.send_summary.ensures.counted
    c.send_summary.ensures.uncounted c.send_summary.ensures.same_calls
    (sym c.into_disk-disk.ensures.faults
    ∙ (rw c.in-Ok-checked.is at c.check_chain-checked.ensures.cause).uncounted ∙ c.in-Ok.ensures.uncounted)

pub returns-in-Ok-checked-clause-others : goal.returns-in-Ok-checked-clause-others
returns-in-Ok-checked-clause-others g c = λ told f beyond.
    sym (c.into_disk-disk.ensures.beside f (beyond_new f beyond))
    ∙ ap (λ (image : Image). image f) (c.check_chain-checked.ensures.beside told)
    ∙ c.in-Ok.ensures.beside told f beyond

pub returns-in-Err-checked-clause-ends : goal.returns-in-Err-checked-clause-ends
returns-in-Err-checked-clause-ends g c = λ turns of_files of_relay told fresh.
    let k = check_counts _ _ _ _ c.in-Err-checked.fault c.in-Ok.ensures.uncounted c.into_disk-disk.ensures.faults
    (rw c.in-Err-checked.is at c.check_chain-checked.ensures.cause) in
    rw c.status_of.ensures (nothing_sent g.K.Link c.args.link.now _ of_relay turns of_files _ _
    (check_status c.in-Err-checked.fault) (check_ends c.in-Err-checked.fault) k.0 k.1)

pub returns-in-Err-checked-clause-causes : goal.returns-in-Err-checked-clause-causes
returns-in-Err-checked-clause-causes g c = λ turns of_files of_relay.
    let k = check_counts _ _ _ _ c.in-Err-checked.fault c.in-Ok.ensures.uncounted c.into_disk-disk.ensures.faults
    (rw c.in-Err-checked.is at c.check_chain-checked.ensures.cause) in
    rw c.status_of.ensures (unopened_caused _ _ _ _ _ _ (check_status c.in-Err-checked.fault)
    (inr (check_ends c.in-Err-checked.fault)) k.0 k.1)

pub returns-in-Err-checked-clause-others : goal.returns-in-Err-checked-clause-others
returns-in-Err-checked-clause-others g c = λ told f beyond.
    sym (c.into_disk-disk.ensures.beside f (beyond_new f beyond))
    ∙ ap (λ (image : Image). image f) (c.check_chain-checked.ensures.beside told)
    ∙ c.in-Ok.ensures.beside told f beyond

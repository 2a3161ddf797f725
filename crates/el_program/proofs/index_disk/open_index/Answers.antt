use Rattle.std.proofs.Common.{arith, inr, ap, sym, ◌∙◌, ◌^◌, ℕ, length}
use Rattle.el_outside.specs.Disk.{Image}
use Rattle.el_row_formats.specs.Tables.{Tables}
use Rattle.el_row_formats.specs.declared.table.Table.TheVariants as table
use Rattle.el_pages.specs.Stores.{bits_of, disk_below, rows_of, lists_long}
use Rattle.el_program.proofs.IndexDisks.{as_before, keeps_one, unread_leaves, beyond_new, not_bad, told_so}
use Rattle.el_program.proofs.index_disk.open_index.Goals as goal

pub returns-in-Err-clause-unopened : goal.returns-in-Err-clause-unopened
returns-in-Err-clause-unopened g c = λ was flight chain is. (
  not_bad c.in-Err.fault _ c.status_of.ensures (c.in-Err.ensures.opens_chain is.told chain is.reads),
  keeps_one g.D.Disk g.N.NetworkMagic.magic c.args.disk c.in-Err.disk was flight
      (λ t u image le left. g.met.D.Disk.earlier c.in-Err.disk t u image is.told le left)
      (c.in-Err.ensures.crash is.told was flight is.left),
)

pub returns-in-Err-clause-bad : goal.returns-in-Err-clause-bad
returns-in-Err-clause-bad g c = λ told bad tables index.
    not_bad c.in-Err.fault _ c.status_of.ensures (c.in-Err.ensures.opens told tables index) bad

pub returns-in-Ok-over-clause-stands : goal.returns-in-Ok-over-clause-stands
returns-in-Ok-over-clause-stands g c = λ was flight chain is.
    c.in-Ok-over.ensures.stands chain is.told (c.in-Ok.ensures.chain is.told chain is.reads)

pub returns-in-Err-over-clause-unopened : goal.returns-in-Err-over-clause-unopened
returns-in-Err-over-clause-unopened g c = λ was flight chain is. (
  λ e. absurd cc,
  λ image now.
      let over = c.in-Err-over.ensures.failed.below.crash is.told in
      let before = over.before (g.D.Disk.moment (disk_below c.in-Ok.store)) image (omega arith) (
        is.told,
        g.met.D.Disk.earlier (disk_below c.in-Err-over.store) _ _ image is.told over.later
            (rw c.into_disk.ensures.disk at now),
      ) in
      unread_leaves _ (g.D.Disk.seen c.args.disk) was flight (2 ^ bits_of c.in-Ok.store) (rows_of c.in-Ok.store) image
      (λ each stands. c.in-Ok.ensures.chain is.told each stands)
      (is.left _ (g.met.D.Disk.reads_an_image c.args.disk is.told))
      (c.in-Ok.ensures.leaves is.told image before.1),
)

pub returns-in-Ok-over-clause-is_bad : goal.returns-in-Ok-over-clause-is_bad
returns-in-Ok-over-clause-is_bad g c = λ told no. let index = c.in-Ok.ensures.index told in no index.0 index.1

pub returns-in-Err-clause-is_bad : goal.returns-in-Err-clause-is_bad
returns-in-Err-clause-is_bad g c = λ told no. told_so c.in-Err.fault _ c.status_of.ensures
    (λ memory. let m = c.in-Err.ensures.memory told memory in no m.0 m.1)

pub returns-in-Err-clause-kept : goal.returns-in-Err-clause-kept
returns-in-Err-clause-kept g c = λ told no.
    as_before g.D.Disk c.args.disk c.in-Err.disk (c.in-Err.ensures.others told) (c.in-Err.ensures.like told (inr no))

pub returns-in-Err-over-clause-kept : goal.returns-in-Err-over-clause-kept
returns-in-Err-over-clause-kept g c = λ told no.
    absurd (let index = c.in-Ok.ensures.index told in no index.0 index.1)

-- the files beyond the index's
pub returns-in-Ok-over-clause-beside : goal.returns-in-Ok-over-clause-beside
returns-in-Ok-over-clause-beside g c = λ told f beyond.
    ap (λ (image : Image). image f) (c.in-Ok-over.ensures.reads.below.files told)
    ∙ c.in-Ok.ensures.beside told f beyond

pub returns-in-Err-clause-others : goal.returns-in-Err-clause-others
returns-in-Err-clause-others g c = c.in-Err.ensures.others

pub returns-in-Err-over-clause-others : goal.returns-in-Err-over-clause-others
returns-in-Err-over-clause-others g c = λ told f beyond.
    sym (c.into_disk.ensures.beside f (beyond_new f beyond))
    ∙ ap (λ (image : Image). image f) (c.in-Err-over.ensures.failed.below.files told)
    ∙ c.in-Ok.ensures.beside told f beyond

-- the clock goes on
pub returns-in-Ok-over-clause-later : goal.returns-in-Ok-over-clause-later
returns-in-Ok-over-clause-later g c = λ told.
    let opened = c.in-Ok.ensures.later told in
    let over = (c.in-Ok-over.ensures.reads.below.crash told).later in
    omega arith

-- the buckets of an index that was made
pub returns-in-Ok-over-clause-buckets : goal.returns-in-Ok-over-clause-buckets
returns-in-Ok-over-clause-buckets g c = λ told unrooted.
    ap (λ (t : Tables). length (t table.TxHeads)) c.in-Ok-over.ensures.reads.same
    ∙ lists_long g.D.Disk c.in-Ok.store.told.value c.in-Ok.store.counts table.TxHeads
    ∙ c.in-Ok.ensures.heads.0 ∙ ap (λ (n : ℕ). 2 ^ n) (c.in-Ok.ensures.moved told unrooted)

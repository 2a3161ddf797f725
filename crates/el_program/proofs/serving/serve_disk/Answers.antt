use Rattle.std.proofs.Common.{◌≡◌, ◌∙◌, true, inr, inl, sym, ap, append-nil}
use Rattle.el_outside.specs.Disk.{Image}
use Rattle.el_outside.proofs.Traces.{goes_none}
use Rattle.el_pages.specs.Stores.{disk_below, beside_in}
use Rattle.el_program.proofs.IndexDisks.{unopened, means_one, beyond_new}
use Rattle.el_program.specs.IndexDisks.{LeavesOneOf}
use Rattle.el_loop.specs.Traffic.{no_traffic}
use Rattle.el_program.proofs.Rises.{unopened_caused}
use Rattle.el_program.proofs.Servings.{serve_told, unopened_ends}
use Rattle.el_program.proofs.serving.serve_disk.Goals as goal

pub returns-in-Ok-clause-ends : goal.returns-in-Ok-clause-ends
returns-in-Ok-clause-ends g c = λ was flight index is.
    let r = rw (c.in-Ok.ensures.uncounted, c.magic.ensures) at
    (c.serve_index-status.ensures.ends index (λ sure. c.in-Ok.ensures.stands was flight index.chain (is sure))) in
    let same : c.into_disk.result ≡ disk_below c.serve_index-status.result.1.rows =
    c.into_disk.ensures.disk ∙ ap (λ s. disk_below s) c.into_rows.ensures in
    rw same (
      r.0,
      r.1,
      inr (serve_told _ _ _ (λ losses rose. rose) _ _ (index.sure ≡ true)
          (λ sure acked flight' left image now. means_one g.N.NetworkMagic.magic acked flight' image
          (left (is sure).told image ((is sure).told, now)))
          g.A.Archive _ _ _ index _ _ r.0 _ (λ sure. sure) r.2),
    )

pub returns-in-Ok-clause-causes : goal.returns-in-Ok-clause-causes
returns-in-Ok-clause-causes g c =
    let same : c.into_disk.result ≡ disk_below c.serve_index-status.result.1.rows =
    c.into_disk.ensures.disk ∙ ap (λ s. disk_below s) c.into_rows.ensures in
    rw same (rw c.in-Ok.ensures.uncounted at c.serve_index-status.ensures.causes)

pub returns-in-Err-clause-causes : goal.returns-in-Err-clause-causes
returns-in-Err-clause-causes g c = unopened_caused _ _ _ _ _ _ c.in-Err.status c.in-Err.ensures.status
    c.in-Err.ensures.counted c.in-Err.ensures.others_uncounted

pub returns-in-Ok-clause-is_bad : goal.returns-in-Ok-clause-is_bad
returns-in-Ok-clause-is_bad g c = λ told is. absurd (c.in-Ok.ensures.is_bad told is)

pub returns-in-Err-clause-is_bad : goal.returns-in-Err-clause-is_bad
returns-in-Err-clause-is_bad g c = λ told is. unopened c.in-Err.status (c.in-Err.ensures.is_bad told is)

pub returns-in-Err-clause-ends : goal.returns-in-Err-clause-ends
returns-in-Err-clause-ends g c = λ was flight index is. (
  no_traffic,
  (λ t. goes_none _, λ t. sym (append-nil _)),
  inl (unopened_ends index.sure was flight (LeavesOneOf g.D.Disk g.N.NetworkMagic.magic c.in-Err.disk) (g.Y.Relay.faults c.args.relay.now) _ _ _ _ _ _
      c.in-Err.status c.in-Err.ensures.status (λ sure. c.in-Err.ensures.unopened was flight index.chain (is sure))
      c.in-Err.ensures.counted c.in-Err.ensures.others_uncounted),
)

pub returns-in-Ok-clause-kept : goal.returns-in-Ok-clause-kept
returns-in-Ok-clause-kept g c = λ told is. absurd (c.in-Ok.ensures.is_bad told is)

pub returns-in-Ok-clause-kept_counts : goal.returns-in-Ok-clause-kept_counts
returns-in-Ok-clause-kept_counts g c = λ bad. absurd (rw bad at c.serve_index-status.ensures.opened)

pub returns-in-Ok-clause-kept_files : goal.returns-in-Ok-clause-kept_files
returns-in-Ok-clause-kept_files g c = λ bad. absurd (rw bad at c.serve_index-status.ensures.opened)

pub returns-in-Err-clause-kept_counts : goal.returns-in-Err-clause-kept_counts
returns-in-Err-clause-kept_counts g c = λ bad. c.in-Err.ensures.others_uncounted (λ failed. absurd cc)

pub returns-in-Ok-clause-others : goal.returns-in-Ok-clause-others
returns-in-Ok-clause-others g c = λ told f beyond.
    let back = c.into_disk.ensures.beside f (beyond_new f beyond) in
    sym back ∙ ap (λ s. beside_in (g.D.Disk.seen (disk_below s)) f) c.into_rows.ensures
    ∙ ap (λ (image : Image). image f) (c.serve_index-status.ensures.beside told) ∙ c.in-Ok.ensures.beside told f beyond

pub returns-in-Err-clause-others : goal.returns-in-Err-clause-others
returns-in-Err-clause-others g c = c.in-Err.ensures.others

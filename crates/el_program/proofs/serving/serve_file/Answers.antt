use Rattle.std.proofs.Common.{true, false, [], inl, ap, refl, sym, append-nil, Err, arith}
use Rattle.el_outside.proofs.Traces.{goes_none, all_grow_more, rose_none}
use Rattle.el_plain.specs.Plain.{IsPlain}
use Rattle.el_side.specs.Deeds as device
use Rattle.el_side.specs.Deeds.{faults}
use Rattle.el_loop.specs.Traffic.{no_traffic}
use Rattle.el_program.proofs.Rises.{caused_starved, caused_still, unread_caused, run_caused, serves}
use Rattle.el_program.proofs.Servings.{silent, served_once, ends_told, with_disk, unread_ends}
use Rattle.el_program.proofs.serving.serve_file.Goals as goal

pub returns-in-Ok-open_file-clause-ends : goal.returns-in-Ok-open_file-clause-ends
returns-in-Ok-open_file-clause-ends g c = λ disk.
    let o = c.in-Ok-open_file.ensures.opened in
    let plain : IsPlain c.in-Ok-open_file.ledger c.in-Ok-open_file.ledger = record { is = refl; good = o.1.good } in
    let r = rw (o.2, c.in-Ok-open_file.ensures.only_reads.uncounted, c.greatest_limits.ensures) at
    (c.serve_from-end.ensures.ends true false c.in-Ok-open_file.ledger (λ sure. plain) (λ sure. o.3) c.in-Ok.ensures) in (
      r.0,
      (r.1, r.2),
      rw c.of_end.ensures (served_once g.A.Archive c.args.magic _ _ _ r.0 _
          (λ failed. let rose = c.serve_from-end.ensures.causes.rose device.disk (rw failed refl) in omega
          arith) (record {
            now = g.A.Archive.bytes c.open_file.new.archive;
            nodes = o.0;
            chain = c.in-Ok-open_file.ledger;
            read = o.1;
            grows = c.serve_from-end.ensures.keeps;
            run = ends_told _ (faults (g.K.Link.faults c.args.link.now)
                (g.A.Archive.faults c.args.archive.now) disk (g.Y.Relay.faults c.args.relay.now))
                (faults (g.K.Link.faults c.serve_from-end.new.link)
                (g.A.Archive.faults c.serve_from-end.new.archive) disk (g.Y.Relay.faults c.serve_from-end.new.relay))
                (with_disk (g.Y.Relay.faults c.args.relay.now) (g.Y.Relay.faults c.serve_from-end.new.relay) _ _ _ _ disk)
                _ _ (Unit {0}) (λ sure acked flight left. tt) g.A.Archive _ _ _ r.0 _ (λ sure. tt) r.3;
          })),
    )

pub returns-in-Ok-open_file-clause-keeps : goal.returns-in-Ok-open_file-clause-keeps
returns-in-Ok-open_file-clause-keeps g c = λ t. all_grow_more _ _ _ (c.in-Ok-open_file.ensures.only_reads.keeps t)
    (c.serve_from-end.ensures.keeps t)

pub returns-in-Err-clause-ends : goal.returns-in-Err-clause-ends
returns-in-Err-clause-ends g c = λ disk. (
  no_traffic,
  (λ t. goes_none _, λ t. sym (append-nil _)),
  rw c.status_of.ensures (unread_ends g.A.Archive c.args.magic (g.Y.Relay.faults c.args.relay.now) _ _ _ _ _ disk _ _ c.in-Err.fault
      c.in-Err.ensures.only_reads (λ e. c.in-Err.ensures.bad (ap Err e))),
)

pub returns-in-Ok-open_file-clause-causes : goal.returns-in-Ok-open_file-clause-causes
returns-in-Ok-open_file-clause-causes g c = λ disk.
    rw c.of_end.ensures (caused_still _ _ _ _ _ _ _ disk _ (run_caused _ _
    (rw c.in-Ok-open_file.ensures.only_reads.uncounted at c.serve_from-end.ensures.causes)))

pub returns-in-Ok-open_file-clause-unserved : goal.returns-in-Ok-open_file-clause-unserved
returns-in-Ok-open_file-clause-unserved g c = λ unserved. absurd (serves _ (rw c.of_end.ensures at unserved))

pub returns-in-Err-clause-causes : goal.returns-in-Err-clause-causes
returns-in-Err-clause-causes g c = λ disk.
    rw c.status_of.ensures (unread_caused g.A.Archive.tells _ _ _ _ _ _ _ disk c.in-Err.fault
    c.in-Err.ensures.only_reads)

-- out of memory for the desk
pub returns-in_default-clause-ends : goal.returns-in_default-clause-ends
returns-in_default-clause-ends g c = λ disk. (
  no_traffic,
  (λ t. goes_none _, λ t. sym (append-nil _)),
  inl (silent _ _ _ _ _ disk disk [] refl refl (rose_none _) (rose_none disk)),
)

pub returns-in_default-clause-causes : goal.returns-in_default-clause-causes
returns-in_default-clause-causes g c = λ disk. caused_starved _ _ _

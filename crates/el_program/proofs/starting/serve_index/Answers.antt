use Rattle.std.proofs.Common.{ap, Err, inl, ◌∙◌, sym, append-nil}
use Rattle.el_outside.proofs.Traces.{goes_none, all_grow_more}
use Rattle.el_loop.specs.Traffic.{no_traffic}
use Rattle.el_program.proofs.Rises.{caused_starved, start_caused, opened_end, start_opened, run_caused, serves}
use Rattle.el_program.proofs.Servings.{memory_ends, served_ends, start_ends}
use Rattle.el_program.proofs.starting.serve_index.Goals as goal

pub returns-in-Ok-open_headers-clause-ends : goal.returns-in-Ok-open_headers-clause-ends
returns-in-Ok-open_headers-clause-ends g c = λ index stood.
    let o = c.in-Ok-open_headers.ensures.opened index stood in
    let r = rw (o.4, c.in-Ok-open_headers.ensures.only_reads.uncounted, c.in-Ok-open_headers.ensures.cause.uncounted) at
    (c.serve_from-end.ensures.ends index.sure c.args.relays index.chain
    (λ sure. c.in-Ok-open_headers.ensures.quiet.stays.still_stands index.chain (stood sure))
    (λ sure. c.in-Ok-open_headers.ensures.caches index.chain (stood sure)) c.in-Ok.ensures) in (
      r.0,
      (r.1, r.2),
      rw c.of_end.ensures (served_ends g.A.Archive c.args.magic
          c.args.limits c.args.relays index _ _ _ _ r.0 _ (record {
            headers = o.0;
            told = o.2;
            now = c.open_headers.new.archive;
            nodes = o.1;
            scanned = o.3;
            same = o.5;
            grows = c.serve_from-end.ensures.keeps;
            run = r.3;
          })),
    )

pub returns-in-Ok-open_headers-clause-keeps : goal.returns-in-Ok-open_headers-clause-keeps
returns-in-Ok-open_headers-clause-keeps g c = λ t. all_grow_more _ _ _ (c.in-Ok-open_headers.ensures.only_reads.keeps t)
    (c.serve_from-end.ensures.keeps t)

pub returns-in-Err-clause-ends : goal.returns-in-Err-clause-ends
returns-in-Err-clause-ends g c = λ index stood. (
  no_traffic,
  (λ t. goes_none _, λ t. sym (append-nil _)),
  rw c.status_of.ensures (start_ends g.A.Archive c.args.magic
      c.args.limits c.args.relays index _ (g.Y.Relay.faults c.args.relay.now) _ _ _ _ _ _ _ _ _ c.in-Err.fault c.in-Err.ensures.only_reads c.in-Err.ensures.cause
      (λ e. c.in-Err.ensures.other index stood (ap Err e))
      (λ sure told left now. inl (g.met.G.Ledger.leaves_own c.open_headers.new.ledger index.chain left told
      (c.in-Err.ensures.quiet.stays.still_live c.requires.live)
      (c.in-Err.ensures.quiet.stays.still_stands index.chain (stood sure)) now))),
)

pub returns-in-Ok-open_headers-clause-causes : goal.returns-in-Ok-open_headers-clause-causes
returns-in-Ok-open_headers-clause-causes g c =
    rw c.of_end.ensures (run_caused _ _
    (rw (c.in-Ok-open_headers.ensures.only_reads.uncounted, c.in-Ok-open_headers.ensures.cause.uncounted) at
    c.serve_from-end.ensures.causes))

pub returns-in-Ok-open_headers-clause-unserved : goal.returns-in-Ok-open_headers-clause-unserved
returns-in-Ok-open_headers-clause-unserved g c = λ unserved. absurd (serves _ (rw c.of_end.ensures at unserved))

pub returns-in-Ok-open_headers-clause-opened : goal.returns-in-Ok-open_headers-clause-opened
returns-in-Ok-open_headers-clause-opened g c = rw c.of_end.ensures (opened_end _)

pub returns-in-Err-clause-causes : goal.returns-in-Err-clause-causes
returns-in-Err-clause-causes g c =
    rw c.status_of.ensures (start_caused g.A.Archive.tells _ _ _ _ _ _ _ _ _ c.in-Err.fault
    c.in-Err.ensures.only_reads c.in-Err.ensures.cause)

pub returns-in-Err-clause-opened : goal.returns-in-Err-clause-opened
returns-in-Err-clause-opened g c = rw c.status_of.ensures (start_opened c.in-Err.fault)

pub returns-in-Ok-open_headers-clause-beside : goal.returns-in-Ok-open_headers-clause-beside
returns-in-Ok-open_headers-clause-beside g c = λ told.
    c.serve_from-end.ensures.beside told ∙ c.in-Ok-open_headers.ensures.quiet.below.files told

pub returns-in-Err-clause-beside : goal.returns-in-Err-clause-beside
returns-in-Err-clause-beside g c = c.in-Err.ensures.quiet.below.files

-- out of memory for the desk
pub returns-in_default-clause-ends : goal.returns-in_default-clause-ends
returns-in_default-clause-ends g c = λ index stood. (
  no_traffic,
  (λ t. goes_none _, λ t. sym (append-nil _)),
  memory_ends g.A.Archive c.args.magic c.args.limits c.args.relays index _ _ _ _ _ _ _ _
      (λ sure told left now. inl (g.met.G.Ledger.leaves_own c.args.ledger index.chain left told c.requires.live (stood sure) now)),
)

pub returns-in_default-clause-causes : goal.returns-in_default-clause-causes
returns-in_default-clause-causes g c = caused_starved _ _ _

use Rattle.std.proofs.Common.{◌≡◌, ◌∙◌, inl, ap, sym, subst, Err, true}
use Rattle.el_outside.proofs.Traces.{goes_none, all_grow_more}
use Rattle.el_outside.proofs.Calls.{has_one, reads_more}
use Rattle.el_chain.specs.Chains.{Chain}
use Rattle.el_model.proofs.LedgerMoves.{asked_on}
use Rattle.el_loop.specs.Traffic.{no_traffic}
use Rattle.el_audit_run.proofs.Found.{finding_weaker}
use Rattle.el_program.specs.Audits.{HasChain}
use Rattle.el_program.proofs.Audits.{audit_sent, audit_caused, audit_unstarted, audit_unfound, unfound_caused, unfound_opened, told_opened}
use Rattle.el_program.proofs.Rises.{start_caused, start_opened}
use Rattle.el_program.proofs.audited.audit_ledger.Goals as goal

-- the headers can't be had
pub returns-in-Err-clause-ends : goal.returns-in-Err-clause-ends
returns-in-Err-clause-ends g c = λ turns of_relay index stood. (
  no_traffic,
  λ t. goes_none _,
  rw c.status_of.ensures (audit_unstarted g.A.Archive c.args.magic index of_relay turns _ _ _ _ _ _ _ _ c.in-Err.fault
      c.in-Err.ensures.only_reads c.in-Err.ensures.cause (λ e. c.in-Err.ensures.other index stood (ap Err e))),
)

pub returns-in-Err-clause-causes : goal.returns-in-Err-clause-causes
returns-in-Err-clause-causes g c = λ turns of_relay.
    rw c.status_of.ensures (start_caused g.A.Archive.tells _ _ turns _ _ _ _ _ _ c.in-Err.fault
    c.in-Err.ensures.only_reads c.in-Err.ensures.cause)

pub returns-in-Err-clause-opened : goal.returns-in-Err-clause-opened
returns-in-Err-clause-opened g c = rw c.status_of.ensures (start_opened c.in-Err.fault)

pub returns-in-Err-clause-own : goal.returns-in-Err-clause-own
returns-in-Err-clause-own g c = λ chain stands told left now.
    inl (g.met.G.Ledger.leaves_own c.scan_headers.new.ledger chain left told (c.in-Err.ensures.quiet.stays.still_live c.requires.live)
    (c.in-Err.ensures.quiet.stays.still_stands chain stands) now)

-- the audit finds something
pub returns-in-Ok-audit_index-clause-ends : goal.returns-in-Ok-audit_index-clause-ends
returns-in-Ok-audit_index-clause-ends g c = λ turns of_relay index stood.
    let l = g.G.Ledger in
    let o = c.in-Ok.ensures.opened index stood in
    let quiet = c.in-Ok.ensures.quiet in
    audit_sent g.A.Archive g.K.Link c.args.link.now c.tell.new.link c.args.magic index c.args.archive.now c.audit_index.new.archive of_relay turns _ _ _ _
    c.in-Ok-audit_index.finding c.tell.result c.tell.ensures.ends c.tell.ensures.sent c.tell.ensures.not_sent c.tell.ensures.counted c.tell.ensures.uncounted
    c.tell.ensures.same_calls (c.in-Ok-audit_index.ensures.only_reads.uncounted ∙ c.in-Ok.ensures.only_reads.uncounted)
    (c.in-Ok-audit_index.ensures.cause.uncounted ∙ c.in-Ok.ensures.cause.uncounted)
    (record {
      headers = o.0;
      told = o.2;
      now = c.scan_headers.new.archive;
      nodes = o.1;
      scanned = o.3;
      same = o.5;
      grows = c.in-Ok-audit_index.ensures.only_reads.keeps;
      tip = l.tip c.scan_headers.new.ledger;
      tip_is = λ sure. g.met.G.Ledger.tip_is c.scan_headers.new.ledger index.chain (quiet.stays.still_stands index.chain (stood sure));
      found = rw o.4 at (finding_weaker (l.stands c.scan_headers.new.ledger) (HasChain index) _ _ _ c.in-Ok-audit_index.finding
          (λ own is. subst (l.stands c.scan_headers.new.ledger) is.1 (quiet.stays.still_stands index.chain (stood is.0)))
          c.in-Ok-audit_index.ensures.found);
    })

pub returns-in-Ok-audit_index-clause-causes : goal.returns-in-Ok-audit_index-clause-causes
returns-in-Ok-audit_index-clause-causes g c = λ turns of_relay.
    audit_caused of_relay turns _ _ _ _ _ _ _ _ c.in-Ok-audit_index.finding c.tell.result c.tell.ensures.ends c.tell.ensures.counted c.tell.ensures.uncounted
    c.tell.ensures.same_calls (c.in-Ok-audit_index.ensures.only_reads.uncounted ∙ c.in-Ok.ensures.only_reads.uncounted)
    (c.in-Ok-audit_index.ensures.cause.uncounted ∙ c.in-Ok.ensures.cause.uncounted)

pub returns-in-Ok-audit_index-clause-opened : goal.returns-in-Ok-audit_index-clause-opened
returns-in-Ok-audit_index-clause-opened g c = (told_opened c.in-Ok-audit_index.finding c.tell.result c.tell.ensures.ends).0

pub returns-in-Ok-audit_index-clause-unserved : goal.returns-in-Ok-audit_index-clause-unserved
returns-in-Ok-audit_index-clause-unserved g c = λ unserved.
    absurd ((told_opened c.in-Ok-audit_index.finding c.tell.result c.tell.ensures.ends).1 unserved)

pub returns-in-Ok-audit_index-clause-keeps : goal.returns-in-Ok-audit_index-clause-keeps
returns-in-Ok-audit_index-clause-keeps g c = λ t.
    all_grow_more _ _ _ (c.in-Ok.ensures.only_reads.keeps t) (c.in-Ok-audit_index.ensures.only_reads.keeps t)

pub returns-in-Ok-audit_index-clause-quiet : goal.returns-in-Ok-audit_index-clause-quiet
returns-in-Ok-audit_index-clause-quiet g c = asked_on g.G.Ledger _ _ _ c.in-Ok.ensures.quiet c.in-Ok-audit_index.ensures.quiet

pub returns-in-Ok-audit_index-clause-own : goal.returns-in-Ok-audit_index-clause-own
returns-in-Ok-audit_index-clause-own g c = λ chain stands told left now.
    let quiet = asked_on g.G.Ledger _ _ _ c.in-Ok.ensures.quiet c.in-Ok-audit_index.ensures.quiet in
    inl (g.met.G.Ledger.leaves_own c.audit_index.new.ledger chain left told (quiet.stays.still_live c.requires.live)
    (quiet.stays.still_stands chain stands) now)

-- it finds nothing
pub returns-clause-ends : goal.returns-clause-ends
returns-clause-ends g c = λ turns of_relay index stood. (
  no_traffic,
  λ t. goes_none _,
  rw c.status_of-in-Err-audit_index.ensures (audit_unfound g.A.Archive c.args.magic index of_relay turns _ _ _ _ _ _ _ _ _ _ c.in-Err-audit_index.fault
      (reads_more (has_one c.in-Ok.ensures.only_reads) c.in-Err-audit_index.ensures.only_reads)
      (rw c.in-Ok.ensures.cause.uncounted at c.in-Err-audit_index.ensures.cause)),
)

pub returns-clause-causes : goal.returns-clause-causes
returns-clause-causes g c = λ turns of_relay.
    rw c.status_of-in-Err-audit_index.ensures (unfound_caused g.A.Archive.tells _ _ of_relay turns _ _ _ _ _ _ c.in-Err-audit_index.fault
    (reads_more (has_one c.in-Ok.ensures.only_reads) c.in-Err-audit_index.ensures.only_reads)
    (rw c.in-Ok.ensures.cause.uncounted at c.in-Err-audit_index.ensures.cause))

pub returns-clause-opened : goal.returns-clause-opened
returns-clause-opened g c = rw c.status_of-in-Err-audit_index.ensures (unfound_opened c.in-Err-audit_index.fault)

pub returns-clause-keeps : goal.returns-clause-keeps
returns-clause-keeps g c = λ t.
    all_grow_more _ _ _ (c.in-Ok.ensures.only_reads.keeps t) (c.in-Err-audit_index.ensures.only_reads.keeps t)

pub returns-clause-quiet : goal.returns-clause-quiet
returns-clause-quiet g c = asked_on g.G.Ledger _ _ _ c.in-Ok.ensures.quiet c.in-Err-audit_index.ensures.quiet

pub returns-clause-own : goal.returns-clause-own
returns-clause-own g c = λ chain stands told left now.
    let quiet = asked_on g.G.Ledger _ _ _ c.in-Ok.ensures.quiet c.in-Err-audit_index.ensures.quiet in
    inl (g.met.G.Ledger.leaves_own c.audit_index.new.ledger chain left told (quiet.stays.still_live c.requires.live)
    (quiet.stays.still_stands chain stands) now)

pub audit_index-requires-clause-live : goal.audit_index-requires-clause-live
audit_index-requires-clause-live g c = λ κs within. c.in-Ok.ensures.quiet.stays.still_live c.requires.live

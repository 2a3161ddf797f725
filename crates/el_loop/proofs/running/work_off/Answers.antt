use Rattle.std.proofs.Common.{ap, Err, inr, refl, ◌∙◌, arith}
use Rattle.el_outside.proofs.Traces.{all_grow_none, all_grow_more}
use Rattle.el_core.specs.Turn.{outs_of}
use Rattle.el_loop.proofs.Progresses.{begins, can_deliver, progress_more, finished, stopped_turn, stopped_sending}
use Rattle.el_loop.proofs.Rises.{rises_after, rises_other, rises_turn, turn_no_link}
use Rattle.el_side.specs.Beneath.{ghosts}
use Rattle.el_loop.specs.within.Progress.{all_ghosts}
use Rattle.el_loop.proofs.running.work_off.Goals as goal

pub loop-outs-init : goal.loop-outs-init
loop-outs-init g c = record {
  progress = λ world all stood ready. begins (all_ghosts (ghosts g.G.Ledger g.A.Archive) g.Y.Relay g.K.Link) world all _ stood ready;
  live = c.requires.live;
  keeps = λ t. all_grow_none _;
  numbers = λ n up. up;
  same_calls = refl;
  same_last = refl;
  link_more = omega arith;
  archive_more = omega arith;
  relay_more = omega arith;
  disk_more = omega arith;
  beside = λ told. refl;
}

pub loop-outs-preserved : goal.loop-outs-preserved
loop-outs-preserved g c = record {
  progress = λ world all stood ready.
      let p = c.loop-outs.invariant.progress world all stood ready in
      let t = rw c.in-Ok-Some.field-0-is at (c.in-Ok-Some.ensures.step p.world p.left p.stood p.ready.grown)
      in
      progress_more (all_ghosts (ghosts g.G.Ledger g.A.Archive) g.Y.Relay g.K.Link) world all _ c.loop-outs.server c.turn.new.self
      c.deliver.new.server c.loop-outs.archive c.turn.new.archive c.loop-outs.relay c.turn.new.relay c.loop-outs.link c.deliver.new.link
      (outs_of c.in-Ok-Some.outs) p t
      (c.in-Ok.ensures.delivered t.next t.rest
      (can_deliver (all_ghosts (ghosts g.G.Ledger g.A.Archive) g.Y.Relay g.K.Link) p.world p.left (outs_of c.in-Ok-Some.outs)
      c.loop-outs.server
      c.turn.new.self _ _ _ _ _ p.stood t p.ready.are_open));
  live = rw c.in-Ok.ensures.same_ledger c.in-Ok-Some.ensures.live;
  keeps = λ t. all_grow_more _ _ _ (c.loop-outs.invariant.keeps t) (c.in-Ok-Some.ensures.keeps t);
  numbers = λ n up.
      c.in-Ok.ensures.numbers n (c.in-Ok-Some.ensures.numbers n (c.loop-outs.invariant.numbers n up));
  same_calls = c.in-Ok.ensures.same_calls ∙ c.loop-outs.invariant.same_calls;
  same_last = c.in-Ok.ensures.same_last ∙ c.loop-outs.invariant.same_last;
  link_more = let a = c.loop-outs.invariant.link_more in let b = c.in-Ok.ensures.counts.more in omega arith;
  archive_more = let a = c.loop-outs.invariant.archive_more in let b = c.in-Ok-Some.ensures.archive_more in
      omega arith;
  relay_more = let a = c.loop-outs.invariant.relay_more in let b = c.in-Ok-Some.ensures.relay_more in
      omega arith;
  disk_more = let a = c.loop-outs.invariant.disk_more in let b = c.in-Ok-Some.ensures.disk_more in
      rw c.in-Ok.ensures.same_ledger (omega arith);
  beside = λ told. ap g.G.Ledger.beside c.in-Ok.ensures.same_ledger
      ∙ c.in-Ok-Some.ensures.beside told ∙ c.loop-outs.invariant.beside told;
}

pub returns-in-Err-deliver-clause-stopped : goal.returns-in-Err-deliver-clause-stopped
returns-in-Err-deliver-clause-stopped g c = λ world all stood ready.
    let p = c.loop-outs.invariant.progress world all stood ready in
    let t = rw c.in-Ok-Some.field-0-is at (c.in-Ok-Some.ensures.step p.world p.left p.stood p.ready.grown) in
    stopped_sending (all_ghosts (ghosts g.G.Ledger g.A.Archive) g.Y.Relay g.K.Link) _ world all _ c.loop-outs.server c.turn.new.self
    c.deliver.new.server c.loop-outs.archive c.turn.new.archive c.loop-outs.relay c.turn.new.relay c.loop-outs.link c.deliver.new.link
    (outs_of c.in-Ok-Some.outs) _ p t
    (c.in-Err-deliver.ensures.undelivered t.next t.rest
    (can_deliver (all_ghosts (ghosts g.G.Ledger g.A.Archive) g.Y.Relay g.K.Link) p.world p.left (outs_of c.in-Ok-Some.outs) c.loop-outs.server
    c.turn.new.self _ _ _ _ _ p.stood t p.ready.are_open))
    (λ sure told left now. inr (g.met.G.Ledger.leaves_own c.turn.new.self.ledger t.next.side.chain left told
    c.in-Ok-Some.ensures.live (t.stood.chain sure) (rw c.in-Err-deliver.ensures.same_ledger at now)))

pub returns-in-Err-deliver-clause-keeps : goal.returns-in-Err-deliver-clause-keeps
returns-in-Err-deliver-clause-keeps g c =
    λ t. all_grow_more _ _ _ (c.loop-outs.invariant.keeps t) (c.in-Ok-Some.ensures.keeps t)

pub returns-in-Ok-None-clause-finished : goal.returns-in-Ok-None-clause-finished
returns-in-Ok-None-clause-finished g c = λ world all stood ready.
    let p = c.loop-outs.invariant.progress world all stood ready in
    finished (all_ghosts (ghosts g.G.Ledger g.A.Archive) g.Y.Relay g.K.Link) world all _ c.loop-outs.server c.turn.new.self
    c.loop-outs.archive
    c.turn.new.archive c.loop-outs.relay c.turn.new.relay c.loop-outs.link p
    (rw c.in-Ok-None.field-0-is at (c.in-Ok-None.ensures.done p.world p.left p.stood))
    (rw c.in-Ok-None.field-0-is at c.in-Ok-None.ensures.idle).surplus
    (rw c.in-Ok-None.field-0-is at c.in-Ok-None.ensures.unchanged)
    c.in-Ok-None.ensures.keeps

pub returns-in-Ok-None-clause-numbers : goal.returns-in-Ok-None-clause-numbers
returns-in-Ok-None-clause-numbers g c = λ last up.
    c.in-Ok-None.ensures.numbers last (c.loop-outs.invariant.numbers last up)

pub returns-in-Ok-None-clause-keeps : goal.returns-in-Ok-None-clause-keeps
returns-in-Ok-None-clause-keeps g c =
    λ t. all_grow_more _ _ _ (c.loop-outs.invariant.keeps t) (c.in-Ok-None.ensures.keeps t)

pub returns-in-Err-clause-stopped : goal.returns-in-Err-clause-stopped
returns-in-Err-clause-stopped g c = λ world all stood ready.
    let p = c.loop-outs.invariant.progress world all stood ready in
    let t = c.in-Err.ensures.failed p.world p.left p.stood p.ready.grown in
    stopped_turn (all_ghosts (ghosts g.G.Ledger g.A.Archive) g.Y.Relay g.K.Link) _ world all _ c.loop-outs.server c.turn.new.self
    c.loop-outs.archive c.turn.new.archive c.loop-outs.relay c.turn.new.relay c.loop-outs.link _ c.in-Err.fault p t c.in-Err.ensures.unasked
    (λ sure told left now. let over = (t.stops_at sure).crash told in over.each left (g.met.G.Ledger.earlier
    c.turn.new.self.ledger _ _ left over.later now))
    c.in-Err.ensures.keeps c.halt_of.ensures

pub returns-in-Err-clause-keeps : goal.returns-in-Err-clause-keeps
returns-in-Err-clause-keeps g c =
    λ t. all_grow_more _ _ _ (c.loop-outs.invariant.keeps t) (c.in-Err.ensures.keeps t)

pub returns-in-Err-deliver-clause-link_counts : goal.returns-in-Err-deliver-clause-link_counts
returns-in-Err-deliver-clause-link_counts g c =
    rises_after c.loop-outs.invariant.link_more c.in-Err-deliver.ensures.counts

pub returns-in-Err-clause-link_counts : goal.returns-in-Err-clause-link_counts
returns-in-Err-clause-link_counts g c =
    turn_no_link _ _ c.in-Err.fault _ c.halt_of.ensures c.loop-outs.invariant.link_more

pub returns-in-Err-clause-disk_counts : goal.returns-in-Err-clause-disk_counts
returns-in-Err-clause-disk_counts g c =
    rises_turn _ _ _ c.in-Err.fault _ c.halt_of.ensures c.loop-outs.invariant.disk_more
    c.in-Err.ensures.disk_more
    (λ e. c.in-Err.ensures.disk_counted (ap Err e))

pub returns-in-Err-deliver-clause-disk_counts : goal.returns-in-Err-deliver-clause-disk_counts
returns-in-Err-deliver-clause-disk_counts g c =
    let a = c.loop-outs.invariant.disk_more in
    let b = c.in-Ok-Some.ensures.disk_more in
    rw c.in-Err-deliver.ensures.same_ledger (rises_other (omega arith) c.in-Err-deliver.ensures.no_disk)

pub returns-in-Err-deliver-clause-beside : goal.returns-in-Err-deliver-clause-beside
returns-in-Err-deliver-clause-beside g c = λ told. ap g.G.Ledger.beside c.in-Err-deliver.ensures.same_ledger
    ∙ c.in-Ok-Some.ensures.beside told ∙ c.loop-outs.invariant.beside told

pub returns-in-Ok-None-clause-beside : goal.returns-in-Ok-None-clause-beside
returns-in-Ok-None-clause-beside g c = λ told.
    c.in-Ok-None.ensures.beside told ∙ c.loop-outs.invariant.beside told

pub returns-in-Err-clause-beside : goal.returns-in-Err-clause-beside
returns-in-Err-clause-beside g c = λ told. c.in-Err.ensures.beside told ∙ c.loop-outs.invariant.beside told

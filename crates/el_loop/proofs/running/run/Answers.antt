use Rattle.std.proofs.Common.{inl, refl, sym, ◌∙◌, arith, ap}
use Rattle.el_outside.specs.Trace.{with_bytes}
use Rattle.el_outside.proofs.Traces.{all_grow_none, all_grow_more}
use Rattle.el_loop.proofs.Runs.{going_none, one_further, going_more, told_ended, told_spent, told_failed, told_stopped, told_halt, enters}
use Rattle.el_loop.proofs.Numbers.{above_next, no_less, up_to_next}
use Rattle.el_side.proofs.Deeds.{each_more}
use Rattle.el_loop.proofs.Rises.{counted_none, counted_more, caused_end, caused_next, caused_halt}
use Rattle.el_side.specs.Beneath.{ghosts}
use Rattle.el_loop.specs.within.Progress.{taken_one, all_ghosts, snapshot}
use Rattle.el_loop.specs.within.Sending.{halt_stop}
use Rattle.el_core.specs.Arrivals.{with_all_bytes}
use Rattle.el_loop.proofs.running.run.Goals as goal

pub loop-turn-init : goal.loop-turn-init
loop-turn-init g c = record {
  going = λ first stood nobody files.
      going_none (all_ghosts (ghosts g.G.Ledger g.A.Archive) g.Y.Relay g.K.Link) first c.args.options.node _
      stood nobody c.requires.idle.surplus (λ t. rw files (all_grow_none _));
  live = c.requires.live;
  idle = c.requires.idle;
  numbers = rw c.requires.nobody tt;
  counted = counted_none _ _;
  keeps = λ t. all_grow_none _;
  beside = λ told. refl;
}

pub returns-clause-ends : goal.returns-clause-ends
returns-clause-ends g c = λ first stood nobody files.
    told_spent (all_ghosts (ghosts g.G.Ledger g.A.Archive) g.Y.Relay g.K.Link) _ first c.args.options.node c.loop-turn._turn
    c.args.options.turns _ (snapshot c.loop-turn.server c.loop-turn.archive c.loop-turn.relay c.loop-turn.link)
    (λ chain stood told left now. inl (g.met.G.Ledger.leaves_own c.loop-turn.server.ledger chain left told
    c.loop-turn.invariant.live stood now)) nobody
    (c.loop-turn.invariant.going first stood nobody files) (let h = c.loop-turn-test.false in
    let k = c.loop-turn.auto._turn-end in omega arith)

pub returns-clause-keeps : goal.returns-clause-keeps
returns-clause-keeps g c = c.loop-turn.invariant.keeps

pub serve_arrival-requires-clause-live : goal.serve_arrival-requires-clause-live
serve_arrival-requires-clause-live g c = λ lifetimes outlive. c.loop-turn.invariant.live

pub serve_arrival-requires-clause-idle : goal.serve_arrival-requires-clause-idle
serve_arrival-requires-clause-idle g c = λ lifetimes outlive. c.loop-turn.invariant.idle

pub serve_arrival-requires-clause-new : goal.serve_arrival-requires-clause-new
serve_arrival-requires-clause-new g c = λ lifetimes outlive. (
  _,
  c.loop-turn.invariant.numbers,
  c.as_taken-taken.ensures.above _ (above_next _ _ _ c.in-Ok.ensures.lawful),
)

pub returns-in_default-clause-keeps : goal.returns-in_default-clause-keeps
returns-in_default-clause-keeps g c = c.loop-turn.invariant.keeps

pub returns-in_default-clause-ends : goal.returns-in_default-clause-ends
returns-in_default-clause-ends g c = λ first stood nobody files.
    told_failed (all_ghosts (ghosts g.G.Ledger g.A.Archive) g.Y.Relay g.K.Link) _ first c.args.options.node c.loop-turn._turn
    c.args.options.turns _ (snapshot c.loop-turn.server c.loop-turn.archive c.loop-turn.relay c.loop-turn.link) c.next.new.self
    (λ chain stood told left now. inl (g.met.G.Ledger.leaves_own c.loop-turn.server.ledger chain left told
    c.loop-turn.invariant.live stood now)) nobody
    (c.loop-turn.invariant.going first stood nobody files) c.in_default.ensures.none_taken
    c.in_default.ensures.cause.counted c.next.ensures.called c.loop-turn-test.true

pub returns-in-Err-clause-ends : goal.returns-in-Err-clause-ends
returns-in-Err-clause-ends g c = λ first stood nobody files.
    let going = c.loop-turn.invariant.going first stood nobody files in
    let is = c.as_taken-taken.ensures.taken c.brought-bytes.result.now ∙ ap (taken_one c.args.options.node)
    c.brought-bytes.ensures in
    let are = enters g.K.Link.tells c.args.options.node c.loop-turn.server going.world c.in-Ok.arrival
    c.next.new.buf
    (with_all_bytes c.as_taken-taken.result c.brought-bytes.result.now) _ _ _ _
    is going.ready.are_open (λ t p lt. g.met.K.Link.greater_is_new c.loop-turn.link p t lt)
    c.in-Ok.ensures.lawful
    c.in-Ok.ensures.took in
    let stopped = c.in-Err.ensures.stopped going.world going.stood going.told going.ready.grown are in
    rw c.end.ensures (told_halt (all_ghosts (ghosts g.G.Ledger g.A.Archive) g.Y.Relay g.K.Link) first c.args.options.node _
    c.args.options.turns
    (snapshot c.args.server.now c.args.archive.now c.args.relay.now c.args.link.now)
    (snapshot c.serve_arrival.new.server c.serve_arrival.new.archive c.serve_arrival.new.relay c.serve_arrival.new.link) c.in-Err.halt
    (told_stopped (all_ghosts (ghosts g.G.Ledger g.A.Archive) g.Y.Relay g.K.Link) _ first c.args.options.node c.loop-turn._turn
    c.args.options.turns (with_bytes c.in-Ok.arrival c.next.new.buf) _
    (snapshot c.loop-turn.server c.loop-turn.archive c.loop-turn.relay c.loop-turn.link) c.next.new.self _
    (halt_stop c.in-Err.halt) nobody
    going c.in-Ok.ensures.took c.in-Ok.ensures.cause.uncounted
    (rw c.serve_arrival.ensures.same_calls c.next.ensures.called)
    c.loop-turn-test.true (rw is at stopped)))

pub returns-in-Err-clause-keeps : goal.returns-in-Err-clause-keeps
returns-in-Err-clause-keeps g c =
    λ t. all_grow_more _ _ _ (c.loop-turn.invariant.keeps t) (c.serve_arrival.ensures.keeps t)

pub returns-then-ends-clause-ends : goal.returns-then-ends-clause-ends
returns-then-ends-clause-ends g c = λ first stood nobody files.
    let going = c.loop-turn.invariant.going first stood nobody files in
    let is = c.as_taken-taken.ensures.taken c.brought-bytes.result.now ∙ ap (taken_one c.args.options.node)
    c.brought-bytes.ensures in
    let are = enters g.K.Link.tells c.args.options.node c.loop-turn.server going.world c.in-Ok.arrival
    c.next.new.buf
    (with_all_bytes c.as_taken-taken.result c.brought-bytes.result.now) _ _ _ _
    is going.ready.are_open (λ t p lt. g.met.K.Link.greater_is_new c.loop-turn.link p t lt)
    c.in-Ok.ensures.lawful
    c.in-Ok.ensures.took in
    let done = c.in_default-serve_arrival.ensures.served going.world going.stood going.told going.ready.grown are in
    told_ended (all_ghosts (ghosts g.G.Ledger g.A.Archive) g.Y.Relay g.K.Link) _ first c.args.options.node c.loop-turn._turn
    c.args.options.turns (with_bytes c.in-Ok.arrival c.next.new.buf) _
    (snapshot c.serve_arrival.new.server c.serve_arrival.new.archive c.serve_arrival.new.relay c.serve_arrival.new.link)
    (λ chain stood told left now. inl (g.met.G.Ledger.leaves_own c.serve_arrival.new.server.ledger chain left
    told c.in_default-serve_arrival.ensures.live stood now)) nobody
    (one_further (all_ghosts (ghosts g.G.Ledger g.A.Archive) g.Y.Relay g.K.Link) first c.args.options.node c.loop-turn._turn
    (with_bytes c.in-Ok.arrival c.next.new.buf) _
    (snapshot c.loop-turn.server c.loop-turn.archive c.loop-turn.relay c.loop-turn.link) c.next.new.self _
    going c.in-Ok.ensures.took c.in-Ok.ensures.cause.uncounted
    (rw c.serve_arrival.ensures.same_calls c.next.ensures.called) (rw is at done))
    (sym (c.ends.ensures c.next.new.buf) ∙ c.if-ends.true) c.loop-turn-test.true

pub returns-then-ends-clause-keeps : goal.returns-then-ends-clause-keeps
returns-then-ends-clause-keeps g c =
    λ t. all_grow_more _ _ _ (c.loop-turn.invariant.keeps t) (c.serve_arrival.ensures.keeps t)

pub loop-turn-preserved : goal.loop-turn-preserved
loop-turn-preserved g c = record {
  going = λ first stood nobody files.
      let going = c.loop-turn.invariant.going first stood nobody files in
      let is = c.as_taken-taken.ensures.taken c.brought-bytes.result.now ∙ ap (taken_one c.args.options.node)
      c.brought-bytes.ensures in
      let are = enters g.K.Link.tells c.args.options.node c.loop-turn.server going.world c.in-Ok.arrival
      c.next.new.buf (with_all_bytes c.as_taken-taken.result c.brought-bytes.result.now) _ _ _ _
      is going.ready.are_open (λ t p lt. g.met.K.Link.greater_is_new c.loop-turn.link p t lt)
      c.in-Ok.ensures.lawful c.in-Ok.ensures.took in
      let done = c.in_default-serve_arrival.ensures.served going.world going.stood going.told going.ready.grown are in
      going_more (all_ghosts (ghosts g.G.Ledger g.A.Archive) g.Y.Relay g.K.Link) first c.args.options.node c.loop-turn._turn
      (with_bytes c.in-Ok.arrival c.next.new.buf) _ _
      (one_further (all_ghosts (ghosts g.G.Ledger g.A.Archive) g.Y.Relay g.K.Link) first c.args.options.node c.loop-turn._turn
      (with_bytes c.in-Ok.arrival c.next.new.buf) _
      (snapshot c.loop-turn.server c.loop-turn.archive c.loop-turn.relay c.loop-turn.link) c.next.new.self _
      going c.in-Ok.ensures.took c.in-Ok.ensures.cause.uncounted
      (rw c.serve_arrival.ensures.same_calls c.next.ensures.called) (rw is at done))
      (sym (c.ends.ensures c.next.new.buf) ∙ c.if-ends.false);
  live = c.in_default-serve_arrival.ensures.live;
  idle = c.in_default-serve_arrival.ensures.idle;
  numbers = rw c.serve_arrival.ensures.same_last (c.in_default-serve_arrival.ensures.numbers _ _
      (no_less _ _ _ c.in-Ok.ensures.lawful) c.loop-turn.invariant.numbers
      (c.as_taken-taken.ensures.up_to _ (up_to_next _ _ _ c.in-Ok.ensures.lawful)));
  counted = counted_more _ _ _ _ _ _ _ c.loop-turn.invariant.counted
      (rw c.serve_arrival.ensures.same_calls c.next.ensures.called)
      (each_more _ _ (let a = c.in-Ok.ensures.cause.uncounted in
      let b = c.serve_arrival.ensures.link_counts.more in omega arith)
      c.serve_arrival.ensures.archive_more c.serve_arrival.ensures.disk_counts.more c.serve_arrival.ensures.relay_more);
  keeps = λ t. all_grow_more _ _ _ (c.loop-turn.invariant.keeps t) (c.serve_arrival.ensures.keeps t);
  beside = λ told. c.serve_arrival.ensures.beside told ∙ c.loop-turn.invariant.beside told;
}

pub returns-in_default-clause-causes : goal.returns-in_default-clause-causes
returns-in_default-clause-causes g c =
    caused_next _ _ _ _ _ _ _ _ c.loop-turn.invariant.counted c.loop-turn-test.true c.next.ensures.called
    c.in_default.ensures.cause.counted refl refl refl

pub returns-in-Err-clause-causes : goal.returns-in-Err-clause-causes
returns-in-Err-clause-causes g c =
    rw c.end.ensures (caused_halt _ _ _ _ _ _ _ _ c.in-Err.halt c.serve_arrival.result
    c.loop-turn.invariant.counted c.loop-turn-test.true
    (rw c.serve_arrival.ensures.same_calls c.next.ensures.called) c.in-Err.is
    (rw c.in-Ok.ensures.cause.uncounted at c.serve_arrival.ensures.link_counts)
    c.serve_arrival.ensures.archive_more c.serve_arrival.ensures.disk_counts c.serve_arrival.ensures.relay_more)

pub returns-then-ends-clause-causes : goal.returns-then-ends-clause-causes
returns-then-ends-clause-causes g c =
    let n = c.loop-turn-test.true in
    caused_end _ _ _ _ _ _ _ (counted_more _ _ _ _ _ _ _ c.loop-turn.invariant.counted
    (rw c.serve_arrival.ensures.same_calls c.next.ensures.called)
    (each_more _ _ (let a = c.in-Ok.ensures.cause.uncounted in
    let b = c.serve_arrival.ensures.link_counts.more in omega arith)
    c.serve_arrival.ensures.archive_more c.serve_arrival.ensures.disk_counts.more c.serve_arrival.ensures.relay_more)) (omega arith)
    refl (λ e. absurd cc)

pub returns-clause-causes : goal.returns-clause-causes
returns-clause-causes g c =
    let h = c.loop-turn-test.false in
    let k = c.loop-turn.auto._turn-end in
    caused_end _ _ _ _ _ _ _ c.loop-turn.invariant.counted (omega arith)
    refl (λ e. omega arith)

pub returns-clause-beside : goal.returns-clause-beside
returns-clause-beside g c = c.loop-turn.invariant.beside

pub returns-in_default-clause-beside : goal.returns-in_default-clause-beside
returns-in_default-clause-beside g c = c.loop-turn.invariant.beside

pub returns-in-Err-clause-beside : goal.returns-in-Err-clause-beside
returns-in-Err-clause-beside g c = λ told.
    c.serve_arrival.ensures.beside told ∙ c.loop-turn.invariant.beside told

pub returns-then-ends-clause-beside : goal.returns-then-ends-clause-beside
returns-then-ends-clause-beside g c = λ told.
    c.serve_arrival.ensures.beside told ∙ c.loop-turn.invariant.beside told

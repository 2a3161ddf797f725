use Rattle.std.proofs.Common.{true, ap, sym, ◌∙◌}
use Rattle.el_side.specs.Beneath.{beneath, ghosts}
use Rattle.el_side.specs.Side.{Moving}
use Rattle.el_sync.specs.Steps.{left_by}
use Rattle.el_sync.proofs.Led.{leads_in}
use Rattle.el_world.specs.World.{reply_to}
use Rattle.el_core.proofs.Noded.{stops_still, fails_still, step_still, step_fails, keeps_ok, keeps_err, keeps_starved}
use Rattle.el_core.proofs.Starving.{move_starves, move_fails}
use Rattle.el_core.proofs.server.Server.turn_ahead.Goals as goal

pub returns-in-Ok-touch-clause-moving : goal.returns-in-Ok-touch-clause-moving
returns-in-Ok-touch-clause-moving g c = rw (← c.self.view_is) (λ side start here found. record {
  answer = c.in-Ok-move_next.step.answer;
  moved = c.in-Ok-move_next.step.moved;
  changed = c.in-Ok-move_next.step.changed;
  sends = c.sending_in.ensures ∙ ap (reply_to 0) c.answer_text.ensures;
  led = leads_in _ side start (Moving g.A.Archive side 0 c.self.inside.ahead) _ (left_by (beneath c.self.inside.ledger c.args.archive.now) (beneath c.move_next.new.ledger c.move_next.new.archive)
      c.in-Ok-move_next.step side.found c.move_next.new.holdings c.move_next.new.caches) c.move_next.new.holdings.tree (found ∙ sym c.in-Ok-move_next.ensures.tree) (λ losses next led. led)
      (rw c.replace-rest.ensures.value at (c.in-Ok-move_next.ensures.moving side start here));
  covers = c.in-Ok-touch.ensures.covers;
})

pub returns-in-Ok-touch-clause-sends : goal.returns-in-Ok-touch-clause-sends
returns-in-Ok-touch-clause-sends g c = (c.answer_text.result, c.sending_in.ensures)

pub returns-in-Ok-touch-clause-step : goal.returns-in-Ok-touch-clause-step
returns-in-Ok-touch-clause-step g c = rw (← c.self.view_is) (keeps_ok (ghosts g.G.Ledger g.A.Archive) _ _ _ _ _ c.in-Ok-move_next.step _ c.in-Ok-move_next.ensures.step)

-- no memory for what the step touched
pub returns-in_default-touch-clause-stopped : goal.returns-in_default-touch-clause-stopped
returns-in_default-touch-clause-stopped g c = rw (← c.self.view_is) (λ side start sure here.
    move_starves _ side start c.self.inside.ahead (left_by (beneath c.self.inside.ledger c.args.archive.now) (beneath c.move_next.new.ledger c.move_next.new.archive) c.in-Ok-move_next.step side.found c.move_next.new.holdings c.move_next.new.caches)
    sure (rw c.replace-rest.ensures.value at (c.in-Ok-move_next.ensures.moving side start here)))

pub returns-in_default-touch-clause-lost : goal.returns-in_default-touch-clause-lost
returns-in_default-touch-clause-lost g c = rw (← c.self.view_is) (λ side start un here.
    move_fails _ side start c.self.inside.ahead (left_by (beneath c.self.inside.ledger c.args.archive.now) (beneath c.move_next.new.ledger c.move_next.new.archive) c.in-Ok-move_next.step side.found c.move_next.new.holdings c.move_next.new.caches)
    (rw c.replace-rest.ensures.value at (c.in-Ok-move_next.ensures.moving side start here)))

pub returns-in_default-touch-clause-step : goal.returns-in_default-touch-clause-step
returns-in_default-touch-clause-step g c = rw (← c.self.view_is) (keeps_starved (ghosts g.G.Ledger g.A.Archive) _ _ _ _ _ c.in-Ok-move_next.step c.in-Ok-move_next.ensures.step)

pub returns-in_default-clause-stopped : goal.returns-in_default-clause-stopped
returns-in_default-clause-stopped g c = λ side start sure here.
    stops_still (ghosts g.G.Ledger g.A.Archive) c.args.self.now.ledger c.args.archive.now side.chain _ _ (λ m n d t h i j. g.met.G.Ledger.leaves_own m n d t h i j) c.requires.live (here.stood sure)

pub returns-in_default-clause-step : goal.returns-in_default-clause-step
returns-in_default-clause-step g c = step_still (ghosts g.G.Ledger g.A.Archive) c.args.self.now.ledger c.args.archive.now c.requires.live

pub returns-in-Err-clause-stopped : goal.returns-in-Err-clause-stopped
returns-in-Err-clause-stopped g c = rw (← c.self.view_is) (λ side start sure here. rw c.replace-rest.ensures.value at (c.in-Err.ensures.stopped side.chain (here.stood sure)))

pub returns-in-Err-clause-step : goal.returns-in-Err-clause-step
returns-in-Err-clause-step g c = rw (← c.self.view_is) (keeps_err (ghosts g.G.Ledger g.A.Archive) _ _ _ _ _ c.in-Err.fault c.in-Err.ensures.step)

pub returns-in_default-clause-lost : goal.returns-in_default-clause-lost
returns-in_default-clause-lost g c = λ side start un here. fails_still (ghosts g.G.Ledger g.A.Archive) c.args.self.now.ledger c.args.archive.now side.chain true

pub returns-in-Err-clause-lost : goal.returns-in-Err-clause-lost
returns-in-Err-clause-lost g c = rw (← c.self.view_is) (λ side start un here. step_fails (ghosts g.G.Ledger g.A.Archive) _ _ side.chain true c.in-Err.fault c.in-Err.ensures.step)

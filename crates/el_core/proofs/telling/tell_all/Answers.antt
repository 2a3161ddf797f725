use Rattle.std.proofs.Common.{None, Some, ap, ◌∙◌, map, ℕ, List}
use Rattle.el_outside.specs.Trace.{Message}
use Rattle.el_core.proofs.telling.tell_all.Goals as goal

pub returns-in-Ok-clause-some : goal.returns-in-Ok-clause-some
returns-in-Ok-clause-some g c =
    let lines = c.in_ok-lines.lines.items in
    record {
      texts = lines;
      told = c.in_ok-lines.ensures.notices;
      outs_are = ap (λ (ms : List Message). record { messages = ms; closing = None })
          (c.in-Ok.ensures ∙ ap (λ (p : ℕ). map (λ (t : List ℕ). record { peer = p; text = t }) lines) c.peer-peer.ensures);
      now = c.tell.new.self.session;
      stays = c.in_ok-lines.ensures.stays;
      left_is = ap Some c.in_ok-lines.ensures.only;
    }

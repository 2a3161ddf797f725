use Rattle.std.proofs.Common.{inl, refl, sym, [], ℕ, ap, ◌∙◌}
use Rattle.el_replies.specs.Spending.{asked_ghosts}
use Rattle.el_side.specs.Beneath.{ghosts}
use Rattle.el_core.specs.State.{ClientState}
use Rattle.el_world.specs.World.{outs_of_reply, closes_memory}
use Rattle.el_core.specs.within.Clients.{starved}
use Rattle.el_replies.proofs.Losing.{did_none}
use Rattle.el_core.proofs.Replying.{line_replied, line_starved}
use Rattle.el_core.proofs.client.answer_line.Goals as goal
use Rattle.el_core.proofs.client.answer_line.Goals.{in-Ok-reply_line, in-Err}
use Rattle.el_json.specs.Lines.{line_says}
use Rattle.el_replies.specs.RowBounds.{LineReads}
use Rattle.el_core.proofs.LineRows.{line_none, none_within}

pub returns-in_default-clause-answered : goal.returns-in_default-clause-answered
returns-in_default-clause-answered g c = λ side at'.
    starved [] (record {}) (inl refl) (c.closing.ensures ∙ ap closes_memory c.peer-peer.ensures) refl (did_none (asked_ghosts (ghosts g.G.Ledger g.A.Archive) g.Y.Relay) _)

pub returns-clause-answered : goal.returns-clause-answered
returns-clause-answered g c = rw (← c.client.view_is) (λ side at'.
    let r = c.reply_line.ensures.answered side at' in
    let peer_is = c.peer-peer.ensures ∙ sym (ap (λ (d : ClientState). d.peer) c.client.view_is) in
    let comes = r.done [] in
    elim c.match-reply_line.branch [
      | in-Ok-reply_line w ↦ rw w.result-is
          (line_replied _ side _ c.client.inside.peer _ _ _ r.deeds c.reply_line.result _ _ w.in-Ok-reply_line.reply w.in-Ok-reply_line.is comes
          (w.replying.ensures ∙ ap (λ (q : ℕ). outs_of_reply q w.in-Ok-reply_line.reply) peer_is) refl r.did)
      | in-Err w ↦ rw w.result-is
          (line_starved _ side _ c.client.inside.peer _ _ _ r.deeds c.reply_line.result _ _ w.in-Err.field-0 w.in-Err.is comes
          (w.closing-in-Err.ensures ∙ ap closes_memory peer_is) refl r.did)
    ])

pub returns-clause-watched : goal.returns-clause-watched
returns-clause-watched g c = rw (← c.client.view_is) c.reply_line.ensures.watched

pub returns-in_default-clause-rows : goal.returns-in_default-clause-rows
returns-in_default-clause-rows g c = λ chain stood cached.
    let buckets = g.G.Ledger.buckets c.args.ledger.now in
    none_within (LineReads chain buckets (line_says c.args.line.now)) _ _ (line_none chain buckets (line_says c.args.line.now)) refl

use Rattle.std.proofs.Common.{◌≡◌, Ok, Some, sym, ap, subst, ◌∙◌, refl}
use Rattle.std.specs.Prelude.{Result, IsOk}
use Rattle.serde_json.specs.Data.{Data}
use Rattle.el_base.specs.declared.hash.Hash32.{Hash32}
use Rattle.el_outside.specs.declared.relay.Relay as relays
use Rattle.el_relay.specs.Desk.{said}
use Rattle.el_relay.specs.declared.fault.OfferFault.{OfferFault}
use Rattle.el_calls.specs.declared.refusal.Refusal.{Refusal}
use Rattle.el_replies.specs.Broadcasts.{IsBroadcast, told_of_desk}
use Rattle.el_replies.proofs.Broadcasting.{offered_by, counted_by, untold}
use Rattle.el_replies.proofs.broadcast.broadcast.Goals as goal

pub returns-in_ok-shown_of-in-Ok-clause-told : goal.returns-in_ok-shown_of-in-Ok-clause-told
returns-in_ok-shown_of-in-Ok-clause-told g c = (
  c.broadcast.result,
  record {
    reason = c.broadcast.ensures.reason;
    next_is = c.broadcast.ensures.desk;
    rose = counted_by c.args.desk.now c.args.bytes.now c.broadcast.result _ _ c.broadcast.ensures.cause;
    offered = λ t'. offered_by c.args.bytes.now (said c.args.desk.now c.broadcast.result) _ _ (c.broadcast.ensures.adds t');
  },
  ap told_of_desk c.in-Ok.is ∙ ap (λ (d : Data). Some (Ok d)) (sym c.in_ok-shown_of-in-Ok.ensures),
)

pub returns-in_err-shown_of-in-Ok-clause-told : goal.returns-in_err-shown_of-in-Ok-clause-told
returns-in_err-shown_of-in-Ok-clause-told g c = (
  c.broadcast.result,
  record {
    reason = c.broadcast.ensures.reason;
    next_is = c.broadcast.ensures.desk;
    rose = counted_by c.args.desk.now c.args.bytes.now c.broadcast.result _ _ c.broadcast.ensures.cause;
    offered = λ t'. offered_by c.args.bytes.now (said c.args.desk.now c.broadcast.result) _ _ (c.broadcast.ensures.adds t');
  },
  untold c.broadcast.result c.from_residual.result _ c.from_residual.ensures.1
      (subst (λ (r : Result Hash32 OfferFault). IsOk r) (sym c.in-Ok.is) refl),
)

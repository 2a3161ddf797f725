-- What a request is answered where no call of a device fails: just what is defined.
use Rattle.std.specs.Prelude.{◌≡◌, ◌≢◌, ℕ, List, ◌++◌, Some, None, Result, Ok, Err}
use Rattle.serde_json.specs.Data.{Data}
use Rattle.el_base.specs.declared.hash.Hash32.{Hash32}
use Rattle.el_relay.specs.Desk.{HasReason, desk_after, said}
use Rattle.el_relay.specs.declared.fault.OfferFault.{OfferFault}
use Rattle.el_relay.specs.declared.fault.OfferFault.TheVariants as fault
use Rattle.el_json.specs.declared.request.Request.{Request}
use Rattle.el_calls.specs.Methods.{IsCalled, raw_tx_of}
use Rattle.el_calls.specs.declared.call.Call.{Call}
use Rattle.el_calls.specs.declared.refusal.Refusal.{Refusal}
use Rattle.el_methods.specs.Replied.{replied}
use Rattle.el_replies.specs.Broadcasts.{told_of_desk, deeds_by}
use Rattle.el_replies.specs.Spending.{Spent, spent}
use Rattle.el_sessions.specs.declared.session.Session.{Session}
use Rattle.el_side.specs.Side.{Side}

-- the client is told what is defined of a call, and is kept so
abbrev pub IsToldAsDefined : Result (Data × Session) Refusal → Session → Result Data Refusal → Session
    → Type 0
IsToldAsDefined (Ok (answer, kept)) s told t = (told ≡ Ok answer) × (t ≡ kept)
IsToldAsDefined (Err r) s told t = (told ≡ Err r) × (t ≡ s)

-- The request is answered over the side as it is defined, and nothing is lost.
pub data AnswersAsDefined (side : Side) (before : Spent) (r : Request) (s : Session)
    (told : Result Data Refusal) (after : Spent) (t : Session) : Type 0 where
  -- it asks for no call
  refused : (e : Refusal) → IsCalled r.method r.params (Err e) → told ≡ Err e → t ≡ s → after ≡ before
      → AnswersAsDefined side before r s told after t
  -- it asks for this call
  asked : (c : Call) → IsCalled r.method r.params (Ok c) → raw_tx_of c ≡ None
      → IsToldAsDefined (replied side.chain side.kept side.found s c) s told t → after ≡ before
      → AnswersAsDefined side before r s told after t
  -- it asks for a broadcast of these bytes, and no call of the relay fails
  broadcast : (c : Call) (bytes : List ℕ) (by : Result Hash32 OfferFault)
      → IsCalled r.method r.params (Ok c) → raw_tx_of c ≡ Some bytes → HasReason before.desk bytes by
      → by ≢ Err fault.RelayFailed → told_of_desk by ≡ Some told → t ≡ s
      → after ≡ spent (before.deeds ++ deeds_by bytes (said before.desk by)) (desk_after before.desk by)
      → AnswersAsDefined side before r s told after t

-- What a client is told of a request, and what was done in it.
use Rattle.std.specs.Prelude.{◌≡◌, ℕ, List, [], ◌∷◌, ◌++◌, Some, None, Result, Ok, Err}
use Rattle.serde_json.specs.Data.{Data}
use Rattle.el_base.specs.declared.hash.Hash32.{Hash32}
use Rattle.el_relay.specs.Desk.{DeskState, HasReason, desk_after, said}
use Rattle.el_relay.specs.declared.fault.OfferFault.{OfferFault}
use Rattle.el_side.specs.Deeds as deed
use Rattle.el_side.specs.Deeds.{Deed, archive, disk}
use Rattle.el_json.specs.declared.request.Request.{Request}
use Rattle.el_calls.specs.Methods.{IsCalled, raw_tx_of}
use Rattle.el_side.specs.Side.{Side}
use Rattle.el_methods.specs.Replied.{IsGiven}
use Rattle.el_replies.specs.Requested.{told_of}
use Rattle.el_replies.specs.Broadcasts.{told_of_desk, deeds_by}
use Rattle.el_replies.specs.Spending.{Spent, spent}
use Rattle.el_calls.specs.declared.call.Call.{Call}
use Rattle.el_calls.specs.declared.refusal.Refusal.{Refusal}
use Rattle.el_sessions.specs.declared.session.Session.{Session}
use Rattle.el_methods.specs.declared.stop.Stop.{Stop}
use Rattle.el_methods.specs.declared.stop.Stop.TheVariants as stop

-- The devices whose calls failed: the client is told code 3 of the index's disk and code 4 of the block
-- files. That these have changed, code 5, is no failed call.
abbrev pub losses_of : Result Data Stop → List Deed
losses_of (Ok answer) = []
losses_of (Err (stop.Refused r)) = []
losses_of (Err stop.Disk) = deed.lost disk ∷ []
losses_of (Err stop.Archive) = deed.lost archive ∷ []
losses_of (Err stop.Changed) = []
losses_of (Err stop.Memory) = []

-- The client with this session is told so of the request over the side, has that session then, and this was
-- done by it, where the desk kept that before. `tells` is that the block files tell what they hold.
pub data IsTold (tells : Type 0) (side : Side) (r : Request) (s : Session) (told : Result Data Refusal)
    (t : Session) (desk : DeskState) (does : Spent) : Type 0 where
  -- it asks for no call
  refused : (e : Refusal) → IsCalled r.method r.params (Err e) → told ≡ Err e → t ≡ s
      → does ≡ spent [] desk → IsTold tells side r s told t desk does
  -- it asks for this call
  asked : (c : Call) (given : Result Data Stop)
      → IsCalled r.method r.params (Ok c) → raw_tx_of c ≡ None → told_of given ≡ Some told
      → IsGiven tells side c s t given → does ≡ spent (losses_of given) desk
      → IsTold tells side r s told t desk does
  -- it asks for a broadcast of these bytes
  broadcast : (c : Call) (bytes : List ℕ) (by : Result Hash32 OfferFault)
      → IsCalled r.method r.params (Ok c) → raw_tx_of c ≡ Some bytes → HasReason desk bytes by
      → told_of_desk by ≡ Some told → t ≡ s
      → does ≡ spent (deeds_by bytes (said desk by)) (desk_after desk by)
      → IsTold tells side r s told t desk does

-- As `IsTold`, where `before` was done already, and `after` is that with what this request did.
abbrev pub AnswersOf : Type 0 → Side → Spent → Request → Session → Result Data Refusal → Spent → Session
    → Type 0
AnswersOf tells side before r s told after t =
    (does : Spent) × IsTold tells side r s told t before.desk does
    × (after ≡ spent (before.deeds ++ does.deeds) does.desk)

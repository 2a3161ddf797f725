-- Batches of requests (JSON-RPC 2.0, section 6): one reply after the other, until their texts have too many
-- bytes.
use Rattle.std.specs.Prelude.{◌≡◌, ◌⊎◌, ℕ, ◌+◌, ◌||◌, nat_lt, Bool, true, false, if◌then◌else◌, MatchBool}
use Rattle.std.specs.Prelude.{List, [], ◌∷◌, ◌++◌, length, Option, Some, None, Result, Ok, Err}
use Rattle.serde_json.specs.Data.{Data}
use Rattle.serde_json.specs.Written.{compact_text}
use Rattle.el_json.specs.declared.request.Request.{Request}
use Rattle.el_json.specs.declared.request.Item.{Item}
use Rattle.el_json.specs.declared.request.Item.TheVariants.{Good, Invalid}
use Rattle.el_replies.specs.Envelopes.{reply_value}
use Rattle.el_calls.specs.declared.refusal.Refusal.{Refusal}
use Rattle.el_calls.specs.declared.refusal.Refusal.TheVariants as refusal
use Rattle.el_sessions.specs.declared.session.Session.{Session}
use Rattle.el_replies.specs.declared.batch.TheConstants.{BATCH_LIMIT}

-- The replies of a batch so far: their texts after a bracket, with commas between; how many bytes these have
-- together, counted until they pass the limit; whether there is one; and whether the client is closed after
-- the batch.
pub record Replies : Type 0 where
  pub text : List ℕ
  pub size : ℕ
  pub any : Bool
  pub closes : Bool

-- one text more, after a comma (44), or the bracket (91) if it is the first; its bytes count until the limit
-- is passed
abbrev pub reply_appended : List ℕ → Replies → Replies
reply_appended text b = record {
  text = b.text ++ (if b.any then 44 else 91) ∷ text;
  size = if nat_lt BATCH_LIMIT b.size then b.size else b.size + length text;
  any = true;
  closes = b.closes;
}

-- A client that is told this is closed after the line.
abbrev pub is_closing : Result Data Refusal → Bool
is_closing (Err refusal.VersionNotShared) = true
is_closing answered = false

-- what was answered counts for the closing of the client, also where it is not replied
abbrev pub noted : Result Data Refusal → Replies → Replies
noted answered b = record b { closes = b.closes || is_closing answered }

-- the reply to the request with that id; a notification gets none, but takes effect
abbrev pub with_reply : Option Data → Result Data Refusal → Replies → Replies
with_reply None answered b = noted answered b
with_reply (Some id) answered b = reply_appended (compact_text (reply_value id answered)) (noted answered b)

-- `answers` says how a request may be answered in a state, and which state comes of it.
module _ {X : Type 0} (answers : X → Request → Session → Result Data Refusal → X → Session → Type 0) where
  -- A request before the limit was passed: its answer is one of those that there may be, and its reply is
  -- added.
  abbrev pub InTime : Request → X → Session → Replies → X → Session → Replies → Type 0
  InTime r x s b y t c =
      (answered : Result Data Refusal) × answers x r s answered y t × (c ≡ with_reply r.id answered b)

  -- an element; a request after the limit was passed has no effect
  abbrev pub Step : Item → X → Session → Replies → X → Session → Replies → Type 0
  Step (Good r) x s b y t c =
      MatchBool (nat_lt BATCH_LIMIT b.size)
      ((y ≡ x) × (t ≡ s) × (c ≡ with_reply r.id (Err refusal.BatchTooLarge) b))
      (InTime r x s b y t c)
  Step (Invalid id) x s b y t c = (y ≡ x) × (t ≡ s) × (c ≡ with_reply (Some id) (Err refusal.Invalid) b)

  -- the elements in order, each in the state that the one before it left
  abbrev pub Steps : List Item → X → Session → Replies → X → Session → Replies → Type 0
  Steps [] x s b y t c = (y ≡ x) × (t ≡ s) × (c ≡ b)
  Steps (i ∷ is) x s b y t c =
      (between : X) × (session : Session) × (replies : Replies) × Step i x s b between session replies
      × Steps is between session replies y t c

  -- Memory ran out in a request: it did nothing, or it was answered a result, for which there was no room.
  abbrev pub CutAnswer : Request → X → Session → X → Type 0
  CutAnswer r x s y = (y ≡ x) ⊎ ((found : Data) × (t : Session) × answers x r s (Ok found) y t)

  -- memory ran out at an element
  abbrev pub CutStep : Item → X → Session → Replies → X → Type 0
  CutStep (Good r) x s b y = MatchBool (nat_lt BATCH_LIMIT b.size) (y ≡ x) (CutAnswer r x s y)
  CutStep (Invalid id) x s b y = y ≡ x

  -- Memory ran out at one of the elements, after those before it were answered. There is room to tell of a
  -- device that fails before a device is asked.
  abbrev pub CutSteps : List Item → X → Session → Replies → X → Type 0
  CutSteps [] x s b y = ⊥
  CutSteps (i ∷ is) x s b y =
      CutStep i x s b y
      ⊎ ((between : X) × (session : Session) × (replies : Replies) × Step i x s b between session replies
      × CutSteps is between session replies y)

module _ {X : Type 0} (answers : X → Request → Session → Result Data Refusal → X → Session → Type 0) where
  -- what the elements that are left make of these values completes what all of them make of those
  abbrev pub Completes : List Item → X → Session → Replies → List Item → X → Session → Replies → Type 0
  Completes left y t c all x s b =
      (z : X) (u : Session) (d : Replies) → Steps answers left y t c z u d → Steps answers all x s b z u d

  -- Where memory runs out among the elements that are left, it runs out among all of them.
  abbrev pub CutCompletes : List Item → X → Session → Replies → List Item → X → Session → Replies → Type 0
  CutCompletes left y t c all x s b =
      (z : X) → CutSteps answers left y t c z → CutSteps answers all x s b z

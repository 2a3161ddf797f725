-- What comes of a client's line (JSON-RPC 2.0; Electrum Protocol 1.4). It stands without the byte 10 that
-- ended it, by which each message is ended.
use Rattle.std.specs.Prelude.{◌≡◌, ◌⊎◌, ℕ, false, if◌then◌else◌, List, [], ◌∷◌, ◌++◌, Option, Some, None, Result, Ok, Err}
use Rattle.serde_json.specs.Data.{Data, null}
use Rattle.serde_json.specs.Written.{compact_text}
use Rattle.el_base.specs.declared.memory.OutOfMemory.{OutOfMemory}
use Rattle.el_json.specs.Lines.{line_says}
use Rattle.el_json.specs.declared.request.Request.{Request}
use Rattle.el_json.specs.declared.request.Envelope.{Envelope}
use Rattle.el_json.specs.declared.request.Envelope.TheVariants.{One, Batch}
use Rattle.el_json.specs.declared.request.LineFault.{LineFault}
use Rattle.el_json.specs.declared.request.LineFault.TheVariants as fault
use Rattle.el_replies.specs.Envelopes.{reply_value}
use Rattle.el_replies.specs.Batches.{Replies, Steps, CutAnswer, CutSteps, is_closing}
use Rattle.el_replies.specs.declared.line.LineReply.{LineReply}
use Rattle.el_calls.specs.declared.refusal.Refusal.{Refusal}
use Rattle.el_calls.specs.declared.refusal.Refusal.TheVariants as refusal
use Rattle.el_sessions.specs.declared.session.Session.{Session}

-- the message with one reply
abbrev pub message : Data → Result Data Refusal → List ℕ
message id answered = compact_text (reply_value id answered) ++ 10 ∷ []

-- the message with the reply to a request, if it isn't a notification
abbrev pub message_to : Option Data → Result Data Refusal → Option (List ℕ)
message_to None answered = None
message_to (Some id) answered = Some (message id answered)

-- the message with the reply to a request, if it has one, and whether the client is then closed
abbrev pub reply_to : Option Data → Result Data Refusal → LineReply
reply_to id answered = record { text = message_to id answered; closes = is_closing answered }

-- what a batch begins with
abbrev pub no_replies : Replies
no_replies = record { text = []; size = 0; any = false; closes = false }

-- the message with the replies of a batch, if there is one (93 is the closing bracket)
abbrev pub batch_message : Replies → Option (List ℕ)
batch_message b = if b.any then Some (b.text ++ 93 ∷ 10 ∷ []) else None

-- what comes of a batch: its message, and whether one of its answers closes the client
abbrev pub batch_reply : Replies → LineReply
batch_reply b = record { text = batch_message b; closes = b.closes }

-- the client gets this message, and stays
abbrev pub says : List ℕ → LineReply
says text = record { text = Some text; closes = false }

module _ {X : Type 0} (answers : X → Request → Session → Result Data Refusal → X → Session → Type 0) where
  -- what comes of what a line says, where memory is found
  abbrev pub IsReplyTo : Result Envelope LineFault → X → Session → X → Session → LineReply → Type 0
  IsReplyTo (Err fault.Parse) x s y t reply =
      (y ≡ x) × (t ≡ s) × (reply ≡ says (message null (Err refusal.Parse)))
  IsReplyTo (Err (fault.Invalid id)) x s y t reply =
      (y ≡ x) × (t ≡ s) × (reply ≡ says (message id (Err refusal.Invalid)))
  IsReplyTo (Err fault.Memory) x s y t reply = ⊥
  IsReplyTo (Ok (One r)) x s y t reply =
      (answered : Result Data Refusal) × answers x r s answered y t × (reply ≡ reply_to r.id answered)
  IsReplyTo (Ok (Batch items)) x s y t reply =
      (replies : Replies) × Steps answers items x s no_replies y t replies × (reply ≡ batch_reply replies)

  -- What comes of what a line says where memory runs out meanwhile: nothing was done, but in requests that
  -- were answered, of which the last may be answered a result for which there was no room.
  abbrev pub IsCutAt : Result Envelope LineFault → X → Session → X → Type 0
  IsCutAt (Err e) x s y = y ≡ x
  IsCutAt (Ok (One r)) x s y = CutAnswer answers r x s y
  IsCutAt (Ok (Batch items)) x s y = CutSteps answers items x s no_replies y

  -- What comes of the line: the reply, or memory ran out, while the line was read or then.
  abbrev pub IsLineReply : List ℕ → X → Session → X → Session → Result LineReply OutOfMemory → Type 0
  IsLineReply line x s y t (Ok reply) = IsReplyTo (line_says line) x s y t reply
  IsLineReply line x s y t (Err e) = (y ≡ x) ⊎ IsCutAt (line_says line) x s y

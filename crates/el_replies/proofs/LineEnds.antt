-- What a line says, and what comes of it.
use Rattle.std.proofs.Common.{◌≡◌, sym, ap, subst, List, Option, Result, Ok, Err, ℕ, refl, inl, inr}
use Rattle.std.specs.Prelude.{IfOk, MatchResult}
use Rattle.serde_json.specs.Data.{Data, null}
use Rattle.el_base.specs.declared.memory.OutOfMemory.{OutOfMemory}
use Rattle.el_json.specs.Lines.{line_says}
use Rattle.el_json.specs.declared.request.Request.{Request}
use Rattle.el_json.specs.declared.request.Item.{Item}
use Rattle.el_json.specs.declared.request.Envelope.{Envelope}
use Rattle.el_json.specs.declared.request.Envelope.TheVariants.{Batch}
use Rattle.el_json.specs.declared.request.LineFault.{LineFault}
use Rattle.el_json.specs.declared.request.LineFault.TheVariants as fault
use Rattle.el_calls.specs.declared.refusal.Refusal.{Refusal}
use Rattle.el_calls.specs.declared.refusal.Refusal.TheVariants as refusal
use Rattle.el_sessions.specs.declared.session.Session.{Session}
use Rattle.el_replies.specs.Batches.{Replies, Steps, CutSteps}
use Rattle.el_replies.specs.LineReplies.{message, says, batch_message, no_replies}
use Rattle.el_replies.specs.LineReplies.{IsReplyTo, IsCutAt, IsLineReply}
use Rattle.el_replies.specs.declared.line.LineReply.{LineReply}

module _ {X : Type 0} (answers : X → Request → Session → Result Data Refusal → X → Session → Type 0) where
  pub of_said : (line : List ℕ) (said : Result Envelope LineFault) (x y : X) (s t : Session)
      (result : Result LineReply OutOfMemory) → line_says line ≡ said
      → MatchResult result (λ reply. IsReplyTo answers said x s y t reply) (λ e. IsCutAt answers said x s y)
      → IsLineReply answers line x s y t result
  of_said line said x y s t (Ok reply) is h =
      let P : Result Envelope LineFault → Type 0 = λ l. IsReplyTo answers l x s y t reply in subst P (sym is) h
  of_said line said x y s t (Err e) is h =
      let P : Result Envelope LineFault → Type 0 = λ l. IsCutAt answers l x s y in inr (subst P (sym is) h)

  -- it is no JSON, or no request
  pub no_json : (line : List ℕ) (x : X) (s : Session) (result : Result LineReply OutOfMemory)
      → line_says line ≡ Err fault.Parse
      → IfOk result (λ reply. reply ≡ says (message null (Err refusal.Parse)))
      → IsLineReply answers line x s x s result
  no_json line x s (Ok reply) is h = of_said line (Err fault.Parse) x x s s (Ok reply) is (refl, refl, h)
  no_json line x s (Err e) is h = inl refl

  pub no_request : (line : List ℕ) (id : Data) (x : X) (s : Session) (result : Result LineReply OutOfMemory)
      → line_says line ≡ Err (fault.Invalid id)
      → IfOk result (λ reply. reply ≡ says (message id (Err refusal.Invalid)))
      → IsLineReply answers line x s x s result
  no_request line id x s (Ok reply) is h =
      of_said line (Err (fault.Invalid id)) x x s s (Ok reply) is (refl, refl, h)
  no_request line id x s (Err e) is h = inl refl

  -- it is a batch: none had a reply before its first element
  pub batch_said : (items : List Item) (x y : X) (s t : Session) (b c : Replies) (text : Option (List ℕ))
      → b ≡ no_replies → text ≡ batch_message c → Steps answers items x s b y t c
      → IsReplyTo answers (Ok (Batch items)) x s y t (record { text = text; closes = c.closes })
  batch_said items x y s t b c text none is steps = (
    c,
    subst (λ (start : Replies). Steps answers items x s start y t c) none steps,
    ap (λ (m : Option (List ℕ)). record { text = m; closes = c.closes }) is,
  )

  pub batch_cut : (items : List Item) (x y : X) (s : Session) (b : Replies) → b ≡ no_replies
      → CutSteps answers items x s b y → CutSteps answers items x s no_replies y
  batch_cut items x y s b none cut =
      subst (λ (start : Replies). CutSteps answers items x s start y) none cut

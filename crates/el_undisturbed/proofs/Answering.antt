-- A client's line, while whose requests are answered no call of a device fails: each is answered as it is defined.
use Rattle.std.proofs.Common.{◌≡◌, ℕ, Bool, true, false, nat_lt, List, [], ◌∷◌, ◌++◌, Some, Result, Ok, Err, refl, sym, ◌∙◌, append-nil}
use Rattle.std.specs.Prelude.{MatchBool}
use Rattle.serde_json.specs.Data.{Data}
use Rattle.el_base.specs.declared.hash.Hash32.{Hash32}
use Rattle.el_relay.specs.Desk.{DeskState, said}
use Rattle.el_relay.specs.declared.fault.OfferFault.{OfferFault}
use Rattle.el_relay.specs.declared.fault.OfferFault.TheVariants as offer
use Rattle.el_side.specs.Deeds.{Deed, NoneLost}
use Rattle.el_side.proofs.Deeds.{none_front, none_back}
use Rattle.el_json.specs.Lines.{line_says}
use Rattle.el_json.specs.declared.request.Request.{Request}
use Rattle.el_json.specs.declared.request.Item.{Item}
use Rattle.el_json.specs.declared.request.Item.TheVariants.{Good, Invalid}
use Rattle.el_json.specs.declared.request.Envelope.{Envelope}
use Rattle.el_json.specs.declared.request.Envelope.TheVariants.{One, Batch}
use Rattle.el_json.specs.declared.request.LineFault.{LineFault}
use Rattle.el_json.specs.declared.request.LineFault.TheVariants as fault
use Rattle.el_calls.specs.declared.call.Call.{Call}
use Rattle.el_calls.specs.declared.refusal.Refusal.{Refusal}
use Rattle.el_calls.specs.declared.refusal.Refusal.TheVariants as refusal
use Rattle.el_methods.specs.Archives.{HasAsked}
use Rattle.el_methods.specs.Replied.{IsGiven, replied}
use Rattle.el_methods.specs.declared.stop.Stop.{Stop}
use Rattle.el_methods.specs.declared.stop.Stop.TheVariants as stop
use Rattle.el_sessions.specs.declared.session.Session.{Session}
use Rattle.el_replies.specs.Batches.{Replies, InTime, Step, Steps, with_reply}
use Rattle.el_replies.specs.LineReplies.{IsReplyTo, IsLineReply, no_replies}
use Rattle.el_replies.specs.Losses as answer
use Rattle.el_replies.specs.Losses.{AnswersOf, IsTold, losses_of}
use Rattle.el_replies.specs.Broadcasts.{deeds_by}
use Rattle.el_replies.specs.Spending.{Spent, spent}
use Rattle.el_replies.specs.Requested.{told_of}
use Rattle.el_replies.specs.declared.batch.TheConstants.{BATCH_LIMIT}
use Rattle.el_replies.specs.declared.line.LineReply.{LineReply}
use Rattle.el_side.specs.Side.{Side, IsSure}
use Rattle.el_undisturbed.specs.AsDefined as defined
use Rattle.el_undisturbed.specs.AsDefined.{AnswersAsDefined}

-- nothing was lost for what the client is told
none_of : (given : Result Data Stop) → NoneLost (losses_of given) → losses_of given ≡ []
none_of (Ok a) none = refl
none_of (Err (stop.Refused r)) none = refl
none_of (Err stop.Disk) none = absurd none.0
none_of (Err stop.Archive) none = absurd none.0
none_of (Err stop.Changed) none = refl
none_of (Err stop.Memory) none = refl

-- nor did the relay fail
not_failed : (desk : DeskState) (bytes : List ℕ) (by : Result Hash32 OfferFault) → by ≡ Err offer.RelayFailed
    → NoneLost (deeds_by bytes (said desk by)) → ⊥
not_failed desk bytes by failed none = (rw failed at none).0

no_more : (before does : Spent) (deeds : List Deed) → does ≡ spent deeds before.desk → deeds ≡ []
    → spent (before.deeds ++ does.deeds) does.desk ≡ before
no_more before does deeds is none = rw (is, none, append-nil before.deeds) refl

some_is : {x y : Result Data Refusal} → Some x ≡ Some y → y ≡ x
some_is e = cc

module _ (tells : Type 0) (side : Side) (sure : IsSure side) (told' : tells) (has : (c : Call) → HasAsked side.files side.chain c) where
  -- one call
  given_as : (c : Call) (s t : Session) (given : Result Data Stop) (told : Result Data Refusal) → IsGiven tells side c s t given
      → told_of given ≡ Some told → losses_of given ≡ [] → defined.IsToldAsDefined (replied side.chain side.kept side.found s c) s told t
  given_as c s t (Ok a) told g is none = rw (g.of_files (sure, told', has c)) (some_is is, refl)
  given_as c s t (Err (stop.Refused r)) told g is none =
      let d = g.of_files (sure, told', has c) in
      rw d.0 (some_is is, d.1)
  given_as c s t (Err stop.Disk) told g is none = absurd (let bad = none in cc)
  given_as c s t (Err stop.Archive) told g is none = absurd (let bad = none in cc)
  given_as c s t (Err stop.Changed) told g is none = absurd (g.unchanged (sure, told', has c) refl)
  given_as c s t (Err stop.Memory) told g is none = absurd cc

  -- one request
  told_as : (before after does : Spent) (r : Request) (s t : Session) (told : Result Data Refusal) → IsTold tells side r s told t before.desk does
      → NoneLost does.deeds → after ≡ spent (before.deeds ++ does.deeds) does.desk → AnswersAsDefined side before r s told after t
  told_as before after does r s t told (answer.refused e called is same does_is) none still =
      defined.refused e called is same (still ∙ no_more before does [] does_is refl)
  told_as before after does r s t told (answer.asked c given called plain is g does_is) none still =
      let lost = none_of given (rw does_is at none) in
      defined.asked c called plain (given_as c s t given told g is lost) (still ∙ no_more before does (losses_of given) does_is lost)
  told_as before after does r s t told (answer.broadcast c bytes by called raw reason is same does_is) none still =
      defined.broadcast c bytes by called raw reason (λ failed. not_failed before.desk bytes by failed (rw does_is at none)) is same (rw does_is at still)

  answered_as : (x y : Spent) (r : Request) (s t : Session) (told : Result Data Refusal) → AnswersOf tells side x r s told y t → NoneLost y.deeds
      → NoneLost x.deeds × AnswersAsDefined side x r s told y t
  answered_as x y r s t told a none =
      let all : NoneLost (x.deeds ++ a.0.deeds) = rw a.2 at none in
      (none_front x.deeds a.0.deeds all, told_as x y a.0 r s t told a.1 (none_back x.deeds a.0.deeds all) a.2)

  -- an element of a batch
  step_as : (i : Item) (x y : Spent) (s t : Session) (b c : Replies) → Step (AnswersOf tells side) i x s b y t c → NoneLost y.deeds
      → NoneLost x.deeds × Step (AnswersAsDefined side) i x s b y t c
  step_as (Invalid id) x y s t b c step none = (rw step.0 at none, step)
  step_as (Good r) x y s t b c step none = by (nat_lt BATCH_LIMIT b.size) step
    where
      by : (late : Bool)
          → MatchBool late ((y ≡ x) × (t ≡ s) × (c ≡ with_reply r.id (Err refusal.BatchTooLarge) b)) (InTime (AnswersOf tells side) r x s b y t c)
          → NoneLost x.deeds × MatchBool late ((y ≡ x) × (t ≡ s) × (c ≡ with_reply r.id (Err refusal.BatchTooLarge) b)) (InTime (AnswersAsDefined side) r x s b y t c)
      by true done = (rw done.0 at none, done)
      by false done = let a = answered_as x y r s t done.0 done.1 none in (a.0, (done.0, a.1, done.2))

  steps_as : (is : List Item) (x y : Spent) (s t : Session) (b c : Replies) → Steps (AnswersOf tells side) is x s b y t c → NoneLost y.deeds
      → NoneLost x.deeds × Steps (AnswersAsDefined side) is x s b y t c
  steps_as [] x y s t b c done none = (rw done.0 at none, done)
  steps_as (i ∷ is) x y s t b c (between, session, replies, step, rest) none =
      let more = steps_as is between y session t replies c rest none in
      let one = step_as i x between s session b replies step more.0 in
      (one.0, (between, session, replies, one.1, more.1))

  reply_as : (said : Result Envelope LineFault) (x y : Spent) (s t : Session) (reply : LineReply) → NoneLost y.deeds → IsReplyTo (AnswersOf tells side) said x s y t reply
      → IsReplyTo (AnswersAsDefined side) said x s y t reply
  reply_as (Err fault.Parse) x y s t reply none r = r
  reply_as (Err (fault.Invalid id)) x y s t reply none r = r
  reply_as (Err fault.Memory) x y s t reply none r = r
  reply_as (Ok (One r)) x y s t reply none (answered, a, is) = (answered, (answered_as x y r s t answered a none).1, is)
  reply_as (Ok (Batch items)) x y s t reply none (replies, steps, is) = (replies, (steps_as items x y s t no_replies replies steps none).1, is)

  pub line_as : (bytes : List ℕ) (x y : Spent) (s t : Session) (reply : LineReply) → NoneLost y.deeds → IsLineReply (AnswersOf tells side) bytes x s y t (Ok reply)
      → IsLineReply (AnswersAsDefined side) bytes x s y t (Ok reply)
  line_as bytes x y s t reply none r = reply_as (line_says bytes) x y s t reply none r

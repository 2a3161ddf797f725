-- What a client's line leaves told: each subscription was told its status before, and is afterwards.
use Rattle.std.proofs.Common.{◌≡◌, sym, ap, subst, refl, ℕ, Bool, true, false, nat_lt, List, [], ◌∷◌}
use Rattle.std.proofs.Common.{Option, Some, None, Result, Ok, Err}
use Rattle.std.specs.Prelude.{MatchBool}
use Rattle.std.proofs.lemmas.Slice.Eq.{bytes_eq-Decides}
use Rattle.serde_json.specs.Data.{Data}
use Rattle.el_base.specs.declared.hash.Hash32.{Hash32}
use Rattle.el_side.specs.Deeds.{Deed}
use Rattle.el_tx.specs.declared.types.Tx.{Tx}
use Rattle.el_chain.specs.Chains.{Chain}
use Rattle.el_chain.specs.declared.node.Node.{Node}
use Rattle.el_json.specs.Lines.{line_says}
use Rattle.el_json.specs.declared.request.Request.{Request}
use Rattle.el_json.specs.declared.request.Item.{Item}
use Rattle.el_json.specs.declared.request.Item.TheVariants.{Good, Invalid}
use Rattle.el_json.specs.declared.request.Envelope.{Envelope}
use Rattle.el_json.specs.declared.request.Envelope.TheVariants.{One, Batch}
use Rattle.el_json.specs.declared.request.LineFault.{LineFault}
use Rattle.el_json.specs.declared.request.LineFault.TheVariants as fault
use Rattle.el_calls.specs.Versions.{greatest_shared}
use Rattle.el_calls.specs.declared.call.Call.{Call}
use Rattle.el_calls.specs.declared.call.Call.TheVariants as call
use Rattle.el_calls.specs.declared.call.VersionParts.{VersionParts}
use Rattle.el_calls.specs.declared.refusal.Refusal.{Refusal}
use Rattle.el_calls.specs.declared.refusal.Refusal.TheVariants as refusal
use Rattle.el_methods.specs.Outcomes.{IsReplyWith}
use Rattle.el_methods.specs.Replied.{replied, reads_files, IsGiven, answer_with_session, with_headers}
use Rattle.el_methods.specs.Replied.{with_subscriptions, agreed, agreed_on}
use Rattle.el_methods.specs.Results as result
use Rattle.el_sessions.specs.Sessions.{Subscription, is_to, subscribed, unsubscribed}
use Rattle.el_sessions.specs.declared.session.Session.{Session}
use Rattle.el_sessions.specs.declared.session.Version.{Version}
use Rattle.el_methods.specs.declared.stop.Stop.{Stop}
use Rattle.el_methods.specs.declared.stop.Stop.TheVariants as stop
use Rattle.el_replies.specs.Batches.{Replies, InTime, Step, Steps, with_reply}
use Rattle.el_replies.specs.LineReplies.{IsReplyTo, no_replies}
use Rattle.el_replies.specs.Losses.{AnswersOf, IsTold}
use Rattle.el_replies.specs.Losses as answer
use Rattle.el_replies.specs.declared.batch.TheConstants.{BATCH_LIMIT}
use Rattle.el_replies.specs.declared.line.LineReply.{LineReply}
use Rattle.el_subs.specs.Told.{status, AllTold}
use Rattle.el_side.specs.Side.{Side, IsSure}
use Rattle.el_world.specs.World.{Standing, Comes}
use Rattle.el_replies.specs.Spending.{Spent, spent}

-- 1. What each request keeps, each line does

module _ {X : Type 0} (answers : X → Request → Session → Result Data Refusal → X → Session → Type 0)
    (P : Session → Type 0) (keeps : (x y : X) (r : Request) (s t : Session) (answered : Result Data Refusal)
    → answers x r s answered y t → P s → P t) where
  step_keeps : (i : Item) (x y : X) (s t : Session) (b c : Replies) → Step answers i x s b y t c → P s
      → P t
  step_keeps (Invalid id) x y s t b c step was = subst P (sym step.1) was
  step_keeps (Good r) x y s t b c step was = by (nat_lt BATCH_LIMIT b.size) step
    where
      by : (late : Bool)
          → MatchBool late ((y ≡ x) × (t ≡ s) × (c ≡ with_reply r.id (Err refusal.BatchTooLarge) b))
          (InTime answers r x s b y t c) → P t
      by true done = subst P (sym done.1) was
      by false done = keeps x y r s t done.0 done.1 was

  steps_keep : (is : List Item) (x y : X) (s t : Session) (b c : Replies) → Steps answers is x s b y t c
      → P s → P t
  steps_keep [] x y s t b c steps was = subst P (sym steps.1) was
  steps_keep (i ∷ is) x y s t b c steps was =
      steps_keep is steps.0 y steps.1 t steps.2 c steps.4
      (step_keeps i x steps.0 s steps.1 b steps.2 steps.3 was)

  line_keeps : (said : Result Envelope LineFault) (x y : X) (s t : Session) (reply : LineReply)
      → IsReplyTo answers said x s y t reply → P s → P t
  line_keeps (Err fault.Parse) x y s t reply is was = subst P (sym is.1) was
  line_keeps (Err (fault.Invalid id)) x y s t reply is was = subst P (sym is.1) was
  line_keeps (Err fault.Memory) x y s t reply is was = absurd is
  line_keeps (Ok (One r)) x y s t reply is was = keeps x y r s t is.0 is.1 was
  line_keeps (Ok (Batch items)) x y s t reply is was = steps_keep items x y s t no_replies is.0 is.1 was

-- 2. What the calls keep

-- what is then kept of the client
abbrev after : Session → Result (Data × Session) Refusal → Session
after s (Ok answer) = answer.1
after s (Err r) = s

reply_keeps : (P : Session → Type 0) (wanted : Result (Data × Session) Refusal) (s t : Session)
    (given : Result Data Stop) → IsReplyWith wanted s t given → P (after s wanted) → P s → P t
reply_keeps P wanted s t (Ok answer) is kept was = subst P (ap (after s) is) kept
reply_keeps P wanted s t (Err (stop.Refused r)) is kept was = subst P (sym is.1) was
reply_keeps P wanted s t (Err stop.Disk) is kept was = subst P (sym is) was
reply_keeps P wanted s t (Err stop.Archive) is kept was = subst P (sym is) was
reply_keeps P wanted s t (Err stop.Changed) is kept was = subst P (sym is) was
reply_keeps P wanted s t (Err stop.Memory) is kept was = subst P (sym is) was

the_hash : (a b : Hash32) → a.0 ≡ b.0 → a ≡ b
the_hash a b e = ap (λ (l : List ℕ). of l) e
  where
    of : List ℕ → Hash32
    of l = record { 0 = l }

-- one that is told its status is subscribed to
subscribed_told : (status : Hash32 → Option Hash32) (s : Hash32) (subs : List Subscription)
    → AllTold status subs → AllTold status (subscribed s (status s) subs)
subscribed_told status s [] all = (refl, tt)
subscribed_told status s (sub ∷ subs) all = by (is_to s sub) refl (subscribed_told status s subs all.1)
  where
    by : (there : Bool) → is_to s sub ≡ there → AllTold status (subscribed s (status s) subs)
        → AllTold status (subscribed s (status s) (sub ∷ subs))
    by true e rest = rw e (ap status (the_hash s sub.0 ((bytes_eq-Decides s.0 sub.0.0).0 e)), all.1)
    by false e rest = rw e (all.0, rest)

-- one that is dropped leaves the others
unsubscribed_told : (status : Hash32 → Option Hash32) (s : Hash32) (subs : List Subscription)
    → AllTold status subs → AllTold status (unsubscribed s subs)
unsubscribed_told status s [] all = tt
unsubscribed_told status s (sub ∷ subs) all = by (is_to s sub) refl (unsubscribed_told status s subs all.1)
  where
    by : (there : Bool) → is_to s sub ≡ there → AllTold status (unsubscribed s subs)
        → AllTold status (unsubscribed s (sub ∷ subs))
    by true e rest = rw e all.1
    by false e rest = rw e (all.0, rest)

module _ (chain : Chain) (kept : List Tx) where
  -- each subscription was told its status
  abbrev IsAllTold : Session → Type 0
  IsAllTold s = AllTold (status chain kept) s.subs

  same_session : (s : Session) (r : Result Data Refusal) → IsAllTold s
      → IsAllTold (after s (answer_with_session s r))
  same_session s (Ok answer) was = was
  same_session s (Err r) was = was

  other_headers : (s : Session) (r : Result (Data × Bool) Refusal) → IsAllTold s
      → IsAllTold (after s (with_headers s r))
  other_headers s (Ok answer) was = was
  other_headers s (Err r) was = was

  version_agreed : (s : Session) (before : Option Version) (least most : VersionParts) → IsAllTold s
      → IsAllTold (after s (agreed s before least most))
  version_agreed s (Some before) least most was = was
  version_agreed s None least most was = by (greatest_shared least most)
    where
      by : (shared : Option Version) → IsAllTold (after s (agreed_on s shared))
      by (Some version) = was
      by None = was

  one_more : (s : Session) (h : Hash32) → IsAllTold s
      → IsAllTold (after s (with_subscriptions s (result.script_hash_subscribe chain kept s.subs h)))
  one_more s h was = by (result.is_one_too_many s.subs h) refl
    where
      by : (full : Bool) → result.is_one_too_many s.subs h ≡ full
          → IsAllTold (after s (with_subscriptions s (result.script_hash_subscribe chain kept s.subs h)))
      by true e = rw e was
      by false e = rw e (subscribed_told (status chain kept) h s.subs was)

  call_keeps : (found : List Node) (c : Call) (s : Session) → IsAllTold s
      → IsAllTold (after s (replied chain kept found s c))
  call_keeps found (call.ServerVersion least most) s was = version_agreed s s.version least most was
  call_keeps found call.ServerBanner s was = was
  call_keeps found call.ServerDonationAddress s was = was
  call_keeps found call.ServerFeatures s was = same_session s (result.features found) was
  call_keeps found call.ServerPing s was = was
  call_keeps found call.ServerPeersSubscribe s was = was
  call_keeps found call.ServerAddPeer s was = was
  call_keeps found (call.BlockHeader height cp) s was =
      same_session s (result.block_header chain height cp) was
  call_keeps found (call.BlockHeaders start n cp) s was =
      same_session s (result.block_headers chain start n cp) was
  call_keeps found call.EstimateFee s was = was
  call_keeps found call.RelayFee s was = was
  call_keeps found call.HeadersSubscribe s was =
      other_headers s (result.told_tip (result.headers_subscribe chain)) was
  call_keeps found (call.GetBalance h) s was = was
  call_keeps found (call.GetHistory h) s was = same_session s (result.get_history chain kept h.0) was
  call_keeps found (call.GetMempool h) s was = same_session s (result.get_mempool chain kept h.0) was
  call_keeps found (call.ListUnspent h) s was = same_session s (result.list_unspent chain kept h.0) was
  call_keeps found (call.ScriptHashSubscribe h) s was = one_more s h was
  call_keeps found (call.ScriptHashUnsubscribe h) s was = unsubscribed_told (status chain kept) h s.subs was
  call_keeps found (call.Broadcast bytes) s was = was
  call_keeps found (call.TransactionGet id verbose) s was =
      same_session s (result.transaction_get chain kept id verbose) was
  call_keeps found (call.GetMerkle id height) s was = same_session s (result.get_merkle chain id height) was
  call_keeps found (call.IdFromPos height pos merkle) s was =
      same_session s (result.id_from_pos chain height pos merkle) was
  call_keeps found call.FeeHistogram s was = was

module _ (tells : Type 0) (side : Side) (sure : IsSure side) where
  given_keeps : (c : Call) (s t : Session) (given : Result Data Stop) → IsGiven tells side c s t given
      → IsAllTold side.chain side.kept s → IsAllTold side.chain side.kept t
  given_keeps c s t given is was = by (reads_files side.kept c) refl
    where
      by : (reads : Bool) → reads_files side.kept c ≡ reads → IsAllTold side.chain side.kept t
      by true e = subst (IsAllTold side.chain side.kept) (sym (is.still e)) was
      by false e =
          reply_keeps (IsAllTold side.chain side.kept) (replied side.chain side.kept side.found s c) s t given
          (is.of_index sure e) (call_keeps side.chain side.kept side.found c s was) was

  request_keeps : (before next : Spent) (r : Request) (s t : Session) (answered : Result Data Refusal)
      → AnswersOf tells side before r s answered next t
      → IsAllTold side.chain side.kept s → IsAllTold side.chain side.kept t
  request_keeps before next r s t answered is was = by is.0 is.1
    where
      by : (does : Spent) → IsTold tells side r s answered t before.desk does → IsAllTold side.chain side.kept t
      by does (answer.refused e asks says same none) = subst (IsAllTold side.chain side.kept) (sym same) was
      by does (answer.asked c given asks plain says gives loses) = given_keeps c s t given gives was
      by does (answer.broadcast c bytes by' asks raw reason says same is) = subst (IsAllTold side.chain side.kept) (sym same) was

-- 3. A line of a client

-- Where each subscription was told its status, it is after a line that is replied to.
pub replies_keep_told : (tells : Type 0) (side : Side) (bytes : List ℕ) (was now : Standing)
    (losses : List Deed) (reply : LineReply) → IsSure side → AllTold (status side.chain side.kept) was.client.subs
    → Comes tells side bytes was losses now (Ok reply)
    → AllTold (status side.chain side.kept) now.client.subs
replies_keep_told tells side bytes was now losses reply sure told comes =
    line_keeps (AnswersOf tells side) (IsAllTold side.chain side.kept)
    (λ x y r s t answered is. request_keeps tells side sure x y r s t answered is)
    (line_says bytes) (spent [] was.desk) (spent losses now.desk) was.client now.client reply comes told

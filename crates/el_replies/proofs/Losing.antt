-- What is done while a line is answered.
use Rattle.std.proofs.Common.{◌≡◌, ◌∙◌, inl, inr, sym, ap, subst, ℕ, ◌≤◌, nat_lt, true, false, true≢false, List, [], ◌++◌, Option, Some, None, Result, Ok, Err, refl}
use Rattle.std.proofs.Common.{append_assoc, append-nil, arith}
use Rattle.std.specs.Prelude.{OnOk, OnErr, IfOk, IsOk, IsErrAnd, MatchResult}
use Rattle.serde_json.specs.Data.{Data}
use Rattle.el_base.specs.declared.hash.Hash32.{Hash32}
use Rattle.el_outside.specs.Counts.{RoseBy}
use Rattle.el_outside.specs.Relays.{Offer}
use Rattle.el_outside.specs.declared.relay.RelayFailed.{RelayFailed}
use Rattle.el_outside.specs.declared.relay.Verdict.{Verdict}
use Rattle.el_relay.specs.Desk.{DeskState, said, desk_after}
use Rattle.el_relay.specs.declared.fault.OfferFault.{OfferFault}
use Rattle.el_relay.specs.declared.fault.OfferFault.TheVariants as fault
use Rattle.el_side.specs.Deeds.{Device, Deed, link, archive, disk, relay, failures, offers, answered, Rose, faults}
use Rattle.el_side.proofs.Deeds.{all_rose_none, all_rose_on, rose_of, rose_still, offers_on}
use Rattle.el_side.specs.Side.{Side}
use Rattle.el_json.specs.declared.request.Request.{Request}
use Rattle.el_json.specs.declared.request.Item.TheVariants.{Good}
use Rattle.el_calls.specs.Methods.{IsCalled, raw_tx_of}
use Rattle.el_calls.specs.declared.call.Call.{Call}
use Rattle.el_replies.specs.Batches.{Replies, InTime, Step, CutAnswer, CutStep, with_reply}
use Rattle.el_replies.specs.Broadcasts.{IsBroadcast, TellsOf, told_of_desk, deeds_by}
use Rattle.el_replies.specs.Losses.{losses_of, IsTold, AnswersOf}
use Rattle.el_replies.specs.Losses as told
use Rattle.el_replies.specs.Requested.{IsAnswered, told_of}
use Rattle.el_replies.specs.Spending.{AskedGhosts, Asking, asking, failed_asking, Did, Spent, spent, Loses}
use Rattle.el_methods.specs.Outcomes.{IsCounted}
use Rattle.el_methods.specs.Results.{shown_hash}
use Rattle.el_calls.specs.declared.refusal.Refusal.{Refusal}
use Rattle.el_calls.specs.declared.refusal.Refusal.TheVariants as refusal
use Rattle.el_sessions.specs.declared.session.Session.{Session}
use Rattle.el_replies.specs.declared.batch.TheConstants.{BATCH_LIMIT}
use Rattle.el_methods.specs.declared.stop.Stop.{Stop}
use Rattle.el_methods.specs.declared.stop.Stop.TheVariants as stop

-- ---- what a call loses

-- the counts are those of what was lost, and no call of the link or of the relay is among it
counts : (d a : ℕ → Type 0) (given : Result Data Stop) → IsCounted d a given
    → d (failures disk (losses_of given)) × a (failures archive (losses_of given))
counts d a (Ok answer) h = h
counts d a (Err (stop.Refused r)) h = h
counts d a (Err stop.Disk) h = h
counts d a (Err stop.Archive) h = h
counts d a (Err stop.Changed) h = h
counts d a (Err stop.Memory) h = h

none_of_others : (given : Result Data Stop) → (failures link (losses_of given) ≡ 0) × (failures relay (losses_of given) ≡ 0)
none_of_others (Ok answer) = (refl, refl)
none_of_others (Err (stop.Refused r)) = (refl, refl)
none_of_others (Err stop.Disk) = (refl, refl)
none_of_others (Err stop.Archive) = (refl, refl)
none_of_others (Err stop.Changed) = (refl, refl)
none_of_others (Err stop.Memory) = (refl, refl)

no_offers : (given : Result Data Stop) → offers (losses_of given) ≡ []
no_offers (Ok answer) = refl
no_offers (Err (stop.Refused r)) = refl
no_offers (Err stop.Disk) = refl
no_offers (Err stop.Archive) = refl
no_offers (Err stop.Changed) = refl
no_offers (Err stop.Memory) = refl

-- where memory ran out nothing was lost
none_starved : (given : Result Data Stop) → told_of given ≡ None → losses_of given ≡ []
none_starved (Ok answer) is = refl
none_starved (Err (stop.Refused r)) is = refl
none_starved (Err stop.Disk) is = absurd (let e = is in cc)
none_starved (Err stop.Archive) is = absurd (let e = is in cc)
none_starved (Err stop.Changed) is = refl
none_starved (Err stop.Memory) is = refl

rises : (a b n : ℕ) → RoseBy a b n → a ≤ b
rises a b n h = omega arith

-- neither count fell
pub never_less : (d e a b : ℕ) (given : Result Data Stop)
    → IsCounted (λ n. RoseBy d e n) (λ n. RoseBy a b n) given → (d ≤ e) × (a ≤ b)
never_less d e a b given h =
    let n = counts (λ n. RoseBy d e n) (λ n. RoseBy a b n) given h in (rises d e _ n.0, rises a b _ n.1)

-- ---- what a broadcast does

no_other_failures : (bytes : List ℕ) (by : Option (Result Verdict RelayFailed))
    → (failures link (deeds_by bytes by) ≡ 0) × (failures archive (deeds_by bytes by) ≡ 0) × (failures disk (deeds_by bytes by) ≡ 0)
no_other_failures bytes None = (refl, refl, refl)
no_other_failures bytes (Some (Ok verdict)) = (refl, refl, refl)
no_other_failures bytes (Some (Err failed)) = (refl, refl, refl)

-- where memory ran out for the desk, nothing was done
none_asked : (desk : DeskState) (bytes : List ℕ) (by : Result Hash32 OfferFault) → told_of_desk by ≡ None
    → (deeds_by bytes (said desk by) ≡ []) × (desk_after desk by ≡ desk)
none_asked desk bytes (Ok id) is = absurd (let e = is in cc)
none_asked desk bytes (Err fault.Off) is = absurd (let e = is in cc)
none_asked desk bytes (Err fault.Form) is = absurd (let e = is in cc)
none_asked desk bytes (Err fault.CoinbaseForm) is = absurd (let e = is in cc)
none_asked desk bytes (Err fault.Refused) is = absurd (let e = is in cc)
none_asked desk bytes (Err fault.RelayFailed) is = absurd (let e = is in cc)
none_asked desk bytes (Err fault.Memory) is = (refl, refl)

-- ---- one thing after the other

-- what else was done then
pub so : {G A Y : Type 0} {of : AskedGhosts G A Y} {was now : Asking G A Y} (one other : Spent → Spent → Type 0)
    → ((x y : Spent) → one x y → other x y) → Loses of was now one → Loses of was now other
so one other f h = record {
  deeds = h.deeds;
  done = λ past. f _ _ (h.done past);
  did = h.did;
}

-- nothing was asked
pub did_none : {G A Y : Type 0} (of : AskedGhosts G A Y) (now : Asking G A Y) → Did of now now []
did_none of now = record {
  rose = λ of_link. all_rose_none (failed_asking of of_link now);
  offered = λ tells. sym (append-nil (answered (of.relay.offers now.relay)));
}

pub none_lost : {G A Y : Type 0} (of : AskedGhosts G A Y) (now : Asking G A Y) (does : Spent → Spent → Type 0)
    → ((before : Spent) → does before before) → Loses of now now does
none_lost of now does h = record {
  deeds = [];
  done = λ past. subst (λ (d : List Deed). does (spent past now.desk) (spent d now.desk)) (sym (append-nil past)) (h (spent past now.desk));
  did = did_none of now;
}

pub did_on : {G A Y : Type 0} (of : AskedGhosts G A Y) (a b c : Asking G A Y) (first second : List Deed)
    → Did of a b first → Did of b c second → Did of a c (first ++ second)
did_on of a b c first second h k = record {
  rose = λ of_link. all_rose_on (failed_asking of of_link a) (failed_asking of of_link b) (failed_asking of of_link c) first second
      (h.rose of_link) (k.rose of_link);
  offered = λ tells.
      let start = answered (of.relay.offers a.relay) in
      k.offered tells ∙ ap (λ (l : List Offer). l ++ offers second) (h.offered tells)
      ∙ append_assoc start (offers first) (offers second)
      ∙ ap (λ (l : List Offer). start ++ l) (sym (offers_on first second));
}

-- one thing was done after the other
pub both : {G A Y : Type 0} {of : AskedGhosts G A Y} {a b c : Asking G A Y} (one other all : Spent → Spent → Type 0)
    → ((x y z : Spent) → one x y → other y z → all x z)
    → Loses of a b one → Loses of b c other → Loses of a c all
both {of = of} {a = a} {b = b} {c = c} one other all links h k = record {
  deeds = h.deeds ++ k.deeds;
  done = λ past. subst (λ (d : List Deed). all (spent past a.desk) (spent d c.desk)) (append_assoc past h.deeds k.deeds)
      (links (spent past a.desk) (spent (past ++ h.deeds) b.desk) (spent ((past ++ h.deeds) ++ k.deeds) c.desk) (h.done past)
      (k.done (past ++ h.deeds)));
  did = did_on of a b c h.deeds k.deeds h.did k.did;
}

-- ---- a request

module _ {G A Y : Type 0} (of : AskedGhosts G A Y) (tells : Type 0) (side : Side) (r : Request) where
  -- it asks for no call
  pub with_refusal : (l : G) (f : A) (y : Y) (desk : DeskState) (s : Session) (e : Refusal) → IsCalled r.method r.params (Err e)
      → Loses of (asking l f y desk) (asking l f y desk) (λ before after. AnswersOf tells side before r s (Err e) after s)
  with_refusal l f y desk s e called = record {
    deeds = [];
    done = λ past. (spent [] desk, told.refused e called refl refl refl, refl);
    did = did_none of (asking l f y desk);
  }

  -- it asks for a call of the ledger and the block files
  pub with_losses : {E : Type 0} (l l' : G) (f f' : A) (y : Y) (desk : DeskState) (c : Call) (s t : Session) (result : Result (Result Data Refusal) E)
      → IsCalled r.method r.params (Ok c) → raw_tx_of c ≡ None
      → IsAnswered tells side c s t (λ n. RoseBy (of.beneath.ledger.faults l) (of.beneath.ledger.faults l') n)
      (λ n. RoseBy (of.beneath.files.faults f) (of.beneath.files.faults f') n) result
      → Loses of (asking l f y desk) (asking l' f' y desk)
      (λ before after. MatchResult result (λ a. AnswersOf tells side before r s a after t) (λ e. CutAnswer (AnswersOf tells side) r before s after))
  with_losses {E} l l' f f' y desk c s t result called plain h =
      let n = counts (λ n. RoseBy (of.beneath.ledger.faults l) (of.beneath.ledger.faults l') n)
      (λ n. RoseBy (of.beneath.files.faults f) (of.beneath.files.faults f') n) h.given h.counted in
      record {
        deeds = losses_of h.given;
        done = λ past. by past result h.told_is;
        did = record {
          rose = λ of_link. rose_of of_link (of.relay.faults y) _ _ _ _ (losses_of h.given) (none_of_others h.given).0 (none_of_others h.given).1 n.1 n.0;
          offered = λ t'. sym (ap (λ (o : List Offer). answered (of.relay.offers y) ++ o) (no_offers h.given) ∙ append-nil (answered (of.relay.offers y)));
        };
      }
    where
      by : (past : List Deed) (result : Result (Result Data Refusal) E)
          → MatchResult result (λ a. told_of h.given ≡ Some a) (λ e. told_of h.given ≡ None)
          → MatchResult result (λ a. AnswersOf tells side (spent past desk) r s a (spent (past ++ losses_of h.given) desk) t)
          (λ e. CutAnswer (AnswersOf tells side) r (spent past desk) s (spent (past ++ losses_of h.given) desk))
      by past (Ok a) is = (spent (losses_of h.given) desk, told.asked c h.given called plain is h.is_given refl, refl)
      by past (Err e) is = inl (ap (λ (d : List Deed). spent (past ++ d) desk) (none_starved h.given is) ∙ ap (λ (d : List Deed). spent d desk) (append-nil past))

  -- it asks for a broadcast
  pub with_broadcast : {E : Type 0} (l : G) (f : A) (y y' : Y) (desk next : DeskState) (c : Call) (bytes : List ℕ) (s : Session)
      (by : Result Hash32 OfferFault) (result : Result (Result Data Refusal) E)
      → IsCalled r.method r.params (Ok c) → raw_tx_of c ≡ Some bytes → IsBroadcast of.relay y y' desk next bytes by → TellsOf by result
      → Loses of (asking l f y desk) (asking l f y' next)
      (λ before after. MatchResult result (λ a. AnswersOf tells side before r s a after s) (λ e. CutAnswer (AnswersOf tells side) r before s after))
  with_broadcast {E} l f y y' desk next c bytes s by result called raw b is =
      let none = no_other_failures bytes (said desk by) in
      record {
        deeds = deeds_by bytes (said desk by);
        done = λ past. rw b.next_is (go past result is);
        did = record { rose = λ of_link. rose of_link; offered = b.offered };
      }
    where
      rose : (of_link : ℕ) → Rose (faults of_link (of.beneath.files.faults f) (of.beneath.ledger.faults l) (of.relay.faults y))
          (faults of_link (of.beneath.files.faults f) (of.beneath.ledger.faults l) (of.relay.faults y')) (deeds_by bytes (said desk by))
      rose of_link link = rw (no_other_failures bytes (said desk by)).0 (rose_still of_link of_link refl)
      rose of_link archive = rw (no_other_failures bytes (said desk by)).1 (rose_still _ _ refl)
      rose of_link disk = rw (no_other_failures bytes (said desk by)).2 (rose_still _ _ refl)
      rose of_link relay = b.rose

      answers : (past : List Deed) (a : Result Data Refusal) → told_of_desk by ≡ Some a
          → AnswersOf tells side (spent past desk) r s a (spent (past ++ deeds_by bytes (said desk by)) (desk_after desk by)) s
      answers past a is = (spent (deeds_by bytes (said desk by)) (desk_after desk by), told.broadcast c bytes by called raw b.reason is refl refl, refl)

      found : (past : List Deed) (by' : Result Hash32 OfferFault) → by' ≡ by → IsOk by'
          → CutAnswer (AnswersOf tells side) r (spent past desk) s (spent (past ++ deeds_by bytes (said desk by)) (desk_after desk by))
      found past (Ok id) same ok = inr (shown_hash id, s, answers past (Ok (shown_hash id)) (ap told_of_desk (sym same)))
      found past (Err e) same ok = absurd (true≢false (sym ok))

      go : (past : List Deed) (result : Result (Result Data Refusal) E) → TellsOf by result
          → MatchResult result (λ a. AnswersOf tells side (spent past desk) r s a (spent (past ++ deeds_by bytes (said desk by)) (desk_after desk by)) s)
          (λ e. CutAnswer (AnswersOf tells side) r (spent past desk) s (spent (past ++ deeds_by bytes (said desk by)) (desk_after desk by)))
      go past (Ok a) is = answers past a is
      go past (Err e) (inl none) =
          let n = none_asked desk bytes by none in
          inl (rw (n.0, n.1, append-nil past) refl)
      go past (Err e) (inr ok) = found past by refl ok

-- ---- results

-- what holds of both results
pub done_or : {T E : Type 0} (r : Result T E) (C P Q : Type 0) → (C → P) → Q → OnOk r C
    → MatchResult r (λ x. P) (λ e. Q)
done_or (Ok x) C P Q f q h = f h
done_or (Err e) C P Q f q h = q

-- the same, where an error has a cause
pub done_sure : {T E : Type 0} (r : Result T E) (C S P Q : Type 0) → (C → P) → (S → Q) → OnOk r C → OnErr r S
    → MatchResult r (λ x. P) (λ e. Q)
done_sure (Ok x) C S P Q f q h k = f h
done_sure (Err e) C S P Q f q h k = q k

pub found_sure : {T E : Type 0} (r : Result T E) (C P : T → Type 0) (S Q : Type 0) → ((x : T) → C x → P x)
    → (S → Q) → IfOk r C → OnErr r S → MatchResult r P (λ e. Q)
found_sure (Ok x) C P S Q f q h k = f x h
found_sure (Err e) C P S Q f q h k = q k

-- what holds of a result that is an error
pub failed : {T E : Type 0} (r : Result T E) (F : E → Type 0) (P : T → Type 0) (Q : Type 0) → IsErrAnd r F → Q
    → MatchResult r P (λ e. Q)
failed (Ok x) F P Q is q = absurd is
failed (Err e) F P Q is q = q

-- a request in a batch, before the limit was passed and after
module _ {X : Type 0} (answers : X → Request → Session → Result Data Refusal → X → Session → Type 0) where
  -- there was no room for a result
  pub cut_result : (r : Request) (x y : X) (s t : Session) (told : Result Data Refusal) → answers x r s told y t → IsOk told
      → CutAnswer answers r x s y
  cut_result r x y s t (Ok found) h ok = inr (found, t, h)
  cut_result r x y s t (Err e) h ok = absurd (true≢false (sym ok))

  pub step_late : (r : Request) (x : X) (s t : Session) (b c : Replies) → nat_lt BATCH_LIMIT b.size ≡ true
      → t ≡ s → c ≡ with_reply r.id (Err refusal.BatchTooLarge) b → Step answers (Good r) x s b x t c
  step_late r x s t b c late same is = rw late (refl, same, is)

  pub cut_late : (r : Request) (x : X) (s : Session) (b : Replies) → nat_lt BATCH_LIMIT b.size ≡ true
      → CutStep answers (Good r) x s b x
  cut_late r x s b late = rw late refl

  pub in_time : {T E : Type 0} (result : Result T E) (r : Request) (x y : X) (s t : Session) (b c : Replies)
      → nat_lt BATCH_LIMIT b.size ≡ false
      → MatchResult result (λ z. InTime answers r x s b y t c) (λ e. CutAnswer answers r x s y)
      → MatchResult result (λ z. Step answers (Good r) x s b y t c) (λ e. CutStep answers (Good r) x s b y)
  in_time (Ok z) r x y s t b c early h = rw early h
  in_time (Err e) r x y s t b c early h = rw early h

-- What a broadcast does at the relay.
use Rattle.std.proofs.Common.{◌≡◌, ◌≢◌, ◌∙◌, inl, inr, sym, ap, ℕ, ◌≤◌, List, [], ◌∷◌, ◌++◌, Option, Some, None, Result, Ok, Err, Bool, true, false, if◌then◌else◌, refl, append-nil, arith}
use Rattle.std.specs.Prelude.{MatchOption, filter, IsOk, IsErrAnd}
use Rattle.serde_json.specs.Data.{Data}
use Rattle.std.proofs.lemmas.List.Elements.{filter-append}
use Rattle.el_base.specs.declared.hash.Hash32.{Hash32}
use Rattle.el_outside.specs.Counts.{RoseBy, CountsOnly}
use Rattle.el_outside.specs.Relays.{Offer, GoesOnBy}
use Rattle.el_outside.specs.declared.relay.RelayFailed.{RelayFailed}
use Rattle.el_outside.specs.declared.relay.Verdict.{Verdict}
use Rattle.el_outside.specs.declared.relay.Verdict.TheVariants as verdict
use Rattle.el_relay.specs.Desk.{DeskState, has_txid, said}
use Rattle.el_relay.specs.declared.fault.OfferFault.{OfferFault}
use Rattle.el_relay.specs.declared.fault.OfferFault.TheVariants as fault
use Rattle.el_side.specs.Deeds.{relay, failures, offers, answered, is_answered}
use Rattle.el_side.proofs.Deeds.{rose_still}
use Rattle.el_calls.specs.declared.refusal.Refusal.{Refusal}
use Rattle.el_replies.specs.Broadcasts.{TellsOf, deeds_by}

answered_on : (before more : List Offer) → answered (before ++ more) ≡ answered before ++ answered more
answered_on before more = filter-append (λ (o : Offer). is_answered o.answer) before more

-- the relay's list went on by what is told
pub offered_by : (bytes : List ℕ) (by : Option (Result Verdict RelayFailed)) (before after : List Offer)
    → MatchOption by (after ≡ before) (λ v. GoesOnBy before after bytes v)
    → answered after ≡ answered before ++ offers (deeds_by bytes by)
offered_by bytes None before after same = ap answered same ∙ sym (append-nil (answered before))
offered_by bytes (Some (Ok v)) before after more = ap answered more ∙ answered_on before _
offered_by bytes (Some (Err failed)) before after (inl same) = ap answered same ∙ sym (append-nil (answered before))
offered_by bytes (Some (Err failed)) before after (inr more) = ap answered more ∙ answered_on before _

-- its count rose by what is told
pub counted_by : (desk : DeskState) (bytes : List ℕ) (by : Result Hash32 OfferFault) (a b : ℕ) → CountsOnly a b fault.RelayFailed by
    → RoseBy a b (failures relay (deeds_by bytes (said desk by)))
counted_by desk bytes (Ok id) a b c = taken (has_txid desk id)
  where
    taken : (known : Bool) → RoseBy a b (failures relay (deeds_by bytes (if known then None else Some (Ok verdict.Taken))))
    taken true = rose_still a b c.uncounted
    taken false = rose_still a b c.uncounted
counted_by desk bytes (Err fault.Off) a b c = rose_still a b (c.others_uncounted (λ e. cc))
counted_by desk bytes (Err fault.Form) a b c = rose_still a b (c.others_uncounted (λ e. cc))
counted_by desk bytes (Err fault.CoinbaseForm) a b c = rose_still a b (c.others_uncounted (λ e. cc))
counted_by desk bytes (Err fault.Refused) a b c = rose_still a b (c.others_uncounted (λ e. cc))
counted_by desk bytes (Err fault.RelayFailed) a b c = c.counted refl
counted_by desk bytes (Err fault.Memory) a b c = rose_still a b (c.others_uncounted (λ e. cc))

-- the count never falls
pub count_stays : (by : Result Hash32 OfferFault) (a b : ℕ) → CountsOnly a b fault.RelayFailed by → a ≤ b
count_stays (Ok id) a b c = let same = c.uncounted in omega arith
count_stays (Err fault.Off) a b c = let same = c.others_uncounted (λ e. cc) in omega arith
count_stays (Err fault.Form) a b c = let same = c.others_uncounted (λ e. cc) in omega arith
count_stays (Err fault.CoinbaseForm) a b c = let same = c.others_uncounted (λ e. cc) in omega arith
count_stays (Err fault.Refused) a b c = let same = c.others_uncounted (λ e. cc) in omega arith
count_stays (Err fault.RelayFailed) a b c = let more = c.counted refl in omega arith
count_stays (Err fault.Memory) a b c = let same = c.others_uncounted (λ e. cc) in omega arith

-- no memory was found for what is told
pub untold : {E : Type 0} (by : Result Hash32 OfferFault) (r : Result (Result Data Refusal) E) (F : E → Type 0)
    → IsErrAnd r F → IsOk by → TellsOf by r
untold by (Ok told) F is ok = absurd is
untold by (Err e) F is ok = inr ok

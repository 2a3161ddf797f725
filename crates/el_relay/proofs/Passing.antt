-- What holds where a broadcast hands an error on before the relay was asked.
use Rattle.std.proofs.Common.{◌≡◌, ℕ, ◌+◌, List, Option, None, Result, Err, MatchOption, IsErrOf, is_some, if◌then◌else◌, refl, sym, ap, subst, ◌∙◌, arith}
use Rattle.el_base.specs.declared.hash.Hash32.{Hash32}
use Rattle.el_outside.specs.declared.relay.Verdict.{Verdict}
use Rattle.el_outside.specs.declared.relay.RelayFailed.{RelayFailed}
use Rattle.el_outside.specs.Counts.{CountsOnly}
use Rattle.el_outside.specs.Relays.{Offer, GoesOnBy}
use Rattle.el_relay.specs.declared.fault.OfferFault.{OfferFault}
use Rattle.el_relay.specs.declared.fault.OfferFault.TheVariants as fault
use Rattle.el_relay.specs.Desk.{DeskState, HasReason, said, AddsOffer}

-- the relay wasn't asked
abbrev pub Unasked : DeskState → OfferFault → Type 0
Unasked desk e = said desk (Err e) ≡ None

-- the error's reason is the answer's
pub reason_on : (desk : DeskState) (bytes : List ℕ) (r : Result Hash32 OfferFault) (e : OfferFault) → r ≡ Err e
    → HasReason desk bytes (Err e) → HasReason desk bytes r
reason_on desk bytes r e is reason = subst (λ (x : Result Hash32 OfferFault). HasReason desk bytes x) (sym is) reason

-- nothing was added
pub adds_none : (desk : DeskState) (bytes : List ℕ) (r : Result Hash32 OfferFault) (e : OfferFault) (offers : List Offer) → r ≡ Err e
    → Unasked desk e → AddsOffer desk bytes r offers offers
adds_none desk bytes r e offers is none =
    let unasked : said desk r ≡ None = ap (said desk) is ∙ none in
    subst (λ (o : Option (Result Verdict RelayFailed)). MatchOption o (offers ≡ offers) (λ by. GoesOnBy offers offers bytes by)) (sym unasked) refl

-- nothing was called
pub calls_none : (desk : DeskState) (r : Result Hash32 OfferFault) (e : OfferFault) (n : ℕ) → r ≡ Err e → Unasked desk e
    → n ≡ n + (if is_some (said desk r) then 1 else 0)
calls_none desk r e n is none =
    let unasked : said desk r ≡ None = ap (said desk) is ∙ none in
    let same : n ≡ n + 0 = omega arith in
    subst (λ (o : Option (Result Verdict RelayFailed)). n ≡ n + (if is_some o then 1 else 0)) (sym unasked) same

-- no failure was told
no_failure : (desk : DeskState) (e : OfferFault) → Unasked desk e → IsErrOf {T = Hash32} (Err e) fault.RelayFailed → ⊥
no_failure desk e none is =
    let told : said desk (Err fault.RelayFailed) ≡ None = sym (ap (said desk) is) ∙ none in cc

-- and none was counted
pub counts_none : (desk : DeskState) (r : Result Hash32 OfferFault) (e : OfferFault) (n : ℕ) → r ≡ Err e → Unasked desk e
    → CountsOnly n n fault.RelayFailed r
counts_none desk r e n is none = subst (λ (x : Result Hash32 OfferFault). CountsOnly n n fault.RelayFailed x) (sym is) (record {
  counted = λ told. absurd (no_failure desk e none told);
  uncounted = tt;
  others_uncounted = λ other. refl;
})

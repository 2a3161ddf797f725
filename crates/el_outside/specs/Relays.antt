-- What a relay was offered, and what it answered.
use Rattle.std.specs.Prelude.{◌≡◌, ◌⊎◌, ℕ, List, [], ◌∷◌, ◌++◌, Result, Ok, Err}
use Rattle.el_outside.specs.declared.relay.Verdict.{Verdict}
use Rattle.el_outside.specs.declared.relay.RelayFailed.{RelayFailed}

-- a call of a relay: the bytes that it was offered, and its answer
pub record Offer : Type 0 where
  pub bytes : List ℕ
  pub answer : Result Verdict RelayFailed

-- one more call, after the others
abbrev pub one_more : List Offer → List ℕ → Result Verdict RelayFailed → List Offer
one_more offers bytes answer = offers ++ record { bytes = bytes; answer = answer } ∷ []

-- What a call with these bytes makes of the list of calls, by its answer: a call that failed may be missing.
abbrev pub GoesOnBy : List Offer → List Offer → List ℕ → Result Verdict RelayFailed → Type 0
GoesOnBy before after bytes (Ok verdict) = after ≡ one_more before bytes (Ok verdict)
GoesOnBy before after bytes (Err failed) = (after ≡ before) ⊎ (after ≡ one_more before bytes (Err failed))

-- A text of 64 bytes shows a hash, or has a first byte that is no hex digit.
use Rattle.std.proofs.Common.{◌≡◌, ℕ, List, length, Result, Ok, Err, Some, sym, ap, ◌∙◌, arith, inl, inr, zero-add}
use Rattle.std.specs.Prelude.{MatchResult}
use Rattle.hex.specs.Hex.{decode_of, decode_sized}
use Rattle.hex.specs.declared.error.FromHexError.{FromHexError}
use Rattle.hex.proofs.HexLemmas.{decode_of-err, decode_sized-twice}
use Rattle.el_base.specs.Shown.{IsFirstBadDigit}
use Rattle.el_base.specs.within.HexFaults.{bad_place_of}

-- a refusal of 64 bytes names a bad digit
pub refused : (text : List ℕ) (fault : FromHexError) → length text ≡ 64 → decode_of text ≡ Err fault
    → (place : ℕ) × (bad_place_of fault ≡ Some place) × IsFirstBadDigit text place
refused text fault size e =
    elim (decode_of-err text fault e) [
      | inl odd ↦ absurd (let h = odd.0 in omega arith)
      | inr bad ↦ (
        bad.0,
        ap bad_place_of bad.1 ∙ ap Some (zero-add bad.0),
        record { inside = bad.2; bad = bad.3; before = bad.4 },
      )
    ]

pub same_reading : (text : List ℕ) → length text ≡ 64 → decode_sized text 32 ≡ decode_of text
same_reading text size = decode_sized-twice text 32 size

err_of : (d : Result (List ℕ) FromHexError) (fault : FromHexError) (P : List ℕ → Type 0)
    → MatchResult d (λ bytes. ◌≡◌ {A = Result Unit FromHexError} (Err fault) (Ok tt) × P bytes) (λ e. ◌≡◌ {A = Result Unit FromHexError} (Err fault) (Err e)) → d ≡ Err fault
err_of (Ok bytes) fault P h = absurd (let e = h.0 in cc)
err_of (Err e) fault P h = ap Err (let same : e ≡ fault = cc in same)

pub not_decoded : (text : List ℕ) (fault : FromHexError) (P : List ℕ → Type 0) → length text ≡ 64
    → MatchResult (decode_sized text 32) (λ bytes. ◌≡◌ {A = Result Unit FromHexError} (Err fault) (Ok tt) × P bytes) (λ e. ◌≡◌ {A = Result Unit FromHexError} (Err fault) (Err e))
    → decode_of text ≡ Err fault
not_decoded text fault P size h = sym (same_reading text size) ∙ err_of (decode_sized text 32) fault P h

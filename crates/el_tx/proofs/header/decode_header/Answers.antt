use Rattle.std.proofs.Common.{◌≡◌, ◌++◌, ℤ, length, sym, ap, ◌∙◌, refl, rules}
use Rattle.std.specs.Prelude.{FitsSigned}
use Rattle.std.proofs.lemmas.Int.{to_z-of_z}
use Rattle.std.specs.Int.{w32, to_le_bytes, cast_unsigned, cast_signed}
use Rattle.el_tx.specs.Headers.{IsHeader}
use Rattle.el_tx.specs.declared.types.Header.{Header}
use Rattle.el_tx.proofs.HeaderLemmas.{one_header, six_fields, header_again}
use Rattle.el_tx.proofs.header.decode_header.Goals as goal

pub returns-clause-encoded : goal.returns-clause-encoded
returns-clause-encoded c =
    let previous : length c.hash.result.0.0 ≡ 32 = search rules in
    let root : length c.hash-2.result.0.0 ≡ 32 = search rules in
    let version : FitsSigned w32 c.signed_number-version.result.0 = search rules in
    let front : c.args.bytes.now
    ≡ to_le_bytes w32 (cast_unsigned w32 (cast_signed w32 (cast_unsigned w32 c.signed_number-version.result.0))) ++ c.signed_number-version.result.1.now
    = sym c.as_slice.ensures ∙ c.signed_number-version.ensures
    ∙ ap (λ (z : ℤ). to_le_bytes w32 (cast_unsigned w32 z) ++ c.signed_number-version.result.1.now) (sym (to_z-of_z w32 c.signed_number-version.result.0 version)) in
    six_fields c.args.bytes.now (to_le_bytes w32 (cast_unsigned w32 (cast_signed w32 (cast_unsigned w32 c.signed_number-version.result.0))))
    c.hash.result.0.0 c.hash-2.result.0.0
    (to_le_bytes w32 c.number-time.result.0) (to_le_bytes w32 c.number-bits.result.0) (to_le_bytes w32 c.number-nonce.result.0)
    _ _ _ _ _ _ c.told-bytes refl previous root refl refl refl front
    c.hash.ensures c.hash-2.ensures c.number-time.ensures c.number-bits.ensures c.number-nonce.ensures

pub returns-clause-only : goal.returns-clause-only
returns-clause-only c = λ h fits is.
    let read : Header = record {
      version = cast_signed w32 (cast_unsigned w32 c.signed_number-version.result.0);
      previous = c.hash.result.0;
      root = c.hash-2.result.0;
      time = c.number-time.result.0;
      bits = c.number-bits.result.0;
      nonce = c.number-nonce.result.0;
    } in
    let whole : IsHeader read = search rules in
    one_header read h whole fits (returns-clause-encoded c ∙ is)

pub returns-clause-reads : goal.returns-clause-reads
returns-clause-reads c =
    let read : Header = record {
      version = cast_signed w32 (cast_unsigned w32 c.signed_number-version.result.0);
      previous = c.hash.result.0;
      root = c.hash-2.result.0;
      time = c.number-time.result.0;
      bits = c.number-bits.result.0;
      nonce = c.number-nonce.result.0;
    } in
    let whole : IsHeader read = search rules in
    header_again read c.args.bytes.now whole (returns-clause-encoded c)

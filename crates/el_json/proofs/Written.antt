-- What is written for numbers, and what is read of what was written.
use Rattle.std.proofs.Common.{◌≡◌, ◌∙◌, sym, ap, ℕ, ℤ, pos, negsuc, ◌<◌, ◌≤◌, ◌^◌, true, false, Option, Some, option_map, option_and_then, List, [], ◌∷◌, ◌++◌}
use Rattle.std.proofs.Common.{decimal, int_lt, SFits, w64, subst, arith, append-nil}
use Rattle.std.specs.Fmt.{signed_decimal}
use Rattle.std.specs.Prelude.{IsUtf8}
use Rattle.json.specs.Token.{Token}
use Rattle.json.specs.Token as token
use Rattle.json.specs.Lex.{tokens}
use Rattle.json.specs.Print.{print}
use Rattle.json.specs.Tree.{json_tokens}
use Rattle.json.specs.Json as json
use Rattle.json.proofs.Printed.Trees.{value-json_tokens}
use Rattle.serde_json.specs.Data.{Data, number, unsigned, negative, depth}
use Rattle.serde_json.specs.Read.{number_of, of_json, read, max_depth}
use Rattle.serde_json.specs.Written.{WritesValue, IsInOrder, outline, has_float, compact_text}
use Rattle.serde_json.proofs.Numbers.{number_of-decimal, number_of-negative}
use Rattle.serde_json.proofs.Texts.{unless_float-number_of, tokens_from_order, print-outline}
use Rattle.el_json.specs.Lines.{value_of}
use Rattle.el_json.proofs.Values.{value_of-read}

below_zero : (z : ℤ) → int_lt z (pos 0) ≡ true → SFits w64 z → number_of (signed_decimal z) ≡ Some (negative z)
below_zero (pos n) e fits = absurd (grind arith)
below_zero (negsuc n) e fits = number_of-negative n (grind arith)

pub of_unsigned : (n : ℕ) (old new : List Token) → n < 2 ^ 64 → new ≡ old ++ token.number (decimal n) ∷ []
    → WritesValue (number (unsigned n)) old new
of_unsigned n old new fits e =
    let reads = number_of-decimal n fits in (
      json.number (decimal n),
      e,
      ap (option_map number) reads,
      omega arith,
      ap json.number (unless_float-number_of _ _ reads),
    )

pub of_negative : (z : ℤ) (old new : List Token) → int_lt z (pos 0) ≡ true → SFits w64 z
    → new ≡ old ++ token.number (signed_decimal z) ∷ [] → WritesValue (number (negative z)) old new
of_negative z old new low fits e =
    let reads = below_zero z low fits in (
      json.number (signed_decimal z),
      e,
      ap (option_map number) reads,
      omega arith,
      ap json.number (unless_float-number_of _ _ reads),
    )

abbrev whole : Option (json.Json × List Token) → Option Data
whole o = option_and_then of_json (option_and_then (λ p. json.if_last p.0 p.1) o)

-- tokens that were written for a value are read as it
pub read_back : (d : Data) (ts : List Token) (text : List ℕ) → WritesValue d [] ts → tokens text ≡ ts
    → depth d ≤ max_depth → read text ≡ Some d
read_back d ts text w same shallow =
    ap whole (ap (json.value max_depth) (same ∙ w.1 ∙ sym (append-nil _))
    ∙ value-json_tokens w.0 max_depth [] (omega (arith, w.3))) ∙ w.2

-- the text of tokens that were written for a value without a float, after nothing
pub printed : (d : Data) (before text : List ℕ) (old ts : List Token) → text ≡ before ++ print ts → before ≡ []
    → old ≡ [] → WritesValue d old ts → tokens (print ts) ≡ ts → has_float d ≡ false → text ≡ compact_text d
printed d before text old ts is none first w same whole =
    let outer : text ≡ print ts = is ∙ ap (λ b. b ++ print ts) none in
    let inner : ts ≡ json_tokens w.0 = w.1 ∙ ap (λ o. o ++ json_tokens w.0) first in
    let order : IsInOrder (print ts) d = (w.0, same ∙ inner, w.4) in
    let own : ts ≡ json_tokens (outline d) = sym same ∙ tokens_from_order (print ts) d order whole in
    outer ∙ ap print own ∙ print-outline d

-- it is read as the value
pub printed_back : (d : Data) (before text : List ℕ) (old ts : List Token) → text ≡ before ++ print ts
    → before ≡ [] → old ≡ [] → WritesValue d old ts → tokens (print ts) ≡ ts → IsUtf8 (print ts)
    → depth d ≤ max_depth → value_of text ≡ Some d
printed_back d before text old ts is none first w same letters shallow =
    let outer : text ≡ print ts = is ∙ ap (λ b. b ++ print ts) none in
    let written = subst (λ o. WritesValue d o ts) first w in
    ap value_of outer ∙ value_of-read _ _ letters (read_back d ts (print ts) written same shallow)

-- The value of a line, as the reader finds it.
use Rattle.std.proofs.Common.{◌≡◌, ℕ, List, Some, None, Bool, true, false, if◌then◌else◌, refl}
use Rattle.std.specs.Str.{IsUtf8, is_utf8}
use Rattle.std.proofs.lemmas.Str.{IsUtf8-from_is_utf8, is_utf8-from_IsUtf8}
use Rattle.serde_json.specs.Data.{Data}
use Rattle.serde_json.specs.Read.{read}
use Rattle.el_json.specs.Lines.{value_of}

pub value_of-read : (line : List ℕ) (d : Data) → IsUtf8 line → read line ≡ Some d → value_of line ≡ Some d
unfolding value_of
value_of-read line d text is = rw (is_utf8-from_IsUtf8 line text) is

either : (line : List ℕ) (b : Bool) → is_utf8 line ≡ b → (IsUtf8 line → read line ≡ None) → (if b then read line else None) ≡ None
either line true e none = none (IsUtf8-from_is_utf8 line e)
either line false e none = refl

pub value_of-none : (line : List ℕ) → (IsUtf8 line → read line ≡ None) → value_of line ≡ None
unfolding value_of
value_of-none line none = either line (is_utf8 line) refl none

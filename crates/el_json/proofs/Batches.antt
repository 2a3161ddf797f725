-- What a line says, by its value.
use Rattle.std.proofs.Common.{◌≡◌, ℕ, ◌==◌, List, [], ◌∷◌, length, false, Some, None, Result, Ok, Err, refl, sym, IsErrOf, true≢false}
use Rattle.serde_json.specs.Data.{Data, array}
use Rattle.serde_json.specs.View.{items_view}
use Rattle.serde_json.specs.declared.value.Value.{Value}
use Rattle.el_json.specs.Lines.{value_of, items_of, envelope_of, line_says, IsReading}
use Rattle.el_json.specs.declared.request.Envelope.{Envelope}
use Rattle.el_json.specs.declared.request.Envelope.TheVariants.{Batch}
use Rattle.el_json.specs.declared.request.LineFault.{LineFault}
use Rattle.el_json.specs.declared.request.LineFault.TheVariants as fault

pub envelope_of-batch : (list : List Value) → (length list == 0) ≡ false
    → envelope_of (array (items_view list)) ≡ Ok (Batch (items_of (items_view list)))
envelope_of-batch [] e = absurd (true≢false e)
envelope_of-batch (v ∷ vs) e = refl

pub line_says-value : (line : List ℕ) (d : Data) (result : Result Envelope LineFault) → value_of line ≡ Some d
    → result ≡ envelope_of d → IsReading line result
unfolding line_says
line_says-value line d (Ok e) is said = rw is (sym said)
line_says-value line d (Err fault.Parse) is said = rw is (sym said)
line_says-value line d (Err (fault.Invalid id)) is said = rw is (sym said)
line_says-value line d (Err fault.Memory) is said = tt

pub line_says-none : (line : List ℕ) (e : LineFault) → (IsErrOf {T = Value} {E = LineFault} (Err e) fault.Parse → value_of line ≡ None)
    → ((id : Data) → e ≡ fault.Invalid id → ⊥) → IsReading line (Err e)
unfolding line_says
line_says-none line fault.Parse none other = rw (none refl) refl
line_says-none line (fault.Invalid id) none other = absurd (other id refl)
line_says-none line fault.Memory none other = tt

-- Each id of a line is printable.
use Rattle.std.proofs.Common.{◌≡◌, subst, ℕ, List, Bool, true, false, if◌then◌else◌, Option, Some, None, Result, Ok, Err, refl}
use Rattle.serde_json.specs.Data.{unsigned, negative, float, Data, null, boolean, number, string, array, object, no_items, item}
use Rattle.el_json.specs.Lines.{value_of, can_be_id, is_id, echoed_id, item_with, item_of, one_of, envelope_of, envelope_or, line_says, IsReading, IsPrintable, HasPrintableId, IsPrintableId, HasPrintableIds}
use Rattle.el_json.specs.declared.params.Params.{Params}
use Rattle.el_json.specs.declared.request.Item.{Item}
use Rattle.el_json.specs.declared.request.Item.TheVariants.{Good, Invalid}
use Rattle.el_json.specs.declared.request.Envelope.{Envelope}
use Rattle.el_json.specs.declared.request.LineFault.{LineFault}
use Rattle.el_json.specs.declared.request.LineFault.TheVariants as fault

printable_can_be : (d : Data) → can_be_id d ≡ true → IsPrintable d
printable_can_be null e = refl
printable_can_be (boolean b) e = absurd (cc)
printable_can_be (number (unsigned n)) e = refl
printable_can_be (number (negative z)) e = refl
printable_can_be (number (float x)) e = absurd (cc)
printable_can_be (string s) e = refl
printable_can_be (array ds) e = absurd (cc)
printable_can_be (object ms) e = absurd (cc)

printable_id : (id : Option Data) → is_id id ≡ true → IsPrintableId id
printable_id None e = tt
printable_id (Some d) e = printable_can_be d e

printable_either : (d : Data) (b : Bool) → can_be_id d ≡ b → IsPrintable (if b then d else null)
printable_either d true e = printable_can_be d e
printable_either d false e = refl

printable_echoed_id : (id : Option Data) → IsPrintable (echoed_id id)
printable_echoed_id None = refl
printable_echoed_id (Some d) = printable_either d (can_be_id d) refl

printable_good : (id : Option Data) (m : List ℕ) (ps : Params) (b : Bool) → is_id id ≡ b
    → HasPrintableId (if b then Good (record { id = id; method = m; params = ps }) else Invalid (echoed_id id))
printable_good id m ps true e = printable_id id e
printable_good id m ps false e = printable_echoed_id id

printable_with : (id : Option Data) (m : Option (List ℕ)) (ps : Option Params) → HasPrintableId (item_with id m ps)
printable_with id (Some m) (Some ps) = printable_good id m ps (is_id id) refl
printable_with id (Some m) None = printable_echoed_id id
printable_with id None ps = printable_echoed_id id

pub printable_item : (d : Data) → HasPrintableId (item_of d)
printable_item d = printable_with _ _ _

printable_one : (i : Item) → HasPrintableId i → HasPrintableIds (one_of i)
printable_one (Good r) h = h
printable_one (Invalid id) h = h

printable_value : (d : Data) → HasPrintableIds (envelope_of d)
printable_value null = printable_one (item_of null) (printable_item null)
printable_value (boolean b) = printable_one (item_of (boolean b)) (printable_item (boolean b))
printable_value (number n) = printable_one (item_of (number n)) (printable_item (number n))
printable_value (string s) = printable_one (item_of (string s)) (printable_item (string s))
printable_value (array no_items) = refl
printable_value (array (item d ds)) = tt
printable_value (object ms) = printable_one (item_of (object ms)) (printable_item (object ms))

printable_or : (d : Option Data) → HasPrintableIds (envelope_or d)
printable_or None = tt
printable_or (Some d) = printable_value d

printable_line : (line : List ℕ) → HasPrintableIds (line_says line)
unfolding line_says
printable_line line = printable_or (value_of line)

along : (line : List ℕ) (result : Result Envelope LineFault) → line_says line ≡ result → HasPrintableIds result
along line result e = subst HasPrintableIds e (printable_line line)

-- each id that was read of a line is printable
pub printable_reading : (line : List ℕ) (result : Result Envelope LineFault) → IsReading line result → HasPrintableIds result
printable_reading line (Ok e) h = along line (Ok e) h
printable_reading line (Err fault.Parse) h = tt
printable_reading line (Err (fault.Invalid id)) h = along line (Err (fault.Invalid id)) h
printable_reading line (Err fault.Memory) h = tt

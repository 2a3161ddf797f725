-- What a line of a client says (JSON-RPC 2.0, sections 4 and 6). A line stands without the byte 10 that ended
-- it.
use Rattle.std.specs.Prelude.{◌≡◌, ⊤, ℕ, List, [], ◌∷◌, Bool, true, false, not, if◌then◌else◌, Option, Some, None, option_and_then, Result, Ok, Err, codes}
use Rattle.std.specs.Str.{is_utf8}
use Rattle.serde_json.specs.Data.{Data, null, boolean, number, string, array, object, Items, no_items, item}
use Rattle.serde_json.specs.Find.{get, as_str, is_float}
use Rattle.serde_json.specs.Read.{read}
use Rattle.serde_json.specs.Written.{has_float}
use Rattle.el_json.specs.declared.params.Params.{Params}
use Rattle.el_json.specs.declared.params.Params.TheVariants.{Places, Names}
use Rattle.el_json.specs.declared.request.Item.{Item}
use Rattle.el_json.specs.declared.request.Item.TheVariants.{Good, Invalid}
use Rattle.el_json.specs.declared.request.Envelope.{Envelope}
use Rattle.el_json.specs.declared.request.Envelope.TheVariants.{One, Batch}
use Rattle.el_json.specs.declared.request.LineFault.{LineFault}
use Rattle.el_json.specs.declared.request.LineFault.TheVariants as fault

-- 1. The value of a line

-- The value of a line of JSON (RFC 8259), which is text in UTF-8; None where it is no JSON. It is read as
-- serde_json reads it: at most 127 brackets nest, the last value of a repeated name stands, a number that is
-- no whole one of 64 bits is a float, and one beyond a float's range is no JSON.
unfoldable pub value_of : List ℕ → Option Data
value_of line = if is_utf8 line then read line else None

-- 2. A request (JSON-RPC 2.0, section 4)

-- an id is null, a text or a whole number of 64 bits
abbrev pub can_be_id : Data → Bool
can_be_id null = true
can_be_id (boolean b) = false
can_be_id (number n) = not (is_float n)
can_be_id (string s) = true
can_be_id (array ds) = false
can_be_id (object ms) = false

-- there is no id, as in a notification (JSON-RPC 2.0, section 4.1), or one that can be
abbrev pub is_id : Option Data → Bool
is_id None = true
is_id (Some d) = can_be_id d

-- the id that an error about what is no request repeats: null where there is none that can be
-- (JSON-RPC 2.0, section 5)
abbrev pub echoed_id : Option Data → Data
echoed_id None = null
echoed_id (Some d) = if can_be_id d then d else null

-- the parameters; without any, or where they are null, they are an empty list
abbrev pub params_of : Option Data → Option Params
params_of None = Some (Places no_items)
params_of (Some null) = Some (Places no_items)
params_of (Some (boolean b)) = None
params_of (Some (number n)) = None
params_of (Some (string s)) = None
params_of (Some (array ds)) = Some (Places ds)
params_of (Some (object ms)) = Some (Names ms)

-- a request has a method, which is a text, and parameters; its id can be one, or isn't there
abbrev pub item_with : Option Data → Option (List ℕ) → Option Params → Item
item_with id (Some m) (Some ps) =
    if is_id id then Good (record { id = id; method = m; params = ps }) else Invalid (echoed_id id)
item_with id (Some m) None = Invalid (echoed_id id)
item_with id None ps = Invalid (echoed_id id)

-- a value as a request: what is no object has no members
abbrev pub item_of : Data → Item
item_of d =
    item_with (get (codes "id") d) (option_and_then as_str (get (codes "method") d))
    (params_of (get (codes "params") d))

-- 3. A line

-- the values of a batch as requests, in order
abbrev pub items_of : Items → List Item
items_of no_items = []
items_of (item d ds) = item_of d ∷ items_of ds

-- a request that stands alone
abbrev pub one_of : Item → Result Envelope LineFault
one_of (Good r) = Ok (One r)
one_of (Invalid id) = Err (fault.Invalid id)

-- an array is a batch, and an empty one is no request (JSON-RPC 2.0, section 6)
abbrev pub envelope_of : Data → Result Envelope LineFault
envelope_of (array no_items) = Err (fault.Invalid null)
envelope_of (array (item d ds)) = Ok (Batch (items_of (item d ds)))
envelope_of d = one_of (item_of d)

-- a value as a line, or no JSON at all
abbrev pub envelope_or : Option Data → Result Envelope LineFault
envelope_or None = Err fault.Parse
envelope_or (Some d) = envelope_of d

-- What the line says, or why it says nothing.
unfoldable pub line_says : List ℕ → Result Envelope LineFault
line_says line = envelope_or (value_of line)

-- This is what the line says, unless memory ran out.
abbrev pub IsReading : List ℕ → Result Envelope LineFault → Type 0
IsReading line (Ok e) = line_says line ≡ Ok e
IsReading line (Err fault.Parse) = line_says line ≡ Err fault.Parse
IsReading line (Err (fault.Invalid id)) = line_says line ≡ Err (fault.Invalid id)
IsReading line (Err fault.Memory) = ⊤

-- 4. What can be printed

-- No number in it is a float: then it has one compact text.
abbrev pub IsPrintable : Data → Type 0
IsPrintable d = has_float d ≡ false

-- the id of a request is printable, if it has one
abbrev pub IsPrintableId : Option Data → Type 0
IsPrintableId None = ⊤
IsPrintableId (Some id) = IsPrintable id

-- the id with which a request, or what is none, is answered is printable
abbrev pub HasPrintableId : Item → Type 0
HasPrintableId (Good r) = IsPrintableId r.id
HasPrintableId (Invalid id) = IsPrintable id

-- the id that was read of a line is printable
abbrev pub HasPrintableIds : Result Envelope LineFault → Type 0
HasPrintableIds (Ok (One r)) = IsPrintableId r.id
HasPrintableIds (Ok (Batch items)) = ⊤
HasPrintableIds (Err fault.Parse) = ⊤
HasPrintableIds (Err (fault.Invalid id)) = IsPrintable id
HasPrintableIds (Err fault.Memory) = ⊤

-- The text of a reply with an error, around the text of its id.
use Rattle.std.specs.Prelude.{ℕ, List, ◌++◌, codes}
use Rattle.std.specs.Fmt.{signed_decimal}
use Rattle.el_calls.specs.Refusals.{code_of, message_of}
use Rattle.el_calls.specs.declared.refusal.Refusal.{Refusal}

-- the text of a reply with an error, up to the id
unfoldable pub error_start : Refusal → List ℕ
error_start r =
    codes "{\"error\":{\"code\":" ++ (signed_decimal (code_of r) ++ (codes ",\"message\":\"" ++ (message_of r
    ++ codes "\"},\"id\":")))

-- the whole text, with an id of this text
unfoldable pub error_text : List ℕ → Refusal → List ℕ
error_text id r = error_start r ++ (id ++ codes ",\"jsonrpc\":\"2.0\"}")

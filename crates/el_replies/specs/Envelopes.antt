-- Replies of JSON-RPC 2.0, sections 5 and 6.
use Rattle.std.specs.Prelude.{[], ◌∷◌, Result, Ok, Err, codes}
use Rattle.serde_json.specs.Data.{Data, string, number}
use Rattle.serde_json.specs.Find.{of_integer}
use Rattle.el_calls.specs.Refusals.{code_of, message_of}
use Rattle.el_methods.specs.Results.{object_of}
use Rattle.el_calls.specs.declared.refusal.Refusal.{Refusal}

-- an error as a reply has it: its code, and its message
abbrev pub error_of : Refusal → Data
error_of r =
    object_of ((codes "code", number (of_integer (code_of r)))
    ∷ (codes "message", string (message_of r)) ∷ [])

-- the reply to a request with that id
abbrev pub reply_value : Data → Result Data Refusal → Data
reply_value id (Ok found) =
    object_of ((codes "id", id) ∷ (codes "jsonrpc", string (codes "2.0")) ∷ (codes "result", found) ∷ [])
reply_value id (Err r) =
    object_of ((codes "error", error_of r) ∷ (codes "id", id) ∷ (codes "jsonrpc", string (codes "2.0")) ∷ [])

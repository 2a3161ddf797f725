use Rattle.std.proofs.Common.{◌≡◌, ◌++◌, ℕ, List, [], sym, ap, ◌∙◌, arith, append-nil, rules}
use Rattle.std.specs.Int.{w64, to_le_bytes}
use Rattle.std.proofs.lemmas.List.{nil_from_length}
use Rattle.el_row_formats.specs.RowBytes.{link_bytes, FitsScriptRow}
use Rattle.el_row_formats.specs.declared.script_row.ScriptRow.{ScriptRow}
use Rattle.el_row_formats.proofs.RowLemmas.{one_script_row}
use Rattle.el_row_formats.proofs.script_row.ScriptRow.read.Goals as goal

pub returns-clause-written : goal.returns-clause-written
returns-clause-written c =
    let none : c.long_number-balance.result.1.now ≡ [] = nil_from_length c.long_number-balance.result.1.now (omega (arith, c.requires, c.hash.ensures.rest, c.link-next.ensures.rest, c.link-last.ensures.rest, c.long_number-entries.ensures.rest, c.long_number-balance.ensures.rest)) in
    sym (c.hash.ensures.front
    ∙ ap (λ (x : List ℕ). c.hash.result.0.0 ++ x) (c.link-next.ensures.front
    ∙ ap (λ (x : List ℕ). link_bytes c.link-next.result.0 ++ x) (c.link-last.ensures.front
    ∙ ap (λ (x : List ℕ). link_bytes c.link-last.result.0 ++ x) (c.long_number-entries.ensures.front
    ∙ ap (λ (x : List ℕ). to_le_bytes w64 c.long_number-entries.result.0 ++ x) (c.long_number-balance.ensures.front ∙ ap (λ (x : List ℕ). to_le_bytes w64 c.long_number-balance.result.0 ++ x) none ∙ append-nil (to_le_bytes w64 c.long_number-balance.result.0))))))

pub returns-clause-only : goal.returns-clause-only
returns-clause-only c = λ r fits is.
    let read : ScriptRow = record { script = c.hash.result.0; next = c.link-next.result.0; last = c.link-last.result.0; entries = c.long_number-entries.result.0; balance = c.long_number-balance.result.0 } in
    let whole : FitsScriptRow read = search rules in
    one_script_row r read fits whole (is ∙ sym (returns-clause-written c))

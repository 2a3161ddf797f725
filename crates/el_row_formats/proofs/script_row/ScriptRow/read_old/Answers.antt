use Rattle.std.proofs.Common.{◌≡◌, ◌++◌, ℕ, List, [], sym, ap, ◌∙◌, arith, append-nil, rules}
use Rattle.std.specs.Int.{w32, w64, to_le_bytes}
use Rattle.std.proofs.lemmas.List.{nil_from_length}
use Rattle.el_row_formats.specs.OldRowBytes.{old_link_bytes, FitsOldScriptRow}
use Rattle.el_row_formats.specs.declared.script_row.ScriptRow.{ScriptRow}
use Rattle.el_row_formats.proofs.OldRowLemmas.{one_old_script_row}
use Rattle.el_row_formats.proofs.script_row.ScriptRow.read_old.Goals as goal

pub returns-clause-written : goal.returns-clause-written
returns-clause-written c =
    let none : c.long_number-balance.result.1.now ≡ [] = nil_from_length c.long_number-balance.result.1.now (omega (arith, c.requires, c.hash.ensures.rest, c.old_link-next.ensures.rest, c.old_link-last.ensures.rest, c.number-entries.ensures.rest, c.long_number-balance.ensures.rest)) in
    sym (c.hash.ensures.front
    ∙ ap (λ (x : List ℕ). c.hash.result.0.0 ++ x) (c.old_link-next.ensures.front
    ∙ ap (λ (x : List ℕ). old_link_bytes c.old_link-next.result.0 ++ x) (c.old_link-last.ensures.front
    ∙ ap (λ (x : List ℕ). old_link_bytes c.old_link-last.result.0 ++ x) ((c.number-entries.ensures.front ∙ ap (λ (n : ℕ). to_le_bytes w32 n ++ c.number-entries.result.1.now) (sym c.from.ensures))
    ∙ ap (λ (x : List ℕ). to_le_bytes w32 c.from.result ++ x) (c.long_number-balance.ensures.front ∙ ap (λ (x : List ℕ). to_le_bytes w64 c.long_number-balance.result.0 ++ x) none ∙ append-nil (to_le_bytes w64 c.long_number-balance.result.0))))))

pub returns-clause-only : goal.returns-clause-only
returns-clause-only c = λ r fits is.
    let read : ScriptRow = record { script = c.hash.result.0; next = c.old_link-next.result.0; last = c.old_link-last.result.0; entries = c.from.result; balance = c.long_number-balance.result.0 } in
    let whole : FitsOldScriptRow read = search rules in
    one_old_script_row r read fits whole (is ∙ sym (returns-clause-written c))

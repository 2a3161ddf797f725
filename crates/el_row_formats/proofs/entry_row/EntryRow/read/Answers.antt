use Rattle.std.proofs.Common.{◌≡◌, ◌++◌, ℕ, List, [], sym, ap, ◌∙◌, arith, append-nil, rules}
use Rattle.std.specs.Int.{w64, to_le_bytes}
use Rattle.std.proofs.lemmas.List.{nil_from_length}
use Rattle.el_row_formats.specs.RowBytes.{link_bytes, FitsEntryRow}
use Rattle.el_row_formats.specs.declared.entry_row.EntryRow.{EntryRow}
use Rattle.el_row_formats.proofs.RowLemmas.{one_entry_row}
use Rattle.el_row_formats.proofs.entry_row.EntryRow.read.Goals as goal

pub returns-clause-written : goal.returns-clause-written
returns-clause-written c =
    let none : c.link-before.result.1.now ≡ [] = nil_from_length c.link-before.result.1.now (omega (arith, c.requires, c.long_number-tx.ensures.rest, c.long_number-script.ensures.rest, c.link-before.ensures.rest)) in
    sym (c.long_number-tx.ensures.front
    ∙ ap (λ (x : List ℕ). to_le_bytes w64 c.long_number-tx.result.0 ++ x) (c.long_number-script.ensures.front
    ∙ ap (λ (x : List ℕ). to_le_bytes w64 c.long_number-script.result.0 ++ x) (c.link-before.ensures.front ∙ ap (λ (x : List ℕ). link_bytes c.link-before.result.0 ++ x) none ∙ append-nil (link_bytes c.link-before.result.0))))

pub returns-clause-only : goal.returns-clause-only
returns-clause-only c = λ r fits is.
    let read : EntryRow = record { tx = c.long_number-tx.result.0; script = c.long_number-script.result.0; before = c.link-before.result.0 } in
    let whole : FitsEntryRow read = search rules in
    one_entry_row r read fits whole (is ∙ sym (returns-clause-written c))

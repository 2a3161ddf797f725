use Rattle.std.proofs.Common.{◌≡◌, ◌++◌, ℕ, List, [], sym, ap, ◌∙◌, arith, append-nil, rules}
use Rattle.std.specs.Int.{w32, to_le_bytes}
use Rattle.std.proofs.lemmas.List.{nil_from_length}
use Rattle.el_row_formats.specs.OldRowBytes.{old_link_bytes, FitsOldEntryRow}
use Rattle.el_row_formats.specs.declared.entry_row.EntryRow.{EntryRow}
use Rattle.el_row_formats.proofs.OldRowLemmas.{one_old_entry_row}
use Rattle.el_row_formats.proofs.entry_row.EntryRow.read_old.Goals as goal

pub returns-clause-written : goal.returns-clause-written
returns-clause-written c =
    let none : c.old_link-before.result.1.now ≡ [] = nil_from_length c.old_link-before.result.1.now (omega (arith, c.requires, c.number-tx.ensures.rest, c.number-script.ensures.rest, c.old_link-before.ensures.rest)) in
    sym ((c.number-tx.ensures.front ∙ ap (λ (n : ℕ). to_le_bytes w32 n ++ c.number-tx.result.1.now) (sym c.from.ensures))
    ∙ ap (λ (x : List ℕ). to_le_bytes w32 c.from.result ++ x) ((c.number-script.ensures.front ∙ ap (λ (n : ℕ). to_le_bytes w32 n ++ c.number-script.result.1.now) (sym c.from-2.ensures))
    ∙ ap (λ (x : List ℕ). to_le_bytes w32 c.from-2.result ++ x) (c.old_link-before.ensures.front ∙ ap (λ (x : List ℕ). old_link_bytes c.old_link-before.result.0 ++ x) none ∙ append-nil (old_link_bytes c.old_link-before.result.0))))

pub returns-clause-only : goal.returns-clause-only
returns-clause-only c = λ r fits is.
    let read : EntryRow = record { tx = c.from.result; script = c.from-2.result; before = c.old_link-before.result.0 } in
    let whole : FitsOldEntryRow read = search rules in
    one_old_entry_row r read fits whole (is ∙ sym (returns-clause-written c))

use Rattle.std.proofs.Common.{◌≡◌, ◌<◌, ◌^◌, ◌++◌, ◌∷◌, [], List, ℕ, get_or, sym, ap, ◌∙◌, arith, append-nil, rules}
use Rattle.std.specs.Int.{w32, w64, to_le_bytes}
use Rattle.std.proofs.lemmas.List.{nil_from_length}
use Rattle.el_row_formats.specs.RowBytes.{state_of}
use Rattle.el_row_formats.specs.OldRowBytes.{old_number_limit, old_out_fields}
use Rattle.el_row_formats.specs.declared.out_row.OutRow.{OutRow}
use Rattle.el_row_formats.proofs.OldRowLemmas.{one_old_out_row}
use Rattle.el_row_formats.proofs.RowLemmas.{one_byte}
use Rattle.el_row_formats.proofs.out_row.OutRow.read_old.Goals as goal

pub returns-clause-only : goal.returns-clause-only
returns-clause-only c = λ r fits is.
    let read : OutRow = record { tx = c.from.result; value = c.long_number-value.result.0; script = c.from-2.result; state = c.read.result } in
    let kind = get_or c.array.result.0 0 0 in
    let by = c.number-by.result.0 in
    let none : c.number-by.result.1.now ≡ [] = nil_from_length c.number-by.result.1.now
    (omega (arith, c.requires, c.number-tx.ensures.rest, c.long_number-value.ensures.rest, c.number-script.ensures.rest, c.array.ensures.rest, c.number-by.ensures.rest)) in
    let fields : c.args.bytes.now ≡ old_out_fields read kind by =
    c.number-tx.ensures.front ∙ ap (λ (n : ℕ). to_le_bytes w32 n ++ c.number-tx.result.1.now) (sym c.from.ensures)
    ∙ ap (λ (x : List ℕ). to_le_bytes w32 c.from.result ++ x) (c.long_number-value.ensures.front
    ∙ ap (λ (x : List ℕ). to_le_bytes w64 c.long_number-value.result.0 ++ x) (c.number-script.ensures.front ∙ ap (λ (n : ℕ). to_le_bytes w32 n ++ c.number-script.result.1.now) (sym c.from-2.ensures)
    ∙ ap (λ (x : List ℕ). to_le_bytes w32 c.from-2.result ++ x) (c.array.ensures.front ∙ ap (λ (x : List ℕ). x ++ c.array.result.1.now) (one_byte c.array.result.0 c.array.ensures.long)
    ∙ ap (λ (x : List ℕ). kind ∷ x) (c.number-by.ensures.front ∙ ap (λ (x : List ℕ). to_le_bytes w32 by ++ x) none ∙ append-nil (to_le_bytes w32 by))))) in
    let small : by < old_number_limit = search rules in
    let tx : read.tx < old_number_limit = search rules in
    let script : read.script < old_number_limit = search rules in
    let value : read.value < 2 ^ 64 = search rules in
    one_old_out_row r read c.args.bytes.now (record { state = kind; by = by; fields = fields; is = c.read.ensures ∙ ap (λ (n : ℕ). state_of kind n) c.from-3.ensures }) fits tx value script small is

use Rattle.std.proofs.Common.{◌≡◌, ◌<◌, ◌^◌, ◌++◌, ◌∷◌, [], List, ℕ, get_or, sym, ap, ◌∙◌, arith, append-nil, rules}
use Rattle.std.specs.Int.{w64, to_le_bytes}
use Rattle.std.proofs.lemmas.List.{nil_from_length}
use Rattle.el_row_formats.specs.RowBytes.{number_limit, out_fields}
use Rattle.el_row_formats.specs.declared.out_row.OutRow.{OutRow}
use Rattle.el_row_formats.proofs.RowLemmas.{one_out_row, one_byte}
use Rattle.el_row_formats.proofs.out_row.OutRow.read.Goals as goal

pub returns-clause-only : goal.returns-clause-only
returns-clause-only c = λ r fits is.
    let read : OutRow = record { tx = c.long_number-tx.result.0; value = c.long_number-value.result.0; script = c.long_number-script.result.0; state = c.read.result } in
    let kind = get_or c.array.result.0 0 0 in
    let by = c.long_number-by.result.0 in
    let none : c.long_number-by.result.1.now ≡ [] = nil_from_length c.long_number-by.result.1.now
    (omega (arith, c.requires, c.long_number-tx.ensures.rest, c.long_number-value.ensures.rest, c.long_number-script.ensures.rest, c.array.ensures.rest, c.long_number-by.ensures.rest)) in
    let fields : c.args.bytes.now ≡ out_fields read kind by =
    c.long_number-tx.ensures.front
    ∙ ap (λ (x : List ℕ). to_le_bytes w64 c.long_number-tx.result.0 ++ x) (c.long_number-value.ensures.front
    ∙ ap (λ (x : List ℕ). to_le_bytes w64 c.long_number-value.result.0 ++ x) (c.long_number-script.ensures.front
    ∙ ap (λ (x : List ℕ). to_le_bytes w64 c.long_number-script.result.0 ++ x) (c.array.ensures.front ∙ ap (λ (x : List ℕ). x ++ c.array.result.1.now) (one_byte c.array.result.0 c.array.ensures.long)
    ∙ ap (λ (x : List ℕ). kind ∷ x) (c.long_number-by.ensures.front ∙ ap (λ (x : List ℕ). to_le_bytes w64 by ++ x) none ∙ append-nil (to_le_bytes w64 by))))) in
    let small : by < number_limit = search rules in
    let tx : read.tx < number_limit = search rules in
    let script : read.script < number_limit = search rules in
    let value : read.value < 2 ^ 64 = search rules in
    one_out_row r read c.args.bytes.now (record { state = kind; by = by; fields = fields; is = c.read.ensures }) fits tx value script small is

use Rattle.std.proofs.Common.{◌≡◌, ◌++◌, ℕ, List, [], sym, ap, ◌∙◌, arith, append-nil, rules}
use Rattle.std.specs.Int.{w32, w64, to_le_bytes}
use Rattle.std.proofs.lemmas.List.{nil_from_length}
use Rattle.el_row_formats.specs.RowBytes.{FitsBlockRow}
use Rattle.el_row_formats.specs.declared.block_row.BlockRow.{BlockRow}
use Rattle.el_row_formats.proofs.RowLemmas.{one_block_row}
use Rattle.el_row_formats.proofs.block_row.BlockRow.read.Goals as goal

pub returns-clause-written : goal.returns-clause-written
returns-clause-written c =
    let none : c.long_number-sum.result.1.now ≡ [] = nil_from_length c.long_number-sum.result.1.now (omega (arith, c.requires, c.array.ensures.rest, c.number-file.ensures.rest, c.long_number-offset.ensures.rest, c.number-len.ensures.rest, c.long_number-first_tx.ensures.rest, c.number-txs.ensures.rest, c.long_number-sum.ensures.rest)) in
    sym (c.array.ensures.front
    ∙ ap (λ (x : List ℕ). c.array.result.0 ++ x) (c.number-file.ensures.front
    ∙ ap (λ (x : List ℕ). to_le_bytes w32 c.number-file.result.0 ++ x) (c.long_number-offset.ensures.front
    ∙ ap (λ (x : List ℕ). to_le_bytes w64 c.long_number-offset.result.0 ++ x) (c.number-len.ensures.front
    ∙ ap (λ (x : List ℕ). to_le_bytes w32 c.number-len.result.0 ++ x) (c.long_number-first_tx.ensures.front
    ∙ ap (λ (x : List ℕ). to_le_bytes w64 c.long_number-first_tx.result.0 ++ x) (c.number-txs.ensures.front
    ∙ ap (λ (x : List ℕ). to_le_bytes w32 c.number-txs.result.0 ++ x) (c.long_number-sum.ensures.front ∙ ap (λ (x : List ℕ). to_le_bytes w64 c.long_number-sum.result.0 ++ x) none ∙ append-nil (to_le_bytes w64 c.long_number-sum.result.0))))))))

pub returns-clause-only : goal.returns-clause-only
returns-clause-only c = λ r fits is.
    let read : BlockRow = record { header = c.array.result.0; place = record { file = c.number-file.result.0; offset = c.long_number-offset.result.0; len = c.number-len.result.0 }; first_tx = c.long_number-first_tx.result.0; txs = c.number-txs.result.0; sum = c.long_number-sum.result.0 } in
    let whole : FitsBlockRow read = search rules in
    one_block_row r read fits whole (is ∙ sym (returns-clause-written c))

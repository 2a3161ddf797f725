use Rattle.std.proofs.Common.{◌≡◌, ◌++◌, ℕ, List, [], sym, ap, ◌∙◌, arith, append-nil, rules}
use Rattle.std.specs.Int.{w32, w64, to_le_bytes}
use Rattle.std.proofs.lemmas.List.{nil_from_length}
use Rattle.el_row_formats.specs.RowBytes.{link_bytes, FitsTxRow}
use Rattle.el_row_formats.specs.declared.tx_row.TxRow.{TxRow}
use Rattle.el_row_formats.proofs.RowLemmas.{one_tx_row}
use Rattle.el_row_formats.proofs.tx_row.TxRow.read.Goals as goal

pub returns-clause-written : goal.returns-clause-written
returns-clause-written c =
    let none : c.link-next.result.1.now ≡ [] = nil_from_length c.link-next.result.1.now (omega (arith, c.requires, c.hash.ensures.rest, c.number-height.ensures.rest, c.number-start.ensures.rest, c.number-len.ensures.rest, c.long_number-first_out.ensures.rest, c.number-outs.ensures.rest, c.long_number-first_in.ensures.rest, c.number-ins.ensures.rest, c.link-older.ensures.rest, c.link-next.ensures.rest)) in
    sym (c.hash.ensures.front
    ∙ ap (λ (x : List ℕ). c.hash.result.0.0 ++ x) (c.number-height.ensures.front
    ∙ ap (λ (x : List ℕ). to_le_bytes w32 c.number-height.result.0 ++ x) (c.number-start.ensures.front
    ∙ ap (λ (x : List ℕ). to_le_bytes w32 c.number-start.result.0 ++ x) (c.number-len.ensures.front
    ∙ ap (λ (x : List ℕ). to_le_bytes w32 c.number-len.result.0 ++ x) (c.long_number-first_out.ensures.front
    ∙ ap (λ (x : List ℕ). to_le_bytes w64 c.long_number-first_out.result.0 ++ x) (c.number-outs.ensures.front
    ∙ ap (λ (x : List ℕ). to_le_bytes w32 c.number-outs.result.0 ++ x) (c.long_number-first_in.ensures.front
    ∙ ap (λ (x : List ℕ). to_le_bytes w64 c.long_number-first_in.result.0 ++ x) (c.number-ins.ensures.front
    ∙ ap (λ (x : List ℕ). to_le_bytes w32 c.number-ins.result.0 ++ x) (c.link-older.ensures.front
    ∙ ap (λ (x : List ℕ). link_bytes c.link-older.result.0 ++ x) (c.link-next.ensures.front ∙ ap (λ (x : List ℕ). link_bytes c.link-next.result.0 ++ x) none ∙ append-nil (link_bytes c.link-next.result.0)))))))))))

pub returns-clause-only : goal.returns-clause-only
returns-clause-only c = λ r fits is.
    let read : TxRow = record { txid = c.hash.result.0; height = c.number-height.result.0; start = c.number-start.result.0; len = c.number-len.result.0; first_out = c.long_number-first_out.result.0; outs = c.number-outs.result.0; first_in = c.long_number-first_in.result.0; ins = c.number-ins.result.0; older = c.link-older.result.0; next = c.link-next.result.0 } in
    let whole : FitsTxRow read = search rules in
    one_tx_row r read fits whole (is ∙ sym (returns-clause-written c))

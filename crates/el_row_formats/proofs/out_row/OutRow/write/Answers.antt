use Rattle.std.proofs.Common.{◌≡◌, ◌++◌, ◌∷◌, [], ℕ, List, length, take, sym, ap, ◌∙◌, arith, take_all}
use Rattle.std.specs.Int.{w64, to_le_bytes}
use Rattle.el_row_formats.specs.RowBytes.{state_number, state_by}
use Rattle.el_row_formats.proofs.RowLemmas.{nested_5}
use Rattle.el_row_formats.proofs.out_row.OutRow.write.Goals as goal

pub returns : goal.returns
returns c =
    let row = c.args.self.now in
    let whole : length c.put-5.new.row ≡ 33 = omega (arith, c.requires.size, c.put.ensures.size, c.put-2.ensures.size, c.put-3.ensures.size, c.put-4.ensures.size, c.put-5.ensures.size) in
    sym (take_all 33 c.put-5.new.row (omega (arith, whole))) ∙ c.put-5.ensures.put ∙ ap (λ (x : List ℕ). take 25 c.put-4.new.row ++ x) (c.to_le_bytes-4.ensures ∙ ap (λ (n : ℕ). to_le_bytes w64 n) c.numbers-state.ensures.by)
    ∙ ap (λ (x : List ℕ). x ++ to_le_bytes w64 (state_by row.state)) (c.put-4.ensures.put ∙ ap (λ (n : ℕ). take 24 c.put-3.new.row ++ n ∷ []) c.numbers-state.ensures.number
    ∙ ap (λ (x : List ℕ). x ++ state_number row.state ∷ []) (c.put-3.ensures.put ∙ ap (λ (x : List ℕ). take 16 c.put-2.new.row ++ x) c.to_le_bytes-3.ensures
    ∙ ap (λ (x : List ℕ). x ++ to_le_bytes w64 row.script) (c.put-2.ensures.put ∙ ap (λ (x : List ℕ). take 8 c.put.new.row ++ x) c.to_le_bytes-2.ensures
    ∙ ap (λ (x : List ℕ). x ++ to_le_bytes w64 row.value) (c.put.ensures.put ∙ c.to_le_bytes.ensures))))
    ∙ nested_5 (to_le_bytes w64 row.tx) (to_le_bytes w64 row.value) (to_le_bytes w64 row.script) (state_number row.state ∷ []) (to_le_bytes w64 (state_by row.state))

use Rattle.std.proofs.Common.{◌≡◌, ◌++◌, ℕ, List, length, take, sym, ap, ◌∙◌, arith, take_all}
use Rattle.std.specs.Int.{w32, w64, to_le_bytes}
use Rattle.el_row_formats.proofs.RowLemmas.{nested_7}
use Rattle.el_row_formats.proofs.block_row.BlockRow.write.Goals as goal

pub returns : goal.returns
returns c =
    let whole : length c.put-7.new.row ≡ 116 = omega (arith, c.requires.size, c.put.ensures.size, c.put-2.ensures.size, c.put-3.ensures.size, c.put-4.ensures.size, c.put-5.ensures.size, c.put-6.ensures.size, c.put-7.ensures.size) in
    sym (take_all 116 c.put-7.new.row (omega (arith, whole))) ∙ c.put-7.ensures.put ∙ ap (λ (x : List ℕ). take 108 c.put-6.new.row ++ x) c.to_le_bytes-6.ensures
    ∙ ap (λ (x : List ℕ). x ++ to_le_bytes w64 c.args.self.now.sum) (c.put-6.ensures.put ∙ ap (λ (x : List ℕ). take 104 c.put-5.new.row ++ x) c.to_le_bytes-5.ensures
    ∙ ap (λ (x : List ℕ). x ++ to_le_bytes w32 c.args.self.now.txs) (c.put-5.ensures.put ∙ ap (λ (x : List ℕ). take 96 c.put-4.new.row ++ x) c.to_le_bytes-4.ensures
    ∙ ap (λ (x : List ℕ). x ++ to_le_bytes w64 c.args.self.now.first_tx) (c.put-4.ensures.put ∙ ap (λ (x : List ℕ). take 92 c.put-3.new.row ++ x) c.to_le_bytes-3.ensures
    ∙ ap (λ (x : List ℕ). x ++ to_le_bytes w32 c.args.self.now.place.len) (c.put-3.ensures.put ∙ ap (λ (x : List ℕ). take 84 c.put-2.new.row ++ x) c.to_le_bytes-2.ensures
    ∙ ap (λ (x : List ℕ). x ++ to_le_bytes w64 c.args.self.now.place.offset) (c.put-2.ensures.put ∙ ap (λ (x : List ℕ). take 80 c.put.new.row ++ x) c.to_le_bytes.ensures
    ∙ ap (λ (x : List ℕ). x ++ to_le_bytes w32 c.args.self.now.place.file) (c.put.ensures.put))))))
    ∙ nested_7 (c.args.self.now.header) (to_le_bytes w32 c.args.self.now.place.file) (to_le_bytes w64 c.args.self.now.place.offset) (to_le_bytes w32 c.args.self.now.place.len) (to_le_bytes w64 c.args.self.now.first_tx) (to_le_bytes w32 c.args.self.now.txs) (to_le_bytes w64 c.args.self.now.sum)

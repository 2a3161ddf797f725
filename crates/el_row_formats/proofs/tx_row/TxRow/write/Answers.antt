use Rattle.std.proofs.Common.{◌≡◌, ◌++◌, ℕ, List, length, take, sym, ap, ◌∙◌, arith, take_all}
use Rattle.std.specs.Int.{w32, w64, to_le_bytes}
use Rattle.el_row_formats.specs.RowBytes.{link_bytes}
use Rattle.el_row_formats.proofs.RowLemmas.{nested_10}
use Rattle.el_row_formats.proofs.tx_row.TxRow.write.Goals as goal

pub returns : goal.returns
returns c =
    let whole : length c.put-10.new.row ≡ 84 = omega (arith, c.requires.size, c.put.ensures.size, c.put-2.ensures.size, c.put-3.ensures.size, c.put-4.ensures.size, c.put-5.ensures.size, c.put-6.ensures.size, c.put-7.ensures.size, c.put-8.ensures.size, c.put-9.ensures.size, c.put-10.ensures.size) in
    sym (take_all 84 c.put-10.new.row (omega (arith, whole))) ∙ c.put-10.ensures.put ∙ ap (λ (x : List ℕ). take 76 c.put-9.new.row ++ x) c.bytes_of_link-2.ensures
    ∙ ap (λ (x : List ℕ). x ++ link_bytes c.args.self.now.next) (c.put-9.ensures.put ∙ ap (λ (x : List ℕ). take 68 c.put-8.new.row ++ x) c.bytes_of_link.ensures
    ∙ ap (λ (x : List ℕ). x ++ link_bytes c.args.self.now.older) (c.put-8.ensures.put ∙ ap (λ (x : List ℕ). take 64 c.put-7.new.row ++ x) c.to_le_bytes-7.ensures
    ∙ ap (λ (x : List ℕ). x ++ to_le_bytes w32 c.args.self.now.ins) (c.put-7.ensures.put ∙ ap (λ (x : List ℕ). take 56 c.put-6.new.row ++ x) c.to_le_bytes-6.ensures
    ∙ ap (λ (x : List ℕ). x ++ to_le_bytes w64 c.args.self.now.first_in) (c.put-6.ensures.put ∙ ap (λ (x : List ℕ). take 52 c.put-5.new.row ++ x) c.to_le_bytes-5.ensures
    ∙ ap (λ (x : List ℕ). x ++ to_le_bytes w32 c.args.self.now.outs) (c.put-5.ensures.put ∙ ap (λ (x : List ℕ). take 44 c.put-4.new.row ++ x) c.to_le_bytes-4.ensures
    ∙ ap (λ (x : List ℕ). x ++ to_le_bytes w64 c.args.self.now.first_out) (c.put-4.ensures.put ∙ ap (λ (x : List ℕ). take 40 c.put-3.new.row ++ x) c.to_le_bytes-3.ensures
    ∙ ap (λ (x : List ℕ). x ++ to_le_bytes w32 c.args.self.now.len) (c.put-3.ensures.put ∙ ap (λ (x : List ℕ). take 36 c.put-2.new.row ++ x) c.to_le_bytes-2.ensures
    ∙ ap (λ (x : List ℕ). x ++ to_le_bytes w32 c.args.self.now.start) (c.put-2.ensures.put ∙ ap (λ (x : List ℕ). take 32 c.put.new.row ++ x) c.to_le_bytes.ensures
    ∙ ap (λ (x : List ℕ). x ++ to_le_bytes w32 c.args.self.now.height) (c.put.ensures.put)))))))))
    ∙ nested_10 (c.args.self.now.txid.0) (to_le_bytes w32 c.args.self.now.height) (to_le_bytes w32 c.args.self.now.start) (to_le_bytes w32 c.args.self.now.len) (to_le_bytes w64 c.args.self.now.first_out) (to_le_bytes w32 c.args.self.now.outs) (to_le_bytes w64 c.args.self.now.first_in) (to_le_bytes w32 c.args.self.now.ins) (link_bytes c.args.self.now.older) (link_bytes c.args.self.now.next)

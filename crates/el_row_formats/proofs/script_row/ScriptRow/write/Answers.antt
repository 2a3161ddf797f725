use Rattle.std.proofs.Common.{◌≡◌, ◌++◌, ℕ, List, length, take, sym, ap, ◌∙◌, arith, take_all}
use Rattle.std.specs.Int.{w64, to_le_bytes}
use Rattle.el_row_formats.specs.RowBytes.{link_bytes}
use Rattle.el_row_formats.proofs.RowLemmas.{nested_5}
use Rattle.el_row_formats.proofs.script_row.ScriptRow.write.Goals as goal

pub returns : goal.returns
returns c =
    let whole : length c.put-5.new.row ≡ 64 = omega (arith, c.requires.size, c.put.ensures.size, c.put-2.ensures.size, c.put-3.ensures.size, c.put-4.ensures.size, c.put-5.ensures.size) in
    sym (take_all 64 c.put-5.new.row (omega (arith, whole))) ∙ c.put-5.ensures.put ∙ ap (λ (x : List ℕ). take 56 c.put-4.new.row ++ x) c.to_le_bytes-2.ensures
    ∙ ap (λ (x : List ℕ). x ++ to_le_bytes w64 c.args.self.now.balance) (c.put-4.ensures.put ∙ ap (λ (x : List ℕ). take 48 c.put-3.new.row ++ x) c.to_le_bytes.ensures
    ∙ ap (λ (x : List ℕ). x ++ to_le_bytes w64 c.args.self.now.entries) (c.put-3.ensures.put ∙ ap (λ (x : List ℕ). take 40 c.put-2.new.row ++ x) c.bytes_of_link-2.ensures
    ∙ ap (λ (x : List ℕ). x ++ link_bytes c.args.self.now.last) (c.put-2.ensures.put ∙ ap (λ (x : List ℕ). take 32 c.put.new.row ++ x) c.bytes_of_link.ensures
    ∙ ap (λ (x : List ℕ). x ++ link_bytes c.args.self.now.next) (c.put.ensures.put))))
    ∙ nested_5 (c.args.self.now.script.0) (link_bytes c.args.self.now.next) (link_bytes c.args.self.now.last) (to_le_bytes w64 c.args.self.now.entries) (to_le_bytes w64 c.args.self.now.balance)

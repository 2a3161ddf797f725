use Rattle.std.proofs.Common.{◌<◌, ◌++◌, ℕ, List, sym, ap, ◌∙◌, get_or, rules}
use Rattle.std.proofs.lemmas.Nat.{le_bytes_8}
use Rattle.el_row_formats.proofs.fields.long_number.Goals as goal

pub returns-clause-front : goal.returns-clause-front
returns-clause-front c =
    let bytes : (i : ℕ) → get_or c.array.result.0 i 0 < 256 = search rules in
    c.array.ensures.front ∙ ap (λ (x : List ℕ). x ++ c.array.result.1.now) (sym (le_bytes_8 c.array.result.0 c.from_le_bytes.result c.array.ensures.long bytes c.from_le_bytes.ensures))

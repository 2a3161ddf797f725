use Rattle.std.proofs.Common.{◌≡◌, ℕ, List, ◌++◌, length, take, drop, refl, sym, ap, ◌∙◌, rules, take-append-drop}
use Rattle.std.proofs.lemmas.List.{take_at}
use Rattle.el_lines.proofs.node_line.after_word.Goals as goal

pub returns-then-ne : goal.returns-then-ne
returns-then-ne c = λ text e.
    let n = length c.args.word.now in
    let front : c.bytes_before.result.now ≡ c.args.word.now = c.bytes_before.ensures ∙ ap (take n) e ∙ take_at c.args.word.now text n refl in
    search rules

pub returns : goal.returns
returns c =
    let n = length c.args.word.now in
    let front : c.bytes_before.result.now ≡ c.args.word.now = search rules in
    sym (take-append-drop n c.args.line.now) ∙ ap (λ (t : List ℕ). t ++ drop n c.args.line.now) (sym c.bytes_before.ensures ∙ front)
    ∙ ap (λ (t : List ℕ). c.args.word.now ++ t) (sym c.bytes_from.ensures)

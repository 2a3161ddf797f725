use Rattle.std.proofs.Common.{◌≡◌, List, ℕ, ◌++◌, codes, ap, ◌∙◌}
use Rattle.std.specs.Fmt.{decimal}
use Rattle.el_check_chain.proofs.summary.Summary.line.Goals as goal

pub returns : goal.returns
returns c =
    let s = c.args.self.now in
    let empty = c.new-line.ensures in
    let height = c.in_ok-put.ensures ∙ ap (λ (n : ℕ). c.new-line.result ++ codes "height " ++ decimal n) c.from.ensures
    ∙ ap (λ (l : List ℕ). l ++ codes "height " ++ decimal s.height) empty in
    let txs = c.in_ok-put-2.ensures ∙ ap (λ (l : List ℕ). l ++ codes " transactions " ++ decimal s.txs) height in
    let outputs = c.in_ok-put-3.ensures ∙ ap (λ (l : List ℕ). l ++ codes " outputs " ++ decimal s.outputs) txs in
    let moves = c.in_ok-put-4.ensures ∙ ap (λ (l : List ℕ). l ++ codes " moves " ++ decimal s.moves) outputs in
    let balance = c.in_ok-put-5.ensures ∙ ap (λ (l : List ℕ). l ++ codes " balance " ++ decimal s.balance) moves in
    let bytes = c.in_ok-put-6.ensures ∙ ap (λ (l : List ℕ). l ++ codes " bytes " ++ decimal s.bytes) balance in
    c.in_ok-extend.ensures.ok ∙ ap (λ (l : List ℕ). l ++ codes "\n") bytes

-- What a transaction's inputs and outputs have together.
use Rattle.std.proofs.Common.{◌≡◌, ◌∙◌, ℕ, ◌+◌, List, [], ◌∷◌, map, false, refl, ap, sym}
use Rattle.std.proofs.lemmas.List.Sums.{sum_by-cons}
use Rattle.el_tx.specs.declared.types.Outpoint.{Outpoint}
use Rattle.el_tx.specs.declared.types.TxOut.{TxOut}
use Rattle.el_tx.specs.Encoding.{some_witness, total_value}
use Rattle.el_gen.specs.Generated.{spending_input, paid, total_paid}

pub bare : (from : List Outpoint) → some_witness (map spending_input from) ≡ false
bare [] = refl
bare (o ∷ os) = bare os

abbrev pub paid_all : List (ℕ × ℕ) → List TxOut
paid_all to = map (λ (p : ℕ × ℕ). paid p.0 p.1) to

pub same_total : (to : List (ℕ × ℕ)) → total_value (paid_all to) ≡ total_paid to
same_total [] = refl
same_total (p ∷ ps) =
    sum_by-cons (λ (o : TxOut). o.value) (paid p.0 p.1) (paid_all ps)
    ∙ (ap (λ n. p.0 + n) (same_total ps) ∙ sym (sum_by-cons (λ (q : ℕ × ℕ). q.0) p ps))

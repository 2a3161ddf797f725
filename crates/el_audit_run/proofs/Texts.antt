-- Texts that are put behind a line, one after the other.
use Rattle.std.proofs.Common.{◌≡◌, ℕ, List, ◌++◌, Result, Ok, Err, OnOk, ap, ◌∙◌, append_assoc}

pub three : {T E : Type 0} (r : Result T E) (old first second new a b c d : List ℕ) → first ≡ old ++ a → second ≡ first ++ b → c ≡ d → OnOk r (new ≡ second ++ c)
    → OnOk r (new ≡ old ++ ((a ++ b) ++ d))
three (Ok x) old first second new a b c d e f g h =
    h ∙ ap (λ l. second ++ l) g ∙ ap (λ l. l ++ d) (f ∙ ap (λ l. l ++ b) e) ∙ ap (λ l. l ++ d) (append_assoc old a b) ∙ append_assoc old (a ++ b) d
three (Err x) old first second new a b c d e f g h = tt

use Rattle.std.proofs.Common.{◌≡◌, ◌<◌, ◌≤◌, List, [], ◌∷◌, get_or, length, codes, sym, ap₂, ◌∙◌, arith}
use Rattle.std.specs.Prelude.{String}
use Rattle.std.specs.String.{string_bytes}
use Rattle.std.specs.Global.{Global}
use Rattle.std.proofs.lemmas.Slice.Eq.{bytes_eq-Decides}
use Rattle.el_words.specs.Options.{Word}
use Rattle.el_words.specs.Words.{texts}
use Rattle.el_words.proofs.ProofLemmas.{not_other}
use Rattle.el_words.proofs.words.check_of.Goals as goal

-- a list of two words
two_words : (ws : List (String Global)) (a b : String Global) → 2 ≤ length ws → length ws < 3
    → a ≡ get_or ws 0 a → b ≡ get_or ws 1 b → texts ws ≡ string_bytes a ∷ string_bytes b ∷ []
two_words [] a b least most is_a is_b = absurd (omega arith)
two_words (x ∷ []) a b least most is_a is_b = absurd (omega arith)
two_words (x ∷ y ∷ []) a b least most is_a is_b =
    ap₂ (λ (a b : String Global). string_bytes a ∷ string_bytes b ∷ []) (sym is_a) (sym is_b)
two_words (x ∷ y ∷ z ∷ more) a b least most is_a is_b = absurd (omega arith)

pub returns-clause-found : goal.returns-clause-found
returns-clause-found c =
    let same = (bytes_eq-Decides c.as_str.result.now (codes "check-chain")).0
    (not_other _ _ c.ne.ensures c.if-ne.false) in
    record {
      number = c.as_str-2.result.now;
      words_are = two_words c.args.words.now c.command-item.result c.number-item.result
          c.in-len2.len_at_least c.in-len2.len_below c.command-item.is c.number-item.is
          ∙ ap₂ (λ (a b : Word). a ∷ b ∷ []) (sym c.as_str.ensures.value ∙ same) (sym c.as_str-2.ensures.value);
      shown = c.in_ok-count.ensures;
    }

-- Options and their words, one after the other.
use Rattle.std.proofs.Common.{◌≡◌, ◌∙◌, zero, suc, List, [], ◌∷◌, false, refl, sym, ap, ap₂, drop, slice_index_or, Contains, Option, Some, None, MatchOption, IfSome, arith}
use Rattle.std.specs.List.{AllByRecursion}
use Rattle.std.specs.Str.{bytes_eq}
use Rattle.std.proofs.lemmas.Bool.{false_from_ne_true}
use Rattle.std.proofs.lemmas.Slice.Eq.{bytes_eq-Decides}
use Rattle.el_words.specs.Options.{Word, Given, words_of, value_of, AreOptions}
use Rattle.el_words.specs.Words.{once_options, audit_options, serve_options}

-- words that differ are told apart
pub told_apart : (a b : Word) → (a ≡ b → ⊥) → bytes_eq a b ≡ false
told_apart a b differ = false_from_ne_true (bytes_eq a b) (λ same. differ ((bytes_eq-Decides a b).0 same))

-- the value of the first option, and of another one
pub value_here : (o : Word × Word) (more : Given) (option : Word) → o.0 ≡ option
    → value_of option (o ∷ more) ≡ Some o.1
value_here o more option is = rw ((bytes_eq-Decides o.0 option).1 is) refl

pub value_later : (o : Word × Word) (more : Given) (option : Word) → (o.0 ≡ option → ⊥)
    → value_of option (o ∷ more) ≡ value_of option more
value_later o more option differ = rw (told_apart o.0 option differ) refl

-- words that give options and begin with these two give this option first
pub first_given : (left : Given) (option value : Word) (more : List Word)
    → words_of left ≡ option ∷ value ∷ more
    → (rest : Given) × (left ≡ (option, value) ∷ rest) × (more ≡ words_of rest)
first_given [] option value more e = absurd cc
first_given (o ∷ rest) option value more e = (
  rest,
  ap₂ (λ (a b : Word). (a, b) ∷ rest) (ap (λ (l : List Word). slice_index_or l 0 o.0) e)
      (ap (λ (l : List Word). slice_index_or l 1 o.1) e),
  sym (ap (λ (l : List Word). drop 2 l) e),
)

-- the same words give the same options
pub one_given : (a b : Given) → words_of a ≡ words_of b → a ≡ b
one_given [] [] e = refl
one_given [] (o ∷ rest) e = absurd cc
one_given (o ∷ rest) b e =
    let f = first_given b o.0 o.1 (words_of rest) (sym e) in
    ap (λ (more : Given). o ∷ more) (one_given rest f.0 f.2) ∙ sym f.1

-- the options of `once` are among those of `serve`
serve_has : (option : Word) → Contains once_options option → Contains serve_options option
serve_has option (zero, lt, is) = (0, omega arith, is)
serve_has option (suc zero, lt, is) = (2, omega arith, is)
serve_has option (suc (suc k), lt, is) = absurd (omega (arith, lt))

pub serve_gives : (given : Given) → AreOptions once_options given → AreOptions serve_options given
serve_gives given are = record { known = all given are.known; valued = are.valued; once = are.once }
  where
    all : (given : Given) → AllByRecursion (λ o. Contains once_options o.0) given
        → AllByRecursion (λ o. Contains serve_options o.0) given
    all [] known = tt
    all (o ∷ more) known = (serve_has o.0 known.0, all more known.1)

-- so are those of `audit`
serve_has_audit : (option : Word) → Contains audit_options option → Contains serve_options option
serve_has_audit option (zero, lt, is) = (0, omega arith, is)
serve_has_audit option (suc zero, lt, is) = (1, omega arith, is)
serve_has_audit option (suc (suc zero), lt, is) = (2, omega arith, is)
serve_has_audit option (suc (suc (suc k)), lt, is) = absurd (omega (arith, lt))

pub serve_gives_audit : (given : Given) → AreOptions audit_options given → AreOptions serve_options given
serve_gives_audit given are = record { known = all given are.known; valued = are.valued; once = are.once }
  where
    all : (given : Given) → AllByRecursion (λ o. Contains audit_options o.0) given
        → AllByRecursion (λ o. Contains serve_options o.0) given
    all [] known = tt
    all (o ∷ more) known = (serve_has_audit o.0 known.0, all more known.1)

-- what holds of the value that is found
pub found_from : {T : Type 0} (N : Type 0) {P Q : T → Type 0} (found : Option T) → MatchOption found N P
    → ((x : T) → P x → Q x) → IfSome found Q
found_from N None is gives = tt
found_from N (Some x) is gives = gives x is

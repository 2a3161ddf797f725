-- The look-up of an option's value, and the check that words give options.
use Rattle.std.proofs.Common.{◌≡◌, ◌∙◌, zero, suc, List, [], ◌∷◌, true, false, refl, sym, ap, subst, map, drop, slice_index_or, Contains, Option, Some, None, option_map, is_some, inl, inr, ◌↔◌, ◌==◌, arith, length}
use Rattle.std.specs.Borrow.{Bor}
use Rattle.std.specs.Global.{Global}
use Rattle.std.specs.Prelude.{String}
use Rattle.std.specs.List.{AllByRecursion, IsDistinct, list_any}
use Rattle.std.specs.Str.{bytes_eq}
use Rattle.std.proofs.lemmas.Slice.Eq.{bytes_eq-Decides}
use Rattle.std.proofs.lemmas.Bool.{or_cases}
use Rattle.std.proofs.Math.Bool.{or-true}
use Rattle.el_words.specs.Options.{Word, Given, words_of, value_of, IsValue, AreOptions}
use Rattle.el_words.specs.Words.{texts}
use Rattle.el_words.specs.within.Reading.{GiveOptions}
use Rattle.el_words.proofs.OptionLemmas.{value_here, value_later, first_given, one_given, told_apart}

-- what is left of the words gives what is left of the options, and the option's value is among those
abbrev pub Looked : List Word → List Word → Word → Type 0
Looked words rest option = (given : Given) → words ≡ words_of given
    → (left : Given) × (rest ≡ words_of left) × (value_of option given ≡ value_of option left)

pub looked_next : (words rest : List Word) (option name value : Word) (more : List Word)
    → Looked words rest option
    → rest ≡ name ∷ value ∷ more → (name ≡ option → ⊥) → Looked words more option
looked_next words rest option name value more looked is differ given e =
    let l = looked given e in
    let f = first_given l.0 name value more (sym l.1 ∙ is) in
    (f.0, f.2, l.2 ∙ ap (value_of option) f.1 ∙ value_later (name, value) f.0 option differ)

pub looked_found : (words rest : List Word) (option name value : Word) (more : List Word)
    → Looked words rest option
    → rest ≡ name ∷ value ∷ more → name ≡ option → (given : Given) → words ≡ words_of given
    → Some value ≡ value_of option given
looked_found words rest option name value more looked is same given e =
    let l = looked given e in
    let f = first_given l.0 name value more (sym l.1 ∙ is) in
    sym (l.2 ∙ ap (value_of option) f.1 ∙ value_here (name, value) f.0 option same)

pub looked_none : (words rest : List Word) (option : Word) → Looked words rest option
    → ((name value : Word) (more : List Word) → rest ≡ name ∷ value ∷ more → ⊥)
    → (given : Given) → words ≡ words_of given → None ≡ value_of option given
looked_none words rest option looked none given e =
    let l = looked given e in
    sym (l.2 ∙ is_none l.0 l.1)
  where
    is_none : (left : Given) → rest ≡ words_of left → value_of option left ≡ None
    is_none [] is = refl
    is_none (o ∷ more) is = absurd (none o.0 o.1 (words_of more) is)

-- no option of the list has this value: the option isn't among them
none_among : (option : Word) (given : Given) → value_of option given ≡ None
    → AllByRecursion (λ other. bytes_eq option other ≡ false) (map (λ o. o.0) given)
none_among option [] none = tt
none_among option (o ∷ more) none =
    let differ : option ≡ o.0 → ⊥ = λ same. let here = value_here o more option (sym same) in absurd cc in (
      told_apart option o.0 differ,
      none_among option more (sym (value_later o more option (λ same. differ (sym same))) ∙ none),
    )

among_none : (option : Word) (given : Given)
    → AllByRecursion (λ other. bytes_eq option other ≡ false) (map (λ o. o.0) given)
    → value_of option given ≡ None
among_none option [] all = refl
among_none option (o ∷ more) all =
    value_later o more option (λ same. let is = (bytes_eq-Decides option o.0).1 (sym same) in
    let not = all.0 in absurd cc) ∙ among_none option more all.1

-- one option more before others
pub more_given : (options words : List Word) (option value : Word) → Contains options option → IsValue value
    → ((given : Given) → words ≡ words_of given → value_of option given ≡ None)
    → GiveOptions options words → GiveOptions options (option ∷ value ∷ words)
unfolding IsDistinct
more_given options words option value known valued once g = record {
  given = (option, value) ∷ g.given;
  words_are = ap (λ (more : List Word). option ∷ value ∷ more) g.words_are;
  are = record {
    known = (known, g.are.known);
    valued = (valued, g.are.valued);
    once = (none_among option g.given (once g.given g.words_are), g.are.once);
  };
}

-- the first option, and the others after it
pub record Parted (options words : List Word) (option value : Word) : Type 0 where
  pub known : Contains options option
  pub valued : IsValue value
  pub once : (given : Given) → words ≡ words_of given → value_of option given ≡ None
  pub rest : GiveOptions options words

pub parted : (options words : List Word) (option value : Word) → GiveOptions options (option ∷ value ∷ words)
    → Parted options words option value
unfolding IsDistinct
parted options words option value g = go g.given (sym g.words_are) g.are
  where
    go : (given : Given) → words_of given ≡ option ∷ value ∷ words → AreOptions options given
        → Parted options words option value
    go [] e are = absurd cc
    go (o ∷ more) e are =
        let f = first_given (o ∷ more) option value words e in
        let same : more ≡ f.0 = ap (λ (l : Given). drop 1 l) f.1 in
        let option_is : o.0 ≡ option = ap (λ (l : Given). (slice_index_or l 0 o).0) f.1 in
        let value_is : o.1 ≡ value = ap (λ (l : Given). (slice_index_or l 0 o).1) f.1 in
        record {
          known = subst (Contains options) option_is are.known.0;
          valued = subst IsValue value_is are.valued.0;
          once = λ given is.
              let again = one_given given more (sym is ∙ f.2 ∙ ap words_of (sym same)) in
              ap (value_of option) again
              ∙ ap (λ (w : Word). value_of w more) (sym option_is) ∙ among_none o.0 more are.once.0;
          rest = record {
            given = more;
            words_are = f.2 ∙ ap words_of (sym same);
            are = record { known = are.known.1; valued = are.valued.1; once = are.once.1 };
          };
        }

-- what was looked for isn't there, or is
pub none_found : (found : Option (Bor Word)) → is_some found ≡ false
    → option_map (λ value. value.now) found ≡ None
none_found None _ = refl
none_found (Some value) e = absurd cc

pub some_found : (found : Option (Bor Word)) → is_some found ≡ true
    → option_map (λ value. value.now) found ≡ None → ⊥
some_found None e none = cc
some_found (Some value) e none = cc

-- a word among the options
pub is_among : (options : List (Bor Word)) (word : Word) → list_any (λ y. bytes_eq y.now word) options ≡ true
    → Contains (map (λ option. option.now) options) word
is_among [] word e = absurd cc
is_among (option ∷ more) word e = elim (or_cases (bytes_eq option.now word) _ e) [
  | inl here ↦ (0, omega arith, (bytes_eq-Decides option.now word).0 here)
  | inr later ↦ let has = is_among more word later in (suc has.0, omega (arith, has.1), has.2)
]

pub among_is : (options : List (Bor Word)) (word : Word) → Contains (map (λ option. option.now) options) word
    → list_any (λ y. bytes_eq y.now word) options ≡ true
among_is [] word has = absurd (let lt = has.1 in omega arith)
among_is (option ∷ more) word (zero, lt, is) = rw ((bytes_eq-Decides option.now word).1 is) refl
among_is (option ∷ more) word (suc k, lt, is) =
    rw (among_is more word (k, omega (arith, lt), is)) (or-true (bytes_eq option.now word))

-- words of which no two are left give options where none is left
pub ended : (options words : List Word) (rest : List (String Global))
    → ((option value : Word) (more : List Word) → texts rest ≡ option ∷ value ∷ more → ⊥)
    → (GiveOptions options (texts rest) ↔ GiveOptions options words)
    → ((length rest == 0) ≡ true → GiveOptions options words)
    × (GiveOptions options words → (length rest == 0) ≡ true)
unfolding IsDistinct
ended options words [] none same = (
  λ e. same.0 (record { given = []; words_are = refl; are = record { known = tt; valued = tt; once = tt } }),
  λ all. refl,
)
ended options words (x ∷ []) none same = (
  λ e. absurd cc,
  λ all. let g = same.1 all in absurd (single g.given (sym g.words_are)),
)
  where
    single : (given : Given) → words_of given ≡ texts (x ∷ []) → ⊥
    single [] e = cc
    single (o ∷ more) e = let rest = ap (λ (l : List Word). drop 1 l) e in cc
ended options words (x ∷ y ∷ more) none same = absurd (none _ _ _ refl)

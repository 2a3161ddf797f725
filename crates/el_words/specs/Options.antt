-- Options of a command line: two words each, in any order.
use Rattle.std.specs.Prelude.{◌≢◌, ℕ, List, [], ◌∷◌, map, Option, option_map, find, Contains}
use Rattle.std.specs.List.{AllByRecursion, IsDistinct}
use Rattle.std.specs.Str.{bytes_eq}

-- a word, as its bytes
abbrev pub Word : Type 0
Word = List ℕ

-- the options that are given, each with its value
abbrev pub Given : Type 0
Given = List (Word × Word)

-- the words that give them: of each the option, and then its value
abbrev pub words_of : Given → List Word
words_of [] = []
words_of (o ∷ more) = o.0 ∷ o.1 ∷ words_of more

-- a word that can be a value: it isn't empty, and doesn't begin with `-`
abbrev pub IsValue : Word → Type 0
IsValue [] = ⊥
IsValue (b ∷ bs) = b ≢ 45

-- each option is one of these and is given once, with a word that can be a value
pub record AreOptions (options : List Word) (given : Given) : Type 0 where
  pub known : AllByRecursion (λ o. Contains options o.0) given
  pub valued : AllByRecursion (λ o. IsValue o.1) given
  pub once : IsDistinct bytes_eq (map (λ o. o.0) given)

-- the value of the option, where it is given
abbrev pub value_of : Word → Given → Option Word
value_of option given = option_map (λ o. o.1) (find (λ o. bytes_eq o.0 option) given)

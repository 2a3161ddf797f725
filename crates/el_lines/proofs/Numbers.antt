-- Numbers in decimal, and what stands around the blank between two.
use Rattle.std.proofs.Common.{◌≡◌, ◌≢◌, ℕ, ◌+◌, ◌-◌, ◌*◌, ◌^◌, ◌<◌, ◌≤◌, true, List, [], ◌∷◌, ◌++◌, length, get_or, take, drop, refl, sym, ap, ◌∙◌, arith, take-append-drop}
use Rattle.std.specs.List.{AllPass}
use Rattle.std.specs.Char.{is_ascii_digit, digit_value}
use Rattle.std.specs.Str.Parse.{digits_value, digits_value_after}
use Rattle.std.proofs.lemmas.Bool.Decides.{nat_tests}
use Rattle.std.proofs.lemmas.Int.Digits.{digits_value_more}
use Rattle.std.proofs.lemmas.List.Elements.{All-head, All-tail, All-more}
use Rattle.el_base.proofs.Lists.{cut_at, all_mid}
use Rattle.std.proofs.lemmas.List.{get_or_default}
use Rattle.el_lines.specs.NodeLines.{ShowsNumber, ShowsPlace}
use Rattle.el_lines.specs.LineStates.{LacksByte}
use Rattle.el_lines.specs.within.Places.{StandsFirst}

-- one digit more
pub next_value : (text : List ℕ) (i n : ℕ) → i < length text → is_ascii_digit (get_or text i 0) ≡ true → n ≡ digits_value 10 (take i text)
    → digits_value 10 (take (i + 1) text) ≡ n * 10 + (get_or text i 0 - 48)
next_value text i n inside digit value =
    let worth : digit_value (get_or text i 0) ≡ get_or text i 0 - 48 = grind (arith, nat_tests) in
    rw (digits_value_more 10 text i inside, worth, value) refl

pub digits_more : (text : List ℕ) (i : ℕ) → i < length text → AllPass is_ascii_digit (take i text) → is_ascii_digit (get_or text i 0) ≡ true
    → AllPass is_ascii_digit (take (i + 1) text)
digits_more text i inside digits digit = All-more (λ (b : ℕ). is_ascii_digit b ≡ true) text i 0 inside digits digit

grows : (n : ℕ) (text : List ℕ) → n ≤ digits_value_after 10 n text
grows n [] = omega arith
grows n (c ∷ text) = omega (arith, grows (n * 10 + digit_value c) text)

value_append : (n : ℕ) (xs ys : List ℕ) → digits_value_after 10 n (xs ++ ys) ≡ digits_value_after 10 (digits_value_after 10 n xs) ys
value_append n [] ys = refl
value_append n (x ∷ xs) ys = value_append (n * 10 + digit_value x) xs ys

-- the digits in front are worth no more than all
pub front_value : (text : List ℕ) (i : ℕ) → digits_value 10 (take i text) ≤ digits_value 10 text
front_value text i =
    let whole : digits_value 10 text ≡ digits_value_after 10 (digits_value 10 (take i text)) (drop i text) =
    ap (digits_value 10) (sym (take-append-drop i text)) ∙ value_append 0 (take i text) (drop i text) in
    rw whole (grows (digits_value 10 (take i text)) (drop i text))

-- digits aren't blanks
digits_no_blank : (text : List ℕ) → AllPass is_ascii_digit text → LacksByte 32 text
digits_no_blank [] digits = tt
digits_no_blank (c ∷ text) digits =
    let first = All-head (λ (b : ℕ). is_ascii_digit b ≡ true) c text digits in
    (λ blank. absurd (let no : is_ascii_digit 32 ≡ true = ap is_ascii_digit (sym blank) ∙ first in cc), digits_no_blank text (All-tail (λ (b : ℕ). is_ascii_digit b ≡ true) c text digits))

-- the first blank of two texts that are equal
same_first : (byte : ℕ) (a b c d : List ℕ) → LacksByte byte a → LacksByte byte c → a ++ byte ∷ b ≡ c ++ byte ∷ d → (a ≡ c) × (b ≡ d)
same_first byte [] b [] d none none' e = (refl, let tails : b ≡ d = cc in tails)
same_first byte [] b (y ∷ c) d none none' e = absurd (none'.0 (let heads : y ≡ byte = cc in heads))
same_first byte (x ∷ a) b [] d none none' e = absurd (none.0 (let heads : x ≡ byte = cc in heads))
same_first byte (x ∷ a) b (y ∷ c) d none none' e =
    let tails : a ++ byte ∷ b ≡ c ++ byte ∷ d = cc in
    let heads : x ≡ y = cc in
    let more = same_first byte a b c d none.1 none'.1 tails in
    (rw (heads, more.0) refl, more.1)

-- two numbers with a blank between
pub same_numbers : (a b c d : List ℕ) → AllPass is_ascii_digit a → AllPass is_ascii_digit c → a ++ 32 ∷ b ≡ c ++ 32 ∷ d → (a ≡ c) × (b ≡ d)
same_numbers a b c d digits digits' e = same_first 32 a b c d (digits_no_blank a digits) (digits_no_blank c digits') e

-- the bytes around a blank
split_blank : (text : List ℕ) (blank : ℕ) → StandsFirst 32 text blank → text ≡ take blank text ++ 32 ∷ drop (blank + 1) text
split_blank text blank first = cut_at text blank 32 first.inside (sym first.is ∙ get_or_default text blank 0 32 first.inside)

-- the two numbers stand around the first blank
pub around_blank : (text : List ℕ) (blank file place : ℕ) → StandsFirst 32 text blank → ShowsPlace text file place
    → ShowsNumber (take blank text) 10 (2 ^ 32) file × ShowsNumber (drop (blank + 1) text) 20 (2 ^ 63) place
around_blank text blank file place first shows =
    let same = same_first 32 shows.file_text shows.place_text (take blank text) (drop (blank + 1) text)
    (digits_no_blank shows.file_text shows.file_is.digits) first.none (sym shows.whole ∙ split_blank text blank first) in
    (rw (← same.0) shows.file_is, rw (← same.1) shows.place_is)

pub has_blank : (text : List ℕ) (file place : ℕ) → LacksByte 32 text → ShowsPlace text file place → ⊥
has_blank text file place none shows = all_mid (λ (b : ℕ). b ≢ 32) shows.file_text 32 shows.place_text (rw (← shows.whole) none) refl

-- The order of texts that show hashes is that of the bytes shown, from the last to the first.
use Rattle.std.proofs.Common.{
  ◌≡◌,
  ℕ,
  zero,
  suc,
  ◌+◌,
  ◌*◌,
  ◌^◌,
  ◌<◌,
  ◌/◌,
  ◌%◌,
  ◌==◌,
  true,
  Bool,
  ◌&&◌,
  List,
  [],
  ◌∷◌,
  ◌++◌,
  inl,
  inr,
  refl,
  ap,
  sym,
  ◌∙◌,
  arith,
}
use Rattle.std.proofs.lemmas.Bool.{and_parts, cases_lt, eqb-true}
use Rattle.std.specs.Prelude.{slice_index, reverse, length}
use Rattle.std.proofs.lemmas.List.{length-reverse}
use Rattle.std.proofs.lemmas.Grind.{reverse_onto}
use Rattle.std.specs.List.{AllByRecursion}
use Rattle.std.specs.Int.{byte_at, to_be_bytes, w32}
use Rattle.std.specs.declared.cmp.Ordering.{Ordering}
use Rattle.std.specs.declared.cmp.Ordering.TheVariants.{Less, Equal, Greater}
use Rattle.std.specs.Ordering.{nat_cmp, ordering_then}
use Rattle.std.specs.Cmp.{nat_cmp_is}
use Rattle.std.specs.Cmp.Lexicographic.{slice_cmp}
use Rattle.std.proofs.lemmas.Cmp.{ranked, by_ranked}
use Rattle.hex.specs.Hex.{encode_lower, encode_with, lower_digits}
use Rattle.sha2.specs.Sha256.{sha256, digest_bytes}
use Rattle.sha2.proofs.Facts256.{length-sha256}
use Rattle.el_tx.specs.declared.types.Tx.{Tx}
use Rattle.el_tx.specs.Hashing.{txid}
use Rattle.el_mempool.specs.Unconfirmed.{shown_cmp}

-- ---- digits

abbrev digit : ℕ → ℕ
digit d = 48 + d + 39 * (d / 10)

abbrev are_digits : ℕ → Bool
are_digits zero = true
are_digits (suc n) = (slice_index lower_digits n == digit n) && are_digits n

digit_below : (n k : ℕ) → are_digits n ≡ true → k < n → slice_index lower_digits k ≡ digit k
digit_below zero k h lt = absurd (omega arith)
digit_below (suc n) k h lt =
    let parts = and_parts (slice_index lower_digits n == digit n) (are_digits n) h in
    elim (cases_lt k n) [
      | inl below ↦ digit_below n k parts.1 below
      | inr top ↦
          let e : k ≡ n = omega arith in
          rw e (eqb-true (slice_index lower_digits n) (digit n) parts.0)
    ]

digit_is : (k : ℕ) → k < 16 → slice_index lower_digits k ≡ digit k
digit_is k lt = digit_below 16 k refl lt

less : (a b : ℕ) → a < b → nat_cmp a b ≡ Less
less a b lt = sym (nat_cmp_is a b Less lt)

equal : (a b : ℕ) → a ≡ b → nat_cmp a b ≡ Equal
equal a b e = sym (nat_cmp_is a b Equal e)

more : (a b : ℕ) → b < a → nat_cmp a b ≡ Greater
more a b lt = sym (nat_cmp_is a b Greater lt)

rises : (a b : ℕ) → a < b → digit a < digit b
rises a b lt = omega arith

digits_cmp : (a b : ℕ) → nat_cmp (digit a) (digit b) ≡ nat_cmp a b
digits_cmp a b = by_ranked (a < b) (a ≡ b) (b < a) (nat_cmp a b) (ranked a b (nat_cmp a b) refl)
    (λ e lt. less (digit a) (digit b) (rises a b lt) ∙ sym e)
    (λ e same. equal (digit a) (digit b) (ap digit same) ∙ sym e)
    (λ e lt. more (digit a) (digit b) (rises b a lt) ∙ sym e)

-- ---- bytes

-- two bytes compare as their halves do, one after the other
abbrev by_halves : ℕ → ℕ → Ordering → Ordering
by_halves x y r = ordering_then (nat_cmp (x / 16) (y / 16)) (ordering_then (nat_cmp (x % 16) (y % 16)) r)

halves_less : (x y : ℕ) (r : Ordering) → x < y → by_halves x y r ≡ Less
halves_less x y r lt = elim (cases_lt (x / 16) (y / 16)) [
  | inl h ↦ let is = less (x / 16) (y / 16) h in rw is refl
  | inr h ↦
      let is = equal (x / 16) (y / 16) (omega arith) in
      let low = less (x % 16) (y % 16) (omega arith) in
      rw (is, low) refl
]

halves_more : (x y : ℕ) (r : Ordering) → y < x → by_halves x y r ≡ Greater
halves_more x y r lt = elim (cases_lt (y / 16) (x / 16)) [
  | inl h ↦ let is = more (x / 16) (y / 16) h in rw is refl
  | inr h ↦
      let is = equal (x / 16) (y / 16) (omega arith) in
      let low = more (x % 16) (y % 16) (omega arith) in
      rw (is, low) refl
]

halves_same : (x y : ℕ) (r : Ordering) → x ≡ y → by_halves x y r ≡ r
halves_same x y r e =
    let high = equal (x / 16) (y / 16) (ap (λ n. n / 16) e) in
    let low = equal (x % 16) (y % 16) (ap (λ n. n % 16) e) in
    rw (high, low) refl

halves_cmp : (x y : ℕ) (r : Ordering) → by_halves x y r ≡ ordering_then (nat_cmp x y) r
halves_cmp x y r = by_ranked (x < y) (x ≡ y) (y < x) (nat_cmp x y) (ranked x y (nat_cmp x y) refl)
    (λ e lt. halves_less x y r lt ∙ ap (λ o. ordering_then o r) (sym e))
    (λ e same. halves_same x y r same ∙ ap (λ o. ordering_then o r) (sym e))
    (λ e lt. halves_more x y r lt ∙ ap (λ o. ordering_then o r) (sym e))

-- each is a byte
abbrev pub AreBytes : List ℕ → Type 0
AreBytes xs = AllByRecursion (λ b. b < 256) xs

at_half : (a b : ℕ) → a < 16 → b < 16
    → nat_cmp (slice_index lower_digits a) (slice_index lower_digits b) ≡ nat_cmp a b
at_half a b la lb =
    ap (λ n. nat_cmp n (slice_index lower_digits b)) (digit_is a la)
    ∙ ap (nat_cmp (digit a)) (digit_is b lb) ∙ digits_cmp a b

encode_cmp : (xs ys : List ℕ) → AreBytes xs → AreBytes ys
    → slice_cmp nat_cmp (encode_lower xs) (encode_lower ys) ≡ slice_cmp nat_cmp xs ys
unfolding encode_with
encode_cmp [] [] h k = refl
encode_cmp [] (y ∷ ys) h k = refl
encode_cmp (x ∷ xs) [] h k = refl
encode_cmp (x ∷ xs) (y ∷ ys) h k =
    let a = h.0 in
    let b = k.0 in
    let high = at_half (x / 16) (y / 16) (omega (arith, a)) (omega (arith, b)) in
    let low = at_half (x % 16) (y % 16) (omega arith) (omega arith) in
    rw (high, low) (halves_cmp x y (slice_cmp nat_cmp (encode_lower xs) (encode_lower ys))
    ∙ ap (ordering_then (nat_cmp x y)) (encode_cmp xs ys h.1 k.1))

-- ---- hashes

below_256 : (n : ℕ) → n % 256 < 256
below_256 n = omega arith

byte_below : (i n : ℕ) → byte_at i n < 256
byte_below zero n = below_256 n
byte_below (suc i) n = below_256 (n / 256 ^ suc i)

bytes_joined : (xs ys : List ℕ) → AreBytes xs → AreBytes ys → AreBytes (xs ++ ys)
bytes_joined [] ys h k = k
bytes_joined (x ∷ xs) ys h k = (h.0, bytes_joined xs ys h.1 k)

digest_of_bytes : (h : List ℕ) (n : ℕ) → AreBytes (digest_bytes h n)
unfolding digest_bytes
digest_of_bytes h zero = tt
digest_of_bytes h (suc n) =
    bytes_joined (digest_bytes h n) (to_be_bytes w32 (slice_index h n)) (digest_of_bytes h n) (
      byte_below 3 (slice_index h n),
      (
        byte_below 2 (slice_index h n),
        (
          byte_below 1 (slice_index h n),
          (byte_below 0 (slice_index h n), tt),
        ),
      ),
    )

sha_of_bytes : (m : List ℕ) → AreBytes (sha256 m)
unfolding sha256
sha_of_bytes m = digest_of_bytes _ 8

reversed_bytes : (xs : List ℕ) → AreBytes xs → AreBytes (reverse xs)
reversed_bytes [] h = tt
reversed_bytes (x ∷ xs) h =
    let is = reverse_onto xs x [] in
    rw is (bytes_joined (reverse xs) (x ∷ []) (reversed_bytes xs h.1) (h.0, tt))

-- the bytes of a txid from the last to the first
pub reversed_txid : (t : Tx) → AreBytes (reverse (txid t).0)
reversed_txid t = reversed_bytes (txid t).0 (sha_of_bytes _)

pub reversed_length : (t : Tx) → length (reverse (txid t).0) ≡ 32
reversed_length t = length-reverse (txid t).0 ∙ length-sha256 _

-- transactions compare by these
pub shown_by_bytes : (t u : Tx) → shown_cmp t u ≡ slice_cmp nat_cmp (reverse (txid t).0) (reverse (txid u).0)
shown_by_bytes t u =
    encode_cmp (reverse (txid t).0) (reverse (txid u).0) (reversed_txid t) (reversed_txid u)

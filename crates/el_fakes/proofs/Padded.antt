-- Bytes and what stands after them, read from a place on.
use Rattle.std.proofs.Common.{◌≡◌, ◌⊎◌, inl, inr, ℕ, ◌+◌, ◌-◌, ◌<◌, ◌≤◌, min, List, [], ◌++◌, length, take, drop, refl, sym, ap, ◌∙◌, arith, append_assoc, append-nil, length-append, length-drop}
use Rattle.std.specs.Prelude.{replicate}
use Rattle.std.proofs.lemmas.Bool.{cases_lt}
use Rattle.std.proofs.lemmas.List.{length-replicate, length-take-le, take_at, take-append-le, drop-append-le, drop_at, drop-drop, drop_all, take_all, drop-replicate, replicate-append-replicate}

-- how many bytes these are
pub padded_length : (bytes : List ℕ) (size : ℕ) → length bytes ≤ size → length (bytes ++ replicate (size - length bytes) 0) ≡ size
padded_length bytes size within = let long = length-append bytes (replicate (size - length bytes) 0) in let zeros = length-replicate {A = ℕ} (size - length bytes) 0 in omega (arith, long, zeros)

zeros_split : (m n : ℕ) → m ≤ n → replicate {A = ℕ} n 0 ≡ replicate {A = ℕ} m 0 ++ replicate {A = ℕ} (n - m) 0
zeros_split m n le = ap (λ (k : ℕ). replicate {A = ℕ} k 0) (let e : n ≡ m + (n - m) = omega arith in e) ∙ sym (replicate-append-replicate {A = ℕ} m (n - m) 0)

-- the front of bytes and of zeros after them, which has all those bytes
past_end : (bytes : List ℕ) (n more : ℕ) → length bytes ≤ n → n ≤ length bytes + more → take n (bytes ++ replicate more 0) ≡ bytes ++ replicate (n - length bytes) 0
past_end bytes n more le most =
    let split = zeros_split (n - length bytes) more (omega arith) in
    let zeros = length-replicate {A = ℕ} (n - length bytes) 0 in
    let front : length (bytes ++ replicate (n - length bytes) 0) ≡ n = length-append bytes (replicate (n - length bytes) 0) ∙ (let e : length bytes + length (replicate (n - length bytes) 0) ≡ n = omega (arith, zeros) in e) in
    ap (λ z. take n (bytes ++ z)) split
    ∙ ap (take n) (sym (append_assoc bytes (replicate (n - length bytes) 0) (replicate (more - (n - length bytes)) 0)))
    ∙ take_at (bytes ++ replicate (n - length bytes) 0) (replicate (more - (n - length bytes)) 0) n front

-- the front of bytes and of zeros after them
front_padded : (bytes : List ℕ) (long given n more : ℕ) → given ≡ min long (length bytes) → n ≡ min long (length bytes + more)
    → take n (bytes ++ replicate more 0) ≡ take given bytes ++ replicate (n - given) 0
front_padded bytes long given n more g is = by_order (cases_lt n (length bytes))
  where
    by_order : (n < length bytes) ⊎ (length bytes ≤ n) → take n (bytes ++ replicate more 0) ≡ take given bytes ++ replicate (n - given) 0
    by_order (inr le) =
        let all : given ≡ length bytes = omega arith in
        past_end bytes n more le (omega arith)
        ∙ ap (λ k. bytes ++ replicate (n - k) 0) (sym all)
        ∙ ap (λ t. t ++ replicate (n - given) 0) (sym (take_all given bytes (omega arith)))
    by_order (inl lt) =
        let same : n ≡ given = omega arith in
        take-append-le n bytes (replicate more 0) (omega (arith, lt))
        ∙ ap (λ k. take k bytes) same
        ∙ sym (append-nil (take given bytes))
        ∙ ap (λ k. take given bytes ++ replicate k 0) (let e : 0 ≡ n - given = omega arith in e)

-- what stands from a place on
from_place : (bytes : List ℕ) (at more : ℕ) → (rest : ℕ) × (drop at (bytes ++ replicate more 0) ≡ drop at bytes ++ replicate rest 0) × (length bytes + more - at ≡ length bytes - at + rest)
from_place bytes at more = by_order (cases_lt at (length bytes))
  where
    by_order : (at < length bytes) ⊎ (length bytes ≤ at) → (rest : ℕ) × (drop at (bytes ++ replicate more 0) ≡ drop at bytes ++ replicate rest 0) × (length bytes + more - at ≡ length bytes - at + rest)
    by_order (inl lt) = (more, drop-append-le at bytes (replicate more 0) (omega (arith, lt)), omega (arith, lt))
    by_order (inr le) =
        let there : length bytes + (at - length bytes) ≡ at = omega arith in (
          more - (at - length bytes),
          ap (λ k. drop k (bytes ++ replicate more 0)) (sym there)
              ∙ sym (drop-drop (at - length bytes) (length bytes) (bytes ++ replicate more 0))
              ∙ ap (drop (at - length bytes)) (drop_at bytes (replicate more 0) (length bytes) refl)
              ∙ drop-replicate (at - length bytes) more 0
              ∙ ap (λ t. t ++ replicate (more - (at - length bytes)) 0) (sym (drop_all at bytes le)),
          omega (arith, le),
        )

-- A buffer whose front was filled with what bytes have from a place on, and then with zeros, has what the bytes and zeros after them have from there on.
pub filled_padded : (bytes buffer new rest : List ℕ) (size at given n : ℕ) → length bytes ≤ size → given ≡ min (length buffer) (length bytes - at) → n ≡ min (length buffer) (size - at)
    → take given buffer ≡ take given (drop at bytes) → new ≡ take given buffer ++ (replicate (n - given) 0 ++ rest)
    → take n new ≡ take n (drop at (bytes ++ replicate (size - length bytes) 0))
filled_padded bytes buffer new rest size at given n within g is filled wrote =
    let from = from_place bytes at (size - length bytes) in
    let left : length (drop at bytes) ≡ length bytes - at = length-drop at bytes in
    let given_is : given ≡ min (length buffer) (length (drop at bytes)) = omega (arith, left) in
    let counted = from.2 in
    let n_is : n ≡ min (length buffer) (length (drop at bytes) + from.0) = omega (arith, left, counted) in
    let padded = front_padded (drop at bytes) (length buffer) given n from.0 given_is n_is in
    let long : length (take given buffer) ≡ given = length-take-le given buffer (omega arith) in
    let zeros = length-replicate {A = ℕ} (n - given) 0 in
    let front : length (take given buffer ++ replicate (n - given) 0) ≡ n = length-append (take given buffer) (replicate (n - given) 0) ∙ (let e : length (take given buffer) + length (replicate (n - given) 0) ≡ n = omega (arith, long, zeros) in e) in
    ap (take n) (wrote ∙ sym (append_assoc (take given buffer) (replicate (n - given) 0) rest))
    ∙ take_at (take given buffer ++ replicate (n - given) 0) rest n front
    ∙ ap (λ t. t ++ replicate (n - given) 0) filled
    ∙ sym padded
    ∙ ap (take n) (sym from.1)

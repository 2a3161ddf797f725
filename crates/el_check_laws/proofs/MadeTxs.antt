-- The transactions of a made block: each has an encoding, of a fixed length.
use Rattle.std.proofs.Common.{◌≡◌, ℕ, zero, suc, ◌%◌, ◌/◌, ◌^◌, ◌<◌, List, [], ◌∷◌, ◌++◌, length, length-append, refl, arith, rules, pos}
use Rattle.std.specs.Prelude.{replicate, slice_index}
use Rattle.std.specs.Int.{w32, byte_at, to_le_bytes, to_be_bytes}
use Rattle.sha2.specs.Sha256.{sha256, digest_bytes}
use Rattle.sha2.proofs.Facts256.{length-sha256}
use Rattle.el_base.specs.Left.{AreBytes}
use Rattle.el_base.specs.Compact.{compact}
use Rattle.el_base.specs.declared.hash.Hash32.{Hash32}
use Rattle.el_tx.specs.Encoding.{IsItem, IsInput, IsOutput, IsLawful, IsVersion, HasEncoding, stripped, stripped_encoding}
use Rattle.el_tx.specs.Hashing.{txid, full_encoding}
use Rattle.el_tx.specs.declared.types.Outpoint.{Outpoint}
use Rattle.el_tx.specs.declared.types.Tx.{Tx}
use Rattle.el_gen.specs.Generated.{height_script, paid, input, coinbase, spend}
use Rattle.el_gen.specs.MadeFile.{first_output, halves}

-- ---- bytes

pub no_bytes : AreBytes []
no_bytes i = omega arith

pub cons_bytes : (b : ℕ) (bs : List ℕ) → b < 256 → AreBytes bs → AreBytes (b ∷ bs)
cons_bytes b bs lt all zero = lt
cons_bytes b bs lt all (suc i) = all i

pub joined_bytes : (xs ys : List ℕ) → AreBytes xs → AreBytes ys → AreBytes (xs ++ ys)
joined_bytes [] ys a b = b
joined_bytes (x ∷ xs) ys a b = cons_bytes x (xs ++ ys) (a 0) (joined_bytes xs ys (λ i. a (suc i)) b)

below_256 : (n : ℕ) → n % 256 < 256
below_256 n = omega arith

byte_below : (i n : ℕ) → byte_at i n < 256
byte_below zero n = below_256 n
byte_below (suc i) n = below_256 (n / 256 ^ suc i)

four_bytes : (a b c d : ℕ) → a < 256 → b < 256 → c < 256 → d < 256 → AreBytes (a ∷ b ∷ c ∷ d ∷ [])
four_bytes a b c d p q r s =
    cons_bytes a (b ∷ c ∷ d ∷ []) p (cons_bytes b (c ∷ d ∷ []) q (cons_bytes c (d ∷ []) r (cons_bytes d [] s no_bytes)))

pub number_bytes : (n : ℕ) → AreBytes (to_le_bytes w32 n)
number_bytes n =
    four_bytes (byte_at 0 n) (byte_at 1 n) (byte_at 2 n) (byte_at 3 n) (byte_below 0 n) (byte_below 1 n) (byte_below 2 n) (byte_below 3 n)

high_bytes : (n : ℕ) → AreBytes (to_be_bytes w32 n)
high_bytes n =
    four_bytes (byte_at 3 n) (byte_at 2 n) (byte_at 1 n) (byte_at 0 n) (byte_below 3 n) (byte_below 2 n) (byte_below 1 n) (byte_below 0 n)

digest_of_bytes : (h : List ℕ) (n : ℕ) → AreBytes (digest_bytes h n)
unfolding digest_bytes
digest_of_bytes h zero = no_bytes
digest_of_bytes h (suc n) =
    joined_bytes (digest_bytes h n) (to_be_bytes w32 (slice_index h n)) (digest_of_bytes h n) (high_bytes (slice_index h n))

pub sha_bytes : (m : List ℕ) → AreBytes (sha256 m)
unfolding sha256
sha_bytes m = digest_of_bytes _ 8

pub zeros : (n : ℕ) → AreBytes (replicate n 0)
zeros zero = no_bytes
zeros (suc n) = cons_bytes 0 (replicate n 0) (omega arith) (zeros n)

-- ---- inputs and outputs

pub output_lawful : (value k : ℕ) → value < 2 ^ 64 → IsOutput (paid value k)
output_lawful value k fits = record {
  value = fits;
  script = (omega arith, cons_bytes 4 (to_le_bytes w32 k) (omega arith) (number_bytes k));
}

input_lawful : (from : Outpoint) (script : List ℕ) → length from.txid.0 ≡ 32 → AreBytes from.txid.0 → from.index < 2 ^ 32 → IsItem script
    → IsInput (input from script)
input_lawful from script size all index item = record {
  txid_size = size;
  txid_bytes = all;
  index = index;
  script = item;
  sequence = omega arith;
  items = omega arith;
  witness = tt;
}

version_one : (t : Tx) → t.version ≡ pos 1 → IsVersion t
version_one t is = record { least = rw is (search rules); most = rw is (search rules) }

-- ---- coinbases

pub coinbase_lawful : (height branch : ℕ) → branch < 256 → IsLawful (coinbase height branch 101)
coinbase_lawful height branch small = record {
  version = version_one (coinbase height branch 101) refl;
  some_inputs = omega arith;
  few_inputs = omega arith;
  inputs = (
    input_lawful _ (height_script height branch) refl (zeros 32) (omega arith) (
      omega arith,
      cons_bytes 5 (to_le_bytes w32 height ++ branch ∷ []) (omega arith)
          (joined_bytes (to_le_bytes w32 height) (branch ∷ []) (number_bytes height) (cons_bytes branch [] small no_bytes)),
    ),
    tt,
  );
  some_outputs = omega arith;
  few_outputs = omega arith;
  outputs = (output_lawful 5000000000 101 (omega arith), tt);
  money = omega arith;
  lock = omega arith;
}

pub coinbase_encoded : (height branch : ℕ) → branch < 256 → HasEncoding (coinbase height branch 101)
coinbase_encoded height branch small =
    (stripped_encoding (coinbase height branch 101), stripped (coinbase_lawful height branch small) refl refl)

pub coinbase_size : (height branch : ℕ) → length (full_encoding (coinbase height branch 101)) ≡ 71
unfolding compact
coinbase_size height branch = refl

-- ---- spends

pub spend_lawful : (from : Outpoint) (height : ℕ) → length from.txid.0 ≡ 32 → AreBytes from.txid.0 → from.index ≡ 0 → IsLawful (spend (from ∷ []) (halves height))
spend_lawful from height size all first = record {
  version = version_one (spend (from ∷ []) (halves height)) refl;
  some_inputs = omega arith;
  few_inputs = omega arith;
  inputs = (input_lawful from [] size all (omega arith) (omega arith, no_bytes), tt);
  some_outputs = omega arith;
  few_outputs = omega arith;
  outputs = (output_lawful 2500000000 (height % 100) (omega arith), (output_lawful 2500000000 100 (omega arith), tt));
  money = omega arith;
  lock = omega arith;
}

pub spend_encoded : (t : Tx) (height : ℕ) → HasEncoding (spend (first_output t ∷ []) (halves height))
spend_encoded t height = (
  stripped_encoding (spend (first_output t ∷ []) (halves height)),
  stripped (spend_lawful (first_output t) height (length-sha256 _) (sha_bytes _) refl) refl refl,
)

spend_long : (id : Hash32) (height : ℕ) → length id.0 ≡ 32 → length (full_encoding (spend (record { txid = id; index = 0 } ∷ []) (halves height))) ≡ 79
unfolding compact
spend_long id height size = simp length-append (omega (arith, size))

pub spend_size : (t : Tx) (height : ℕ) → length (full_encoding (spend (first_output t ∷ []) (halves height))) ≡ 79
spend_size t height = spend_long (txid t) height (length-sha256 _)

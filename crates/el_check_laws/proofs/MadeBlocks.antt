-- The bytes of a made block encode it, and how many they are.
use Rattle.std.proofs.Common.{◌≡◌, ◌≢◌, ℕ, zero, suc, ◌+◌, ◌^◌, ◌<◌, ◌≤◌, List, [], ◌∷◌, length, length-append, refl, arith, rules}
use Rattle.std.specs.List.{AllByRecursion}
use Rattle.sha2.proofs.Facts256.{length-sha256}
use Rattle.el_base.specs.Left.{AreBytes}
use Rattle.el_base.specs.Compact.{compact}
use Rattle.el_base.specs.declared.hash.Hash32.{Hash32}
use Rattle.el_merkle.specs.Merkle.{root, pairs, joined}
use Rattle.el_merkle.proofs.Rows.{root_one, root_more}
use Rattle.el_tx.specs.Encoding.{counted, HasEncoding}
use Rattle.el_tx.specs.Hashing.{txid, full_encoding}
use Rattle.el_tx.specs.Headers.{header_encoding, IsHeader}
use Rattle.el_tx.specs.declared.types.Header.{Header}
use Rattle.el_tx.specs.declared.types.Tx.{Tx}
use Rattle.el_block.specs.Blocks.{block_encoding, block_weight, block_hash, txids, HasOneCoinbase, AllDiffer, EncodesBlock}
use Rattle.el_block.specs.declared.limits.TheConstants.{MAX_BLOCK_WEIGHT}
use Rattle.el_gen.specs.Generated.{header}
use Rattle.el_gen.specs.MadeFile.{no_block}
use Rattle.el_check_laws.proofs.MadeTxs.{sha_bytes, zeros, coinbase_encoded, coinbase_size, spend_encoded, spend_size}
use Rattle.el_check_laws.proofs.MadeChains.{coinbase_at, spend_after, txs_at, block_at_height}
use Rattle.el_check_laws.proofs.MadeCoins.{spend_other}

-- a hash of 32 bytes
pub record IsHash (h : Hash32) : Type 0 where
  pub size : length h.0 ≡ 32
  pub all : AreBytes h.0

pub none_is_hash : IsHash no_block
none_is_hash = record { size = refl; all = zeros 32 }

pub txid_is_hash : (t : Tx) → IsHash (txid t)
txid_is_hash t = record { size = length-sha256 _; all = sha_bytes _ }

pub hash_is_hash : (h : Header) → IsHash (block_hash h)
hash_is_hash h = record { size = length-sha256 _; all = sha_bytes _ }

two_joined : (a b : Hash32) → IsHash (root (a ∷ b ∷ []))
unfolding pairs joined
two_joined a b = rw (root_more (a ∷ b ∷ []) (omega arith), root_one (joined a b)) (record { size = length-sha256 _; all = sha_bytes _ })

root_is_hash : (of : ℕ → ℕ) (height : ℕ) → IsHash (root (txids (txs_at of height)))
root_is_hash of zero = rw (root_one (txid (coinbase_at of 0))) (txid_is_hash (coinbase_at of 0))
root_is_hash of (suc height) = two_joined (txid (coinbase_at of (suc height))) (txid (spend_after of height))

-- ---- headers

header_lawful : (previous top : Hash32) (height branch : ℕ) → IsHash previous → IsHash top → height ≤ 4000000 → branch < 256
    → IsHeader (header previous top height branch)
header_lawful previous top height branch p r early small = record {
  least_version = search rules;
  most_version = search rules;
  previous_size = p.size;
  previous_bytes = p.all;
  root_size = r.size;
  root_bytes = r.all;
  time = omega arith;
  bits = omega arith;
  nonce = omega arith;
}

header_long : (previous top : List ℕ) (height branch : ℕ) → length previous ≡ 32 → length top ≡ 32
    → length (header_encoding (header (record { 0 = previous }) (record { 0 = top }) height branch)) ≡ 80
header_long previous top height branch p r = simp length-append (omega (arith, p, r))

-- ---- transactions

all_encoded : (of : ℕ → ℕ) (height : ℕ) → of height < 256 → AllByRecursion HasEncoding (txs_at of height)
all_encoded of zero small = (coinbase_encoded 0 (of 0) small, tt)
all_encoded of (suc height) small =
    (coinbase_encoded (suc height) (of (suc height)) small, (spend_encoded (coinbase_at of height) (suc height), tt))

one_coinbase : (of : ℕ → ℕ) (height : ℕ) → HasOneCoinbase (txs_at of height)
one_coinbase of zero = (refl, tt)
one_coinbase of (suc height) = (refl, (spend_other (coinbase_at of height) (suc height), tt))

-- in a block above the first the two txids differ
abbrev pub DifferAt : (ℕ → ℕ) → ℕ → Type 0
DifferAt of height = (below : ℕ) → height ≡ suc below → txid (coinbase_at of (suc below)) ≢ txid (spend_after of below)

all_differ : (of : ℕ → ℕ) (height : ℕ) → DifferAt of height → AllDiffer (txids (txs_at of height))
all_differ of zero differ = (tt, tt)
all_differ of (suc height) differ = ((differ height refl, tt), (tt, tt))

counted_one : (encoding : Tx → List ℕ) (a : Tx) → length (counted encoding (a ∷ [])) ≡ 1 + length (encoding a)
unfolding compact
counted_one encoding a = simp length-append (omega arith)

counted_two : (encoding : Tx → List ℕ) (a b : Tx) → length (counted encoding (a ∷ b ∷ [])) ≡ 1 + (length (encoding a) + length (encoding b))
unfolding compact
counted_two encoding a b = simp length-append (omega arith)

-- how many bytes a made block has
abbrev pub size_at : ℕ → ℕ
size_at zero = 152
size_at (suc height) = 231

txs_long : (of : ℕ → ℕ) (height : ℕ) → 80 + length (counted full_encoding (txs_at of height)) ≡ size_at height
txs_long of zero =
    let all = counted_one full_encoding (coinbase_at of 0) in
    let one = coinbase_size 0 (of 0) in
    omega (arith, all, one)
txs_long of (suc height) =
    let all = counted_two full_encoding (coinbase_at of (suc height)) (spend_after of height) in
    let one = coinbase_size (suc height) (of (suc height)) in
    let two = spend_size (coinbase_at of height) (suc height) in
    omega (arith, all, one, two)

pub block_size : (of : ℕ → ℕ) (previous : Hash32) (height : ℕ) → IsHash previous
    → length (block_encoding (block_at_height of previous height)) ≡ size_at height
block_size of previous height p =
    let front = header_long previous.0 (root (txids (txs_at of height))).0 height (of height) p.size (root_is_hash of height).size in
    let both = length-append (header_encoding (block_at_height of previous height).header) (counted full_encoding (txs_at of height)) in
    let rest = txs_long of height in
    omega (arith, front, both, rest)

light : (of : ℕ → ℕ) (previous : Hash32) (height : ℕ) → IsHash previous → block_weight (block_at_height of previous height) ≤ MAX_BLOCK_WEIGHT
light of previous zero p = let long = block_size of previous 0 p in omega (arith, long)
light of previous (suc height) p = let long = block_size of previous (suc height) p in omega (arith, long)

-- ---- the block

pub made_encoded : (of : ℕ → ℕ) (previous : Hash32) (height : ℕ) → IsHash previous → of height < 256 → height ≤ 4000000 → DifferAt of height
    → EncodesBlock (block_encoding (block_at_height of previous height)) (block_at_height of previous height)
made_encoded of previous height p small early differ = record {
  text = record {
    header = header_lawful previous (root (txids (txs_at of height))) height (of height) p (root_is_hash of height) early small;
    few = few height;
    each = all_encoded of height small;
    whole = refl;
  };
  coinbase = one_coinbase of height;
  differ = all_differ of height differ;
  merkle = refl;
  light = light of previous height p;
}
  where
    few : (h : ℕ) → length (txs_at of h) < 2 ^ 64
    few zero = omega arith
    few (suc h) = omega arith

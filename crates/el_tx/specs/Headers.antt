-- How a block's header is encoded: 80 bytes. Numbers are little endian; hashes stand in inner order.
use Rattle.std.specs.Prelude.{◌≡◌, ℕ, ◌<◌, ◌^◌, List, ◌++◌, length, take, drop, pos, negsuc, ◌≤ℤ◌, ◌<ℤ◌}
use Rattle.std.specs.Int.{w32, to_le_bytes, from_le_bytes, cast_unsigned, cast_signed}
use Rattle.el_base.specs.Left.{AreBytes}
use Rattle.el_tx.specs.declared.types.Header.{Header}

-- version, hash of the block before, Merkle root, time, bits, nonce
abbrev pub header_encoding : Header → List ℕ
header_encoding h =
    to_le_bytes w32 (cast_unsigned w32 h.version)
    ++ (h.previous.0 ++ (h.root.0
    ++ (to_le_bytes w32 h.time ++ (to_le_bytes w32 h.bits ++ to_le_bytes w32 h.nonce))))

-- a header whose fields fit
pub record IsHeader (h : Header) : Type 0 where
  pub least_version : negsuc 2147483647 ≤ℤ h.version
  pub most_version : h.version <ℤ pos 2147483648
  pub previous_size : length h.previous.0 ≡ 32
  pub previous_bytes : AreBytes h.previous.0
  pub root_size : length h.root.0 ≡ 32
  pub root_bytes : AreBytes h.root.0
  pub time : h.time < 2 ^ 32
  pub bits : h.bits < 2 ^ 32
  pub nonce : h.nonce < 2 ^ 32

-- the number that four bytes encode from the place on
abbrev pub number_from : ℕ → List ℕ → ℕ
number_from place bytes = from_le_bytes w32 (take 4 (drop place bytes))

-- the header that the first 80 bytes encode: what `header_encoding` writes, read back
abbrev pub header_of : List ℕ → Header
header_of bytes = record {
  version = cast_signed w32 (number_from 0 bytes);
  previous = record { 0 = take 32 (drop 4 bytes) };
  root = record { 0 = take 32 (drop 36 bytes) };
  time = number_from 68 bytes;
  bits = number_from 72 bytes;
  nonce = number_from 76 bytes;
}

-- The records of the node's block files. A record is the four magic bytes of the network, the block's size in
-- four bytes, the lowest first, and the bytes of the block, as many as the size says. What stands between
-- records, as zeros, is passed over byte by byte. Then what is read by the place of a record, and when it is
-- another block.
use Rattle.std.specs.Prelude.{◌≡◌, ℕ, zero, suc, ◌+◌, nat_le, ◌&&◌, if◌then◌else◌, List, [], ◌∷◌, ◌++◌, length, take, drop, map, Option, None, Some, option_map, option_to_list}
use Rattle.std.specs.Int.{w32, from_le_bytes}
use Rattle.std.specs.List.{AllByRecursion}
use Rattle.std.specs.Str.{bytes_eq}
use Rattle.el_base.specs.Hashing.{sha256d}
use Rattle.el_base.specs.declared.hash.Hash32.{Hash32}
use Rattle.el_outside.specs.declared.archive.Place.{Place}
use Rattle.el_tx.specs.Headers.{header_encoding, header_of, IsHeader}
use Rattle.el_block.specs.Blocks.{EncodesBlock, block_hash}
use Rattle.el_chain.specs.Chains.{Chain}
use Rattle.el_chain.specs.Faults.{IsGood}
use Rattle.el_chain.specs.declared.placed.Placed.{Placed}
use Rattle.el_block.specs.declared.limits.TheConstants.{MAX_BLOCK_WEIGHT}
use Rattle.el_chain.specs.declared.limits.TheConstants.{MIN_BLOCK_SIZE}
use Rattle.el_chain.specs.declared.node.Node.{Node}

-- the size that stands in four bytes after the magic
abbrev pub size_field : List ℕ → ℕ
size_field bytes = from_le_bytes w32 (take 4 (drop 4 bytes))

-- The size of the block of the record that begins with these bytes, in a file that has `left` bytes from the
-- first of them on: the magic, a size within the limits, and the whole block. None where no record stands.
abbrev pub record_size : List ℕ → List ℕ → ℕ → Option ℕ
record_size magic bytes left =
    if bytes_eq (take 4 bytes) magic && (nat_le MIN_BLOCK_SIZE (size_field bytes)
    && (nat_le (size_field bytes) MAX_BLOCK_WEIGHT && nat_le (8 + size_field bytes) left))
    then Some (size_field bytes) else None

-- what is known of a block by its record, which stands at the place and has that size and its header in front
-- of those bytes
abbrev pub node_of : ℕ → ℕ → ℕ → List ℕ → Node
node_of file place size header = record {
  hash = block_hash (header_of header);
  header = header_of header;
  place = record { file = file; offset = place; len = size };
}

-- the block of the record that begins with these bytes, which stand at the place of the file and are the
-- front of those that it has left
abbrev pub node_at : List ℕ → ℕ → ℕ → List ℕ → ℕ → Option Node
node_at magic file place bytes left =
    option_map (λ size. node_of file place size (drop 8 bytes)) (record_size magic bytes left)

-- how many bytes of a record stand after its first byte; none where no record stands
abbrev pub bytes_after : Option ℕ → ℕ
bytes_after None = 0
bytes_after (Some size) = 7 + size

-- The records of a file from a place on, whose bytes from there on are given. The first bytes, as many as are
-- to be passed, belong to a record that was met. Then, where a record stands, the scan goes on after it, and
-- where none stands, at the next byte.
abbrev pub records_from : List ℕ → ℕ → ℕ → ℕ → List ℕ → List Node
records_from magic file place passed [] = []
records_from magic file place (suc passed) (b ∷ bytes) = records_from magic file (place + 1) passed bytes
records_from magic file place zero (b ∷ bytes) =
    option_to_list (node_at magic file place (b ∷ bytes) (length (b ∷ bytes)))
    ++ records_from magic file (place + 1)
    (bytes_after (record_size magic (b ∷ bytes) (length (b ∷ bytes)))) bytes

-- the records of a file with these bytes, in the order of their places
abbrev pub records : List ℕ → ℕ → List ℕ → List Node
records magic file bytes = records_from magic file 0 0 bytes

-- those of the files below a number, in the order of their numbers
abbrev pub records_of_files : List ℕ → ℕ → (ℕ → List ℕ) → List Node
records_of_files magic zero files = []
records_of_files magic (suc n) files = records_of_files magic n files ++ records magic n (files n)

-- in a node the hash is that of the header, whose fields fit
pub record IsNode (n : Node) : Type 0 where
  pub header : IsHeader n.header
  pub hash : n.hash ≡ block_hash n.header

-- the bytes of the block whose record stands at the place of a file with these bytes: as many as its size
-- says, after magic and size
abbrev pub block_at : Place → List ℕ → List ℕ
block_at place bytes = take place.len (drop (place.offset + 8) bytes)

-- The bytes are as many as the node's block has and begin with its header.
pub record IsBlockOf (n : Node) (bytes : List ℕ) : Type 0 where
  pub size : length bytes ≡ n.place.len
  pub header : take 80 bytes ≡ header_encoding n.header

-- the hash of the first 80 of a block's bytes; None where they are fewer than 80, or fewer than the block has
abbrev pub hash_in : ℕ → List ℕ → Option Hash32
hash_in len bytes =
    if nat_le len (length bytes) && nat_le 80 (length bytes)
    then Some (record { 0 = sha256d (take 80 bytes) }) else None

-- The bytes are not those of the node's block. What was found is the hash of the first 80 of them, if there
-- are as many.
pub record IsOtherBlock (n : Node) (bytes : List ℕ) (found : Option Hash32) : Type 0 where
  pub other : IsBlockOf n bytes → ⊥
  pub hash_found : found ≡ hash_in n.place.len bytes

-- The node is that of the record that stands at its place in the file with this number and these bytes.
pub record IsRecordIn (magic : List ℕ) (number : ℕ) (bytes : List ℕ) (n : Node) : Type 0 where
  pub stands : node_at magic number n.place.offset (drop n.place.offset bytes)
      (length (drop n.place.offset bytes)) ≡ Some n

-- A file with these bytes gives the chain: its records, in order, are the chain's, each one's bytes encode
-- its block, and the chain is good. No other chain is given by these bytes (`file_gives_one_chain`).
pub record GivesChain (magic : List ℕ) (file : ℕ) (bytes : List ℕ) (chain : Chain) : Type 0 where
  pub places : map (λ (b : Placed). b.place) chain ≡ map (λ (n : Node). n.place) (records magic file bytes)
  pub bodies : AllByRecursion (λ (b : Placed). EncodesBlock (block_at b.place bytes) b.block) chain
  pub good : IsGood chain

-- Heads of records, of which a piece of a file has the bytes.
use Rattle.std.proofs.Common.{◌≡◌, ℕ, ◌+◌, ◌<◌, ◌≤◌, List, length, take, drop, refl, sym, ap, ◌∙◌, arith}
use Rattle.std.specs.Prelude.{Option, None, Some, option_map, IfSome}
use Rattle.el_base.specs.Hashing.{sha256d}
use Rattle.el_base.specs.declared.hash.Hash32.{Hash32}
use Rattle.el_tx.specs.Headers.{header_of, header_encoding}
use Rattle.el_tx.specs.declared.types.Header.{Header}
use Rattle.el_block.specs.Blocks.{block_hash}
use Rattle.el_chain.specs.Records.{record_size, node_of, node_at, IsNode}
use Rattle.el_block.specs.declared.limits.TheConstants.{MAX_BLOCK_WEIGHT}
use Rattle.el_chain.specs.declared.limits.TheConstants.{MIN_BLOCK_SIZE}
use Rattle.el_chain.specs.declared.node.Node.{Node}
use Rattle.el_outside.specs.declared.archive.TheConstants.{SIZE_LIMIT}
use Rattle.el_files.specs.declared.limits.TheConstants.{HEAD_SIZE}
use Rattle.el_files.specs.Scanning.{IsFoundIn, IsFoundAt}
pub use Rattle.el_chain.proofs.RecordBytes.{header_in_front, size_bounds}
use Rattle.el_files.specs.within.Finding.{IsRecordAt, IsHeadIn}

-- so is the node
pub node_in_front : (file place size : ℕ) (xs : List ℕ) → node_of file place size (take 80 xs) ≡ node_of file place size xs
node_in_front file place size xs =
    ap (λ (h : Header). let n : Node = record { hash = block_hash h; header = h; place = record { file = file; offset = place; len = size } } in n) (header_in_front xs)

same_parts : (f : List ℕ → Header → Node) (x y : List ℕ) (h k : Header) → x ≡ y → h ≡ k → f x h ≡ f y k
same_parts f x y h k p q = cc

-- a node that was made from the 80 bytes of its header
pub node_made : (hash : Hash32) (h : Header) (file place size : ℕ) (header : List ℕ) → hash.0 ≡ sha256d header → header_encoding h ≡ header → h ≡ header_of header
    → record { hash = hash; header = h; place = record { file = file; offset = place; len = size } } ≡ node_of file place size header
node_made hash h file place size header hashed encoded reads =
    same_parts (λ (x : List ℕ) (k : Header). record { hash = record { 0 = x }; header = k; place = record { file = file; offset = place; len = size } })
    hash.0 (block_hash (header_of header)).0 h (header_of header)
    (hashed ∙ ap sha256d (sym encoded ∙ ap header_encoding reads)) reads

-- a node that was read
pub node_read : (magic bytes header : List ℕ) (file place left n : ℕ) (node : Node) → record_size magic bytes left ≡ Some n → header ≡ take 80 (drop 8 bytes)
    → node ≡ node_of file place n header → Some node ≡ node_at magic file place bytes left
node_read magic bytes header file place left n node size front is =
    let whole : node ≡ node_of file place n (drop 8 bytes) = is ∙ ap (node_of file place n) front ∙ node_in_front file place n (drop 8 bytes) in
    ap Some whole ∙ ap (option_map (λ m. node_of file place m (drop 8 bytes))) (sym size)

-- and what is known of it
pub node_found : (file place left n : ℕ) (header : List ℕ) (node : Node) → (MIN_BLOCK_SIZE ≤ n) × (n ≤ MAX_BLOCK_WEIGHT) × (8 + n ≤ left) → place + left < SIZE_LIMIT
    → node ≡ node_of file place n header → IsNode node → IsRecordAt file place node × (8 + node.place.len ≤ left)
node_found file place left n header node bounds small is good =
    let in_file : node.place.file ≡ file = ap (λ (m : Node). m.place.file) is in
    let offset : node.place.offset ≡ place = ap (λ (m : Node). m.place.offset) is in
    let len : node.place.len ≡ n = ap (λ (m : Node). m.place.len) is in (
      record { found = record { node = good; least = omega arith; most = omega arith; within = omega arith }; file = in_file; offset = offset },
      omega arith,
    )

-- it stands in the piece in which it was read
pub in_piece : (magic piece here : List ℕ) (file place passed left : ℕ) (node : Node) → IsRecordAt file (place + passed) node → passed + HEAD_SIZE ≤ length piece
    → here ≡ drop passed piece → Some node ≡ node_at magic file (place + passed) here left → IsHeadIn magic file place piece node
in_piece magic piece here file place passed left node is long there told = record {
  found = is.found;
  file = is.file;
  head = record {
    from = passed;
    left = left;
    whole = long;
    tells = ap (λ (t : List ℕ). node_at magic file (place + passed) t left) (sym there) ∙ sym told;
  };
}

-- a read gave the piece
pub read_in : (gave : ℕ → ℕ → List ℕ → Type 0) (magic piece given : List ℕ) (file place : ℕ) → gave file place given → piece ≡ given
    → (node : Node) → IsHeadIn magic file place piece node → IsFoundIn gave magic file node
read_in gave magic piece given file place gives same node is = record {
  found = is.found;
  file = is.file;
  read = record { place = place; bytes = piece; given = rw same gives; head = is.head };
}

-- a read gave the head
pub read_at : (gave : ℕ → ℕ → List ℕ → Type 0) (magic head given : List ℕ) (file place left : ℕ) (found : Option Node) → gave file place given
    → head ≡ given → HEAD_SIZE ≤ length head → found ≡ node_at magic file place head left → IfSome found (IsRecordAt file place) → IfSome found (IsFoundAt gave magic file place)
read_at gave magic head given file place left None gives same long told is = tt
read_at gave magic head given file place left (Some node) gives same long told is =
    let here : place ≡ place + 0 = omega arith in
    let at_front : IsRecordAt file (place + 0) node = rw (← here) is in
    let told_there : Some node ≡ node_at magic file (place + 0) head left = told ∙ ap (λ (p : ℕ). node_at magic file p head left) here in
    record {
      found = read_in gave magic head given file place gives same node (in_piece magic head head file place 0 left node at_front long refl told_there);
      offset = is.offset;
    }

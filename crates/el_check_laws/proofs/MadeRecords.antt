-- The records of made blocks, one after the other, are found in their order.
use Rattle.std.proofs.Common.{◌≡◌, ℕ, zero, suc, ◌+◌, ◌≤◌, nat_le, ◌&&◌, if◌then◌else◌, List, [], ◌∷◌, ◌++◌, length, length-append, take, drop, refl, sym, ap, ◌∙◌, arith, append_assoc, subst}
use Rattle.std.specs.Prelude.{Option, None, Some, option_map, option_to_list}
use Rattle.std.specs.Int.{w32, from_le_bytes, to_le_bytes}
use Rattle.std.specs.List.{AllByRecursion}
use Rattle.std.proofs.lemmas.Bool.{le-leb}
use Rattle.std.proofs.lemmas.List.{take_at, drop_at, drop-drop}
use Rattle.std.proofs.lemmas.List.Concat.{flat_map-cons}
use Rattle.std.proofs.lemmas.Nat.{from_le_bytes-to_le_bytes_4}
use Rattle.el_base.specs.declared.hash.Hash32.{Hash32}
use Rattle.el_tx.specs.Encoding.{counted}
use Rattle.el_tx.specs.Hashing.{full_encoding}
use Rattle.el_tx.specs.Headers.{header_encoding, header_of}
use Rattle.el_tx.specs.declared.types.Header.{Header}
use Rattle.el_tx.proofs.HeaderLemmas.{header_again}
use Rattle.el_block.specs.Blocks.{block_encoding, block_hash, EncodesBlock}
use Rattle.el_block.specs.declared.block.Block.{Block}
use Rattle.el_block.specs.declared.limits.TheConstants.{MAX_BLOCK_WEIGHT}
use Rattle.el_chain.specs.declared.limits.TheConstants.{MIN_BLOCK_SIZE}
use Rattle.el_chain.specs.declared.node.Node.{Node}
use Rattle.el_chain.specs.Records.{node_of, records_from}
use Rattle.el_chain.proofs.RecordBytes.{header_in_front, size_here, node_here}
use Rattle.el_files.proofs.Walks.{records_step}
use Rattle.el_gen.specs.Generated.{block_record}
use Rattle.el_gen.specs.MadeFile.{regtest_magic, block_records}
use Rattle.el_check_laws.specs.MadeNodes.{IsNodeOf, AreNodesOf}
use Rattle.el_check_laws.proofs.MadeChains.{AreMade}
use Rattle.el_check_laws.proofs.MadeBlocks.{IsHash, hash_is_hash, size_at, block_size}
use Rattle.el_check_laws.proofs.MadeOrder.{AreRight, encoded_at}

-- A block that a record can have, and whose bytes encode it.
pub record IsWhole (b : Block) : Type 0 where
  pub encoded : EncodesBlock (block_encoding b) b
  pub least : MIN_BLOCK_SIZE ≤ length (block_encoding b)
  pub most : length (block_encoding b) ≤ MAX_BLOCK_WEIGHT

pub all_whole : (of : ℕ → ℕ) (most : ℕ) → AreRight of most → (previous : Hash32) (height : ℕ) (bs : List Block) → IsHash previous
    → AreMade of previous height bs → height + length bs ≤ most → AllByRecursion IsWhole bs
all_whole of most right previous height [] hash made few = tt
all_whole of most right previous height (b ∷ bs) hash made few = (
  subst IsWhole (sym made.0) (record {
    encoded = encoded_at of most previous height right hash (omega (arith, few));
    least = (let size = block_size of previous height hash in let room = sizes height in let least = room.0 in omega (arith, size, least));
    most = (let size = block_size of previous height hash in let room = sizes height in let most = room.1 in omega (arith, size, most));
  }),
  all_whole of most right (block_hash b.header) (suc height) bs (hash_is_hash b.header) made.1 (omega (arith, few)),
)
  where
    sizes : (h : ℕ) → (152 ≤ size_at h) × (size_at h ≤ 231)
    sizes zero = (omega arith, omega arith)
    sizes (suc h) = (omega arith, omega arith)

-- ---- one record

size_told : (x n left : ℕ) → x ≡ n → MIN_BLOCK_SIZE ≤ n → n ≤ MAX_BLOCK_WEIGHT → 8 + n ≤ left
    → ◌≡◌ {A = Option ℕ} (if nat_le MIN_BLOCK_SIZE x && (nat_le x MAX_BLOCK_WEIGHT && nat_le (8 + x) left) then Some x else None) (Some n)
size_told x n left is least most room =
    rw (is, le-leb MIN_BLOCK_SIZE n least, le-leb n MAX_BLOCK_WEIGHT most, le-leb (8 + n) left room) refl

module _ (b : Block) (whole : IsWhole b) (rest : List ℕ) where
  abbrev text : List ℕ
  text = block_encoding b

  record_long : length (block_record regtest_magic b ++ rest) ≡ 8 + length text + length rest
  record_long =
      let both = length-append (block_record regtest_magic b) rest in
      let fields : length (block_record regtest_magic b) ≡ 8 + length text = omega arith in
      omega (arith, both, fields)

  number : from_le_bytes w32 (to_le_bytes w32 (length text)) ≡ length text
  number = let most = whole.most in from_le_bytes-to_le_bytes_4 (length text) (omega (arith, most))

  pub record_size_is : size_here regtest_magic (block_record regtest_magic b ++ rest) ≡ Some (length text)
  record_size_is =
      size_told (from_le_bytes w32 (to_le_bytes w32 (length text))) (length text) (length (block_record regtest_magic b ++ rest)) number whole.least whole.most
      (let long = record_long in omega (arith, long))

  header_is : header_of (text ++ rest) ≡ b.header
  header_is =
      let front : take 80 (text ++ rest) ≡ header_encoding b.header =
      ap (take 80) (append_assoc (header_encoding b.header) (counted full_encoding b.txs) rest)
      ∙ take_at (header_encoding b.header) (counted full_encoding b.txs ++ rest) 80 eighty in
      sym (header_in_front (text ++ rest)) ∙ sym (header_again b.header (take 80 (text ++ rest)) whole.encoded.text.header (sym front))
    where
      long : (previous top : List ℕ) → length previous ≡ 32 → length top ≡ 32 → length (header_encoding (record b.header { previous = record { 0 = previous }; root = record { 0 = top } })) ≡ 80
      long previous top p r = simp length-append (omega (arith, p, r))

      eighty : length (header_encoding b.header) ≡ 80
      eighty =
          let lawful = whole.encoded.text.header in
          long b.header.previous.0 b.header.root.0 lawful.previous_size lawful.root_size

  -- its node at a place of file 0
  abbrev pub node_there : ℕ → Node
  node_there place = record { hash = block_hash b.header; header = b.header; place = record { file = 0; offset = place; len = length text } }

  node_is : (place : ℕ) → node_here regtest_magic 0 place (block_record regtest_magic b ++ rest) ≡ Some (node_there place)
  node_is place =
      ap (option_map (λ size. node_of 0 place size (text ++ rest))) record_size_is
      ∙ ap (λ (h : Header). Some (let n : Node = record { hash = block_hash h; header = h; place = record { file = 0; offset = place; len = length text } } in n)) header_is

  pub one_record : (place : ℕ) → records_from regtest_magic 0 place 0 (block_record regtest_magic b ++ rest)
      ≡ node_there place ∷ records_from regtest_magic 0 (place + (8 + length text)) 0 rest
  one_record place =
      records_step regtest_magic 0 place (block_record regtest_magic b ++ rest) (Some (length text)) (let long = record_long in omega (arith, long)) record_size_is
      ∙ ap (λ (n : Option Node). option_to_list n ++ records_from regtest_magic 0 (place + (1 + (7 + length text))) 0 (drop (1 + (7 + length text)) (block_record regtest_magic b ++ rest))) (node_is place)
      ∙ ap (λ (k : ℕ). node_there place ∷ records_from regtest_magic 0 (place + k) 0 (drop k (block_record regtest_magic b ++ rest))) (let e : 1 + (7 + length text) ≡ 8 + length text = omega arith in e)
      ∙ ap (λ (t : List ℕ). node_there place ∷ records_from regtest_magic 0 (place + (8 + length text)) 0 t) passed
    where
      passed : drop (8 + length text) (block_record regtest_magic b ++ rest) ≡ rest
      passed = drop_at (block_record regtest_magic b) rest (8 + length text) (omega arith)

  pub node_stands : (bytes front : List ℕ) → bytes ≡ front ++ (block_record regtest_magic b ++ rest) → IsNodeOf bytes b (node_there (length front))
  node_stands bytes front is = record {
    hash = refl;
    header = refl;
    file = refl;
    len = refl;
    text = ap (λ (t : List ℕ). take (length text) (drop (length front + 8) t)) is
        ∙ ap (take (length text)) (sym (drop-drop 8 (length front) (front ++ (block_record regtest_magic b ++ rest)))
        ∙ ap (drop 8) (drop_at front (block_record regtest_magic b ++ rest) (length front) refl))
        ∙ take_at text rest (length text) refl;
    within = (
        let all = ap length is ∙ length-append front (block_record regtest_magic b ++ rest) in
        let long = record_long in
        omega (arith, all, long)
        );
  }

-- ---- all records

-- The records that are found from a place on: those of the blocks, which stand there in the bytes, and then
-- those of what stands after them.
pub record Found (bytes : List ℕ) (place : ℕ) (blocks : List Block) (rest : List ℕ) : Type 0 where
  pub nodes : List Node
  pub are : AreNodesOf bytes blocks nodes
  pub found : records_from regtest_magic 0 place 0 (block_records blocks ++ rest)
      ≡ nodes ++ records_from regtest_magic 0 (place + length (block_records blocks)) 0 rest

pub all_found : (bytes front : List ℕ) (blocks : List Block) (rest after : List ℕ) → AllByRecursion IsWhole blocks
    → bytes ≡ front ++ (block_records blocks ++ rest) → Found bytes (length front) blocks (rest ++ after)
all_found bytes front [] rest after whole is = record {
  nodes = [];
  are = tt;
  found = ap (λ (k : ℕ). records_from regtest_magic 0 k 0 (rest ++ after)) (let e : length front ≡ length front + 0 = omega arith in e);
}
all_found bytes front (b ∷ bs) rest after whole is =
    let cut : block_records (b ∷ bs) ≡ block_record regtest_magic b ++ block_records bs = flat_map-cons (block_record regtest_magic) b bs in
    let here : bytes ≡ front ++ (block_record regtest_magic b ++ (block_records bs ++ rest)) =
    is ∙ ap (λ (t : List ℕ). front ++ (t ++ rest)) cut ∙ ap (λ (t : List ℕ). front ++ t) (append_assoc (block_record regtest_magic b) (block_records bs) rest) in
    let more = all_found bytes (front ++ block_record regtest_magic b) bs rest after whole.1 (here ∙ sym (append_assoc front (block_record regtest_magic b) (block_records bs ++ rest))) in
    let both = length-append front (block_record regtest_magic b) in
    let all = ap length cut ∙ length-append (block_record regtest_magic b) (block_records bs) in
    let on : length front + (8 + length (block_encoding b)) ≡ length (front ++ block_record regtest_magic b) = omega (arith, both) in
    let end : length (front ++ block_record regtest_magic b) + length (block_records bs) ≡ length front + length (block_records (b ∷ bs)) = omega (arith, both, all) in
    let tail = block_records bs ++ (rest ++ after) in
    let node = node_there b whole.0 tail (length front) in
    record {
      nodes = node ∷ more.nodes;
      are = (node_stands b whole.0 (block_records bs ++ rest) bytes front here, more.are);
      found = ap (λ (t : List ℕ). records_from regtest_magic 0 (length front) 0 (t ++ (rest ++ after))) cut
          ∙ ap (records_from regtest_magic 0 (length front) 0) (append_assoc (block_record regtest_magic b) (block_records bs) (rest ++ after))
          ∙ one_record b whole.0 tail (length front)
          ∙ ap (λ (k : ℕ). node ∷ records_from regtest_magic 0 k 0 tail) on
          ∙ ap (λ (ns : List Node). node ∷ ns) more.found
          ∙ ap (λ (k : ℕ). node ∷ (more.nodes ++ records_from regtest_magic 0 k 0 (rest ++ after))) end;
    }

-- Records that stand in a file, which may have grown since, and what is read of them.
use Rattle.std.proofs.Common.{◌≡◌, ℕ, ◌+◌, ◌-◌, ◌≤◌, min, List, length, take, drop, refl, sym, ap, ◌∙◌, arith, length-drop, Bool, true, false, ◌&&◌, if◌then◌else◌, IsTrue, nat_le, Result, Err}
use Rattle.std.specs.Prelude.{Option, None, Some, option_map, IfOk}
use Rattle.std.specs.Str.{bytes_eq}
use Rattle.std.proofs.lemmas.Bool.{leb-true}
use Rattle.std.proofs.lemmas.List.{drop-drop, drop-append-le, take-append-le, take-take, drop-take, length-take-le, take_min}
use Rattle.el_base.specs.declared.hash.Hash32.{Hash32}
use Rattle.el_base.specs.Left.{AreBytes}
use Rattle.el_base.proofs.ByteLemmas.{front_bytes}
use Rattle.el_outside.specs.Files.{Grows}
use Rattle.el_outside.specs.declared.archive.Place.{Place}
use Rattle.el_tx.specs.Headers.{header_of, header_encoding}
use Rattle.el_block.specs.declared.limits.TheConstants.{MAX_BLOCK_WEIGHT}
use Rattle.el_block.proofs.BlockOrFault.{header_encoded}
use Rattle.el_chain.specs.declared.limits.TheConstants.{MIN_BLOCK_SIZE}
use Rattle.el_chain.specs.declared.node.Node.{Node}
use Rattle.el_chain.specs.declared.read_fault.ReadFault.{ReadFault}
use Rattle.el_chain.specs.declared.read_fault.ReadFault.TheVariants as fault
use Rattle.el_chain.specs.Records.{size_field, record_size, node_of, node_at, block_at, IsBlockOf, IsRecordIn}
use Rattle.el_chain.specs.Reading.{IfChanged}

-- a field within the front of bytes
pub field : (n m k : ℕ) (xs : List ℕ) → n + m ≤ k → take m (drop n (take k xs)) ≡ take m (drop n xs)
field n m k xs within =
    let same : k ≡ n + (k - n) = omega arith in
    ap (λ (j : ℕ). take m (drop n (take j xs))) same ∙ ap (take m) (drop-take n (k - n) xs) ∙ take-take m (k - n) (drop n xs) (omega arith)

-- the header is read from 80 bytes
pub header_in_front : (xs : List ℕ) → header_of (take 80 xs) ≡ header_of xs
header_in_front xs =
    rw (field 0 4 80 xs (omega arith), field 4 32 80 xs (omega arith), field 36 32 80 xs (omega arith), field 68 4 80 xs (omega arith), field 72 4 80 xs (omega arith), field 76 4 80 xs (omega arith)) refl

-- what a size that was read tells
size_tested : (a b c d : Bool) (x y : ℕ) → ◌≡◌ {A = Option ℕ} (if a && (b && (c && d)) then Some x else None) (Some y)
    → IsTrue b × IsTrue c × IsTrue d × (x ≡ y)
size_tested true true true true x y e = (refl, refl, refl, cc)
size_tested true true true false x y e = absurd (cc)
size_tested true true false d x y e = absurd (cc)
size_tested true false c d x y e = absurd (cc)
size_tested false b c d x y e = absurd (cc)

pub size_bounds : (magic bytes : List ℕ) (left n : ℕ) → record_size magic bytes left ≡ Some n → (MIN_BLOCK_SIZE ≤ n) × (n ≤ MAX_BLOCK_WEIGHT) × (8 + n ≤ left)
size_bounds magic bytes left n e =
    let t = size_tested (bytes_eq (take 4 bytes) magic) (nat_le MIN_BLOCK_SIZE (size_field bytes)) (nat_le (size_field bytes) MAX_BLOCK_WEIGHT) (nat_le (8 + size_field bytes) left) (size_field bytes) n e in
    let least = leb-true MIN_BLOCK_SIZE (size_field bytes) t.0 in
    let most = leb-true (size_field bytes) MAX_BLOCK_WEIGHT t.1 in
    let within = leb-true (8 + size_field bytes) left t.2 in
    let is : size_field bytes ≡ n = t.3 in
    (omega arith, omega arith, omega arith)

-- the record that stands in front of all bytes that a file has left
abbrev pub size_here : List ℕ → List ℕ → Option ℕ
size_here magic bytes = record_size magic bytes (length bytes)

abbrev pub node_here : List ℕ → ℕ → ℕ → List ℕ → Option Node
node_here magic file place bytes = node_at magic file place bytes (length bytes)

-- to pass bytes is to begin after them
pub size_of : (file place : ℕ) (header : List ℕ) (r : Option ℕ) (node : Node) → option_map (λ n. node_of file place n header) r ≡ Some node → r ≡ Some node.place.len
size_of file place header None node e = absurd (cc)
size_of file place header (Some n) node e =
    let is : node_of file place n header ≡ node = cc in
    ap (λ (m : Node). Some m.place.len) is

-- a record's block stands in the file
pub stands_within : (magic bytes : List ℕ) (file : ℕ) (n : Node) → IsRecordIn magic file bytes n → n.place.offset + 8 + n.place.len ≤ length bytes
stands_within magic bytes file n r =
    let front = drop n.place.offset bytes in
    let size = size_of file n.place.offset (drop 8 front) (size_here magic front) n r.stands in
    let bounds = size_bounds magic front (length front) n.place.len size in
    let within : 8 + n.place.len ≤ length front = bounds.2 in
    let left = length-drop n.place.offset bytes in
    omega arith

header_of_node : (file place : ℕ) (header : List ℕ) (r : Option ℕ) (node : Node) → option_map (λ n. node_of file place n header) r ≡ Some node
    → node.header ≡ header_of header
header_of_node file place header None node e = absurd (cc)
header_of_node file place header (Some n) node e =
    let is : node_of file place n header ≡ node = cc in
    sym (ap (λ (m : Node). m.header) is)

-- it stays where the file grows
pub block_stays : (bytes now : List ℕ) (p : Place) → Grows bytes now → p.offset + 8 + p.len ≤ length bytes → block_at p now ≡ block_at p bytes
block_stays bytes now p (more, grows) enough =
    let near : p.offset + 8 ≤ length bytes = omega arith in
    let inner : p.len ≤ length (drop (p.offset + 8) bytes) = rw (length-drop (p.offset + 8) bytes) (omega arith) in
    ap (λ (t : List ℕ). take p.len (drop (p.offset + 8) t)) grows ∙ ap (take p.len) (drop-append-le (p.offset + 8) bytes more near)
    ∙ take-append-le p.len (drop (p.offset + 8) bytes) more inner

-- the bytes at a record's place are those of its block
pub record_block : (magic bytes body : List ℕ) (file : ℕ) (n : Node) → IsRecordIn magic file bytes n → body ≡ block_at n.place bytes → AreBytes body → IsBlockOf n body
record_block magic bytes body file n r is fits =
    let front = drop n.place.offset bytes in
    let at : ℕ = n.place.offset + 8 in
    let size = size_of file n.place.offset (drop 8 front) (size_here magic front) n r.stands in
    let bounds = size_bounds magic front (length front) n.place.len size in
    let least : 81 ≤ n.place.len = bounds.0 in
    let within = stands_within magic bytes file n r in
    let enough : n.place.len ≤ length (drop at bytes) = rw (length-drop at bytes) (omega arith) in
    let long : length body ≡ n.place.len = ap length is ∙ length-take-le n.place.len (drop at bytes) enough in
    let head : take 80 (drop at bytes) ≡ take 80 body = sym (ap (take 80) is ∙ take-take 80 n.place.len (drop at bytes) (omega arith)) in
    let header : n.header ≡ header_of (take 80 body) =
    header_of_node file n.place.offset (drop 8 front) (size_here magic front) n r.stands ∙ ap header_of (drop-drop 8 n.place.offset bytes)
    ∙ sym (header_in_front (drop at bytes)) ∙ ap header_of head in
    let eighty : length (take 80 body) ≡ 80 = length-take-le 80 body (omega arith) in
    record { size = long; header = sym (header_encoded (take 80 body) eighty (front_bytes 80 body fits)) ∙ ap header_encoding (sym header) }

-- what a read gives of a file, of which it may have fewer bytes than were asked for
pub part_read : (len at count : ℕ) (given bytes : List ℕ) → count ≡ min len (length bytes - at) → given ≡ take count (drop at bytes)
    → given ≡ take len (drop at bytes)
part_read len at count given bytes counted filled =
    let rest : count ≡ min len (length (drop at bytes)) = counted ∙ ap (min len) (sym (length-drop at bytes)) in
    filled ∙ ap (λ (n : ℕ). take n (drop at bytes)) rest ∙ take_min len (drop at bytes)

-- where no change can be, the answer is none
pub unchanged : {T : Type 0} (f : ReadFault) (r : Result T ReadFault) (P : Hash32 → Option Hash32 → Type 0) (Q : T → Type 0) → r ≡ Err f
    → IfChanged {T = Unit {0}} (Err f) P → ((wanted : Hash32) (found : Option Hash32) → P wanted found → ⊥) → IfOk r Q × IfChanged r (λ wanted found. ⊥)
unchanged {T} f r P Q e c none = rw e (tt, of_fault f c)
  where
    of_fault : (g : ReadFault) → IfChanged {T = Unit {0}} (Err g) P → IfChanged {T = T} (Err g) (λ wanted found. ⊥)
    of_fault fault.ArchiveFailed k = tt
    of_fault (fault.Changed wanted found) k = none wanted found k
    of_fault fault.Memory k = tt

-- a change that a check told is told on
pub changed_on : {T : Type 0} (f : ReadFault) (r : Result T ReadFault) (P Q : Hash32 → Option Hash32 → Type 0) → r ≡ Err f → IfChanged {T = Unit {0}} (Err f) P
    → ((wanted : Hash32) (found : Option Hash32) → P wanted found → Q wanted found) → IfChanged r Q
changed_on {T} f r P Q e c more = rw e (of_fault f c)
  where
    of_fault : (g : ReadFault) → IfChanged {T = Unit {0}} (Err g) P → IfChanged {T = T} (Err g) Q
    of_fault fault.ArchiveFailed k = tt
    of_fault (fault.Changed wanted found) k = more wanted found k
    of_fault fault.Memory k = tt

-- Records of bytes and of what stands after them.
use Rattle.std.proofs.Common.{◌≡◌, ℕ, zero, suc, ◌+◌, ◌-◌, ◌<◌, ◌≤◌, List, [], ◌∷◌, ◌++◌, length, take, drop, refl, sym, ap, ◌∙◌, arith, Bool, true, false, ◌&&◌, nat_le, if◌then◌else◌, ⊎_elim, append_assoc, append-nil, length-append, length-drop}
use Rattle.std.specs.Prelude.{replicate, Option, None, Some, option_map, option_to_list}
use Rattle.std.specs.Str.{bytes_eq}
use Rattle.std.specs.Int.{w32, from_le_bytes}
use Rattle.std.proofs.lemmas.Bool.{le-leb, leb-true, cases_lt}
use Rattle.std.proofs.lemmas.List.{take-append-le, drop-append-le, drop_at, length-replicate, take-replicate, drop-replicate}
use Rattle.el_block.specs.declared.limits.TheConstants.{MAX_BLOCK_WEIGHT}
use Rattle.el_chain.specs.Records.{size_field, record_size, node_of, bytes_after, records, records_from}
use Rattle.el_chain.specs.declared.limits.TheConstants.{MIN_BLOCK_SIZE}
use Rattle.el_chain.specs.declared.node.Node.{Node}
use Rattle.el_files.specs.declared.limits.TheConstants.{HEAD_SIZE, MIN_RECORD_SIZE}
use Rattle.el_files.specs.Scanning.{AreWholeRecords, none, more}
use Rattle.el_files.proofs.Heading.{size_bounds, node_in_front}
use Rattle.el_files.proofs.Walks.{size_here, node_here, records_step}
use Rattle.el_files.proofs.Scans.{no_size_there}

-- ---- a whole record, whatever stands after it

test_room : (a b c d e : Bool) (x n : ℕ) → ◌≡◌ {A = Option ℕ} (if a && (b && (c && d)) then Some x else None) (Some n) → (d ≡ true → e ≡ true)
    → ◌≡◌ {A = Option ℕ} (if a && (b && (c && e)) then Some x else None) (Some n)
test_room true true true true true x n is room = is
test_room true true true true false x n is room = absurd (let k : false ≡ true = room refl in cc)
test_room true true true false e x n is room = absurd (cc)
test_room true true false d e x n is room = absurd (cc)
test_room true false c d e x n is room = absurd (cc)
test_room false b c d e x n is room = absurd (cc)

-- a record stands there also where more bytes are left
size_roomier : (magic bytes : List ℕ) (left longer n : ℕ) → record_size magic bytes left ≡ Some n → left ≤ longer → record_size magic bytes longer ≡ Some n
size_roomier magic bytes left longer n is le =
    test_room (bytes_eq (take 4 bytes) magic) (nat_le MIN_BLOCK_SIZE (size_field bytes)) (nat_le (size_field bytes) MAX_BLOCK_WEIGHT) (nat_le (8 + size_field bytes) left)
    (nat_le (8 + size_field bytes) longer) (size_field bytes) n is
    (λ fits. let within = leb-true (8 + size_field bytes) left fits in le-leb (8 + size_field bytes) longer (omega (arith, within, le)))

part_before : (n m : ℕ) (bytes rest : List ℕ) → n + m ≤ length bytes → take m (drop n (bytes ++ rest)) ≡ take m (drop n bytes)
part_before n m bytes rest within =
    let enough : m ≤ length (drop n bytes) = rw (length-drop n bytes) (omega arith) in
    ap (take m) (drop-append-le n bytes rest (omega arith)) ∙ take-append-le m (drop n bytes) rest enough

size_before : (magic bytes rest : List ℕ) (left : ℕ) → 8 ≤ length bytes → record_size magic (bytes ++ rest) left ≡ record_size magic bytes left
size_before magic bytes rest left long =
    let four : take 4 (bytes ++ rest) ≡ take 4 bytes = take-append-le 4 bytes rest (omega arith) in
    let told : size_field (bytes ++ rest) ≡ size_field bytes = ap (from_le_bytes w32) (part_before 4 4 bytes rest (omega arith)) in
    same (take 4 (bytes ++ rest)) (take 4 bytes) (size_field (bytes ++ rest)) (size_field bytes) four told
  where
    same : (a b : List ℕ) (s t : ℕ) → a ≡ b → s ≡ t
        → ◌≡◌ {A = Option ℕ} (if bytes_eq a magic && (nat_le MIN_BLOCK_SIZE s && (nat_le s MAX_BLOCK_WEIGHT && nat_le (8 + s) left)) then Some s else None)
        (if bytes_eq b magic && (nat_le MIN_BLOCK_SIZE t && (nat_le t MAX_BLOCK_WEIGHT && nat_le (8 + t) left)) then Some t else None)
    same a b s t p q = rw (p, q) refl

-- the size and the node of a whole record
whole_size : (magic bytes rest : List ℕ) (size : ℕ) → record_size magic bytes (length bytes) ≡ Some size → length bytes ≡ 8 + size → size_here magic (bytes ++ rest) ≡ Some size
whole_size magic bytes rest size is long =
    let all = length-append bytes rest in
    size_before magic bytes rest (length (bytes ++ rest)) (omega (arith, long))
    ∙ size_roomier magic bytes (length bytes) (length (bytes ++ rest)) size is (omega (arith, all))

whole_node : (magic : List ℕ) (file place : ℕ) (bytes rest : List ℕ) (size : ℕ) → record_size magic bytes (length bytes) ≡ Some size → length bytes ≡ 8 + size
    → node_here magic file place (bytes ++ rest) ≡ Some (node_of file place size (drop 8 bytes))
whole_node magic file place bytes rest size is long =
    let bounds = size_bounds magic bytes (length bytes) size is in
    let least : MIN_BLOCK_SIZE ≤ size = bounds.0 in
    let header : take 80 (drop 8 (bytes ++ rest)) ≡ take 80 (drop 8 bytes) = part_before 8 80 bytes rest (omega (arith, least, long)) in
    ap (option_map (λ n. node_of file place n (drop 8 (bytes ++ rest)))) (whole_size magic bytes rest size is long)
    ∙ ap Some (sym (node_in_front file place size (drop 8 (bytes ++ rest))) ∙ ap (node_of file place size) header ∙ node_in_front file place size (drop 8 bytes))

whole_step : (magic : List ℕ) (file place : ℕ) (bytes rest : List ℕ) (size : ℕ) → record_size magic bytes (length bytes) ≡ Some size → length bytes ≡ 8 + size
    → records_from magic file place 0 (bytes ++ rest) ≡ node_of file place size (drop 8 bytes) ∷ records_from magic file (place + length bytes) 0 rest
whole_step magic file place bytes rest size is long =
    let all = length-append bytes rest in
    let on : 1 + (7 + size) ≡ length bytes = omega (arith, long) in
    records_step magic file place (bytes ++ rest) (Some size) (omega (arith, all, long)) (whole_size magic bytes rest size is long)
    ∙ ap (λ (n : Option Node). option_to_list n ++ records_from magic file (place + (1 + (7 + size))) 0 (drop (1 + (7 + size)) (bytes ++ rest))) (whole_node magic file place bytes rest size is long)
    ∙ ap (λ (k : ℕ). node_of file place size (drop 8 bytes) ∷ records_from magic file (place + k) 0 (drop k (bytes ++ rest))) on
    ∙ ap (λ (t : List ℕ). node_of file place size (drop 8 bytes) ∷ records_from magic file (place + length bytes) 0 t) (drop_at bytes rest (length bytes) refl)

-- the records of whole records and of what stands after them
joined_from : (magic : List ℕ) (file place : ℕ) (padding : List ℕ) {bytes : List ℕ} → AreWholeRecords magic bytes
    → records_from magic file place 0 (bytes ++ padding) ≡ records_from magic file place 0 bytes ++ records_from magic file (place + length bytes) 0 padding
joined_from magic file place padding none = ap (λ (p : ℕ). records_from magic file p 0 padding) (let e : place ≡ place + 0 = omega arith in e)
joined_from magic file place padding (more bytes rest size is long whole) =
    let after = joined_from magic file (place + length bytes) padding whole in
    let all = length-append bytes rest in
    let on : place + length bytes + length rest ≡ place + length (bytes ++ rest) = omega (arith, all) in
    ap (records_from magic file place 0) (append_assoc bytes rest padding)
    ∙ whole_step magic file place bytes (rest ++ padding) size is long
    ∙ ap (λ (t : List Node). node_of file place size (drop 8 bytes) ∷ t) (after ∙ ap (λ (p : ℕ). records_from magic file (place + length bytes) 0 rest ++ records_from magic file p 0 padding) on)
    ∙ ap (λ (t : List Node). t ++ records_from magic file (place + length (bytes ++ rest)) 0 padding) (sym (whole_step magic file place bytes rest size is long))

pub records_joined : (magic : List ℕ) (file : ℕ) (bytes padding : List ℕ) → AreWholeRecords magic bytes
    → records magic file (bytes ++ padding) ≡ records magic file bytes ++ records_from magic file (length bytes) 0 padding
records_joined magic file bytes padding whole =
    joined_from magic file 0 padding whole
    ∙ ap (λ (p : ℕ). records magic file bytes ++ records_from magic file p 0 padding) (let e : 0 + length bytes ≡ length bytes = omega arith in e)

-- ---- zeros have no records

no_zero_size : (magic : List ℕ) (m : ℕ) → size_here magic (replicate m 0) ≡ None
no_zero_size magic m = ⊎_elim (λ few. no_size_there magic (replicate m 0) (length (replicate m 0)) (let e = length-replicate {A = ℕ} m 0 in omega (arith, e, few))) enough (cases_lt m MIN_RECORD_SIZE)
  where
    tested : (a c : Bool) → ◌≡◌ {A = Option ℕ} (if a && (nat_le MIN_BLOCK_SIZE 0 && c) then Some 0 else None) None
    tested true c = refl
    tested false c = refl

    enough : MIN_RECORD_SIZE ≤ m → size_here magic (replicate m 0) ≡ None
    enough le =
        let zeros = replicate m 0 in
        let told : size_field zeros ≡ 0 =
        ap (λ (t : List ℕ). from_le_bytes w32 (take 4 t)) (drop-replicate 4 m 0) ∙ ap (from_le_bytes w32) (take-replicate 4 (m - 4) 0 (omega (arith, le))) in
        ap (λ (s : ℕ). if bytes_eq (take 4 zeros) magic && (nat_le MIN_BLOCK_SIZE s && (nat_le s MAX_BLOCK_WEIGHT && nat_le (8 + s) (length zeros))) then Some s else None) told
        ∙ tested (bytes_eq (take 4 zeros) magic) (nat_le 0 MAX_BLOCK_WEIGHT && nat_le (8 + 0) (length zeros))

pub no_zero_records : (magic : List ℕ) (file place n : ℕ) → records_from magic file place 0 (replicate n 0) ≡ []
no_zero_records magic file place zero = refl
no_zero_records magic file place (suc n) =
    let size = no_zero_size magic (suc n) in
    let nothing : node_here magic file place (replicate (suc n) 0) ≡ None = ap (option_map (λ s. node_of file place s (drop 8 (replicate (suc n) 0)))) size in
    let long : 1 ≤ length (replicate (suc n) 0) = let e = length-replicate {A = ℕ} (suc n) 0 in omega (arith, e) in
    let rest : drop (1 + 0) (replicate (suc n) 0) ≡ replicate n 0 = refl in
    records_step magic file place (replicate (suc n) 0) None long size
    ∙ ap (λ (h : Option Node). option_to_list h ++ records_from magic file (place + (1 + 0)) 0 (drop (1 + 0) (replicate (suc n) 0))) nothing
    ∙ ap (λ (t : List ℕ). records_from magic file (place + (1 + 0)) 0 t) rest
    ∙ no_zero_records magic file (place + (1 + 0)) n

pub zeros_add_none : (magic : List ℕ) (file n : ℕ) (bytes : List ℕ) → AreWholeRecords magic bytes → records magic file (bytes ++ replicate n 0) ≡ records magic file bytes
zeros_add_none magic file n bytes whole =
    records_joined magic file bytes (replicate n 0) whole
    ∙ ap (λ (t : List Node). records magic file bytes ++ t) (no_zero_records magic file (length bytes) n)
    ∙ append-nil (records magic file bytes)

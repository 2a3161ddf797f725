-- Reading files to which the node writes.
use Rattle.std.proofs.Common.{◌≡◌, ◌⊎◌, inl, inr, ℕ, zero, suc, ◌+◌, ◌-◌, ◌<◌, ◌≤◌, min, List, [], ◌∷◌, ◌++◌, length, take, drop, refl, sym, ap, ◌∙◌, arith, Bool, true, false, nat_le, if◌then◌else◌, append_assoc, append-nil, length-append, length-drop}
use Rattle.std.specs.Prelude.{replicate, Option, None, Some, option_map, option_to_list}
use Rattle.std.proofs.lemmas.Bool.{le-leb, leb-true}
use Rattle.std.proofs.lemmas.List.{take-append-le, drop-append-le, drop-drop, length-take, length-take-le, length-replicate, take_at, take-take}
use Rattle.el_outside.specs.Files.{Grows, AllGrow}
use Rattle.el_outside.specs.Seen.{seen, IsBetween, WasSeen}
use Rattle.el_outside.specs.declared.archive.Archive as block_files
use Rattle.el_outside.proofs.Traces.{all_grow_none, all_grow_more}
use Rattle.el_chain.specs.Records.{record_size, node_of, node_at, records, records_from}
use Rattle.el_chain.specs.declared.node.Node.{Node}
use Rattle.el_files.specs.declared.limits.TheConstants.{HEAD_SIZE, MIN_RECORD_SIZE}
use Rattle.el_files.specs.Scanning.{up_to, looked_up, LookedUp, ScannedTo, begins, goes, Scanned, WasScanned, WasScannedTo}
use Rattle.el_files.specs.within.Walking.{Walked, ScanIsAt}
use Rattle.el_files.proofs.Heading.{size_bounds}
use Rattle.el_files.proofs.Walks.{size_here, node_here, records_step, node_in_piece, field, walked_none}

no_room : (magic bytes : List ℕ) (left : ℕ) (size : Option ℕ) → left < MIN_RECORD_SIZE → record_size magic bytes left ≡ size → size ≡ None
no_room magic bytes left None short e = refl
no_room magic bytes left (Some n) short e = let b = size_bounds magic bytes left n e in absurd (omega arith)

-- fewer bytes than the least record has have no room for a record
pub no_size_there : (magic bytes : List ℕ) (left : ℕ) → left < MIN_RECORD_SIZE → record_size magic bytes left ≡ None
no_size_there magic bytes left short = no_room magic bytes left (record_size magic bytes left) short refl

pub no_node_there : (magic : List ℕ) (file place left : ℕ) (bytes : List ℕ) → left < MIN_RECORD_SIZE → None ≡ node_at magic file place bytes left
no_node_there magic file place left bytes short = sym (ap (option_map (λ size. node_of file place size (drop 8 bytes))) (no_size_there magic bytes left short))

pub no_records_there : (magic : List ℕ) (file place : ℕ) (bytes : List ℕ) → length bytes < MIN_RECORD_SIZE → records_from magic file place 0 bytes ≡ []
no_records_there magic file place [] short = refl
no_records_there magic file place (b ∷ bytes) short =
    let none = no_size_there magic (b ∷ bytes) (length (b ∷ bytes)) short in
    let nothing = no_node_there magic file place (length (b ∷ bytes)) (b ∷ bytes) short in
    let step = records_step magic file place (b ∷ bytes) None (omega arith) none in
    let rest : drop (1 + 0) (b ∷ bytes) ≡ bytes = refl in
    step ∙ ap (λ (h : Option Node). option_to_list h ++ records_from magic file (place + (1 + 0)) 0 (drop (1 + 0) (b ∷ bytes))) (sym nothing)
    ∙ ap (λ (t : List ℕ). records_from magic file (place + (1 + 0)) 0 t) rest
    ∙ no_records_there magic file (place + (1 + 0)) bytes (omega arith)

-- the bytes up to a size are that many
pub length_up_to : (size : ℕ) (bytes : List ℕ) → length (up_to size bytes) ≡ size
length_up_to size bytes =
    let zeros = length-replicate {A = ℕ} size 0 in
    let all = length-append bytes (replicate size 0) in
    length-take-le size (bytes ++ replicate size 0) (omega (arith, zeros, all))

-- a part within the size and the bytes is one of the bytes
pub part_up_to : (n at size : ℕ) (bytes : List ℕ) → at + n ≤ size → at + n ≤ length bytes → take n (drop at bytes) ≡ take n (drop at (up_to size bytes))
part_up_to n at size bytes within there =
    let rest : n ≤ length (drop at bytes) = rw (length-drop at bytes) (omega arith) in
    let near : at ≤ length bytes = omega arith in
    sym (field at n size (bytes ++ replicate size 0) within
    ∙ ap (take n) (drop-append-le at bytes (replicate size 0) near)
    ∙ take-append-le n (drop at bytes) (replicate size 0) rest)

-- what a read gave is a piece of the file up to its size
pub piece_of : (piece given bytes : List ℕ) (count wanted at size : ℕ) → piece ≡ take count given → length piece ≡ count → count ≡ min wanted (length bytes - at) → at + wanted ≤ size
    → take count given ≡ take count (drop at bytes) → piece ≡ take (length piece) (drop at (up_to size bytes))
piece_of piece given bytes count wanted at size is long counted within filled =
    is ∙ filled ∙ at_front count counted ∙ ap (λ (n : ℕ). take n (drop at (up_to size bytes))) (sym long)
  where
    at_front : (n : ℕ) → n ≡ min wanted (length bytes - at) → take n (drop at bytes) ≡ take n (drop at (up_to size bytes))
    at_front zero e = refl
    at_front (suc n) e = part_up_to (suc n) at size bytes (omega arith) (omega arith)

-- a sight of a file at the end of a call
pub seen_now : {A : Type 0} (of_files : block_files.Ghosts A) (before : ℕ → List ℕ) (now : A) (file : ℕ) → AllGrow before (of_files.bytes now)
    → WasSeen of_files before (of_files.bytes now) file (seen of_files now file)
seen_now of_files before now file grew = record { archive = now; between = record { grew = grew; grows = all_grow_none (of_files.bytes now) }; is = refl }

-- one of a shorter time is one of a longer time
pub seen_longer : {A : Type 0} (of_files : block_files.Ghosts A) (f g h i : ℕ → List ℕ) (file : ℕ) (bytes : List ℕ) → AllGrow f g → AllGrow h i → WasSeen of_files g h file bytes
    → WasSeen of_files f i file bytes
seen_longer of_files f g h i file bytes before after w = record {
  archive = w.archive;
  between = record {
    grew = all_grow_more f g (of_files.bytes w.archive) before w.between.grew;
    grows = all_grow_more (of_files.bytes w.archive) h i w.between.grows after;
  };
  is = w.is;
}

-- so is a scan
pub to_longer : (P Q : List ℕ → Type 0) (magic : List ℕ) (file size : ℕ) {place : ℕ} {nodes : List Node} → ((bytes : List ℕ) → P bytes → Q bytes) → ScannedTo P magic file size place nodes
    → ScannedTo Q magic file size place nodes
to_longer P Q magic file size longer begins = begins
to_longer P Q magic file size longer (goes from next front more bytes before sight are) =
    goes from next front more bytes (to_longer P Q magic file size longer before) (longer bytes sight) are

pub scan_begins : (P : List ℕ → Type 0) (magic : List ℕ) (file size : ℕ) (old : List Node) → ScanIsAt P magic file size 0 old old
scan_begins P magic file size old = record { place = 0; nodes = []; appended = sym (append-nil old); scanned = begins; here = inl refl }

-- the scan before a piece, where the piece begins at the place that it has come to
pub scan_before : (P : List ℕ → Type 0) (magic : List ℕ) (file size at : ℕ) (old mid : List Node) → ScanIsAt P magic file size at old mid → at + MIN_RECORD_SIZE ≤ size
    → (nodes : List Node) × (mid ≡ old ++ nodes) × ScannedTo P magic file size at nodes
scan_before P magic file size at old mid s more = by_here s.here
  where
    by_here : ((at ≡ s.place) ⊎ ((size < at + MIN_RECORD_SIZE) × ((bytes : List ℕ) × P bytes × (length bytes < s.place + HEAD_SIZE))))
        → (nodes : List Node) × (mid ≡ old ++ nodes) × ScannedTo P magic file size at nodes
    by_here (inl same) = (s.nodes, s.appended, rw same s.scanned)
    by_here (inr ended) = absurd (omega (arith, ended.0))

-- the scan of a piece more
pub scan_piece_more : (P Q : List ℕ → Type 0) (magic : List ℕ) (file size at passed : ℕ) (bytes : List ℕ) (old mid new : List Node) → ScanIsAt P magic file size at old mid
    → at + MIN_RECORD_SIZE ≤ size → ((b : List ℕ) → P b → Q b) → Q bytes → Walked magic file at passed (drop at (up_to size bytes)) mid new
    → (nodes : List Node) × (new ≡ old ++ nodes) × ScannedTo Q magic file size (at + passed) nodes
scan_piece_more P Q magic file size at passed bytes old mid new s more longer sight w =
    let before = scan_before P magic file size at old mid s more in
    let after : drop passed (drop at (up_to size bytes)) ≡ drop (at + passed) (up_to size bytes) = drop-drop passed at (up_to size bytes) in (
      before.0 ++ w.nodes,
      w.appended ∙ ap (λ (t : List Node). t ++ w.nodes) before.1 ∙ append_assoc old before.0 w.nodes,
      goes at (at + passed) before.0 w.nodes bytes (to_longer P Q magic file size longer before.2) sight
          (w.rest ∙ ap (λ (t : List ℕ). w.nodes ++ records_from magic file (at + passed) 0 t) after),
    )

-- where it has come to then
pub scan_goes : (P Q : List ℕ → Type 0) (magic : List ℕ) (file size at next passed : ℕ) (bytes : List ℕ) (old mid new : List Node) → ScanIsAt P magic file size at old mid
    → at + MIN_RECORD_SIZE ≤ size → ((b : List ℕ) → P b → Q b) → Q bytes → Walked magic file at passed (drop at (up_to size bytes)) mid new
    → (next ≡ at + passed) ⊎ ((next ≡ size) × (length bytes < at + passed + HEAD_SIZE)) → ScanIsAt Q magic file size next old new
scan_goes P Q magic file size at next passed bytes old mid new s more longer sight w to =
    let all = scan_piece_more P Q magic file size at passed bytes old mid new s more longer sight w in
    record { place = at + passed; nodes = all.0; appended = all.1; scanned = all.2; here = by_next to }
  where
    by_next : (next ≡ at + passed) ⊎ ((next ≡ size) × (length bytes < at + passed + HEAD_SIZE))
        → (next ≡ at + passed) ⊎ ((size < next + MIN_RECORD_SIZE) × ((b : List ℕ) × Q b × (length b < at + passed + HEAD_SIZE)))
    by_next (inl on) = inl on
    by_next (inr ended) = inr (omega (arith, ended.0), (bytes, sight, ended.1))

-- a scan that has come so near to the end has passed all records
pub scan_ends : (P : List ℕ → Type 0) (magic : List ℕ) (file size at : ℕ) (old new : List Node) → ScanIsAt P magic file size at old new → size < at + MIN_RECORD_SIZE
    → (nodes : List Node) × Scanned P magic file size nodes × (new ≡ old ++ nodes)
scan_ends P magic file size at old new s near = (s.nodes, record { place = s.place; scanned = s.scanned; ends = by_here s.here }, s.appended)
  where
    by_here : ((at ≡ s.place) ⊎ ((size < at + MIN_RECORD_SIZE) × ((bytes : List ℕ) × P bytes × (length bytes < s.place + HEAD_SIZE))))
        → (size < s.place + MIN_RECORD_SIZE) ⊎ ((bytes : List ℕ) × P bytes × (length bytes < s.place + HEAD_SIZE))
    by_here (inl same) = inl (omega arith)
    by_here (inr ended) = inr ended.1

-- where the walk over a piece ends
pub piece_ends : (count wanted at passed : ℕ) (bytes : List ℕ) → count ≡ min wanted (length bytes - at) → count < wanted → count < passed + HEAD_SIZE
    → length bytes < at + passed + HEAD_SIZE
piece_ends count wanted at passed bytes counted short near = omega arith

-- all of a scan whose size was told, as the size of what was seen then
pub scanned_all : {A : Type 0} (of_files : block_files.Ghosts A) (before : ℕ → List ℕ) (told now : A) (magic : List ℕ) (file size : ℕ) (old new : List Node)
    → IsBetween of_files before told (of_files.bytes now) → size ≡ length (seen of_files told file)
    → (nodes : List Node) × Scanned (WasSeen of_files (of_files.bytes told) (of_files.bytes now) file) magic file size nodes × (new ≡ old ++ nodes)
    → (nodes : List Node) × WasScanned of_files before (of_files.bytes now) magic file nodes × (new ≡ old ++ nodes)
scanned_all of_files before told now magic file size old new between sized all =
    (all.0, record { told = told; between = between; scanned = rw (← sized) all.1 }, all.2)

pub scanned_to : {A : Type 0} (of_files : block_files.Ghosts A) (before : ℕ → List ℕ) (told now : A) (magic : List ℕ) (file size place : ℕ) (old new : List Node)
    → IsBetween of_files before told (of_files.bytes now) → size ≡ length (seen of_files told file)
    → (nodes : List Node) × (new ≡ old ++ nodes) × ScannedTo (WasSeen of_files (of_files.bytes told) (of_files.bytes now) file) magic file size place nodes
    → (nodes : List Node) × WasScannedTo of_files before (of_files.bytes now) magic file nodes × (new ≡ old ++ nodes)
scanned_to of_files before told now magic file size place old new between sized all =
    (all.0, record { told = told; between = between; place = place; scanned = rw (← sized) all.2 }, all.1)

-- nothing was scanned
pub scanned_nothing : {A : Type 0} (of_files : block_files.Ghosts A) (before : ℕ → List ℕ) (now : A) (magic : List ℕ) (file : ℕ) (old : List Node) → AllGrow before (of_files.bytes now)
    → (nodes : List Node) × WasScannedTo of_files before (of_files.bytes now) magic file nodes × (old ≡ old ++ nodes)
scanned_nothing of_files before now magic file old grew = ([], record { told = now; between = record { grew = grew; grows = all_grow_none (of_files.bytes now) }; place = 0; scanned = begins }, sym (append-nil old))

-- no record is found so near to the end of a file
pub looked_far : (magic : List ℕ) (file at size : ℕ) (bytes : List ℕ) → size < at + MIN_RECORD_SIZE → None ≡ looked_up magic file at bytes size
looked_far magic file at size bytes far = by_test (nat_le (at + HEAD_SIZE) (length bytes))
  where
    by_test : (b : Bool) → None ≡ (if b then node_at magic file at (drop at bytes) (size - at) else None)
    by_test true = no_node_there magic file at (size - at) (drop at bytes) (omega arith)
    by_test false = refl

-- nor where no head was read
pub looked_short : (magic : List ℕ) (file at size : ℕ) (bytes : List ℕ) → false ≡ nat_le HEAD_SIZE (length bytes - at) → None ≡ looked_up magic file at bytes size
looked_short magic file at size bytes short = by_test (nat_le (at + HEAD_SIZE) (length bytes)) refl
  where
    by_test : (b : Bool) → nat_le (at + HEAD_SIZE) (length bytes) ≡ b → None ≡ (if b then node_at magic file at (drop at bytes) (size - at) else None)
    by_test true is =
        let long : at + HEAD_SIZE ≤ length bytes = leb-true (at + HEAD_SIZE) (length bytes) is in
        let full : nat_le HEAD_SIZE (length bytes - at) ≡ true = le-leb HEAD_SIZE (length bytes - at) (omega arith) in
        absurd (let e : false ≡ true = short ∙ full in cc)
    by_test false is = refl

-- what the head that was read tells is what is found
pub looked_read : (magic : List ℕ) (file at size : ℕ) (head bytes : List ℕ) (found : Option Node) → true ≡ nat_le HEAD_SIZE (length bytes - at) → head ≡ take HEAD_SIZE (drop at bytes)
    → found ≡ node_at magic file at head (size - at) → found ≡ looked_up magic file at bytes size
looked_read magic file at size head bytes found full is told =
    let enough : HEAD_SIZE ≤ length bytes - at = leb-true HEAD_SIZE (length bytes - at) (sym full) in
    let long : nat_le (at + HEAD_SIZE) (length bytes) ≡ true = le-leb (at + HEAD_SIZE) (length bytes) (omega arith) in
    let rest : HEAD_SIZE ≤ length (drop at bytes) = rw (length-drop at bytes) enough in
    let sized : length head ≡ HEAD_SIZE = ap length is ∙ length-take-le HEAD_SIZE (drop at bytes) rest in
    let piece : head ≡ take (length head) (drop at bytes) = is ∙ ap (λ (n : ℕ). take n (drop at bytes)) (sym sized) in
    told ∙ node_in_piece magic file at (size - at) head (drop at bytes) (omega arith) piece
    ∙ sym (ap (λ (b : Bool). if b then node_at magic file at (drop at bytes) (size - at) else None) long)

-- a buffer keeps its length
pub buffer_kept : (len n : ℕ) (new items : List ℕ) → length new ≡ n → length items ≡ n → len ≡ n → length (take len (new ++ drop (length new) items)) ≡ n
buffer_kept len n new items a b l =
    let j = length-append new (drop (length new) items) in
    let d = length-drop (length new) items in
    let m = length-take len (new ++ drop (length new) items) in
    omega arith

-- ---- laws of scans

-- where each sight of a file begins with the same bytes, as many as its size, it is walked over as they are
up_to_front : (bytes more : List ℕ) → up_to (length bytes) (bytes ++ more) ≡ bytes
up_to_front bytes more = ap (take (length bytes)) (append_assoc bytes more (replicate (length bytes) 0)) ∙ take_at bytes (more ++ replicate (length bytes) 0) (length bytes) refl

one_sight : (P : List ℕ → Type 0) (magic : List ℕ) (file : ℕ) (bytes : List ℕ) {place : ℕ} {nodes : List Node} → ((b : List ℕ) → P b → Grows bytes b)
    → ScannedTo P magic file (length bytes) place nodes → records magic file bytes ≡ nodes ++ records_from magic file place 0 (drop place bytes)
one_sight P magic file bytes grows begins = refl
one_sight P magic file bytes grows (goes from next front more b before sight are) =
    let g = grows b sight in
    let same : up_to (length bytes) b ≡ bytes = ap (up_to (length bytes)) g.1 ∙ up_to_front bytes g.0 in
    let here : records_from magic file from 0 (drop from bytes) ≡ more ++ records_from magic file next 0 (drop next bytes) = rw same at are in
    one_sight P magic file bytes grows before ∙ ap (λ (t : List Node). front ++ t) here ∙ sym (append_assoc front more (records_from magic file next 0 (drop next bytes)))

-- so what was scanned are its records
pub scanned_records : (was_seen : List ℕ → Type 0) (magic : List ℕ) (file : ℕ) (bytes : List ℕ) (nodes : List Node) → ((b : List ℕ) → was_seen b → Grows bytes b)
    → Scanned was_seen magic file (length bytes) nodes → nodes ≡ records magic file bytes
scanned_records was_seen magic file bytes nodes grows s =
    let all = one_sight was_seen magic file bytes grows s.scanned in
    let none : records_from magic file s.place 0 (drop s.place bytes) ≡ [] = no_records_there magic file s.place (drop s.place bytes) (rw (length-drop s.place bytes) (by_end s.ends)) in
    sym (all ∙ ap (λ (t : List Node). nodes ++ t) none ∙ append-nil nodes)
  where
    by_end : (length bytes < s.place + MIN_RECORD_SIZE) ⊎ ((b : List ℕ) × was_seen b × (length b < s.place + HEAD_SIZE)) → length bytes - s.place < MIN_RECORD_SIZE
    by_end (inl near) = omega arith
    by_end (inr (b, sight, short)) =
        let g = grows b sight in
        let long : length b ≡ length bytes + length g.0 = ap length g.1 ∙ length-append bytes g.0 in
        omega (arith, long)

-- the same of a scan of a file whose size was told
pub scanned_sight : {A : Type 0} (of_files : block_files.Ghosts A) (before after : ℕ → List ℕ) (magic bytes : List ℕ) (file : ℕ) (nodes : List Node)
    → ((sight : List ℕ) → WasSeen of_files before after file sight → Grows bytes sight) → (s : WasScanned of_files before after magic file nodes)
    → length (seen of_files s.told file) ≡ length bytes → nodes ≡ records magic file bytes
scanned_sight of_files before after magic bytes file nodes sights s long =
    scanned_records (WasSeen of_files (of_files.bytes s.told) after file) magic file bytes nodes
    (λ sight w. sights sight (seen_longer of_files before (of_files.bytes s.told) after after file sight s.between.grew (all_grow_none after) w))
    (rw long at s.scanned)

-- over block files without padding they are those of the file as it was when its size was told
pub scanned_without : {A : Type 0} (of_files : block_files.Ghosts A) (before after : ℕ → List ℕ) (magic : List ℕ) (file : ℕ) (nodes : List Node)
    → ((archive : A) → of_files.padding archive file ≡ []) → WasScanned of_files before after magic file nodes
    → (bytes : List ℕ) × Grows (before file) bytes × Grows bytes (after file) × (nodes ≡ records magic file bytes)
scanned_without of_files before after magic file nodes none s = (
  of_files.bytes s.told file,
  s.between.grew file,
  s.between.grows file,
  scanned_records (WasSeen of_files (of_files.bytes s.told) after file) magic file (of_files.bytes s.told file) nodes sights (rw (ap length same) at s.scanned),
)
  where
    same : seen of_files s.told file ≡ of_files.bytes s.told file
    same = ap (λ (t : List ℕ). of_files.bytes s.told file ++ t) (none s.told) ∙ append-nil (of_files.bytes s.told file)

    sights : (b : List ℕ) → WasSeen of_files (of_files.bytes s.told) after file b → Grows (of_files.bytes s.told file) b
    sights b w =
        let is : b ≡ of_files.bytes w.archive file =
        w.is ∙ ap (λ (t : List ℕ). of_files.bytes w.archive file ++ t) (none w.archive) ∙ append-nil (of_files.bytes w.archive file) in
        rw is (w.between.grew file)

-- Blocks that stand at their places in block files: as these grow, and as they are found.
use Rattle.std.proofs.Common.{◌≡◌, ℕ, zero, suc, ◌+◌, ◌-◌, ◌<◌, ◌≤◌, Bool, true, false, if◌then◌else◌, List, [], ◌∷◌, ◌++◌, length, take, drop, Option, None, Some, refl, sym, ap, ◌∙◌, subst, arith, length-drop, length-take, append-nil, append_assoc, length-append}
use Rattle.std.proofs.lemmas.List.{drop-drop, drop-take, drop-append-le, take-take, take_at, length-take-le}
use Rattle.std.proofs.lemmas.Bool.{leb-true}
use Rattle.std.specs.Prelude.{replicate, option_map, option_to_list, nat_le}
use Rattle.std.specs.List.{AllByRecursion}
use Rattle.el_base.specs.Left.{AreBytes}
use Rattle.el_base.proofs.ByteLemmas.{front_bytes, bytes_after}
use Rattle.el_base.proofs.Lists.{all_append, all_weaker}
use Rattle.el_outside.specs.Files.{Grows, AllGrow}
use Rattle.el_outside.specs.Seen.{seen, IsBetween, WasSeen}
use Rattle.el_outside.specs.declared.archive.Archive as block_files
use Rattle.el_outside.proofs.Traces.{grows_more, all_grow_none, all_grow_more}
use Rattle.el_chain.specs.declared.node.Node.{Node}
use Rattle.el_chain.specs.Records.{node_of, node_at, records, records_from, bytes_after as left_after, block_at, IsBlockOf, IsRecordIn}
use Rattle.el_tx.specs.Headers.{header_of, header_encoding}
use Rattle.el_tx.specs.declared.types.Header.{Header}
use Rattle.el_block.proofs.BlockOrFault.{header_encoded}
use Rattle.el_chain.proofs.RecordBytes.{record_block, size_here, node_here, size_of, size_bounds, header_in_front}
use Rattle.el_files.specs.declared.limits.TheConstants.{HEAD_SIZE}
use Rattle.el_files.specs.Scanning.{AllScanned, ScannedTo, begins, goes, WasScanned, LookedUp, HasHead, looked_up, up_to, nodes_of_files}
use Rattle.el_files.proofs.Scans.{scanned_records, length_up_to}
use Rattle.el_files.proofs.Standing.{records_stand}
use Rattle.el_files.proofs.Walks.{node_in_piece}
use Rattle.el_methods.specs.Archives.{WasWritten}
use Rattle.el_methods.proofs.Places.{part_stays}
use Rattle.el_undisturbed.specs.HasAll.{HasBlockOf}
use Rattle.el_undisturbed.specs.WholeRecords.{HoldBytesAlone, NoneHalfWritten, ShowWholeRecords}

-- ---- as files grow

-- bytes that stand at a node's place stay there
pub block_same : (n : Node) (old new : List ℕ) → Grows old new → IsBlockOf n (block_at n.place old) → IsBlockOf n (block_at n.place new)
block_same n old new grown has =
    let same : block_at n.place new ≡ block_at n.place old = part_stays _ _ old new (block_at n.place old) grown has.size refl in
    subst (IsBlockOf n) (sym same) has

pub block_kept : (old new : ℕ → List ℕ) (n : Node) → AllGrow old new → HasBlockOf old n → HasBlockOf new n
block_kept old new n grown has = block_same n (old n.place.file) (new n.place.file) (grown n.place.file) has

pub blocks_kept : (old new : ℕ → List ℕ) (ns : List Node) → AllGrow old new → AllByRecursion (HasBlockOf old) ns → AllByRecursion (HasBlockOf new) ns
blocks_kept old new ns grown has = all_weaker (HasBlockOf old) (HasBlockOf new) ns (λ n one. block_kept old new n grown one) has

-- ---- as they are found

-- where a node stands, and its header
placed : (file place : ℕ) (header : List ℕ) (r : Option ℕ) (n : Node) → option_map (λ size. node_of file place size header) r ≡ Some n
    → (n.place.file ≡ file) × (n.place.offset ≡ place) × (n.header ≡ header_of header)
placed file place header None n e = absurd cc
placed file place header (Some size) n e =
    let is : node_of file place size header ≡ n = cc in
    (sym (ap (λ (m : Node). m.place.file) is), sym (ap (λ (m : Node). m.place.offset) is), sym (ap (λ (m : Node). m.header) is))

-- one whose record stands in a file
pub record_has : (magic bytes : List ℕ) (file : ℕ) (files : ℕ → List ℕ) (n : Node) → AreBytes bytes → Grows bytes (files file)
    → IsRecordIn magic file bytes n → HasBlockOf files n
record_has magic bytes file files n fits grown r =
    let at = placed file n.place.offset (drop 8 (drop n.place.offset bytes)) _ n r.stands in
    let has : IsBlockOf n (block_at n.place bytes) =
    record_block magic bytes (block_at n.place bytes) file n r refl (front_bytes n.place.len _ (bytes_after (n.place.offset + 8) bytes fits)) in
    subst (λ (f : ℕ). IsBlockOf n (block_at n.place (files f))) (sym at.0) (block_same n bytes (files file) grown has)

-- one whose head was read, in a file that has the whole block now
head_stands : (magic read : List ℕ) (file at left : ℕ) (now : List ℕ) (n : Node) → AreBytes read → Grows read now → at + HEAD_SIZE ≤ length read
    → node_at magic file at (drop at read) left ≡ Some n → at + 8 + n.place.len ≤ length now → (n.place.file ≡ file) × IsBlockOf n (block_at n.place now)
head_stands magic read file at left now n fits grown long is written =
    let p = placed file at (drop 8 (drop at read)) _ n is in
    let size = size_of file at (drop 8 (drop at read)) _ n is in
    let least : 81 ≤ n.place.len = (size_bounds magic (drop at read) left n.place.len size).0 in
    let rest = length-drop (at + 8) now in
    let enough : n.place.len ≤ length (drop (at + 8) now) = omega (arith, written, rest) in
    let body = take n.place.len (drop (at + 8) now) in
    let front = take 80 (drop (at + 8) read) in
    let left_read = length-drop (at + 8) read in
    let eighty : length front ≡ 80 = length-take-le 80 (drop (at + 8) read) (omega (arith, long, left_read)) in
    let head : take 80 body ≡ front = take-take 80 n.place.len (drop (at + 8) now) (omega (arith, least))
    ∙ part_stays 80 (at + 8) read now front grown eighty refl in
    let header : n.header ≡ header_of front = p.2 ∙ ap header_of (drop-drop 8 at read) ∙ sym (header_in_front (drop (at + 8) read)) in
    let encoded : header_encoding n.header ≡ front = ap header_encoding header ∙ header_encoded front eighty (front_bytes 80 _ (bytes_after (at + 8) read fits)) in
    let here : block_at n.place now ≡ body = ap (λ (o : ℕ). take n.place.len (drop (o + 8) now)) p.1 in
    (p.0, rw here (record { size = length-take-le n.place.len (drop (at + 8) now) enough; header = head ∙ sym encoded }))

-- in a file that had it when its size was told
head_has : (magic sized read : List ℕ) (file at : ℕ) (files : ℕ → List ℕ) (n : Node) → AreBytes read → Grows sized (files file) → Grows read (files file)
    → looked_up magic file at read (length sized) ≡ Some n → HasBlockOf files n
head_has magic sized read file at files n fits grown_sized grown_read is = by (nat_le (at + HEAD_SIZE) (length read)) refl is
  where
    by : (b : Bool) → nat_le (at + HEAD_SIZE) (length read) ≡ b → (if b then node_at magic file at (drop at read) (length sized - at) else None) ≡ Some n
        → HasBlockOf files n
    by false e f = absurd cc
    by true e f =
        let size = size_of file at (drop 8 (drop at read)) _ n f in
        let bounds = size_bounds magic (drop at read) (length sized - at) n.place.len size in
        let within : 8 + n.place.len ≤ length sized - at = bounds.2 in
        let longer : length (files file) ≡ length sized + length grown_sized.0 = ap length grown_sized.1 ∙ length-append sized grown_sized.0 in
        let there = head_stands magic read file at (length sized - at) (files file) n fits grown_read (leb-true _ _ e) f (omega (arith, within, longer)) in
        subst (λ (k : ℕ). IsBlockOf n (block_at n.place (files k))) (sym there.0) there.1

-- in a file whose first bytes were written, and have the whole record, whatever stood after them
written_has : (magic written rest : List ℕ) (file left : ℕ) (files : ℕ → List ℕ) (n : Node) → AreBytes written → Grows written (files file)
    → node_at magic file n.place.offset (drop n.place.offset (written ++ rest)) left ≡ Some n → n.place.offset + 8 + n.place.len ≤ length written
    → HasBlockOf files n
written_has magic written rest file left files n fits grown is whole =
    let at = n.place.offset in
    let size = size_of file at (drop 8 (drop at (written ++ rest))) _ n is in
    let least : 81 ≤ n.place.len = (size_bounds magic (drop at (written ++ rest)) left n.place.len size).0 in
    let split : drop at (written ++ rest) ≡ drop at written ++ rest = drop-append-le at written rest (omega (arith, whole)) in
    let part = length-drop at written in
    let piece = sym (take_at (drop at written) rest (length (drop at written)) refl) in
    let here : node_at magic file at (drop at written) left ≡ Some n =
    node_in_piece magic file at left (drop at written) (drop at written ++ rest) (omega (arith, least, whole, part)) piece
    ∙ ap (λ (t : List ℕ). node_at magic file at t left) (sym split) ∙ is in
    let longer : length (files file) ≡ length written + length grown.0 = ap length grown.1 ∙ length-append written grown.0 in
    let there = head_stands magic written file at left (files file) n fits grown (omega (arith, least, whole)) here (omega (arith, whole, longer)) in
    subst (λ (k : ℕ). IsBlockOf n (block_at n.place (files k))) (sym there.0) there.1

-- a block that stands whole was written
some_header : (h : Header) → 1 ≤ length (header_encoding h)
some_header h = simp length-append (omega arith)

has_written : (files : ℕ → List ℕ) (n : Node) → HasBlockOf files n → WasWritten files n
has_written files n has =
    let at = n.place.offset + 8 in
    let bytes = files n.place.file in
    let body = take n.place.len (drop at bytes) in
    let size : length body ≡ n.place.len = has.size in
    let front : length (take 80 body) ≡ length (header_encoding n.header) = ap length has.header in
    let some = some_header n.header in
    let cut = length-take n.place.len (drop at bytes) in
    let cut_front = length-take 80 body in
    let left = length-drop at bytes in
    omega (arith, size, front, some, cut, cut_front, left)

pub all_written : (files : ℕ → List ℕ) (nodes : List Node) → AllByRecursion (HasBlockOf files) nodes → AllByRecursion (WasWritten files) nodes
all_written files nodes have = all_weaker (HasBlockOf files) (WasWritten files) nodes (has_written files) have

-- ---- as a scan finds them

drop_next : (place : ℕ) (bytes rest : List ℕ) (b : ℕ) → b ∷ rest ≡ drop place bytes → rest ≡ drop (place + 1) bytes
drop_next place bytes rest b e = ap (drop 1) e ∙ drop-drop 1 place bytes

stands_here : (magic bytes front : List ℕ) (file place : ℕ) (found : Option Node) → front ≡ drop place bytes → node_here magic file place front ≡ found
    → AllByRecursion (IsRecordIn magic file bytes) (option_to_list found)
stands_here magic bytes front file place None e is = tt
stands_here magic bytes front file place (Some n) e is =
    let same : n.place.offset ≡ place = (placed file place (drop 8 front) (size_here magic front) n is).1 in
    let there : drop n.place.offset bytes ≡ front = ap (λ (p : ℕ). drop p bytes) same ∙ sym e in
    (record { stands = ap (λ (p : ℕ). node_here magic file p (drop n.place.offset bytes)) same ∙ ap (node_here magic file place) there ∙ is }, tt)

-- the records of a file from a place on stand there
stand_from : (magic bytes : List ℕ) (file place passed : ℕ) (rest : List ℕ) → rest ≡ drop place bytes
    → AllByRecursion (IsRecordIn magic file bytes) (records_from magic file place passed rest)
stand_from magic bytes file place passed [] e = tt
stand_from magic bytes file place (suc passed) (b ∷ rest) e = stand_from magic bytes file (place + 1) passed rest (drop_next place bytes rest b e)
stand_from magic bytes file place zero (b ∷ rest) e =
    all_append (IsRecordIn magic file bytes) (option_to_list (node_here magic file place (b ∷ rest)))
    (records_from magic file (place + 1) (left_after (size_here magic (b ∷ rest))) rest)
    (stands_here magic bytes (b ∷ rest) file place (node_here magic file place (b ∷ rest)) e refl)
    (stand_from magic bytes file (place + 1) (left_after (size_here magic (b ∷ rest))) rest (drop_next place bytes rest b e))

all_first : {X : Type 0} (P : X → Type 0) (xs ys : List X) → AllByRecursion P (xs ++ ys) → AllByRecursion P xs
all_first P [] ys all = tt
all_first P (x ∷ xs) ys all = (all.0, all_first P xs ys all.1)

-- it is a record of the file as it was seen at some moment, up to the size that was told
record WasShown (was_seen : List ℕ → Type 0) (magic : List ℕ) (file size : ℕ) (n : Node) : Type 0 where
  bytes : List ℕ
  sight : was_seen bytes
  stands : IsRecordIn magic file (up_to size bytes) n

all_shown : (P : List ℕ → Type 0) (magic : List ℕ) (file size : ℕ) {place : ℕ} {nodes : List Node} → ScannedTo P magic file size place nodes
    → AllByRecursion (WasShown P magic file size) nodes
all_shown P magic file size begins = tt
all_shown P magic file size (goes from next front more b before sight are) =
    let u = up_to size b in
    let all : AllByRecursion (IsRecordIn magic file u) (more ++ records_from magic file next 0 (drop next u)) =
    rw (← are) (stand_from magic u file from 0 (drop from u) refl) in
    all_append (WasShown P magic file size) front more (all_shown P magic file size before)
    (all_weaker (IsRecordIn magic file u) (WasShown P magic file size) more (λ n r. record { bytes = b; sight = sight; stands = r })
    (all_first (IsRecordIn magic file u) more _ all))

-- its head stands in the file with zeros after it
shown_head : (magic : List ℕ) (file size : ℕ) (b : List ℕ) (n : Node) → IsRecordIn magic file (up_to size b) n
    → (left : ℕ) × (node_at magic file n.place.offset (drop n.place.offset (b ++ replicate size 0)) left ≡ Some n)
    × (n.place.offset + HEAD_SIZE ≤ length (b ++ replicate size 0))
shown_head magic file size b n r =
    let at = n.place.offset in
    let u = up_to size b in
    let whole = b ++ replicate size 0 in
    let left = length (drop at u) in
    let sized = size_of file at (drop 8 (drop at u)) (size_here magic (drop at u)) n r.stands in
    let bounds = size_bounds magic (drop at u) left n.place.len sized in
    let least : 81 ≤ n.place.len = bounds.0 in
    let room : 8 + n.place.len ≤ left = bounds.2 in
    let total = length_up_to size b in
    let cut = length-drop at u in
    let from : size ≡ at + (size - at) = omega (arith, least, room, total, cut) in
    let rest : size - at ≡ left = omega (arith, total, cut) in
    let piece : drop at u ≡ take left (drop at whole) =
    ap (λ (k : ℕ). drop at (take k whole)) from ∙ drop-take at (size - at) whole ∙ ap (λ (k : ℕ). take k (drop at whole)) rest in
    let fits = length-take left (drop at whole) in
    let some : left ≡ length (take left (drop at whole)) = ap length piece in
    let all = length-drop at whole in (
      left,
      sym (node_in_piece magic file at left (drop at u) (drop at whole) (omega (arith, least, room)) piece) ∙ r.stands,
      omega (arith, least, room, fits, some, all),
    )

module _ {A : Type 0} (of_files : block_files.Ghosts A) (alone : HoldBytesAlone of_files) where
  -- what is seen of a file is what the node wrote
  pub seen_written : (archive : A) (file : ℕ) → seen of_files archive file ≡ of_files.bytes archive file
  seen_written archive file = ap (λ (t : List ℕ). of_files.bytes archive file ++ t) (alone.no_padding archive file) ∙ append-nil (of_files.bytes archive file)

  -- a scan of one file
  pub file_scanned : (before after : ℕ → List ℕ) (magic : List ℕ) (file : ℕ) (nodes : List Node) → WasScanned of_files before after magic file nodes
      → AllByRecursion (HasBlockOf after) nodes
  file_scanned before after magic file nodes s =
      let bytes = of_files.bytes s.told file in
      let are : nodes ≡ records magic file bytes =
      scanned_records (WasSeen of_files (of_files.bytes s.told) after file) magic file bytes nodes sights (rw (ap length (seen_written s.told file)) at s.scanned) in
      rw are (all_weaker (IsRecordIn magic file bytes) (HasBlockOf after) (records magic file bytes)
      (λ n r. record_has magic bytes file after n (alone.are_bytes s.told file) (s.between.grows file) r) (records_stand magic bytes file))
    where
      sights : (b : List ℕ) → WasSeen of_files (of_files.bytes s.told) after file b → Grows (of_files.bytes s.told file) b
      sights b w =
          let is : b ≡ of_files.bytes w.archive file = w.is ∙ seen_written w.archive file in
          rw is (w.between.grew file)

  looked_has : (before after : ℕ → List ℕ) (magic : List ℕ) (file at : ℕ) (n : Node) → LookedUp of_files before after magic file at (Some n)
      → HasBlockOf after n
  looked_has before after magic file at n l =
      let sized = l.was_sized.is ∙ seen_written l.was_sized.archive file in
      let read = l.was_read.is ∙ seen_written l.was_read.archive file in
      head_has magic l.sized l.read file at after n (rw read (alone.are_bytes l.was_read.archive file)) (rw sized (l.was_sized.between.grows file))
      (rw read (l.was_read.between.grows file)) (sym l.is)

  pub alone_shows : (magic : List ℕ) (start end : ℕ → List ℕ) → ShowWholeRecords of_files magic start end
  alone_shows magic start end = record {
    scanned = λ before after file nodes grew grows s. file_scanned before after magic file nodes s;
    looked = λ before after file at n grew grows l. looked_has before after magic file at n l;
  }

-- ---- where none is half written

module _ {A : Type 0} (of_files : block_files.Ghosts A) (magic : List ℕ) (start end : ℕ → List ℕ) (none : NoneHalfWritten of_files magic start end) where
  -- what is seen of a file, and then zeros
  longer : (archive : A) (file zeros : ℕ)
      → seen of_files archive file ++ replicate zeros 0 ≡ of_files.bytes archive file ++ (of_files.padding archive file ++ replicate zeros 0)
  longer archive file zeros = append_assoc (of_files.bytes archive file) (of_files.padding archive file) (replicate zeros 0)

  shown_has : (archive : A) (after : ℕ → List ℕ) (file zeros left : ℕ) (n : Node) → IsBetween of_files start archive end → AllGrow (of_files.bytes archive) after
      → node_at magic file n.place.offset (drop n.place.offset (seen of_files archive file ++ replicate zeros 0)) left ≡ Some n
      → n.place.offset + HEAD_SIZE ≤ length (seen of_files archive file ++ replicate zeros 0) → HasBlockOf after n
  shown_has archive after file zeros left n between grows is long =
      let p = placed file n.place.offset (drop 8 (drop n.place.offset (seen of_files archive file ++ replicate zeros 0))) _ n is in
      let from : 0 + n.place.offset ≡ n.place.offset = omega arith in
      let head : HasHead magic file 0 (seen of_files archive file ++ replicate zeros 0) n =
      record { from = n.place.offset; left = left; whole = long; tells = rw from is } in
      let whole = none.whole archive file zeros n between head in
      written_has magic (of_files.bytes archive file) (of_files.padding archive file ++ replicate zeros 0) file left after n
      (none.are_bytes archive file between) (grows file) (rw (longer archive file zeros) at is) (rw p.0 at whole)

  -- the same of bytes that are these
  bytes_have : (archive : A) (after : ℕ → List ℕ) (file zeros left : ℕ) (n : Node) (bytes : List ℕ) → bytes ≡ seen of_files archive file ++ replicate zeros 0
      → IsBetween of_files start archive end → AllGrow (of_files.bytes archive) after → node_at magic file n.place.offset (drop n.place.offset bytes) left ≡ Some n
      → n.place.offset + HEAD_SIZE ≤ length bytes → HasBlockOf after n
  bytes_have archive after file zeros left n bytes same between grows is long = shown_has archive after file zeros left n between grows (rw same at is) (rw same at long)

  pub none_half_shows : ShowWholeRecords of_files magic start end
  none_half_shows = record { scanned = scanned; looked = looked }
    where
      scanned : (before after : ℕ → List ℕ) (file : ℕ) (nodes : List Node) → AllGrow start before → AllGrow after end
          → WasScanned of_files before after magic file nodes → AllByRecursion (HasBlockOf after) nodes
      scanned before after file nodes grew grows s =
          let size = length (seen of_files s.told file) in
          let P = WasSeen of_files (of_files.bytes s.told) after file in
          all_weaker (WasShown P magic file size) (HasBlockOf after) nodes one (all_shown P magic file size s.scanned.scanned)
        where
          one : (n : Node) → WasShown (WasSeen of_files (of_files.bytes s.told) after file) magic file (length (seen of_files s.told file)) n → HasBlockOf after n
          one n w =
              let size = length (seen of_files s.told file) in
              let X = w.sight.archive in
              let head = shown_head magic file size w.bytes n w.stands in
              let from_start = all_grow_more start before (of_files.bytes X) grew (all_grow_more before (of_files.bytes s.told) (of_files.bytes X) s.between.grew w.sight.between.grew) in
              let between : IsBetween of_files start X end = record { grew = from_start; grows = all_grow_more (of_files.bytes X) after end w.sight.between.grows grows } in
              bytes_have X after file size head.0 n (w.bytes ++ replicate size 0) (ap (λ (t : List ℕ). t ++ replicate size 0) w.sight.is) between
              w.sight.between.grows head.1 head.2

      looked : (before after : ℕ → List ℕ) (file at : ℕ) (n : Node) → AllGrow start before → AllGrow after end
          → LookedUp of_files before after magic file at (Some n) → HasBlockOf after n
      looked before after file at n grew grows l = by (nat_le (at + HEAD_SIZE) (length l.read)) refl (sym l.is)
        where
          X : A
          X = l.was_read.archive

          bare : l.read ≡ seen of_files X file ++ replicate 0 0
          bare = l.was_read.is ∙ sym (append-nil (seen of_files X file))

          by : (b : Bool) → nat_le (at + HEAD_SIZE) (length l.read) ≡ b
              → (if b then node_at magic file at (drop at l.read) (length l.sized - at) else None) ≡ Some n → HasBlockOf after n
          by false e f = absurd cc
          by true e f =
              let here : n.place.offset ≡ at = (placed file at (drop 8 (drop at l.read)) _ n f).1 in
              let between : IsBetween of_files start X end = record {
                grew = all_grow_more start before (of_files.bytes X) grew l.was_read.between.grew;
                grows = all_grow_more (of_files.bytes X) after end l.was_read.between.grows grows;
              } in
              let long : at + HEAD_SIZE ≤ length l.read = leb-true _ _ e in
              let is : node_at magic file n.place.offset (drop n.place.offset l.read) (length l.sized - at) ≡ Some n =
              ap (λ (p : ℕ). node_at magic file p (drop p l.read) (length l.sized - at)) here ∙ f in
              let there : n.place.offset + HEAD_SIZE ≤ length l.read = omega (arith, here, long) in
              bytes_have X after file 0 (length l.sized - at) n l.read bare between l.was_read.between.grows is there

-- ---- what was written before a scan, whatever the node does meanwhile

module _ {A : Type 0} (of_files : block_files.Ghosts A) (before after : ℕ → List ℕ) (magic : List ℕ) (fits : (file : ℕ) → AreBytes (before file)) where
  -- it stands after the scan
  abbrev StandsIfWritten : Node → Type 0
  StandsIfWritten n = WasWritten before n → HasBlockOf after n

  scanned_before : (file : ℕ) (nodes : List Node) → WasScanned of_files before after magic file nodes → AllByRecursion StandsIfWritten nodes
  scanned_before file nodes s =
      all_weaker (WasShown (WasSeen of_files (of_files.bytes s.told) after file) magic file (length (seen of_files s.told file))) StandsIfWritten nodes one
      (all_shown (WasSeen of_files (of_files.bytes s.told) after file) magic file (length (seen of_files s.told file)) s.scanned.scanned)
    where
      one : (n : Node) → WasShown (WasSeen of_files (of_files.bytes s.told) after file) magic file (length (seen of_files s.told file)) n → StandsIfWritten n
      one n w whole =
          let size = length (seen of_files s.told file) in
          let X = w.sight.archive in
          let head = shown_head magic file size w.bytes n w.stands in
          let p = placed file n.place.offset (drop 8 (drop n.place.offset (w.bytes ++ replicate size 0))) _ n head.1 in
          let grown = grows_more (before file) (of_files.bytes s.told file) (of_files.bytes X file) (s.between.grew file) (w.sight.between.grew file) in
          let rest = grown.0 ++ (of_files.padding X file ++ replicate size 0) in
          let split : w.bytes ++ replicate size 0 ≡ before file ++ rest =
          ap (λ (t : List ℕ). t ++ replicate size 0) (w.sight.is ∙ ap (λ (t : List ℕ). t ++ of_files.padding X file) grown.1)
          ∙ append_assoc (before file ++ grown.0) (of_files.padding X file) (replicate size 0)
          ∙ append_assoc (before file) grown.0 (of_files.padding X file ++ replicate size 0) in
          written_has magic (before file) rest file head.0 after n (fits file) (grows_more (before file) (of_files.bytes X file) (after file) grown (w.sight.between.grows file))
          (rw split at head.1) (rw p.0 at whole)

-- ---- scans of all files

files_of : {A : Type 0} (of_files : block_files.Ghosts A) (before after : ℕ → List ℕ) (magic : List ℕ) (P : Node → Type 0)
    → ((file : ℕ) (nodes : List Node) → WasScanned of_files before after magic file nodes → AllByRecursion P nodes) → (count : ℕ) (of : ℕ → List Node)
    → ((file : ℕ) → file < count → WasScanned of_files before after magic file (of file)) → AllByRecursion P (nodes_of_files count of)
files_of of_files before after magic P one zero of each = tt
files_of of_files before after magic P one (suc count) of each =
    all_append P (nodes_of_files count of) (of count)
    (files_of of_files before after magic P one count of (λ file lt. each file (omega (arith, lt))))
    (one count (of count) (each count (omega arith)))

pub all_scanned : {A : Type 0} (of_files : block_files.Ghosts A) (before after : ℕ → List ℕ) (magic : List ℕ) (nodes : List Node)
    → ShowWholeRecords of_files magic before after → AllScanned of_files before after magic nodes → AllByRecursion (HasBlockOf after) nodes
all_scanned of_files before after magic nodes shows s =
    let told = of_files.bytes s.files.told in
    rw s.files.are (files_of of_files told after magic (HasBlockOf after)
    (λ file found w. shows.scanned told after file found s.files.between.grew (all_grow_none after) w) s.count s.files.of s.files.each)

pub all_before : {A : Type 0} (of_files : block_files.Ghosts A) (before after : ℕ → List ℕ) (magic : List ℕ) (nodes : List Node)
    → ((file : ℕ) → AreBytes (before file)) → AllScanned of_files before after magic nodes → AllByRecursion (λ n. WasWritten before n → HasBlockOf after n) nodes
all_before of_files before after magic nodes fits s =
    let told = of_files.bytes s.files.told in
    rw s.files.are (files_of of_files told after magic (λ n. WasWritten before n → HasBlockOf after n)
    (λ file found w. scanned_before of_files before after magic fits file found (earlier file found w)) s.count s.files.of s.files.each)
  where
    earlier : (file : ℕ) (found : List Node) → WasScanned of_files (of_files.bytes s.files.told) after magic file found → WasScanned of_files before after magic file found
    earlier file found w = record {
      told = w.told;
      between = record {
        grew = all_grow_more before (of_files.bytes s.files.told) (of_files.bytes w.told) s.files.between.grew w.between.grew;
        grows = w.between.grows;
      };
      scanned = w.scanned;
    }

-- ---- a shorter time

pub shows_within : {A : Type 0} (of_files : block_files.Ghosts A) (magic : List ℕ) (start end from to : ℕ → List ℕ) → AllGrow start from → AllGrow to end
    → ShowWholeRecords of_files magic start end → ShowWholeRecords of_files magic from to
shows_within of_files magic start end from to later sooner shows = record {
  scanned = λ before after file nodes grew grows s.
      shows.scanned before after file nodes (all_grow_more start from before later grew) (all_grow_more after to end grows sooner) s;
  looked = λ before after file at n grew grows l.
      shows.looked before after file at n (all_grow_more start from before later grew) (all_grow_more after to end grows sooner) l;
}

-- What a scan of the block files finds.
use Rattle.std.specs.Prelude.{◌≡◌, ◌⊎◌, ℕ, zero, suc, ◌+◌, ◌-◌, ◌/◌, ◌<◌, ◌≤◌, nat_le, if◌then◌else◌, List, [], ◌++◌, length, take, drop, replicate, Option, None, Some}
use Rattle.el_outside.specs.Files.{AllGrow}
use Rattle.el_outside.specs.Seen.{seen, IsBetween, WasSeen}
use Rattle.el_outside.specs.declared.archive.Archive as block_files
use Rattle.el_outside.specs.declared.archive.TheConstants.{SIZE_LIMIT}
pub use Rattle.el_chain.specs.Records.{IsRecordIn}
use Rattle.el_chain.specs.Records.{IsNode, record_size, node_at, records_from}
use Rattle.el_block.specs.declared.limits.TheConstants.{MAX_BLOCK_WEIGHT}
use Rattle.el_chain.specs.declared.limits.TheConstants.{MIN_BLOCK_SIZE}
use Rattle.el_chain.specs.declared.node.Node.{Node}
use Rattle.el_files.specs.declared.limits.TheConstants.{HEAD_SIZE, MIN_RECORD_SIZE, PIECE_SIZE}
use Rattle.el_chain.specs.declared.limits.TheConstants.{PREFIX_SIZE}

-- A block that was found in the block files. Its record ends where a file can.
pub record IsFoundBlock (n : Node) : Type 0 where
  pub node : IsNode n
  pub least : MIN_BLOCK_SIZE ≤ n.place.len
  pub most : n.place.len ≤ MAX_BLOCK_WEIGHT
  pub within : n.place.offset + (PREFIX_SIZE + n.place.len) < SIZE_LIMIT

-- The head of the node's record, which is magic, size and header, stands in these bytes, which begin at the
-- place of the file with that number. The file has `left` bytes from the record's place on.
pub record HasHead (magic : List ℕ) (number place : ℕ) (bytes : List ℕ) (n : Node) : Type 0 where
  pub from : ℕ
  pub left : ℕ
  pub whole : from + HEAD_SIZE ≤ length bytes
  pub tells : node_at magic number (place + from) (drop from bytes) left ≡ Some n

-- one read of the file with this number gave bytes that have the head of the node's record
pub record WasHeadRead (gave : ℕ → ℕ → List ℕ → Type 0) (magic : List ℕ) (number : ℕ)
    (n : Node) : Type 0 where
  pub place : ℕ
  pub bytes : List ℕ
  pub given : gave number place bytes
  pub head : HasHead magic number place bytes n

-- it was found in this file
pub record IsFoundIn (gave : ℕ → ℕ → List ℕ → Type 0) (magic : List ℕ) (number : ℕ) (n : Node) : Type 0 where
  pub found : IsFoundBlock n
  pub file : n.place.file ≡ number
  pub read : WasHeadRead gave magic number n

-- its record stands at this place of this file
pub record IsFoundAt (gave : ℕ → ℕ → List ℕ → Type 0) (magic : List ℕ) (number at : ℕ) (n : Node)
    : Type 0 where
  pub found : IsFoundIn gave magic number n
  pub offset : n.place.offset ≡ at

-- it was found in one of the files that there can be
pub record IsFoundBelow (gave : ℕ → ℕ → List ℕ → Type 0) (magic : List ℕ) (count : ℕ) (n : Node)
    : Type 0 where
  pub found : IsFoundIn gave magic n.place.file n
  pub file : n.place.file < count

-- Whole records, one after the other: the bytes of each are as many as its size says.
pub data AreWholeRecords (magic : List ℕ) : List ℕ → Type 0 where
  none : AreWholeRecords magic []
  more : (bytes rest : List ℕ) (size : ℕ) → record_size magic bytes (length bytes) ≡ Some size
      → length bytes ≡ 8 + size → AreWholeRecords magic rest → AreWholeRecords magic (bytes ++ rest)

-- The record at a place of a file, which had these bytes as its head was read, and this size as that was
-- told. None where no head was read.
abbrev pub looked_up : List ℕ → ℕ → ℕ → List ℕ → ℕ → Option Node
looked_up magic file at bytes size =
    if nat_le (at + HEAD_SIZE) (length bytes) then node_at magic file at (drop at bytes) (size - at) else None

-- A look at a place of a file found this, between these two moments.
pub record LookedUp {A : Type 0} (of_files : block_files.Ghosts A) (before after : ℕ → List ℕ)
    (magic : List ℕ) (file at : ℕ) (found : Option Node) : Type 0 where
  pub sized : List ℕ
  pub was_sized : WasSeen of_files before after file sized
  pub read : List ℕ
  pub was_read : WasSeen of_files before after file read
  pub is : found ≡ looked_up magic file at read (length sized)

-- the bytes of a file up to the size that was told; zeros stand for those that it had no longer
abbrev pub up_to : ℕ → List ℕ → List ℕ
up_to size bytes = take size (bytes ++ replicate size 0)

-- The records of a file before a place, whose size was told before: up to some place they are those of the
-- file as it was seen at one moment, from there to the next place those of the file as it was seen at
-- another. So a file is scanned to which the node writes.
pub data ScannedTo (was_seen : List ℕ → Type 0) (magic : List ℕ) (file size : ℕ)
    : ℕ → List Node → Type 0 where
  begins : ScannedTo was_seen magic file size 0 []
  goes : (place next : ℕ) (nodes more : List Node) (bytes : List ℕ)
      → ScannedTo was_seen magic file size place nodes → was_seen bytes
      → records_from magic file place 0 (drop place (up_to size bytes))
      ≡ more ++ records_from magic file next 0 (drop next (up_to size bytes))
      → ScannedTo was_seen magic file size next (nodes ++ more)

-- All records of a file whose size was told: no head of another stands up to that size, or up to the end that
-- the file was seen to have then, where it had become shorter.
pub record Scanned (was_seen : List ℕ → Type 0) (magic : List ℕ) (file size : ℕ) (nodes : List Node)
    : Type 0 where
  pub place : ℕ
  pub scanned : ScannedTo was_seen magic file size place nodes
  pub ends : (size < place + MIN_RECORD_SIZE)
      ⊎ ((bytes : List ℕ) × was_seen bytes × (length bytes < place + HEAD_SIZE))

-- A scan of a file between these two moments found all its records. `told` is the archive as it told the
-- file's size.
pub record WasScanned {A : Type 0} (of_files : block_files.Ghosts A) (before after : ℕ → List ℕ)
    (magic : List ℕ) (file : ℕ) (nodes : List Node) : Type 0 where
  pub told : A
  pub between : IsBetween of_files before told after
  pub scanned : Scanned (WasSeen of_files (of_files.bytes told) after file) magic file
      (length (seen of_files told file)) nodes

-- one found those before some place
pub record WasScannedTo {A : Type 0} (of_files : block_files.Ghosts A) (before after : ℕ → List ℕ)
    (magic : List ℕ) (file : ℕ) (nodes : List Node) : Type 0 where
  pub told : A
  pub between : IsBetween of_files before told after
  pub place : ℕ
  pub scanned : ScannedTo (WasSeen of_files (of_files.bytes told) after file) magic file
      (length (seen of_files told file)) place nodes

-- the nodes of the files below a number, in the order of their numbers
abbrev pub nodes_of_files : ℕ → (ℕ → List Node) → List Node
nodes_of_files zero nodes = []
nodes_of_files (suc n) nodes = nodes_of_files n nodes ++ nodes n

-- A scan of the first files of an archive between these two moments found all their records. `told` is the
-- archive as it told the number of its files, after which none has bytes.
pub record FilesScanned {A : Type 0} (of_files : block_files.Ghosts A) (before after : ℕ → List ℕ)
    (magic : List ℕ) (count : ℕ) (nodes : List Node) : Type 0 where
  pub told : A
  pub between : IsBetween of_files before told after
  pub none_after : (file : ℕ) → of_files.file_count told ≤ file → of_files.bytes told file ≡ []
  pub few : count ≤ of_files.file_count told
  pub of : ℕ → List Node
  pub each : (file : ℕ) → file < count
      → WasScanned of_files (of_files.bytes told) after magic file (of file)
  pub are : nodes ≡ nodes_of_files count of

-- a scan of all files did
pub record AllScanned {A : Type 0} (of_files : block_files.Ghosts A) (before after : ℕ → List ℕ)
    (magic : List ℕ) (nodes : List Node) : Type 0 where
  pub count : ℕ
  pub files : FilesScanned of_files before after magic count nodes
  pub whole : count ≡ of_files.file_count files.told

-- one ended within a file
pub record SomeScanned {A : Type 0} (of_files : block_files.Ghosts A) (before after : ℕ → List ℕ)
    (magic : List ℕ) (nodes : List Node) : Type 0 where
  pub count : ℕ
  pub front : List Node
  pub files : FilesScanned of_files before after magic count front
  pub within : count < of_files.file_count files.told
  pub last : List Node
  pub part : WasScannedTo of_files before after magic count last
  pub are : nodes ≡ front ++ last

-- The most calls of a scan of a file of this size: its size is asked, and it is read in pieces, each of which
-- but the last goes on by all its bytes but those that are too few for a head.
abbrev pub calls_for : ℕ → ℕ
calls_for size = 2 + size / (PIECE_SIZE - HEAD_SIZE + 1)

-- those of a scan of the first n files of these sizes, whose number is asked
abbrev pub calls_for_files : ℕ → (ℕ → ℕ) → ℕ
calls_for_files zero sizes = 1
calls_for_files (suc n) sizes = calls_for_files n sizes + calls_for (sizes n)

-- A scan of all files of an archive that tells made these calls at most: each file had such a size at some
-- moment. `before` and `now` are the archive before the scan and after, and `told` as it told the number of
-- its files.
pub record ScansOnce {A : Type 0} (of_files : block_files.Ghosts A) (before now : A) : Type 0 where
  pub told : A
  pub between : IsBetween of_files (of_files.bytes before) told (of_files.bytes now)
  pub sizes : ℕ → ℕ
  pub each : (file : ℕ) → file < of_files.file_count told
      → (bytes : List ℕ) × WasSeen of_files (of_files.bytes before) (of_files.bytes now) file bytes
      × (sizes file ≡ length bytes)
  pub few : of_files.calls now ≤ of_files.calls before + calls_for_files (of_files.file_count told) sizes

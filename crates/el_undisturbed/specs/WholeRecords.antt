-- Block files in which what is found is whole, between two moments: the node had written `start` at the one,
-- and `end` at the other.
use Rattle.std.specs.Prelude.{◌≡◌, ℕ, List, [], ◌++◌, replicate, Some}
use Rattle.std.specs.List.{AllByRecursion}
use Rattle.el_base.specs.Left.{AreBytes}
use Rattle.el_outside.specs.Files.{AllGrow}
use Rattle.el_outside.specs.Seen.{seen, IsBetween}
use Rattle.el_outside.specs.declared.archive.Archive as block_files
use Rattle.el_chain.specs.declared.node.Node.{Node}
use Rattle.el_files.specs.Scanning.{HasHead, LookedUp, WasScanned}
use Rattle.el_methods.specs.Archives.{WasWritten}
use Rattle.el_undisturbed.specs.HasAll.{HasBlockOf}

-- The node has written the whole block of each record that a scan or a look finds, as the scan or the look
-- ends.
pub record ShowWholeRecords {A : Type 0} (of_files : block_files.Ghosts A) (magic : List ℕ)
    (start end : ℕ → List ℕ) : Type 0 where
  pub scanned : (before after : ℕ → List ℕ) (file : ℕ) (nodes : List Node) → AllGrow start before
      → AllGrow after end → WasScanned of_files before after magic file nodes
      → AllByRecursion (HasBlockOf after) nodes
  pub looked : (before after : ℕ → List ℕ) (file at : ℕ) (n : Node) → AllGrow start before
      → AllGrow after end → LookedUp of_files before after magic file at (Some n) → HasBlockOf after n

-- Block files of this kind hold bytes, and nothing beyond what the node wrote.
pub record HoldBytesAlone {A : Type 0} (of_files : block_files.Ghosts A) : Type 0 where
  pub are_bytes : (archive : A) (file : ℕ) → AreBytes (of_files.bytes archive file)
  pub no_padding : (archive : A) (file : ℕ) → of_files.padding archive file ≡ []

-- At no moment is a record half written: the head of one stands in a file, with zeros after what the file
-- has, only where the node has written the whole record. The padding may be any bytes.
pub record NoneHalfWritten {A : Type 0} (of_files : block_files.Ghosts A) (magic : List ℕ)
    (start end : ℕ → List ℕ) : Type 0 where
  pub are_bytes : (archive : A) (file : ℕ) → IsBetween of_files start archive end
      → AreBytes (of_files.bytes archive file)
  pub whole : (archive : A) (file zeros : ℕ) (n : Node) → IsBetween of_files start archive end
      → HasHead magic file 0 (seen of_files archive file ++ replicate zeros 0) n
      → WasWritten (of_files.bytes archive) n

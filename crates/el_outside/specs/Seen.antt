-- What was seen of block files that tell, at the moments of a call or of several.
use Rattle.std.specs.Prelude.{◌≡◌, ℕ, List, ◌++◌}
use Rattle.el_outside.specs.Files.{AllGrow}
use Rattle.el_outside.specs.declared.archive.Archive as block_files

-- what a read sees of each file, by its number: what the node has written, and then the padding
abbrev pub seen : {A : Type 0} → block_files.Ghosts A → A → ℕ → List ℕ
seen of_files archive file = of_files.bytes archive file ++ of_files.padding archive file

-- The archive was so at some moment: what the node had written `before` it had then, and it has `after` what
-- it had then.
pub record IsBetween {A : Type 0} (of_files : block_files.Ghosts A) (before : ℕ → List ℕ) (archive : A)
    (after : ℕ → List ℕ) : Type 0 where
  pub grew : AllGrow before (of_files.bytes archive)
  pub grows : AllGrow (of_files.bytes archive) after

-- At some moment a read would have seen these bytes in the file with that number.
pub record WasSeen {A : Type 0} (of_files : block_files.Ghosts A) (before after : ℕ → List ℕ) (file : ℕ)
    (bytes : List ℕ) : Type 0 where
  pub archive : A
  pub between : IsBetween of_files before archive after
  pub is : bytes ≡ seen of_files archive file

-- The paths of files in a relay's folder.
use Rattle.std.specs.Prelude.{ℕ, List, ◌++◌, codes}
use Rattle.el_base.specs.declared.hash.Hash32.{Hash32}
use Rattle.el_base.specs.Shown.{shown}

-- the path of a file in a folder that has the shown txid as name, and this end after it
abbrev pub in_folder : List ℕ → Hash32 → List ℕ → List ℕ
in_folder folder id end = folder ++ codes "/" ++ shown id.0 ++ end

-- the path of a transaction's file
abbrev pub tx_path : List ℕ → Hash32 → List ℕ
tx_path folder id = in_folder folder id (codes ".tx")

-- the path of the file while it is written
abbrev pub part_path : List ℕ → Hash32 → List ℕ
part_path folder id = in_folder folder id (codes ".tx.part")

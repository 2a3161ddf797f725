-- Rows while they are moved.
use Rattle.std.specs.Prelude.{◌≡◌, ◌<◌, ◌≤◌, ◌*◌, ℕ, List, [], length, map, take, get_or}
use Rattle.el_base.specs.declared.hash.Hash32.{Hash32}
use Rattle.el_outside.specs.Disk.{Image}
use Rattle.el_row_formats.specs.declared.table.Table.{Table}
use Rattle.el_row_formats.specs.declared.table.Table.TheVariants as table
use Rattle.el_row_formats.specs.RowBytes.{link_number}
use Rattle.el_row_formats.specs.Tables.{row_at, size_of}
use Rattle.el_row_formats.specs.OldRowBytes.{old_size_of}
use Rattle.el_tables.specs.ChainLists.{ListedBlock}
use Rattle.el_tables.specs.Lists.{ListedTx, Lists}
use Rattle.el_tables.specs.Tables.{HeadCounts, heads, in_both, tables_of}
use Rattle.el_redone.specs.declared.steps.TheConstants.{ROOT}
use Rattle.el_schema.specs.Rows.{bytes_of}
use Rattle.el_migrate.specs.OldRows.{old_bytes_of, FitOldFields}

-- the numbers are those of the heads of as many buckets, in which rows with these hashes are
abbrev pub AreHeads : List ℕ → List Hash32 → Type 0
AreHeads links hashes = links ≡ map link_number (heads (length links) (λ (h : Hash32). h) hashes)

-- a table whose rows are moved one by one: none of heads
abbrev pub IsMoved : Table → Type 0
IsMoved table.TxHeads = ⊥
IsMoved table.ScriptHeads = ⊥
IsMoved t = Unit {0}

-- the heads are those of so many rows of a table; tables without buckets have none
abbrev pub HeadsOf : Table → Lists → ℕ → List ℕ → Type 0
HeadsOf table.Txs l n links = AreHeads links (map (λ (t : ListedTx). t.txid) (take n l.txs))
HeadsOf table.Scripts l n links = AreHeads links (take n l.scripts)
HeadsOf t l n links = Unit {0}

-- Rows of format 1: those of blocks and lists, with so many heads, each number in its field.
pub record IsOldRow (counts : HeadCounts) (bs : List ListedBlock) (l : Lists) (t : Table) (n : ℕ)
    (bytes : List ℕ) : Type 0 where
  pub fit : FitOldFields (tables_of counts bs l)
  pub within : n < length (old_bytes_of (tables_of counts bs l) t)
  pub is : bytes ≡ get_or (old_bytes_of (tables_of counts bs l) t) n []

-- the rows of format 2 of the same blocks and lists, with so many buckets
abbrev pub new_rows : ℕ → List ListedBlock → Lists → Table → List (List ℕ)
new_rows buckets bs l t = bytes_of (tables_of (in_both buckets) bs l) t

-- so many rows stand in a file of format 2, and nothing else
pub record HasOnlyRows (t : Table) (file : List ℕ) (rows : List (List ℕ)) (n : ℕ) : Type 0 where
  pub long : length file ≡ n * size_of t
  pub each : (i : ℕ) → i < n → row_at (size_of t) file i ≡ get_or rows i []

-- Rows of format 1 in a file, from the first one on: those of blocks and lists.
pub record HasOldRows (counts : HeadCounts) (bs : List ListedBlock) (l : Lists) (t : Table) (n : ℕ)
    (file : List ℕ) : Type 0 where
  pub fit : FitOldFields (tables_of counts bs l)
  pub many : length (old_bytes_of (tables_of counts bs l) t) ≡ n
  pub each : (i : ℕ) → i < n
      → row_at (old_size_of t) file i ≡ get_or (old_bytes_of (tables_of counts bs l) t) i []

-- An image with the files of format 1 and the root as they are in these files.
pub record HasOldFiles (files image : Image) : Type 0 where
  pub same : (f : ℕ) → f ≤ 9 → image f ≡ files f
  pub root : image ROOT ≡ files ROOT

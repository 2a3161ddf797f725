-- The tables that a transaction shows, and what calls over one leave as it was.
use Rattle.std.specs.Prelude.{◌≡◌, ◌≤◌, ℕ, Result}
use Rattle.el_outside.specs.Counts.{CountsOnly}
use Rattle.el_outside.specs.Moments.{KeepsBelow}
use Rattle.el_outside.specs.declared.disk.DiskFailed.{DiskFailed}
use Rattle.el_rows.specs.declared.open.Open.{Open}
use Rattle.el_rows.specs.declared.rows.Rows as rows
use Rattle.el_rows.specs.declared.edits.Layer as layer
use Rattle.el_row_formats.specs.Tables.{Tables}
use Rattle.el_rows.specs.Changes.{Edited, under}
use Rattle.el_rows.specs.Reads.{OnlyRead}

-- the tables of the rows below, under the edits
abbrev pub with_edits : {R : Type 0} {G : rows.Ghosts R} {L : layer.Ghosts Edited} → Open R Edited G L
    → Tables
with_edits {R} {G} txn = under (G.lists txn.rows.now) txn.edits.counts txn.edits.changes

-- rows were read and nothing else, over all that the store's type tells
abbrev pub WasRead : {R : Type 0} → rows.Ghosts R → R → R → Type 0
WasRead G old new =
    OnlyRead G.lists G.counts G.heads G.is_live
    (KeepsBelow G.tells_crash G.moment G.left_since G.beside) old new

-- of the rows below, rows were read and nothing else
abbrev pub OnlyReadsRows : {R : Type 0} {G : rows.Ghosts R} {L : layer.Ghosts Edited}
    → Open R Edited G L → Open R Edited G L → Type 0
OnlyReadsRows {R} {G} old new = WasRead G old.rows.now new.rows.now

-- how many rows were read of the rows below
abbrev pub reads_in : {R : Type 0} {G : rows.Ghosts R} {L : layer.Ghosts Edited} → Open R Edited G L → ℕ
reads_in {R} {G} txn = G.reads txn.rows.now

-- the failure of a call whose only fault is that the device failed
abbrev pub disk_failed : DiskFailed
disk_failed = record {}

-- A call read rows and changed nothing: the tables are as they were and the borrow is the same; a failure of
-- the device is counted, and nothing else is.
pub record ReadsRows {R T E : Type 0} {G : rows.Ghosts R} {L : layer.Ghosts Edited} (failure : E)
    (old new : Open R Edited G L) (result : Result T E) : Type 0 where
  pub tables : with_edits new ≡ with_edits old
  pub only : OnlyReadsRows old new
  pub borrow : new.rows.ghost_name ≡ old.rows.ghost_name
  pub rose : reads_in old ≤ reads_in new
  pub cause : CountsOnly (G.faults old.rows.now) (G.faults new.rows.now) failure result

-- A call read rows and made edits, and wrote nothing to the rows below: as above, but for the tables.
pub record EditsRows {R T E : Type 0} {G : rows.Ghosts R} {L : layer.Ghosts Edited} (failure : E)
    (old new : Open R Edited G L) (result : Result T E) : Type 0 where
  pub only : OnlyReadsRows old new
  pub borrow : new.rows.ghost_name ≡ old.rows.ghost_name
  pub rose : reads_in old ≤ reads_in new
  pub cause : CountsOnly (G.faults old.rows.now) (G.faults new.rows.now) failure result

-- A call made edits alone: of the rows below nothing was read, and they are as they were.
pub record EditsAlone {R : Type 0} {G : rows.Ghosts R} {L : layer.Ghosts Edited}
    (old new : Open R Edited G L) : Type 0 where
  pub rows : new.rows.now ≡ old.rows.now
  pub borrow : new.rows.ghost_name ≡ old.rows.ghost_name

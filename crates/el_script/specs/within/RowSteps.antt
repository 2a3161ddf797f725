-- What the steps do to the rows of bytes of scripts and entries.
use Rattle.std.specs.Prelude.{◌≡◌, ◌<◌, ◌⊎◌, ◌+◌, ◌-◌, ◌++◌, ◌∷◌, [], ℕ, length, min, slice_set, Option, None, Some}
use Rattle.el_base.specs.declared.hash.Hash32.{Hash32}
use Rattle.el_chain.specs.declared.fault.ConnectFault.{ConnectFault}
use Rattle.el_chain.specs.declared.fault.ConnectFault.TheVariants as connect
use Rattle.el_tables.specs.Tables.{bucket_in}
use Rattle.el_buckets.specs.Faults.{NotAdded}
use Rattle.el_row_formats.specs.Tables.{Tables, limit_of}
use Rattle.el_row_formats.specs.RowBytes.{script_row_bytes, entry_row_bytes, link_bytes, FitsScriptRow, FitsEntryRow}
use Rattle.el_row_formats.specs.declared.limits.TheConstants.{MAX_NUMBER}
use Rattle.el_row_formats.specs.declared.script_row.ScriptRow.{ScriptRow}
use Rattle.el_row_formats.specs.declared.entry_row.EntryRow.{EntryRow}
use Rattle.el_row_formats.specs.declared.table.Table.{Table}
use Rattle.el_row_formats.specs.declared.table.Table.TheVariants as table

-- 1. Rows

-- the row of a new script, whose first entry has that number
abbrev pub first_row : Hash32 → Option ℕ → ℕ → ScriptRow
first_row s next at = record { script = s; next = next; last = Some at; entries = 1; balance = 0 }

-- the row with one entry more, of that number
abbrev pub entered_row : ℕ → ScriptRow → ScriptRow
entered_row at r = record {
  script = r.script;
  next = r.next;
  last = Some at;
  entries = min (r.entries + 1) MAX_NUMBER;
  balance = r.balance;
}

-- the row with one entry less, where the last is now this
abbrev pub left_row : ℕ → ScriptRow → ScriptRow
left_row before r = record {
  script = r.script;
  next = r.next;
  last = Some before;
  entries = r.entries - 1;
  balance = r.balance;
}

-- the row of a script's new entry, which links to the last one before it
abbrev pub new_entry : ℕ → ℕ → Option ℕ → EntryRow
new_entry tx script before = record { tx = tx; script = script; before = before }

-- 2. Tables

-- A script more, with its first entry, which is of that transaction.
pub record ScriptMore (s : Hash32) (next : Option ℕ) (tx : ℕ) (old new : Tables) : Type 0 where
  pub scripts : new table.Scripts
      ≡ old table.Scripts ++ script_row_bytes (first_row s next (length (old table.Entries))) ∷ []
  pub heads : new table.ScriptHeads
      ≡ slice_set (old table.ScriptHeads) (bucket_in (length (old table.ScriptHeads)) s)
      (link_bytes (Some (length (old table.Scripts))))
  pub entries : new table.Entries
      ≡ old table.Entries ++ entry_row_bytes (new_entry tx (length (old table.Scripts)) None) ∷ []
  pub few_scripts : length (old table.Scripts) < limit_of table.Scripts
  pub few_entries : length (old table.Entries) < limit_of table.Entries
  pub script_fits : FitsScriptRow (first_row s next (length (old table.Entries)))
  pub entry_fits : FitsEntryRow (new_entry tx (length (old table.Scripts)) None)

-- An entry more, of the script of that number, which had this row.
pub record EntryMore (script : ℕ) (row : ScriptRow) (before : Option ℕ) (tx : ℕ) (old new : Tables)
    : Type 0 where
  pub scripts : new table.Scripts
      ≡ slice_set (old table.Scripts) script
      (script_row_bytes (entered_row (length (old table.Entries)) row))
  pub heads : new table.ScriptHeads ≡ old table.ScriptHeads
  pub entries : new table.Entries
      ≡ old table.Entries ++ entry_row_bytes (new_entry tx script before) ∷ []
  pub few_entries : length (old table.Entries) < limit_of table.Entries
  pub entry_fits : FitsEntryRow (new_entry tx script before)

-- all tables stay but those of scripts, of their heads and of entries
abbrev pub ThreeStay : Tables → Tables → Type 0
ThreeStay old new = (u : Table) → (u ≡ table.Scripts → ⊥) → (u ≡ table.ScriptHeads → ⊥)
    → (u ≡ table.Entries → ⊥) → new u ≡ old u

-- 3. Faults

-- why an entry wasn't added
abbrev pub IsEntryFault : Tables → ConnectFault → Type 0
IsEntryFault old e = NotAdded table.Entries (length (old table.Entries)) e

-- why a script and its first entry weren't added
abbrev pub IsScriptFault : Tables → ConnectFault → Type 0
IsScriptFault old e = NotAdded table.Scripts (length (old table.Scripts)) e
    ⊎ ((length (old table.Scripts) < limit_of table.Scripts) × IsEntryFault old e)

-- why a step back isn't made
abbrev pub IsStepFault : ConnectFault → Type 0
IsStepFault e = (e ≡ connect.DiskFailed) ⊎ (e ≡ connect.Memory)

-- Faults of rows as faults of a connection.
use Rattle.std.specs.Prelude.{◌≡◌, ◌<◌, ◌⊎◌, ℕ}
use Rattle.el_row_formats.specs.Tables.{limit_of, number_of}
use Rattle.el_row_formats.specs.declared.table.Table.{Table}
use Rattle.el_rows.specs.declared.faults.AppendFault.{AppendFault}
use Rattle.el_rows.specs.declared.faults.AppendFault.TheVariants as append
use Rattle.el_chain.specs.declared.fault.ConnectFault.{ConnectFault}
use Rattle.el_chain.specs.declared.fault.ConnectFault.TheVariants as connect

-- the fault of a row that isn't added, as a connection tells it: the same cause, with the same numbers
abbrev pub as_connect_fault : AppendFault → ConnectFault
as_connect_fault (append.Full table rows) = connect.Full table rows
as_connect_fault append.Memory = connect.Memory

-- The fault of a row that isn't added to a table with n rows: at the table's limit it is `Full`, and below it
-- `Memory`.
abbrev pub NotAdded : Table → ℕ → ConnectFault → Type 0
NotAdded t n e =
    ((n ≡ limit_of t) × (e ≡ connect.Full (number_of t) (limit_of t)))
    ⊎ ((n < limit_of t) × (e ≡ connect.Memory))

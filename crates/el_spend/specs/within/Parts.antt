-- Parts of the steps on the tables of lists.
use Rattle.std.specs.Prelude.{◌≡◌, ◌-◌, ◌+◌, ◌++◌, ◌∷◌, [], ℕ, min, Option, Some, option_map, slice_get, take, if◌then◌else◌}
use Rattle.el_tx.specs.declared.types.Outpoint.{Outpoint}
use Rattle.el_tables.specs.Lists.{State, ListedOut, Lists, is_unspent, output_number, txid_at, first_out_at}
use Rattle.el_tables.specs.Tables.{Tables}
use Rattle.el_tables.specs.Edits.{set_state, more_at, less_at}
use Rattle.el_tables.specs.Disconnecting.{but_last, unbury, give_back}
use Rattle.el_row_formats.specs.declared.out_row.OutRow.{OutRow}
use Rattle.el_row_formats.specs.declared.script_row.ScriptRow.{ScriptRow}
use Rattle.el_schema.specs.Rows.{out_fields}

-- the row is that of the output of that number
abbrev pub IsOutRow : Tables → ℕ → OutRow → Type 0
IsOutRow tb k row = Some row ≡ option_map out_fields (slice_get tb.outs k)

-- the outpoint of the output of that number, which the transaction of the first number made
abbrev pub outpoint_at : ℕ → ℕ → Lists → Outpoint
outpoint_at tx number l = record { txid = txid_at tx l.txs; index = number - first_out_at tx l.txs }

-- the number of the output that it named before
abbrev pub named_by : ℕ → ℕ → Lists → Option ℕ
named_by tx number l = output_number (outpoint_at tx number l) (take tx l.txs)

-- what a script's balance has of the output
abbrev pub value_if_unspent : ListedOut → ℕ
value_if_unspent x = if is_unspent x.state then x.value else 0

-- a row of a script with a balance that is higher by a value (in satoshi), and at most 2^64 - 1
abbrev pub raised : ℕ → ScriptRow → ScriptRow
raised value r = record r { balance = min (r.balance + value) 18446744073709551615 }

-- a row of a script with a balance that is lower by a value, and at least 0
abbrev pub lowered : ℕ → ScriptRow → ScriptRow
lowered value r = record r { balance = r.balance - value }

-- the tables where the balance of the script of that number is higher
abbrev pub balance_raised : ℕ → ℕ → Tables → Tables
balance_raised script value tb = record tb { scripts = more_at script value tb }

-- the tables where it is lower
abbrev pub balance_lowered : ℕ → ℕ → Tables → Tables
balance_lowered script value tb = record tb { scripts = less_at script value tb }

-- the output of that number has the state
abbrev pub state_changed : State → ℕ → Tables → Tables
state_changed s k tb = record tb { outs = set_state s k tb }

-- the tables with one output more, at the end
abbrev pub out_appended : ListedOut → Tables → Tables
out_appended x tb = record tb { outs = tb.outs ++ x ∷ [] }

-- the tables without the last output
abbrev pub out_gone : Tables → Tables
out_gone tb = record tb { outs = but_last tb.outs }

-- the tables with one input more, at the end
abbrev pub in_appended : ℕ → Tables → Tables
in_appended k tb = record tb { ins = tb.ins ++ k ∷ [] }

-- the tables without the last input
abbrev pub in_gone : Tables → Tables
in_gone tb = record tb { ins = but_last tb.ins }

-- what the transaction of the first number buried by its output of the second is unspent again
abbrev pub unburied_lists : ℕ → ℕ → Lists → Lists
unburied_lists tx number l = record l { outs = unbury tx (named_by tx number l) l.outs }

-- the output of that number is unspent again, if it was spent
abbrev pub spent_given_back : ℕ → Lists → Lists
spent_given_back k l = record l { outs = give_back (Some k) l.outs }

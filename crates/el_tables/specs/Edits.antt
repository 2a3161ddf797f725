-- What each step on the lists does to the rows: which row is appended and with which links, which head and
-- which fields of a row change. All else stays. An edit reads rows alone, and what a walk along links has
-- found.
use Rattle.std.specs.Prelude.{ℕ, ◌+◌, ◌-◌, List, [], ◌∷◌, ◌++◌, length, get_or, set, Option, None, Some, option_map, replicate, if◌then◌else◌}
use Rattle.el_base.specs.declared.hash.Hash32.{Hash32}
use Rattle.el_chain.specs.Chains.{zero_hash}
use Rattle.el_tables.specs.Lists.{ListedTx, State, ListedOut, ListedEntry, is_unspent}
use Rattle.el_tables.specs.Lists.State.{Unspent, Spent, Buried}
use Rattle.el_tables.specs.ChainLists.{ListedBlock}
use Rattle.el_tables.specs.Disconnecting.{but_last, last, is_buried_by, is_spent}
use Rattle.el_tables.specs.Tables.{TxRow, ScriptRow, EntryRow, Tables, bucket_in}

-- 1. Rows and heads by number

-- what stands for an output after the last one; no step reads it
abbrev pub no_out : ListedOut
no_out = record { tx = 0; value = 0; script = 0; state = Unspent }

-- what stands for a script's row after the last one; no step reads it either
abbrev pub no_row : ScriptRow
no_row = record { script = zero_hash; next = None; last = None; entries = 0; balance = 0 }

-- the row of the output of that number
abbrev pub out_row : ℕ → Tables → ListedOut
out_row k tb = get_or tb.outs k no_out

-- the row of the script hash of that number
abbrev pub row_of : ℕ → Tables → ScriptRow
row_of n tb = get_or tb.scripts n no_row

-- the head of the hash's bucket
abbrev pub head_of : Hash32 → List (Option ℕ) → Option ℕ
head_of h hs = get_or hs (bucket_in (length hs) h) None

-- the heads where that of the hash's bucket is this link
abbrev pub set_head : Hash32 → Option ℕ → List (Option ℕ) → List (Option ℕ)
set_head h link hs = set hs (bucket_in (length hs) h) link

-- 2. Transactions

-- one transaction more: its row has a link to the newest with its txid, which a walk has found, and to the
-- head of its bucket, and is the new head
abbrev pub tx_added : ListedTx → Option ℕ → Tables → Tables
tx_added t older tb = record tb {
  txs = tb.txs ++ record { listed = t; older = older; next = head_of t.txid tb.tx_heads } ∷ [];
  tx_heads = set_head t.txid (Some (length tb.txs)) tb.tx_heads;
}

-- the last one less, which has this row: its bucket's head is the one before
abbrev pub tx_dropped : Option TxRow → Tables → Tables
tx_dropped None tb = tb
tx_dropped (Some r) tb = record tb {
  txs = but_last tb.txs;
  tx_heads = set_head r.listed.txid r.next tb.tx_heads;
}

-- 3. Script hashes and entries

-- a new script hash with its first entry, of that transaction
abbrev pub script_added : Hash32 → ℕ → Tables → Tables
script_added s tx tb = record tb {
  scripts = tb.scripts ++ record {
    script = s;
    next = head_of s tb.script_heads;
    last = Some (length tb.entries);
    entries = 1;
    balance = 0;
  } ∷ [];
  script_heads = set_head s (Some (length tb.scripts)) tb.script_heads;
  entries = tb.entries ++ record {
    listed = record { tx = tx; script = length tb.scripts };
    before = None;
  } ∷ [];
}

-- the transaction of the entry that a link names
abbrev pub tx_of_last : ListedEntry → List ListedEntry → Option ℕ → Option ℕ
tx_of_last d es link = option_map (λ k. (get_or es k d).tx) link

-- the script hash's row with one entry more, of that number
abbrev pub entered : ℕ → ScriptRow → ScriptRow
entered at r = record r { last = Some at; entries = r.entries + 1 }

-- one entry more of the script hash with that number, and of that transaction
abbrev pub entry_added : ℕ → ℕ → Tables → Tables
entry_added n tx tb = record tb {
  scripts = set tb.scripts n (entered (length tb.entries) (row_of n tb));
  entries = tb.entries ++ record {
    listed = record { tx = tx; script = n };
    before = (row_of n tb).last;
  } ∷ [];
}

-- the script hash's row with one entry less, where its last is now this
abbrev pub left : Option ℕ → ScriptRow → ScriptRow
left before r = record r { last = before; entries = r.entries - 1 }

-- the last entry less, which has one before it: its script hash stays
abbrev pub entry_left : EntryRow → Tables → Tables
entry_left e tb = record tb {
  scripts = set tb.scripts e.listed.script (left e.before (row_of e.listed.script tb));
  entries = but_last tb.entries;
}

-- the last entry less, which is the first of the last script hash: this goes too
abbrev pub script_dropped : Option ScriptRow → Tables → Tables
script_dropped None tb = record tb { entries = but_last tb.entries }
script_dropped (Some r) tb = record tb {
  scripts = but_last tb.scripts;
  script_heads = set_head r.script r.next tb.script_heads;
  entries = but_last tb.entries;
}

-- the last entry less, by the entry before it
abbrev pub entry_by : Option ℕ → EntryRow → Tables → Tables
entry_by None e tb = script_dropped (last tb.scripts) tb
entry_by (Some k) e tb = entry_left e tb

-- the last entry less, which has this row
abbrev pub entry_dropped : Option EntryRow → Tables → Tables
entry_dropped None tb = tb
entry_dropped (Some e) tb = entry_by e.before e tb

-- 4. Outputs

-- the script hash's row with a lower balance
abbrev pub less : ℕ → ScriptRow → ScriptRow
less value r = record r { balance = r.balance - value }

-- the script hash's row with a higher balance
abbrev pub more : ℕ → ScriptRow → ScriptRow
more value r = record r { balance = r.balance + value }

-- the rows of script hashes where the balance of that number is lower
abbrev pub less_at : ℕ → ℕ → Tables → List ScriptRow
less_at n value tb = set tb.scripts n (less value (row_of n tb))

-- the rows of script hashes where the balance of that number is higher
abbrev pub more_at : ℕ → ℕ → Tables → List ScriptRow
more_at n value tb = set tb.scripts n (more value (row_of n tb))

-- the rows of outputs where that of that number has the state
abbrev pub set_state : State → ℕ → Tables → List ListedOut
set_state s k tb = set tb.outs k (record (out_row k tb) { state = s })

-- an unspent output gets another state, and leaves its script hash's balance
abbrev pub coin_gone : State → ℕ → Tables → Tables
coin_gone s k tb = record tb {
  outs = set_state s k tb;
  scripts = less_at (out_row k tb).script (out_row k tb).value tb;
}

-- an output is unspent again, and goes into its script hash's balance
abbrev pub coin_back : ℕ → Tables → Tables
coin_back k tb = record tb {
  outs = set_state Unspent k tb;
  scripts = more_at (out_row k tb).script (out_row k tb).value tb;
}

-- the transaction of the first number spends the output of the second
abbrev pub output_spent : ℕ → ℕ → Tables → Tables
output_spent by k tb = record (coin_gone (Spent by) k tb) { ins = tb.ins ++ k ∷ [] }

-- the transaction of that number buries the output of the other, if there is one
abbrev pub buried : ℕ → Option ℕ → Tables → Tables
buried by None tb = tb
buried by (Some k) tb = coin_gone (Buried by) k tb

-- a row of a new output, which is unspent
abbrev pub new_out : ℕ → ℕ → ℕ → ListedOut
new_out tx value script = record { tx = tx; value = value; script = script; state = Unspent }

-- one output more, which is unspent
abbrev pub output_added : ListedOut → Tables → Tables
output_added x tb = record tb { outs = tb.outs ++ x ∷ []; scripts = more_at x.script x.value tb }

-- the last output less, which was in its script hash's balance if it was unspent
abbrev pub out_left : ListedOut → Tables → Tables
out_left x tb = record tb {
  outs = but_last tb.outs;
  scripts = less_at x.script (if is_unspent x.state then x.value else 0) tb;
}

-- the output of that number is unspent again, if the transaction of the first number buried it
abbrev pub unburied : ℕ → Option ℕ → Tables → Tables
unburied by None tb = tb
unburied by (Some k) tb = if is_buried_by by (out_row k tb).state then coin_back k tb else tb

-- the last output less, which has this row; its outpoint named an output before, which a walk has found
abbrev pub output_dropped : Option ℕ → Option ListedOut → Tables → Tables
output_dropped names None tb = tb
output_dropped names (Some x) tb = unburied x.tx names (out_left x tb)

-- the output of that number is unspent again, if it was spent
abbrev pub given_back : Option ℕ → Tables → Tables
given_back None tb = tb
given_back (Some k) tb = if is_spent (out_row k tb).state then coin_back k tb else tb

-- the tables without the last input, whose output is unspent again
abbrev pub input_dropped : Tables → Tables
input_dropped tb = record (given_back (last tb.ins) tb) { ins = but_last tb.ins }

-- 5. Blocks, and heads before the first block

-- so many heads without a link: no row is in any bucket
abbrev pub no_links : ℕ → List (Option ℕ)
no_links count = replicate count None

-- the tables with these rows of heads
abbrev pub with_heads : List (Option ℕ) → List (Option ℕ) → Tables → Tables
with_heads txs scripts tb = record tb { tx_heads = txs; script_heads = scripts }

-- the tables with these blocks
abbrev pub with_blocks : List ListedBlock → Tables → Tables
with_blocks bs tb = record tb { blocks = bs }

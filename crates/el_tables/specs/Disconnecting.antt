-- How the last transactions are taken back from the numbered lists, by the lists alone: each step undoes one
-- of the steps of a transaction.
use Rattle.std.specs.Prelude.{ℕ, zero, suc, ◌-◌, ◌==◌, Bool, true, false, List, [], ◌∷◌, length, take, Option, None, Some, if◌then◌else◌}
use Rattle.std.specs.List.{list_any}
use Rattle.el_base.specs.declared.hash.Hash32.{Hash32}
use Rattle.el_tables.specs.Lists.{ListedTx, State, ListedOut, ListedEntry, Lists, output_number, with_state, txid_at, first_out_at, is_of_script}
use Rattle.el_tables.specs.Lists.State.{Unspent, Spent, Buried}

-- all but the last member
abbrev pub but_last : {X : Type 0} → List X → List X
but_last [] = []
but_last (x ∷ []) = []
but_last (x ∷ y ∷ xs) = x ∷ but_last (y ∷ xs)

-- the last member, if there is one
abbrev pub last : {X : Type 0} → List X → Option X
last [] = None
last (x ∷ []) = Some x
last (x ∷ y ∷ xs) = last (y ∷ xs)

-- a step, so many times
abbrev pub times : {X : Type 0} → ℕ → (X → X) → X → X
times zero f x = x
times (suc n) f x = f (times n f x)

-- 1. Outputs

-- the transaction of that number buried the output
abbrev pub is_buried_by : ℕ → State → Bool
is_buried_by by Unspent = false
is_buried_by by (Spent n) = false
is_buried_by by (Buried n) = n == by

-- the transaction of the first number buried the output of the second
abbrev pub buried_at : ℕ → ℕ → List ListedOut → Bool
buried_at by k [] = false
buried_at by zero (x ∷ xs) = is_buried_by by x.state
buried_at by (suc k) (x ∷ xs) = buried_at by k xs

-- the output of the second number is unspent again, if the transaction of the first buried it
abbrev pub unbury : ℕ → Option ℕ → List ListedOut → List ListedOut
unbury by None outs = outs
unbury by (Some k) outs = if buried_at by k outs then with_state Unspent k outs else outs

-- the number of the output that the last output's outpoint named before there was the last one
abbrev pub named_before : Option ListedOut → Lists → Option ℕ
named_before None l = None
named_before (Some x) l =
    output_number (record {
      txid = txid_at x.tx l.txs;
      index = length (but_last l.outs) - first_out_at x.tx l.txs;
    }) (take x.tx l.txs)

-- the lists without the last output, which is this one
abbrev pub without_output : Option ListedOut → Lists → Lists
without_output None l = l
without_output (Some x) l = record l { outs = unbury x.tx (named_before (Some x) l) (but_last l.outs) }

-- the last output is taken back, and the one that it buried is unspent again
abbrev pub take_back_output : Lists → Lists
take_back_output l = without_output (last l.outs) l

-- 2. Inputs

-- a transaction spent the output
abbrev pub is_spent : State → Bool
is_spent Unspent = false
is_spent (Spent n) = true
is_spent (Buried n) = false

-- a transaction spent the output of that number
abbrev pub spent_at : ℕ → List ListedOut → Bool
spent_at k [] = false
spent_at zero (x ∷ xs) = is_spent x.state
spent_at (suc k) (x ∷ xs) = spent_at k xs

-- the output of that number is unspent again, if it was spent
abbrev pub give_back : Option ℕ → List ListedOut → List ListedOut
give_back None outs = outs
give_back (Some k) outs = if spent_at k outs then with_state Unspent k outs else outs

-- the last input is taken back, and the output that it spent is unspent again
abbrev pub unspend : Lists → Lists
unspend l = record l { outs = give_back (last l.ins) l.outs; ins = but_last l.ins }

-- 3. Script hashes and entries

-- the script hashes without the last, unless one of these entries is of the script hash with that number
abbrev pub scripts_left : ℕ → List ListedEntry → List Hash32 → List Hash32
scripts_left script entries scripts =
    if list_any (is_of_script script) entries then scripts else but_last scripts

-- the lists without the last entry, which is this one
abbrev pub without_entry : Option ListedEntry → Lists → Lists
without_entry None l = l
without_entry (Some e) l = record l {
  scripts = scripts_left e.script (but_last l.entries) l.scripts;
  entries = but_last l.entries;
}

-- the last entry is taken back, and with the first entry of a script hash this, which is the last
abbrev pub take_back_entry : Lists → Lists
take_back_entry l = without_entry (last l.entries) l

-- the last entry is of that transaction
abbrev pub is_entry_of : ℕ → Option ListedEntry → Bool
is_entry_of tx None = false
is_entry_of tx (Some e) = e.tx == tx

-- entries are taken back as long as the last is of that transaction, and at most so many
abbrev pub take_back_entries : ℕ → ℕ → Lists → Lists
take_back_entries zero tx l = l
take_back_entries (suc most) tx l =
    if is_entry_of tx (last l.entries) then take_back_entries most tx (take_back_entry l) else l

-- 4. Transactions

-- the last transaction is taken back, but nothing else of it
abbrev pub take_back_tx : Lists → Lists
take_back_tx l = record l { txs = but_last l.txs }

-- the lists without the last transaction, which is this one and has that number
abbrev pub without_tx : ℕ → Option ListedTx → Lists → Lists
without_tx tx None l = l
without_tx tx (Some t) l =
    take_back_tx (take_back_entries (length l.entries) tx
    (times t.ins unspend (times t.outs take_back_output l)))

-- the last transaction is taken back: its outputs, its inputs, its entries, and then itself
abbrev pub disconnect_tx : Lists → Lists
disconnect_tx l = without_tx (length (but_last l.txs)) (last l.txs) l

-- as many transactions are taken back, the last first
abbrev pub disconnect_txs : ℕ → Lists → Lists
disconnect_txs count l = times count disconnect_tx l

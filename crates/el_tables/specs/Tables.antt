-- The tables of the index, as rows, and when they stand for a chain. Each row is that of a member of a
-- numbered list, with links, counts and sums that follow from the lists.
use Rattle.std.specs.Prelude.{◌≡◌, ℕ, zero, suc, ◌+◌, ◌*◌, ◌%◌, ◌==◌, Bool, List, [], ◌∷◌, length, map, take, filter, get_or, Option, None, Some, if◌then◌else◌}
use Rattle.std.specs.Option.{option_or}
use Rattle.el_base.specs.declared.hash.Hash32.{Hash32}
use Rattle.el_chain.specs.Chains.{Chain}
use Rattle.el_chain.specs.Faults.{IsGood}
use Rattle.el_chain.specs.Headers.{same_hash}
use Rattle.el_tables.specs.Lists.{ListedTx, ListedOut, ListedEntry, Lists, is_of_script, balance_of}
use Rattle.el_tables.specs.ChainLists.{ListedBlock, lists, listed_blocks}

-- 1. Rows

-- A transaction, with links to the newest one before it that has the same txid, and to the newest before it
-- whose txid is in the same bucket.
pub record TxRow : Type 0 where
  pub listed : ListedTx
  pub older : Option ℕ
  pub next : Option ℕ

-- A script hash, with links to the newest one before it in the same bucket and to its last entry; how many
-- entries it has; and its balance, in satoshi.
pub record ScriptRow : Type 0 where
  pub script : Hash32
  pub next : Option ℕ
  pub last : Option ℕ
  pub entries : ℕ
  pub balance : ℕ

-- An entry, with a link to the entry of its script hash before it.
pub record EntryRow : Type 0 where
  pub listed : ListedEntry
  pub before : Option ℕ

-- All tables. A heads table has, for each bucket, a link to the newest row in it.
pub record Tables : Type 0 where
  pub blocks : List ListedBlock
  pub txs : List TxRow
  pub tx_heads : List (Option ℕ)
  pub outs : List ListedOut
  pub ins : List ℕ
  pub scripts : List ScriptRow
  pub script_heads : List (Option ℕ)
  pub entries : List EntryRow

-- how many rows the two heads tables have
pub record HeadCounts : Type 0 where
  pub txs : ℕ
  pub scripts : ℕ

-- both tables of heads have so many rows
abbrev pub in_both : ℕ → HeadCounts
in_both count = record { txs = count; scripts = count }

-- 2. Links

-- the bucket of a hash, of so many: the number of its first three bytes, the lowest first, modulo that count
unfoldable pub bucket_in : ℕ → Hash32 → ℕ
bucket_in count h = (get_or h.0 0 0 + 256 * get_or h.0 1 0 + 65536 * get_or h.0 2 0) % count

-- the greatest number of a member that passes the test, where the first has that number
abbrev pub greatest_from : {X : Type 0} → ℕ → (X → Bool) → List X → Option ℕ
greatest_from n test [] = None
greatest_from n test (x ∷ xs) = option_or (greatest_from (n + 1) test xs) (if test x then Some n else None)

-- the greatest number of a member that passes the test
abbrev pub greatest : {X : Type 0} → (X → Bool) → List X → Option ℕ
greatest test xs = greatest_from 0 test xs

-- 3. Rows from lists

-- the row of the transaction of that number, one of these, with so many buckets
abbrev pub tx_row : ℕ → List ListedTx → ℕ → ListedTx → TxRow
tx_row count txs n t = record {
  listed = t;
  older = greatest (λ (u : ListedTx). same_hash u.txid t.txid) (take n txs);
  next = greatest (λ (u : ListedTx). bucket_in count u.txid == bucket_in count t.txid) (take n txs);
}

-- the row of the script hash of that number, with so many buckets
abbrev pub script_row : ℕ → Lists → ℕ → Hash32 → ScriptRow
script_row count l n s = record {
  script = s;
  next = greatest (λ u. bucket_in count u == bucket_in count s) (take n l.scripts);
  last = greatest (is_of_script n) l.entries;
  entries = length (filter (is_of_script n) l.entries);
  balance = balance_of n l.outs;
}

-- the row of the entry of that number
abbrev pub entry_row : List ListedEntry → ℕ → ListedEntry → EntryRow
entry_row entries n e = record { listed = e; before = greatest (is_of_script e.script) (take n entries) }

-- the rows of members, of which the first has that number
abbrev pub rows_from : {X Y : Type 0} → (ℕ → X → Y) → ℕ → List X → List Y
rows_from row n [] = []
rows_from row n (x ∷ xs) = row n x ∷ rows_from row (n + 1) xs

-- so many numbers, in their order, from this one on
abbrev pub numbers_from : ℕ → ℕ → List ℕ
numbers_from n zero = []
numbers_from n (suc count) = n ∷ numbers_from (n + 1) count

-- the heads of so many buckets: of each, the greatest number of a member whose hash is in it
abbrev pub heads : {X : Type 0} → ℕ → (X → Hash32) → List X → List (Option ℕ)
heads count hash xs = map (λ n. greatest (λ x. bucket_in count (hash x) == n) xs) (numbers_from 0 count)

-- the tables of blocks and lists, with so many heads
abbrev pub tables_of : HeadCounts → List ListedBlock → Lists → Tables
tables_of counts bs l = record {
  blocks = bs;
  txs = rows_from (tx_row counts.txs l.txs) 0 l.txs;
  tx_heads = heads counts.txs (λ (t : ListedTx). t.txid) l.txs;
  outs = l.outs;
  ins = l.ins;
  scripts = rows_from (script_row counts.scripts l) 0 l.scripts;
  script_heads = heads counts.scripts (λ s. s) l.scripts;
  entries = rows_from (entry_row l.entries) 0 l.entries;
}

-- 4. Tables that stand for a chain

-- the lists of tables, without links, heads, counts and sums
abbrev pub without_links : Tables → Lists
without_links t = record {
  txs = map (λ (r : TxRow). r.listed) t.txs;
  outs = t.outs;
  ins = t.ins;
  scripts = map (λ (r : ScriptRow). r.script) t.scripts;
  entries = map (λ (r : EntryRow). r.listed) t.entries;
}

-- how many heads tables have
abbrev pub head_counts : Tables → HeadCounts
head_counts t = record { txs = length t.tx_heads; scripts = length t.script_heads }

-- The links, heads, counts and sums of tables are those of their lists, however many heads there are. This
-- names no chain and no format.
pub record IsLinked (tables : Tables) : Type 0 where
  pub rows : tables ≡ tables_of (head_counts tables) tables.blocks (without_links tables)

-- The tables stand for the chain, in an index with so many heads: the chain is good, and they are the rows of
-- its blocks and lists. On no blocks each head leads to nothing, and the other tables are empty.
pub record Stands (counts : HeadCounts) (tables : Tables) (chain : Chain) : Type 0 where
  pub good : IsGood chain
  pub linked : IsLinked tables
  pub heads : head_counts tables ≡ counts
  pub blocks : tables.blocks ≡ listed_blocks chain
  pub lists : without_links tables ≡ lists chain

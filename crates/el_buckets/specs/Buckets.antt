-- Rows that are found by a hash, in buckets.
use Rattle.std.specs.Prelude.{◌≡◌, ◌==◌, ◌++◌, ◌∷◌, [], ℕ, Bool, List, map, length, slice_set, take, Option, None, Some, if◌then◌else◌, nat_lt, count_by}
use Rattle.el_base.specs.declared.hash.Hash32.{Hash32}
use Rattle.el_chain.specs.Headers.{same_hash}
use Rattle.el_tables.specs.Lists.{ListedTx, Lists}
use Rattle.el_tables.specs.Tables.{HeadCounts, bucket_in, greatest}
use Rattle.el_row_formats.specs.Tables.{Tables}
use Rattle.el_row_formats.specs.RowBytes.{link_bytes}
use Rattle.el_row_formats.specs.declared.table.Table.{Table}
use Rattle.el_row_formats.specs.declared.table.Table.TheVariants as table
use Rattle.el_buckets.specs.declared.bucket.Buckets.{Buckets}
use Rattle.el_buckets.specs.declared.bucket.Buckets.TheVariants as buckets

-- the table of the rows
abbrev pub rows_table : Buckets → Table
rows_table buckets.Txids = table.Txs
rows_table buckets.ScriptHashes = table.Scripts

-- the table of the heads
abbrev pub heads_of : Buckets → Table
heads_of buckets.Txids = table.TxHeads
heads_of buckets.ScriptHashes = table.ScriptHeads

-- the hashes of the rows, in order
abbrev pub hashes_of : Buckets → Lists → List Hash32
hashes_of buckets.Txids l = map (λ (t : ListedTx). t.txid) l.txs
hashes_of buckets.ScriptHashes l = l.scripts

-- how many heads there are
abbrev pub count_of : Buckets → HeadCounts → ℕ
count_of buckets.Txids counts = counts.txs
count_of buckets.ScriptHashes counts = counts.scripts

-- a link that isn't below n is none
abbrev pub below : ℕ → Option ℕ → Option ℕ
below n None = None
below n (Some m) = if nat_lt m n then Some m else None

-- of so many buckets, the two hashes are in one
abbrev pub share_bucket : ℕ → Hash32 → Hash32 → Bool
share_bucket count a b = bucket_in count b == bucket_in count a

-- how many of these hashes are in the bucket of this one
abbrev pub bucket_size : ℕ → Hash32 → List Hash32 → ℕ
bucket_size count h hs = count_by (share_bucket count h) hs

-- the greatest number of a row with the hash
abbrev pub newest_of : Hash32 → List Hash32 → Option ℕ
newest_of h hs = greatest (λ x. same_hash x h) hs

-- the greatest number of a row in the hash's bucket
abbrev pub bucket_head : ℕ → Hash32 → List Hash32 → Option ℕ
bucket_head count h hs = greatest (share_bucket count h) hs

-- A row more, of a hash: it stands after the others, and is the head of its bucket.
pub record Pushed (buckets : Buckets) (h : Hash32) (row : List ℕ) (old new : Tables) : Type 0 where
  pub rows : new (rows_table buckets) ≡ old (rows_table buckets) ++ row ∷ []
  pub heads : new (heads_of buckets)
      ≡ slice_set (old (heads_of buckets)) (bucket_in (length (old (heads_of buckets))) h)
      (link_bytes (Some (length (old (rows_table buckets)))))

-- The first n rows are left, and the head of the hash's bucket is this link.
pub record Popped (buckets : Buckets) (h : Hash32) (n : ℕ) (next : Option ℕ) (old new : Tables) : Type 0 where
  pub rows : new (rows_table buckets) ≡ take n (old (rows_table buckets))
  pub heads : new (heads_of buckets)
      ≡ slice_set (old (heads_of buckets)) (bucket_in (length (old (heads_of buckets))) h) (link_bytes next)

-- all tables but these two stay
abbrev pub OthersStay : Table → Table → Tables → Tables → Type 0
OthersStay a b old new = (t : Table) → (t ≡ a → ⊥) → (t ≡ b → ⊥) → new t ≡ old t

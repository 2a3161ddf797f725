-- The rows of a chain's blocks, by height.
use Rattle.std.proofs.Common.{◌≡◌, ℕ, zero, suc, ◌+◌, ◌-◌, List, [], ◌∷◌, ◌++◌, length, map, take, drop, slice_get, Some, option_map, refl, ap, ap₂, sym, ◌∙◌, arith, append_assoc, length-append}
use Rattle.std.proofs.lemmas.List.{map-append, length-map, drop_at, take_at, take-map, drop-map}
use Rattle.el_base.specs.Hashing.{sha256d}
use Rattle.el_base.specs.declared.hash.Hash32.{Hash32}
use Rattle.el_tx.specs.declared.types.Tx.{Tx}
use Rattle.el_tx.specs.Hashing.{txid, full_encoding}
use Rattle.el_tx.specs.Headers.{header_encoding}
use Rattle.el_block.specs.Blocks.{block_hash, txids}
use Rattle.el_chain.specs.declared.placed.Placed.{Placed}
use Rattle.el_chain.specs.declared.coin.Coin.{Coin}
use Rattle.el_chain.specs.Chains.{Chain}
use Rattle.el_chain.specs.Coins.{coins_after, coins_after_all}
use Rattle.el_chain.specs.History.{Position, positions_in, first_start, block_positions, positions_from, positions}
use Rattle.el_chain.specs.RowCounts.{spending_inputs}
use Rattle.el_model.specs.Queries.{header_at, place_at, hashes_to, txids_at}
use Rattle.el_tables.specs.Lists.{ListedTx}
use Rattle.el_tables.specs.Tables.{TxRow, rows_from, tx_row}
use Rattle.el_tables.specs.ChainLists.{ListedBlock, listed_block, listed_blocks_from, listed_blocks, txs_from, lists}
use Rattle.el_row_formats.specs.declared.block_row.BlockRow.{BlockRow}
use Rattle.el_schema.specs.Rows.{block_fields}

-- 1. One block

some_is : {X : Type 0} (a b : X) → Some a ≡ Some b → a ≡ b
some_is a b e = cc

-- what the row of that height tells, it tells of the block
told_at : {X : Type 0} (f : BlockRow → X) (g : Placed → X) → ((first sum : ℕ) (b : Placed) → f (block_fields (listed_block first sum b)) ≡ g b)
    → (height first : ℕ) (chain : Chain) (coins : List Coin) (h : ℕ) (row : BlockRow)
    → Some row ≡ option_map block_fields (slice_get (listed_blocks_from height first chain coins) h) → option_map g (slice_get chain h) ≡ Some (f row)
told_at f g same height first [] coins h row e = absurd cc
told_at f g same height first (b ∷ bs) coins zero row e = sym (ap Some (ap f (some_is row _ e) ∙ same first _ b))
told_at f g same height first (b ∷ bs) coins (suc h) row e =
    told_at f g same (height + 1) (first + length b.block.txs) bs (coins_after_all height b.block.txs coins) h row e

pub header_told : (chain : Chain) (h : ℕ) (row : BlockRow) → Some row ≡ option_map block_fields (slice_get (listed_blocks chain) h) → header_at chain h ≡ Some row.header
header_told chain h row e = told_at (λ (r : BlockRow). r.header) (λ (b : Placed). header_encoding b.block.header) (λ first sum b. refl) 0 0 chain [] h row e

pub place_told : (chain : Chain) (h : ℕ) (row : BlockRow) → Some row ≡ option_map block_fields (slice_get (listed_blocks chain) h) → place_at chain h ≡ Some row.place
place_told chain h row e = told_at (λ (r : BlockRow). r.place) (λ (b : Placed). b.place) (λ first sum b. refl) 0 0 chain [] h row e

-- 2. The first blocks

-- the hash of a block that has this row
abbrev pub hash_in : ListedBlock → Hash32
hash_in b = record { 0 = sha256d b.header }

hashed : (n height first : ℕ) (chain : Chain) (coins : List Coin)
    → map hash_in (take n (listed_blocks_from height first chain coins)) ≡ map (λ (b : Placed). block_hash b.block.header) (take n chain)
hashed zero height first chain coins = refl
hashed (suc n) height first [] coins = refl
hashed (suc n) height first (b ∷ bs) coins =
    ap (λ (hs : List Hash32). block_hash b.block.header ∷ hs) (hashed n (height + 1) (first + length b.block.txs) bs (coins_after_all height b.block.txs coins))

pub hashes_told : (chain : Chain) (n : ℕ) → map hash_in (take (n + 1) (listed_blocks chain)) ≡ hashes_to chain n
hashes_told chain n = hashed (n + 1) 0 0 chain []

-- 3. The txids of a block

abbrev pub id_of : ListedTx → Hash32
id_of t = t.txid

abbrev pub id_in : Position → Hash32
id_in p = txid p.tx

pub ids_listed : (a b : ℕ) (ps : List Position) → map id_of (txs_from a b ps) ≡ map id_in ps
ids_listed a b [] = refl
ids_listed a b (p ∷ ps) = ap (λ (hs : List Hash32). txid p.tx ∷ hs) (ids_listed (a + length p.tx.outputs) (b + length (spending_inputs p.tx)) ps)

ids_in_block : (height pos start : ℕ) (ts : List Tx) (coins : List Coin) → map id_in (positions_in height pos start ts coins) ≡ txids ts
ids_in_block height pos start [] coins = refl
ids_in_block height pos start (t ∷ ts) coins =
    ap (λ (hs : List Hash32). txid t ∷ hs) (ids_in_block height (pos + 1) (start + length (full_encoding t)) ts (coins_after height t coins))

ids_split : (height : ℕ) (b : Placed) (bs : Chain) (coins : List Coin)
    → map id_in (positions_from height (b ∷ bs) coins) ≡ txids b.block.txs ++ map id_in (positions_from (height + 1) bs (coins_after_all height b.block.txs coins))
ids_split height b bs coins =
    map-append id_in (block_positions height b.block.txs coins) (positions_from (height + 1) bs (coins_after_all height b.block.txs coins))
    ∙ ap (λ (hs : List Hash32). hs ++ map id_in (positions_from (height + 1) bs (coins_after_all height b.block.txs coins))) (ids_in_block height 0 (first_start b.block.txs) b.block.txs coins)

-- the block of that height has the txids that its row says, of all, where these stand before its chain
located : (front : List Hash32) (height first : ℕ) (chain : Chain) (coins : List Coin) (h : ℕ) (row : BlockRow) → length front ≡ first
    → Some row ≡ option_map block_fields (slice_get (listed_blocks_from height first chain coins) h)
    → txids_at chain h ≡ Some (take row.txs (drop row.first_tx (front ++ map id_in (positions_from height chain coins))))
located front height first [] coins h row long e = absurd cc
located front height first (b ∷ bs) coins zero row long e =
    let ids = txids b.block.txs in
    let rest = map id_in (positions_from (height + 1) bs (coins_after_all height b.block.txs coins)) in
    let first_is : row.first_tx ≡ first = ap (λ (r : BlockRow). r.first_tx) (some_is row _ e) in
    let many_is : row.txs ≡ length b.block.txs = ap (λ (r : BlockRow). r.txs) (some_is row _ e) in
    let many : length ids ≡ row.txs = length-map b.block.txs txid ∙ sym many_is in
    sym (ap Some (ap (λ (hs : List Hash32). take row.txs (drop row.first_tx (front ++ hs))) (ids_split height b bs coins)
    ∙ ap (take row.txs) (drop_at front (ids ++ rest) row.first_tx (long ∙ sym first_is)) ∙ take_at ids rest row.txs many))
located front height first (b ∷ bs) coins (suc h) row long e =
    let ids = txids b.block.txs in
    let rest = map id_in (positions_from (height + 1) bs (coins_after_all height b.block.txs coins)) in
    let longer : length (front ++ ids) ≡ first + length b.block.txs = length-append front ids ∙ ap₂ (λ (x y : ℕ). x + y) long (length-map b.block.txs txid) in
    let whole : (front ++ ids) ++ rest ≡ front ++ map id_in (positions_from height (b ∷ bs) coins) =
    append_assoc front ids rest ∙ ap (λ (hs : List Hash32). front ++ hs) (sym (ids_split height b bs coins)) in
    located (front ++ ids) (height + 1) (first + length b.block.txs) bs (coins_after_all height b.block.txs coins) h row longer e
    ∙ ap (λ (hs : List Hash32). Some (take row.txs (drop row.first_tx hs))) whole

-- the txids of rows are those of their transactions
ids_in_rows : (count : ℕ) (all : List ListedTx) (n : ℕ) (ts : List ListedTx) → map (λ (r : TxRow). r.listed.txid) (rows_from (tx_row count all) n ts) ≡ map id_of ts
ids_in_rows count all n [] = refl
ids_in_rows count all n (t ∷ ts) = ap (λ (hs : List Hash32). t.txid ∷ hs) (ids_in_rows count all (n + 1) ts)

pub txids_told : (count : ℕ) (chain : Chain) (h : ℕ) (row : BlockRow) (found : List Hash32)
    → Some row ≡ option_map block_fields (slice_get (listed_blocks chain) h)
    → found ≡ map (λ (r : TxRow). r.listed.txid) (take (row.first_tx + row.txs - row.first_tx) (drop row.first_tx (rows_from (tx_row count (lists chain).txs) 0 (lists chain).txs)))
    → txids_at chain h ≡ Some found
txids_told count chain h row found e is =
    let rows = rows_from (tx_row count (lists chain).txs) 0 (lists chain).txs in
    let id : TxRow → Hash32 = λ r. r.listed.txid in
    let many : row.first_tx + row.txs - row.first_tx ≡ row.txs = omega arith in
    let all : map id rows ≡ map id_in (positions chain) = ids_in_rows count (lists chain).txs 0 (lists chain).txs ∙ ids_listed 0 0 (positions chain) in
    located [] 0 0 chain [] h row refl e
    ∙ sym (ap Some (is ∙ ap (λ (k : ℕ). map id (take k (drop row.first_tx rows))) many
    ∙ sym (take-map id row.txs (drop row.first_tx rows)) ∙ ap (take row.txs) (sym (drop-map id row.first_tx rows)) ∙ ap (λ (hs : List Hash32). take row.txs (drop row.first_tx hs)) all))

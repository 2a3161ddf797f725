-- Where the transactions of a chain stand, by its lists.
use Rattle.std.proofs.Common.{◌≡◌, inl, inr, ℕ, zero, suc, ◌+◌, ◌-◌, ◌^◌, ◌<◌, ◌≤◌, min, List, [], ◌∷◌, ◌++◌, length, map, filter, get_or, slice_get, Option, None, Some, option_map, option_and_then, refl, ap, ap₂, sym, subst, ◌∙◌, arith}
use Rattle.std.proofs.lemmas.Bool.{cases_Bool, cases_lt}
use Rattle.std.proofs.lemmas.List.Sums.{length-filter}
use Rattle.std.specs.Option.{option_or}
use Rattle.el_base.specs.declared.hash.Hash32.{Hash32}
use Rattle.el_outside.specs.declared.archive.Place.{Place}
use Rattle.el_tx.specs.declared.types.Tx.{Tx}
use Rattle.el_tx.specs.Hashing.{txid, full_encoding}
use Rattle.el_chain.specs.declared.placed.Placed.{Placed}
use Rattle.el_chain.specs.declared.coin.Coin.{Coin}
use Rattle.el_chain.specs.declared.node.Spot.{Spot}
use Rattle.el_chain.specs.Chains.{Chain}
use Rattle.el_chain.specs.Coins.{coins_after, coins_after_all}
use Rattle.el_chain.specs.Headers.{same_hash}
use Rattle.el_chain.specs.History.{Position, positions_in, first_start, positions_from, positions}
use Rattle.el_chain.specs.RowCounts.{spending_inputs}
use Rattle.el_model.specs.Queries as asked
use Rattle.el_tables.specs.Disconnecting.{last}
use Rattle.el_tables.specs.Lists.{ListedTx, Lists, newest_tx}
use Rattle.el_tables.specs.ChainLists.{ListedBlock, listed_block, listed_blocks_from, listed_blocks, txs_from, lists}
use Rattle.el_tables.specs.Tables.{HeadCounts, rows_from, tx_row, bucket_in, in_both}
use Rattle.el_tables.proofs.Found.{newest_position}
use Rattle.el_row_formats.specs.Tables as held
use Rattle.el_row_formats.specs.declared.table.Table.TheVariants as table
use Rattle.el_row_formats.specs.declared.block_row.BlockRow.{BlockRow}
use Rattle.el_row_formats.specs.declared.tx_row.TxRow.{TxRow}
use Rattle.el_schema.specs.Rows.{Hold, block_fields, tx_fields}
use Rattle.el_buckets.specs.Buckets.{share_bucket, bucket_size}
use Rattle.el_schema.proofs.Held.{no_tx, count_tx_heads}
use Rattle.el_schema.specs.Standing.{HoldChain, buckets_in}
use Rattle.el_schema.proofs.StandingLemmas.{heads_there}
use Rattle.el_schema.proofs.Rows.{listed_row, row_within}
use Rattle.el_position.specs.Numbered.{found_number}
use Rattle.el_position.specs.declared.lookup.NumberedTx.{NumberedTx}
use Rattle.el_queries.specs.within.Lookups.{spot_in, IsInItsBlock}
use Rattle.el_queries.proofs.Heights.{id_of, id_in, ids_listed}

-- 1. The newest position with a txid

newest_last : (id : Hash32) (ps : List Position) → asked.newest id ps ≡ last (filter (λ (p : Position). same_hash (txid p.tx) id) ps)
newest_last id [] = refl
newest_last id (p ∷ ps) =
    let rest = newest_last id ps in
    elim (cases_Bool (same_hash (txid p.tx) id)) [
      | inl y ↦ rw (y, rest) (by (filter (λ (q : Position). same_hash (txid q.tx) id) ps))
      | inr n ↦ rw (n, rest) (none (last (filter (λ (q : Position). same_hash (txid q.tx) id) ps)))
    ]
  where
    some : (q : Position) (qs : List Position) → option_or (last (q ∷ qs)) (Some p) ≡ last (q ∷ qs)
    some q [] = refl
    some q (r ∷ rs) = some r rs

    by : (qs : List Position) → option_or (last qs) (Some p) ≡ last (p ∷ qs)
    by [] = refl
    by (q ∷ qs) = some q qs

    none : (r : Option Position) → option_or r None ≡ r
    none None = refl
    none (Some q) = refl

pub newest_at : (chain : Chain) (id : Hash32) → option_and_then (λ n. slice_get (positions chain) n) (newest_tx id (lists chain).txs) ≡ asked.newest id (positions chain)
newest_at chain id = newest_position id (positions chain) ∙ sym (newest_last id (positions chain))

-- 2. Where it stands

-- the position of that number, and what the lists tell of it
record Told (txs : List ListedTx) (ps : List Position) (n : ℕ) : Type 0 where
  pub p : Position
  pub here : slice_get ps n ≡ Some p
  pub height : (get_or txs n no_tx).height ≡ p.height
  pub start : (get_or txs n no_tx).start ≡ p.start
  pub len : (get_or txs n no_tx).len ≡ length (full_encoding p.tx)

told : (a b n : ℕ) (ps : List Position) → n < length (txs_from a b ps) → Told (txs_from a b ps) ps n
told a b n [] lt = absurd (omega arith)
told a b zero (p ∷ ps) lt = record { p = p; here = refl; height = refl; start = refl; len = refl }
told a b (suc n) (p ∷ ps) lt =
    let rest = told (a + length p.tx.outputs) (b + length (spending_inputs p.tx)) n ps (omega arith) in
    record { p = rest.p; here = rest.here; height = rest.height; start = rest.start; len = rest.len }

-- the block of the position of that number, where the first has these heights and numbers
record InBlock (height first n : ℕ) (chain : Chain) (coins : List Coin) (p : Position) : Type 0 where
  pub h : ℕ
  pub height_is : p.height ≡ height + h
  pub row : ListedBlock
  pub row_at : slice_get (listed_blocks_from height first chain coins) h ≡ Some row
  pub block : Placed
  pub block_at : slice_get chain h ≡ Some block
  pub place_is : row.place ≡ block.place
  pub number_is : first + n ≡ row.first_tx + p.pos
  pub within : p.pos < row.txs

-- a position of one block
record AtPos (height pos n : ℕ) (p : Position) : Type 0 where
  pub height_is : p.height ≡ height
  pub pos_is : p.pos ≡ pos + n

at_pos : (height pos start : ℕ) (ts : List Tx) (coins : List Coin) (n : ℕ) (p : Position) (rest : List Position) → n < length ts
    → slice_get (positions_in height pos start ts coins ++ rest) n ≡ Some p → AtPos height pos n p
at_pos height pos start [] coins n p rest lt e = absurd (omega arith)
at_pos height pos start (t ∷ ts) coins zero p rest lt e =
    let same : p ≡ record { height = height; pos = pos; start = start; tx = t; before = coins } = cc in
    let pos_same : p.pos ≡ pos = ap (λ (q : Position). q.pos) same in
    record { height_is = ap (λ (q : Position). q.height) same; pos_is = omega (arith, pos_same) }
at_pos height pos start (t ∷ ts) coins (suc n) p rest lt e =
    let more = at_pos height (pos + 1) (start + length (full_encoding t)) ts (coins_after height t coins) n p rest (omega arith) e in
    record { height_is = more.height_is; pos_is = omega (arith, more.pos_is) }

past_block : (height pos start : ℕ) (ts : List Tx) (coins : List Coin) (n : ℕ) (rest : List Position) → length ts ≤ n
    → slice_get (positions_in height pos start ts coins ++ rest) n ≡ slice_get rest (n - length ts)
past_block height pos start [] coins n rest le = let same : n - 0 ≡ n = omega arith in ap (slice_get rest) (sym same)
past_block height pos start (t ∷ ts) coins zero rest le = absurd (omega arith)
past_block height pos start (t ∷ ts) coins (suc n) rest le =
    let same : n - length ts ≡ suc n - length (t ∷ ts) = omega arith in
    past_block height (pos + 1) (start + length (full_encoding t)) ts (coins_after height t coins) n rest (omega arith) ∙ ap (slice_get rest) same

in_block : (height first n : ℕ) (chain : Chain) (coins : List Coin) (p : Position) → slice_get (positions_from height chain coins) n ≡ Some p → InBlock height first n chain coins p
in_block height first n [] coins p e = absurd cc
in_block height first n (b ∷ bs) coins p e =
    let ts = b.block.txs in
    let after = coins_after_all height ts coins in
    let rest = positions_from (height + 1) bs after in
    elim (cases_lt n (length ts)) [
      | inl lt ↦
          let at = at_pos height 0 (first_start ts) ts coins n p rest lt e in
          record {
            h = 0;
            height_is = omega (arith, at.height_is);
            row = listed_block first _ b;
            row_at = refl;
            block = b;
            block_at = refl;
            place_is = refl;
            number_is = omega (arith, at.pos_is);
            within = omega (arith, at.pos_is, lt);
          }
      | inr le ↦
          let past = past_block height 0 (first_start ts) ts coins n rest le in
          let more = in_block (height + 1) (first + length ts) (n - length ts) bs after p (sym past ∙ e) in
          record {
            h = suc more.h;
            height_is = omega (arith, more.height_is);
            row = more.row;
            row_at = more.row_at;
            block = more.block;
            block_at = more.block_at;
            place_is = more.place_is;
            number_is = omega (arith, more.number_is, le);
            within = more.within;
          }
    ]

-- 3. The spot

abbrev spot_from : ℕ → ℕ → Place → ℕ → ℕ → Spot
spot_from height pos place start len = record { height = height; pos = pos; place = place; start = start; len = len }

same_spot : (h h' i i' : ℕ) (l l' : Place) (s s' n n' : ℕ) → h ≡ h' → i ≡ i' → l ≡ l' → s ≡ s' → n ≡ n' → spot_from h i l s n ≡ spot_from h' i' l' s' n'
same_spot h h' i i' l l' s s' n n' a b c d e = cc

-- a transaction with its row stands in its block
pub in_its_block : (count : ℕ) (chain : Chain) (x : NumberedTx)
    → Some x.row ≡ option_map tx_fields (slice_get (rows_from (tx_row count (lists chain).txs) 0 (lists chain).txs) x.number)
    → IsInItsBlock x (listed_blocks chain)
in_its_block count chain x e b at =
    let txs = (lists chain).txs in
    let lt = row_within count txs x.number x.row e in
    let t = told 0 0 x.number (positions chain) lt in
    let p = in_block 0 0 x.number chain [] t.p t.here in
    let height_is : x.row.height ≡ p.h = ap (λ (r : TxRow). r.height) (listed_row count txs x.number x.row e) ∙ t.height ∙ p.height_is ∙ (omega arith) in
    let same : p.row ≡ b = one p.row b (sym p.row_at ∙ ap (slice_get (listed_blocks chain)) (sym height_is) ∙ at) in
    let pos_is : x.number - p.row.first_tx ≡ t.p.pos = (let n = p.number_is in omega (arith, n)) in
    subst (λ (r : ListedBlock). x.number - r.first_tx < r.txs) same (let m = p.within in omega (arith, pos_is, m))
  where
    one : (a c : ListedBlock) → Some a ≡ Some c → a ≡ c
    one a c f = cc

-- a transaction with its row stands where the newest position with its txid does
pub spot_told : (count : ℕ) (chain : Chain) (id : Hash32) (x : NumberedTx) → Some x.number ≡ newest_tx id (lists chain).txs
    → Some x.row ≡ option_map tx_fields (slice_get (rows_from (tx_row count (lists chain).txs) 0 (lists chain).txs) x.number)
    → option_map (spot_in x) (slice_get (listed_blocks chain) x.row.height) ≡ asked.find_tx chain id
spot_told count chain id x newest e =
    let txs = (lists chain).txs in
    let lt = row_within count txs x.number x.row e in
    let row_is = listed_row count txs x.number x.row e in
    let t = told 0 0 x.number (positions chain) lt in
    let b = in_block 0 0 x.number chain [] t.p t.here in
    let height_is : x.row.height ≡ b.h = ap (λ (r : TxRow). r.height) row_is ∙ t.height ∙ b.height_is ∙ (omega arith) in
    let row_at : slice_get (listed_blocks chain) x.row.height ≡ Some b.row = ap (slice_get (listed_blocks chain)) height_is ∙ b.row_at in
    let at : t.p.height ≡ b.h = b.height_is ∙ omega arith in
    let block_at : slice_get chain t.p.height ≡ Some b.block = ap (slice_get chain) at ∙ b.block_at in
    let found : asked.newest id (positions chain) ≡ Some t.p =
    sym (newest_at chain id) ∙ ap (option_and_then (λ n. slice_get (positions chain) n)) (sym newest) ∙ t.here in
    let pos_is : x.number - b.row.first_tx ≡ t.p.pos = (let n = b.number_is in omega (arith, n)) in
    let start_is = ap (λ (r : TxRow). r.start) row_is ∙ t.start in
    let len_is = ap (λ (r : TxRow). r.len) row_is ∙ t.len in
    ap (option_map (spot_in x)) row_at
    ∙ ap Some (same_spot x.row.height t.p.height (x.number - b.row.first_tx) t.p.pos b.row.place b.block.place x.row.start t.p.start x.row.len (length (full_encoding t.p.tx))
    (ap (λ (r : TxRow). r.height) row_is ∙ t.height) pos_is b.place_is start_is len_is)
    ∙ sym (ap (option_and_then (λ (p : Position). option_map (asked.spot_of p) (asked.place_at chain p.height))) found
    ∙ ap (λ (o : Option Placed). option_map (asked.spot_of t.p) (option_map (λ (c : Placed). c.place) o)) block_at)

pub none_told : (chain : Chain) (id : Hash32) → None ≡ newest_tx id (lists chain).txs → None ≡ asked.find_tx chain id
none_told chain id none =
    ap (option_and_then (λ (p : Position). option_map (asked.spot_of p) (asked.place_at chain p.height)))
    (ap (option_and_then (λ n. slice_get (positions chain) n)) none ∙ newest_at chain id)

-- 4. How many rows are read

filtered : (count : ℕ) (h : Hash32) (hs : List Hash32)
    → length (filter (share_bucket count h) hs) ≡ asked.in_bucket count h.0 (map (λ (x : Hash32). x.0) hs)
unfolding bucket_in
filtered count h [] = refl
filtered count h (x ∷ xs) =
    let rest = filtered count h xs in
    elim (cases_Bool (share_bucket count h x)) [
      | inl y ↦ rw y (ap suc rest)
      | inr n ↦ rw n rest
    ]

in_bucket : (count : ℕ) (h : Hash32) (hs : List Hash32) → bucket_size count h hs ≡ asked.in_bucket count h.0 (map (λ (x : Hash32). x.0) hs)
in_bucket count h hs = sym (length-filter (share_bucket count h) hs) ∙ filtered count h hs

map_twice : (ps : List Position) → map (λ (x : Hash32). x.0) (map id_in ps) ≡ map (λ (p : Position). (txid p.tx).0) ps
map_twice [] = refl
map_twice (p ∷ ps) = ap (λ (ls : List (List ℕ)). (txid p.tx).0 ∷ ls) (map_twice ps)

pub in_bucket_told : (count : ℕ) (chain : Chain) (id : Hash32) → bucket_size count id (map id_of (lists chain).txs) ≡ asked.txs_in_bucket chain count id.0
in_bucket_told count chain id =
    ap (bucket_size count id) (ids_listed 0 0 (positions chain)) ∙ in_bucket count id (map id_in (positions chain))
    ∙ ap (asked.in_bucket count id.0) (map_twice (positions chain))

-- 5. From rows that stand for a chain

-- where a block has this row, the spot is that by its fields
pub spot_by_row : (x : NumberedTx) (bs : List ListedBlock) (h pos : ℕ) (block : BlockRow) → Some block ≡ option_map block_fields (slice_get bs h)
    → h ≡ x.row.height → IsInItsBlock x bs → block.txs < 2 ^ 32 → pos ≡ min (x.number - block.first_tx) 4294967295
    → Some (spot_from x.row.height pos block.place x.row.start x.row.len) ≡ option_map (spot_in x) (slice_get bs h)
spot_by_row x bs h pos block e high within fits is = by (slice_get bs h) refl e
  where
    by : (s : Option ListedBlock) → slice_get bs h ≡ s → Some block ≡ option_map block_fields s
        → Some (spot_from x.row.height pos block.place x.row.start x.row.len) ≡ option_map (spot_in x) s
    by None at f = absurd cc
    by (Some b) at f =
        let row_is : block ≡ block_fields b = cc in
        let first_is : block.first_tx ≡ b.first_tx = ap (λ (r : BlockRow). r.first_tx) row_is in
        let txs_is : block.txs ≡ b.txs = ap (λ (r : BlockRow). r.txs) row_is in
        let few = within b (ap (slice_get bs) (sym high) ∙ at) in
        let pos_is : pos ≡ x.number - b.first_tx = omega (arith, few, fits, txs_is, first_is, is) in
        ap₂ (λ (p : ℕ) (l : Place). Some (spot_from x.row.height p l x.row.start x.row.len)) pos_is (ap (λ (r : BlockRow). r.place) row_is)

pub newest_in : (heads : ℕ) (chain : Chain) (shown : held.Tables) (id : Hash32) (f : Option NumberedTx) → 0 < heads → HoldChain heads shown chain
    → ((counts : HeadCounts) (bs : List ListedBlock) (l : Lists) → Hold counts bs l shown → 0 < counts.txs → option_map found_number f ≡ newest_tx id l.txs)
    → option_map found_number f ≡ newest_tx id (lists chain).txs
newest_in heads chain shown id f some hold newest = newest (in_both heads) (listed_blocks chain) (lists chain) hold some

pub rows_in : (heads : ℕ) (chain : Chain) (shown : held.Tables) (id : Hash32) (before after : ℕ) → 0 < heads → HoldChain heads shown chain
    → ((counts : HeadCounts) (bs : List ListedBlock) (l : Lists) → Hold counts bs l shown → 0 < counts.txs → after ≤ before + 1 + bucket_size counts.txs id (map id_of l.txs))
    → after ≤ before + 1 + asked.txs_in_bucket chain (buckets_in shown) id.0
rows_in heads chain shown id before after some hold steps =
    let few = steps (in_both heads) (listed_blocks chain) (lists chain) hold some in
    let many = in_bucket_told heads chain id ∙ ap (λ (k : ℕ). asked.txs_in_bucket chain k id.0) (sym (heads_there heads shown chain hold)) in
    subst (λ (k : ℕ). after ≤ before + 1 + k) many few

-- What holds of an index that stands for a chain.
use Rattle.std.specs.Prelude.{◌≡◌, ℕ, suc, ◌+◌, List, [], ◌∷◌, length, Option}
use Rattle.std.proofs.Common.{ap, sym, ◌∙◌, refl}
use Rattle.std.proofs.lemmas.List.{length-map}
use Rattle.el_base.specs.declared.hash.Hash32.{Hash32}
use Rattle.el_chain.specs.declared.coin.Coin.{Coin}
use Rattle.el_chain.specs.Chains.{Chain}
use Rattle.el_chain.specs.Coins.{coins_after_all}
use Rattle.el_chain.specs.Faults.{IsGood}
use Rattle.el_model.specs.Queries.{height_of, tip_of}
use Rattle.el_row_formats.specs.Tables.{Tables}
use Rattle.el_row_formats.specs.RowBytes.{block_row_bytes}
use Rattle.el_row_formats.specs.declared.table.Table.TheVariants as table
use Rattle.el_tables.specs.ChainLists.{listed_blocks_from}
use Rattle.el_schema.specs.Rows.{block_fields}
use Rattle.el_index.specs.Means.{top, AreRowsOf, IsIndexOf, Means}

-- each block of a chain is listed
listed : (height first : ℕ) (chain : Chain) (coins : List Coin)
    → length (listed_blocks_from height first chain coins) ≡ length chain
listed height first [] coins = refl
listed height first (b ∷ bs) coins =
    ap suc (listed (height + 1) (first + length b.block.txs) bs (coins_after_all height b.block.txs coins))

-- the rows of an index have one for each block of its chain
pub block_rows : (heads : ℕ) (rows : Tables) (chain : Chain) → AreRowsOf heads rows chain
    → length (rows table.Blocks) ≡ length chain
block_rows heads rows chain stand =
    ap length (stand.encode.each table.Blocks)
    ∙ length-map stand.tables.blocks (λ b. block_row_bytes (block_fields b))
    ∙ ap length stand.stand.blocks ∙ listed 0 0 chain []

-- the height is that of the last block
top_is : (chain : Chain) → top (length chain) ≡ height_of chain
top_is [] = refl
top_is (b ∷ bs) = refl

-- where the store counts its blocks, their number gives the chain's height
pub height_is : (tells : Type 0) (heads : ℕ) (rows : Tables) (kept : Option Hash32) (count : ℕ)
    (chain : Chain) → (tells → length (rows table.Blocks) ≡ count) → IsIndexOf tells heads rows kept chain
    → top count ≡ height_of chain
height_is tells heads rows kept count chain counted stands =
    ap top (sym (counted stands.told) ∙ block_rows heads rows chain stands.stand) ∙ top_is chain

-- the hash that is kept is that of the chain's last block
pub tip_is : (tells : Type 0) (heads : ℕ) (rows : Tables) (kept : Option Hash32) (chain : Chain)
    → IsIndexOf tells heads rows kept chain → kept ≡ tip_of chain
tip_is tells heads rows kept chain stands = stands.last

-- an index stands for good chains alone
pub good : (tells : Type 0) (heads : ℕ) (rows : Tables) (kept : Option Hash32) (chain : Chain)
    → IsIndexOf tells heads rows kept chain → IsGood chain
good tells heads rows kept chain stands = stands.stand.stand.good

-- what is left that shows the index's rows stands for its chain
pub leaves_own : {C : Type 0} → (shows : C → ℕ → Tables → Type 0) (tells : Type 0) (heads : ℕ)
    (rows : Tables) (kept : Option Hash32) (chain : Chain) (left : C)
    → IsIndexOf tells heads rows kept chain → shows left heads rows → Means shows left chain
leaves_own shows tells heads rows kept chain left stands shown = (heads, rows, shown, stands.stand)

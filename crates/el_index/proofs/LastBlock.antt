-- The hash of a chain's last block.
use Rattle.std.proofs.Common.{◌≡◌, ℕ, zero, suc, ◌-◌, ◌<◌, List, [], ◌∷◌, length, None, Some, refl, ap, ◌∙◌, arith}
use Rattle.el_base.specs.Hashing.{sha256d}
use Rattle.el_base.specs.declared.hash.Hash32.{Hash32}
use Rattle.el_block.specs.Blocks.{block_hash}
use Rattle.el_tx.specs.Headers.{header_encoding}
use Rattle.el_chain.specs.Chains.{Chain, tip_after, zero_hash}
use Rattle.el_model.specs.Queries.{tip_of, header_at}
use Rattle.el_row_formats.specs.Tables.{Tables}
use Rattle.el_row_formats.specs.declared.table.Table.TheVariants as table
use Rattle.el_index.specs.Means.{AreRowsOf}
use Rattle.el_index.specs.within.Laws.{block_rows}

pub no_tip : (heads : ℕ) (rows : Tables) (chain : Chain) → AreRowsOf heads rows chain → length (rows table.Blocks) ≡ 0 → None ≡ tip_of chain
no_tip heads rows [] stand none = refl
no_tip heads rows (b ∷ bs) stand none = absurd (let e = block_rows heads rows (b ∷ bs) stand in omega arith)

-- the hash of the header at the last height is that of the last block
last_tip : (before : Hash32) (chain : Chain) (k : ℕ) (bytes : List ℕ) → length chain ≡ suc k → header_at chain k ≡ Some bytes → record { 0 = sha256d bytes } ≡ tip_after before chain
last_tip before [] k bytes size is = absurd (let e : 0 ≡ suc k = size in omega arith)
last_tip before (b ∷ []) zero bytes size is = let e : header_encoding b.block.header ≡ bytes = cc in rw (← e) refl
last_tip before (b ∷ []) (suc k) bytes size is = absurd (let e : 1 ≡ suc (suc k) = size in omega arith)
last_tip before (b ∷ d ∷ chain) zero bytes size is = absurd (let e : length (b ∷ d ∷ chain) ≡ 1 = size in omega arith)
last_tip before (b ∷ d ∷ chain) (suc k) bytes size is = last_tip (block_hash b.block.header) (d ∷ chain) k bytes (omega (arith, size)) is

pub header_tip : (heads : ℕ) (rows : Tables) (chain : Chain) (count : ℕ) (bytes : List ℕ) (hash : Hash32) → AreRowsOf heads rows chain → count ≡ length (rows table.Blocks) → 0 < count → header_at chain (count - 1) ≡ Some bytes
    → hash.0 ≡ sha256d bytes → Some hash ≡ tip_of chain
header_tip heads rows [] count bytes hash stand is some at hashed = absurd (let e = block_rows heads rows [] stand in omega arith)
header_tip heads rows (b ∷ bs) count bytes hash stand is some at hashed =
    let e = block_rows heads rows (b ∷ bs) stand in
    ap (λ (h : List ℕ). Some (record { 0 = h })) hashed ∙ ap Some (last_tip zero_hash (b ∷ bs) (count - 1) bytes (omega (arith, e, is, some)) at)

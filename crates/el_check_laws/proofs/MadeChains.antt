-- Blocks that are made one after the other, where the branch of each height is given.
use Rattle.std.proofs.Common.{◌≡◌, ℕ, zero, suc, ◌+◌, ◌<◌, ◌≤◌, nat_lt, if◌then◌else◌, List, [], ◌∷◌, ◌++◌, length, refl, sym, ap, ◌∙◌, arith, lt-ltb, le-ltb, subst}
use Rattle.std.specs.Prelude.{⊤}
use Rattle.el_base.specs.declared.hash.Hash32.{Hash32}
use Rattle.el_tx.specs.declared.types.Tx.{Tx}
use Rattle.el_block.specs.Blocks.{block_hash}
use Rattle.el_block.specs.declared.block.Block.{Block}
use Rattle.el_gen.specs.Generated.{coinbase, spend, block}
use Rattle.el_gen.specs.MadeFile.{first_output, halves, made_txs, made_block, branch_blocks, last_block_hash, no_block, first_branch, left_out, fork, fork_hash, side_branch}

-- the coinbase of a height
abbrev pub coinbase_at : (ℕ → ℕ) → ℕ → Tx
coinbase_at of height = coinbase height (of height) 101

-- the spend of it in the next block
abbrev pub spend_after : (ℕ → ℕ) → ℕ → Tx
spend_after of height = spend (first_output (coinbase_at of height) ∷ []) (halves (suc height))

-- the transactions of the block of a height
abbrev pub txs_at : (ℕ → ℕ) → ℕ → List Tx
txs_at of zero = coinbase_at of 0 ∷ []
txs_at of (suc height) = coinbase_at of (suc height) ∷ spend_after of height ∷ []

-- the block of a height, after one with that hash
abbrev pub block_at_height : (ℕ → ℕ) → Hash32 → ℕ → Block
block_at_height of previous height = block previous height (of height) (txs_at of height)

-- blocks of such heights, from one on, each on the one before it
abbrev pub AreMade : (ℕ → ℕ) → Hash32 → ℕ → List Block → Type 0
AreMade of previous height [] = ⊤
AreMade of previous height (b ∷ bs) =
    (b ≡ block_at_height of previous height) × AreMade of (block_hash b.header) (suc height) bs

-- ---- a branch

txs_are : (of : ℕ → ℕ) (before branch height : ℕ) → of height ≡ branch → ((h : ℕ) → height ≡ suc h → of h ≡ before)
    → made_txs before branch height ≡ txs_at of height
txs_are of before branch zero own first = rw own refl
txs_are of before branch (suc h) own first = let e = first h refl in rw (own, e) refl

block_is : (of : ℕ → ℕ) (previous : Hash32) (before branch height : ℕ) → of height ≡ branch → ((h : ℕ) → height ≡ suc h → of h ≡ before)
    → made_block previous before branch height ≡ block_at_height of previous height
block_is of previous before branch height own first =
    ap (λ (ts : List Tx). block previous height branch ts) (txs_are of before branch height own first)
    ∙ ap (λ (b : ℕ). block previous height b (txs_at of height)) (sym own)

pub branch_made : (of : ℕ → ℕ) (previous : Hash32) (before branch height n : ℕ) → ((h : ℕ) → height ≡ suc h → of h ≡ before)
    → ((h : ℕ) → height ≤ h → h < height + n → of h ≡ branch) → AreMade of previous height (branch_blocks previous before branch height n)
branch_made of previous before branch height zero first own = tt
branch_made of previous before branch height (suc n) first own = (
  block_is of previous before branch height here first,
  subst (λ (k : ℕ). AreMade of hash (suc height) (branch_blocks hash branch branch k n)) (let e : suc height ≡ height + 1 = omega arith in e)
      (branch_made of hash branch branch (suc height) n
      (λ h is. let e : h ≡ height = omega arith in rw e here)
      (λ h le lt. own h (omega arith) (omega arith))),
)
  where
    hash : Hash32
    hash = block_hash (made_block previous before branch height).header

    here : of height ≡ branch
    here = own height (omega arith) (omega arith)

pub length-branch : (previous : Hash32) (before branch height n : ℕ) → length (branch_blocks previous before branch height n) ≡ n
length-branch previous before branch height zero = refl
length-branch previous before branch height (suc n) =
    ap suc (length-branch (block_hash (made_block previous before branch height).header) branch branch (height + 1) n)

pub joined_made : (of : ℕ → ℕ) (previous : Hash32) (height : ℕ) (xs ys : List Block) → AreMade of previous height xs
    → AreMade of (last_block_hash previous xs) (height + length xs) ys → AreMade of previous height (xs ++ ys)
joined_made of previous height [] ys a b =
    subst (λ (k : ℕ). AreMade of previous k ys) (let e : height + 0 ≡ height = omega arith in e) b
joined_made of previous height (x ∷ xs) ys a b = (
  a.0,
  joined_made of (block_hash x.header) (suc height) xs ys a.1
      (subst (λ (k : ℕ). AreMade of (last_block_hash (block_hash x.header) xs) k ys) (let e : height + suc (length xs) ≡ suc height + length xs = omega arith in e) b),
)

-- ---- both branches

-- every height is of the first branch
abbrev pub first_of : ℕ → ℕ
first_of height = 0

-- those from the fork on are of the side branch
abbrev pub side_of : ℕ → ℕ → ℕ
side_of at height = if nat_lt height at then 0 else 1

pub below_fork : (at height : ℕ) → height < at → side_of at height ≡ 0
below_fork at height lt = rw (lt-ltb height at lt) refl

pub from_fork : (at height : ℕ) → at ≤ height → side_of at height ≡ 1
from_fork at height le = rw (le-ltb height at le) refl

pub first_made : (count : ℕ) → AreMade first_of no_block 0 (first_branch count)
first_made count = branch_made first_of no_block 0 0 0 count (λ h is. refl) (λ h le lt. refl)

pub side_branch_made : (count : ℕ) → 1 ≤ fork count → AreMade (side_of (fork count)) (fork_hash count) (fork count) (side_branch count)
side_branch_made count some =
    branch_made (side_of (fork count)) (fork_hash count) 0 1 (fork count) (left_out count + 1)
    (λ h is. below_fork (fork count) h (omega arith)) (λ h le lt. from_fork (fork count) h le)

pub side_made : (count : ℕ) → 1 ≤ fork count
    → AreMade (side_of (fork count)) no_block 0 (first_branch (fork count) ++ side_branch count)
side_made count some =
    let long = length-branch no_block 0 0 0 (fork count) in
    let at : fork count ≡ 0 + length (first_branch (fork count)) = omega (arith, long) in
    joined_made (side_of (fork count)) no_block 0 (first_branch (fork count)) (side_branch count)
    (branch_made (side_of (fork count)) no_block 0 0 0 (fork count) (λ h is. absurd (omega arith)) (λ h le lt. below_fork (fork count) h (omega (arith, lt))))
    (subst (λ (k : ℕ). AreMade (side_of (fork count)) (fork_hash count) k (side_branch count)) at (side_branch_made count some))

-- The file of two branches that one number determines, for trial runs. The first branch stands on no block.
-- The side branch leaves it some blocks before its end, and has one block more.
use Rattle.std.specs.Prelude.{ℕ, zero, suc, ◌+◌, ◌-◌, ◌%◌, min, List, [], ◌∷◌, ◌++◌, flat_map, replicate}
use Rattle.el_base.specs.declared.hash.Hash32.{Hash32}
use Rattle.el_tx.specs.Hashing.{txid}
use Rattle.el_tx.specs.declared.types.Outpoint.{Outpoint}
use Rattle.el_tx.specs.declared.types.Tx.{Tx}
use Rattle.el_block.specs.Blocks.{block_hash}
use Rattle.el_block.specs.declared.block.Block.{Block}
use Rattle.el_gen.specs.Generated.{coinbase, spend, block, block_record}

-- the outpoint of a transaction's first output
abbrev pub first_output : Tx → Outpoint
first_output t = record { txid = txid t; index = 0 }

-- the two halves of a coinbase's 50 bitcoin, to the scripts of the height modulo 100 and of 100
abbrev pub halves : ℕ → List (ℕ × ℕ)
halves height = (2500000000, height % 100) ∷ (2500000000, 100) ∷ []

-- The transactions of the block of that height of a branch: its coinbase, to the script of 101, and above the
-- first block the spend of the coinbase of the block before it, which is of the branch `before`.
abbrev pub made_txs : ℕ → ℕ → ℕ → List Tx
made_txs before branch zero = coinbase 0 branch 101 ∷ []
made_txs before branch (suc h) =
    coinbase (suc h) branch 101 ∷ spend (first_output (coinbase h before 101) ∷ []) (halves (suc h)) ∷ []

-- that block, after one with that hash
abbrev pub made_block : Hash32 → ℕ → ℕ → ℕ → Block
made_block previous before branch height = block previous height branch (made_txs before branch height)

-- So many blocks of a branch, from that height on. The first stands on a block with the hash `previous` that
-- is of the branch `before`, and each other on the one before it.
abbrev pub branch_blocks : Hash32 → ℕ → ℕ → ℕ → ℕ → List Block
branch_blocks previous before branch height zero = []
branch_blocks previous before branch height (suc n) =
    made_block previous before branch height
    ∷ branch_blocks (block_hash (made_block previous before branch height).header) branch branch
    (height + 1) n

-- the hash of the last of these blocks; of none it is the given one
abbrev pub last_block_hash : Hash32 → List Block → Hash32
last_block_hash previous [] = previous
last_block_hash previous (b ∷ bs) = last_block_hash (block_hash b.header) bs

-- the hash that a first block names as the one before: 32 bytes 0
abbrev pub no_block : Hash32
no_block = record { 0 = replicate 32 0 }

-- the first so many blocks of the first branch
abbrev pub first_branch : ℕ → List Block
first_branch count = branch_blocks no_block 0 0 0 count

-- how many of the last blocks of a first branch of so many the side branch leaves out: five, or all but the
-- first
abbrev pub left_out : ℕ → ℕ
left_out count = min 5 (count - 1)

-- the height of the side branch's first block
abbrev pub fork : ℕ → ℕ
fork count = count - left_out count

-- the hash of the block that both branches have last
abbrev pub fork_hash : ℕ → Hash32
fork_hash count = last_block_hash no_block (first_branch (fork count))

-- the side branch of a first branch of so many blocks
abbrev pub side_branch : ℕ → List Block
side_branch count = branch_blocks (fork_hash count) 0 1 (fork count) (left_out count + 1)

-- the hash of the last block of the first branch
abbrev pub first_tip : ℕ → Hash32
first_tip count = last_block_hash no_block (first_branch count)

-- the hash of the last block of the side branch
abbrev pub side_tip : ℕ → Hash32
side_tip count = last_block_hash (fork_hash count) (side_branch count)

-- the bytes that begin a record of the network regtest (Bitcoin's message start)
abbrev pub regtest_magic : List ℕ
regtest_magic = 0xfa ∷ 0xbf ∷ 0xb5 ∷ 0xda ∷ []

-- the records of blocks, one after the other
abbrev pub block_records : List Block → List ℕ
block_records blocks = flat_map (block_record regtest_magic) blocks

-- the file: the records of the first branch, of so many blocks, and then those of the side branch
abbrev pub made_file : ℕ → List ℕ
made_file count = block_records (first_branch count) ++ block_records (side_branch count)

-- How many bytes the records of made blocks have.
use Rattle.std.proofs.Common.{◌≡◌, ℕ, suc, ◌+◌, ◌-◌, ◌*◌, ◌≤◌, List, [], ◌∷◌, length, length-append, refl, ap, ◌∙◌, arith, subst}
use Rattle.std.proofs.lemmas.List.Concat.{flat_map-cons}
use Rattle.el_base.specs.declared.hash.Hash32.{Hash32}
use Rattle.el_block.specs.Blocks.{block_encoding, block_hash}
use Rattle.el_block.specs.declared.block.Block.{Block}
use Rattle.el_gen.specs.Generated.{block_record}
use Rattle.el_gen.specs.MadeFile.{no_block, made_file, first_branch, left_out, fork, fork_hash, side_branch, regtest_magic, block_records}
use Rattle.el_check_laws.proofs.MadeChains.{AreMade, first_of, side_of, first_made, side_branch_made, length-branch}
use Rattle.el_check_laws.proofs.MadeBlocks.{IsHash, none_is_hash, hash_is_hash, size_at, block_size}
use Rattle.el_check_laws.proofs.BothBranches.{fork_within, length-first}
use Rattle.el_check_laws.proofs.PlacedChains.{last_of_some, all_hashes}

record_and_rest : (of : ℕ → ℕ) (previous : Hash32) (height : ℕ) (b : Block) (bs : List Block) → IsHash previous → AreMade of previous height (b ∷ bs)
    → length (block_records (b ∷ bs)) ≡ 8 + size_at height + length (block_records bs)
record_and_rest of previous height b bs hash made =
    let both = ap length (flat_map-cons (block_record regtest_magic) b bs) ∙ length-append (block_record regtest_magic b) (block_records bs) in
    let own : length (block_record regtest_magic b) ≡ 8 + length (block_encoding b) = omega arith in
    let size = ap (λ (x : Block). length (block_encoding x)) made.0 ∙ block_size of previous height hash in
    omega (arith, both, own, size)

-- above the first block
records_above : (of : ℕ → ℕ) (previous : Hash32) (below : ℕ) (bs : List Block) → IsHash previous → AreMade of previous (suc below) bs
    → length (block_records bs) ≡ 239 * length bs
records_above of previous below [] hash made = refl
records_above of previous below (b ∷ bs) hash made =
    let one = record_and_rest of previous (suc below) b bs hash made in
    let rest = records_above of (block_hash b.header) (suc below) bs (hash_is_hash b.header) made.1 in
    omega (arith, one, rest)

-- from the first block on
records_first : (of : ℕ → ℕ) (bs : List Block) → AreMade of no_block 0 bs → 1 ≤ length bs → length (block_records bs) + 79 ≡ 239 * length bs
records_first of [] made some = absurd (omega arith)
records_first of (b ∷ bs) made some =
    let one = record_and_rest of no_block 0 b bs none_is_hash made in
    let rest = records_above of (block_hash b.header) 0 bs (hash_is_hash b.header) made.1 in
    omega (arith, one, rest)

pub file_size : (count : ℕ) → 1 ≤ count → length (made_file count) ≡ 160 + 239 * (count + left_out count)
file_size count some =
    let both = length-append (block_records (first_branch count)) (block_records (side_branch count)) in
    let long = length-first count in
    let one = records_first first_of (first_branch count) (first_made count) (omega (arith, long, some)) in
    let fork_long = length-first (fork count) in
    let within = (fork_within count some).0 in
    let hash = last_of_some IsHash no_block (first_branch (fork count)) (omega (arith, fork_long, within)) (all_hashes (first_branch (fork count))) in
    let at : fork count ≡ suc (fork count - 1) = omega (arith, within) in
    let two = records_above (side_of (fork count)) (fork_hash count) (fork count - 1) (side_branch count) hash
    (subst (λ (k : ℕ). AreMade (side_of (fork count)) (fork_hash count) k (side_branch count)) at (side_branch_made count within)) in
    let side_long = length-branch (fork_hash count) 0 1 (fork count) (left_out count + 1) in
    omega (arith, both, long, one, two, side_long)

-- The numbers of the summary of a check, which the number of blocks of the made file's first branch tells,
-- and where a check leads.
use Rattle.std.specs.Prelude.{◌≡◌, ℕ, ◌+◌, ◌-◌, ◌*◌, ◌/◌, ◌++◌, length}
use Rattle.el_gen.specs.MadeFile.{made_file, first_branch, fork, side_branch}
use Rattle.el_check_chain.specs.Checked.{Way, summary_at_end}
use Rattle.el_check_chain.specs.declared.summary.Summary.{Summary}
use Rattle.el_check_laws.specs.Differing.{blocks_of}

-- For a first branch of so many blocks: its last height; a transaction in the first block and two in each
-- other; an output in the first block and three in each other; a move for each 16 blocks that the first line
-- puts in, rounded up, and one for each of the two other lines; half a coinbase for each block but the first;
-- and the size of the file.
abbrev pub numbers : ℕ → Summary
numbers count = record {
  height = count - 1;
  txs = 2 * count - 1;
  outputs = 3 * count - 2;
  moves = (count + 15) / 16 + 2;
  balance = 2500000000 * (count - 1);
  bytes = length (made_file count);
}

-- The way led along the two branches: its summary has these numbers, it ends in the first branch's chain, and
-- the second tip line led to the side branch's, which leaves the first at the fork.
pub record LedAsMade {count : ℕ} (way : Way count) : Type 0 where
  pub sums : summary_at_end way ≡ numbers count
  pub last : blocks_of way.last.chain ≡ first_branch count
  pub side : blocks_of way.side.chain ≡ first_branch (fork count) ++ side_branch count

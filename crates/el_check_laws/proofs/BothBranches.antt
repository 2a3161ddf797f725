-- The blocks of both branches of a made file are right where the hashes differ.
use Rattle.std.proofs.Common.{◌≡◌, ℕ, ◌+◌, ◌<◌, ◌≤◌, List, ◌++◌, length, length-append, sym, ap, arith, subst, nat_lt, Bool, true, false, if◌then◌else◌}
use Rattle.std.proofs.lemmas.List.{length-map}
use Rattle.el_block.specs.declared.block.Block.{Block}
use Rattle.el_chain.specs.declared.placed.Placed.{Placed}
use Rattle.el_chain.specs.Chains.{Chain}
use Rattle.el_chain.specs.Faults.{IsGood}
use Rattle.el_gen.specs.MadeFile.{no_block, first_branch, left_out, fork, fork_hash, side_branch}
use Rattle.el_check_laws.specs.Differing.{HashesDiffer, blocks_of}
use Rattle.el_check_laws.proofs.MadeChains.{AreMade, first_of, side_of, first_made, side_made, length-branch}
use Rattle.el_check_laws.proofs.MadeCoins.{AreApart}
use Rattle.el_check_laws.proofs.Apart.{are_apart}
use Rattle.el_check_laws.proofs.MadeOrder.{AreRight, made_stand}

-- the side branch's chain from its genesis on
abbrev pub side_chain : ℕ → List Block
side_chain count = first_branch (fork count) ++ side_branch count

pub fork_within : (count : ℕ) → 1 ≤ count → (1 ≤ fork count) × (fork count ≤ count) × (count ≤ fork count + 5)
fork_within count some = (omega arith, omega arith, omega arith)

pub length-first : (count : ℕ) → length (first_branch count) ≡ count
length-first count = length-branch no_block 0 0 0 count

pub length-side : (count : ℕ) → 1 ≤ count → length (side_chain count) ≡ count + 1
length-side count some =
    let both = length-append (first_branch (fork count)) (side_branch count) in
    let one = length-first (fork count) in
    let two = length-branch (fork_hash count) 0 1 (fork count) (left_out count + 1) in
    omega (arith, both, one, two)

side_small : (at height : ℕ) → side_of at height < 256
side_small at height = by (nat_lt height at)
  where
    by : (b : Bool) → (if b then 0 else 1) < 256
    by true = omega arith
    by false = omega arith

pub first_right : (count : ℕ) → count ≤ 20000 → HashesDiffer count → AreRight first_of count
first_right count few differ = record {
  few = omega (arith, few);
  bytes = λ height. omega arith;
  apart = subst (AreApart first_of) (length-first count) (are_apart first_of no_block (first_branch count) (first_made count) differ.first_txs);
  scripts = differ.scripts;
}

pub side_right : (count : ℕ) → 1 ≤ count → count ≤ 20000 → HashesDiffer count → AreRight (side_of (fork count)) (count + 1)
side_right count some few differ = record {
  few = omega (arith, few);
  bytes = side_small (fork count);
  apart = subst (AreApart (side_of (fork count))) (length-side count some)
      (are_apart (side_of (fork count)) no_block (side_chain count) (side_made count (fork_within count some).0) differ.side_txs);
  scripts = differ.scripts;
}

-- as long as its blocks are many
long_as : (chain : Chain) (blocks : List Block) (n : ℕ) → blocks_of chain ≡ blocks → length blocks ≡ n → length chain ≤ n
long_as chain blocks n are long =
    let same = length-map chain (λ (b : Placed). b.block) in
    let e = ap length are in
    omega (arith, same, e, long)

pub first_good : (count : ℕ) (chain : Chain) → 1 ≤ count → count ≤ 20000 → HashesDiffer count → blocks_of chain ≡ first_branch count → IsGood chain
first_good count chain some few differ are =
    (made_stand first_of count chain (first_right count few differ) (subst (AreMade first_of no_block 0) (sym are) (first_made count))
    (long_as chain (first_branch count) count are (length-first count))).0

pub side_good : (count : ℕ) (chain : Chain) → 1 ≤ count → count ≤ 20000 → HashesDiffer count → blocks_of chain ≡ side_chain count → IsGood chain
side_good count chain some few differ are =
    (made_stand (side_of (fork count)) (count + 1) chain (side_right count some few differ)
    (subst (AreMade (side_of (fork count)) no_block 0) (sym are) (side_made count (fork_within count some).0))
    (long_as chain (side_chain count) (count + 1) are (length-side count some))).0

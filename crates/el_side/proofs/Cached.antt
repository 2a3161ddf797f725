-- What was computed once, as blocks are taken back and put in.
use Rattle.std.proofs.Common.{◌≡◌, ℕ, ◌+◌, ◌-◌, ◌/◌, ◌≤◌, ◌++◌, length, take, Option, MatchOption, arith, refl, sym, ap, ◌∙◌, length-append, length-take, take-take}
use Rattle.std.specs.Prelude.{map}
use Rattle.std.proofs.lemmas.List.{take-append-le, take_all, take-map}
use Rattle.el_base.specs.declared.hash.Hash32.{Hash32}
use Rattle.el_block.specs.Blocks.{block_hash}
use Rattle.el_chain.specs.declared.placed.Placed.{Placed}
use Rattle.el_chain.specs.Chains.{Chain}
use Rattle.el_chain.specs.Moves.{shorter}
use Rattle.el_model.specs.Queries.{blocks_in, height_of}
use Rattle.el_model.proofs.Heights.{blocks_are}
use Rattle.el_levels.specs.Kept.{block_hashes}
use Rattle.el_levels.proofs.GroupLemmas.{length-roots}
use Rattle.el_levels.proofs.ReadingLemmas.{hash_count, under_blocks}
use Rattle.el_side.specs.Caching.{CachesStand}
use Rattle.el_side.specs.declared.caches.Caches.{Caches}

-- how many blocks there are
pub count_is : (chain : Chain) (height : Option ℕ) → height ≡ height_of chain → blocks_in height ≡ length chain
count_is chain height is = ap blocks_in is ∙ blocks_are chain

pub taken_back : (caches : Caches) (start chain : Chain) (back same : ℕ) → same ≤ length chain - back → same ≤ caches.same → CachesStand caches start chain
    → CachesStand (record caches { same = same }) start (shorter back chain)
taken_back caches start chain back same few fewer s = record {
  levels = s.levels;
  block = s.block;
  front = sym (take-take same caches.same start fewer) ∙ ap (take same) s.front ∙ take-take same caches.same chain fewer ∙ sym (take-take same (length chain - back) chain few);
  within = omega (arith, few, length-take (length chain - back) chain);
}

-- where none is taken back, the chain stays
pub none_back : (chain : Chain) → shorter 0 chain ≡ chain
none_back chain = take_all (length chain - 0) chain (omega arith)

pub put_in : (caches : Caches) (start chain blocks : Chain) → CachesStand caches start chain → CachesStand caches start (chain ++ blocks)
put_in caches start chain blocks s = record {
  levels = s.levels;
  block = s.block;
  front = s.front ∙ sym (take-append-le caches.same chain blocks s.within);
  within = omega (arith, s.within, length-append chain blocks);
}

-- the blocks that stay have the same hashes
pub same_hashes : (caches : Caches) (start chain : Chain) → CachesStand caches start chain → take caches.same (block_hashes start) ≡ take caches.same (block_hashes chain)
same_hashes caches start chain s =
    take-map hash_of caches.same start ∙ ap (map hash_of) s.front ∙ sym (take-map hash_of caches.same chain)
  where
    hash_of : Placed → Hash32
    hash_of b = block_hash b.block.header

-- the roots reach up to each checkpoint of the chain
pub reached : (caches : Caches) (chain : Chain) (height : Option ℕ) (upto : ℕ) → height ≡ height_of chain → MatchOption height ⊥ (λ (top : ℕ). upto ≤ top)
    → CachesStand caches chain chain → (upto + 1) / 2048 ≤ length caches.levels.roots
reached caches chain height upto is within s =
    let under = under_blocks height upto within in
    let count = hash_count chain height is in
    let all = length-roots (block_hashes chain) in
    let roots = ap length s.levels.roots in
    omega (arith, under, count, all, roots)

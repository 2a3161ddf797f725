-- What a block names that is put in once some of the last blocks are taken back.
use Rattle.std.proofs.Common.{◌≡◌, ℕ, zero, suc, ◌-◌, ◌≤◌, List, [], ◌∷◌, length, take, Some}
use Rattle.std.proofs.Common.{ap, sym, ◌∙◌, subst, arith}
use Rattle.el_base.specs.declared.hash.Hash32.{Hash32}
use Rattle.el_base.specs.Hashing.{sha256d}
use Rattle.el_block.specs.Blocks.{block_hash}
use Rattle.el_chain.specs.declared.moves.Plan.{Plan}
use Rattle.el_chain.specs.Chains.{Chain, tip, tip_after, zero_hash}
use Rattle.el_chain.specs.Headers.{AreLinked}
use Rattle.el_chain.specs.Moves.{FitsChain, shorter}
use Rattle.el_chain.proofs.Chains.{hash_is}
use Rattle.el_model.specs.Queries.{header_at}

-- the block at that height is the last one of as many and one more
ends_there : (before : Hash32) (chain : Chain) (i : ℕ) (text : List ℕ) (hash : Hash32)
    → header_at chain i ≡ Some text → hash.0 ≡ sha256d text → hash ≡ tip_after before (take (suc i) chain)
ends_there before [] i text hash at is = absurd (let e = at in cc)
ends_there before (b ∷ bs) zero text hash at is = hash_is hash b.block.header text is (let e = at in cc)
ends_there before (b ∷ bs) (suc i) text hash at is =
    ends_there (block_hash b.block.header) bs i text hash at is

-- the hash of the last block that is left is what the next one names
pub some_left : (chain : Chain) (back left : ℕ) (text : List ℕ) (hash : Hash32) → left ≡ length chain - back
    → back ≤ length chain → (left ≡ 0 → ⊥) → header_at chain (left - 1) ≡ Some text → hash.0 ≡ sha256d text
    → (back ≤ length chain) × (hash ≡ tip (shorter back chain))
some_left chain back left text hash is within some at same =
    let one : suc (left - 1) ≡ length chain - back = omega (arith, is, some) in
    (within, ends_there zero_hash chain (left - 1) text hash at same ∙ ap (λ n. tip (take n chain)) one)

-- a move after that block fits
pub fits : (p : Plan) (chain : Chain) (back : ℕ) (before : Hash32) → p.back ≡ back
    → (back ≤ length chain) × (before ≡ tip (shorter back chain)) → AreLinked before p.forward
    → FitsChain p chain
fits p chain back before is named linked =
    let within = named.0 in
    record {
      within = omega (arith, is, within);
      linked = subst (λ (h : Hash32). AreLinked h p.forward)
          (named.1 ∙ ap (λ n. tip (shorter n chain)) (sym is)) linked;
    }

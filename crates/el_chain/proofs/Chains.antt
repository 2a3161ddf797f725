-- Chains of blocks that name the one before.
use Rattle.std.proofs.Common.{◌≡◌, ◌-◌, ◌≤◌, ℕ, List, [], ◌∷◌, ◌++◌, length, take, get_or, refl, ap, sym, ◌∙◌}
use Rattle.el_base.proofs.Lists.{ends_in}
use Rattle.el_base.specs.Hashing.{sha256d}
use Rattle.el_base.specs.declared.hash.Hash32.{Hash32}
use Rattle.el_tx.specs.declared.types.Header.{Header}
use Rattle.el_tx.specs.Headers.{header_encoding}
use Rattle.el_chain.specs.declared.placed.Placed.{Placed}
use Rattle.el_block.specs.Blocks.{block_hash}
use Rattle.el_chain.specs.Chains.{Chain, tip, tip_after, zero_hash}
use Rattle.el_chain.specs.Faults.{AreNext}

-- the tip is the last block's hash
pub tip_last : (before : Hash32) (chain : Chain) (b : Placed) → tip_after before (chain ++ b ∷ []) ≡ block_hash b.block.header
tip_last before [] b = refl
tip_last before (x ∷ chain) b = tip_last (block_hash x.block.header) chain b

pub tip_of_last : (chain : Chain) (b : Placed) → 1 ≤ length chain → b ≡ get_or chain (length chain - 1) b → block_hash b.block.header ≡ tip chain
tip_of_last chain b some is = sym (ap tip (ends_in chain b some is) ∙ tip_last zero_hash (take (length chain - 1) chain) b)

-- a hash of the header's 80 bytes is the block's
pub hash_is : (hash : Hash32) (h : Header) (text : List ℕ) → hash.0 ≡ sha256d text → text ≡ header_encoding h → hash ≡ block_hash h
hash_is hash h text is same = ap (λ (bytes : List ℕ). record { 0 = bytes }) (is ∙ ap sha256d same)

-- two blocks, one after the other
pub linked_pair : (before front after : Chain) (a b : Placed) → AreNext before (front ++ a ∷ b ∷ after) → b.block.header.previous ≡ block_hash a.block.header
linked_pair before [] after a b h = h.1.0.names ∙ tip_last zero_hash before a
linked_pair before (x ∷ front) after a b h = linked_pair (before ++ x ∷ []) front after a b h.1

-- Drafts of chains, block by block.
use Rattle.std.proofs.Common.{◌≡◌, ◌⊎◌, inl, inr, ℕ, suc, List, [], ◌∷◌, length, take, refl, sym, ap, ◌∙◌}
use Rattle.std.proofs.lemmas.List.{take_at}
use Rattle.el_base.specs.declared.hash.Hash32.{Hash32}
use Rattle.el_tx.specs.Headers.{header_encoding}
use Rattle.el_tx.specs.Hashing.{full_encoding}
use Rattle.el_tx.specs.Encoding.{counted}
use Rattle.el_tx.proofs.HeaderLemmas.{one_header}
use Rattle.el_block.specs.declared.block.Block.{Block}
use Rattle.el_chain.specs.declared.node.Node.{Node}
use Rattle.el_chain.specs.declared.moves.MoveFault.{MoveFault}
use Rattle.el_block.specs.declared.fault.BlockFault.{BlockFault}
use Rattle.el_block.specs.declared.fault.BlockFault.TheVariants as block
use Rattle.el_chain.specs.declared.moves.MoveFault.TheVariants as stop
use Rattle.el_block.specs.BlockFaults.{FirstBlockFault}
use Rattle.el_block.specs.Blocks.{EncodesBlock}
use Rattle.el_chain.specs.Chains.{Chain}
use Rattle.el_chain.specs.Records.{IsBlockOf}
use Rattle.el_tx.proofs.HeaderLemmas.{header_length}
use Rattle.el_chain.specs.Moves.{AreOf, IsStop}
use Rattle.el_chain.specs.Records.{IsNode}

-- the block that the bytes of a node encode has the node's header
pub header_same : (n : Node) (t : List ℕ) (b : Block) → IsNode n → IsBlockOf n t → EncodesBlock t b → b.header ≡ n.header
header_same n t b node of s =
    let begins : take 80 t ≡ header_encoding b.header =
    ap (take 80) s.text.whole ∙ take_at (header_encoding b.header) (counted full_encoding b.txs) 80 (header_length b.header s.text.header) in
    one_header b.header n.header s.text.header node.header (sym begins ∙ of.header)

pub same_length : (ns : List Node) (ts : List (List ℕ)) → AreOf ns ts → length ns ≡ length ts
same_length [] [] h = refl
same_length [] (t ∷ ts) h = absurd h
same_length (n ∷ ns) [] h = absurd h
same_length (n ∷ ns) (t ∷ ts) h = ap suc (same_length ns ts h.1)

-- a block that isn't read stops the move
pub bad_faults : (chain : Chain) (hash : Hash32) (t : List ℕ) (f : BlockFault) (e : MoveFault) → (f ≡ block.Memory) ⊎ FirstBlockFault t f → (f ≡ block.Memory → e ≡ stop.Memory)
    → (f ≡ block.Memory) ⊎ (e ≡ stop.BadBlock hash f) → IsStop chain hash t e
bad_faults chain hash t f e (inl m) memory kept = rw (memory m) tt
bad_faults chain hash t f e (inr s) memory (inl m) = rw (memory m) tt
bad_faults chain hash t f e (inr s) memory (inr is) = rw is (refl, s)

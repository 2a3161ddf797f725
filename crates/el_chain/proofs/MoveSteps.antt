-- The nodes of a move, the bytes of their blocks, and the blocks, one after the other.
use Rattle.std.proofs.Common.{◌≡◌, ℕ, zero, suc, ◌+◌, ◌<◌, List, [], ◌∷◌, ◌++◌, length, take, drop, get_or, refl, sym, ap, ◌∙◌, arith}
use Rattle.std.specs.List.{AllByRecursion}
use Rattle.std.proofs.lemmas.List.{get_or_default}
use Rattle.el_base.specs.declared.hash.Hash32.{Hash32}
use Rattle.el_base.proofs.Lists.{cut_at, left_at, taken_at}
use Rattle.el_block.specs.Blocks.{EncodesBlock, block_hash}
use Rattle.el_chain.specs.declared.placed.Placed.{Placed}
use Rattle.el_chain.specs.declared.node.Node.{Node}
use Rattle.el_chain.specs.declared.moves.MoveFault.{MoveFault}
use Rattle.el_chain.specs.Chains.{Chain, tip_after}
use Rattle.el_chain.specs.Faults.{IsNext}
use Rattle.el_chain.specs.Moves.{AreOf, AreBlocks, AreNextBlocks, FaultInAt, IsStop, last_hash}
use Rattle.el_chain.specs.Records.{IsNode, IsBlockOf}
use Rattle.el_chain.proofs.DraftSteps.{header_same}
use Rattle.el_chain.proofs.GoodChains.{next_more}

-- what is left of the nodes and of their bytes
pub record Left (nodes : List Node) (texts : List (List ℕ)) (i : ℕ) : Type 0 where
  pub nodes_left : AllByRecursion IsNode (drop i nodes)
  pub of : AreOf (drop i nodes) (drop i texts)

-- the next node and its bytes
pub record NextIs (nodes : List Node) (texts : List (List ℕ)) (i : ℕ) (n : Node) (t : List ℕ) : Type 0 where
  pub left : drop i nodes ≡ n ∷ drop (i + 1) nodes
  pub front : take i nodes ++ n ∷ [] ≡ take (i + 1) nodes
  pub front_texts : take i texts ++ t ∷ [] ≡ take (i + 1) texts
  pub whole : nodes ≡ take i nodes ++ n ∷ drop (i + 1) nodes
  pub whole_texts : texts ≡ take i texts ++ t ∷ drop (i + 1) texts
  pub node : IsNode n
  pub of : IsBlockOf n t
  pub rest : Left nodes texts (i + 1)

pub within : (nodes : List Node) (texts : List (List ℕ)) (i : ℕ) → Left nodes texts i → i < length nodes → i < length texts
within nodes texts i l lt = by i nodes texts l.of lt
  where
    by : (i : ℕ) (ns : List Node) (ts : List (List ℕ)) → AreOf (drop i ns) (drop i ts) → i < length ns → i < length ts
    by i [] ts h lt = absurd (omega arith)
    by zero (n ∷ ns) [] h lt = absurd h
    by zero (n ∷ ns) (t ∷ ts) h lt = omega arith
    by (suc i) (n ∷ ns) [] h lt = absurd (none i ns h (omega arith))
      where
        none : (i : ℕ) (ns : List Node) → AreOf (drop i ns) [] → i < length ns → ⊥
        none i [] h lt = omega arith
        none zero (n ∷ ns) h lt = h
        none (suc i) (n ∷ ns) h lt = none i ns h (omega arith)
    by (suc i) (n ∷ ns) (t ∷ ts) h lt = let r = by i ns ts h (omega arith) in omega arith

pub next_is : (nodes : List Node) (texts : List (List ℕ)) (i : ℕ) (n d : Node) (t : List ℕ) → Left nodes texts i → i < length nodes → n ≡ get_or nodes i d → t ≡ get_or texts i t → NextIs nodes texts i n t
next_is nodes texts i n d t l lt is' is_text =
    let is : n ≡ get_or nodes i n = is' ∙ get_or_default nodes i d n lt in
    let lt' = within nodes texts i l lt in
    let left = left_at nodes i n lt is in
    let left_texts = left_at texts i t lt' is_text in
    let each = rw left at l.nodes_left in
    let of = rw (left, left_texts) at l.of in
    record {
      left = left;
      front = sym (taken_at nodes i n lt is);
      front_texts = sym (taken_at texts i t lt' is_text);
      whole = cut_at nodes i n lt is;
      whole_texts = cut_at texts i t lt' is_text;
      node = each.0;
      of = of.0;
      rest = record { nodes_left = each.1; of = of.1 };
    }

-- one block more
blocks_more : (ns : List Node) (ts : List (List ℕ)) (bs : Chain) (n : Node) (t : List ℕ) (b : Placed) → AreBlocks ns ts bs → b.place ≡ n.place → EncodesBlock t b.block
    → AreBlocks (ns ++ n ∷ []) (ts ++ t ∷ []) (bs ++ b ∷ [])
blocks_more [] [] [] n t b h place encodes = (place, encodes, tt)
blocks_more [] [] (c ∷ bs) n t b h place encodes = absurd h
blocks_more [] (u ∷ ts) bs n t b h place encodes = absurd h
blocks_more (m ∷ ns) [] bs n t b h place encodes = absurd h
blocks_more (m ∷ ns) (u ∷ ts) [] n t b h place encodes = absurd h
blocks_more (m ∷ ns) (u ∷ ts) (c ∷ bs) n t b h place encodes = (h.0, h.1, blocks_more ns ts bs n t b h.2 place encodes)

pub next_blocks_more : (chain : Chain) (nodes : List Node) (texts : List (List ℕ)) (i : ℕ) (blocks : Chain) (n : Node) (t : List ℕ) (b : Placed)
    → AreNextBlocks chain (take i nodes) (take i texts) blocks → NextIs nodes texts i n t → b.place ≡ n.place → EncodesBlock t b.block → IsNext (chain ++ blocks) b.block
    → AreNextBlocks chain (take (i + 1) nodes) (take (i + 1) texts) (blocks ++ b ∷ [])
next_blocks_more chain nodes texts i blocks n t b h is place encodes next = record {
  are = rw (← is.front, ← is.front_texts) (blocks_more (take i nodes) (take i texts) blocks n t b h.are place encodes);
  next = next_more chain blocks b h.next next;
}

-- the block that stops the move
pub stops_at : (chain : Chain) (nodes : List Node) (texts : List (List ℕ)) (i : ℕ) (blocks : Chain) (n : Node) (t : List ℕ) (e : MoveFault)
    → AreNextBlocks chain (take i nodes) (take i texts) blocks → NextIs nodes texts i n t → IsStop (chain ++ blocks) n.hash t e → FaultInAt chain nodes texts e
stops_at chain nodes texts i blocks n t e before is stop = record {
  front = take i nodes;
  node = n;
  after = drop (i + 1) nodes;
  whole = is.whole;
  front_texts = take i texts;
  text = t;
  after_texts = drop (i + 1) texts;
  whole_texts = is.whole_texts;
  blocks = blocks;
  before = before;
  first_fault = stop;
}

-- ---- the tip after the move

pub tip_joined : (before : Hash32) (a b : Chain) → tip_after before (a ++ b) ≡ tip_after (tip_after before a) b
tip_joined before [] b = refl
tip_joined before (x ∷ a) b = tip_joined (block_hash x.block.header) a b

pub blocks_tip : (before : Hash32) (ns : List Node) (ts : List (List ℕ)) (bs : Chain) → AllByRecursion IsNode ns → AreOf ns ts → AreBlocks ns ts bs → tip_after before bs ≡ last_hash before ns
blocks_tip before [] [] [] nodes of are = refl
blocks_tip before [] [] (b ∷ bs) nodes of are = absurd are
blocks_tip before [] (t ∷ ts) bs nodes of are = absurd are
blocks_tip before (n ∷ ns) [] bs nodes of are = absurd are
blocks_tip before (n ∷ ns) (t ∷ ts) [] nodes of are = absurd are
blocks_tip before (n ∷ ns) (t ∷ ts) (b ∷ bs) nodes of are =
    let here : block_hash b.block.header ≡ n.hash = ap block_hash (header_same n t b.block nodes.0 of.0 are.1) ∙ sym nodes.0.hash in
    ap (λ h. tip_after h bs) here ∙ blocks_tip n.hash ns ts bs nodes.1 of.1 are.2

pub last_any : (a b : Hash32) (ns : List Node) → (ns ≡ [] → ⊥) → last_hash a ns ≡ last_hash b ns
last_any a b [] some = absurd (some refl)
last_any a b (n ∷ ns) some = refl

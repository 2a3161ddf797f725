-- Drafts of chains, block by block.
use Rattle.std.proofs.Common.{◌≡◌, ℕ, ◌+◌, ◌≤◌, List, [], ◌∷◌, ◌++◌, length, take, drop, sym, ap, ◌∙◌, append-nil, append_assoc, arith}
use Rattle.std.specs.List.{AllByRecursion}
use Rattle.std.proofs.lemmas.List.{take_all}
use Rattle.el_tx.specs.Encoding.{counted}
use Rattle.el_block.specs.declared.block.Block.{Block}
use Rattle.el_chain.specs.declared.placed.Placed.{Placed}
use Rattle.el_coins.specs.declared.coins.CoinTable.{CoinTable}
use Rattle.el_chain.specs.declared.node.Node.{Node}
use Rattle.el_block.specs.Blocks.{EncodesBlock, block_hash}
use Rattle.el_chain.specs.Chains.{Chain, tip, zero_hash}
use Rattle.el_chain.specs.Records.{IsBlockOf}
use Rattle.el_coins.specs.Drafts.{IsDrafted}
use Rattle.el_chain.specs.Faults.{IsNext}
use Rattle.el_coins.specs.declared.tally.Tally.{Tally}
use Rattle.el_chain.specs.Headers.{AreLinked}
use Rattle.el_chain.specs.Moves.{AreOf, AreNextBlocks}
use Rattle.el_chain.specs.Records.{IsNode}
use Rattle.el_chain.proofs.Chains.{tip_last}
use Rattle.el_chain.proofs.DraftSteps.{header_same}
use Rattle.el_chain.proofs.MoveSteps.{Left, NextIs, next_blocks_more}

-- The blocks of the first nodes stand after the chain, and the nodes that are left go on.
pub record Drafting (base : CoinTable) (chain : Chain) (nodes : List Node) (texts : List (List ℕ)) (i : ℕ) (changes : CoinTable) (tally : Tally) (fresh : Chain) : Type 0 where
  pub drafted : IsDrafted base (chain ++ fresh) changes tally
  pub linked : AreLinked (tip (chain ++ fresh)) (drop i nodes)
  pub nodes_left : AllByRecursion IsNode (drop i nodes)
  pub of : AreOf (drop i nodes) (drop i texts)
  pub next : AreNextBlocks chain (take i nodes) (take i texts) fresh

pub drafting_begins : (base : CoinTable) (chain : Chain) (nodes : List Node) (texts : List (List ℕ)) (changes : CoinTable) (tally : Tally) (fresh : Chain) → fresh ≡ []
    → IsDrafted base chain changes tally → AreLinked (tip chain) nodes → AllByRecursion IsNode nodes → AreOf nodes texts → Drafting base chain nodes texts 0 changes tally fresh
drafting_begins base chain nodes texts changes tally fresh none d l n o = rw none (record {
  drafted = rw (append-nil chain) d;
  linked = rw (append-nil chain) l;
  nodes_left = n;
  of = o;
  next = record { are = tt; next = tt };
})

-- what is left of them
pub left_of : {base : CoinTable} {chain : Chain} {nodes : List Node} {texts : List (List ℕ)} {i : ℕ} {changes : CoinTable} {tally : Tally} {fresh : Chain}
    → Drafting base chain nodes texts i changes tally fresh → Left nodes texts i
left_of d = record { nodes_left = d.nodes_left; of = d.of }

pub drafting_more : (base : CoinTable) (chain : Chain) (nodes : List Node) (texts : List (List ℕ)) (i : ℕ) (old new : CoinTable) (tally counted : Tally) (fresh fresh' : Chain) (n : Node) (t : List ℕ)
    → Drafting base chain nodes texts i old tally fresh → NextIs nodes texts i n t → IsDrafted base (chain ++ fresh') new counted
    → (b : Placed) × (fresh' ≡ fresh ++ b ∷ []) × (b.place ≡ n.place) × EncodesBlock t b.block × IsNext (chain ++ fresh) b.block × (tip (chain ++ fresh') ≡ n.hash)
    → Drafting base chain nodes texts (i + 1) new counted fresh'
drafting_more base chain nodes texts i old new tally counted fresh fresh' n t d is drafted added =
    let l = rw is.left at d.linked in
    record {
      drafted = drafted;
      linked = rw added.5 l.1;
      nodes_left = is.rest.nodes_left;
      of = is.rest.of;
      next = rw added.1 (next_blocks_more chain nodes texts i fresh n t added.0 d.next is added.2 added.3 added.4);
    }

pub drafting_ends : (base : CoinTable) (chain : Chain) (nodes : List Node) (texts : List (List ℕ)) (i : ℕ) (changes : CoinTable) (tally : Tally) (fresh : Chain)
    → Drafting base chain nodes texts i changes tally fresh → length nodes ≤ i → length nodes ≡ length texts → AreNextBlocks chain nodes texts fresh
drafting_ends base chain nodes texts i changes tally fresh d most same =
    rw (take_all i nodes most, take_all i texts (omega arith)) at d.next

-- the block that was put after the draft
pub block_added : (blocks fresh fresh' : Chain) (b : Block) (place : _) (n : Node) (t : List ℕ) → fresh' ≡ fresh ++ record { block = b; place = place } ∷ []
    → place ≡ n.place → IsNode n → IsBlockOf n t → EncodesBlock t b → IsNext (blocks ++ fresh) b
    → (x : Placed) × (fresh' ≡ fresh ++ x ∷ []) × (x.place ≡ n.place) × EncodesBlock t x.block × IsNext (blocks ++ fresh) x.block × (tip (blocks ++ fresh') ≡ n.hash)
block_added blocks fresh fresh' b place n t added same node of s next =
    let x : Placed = record { block = b; place = place } in (
      x,
      added,
      same,
      s,
      next,
      ap (λ l. tip (blocks ++ l)) added ∙ ap tip (sym (append_assoc blocks fresh (x ∷ []))) ∙ tip_last zero_hash (blocks ++ fresh) x
          ∙ ap block_hash (header_same n t b node of s) ∙ sym node.hash,
    )

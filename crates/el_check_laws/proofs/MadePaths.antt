-- Over the nodes of a made file one path leads to each of the two tips, whatever stands behind them.
use Rattle.std.proofs.Common.{◌≡◌, ◌≢◌, ℕ, suc, ◌-◌, ◌≤◌, true, List, [], ◌∷◌, ◌++◌, take, drop, refl, sym, ap, ◌∙◌, arith, append_assoc, subst, take-append-drop}
use Rattle.std.specs.Prelude.{fold, Some, Contains}
use Rattle.std.specs.List.{AllByRecursion}
use Rattle.std.proofs.lemmas.List.{map-append}
use Rattle.std.proofs.lemmas.List.Sums.{fold-append}
use Rattle.el_base.specs.declared.hash.Hash32.{Hash32}
use Rattle.el_base.proofs.Lists.{all_append}
use Rattle.el_block.specs.Blocks.{AllDiffer, block_hash}
use Rattle.el_block.specs.declared.block.Block.{Block}
use Rattle.el_chain.specs.Chains.{zero_hash}
use Rattle.el_chain.specs.declared.node.Node.{Node}
use Rattle.el_chain.specs.Headers.{added, names_none, genesis, IsPath}
use Rattle.el_gen.specs.MadeFile.{no_block, made_file, branch_blocks, first_branch, left_out, fork, fork_hash, side_branch, first_tip, side_tip}
use Rattle.el_gen.proofs.Branches.{first_parted, last_joined}
use Rattle.el_check_laws.specs.Differing.{HashesDiffer, hashes_of_blocks}
use Rattle.el_check_laws.specs.MadeNodes.{AreNodesOf, BeginAsMade, LeadsAlone}
use Rattle.el_check_laws.proofs.Apart.{all_parted}
use Rattle.el_check_laws.proofs.MadeChains.{first_of, side_of, first_made, side_made}
use Rattle.el_check_laws.proofs.OnePath.{HaveDifferent, one_path}
use Rattle.el_check_laws.proofs.MadeNodes.{node_hashes, nodes_hashes, nodes_long, nodes_joined, nodes_front, NamesSome, first_added, all_added, Grown, any_added, all_inside, made_named, made_path}
use Rattle.el_check_laws.proofs.BothBranches.{side_chain, fork_within, length-first}

abbrev pub AreSome : List Hash32 → Type 0
AreSome hashes = AllByRecursion (λ (h : Hash32). zero_hash ≢ h) hashes

pub hashes_joined : (xs ys : List Block) → hashes_of_blocks (xs ++ ys) ≡ hashes_of_blocks xs ++ hashes_of_blocks ys
hashes_joined xs ys = map-append (λ (b : Block). block_hash b.header) xs ys

-- the first branch's own blocks, behind those that both branches have
abbrev pub own_blocks : ℕ → List Block
own_blocks count = branch_blocks (fork_hash count) 0 0 (fork count) (left_out count)

pub first_cut : (count : ℕ) → 1 ≤ count → first_branch count ≡ first_branch (fork count) ++ own_blocks count
first_cut count some = first_parted count (left_out count) (omega arith)

all_some : (count : ℕ) → HashesDiffer count → AreSome (hashes_of_blocks (first_branch count)) × AreSome (hashes_of_blocks (side_branch count))
all_some count differ =
    all_parted (λ (h : Hash32). zero_hash ≢ h) (hashes_of_blocks (first_branch count)) (hashes_of_blocks (side_branch count))
    (subst AreSome (hashes_joined (first_branch count) (side_branch count)) differ.blocks.0)

chain_some : (count : ℕ) → 1 ≤ count → HashesDiffer count → AreSome (hashes_of_blocks (side_chain count))
chain_some count some differ =
    let all = all_some count differ in
    let front = (all_parted (λ (h : Hash32). zero_hash ≢ h) (hashes_of_blocks (first_branch (fork count))) (hashes_of_blocks (own_blocks count))
    (subst AreSome (ap hashes_of_blocks (first_cut count some) ∙ hashes_joined (first_branch (fork count)) (own_blocks count)) all.0)).0 in
    subst AreSome (sym (hashes_joined (first_branch (fork count)) (side_branch count)))
    (all_append (λ (h : Hash32). zero_hash ≢ h) (hashes_of_blocks (first_branch (fork count))) (hashes_of_blocks (side_branch count)) front all.1)

-- the nodes of the side branch's chain
pub side_nodes : (count : ℕ) (first side : List Node) → 1 ≤ count → AreNodesOf (made_file count) (first_branch count) first
    → AreNodesOf (made_file count) (side_branch count) side → AreNodesOf (made_file count) (side_chain count) (take (fork count) first ++ side)
side_nodes count first side some are side_are =
    let front = nodes_front (made_file count) (first_branch (fork count)) (own_blocks count) first
    (subst (λ (bs : List Block). AreNodesOf (made_file count) bs first) (first_cut count some) are) in
    nodes_joined (made_file count) (first_branch (fork count)) (side_branch count) (take (fork count) first) side
    (subst (λ (n : ℕ). AreNodesOf (made_file count) (first_branch (fork count)) (take n first)) (length-first (fork count)) front) side_are

genesis_first : (g : Node) (ns : List Node) → names_none g ≡ true → genesis (g ∷ ns) ≡ Some g
genesis_first g ns is = rw is refl

all_taken : {X : Type 0} (P : X → Type 0) (n : ℕ) (xs : List X) → AllByRecursion P xs → AllByRecursion P (take n xs)
all_taken P n xs all = (all_parted P (take n xs) (drop n xs) (subst (AllByRecursion P) (sym (take-append-drop n xs)) all)).0

module _ (count : ℕ) (some : 1 ≤ count) (differ : HashesDiffer count) (g : Node) (rest side others : List Node)
    (are : AreNodesOf (made_file count) (first_branch count) (g ∷ rest)) (side_are : AreNodesOf (made_file count) (side_branch count) side) where
  abbrev found : List Node
  found = fold added [] ((g ∷ rest) ++ (side ++ others))

  forked : fork count ≡ suc (fork count - 1)
  forked = let within = (fork_within count some).0 in omega (arith, within)

  -- the side branch's chain, behind the genesis
  abbrev side_rest : List Node
  side_rest = take (fork count - 1) rest ++ side

  side_path_is : take (fork count) (g ∷ rest) ++ side ≡ g ∷ side_rest
  side_path_is = ap (λ (n : ℕ). take n (g ∷ rest) ++ side) forked

  side_chain_are : AreNodesOf (made_file count) (side_chain count) (g ∷ side_rest)
  side_chain_are = subst (AreNodesOf (made_file count) (side_chain count)) side_path_is (side_nodes count (g ∷ rest) side some are side_are)

  first_named : (names_none g ≡ true) × AllByRecursion NamesSome rest
  first_named = made_named (made_file count) first_of (first_branch count) g rest (first_made count) are (all_some count differ).0

  side_named : AllByRecursion NamesSome side
  side_named = (all_parted NamesSome (take (fork count - 1) rest) side
      (made_named (made_file count) (side_of (fork count)) (side_chain count) g side_rest (side_made count (fork_within count some).0) side_chain_are (chain_some count some differ)).1).1

  differ_all : HaveDifferent (g ∷ (rest ++ side))
  differ_all =
      subst AllDiffer (sym (map-append (λ (n : Node). n.hash) (g ∷ rest) side
      ∙ ap (λ (hs : List Hash32). hs ++ node_hashes side) (nodes_hashes (made_file count) (first_branch count) (g ∷ rest) are)
      ∙ ap (λ (hs : List Hash32). hashes_of_blocks (first_branch count) ++ hs) (nodes_hashes (made_file count) (side_branch count) side side_are)
      ∙ sym (hashes_joined (first_branch count) (side_branch count)))) differ.blocks.1

  added_first : found ≡ fold added (g ∷ (rest ++ side)) others
  added_first =
      ap (λ (f : List Node). fold added f (rest ++ (side ++ others))) (first_added g)
      ∙ ap (fold added (g ∷ [])) (sym (append_assoc rest side others))
      ∙ fold-append added (g ∷ []) (rest ++ side) others
      ∙ ap (λ (f : List Node). fold added f others) (all_added (g ∷ []) (rest ++ side) (all_append NamesSome rest side first_named.1 side_named) differ_all)

  grows : Grown (g ∷ (rest ++ side)) found
  grows = subst (Grown (g ∷ (rest ++ side))) (sym added_first) (any_added (g ∷ (rest ++ side)) others differ_all)

  found_is : found ≡ g ∷ (rest ++ (side ++ grows.more))
  found_is = grows.is ∙ ap (λ (ns : List Node). g ∷ ns) (append_assoc rest side grows.more)

  begins : genesis found ≡ Some g
  begins = ap genesis found_is ∙ genesis_first g (rest ++ (side ++ grows.more)) first_named.0

  rest_inside : AllByRecursion (Contains found) rest
  rest_inside = subst (λ (ns : List Node). AllByRecursion (Contains ns) rest) (sym found_is) (all_inside (g ∷ []) rest (side ++ grows.more))

  side_inside : AllByRecursion (Contains found) side
  side_inside = subst (λ (ns : List Node). AllByRecursion (Contains ns) side) (sym found_is) (all_inside (g ∷ rest) side grows.more)

  first_path : IsPath found (first_tip count) (g ∷ rest)
  first_path = made_path (made_file count) first_of (first_branch count) g rest found (first_made count) are (all_some count differ).0 begins rest_inside

  side_path : IsPath found (side_tip count) (g ∷ side_rest)
  side_path = subst (λ (h : Hash32). IsPath found h (g ∷ side_rest)) (last_joined no_block (first_branch (fork count)) (side_branch count))
      (made_path (made_file count) (side_of (fork count)) (side_chain count) g side_rest found (side_made count (fork_within count some).0) side_chain_are (chain_some count some differ)
      begins (all_append (Contains found) (take (fork count - 1) rest) side (all_taken (Contains found) (fork count - 1) rest rest_inside) side_inside))

  pub first_alone : LeadsAlone found (first_tip count) (g ∷ rest)
  first_alone = record { is_path = first_path; alone = λ other p. one_path found (first_tip count) other (g ∷ rest) grows.differ p first_path }

  pub side_alone : LeadsAlone found (side_tip count) (take (fork count) (g ∷ rest) ++ side)
  side_alone = subst (LeadsAlone found (side_tip count)) (sym side_path_is)
      (record { is_path = side_path; alone = λ other p. one_path found (side_tip count) other (g ∷ side_rest) grows.differ p side_path })

both_of : (count : ℕ) (first side others : List Node) → 1 ≤ count → HashesDiffer count → AreNodesOf (made_file count) (first_branch count) first
    → AreNodesOf (made_file count) (side_branch count) side
    → LeadsAlone (fold added [] (first ++ (side ++ others))) (first_tip count) first
    × LeadsAlone (fold added [] (first ++ (side ++ others))) (side_tip count) (take (fork count) first ++ side)
both_of count [] side others some differ are side_are =
    let none = nodes_long (made_file count) (first_branch count) [] are in
    let long = length-first count in
    absurd (omega (arith, none, long, some))
both_of count (g ∷ rest) side others some differ are side_are =
    (first_alone count some differ g rest side others are side_are, side_alone count some differ g rest side others are side_are)

pub both_alone : (count : ℕ) (nodes : List Node) → 1 ≤ count → HashesDiffer count → (begin : BeginAsMade count nodes)
    → LeadsAlone (fold added [] nodes) (first_tip count) begin.first
    × LeadsAlone (fold added [] nodes) (side_tip count) (take (fork count) begin.first ++ begin.side)
both_alone count nodes some differ begin =
    let both = both_of count begin.first begin.side begin.others some differ begin.first_are begin.side_are in
    let same = ap (fold added []) (sym begin.whole) in (
      subst (λ (f : List Node). LeadsAlone f (first_tip count) begin.first) same both.0,
      subst (λ (f : List Node). LeadsAlone f (side_tip count) (take (fork count) begin.first ++ begin.side)) same both.1,
    )

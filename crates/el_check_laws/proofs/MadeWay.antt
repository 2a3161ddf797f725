-- Where the way of a check over a made file leads, and by how many moves.
use Rattle.std.proofs.Common.{◌≡◌, ◌≢◌, ⊎_elim, ℕ, ◌+◌, ◌-◌, ◌/◌, ◌≤◌, List, [], ◌∷◌, ◌++◌, length, length-append, take, drop, refl, sym, ap, ◌∙◌, arith, subst, take-append-drop, true}
use Rattle.std.specs.Prelude.{fold, Some, None}
use Rattle.std.specs.List.{AllByRecursion}
use Rattle.std.proofs.lemmas.List.{take_at, drop_at}
use Rattle.el_base.specs.declared.hash.Hash32.{Hash32}
use Rattle.el_block.specs.Blocks.{AllDiffer}
use Rattle.el_block.specs.declared.block.Block.{Block}
use Rattle.el_chain.specs.declared.node.Node.{Node}
use Rattle.el_chain.specs.Chains.{Chain, tip_after, zero_hash}
use Rattle.el_chain.specs.Headers.{added}
use Rattle.el_chain.specs.Moves.{shorter}
use Rattle.el_gen.specs.MadeFile.{no_block, made_file, last_block_hash, first_branch, left_out, fork, fork_hash, side_branch, first_tip, side_tip, regtest_magic}
use Rattle.el_gen.proofs.Branches.{last_joined}
use Rattle.el_model.specs.Queries.{tip_of}
use Rattle.el_side.specs.Side.{Side, quiet_side}
use Rattle.el_side.specs.Plans.{common, back_of}
use Rattle.el_check_chain.specs.Checked.{Way, made_files, no_room, steady, summary_at_end}
use Rattle.el_check_laws.specs.Differing.{HashesDiffer, blocks_of, hashes_of_blocks}
use Rattle.el_check_laws.specs.MadeNodes.{AreNodesOf, BeginAsMade, LeadsAlone}
use Rattle.el_check_laws.specs.Numbers.{numbers}
use Rattle.el_check_laws.proofs.Apart.{IsNone, all_parted, differ_parted}
use Rattle.el_check_laws.proofs.MadeChains.{AreMade, first_of, side_of, first_made, side_made, length-branch}
use Rattle.el_check_laws.proofs.MadeBlocks.{IsHash, none_is_hash}
use Rattle.el_check_laws.proofs.MadeRecords.{all_whole}
use Rattle.el_check_laws.proofs.MadeScans.{scan_begins_made}
use Rattle.el_check_laws.proofs.MadeNodes.{nodes_long, nodes_front}
use Rattle.el_check_laws.proofs.MadePaths.{own_blocks, first_cut, hashes_joined, side_nodes, both_alone}
use Rattle.el_check_laws.proofs.BothBranches.{fork_within, length-first, length-side, first_right, side_right}
use Rattle.el_check_laws.proofs.PlacedChains.{placed_of, placed_blocks, placed_long, placed_joined, nodes_dropped, placed_tip, last_of_some, all_hashes, none_turned, common_front}
use Rattle.el_check_laws.proofs.MadeMoves.{IsMadePath}
use Rattle.el_check_laws.proofs.TipLines.{SayOne}
use Rattle.el_check_laws.proofs.TipMoves.{Departs, Led, line_leads}
use Rattle.el_check_laws.proofs.MadeSums.{sums_are}

-- ---- a chain and a path that begin alike

module _ (bytes : List ℕ) (front bs cs : List Block) (fs ns ms : List Node) (side : Side) (front_are : AreNodesOf bytes front fs) (own_are : AreNodesOf bytes bs ns)
    (others_are : AreNodesOf bytes cs ms) (apart : AllByRecursion (IsNone (hashes_of_blocks cs)) (hashes_of_blocks bs)) (is : side.chain ≡ placed_of (front ++ bs) (fs ++ ns)) where
  chain_cut : side.chain ≡ placed_of front fs ++ placed_of bs ns
  chain_cut = is ∙ placed_joined bytes front bs fs ns front_are

  pub common_is : common side.chain (fs ++ ms) ≡ length front
  common_is = ap (λ (c : Chain). common c (fs ++ ms)) chain_cut ∙ common_front bytes front bs cs fs ns ms front_are own_are others_are apart

  chain_long : length side.chain ≡ length front + length bs
  chain_long =
      let both = ap length chain_cut ∙ length-append (placed_of front fs) (placed_of bs ns) in
      let one = placed_long bytes front fs front_are in
      let two = placed_long bytes bs ns own_are in
      omega (arith, both, one, two)

  front_stays : shorter (back_of side.chain (fs ++ ms)) side.chain ≡ take (common side.chain (fs ++ ms)) (placed_of (front ++ cs) (fs ++ ms))
  front_stays =
      let long = chain_long in
      let shared = common_is in
      let left : length side.chain - back_of side.chain (fs ++ ms) ≡ length front = omega (arith, long, shared) in
      let size = placed_long bytes front fs front_are in
      ap (λ (k : ℕ). take k side.chain) left ∙ ap (take (length front)) chain_cut ∙ take_at (placed_of front fs) (placed_of bs ns) (length front) size
      ∙ sym (take_at (placed_of front fs) (placed_of cs ms) (length front) size) ∙ ap (take (length front)) (sym (placed_joined bytes front cs fs ms front_are))
      ∙ ap (λ (k : ℕ). take k (placed_of (front ++ cs) (fs ++ ms))) (sym shared)

  pub departs : length bs ≤ 100 → 1 ≤ length bs + length cs → Departs (front ++ cs) (fs ++ ms) side
  departs near some = record {
    stays = front_stays;
    near = (let long = chain_long in let shared = common_is in omega (arith, long, shared, near));
    moving = λ none_back none_rest.
        let long = chain_long in
        let shared = common_is in
        let size = nodes_long bytes front fs front_are in
        let rest : drop (common side.chain (fs ++ ms)) (fs ++ ms) ≡ ms = drop_at fs ms (common side.chain (fs ++ ms)) (size ∙ sym shared) in
        let nothing = ap length (sym rest ∙ none_rest) in
        let others = nodes_long bytes cs ms others_are in
        omega (arith, long, shared, none_back, nothing, others, some);
  }

-- ---- tips

some_tip : (chain : Chain) → 1 ≤ length chain → tip_of chain ≡ Some (tip_after zero_hash chain)
some_tip [] some = absurd (omega arith)
some_tip (b ∷ bs) some = refl

-- a chain with this tip has no other
ends_elsewhere : (bytes : List ℕ) (bs : List Block) (ns : List Node) (chain : Chain) (h : Hash32) → AreNodesOf bytes bs ns → 1 ≤ length bs
    → chain ≡ placed_of bs ns → last_block_hash no_block bs ≢ h → tip_of chain ≢ Some h
ends_elsewhere bytes bs ns chain h are some is other there =
    let long = ap length is ∙ placed_long bytes bs ns are in
    let own : tip_of chain ≡ Some (last_block_hash no_block bs) =
    some_tip chain (omega (arith, long, some)) ∙ ap (λ (c : Chain). Some (tip_after zero_hash c)) is ∙ ap Some (placed_tip bytes zero_hash bs ns are) in
    let same : Some (last_block_hash no_block bs) ≡ Some h = sym own ∙ there in
    other cc

-- ---- the three lines

module _ (says_one : SayOne) (count : ℕ) (some : 1 ≤ count) (few : count ≤ 20000) (differ : HashesDiffer count) (way : Way count) where
  begin : BeginAsMade count way.nodes
  begin = scan_begins_made steady count (made_files count) way.files way.nodes (λ archive. refl) refl some few differ way.scanned

  abbrev file : List ℕ
  file = made_file count

  abbrev front : List Block
  front = first_branch (fork count)

  abbrev own : List Block
  own = own_blocks count

  abbrev side_own : List Block
  side_own = side_branch count

  abbrev front_nodes : List Node
  front_nodes = take (fork count) begin.first

  abbrev own_nodes : List Node
  own_nodes = drop (fork count) begin.first

  cut_are : AreNodesOf file (front ++ own) begin.first
  cut_are = subst (λ (bs : List Block). AreNodesOf file bs begin.first) (first_cut count some) begin.first_are

  first_are : AreNodesOf file (front ++ own) (front_nodes ++ own_nodes)
  first_are = subst (AreNodesOf file (front ++ own)) (sym (take-append-drop (fork count) begin.first)) cut_are

  front_are : AreNodesOf file front front_nodes
  front_are = subst (λ (n : ℕ). AreNodesOf file front (take n begin.first)) (length-first (fork count)) (nodes_front file front own begin.first cut_are)

  own_are : AreNodesOf file own own_nodes
  own_are = subst (λ (bs : List Block). AreNodesOf file bs own_nodes) (drop_at front own (fork count) (length-first (fork count)))
      (nodes_dropped file (fork count) (front ++ own) begin.first cut_are)

  first_long : length (front ++ own) ≡ count
  first_long = sym (ap length (first_cut count some)) ∙ length-first count

  own_long : length own ≡ left_out count
  own_long = length-branch (fork_hash count) 0 0 (fork count) (left_out count)

  side_long : length side_own ≡ left_out count + 1
  side_long = length-branch (fork_hash count) 0 1 (fork count) (left_out count + 1)

  -- the hashes of the two branches differ
  branches_apart : AllByRecursion (IsNone (hashes_of_blocks side_own)) (hashes_of_blocks (first_branch count))
  branches_apart = (differ_parted (hashes_of_blocks (first_branch count)) (hashes_of_blocks side_own) (subst AllDiffer (hashes_joined (first_branch count) side_own) differ.blocks.1)).both

  own_apart : AllByRecursion (IsNone (hashes_of_blocks side_own)) (hashes_of_blocks own)
  own_apart = (all_parted (IsNone (hashes_of_blocks side_own)) (hashes_of_blocks front) (hashes_of_blocks own)
      (subst (AllByRecursion (IsNone (hashes_of_blocks side_own))) (ap hashes_of_blocks (first_cut count some) ∙ hashes_joined front own) branches_apart)).1

  tips_differ : first_tip count ≢ side_tip count
  tips_differ = last_of_some (λ (h : Hash32). first_tip count ≢ h) (fork_hash count) side_own (let long = side_long in omega (arith, long))
      (last_of_some (IsNone (hashes_of_blocks side_own)) no_block (first_branch count) (let long = length-first count in omega (arith, long, some)) branches_apart)

  first_path : IsMadePath file first_of count (front ++ own) (front_nodes ++ own_nodes)
  first_path = record {
    right = first_right count few differ;
    made = subst (AreMade first_of no_block 0) (first_cut count some) (first_made count);
    few = (let long = first_long in omega (arith, long));
    nodes = first_are;
    whole = all_whole first_of count (first_right count few differ) no_block 0 (front ++ own) none_is_hash
        (subst (AreMade first_of no_block 0) (first_cut count some) (first_made count)) (let long = first_long in omega (arith, long));
  }

  side_are : AreNodesOf file (front ++ side_own) (front_nodes ++ begin.side)
  side_are = side_nodes count begin.first begin.side some begin.first_are begin.side_are

  side_path : IsMadePath file (side_of (fork count)) (count + 1) (front ++ side_own) (front_nodes ++ begin.side)
  side_path = record {
    right = side_right count some few differ;
    made = side_made count (fork_within count some).0;
    few = (let long = length-side count some in omega (arith, long));
    nodes = side_are;
    whole = all_whole (side_of (fork count)) (count + 1) (side_right count some few differ) no_block 0 (front ++ side_own) none_is_hash
        (side_made count (fork_within count some).0) (let long = length-side count some in omega (arith, long));
  }

  abbrev found : List Node
  found = fold added [] way.nodes

  first_alone : LeadsAlone found (first_tip count) (front_nodes ++ own_nodes)
  first_alone = subst (LeadsAlone found (first_tip count)) (sym (take-append-drop (fork count) begin.first)) (both_alone count way.nodes some differ begin).0

  side_alone : LeadsAlone found (side_tip count) (front_nodes ++ begin.side)
  side_alone = (both_alone count way.nodes some differ begin).1

  first_is_hash : IsHash (first_tip count)
  first_is_hash = last_of_some IsHash no_block (first_branch count) (let long = length-first count in omega (arith, long, some)) (all_hashes (first_branch count))

  side_is_hash : IsHash (side_tip count)
  side_is_hash = last_of_some IsHash (fork_hash count) side_own (let long = side_long in omega (arith, long)) (all_hashes side_own)

  first_same : length (placed_of (front ++ own) (front_nodes ++ own_nodes)) ≡ length (front_nodes ++ own_nodes)
  first_same = placed_long file (front ++ own) (front_nodes ++ own_nodes) first_are ∙ sym (nodes_long file (front ++ own) (front_nodes ++ own_nodes) first_are)

  side_same : length (placed_of (front ++ side_own) (front_nodes ++ begin.side)) ≡ length (front_nodes ++ begin.side)
  side_same = placed_long file (front ++ side_own) (front_nodes ++ begin.side) side_are ∙ sym (nodes_long file (front ++ side_own) (front_nodes ++ begin.side) side_are)

  abbrev start : Side
  start = quiet_side true [] regtest_magic no_room found way.files

  start_departs : Departs (front ++ own) (front_nodes ++ own_nodes) start
  start_departs = record {
    stays = refl;
    near = omega arith;
    moving = λ none_back none_rest.
        let nothing = ap length none_rest in
        let long = nodes_long file (front ++ own) (front_nodes ++ own_nodes) first_are in
        let all = first_long in
        omega (arith, nothing, long, all, some);
  }

  one : Led file (front ++ own) (front_nodes ++ own_nodes) start way.first way.to_first
  one = line_leads file first_of count (front ++ own) (front_nodes ++ own_nodes) first_path first_same says_one start (first_tip count) first_is_hash first_alone start_departs refl (way.grow 0)
      way.to_first way.first (λ e. (let bad : None ≡ Some (first_tip count) = e in cc)) way.leads_first

  first_departs : Departs (front ++ side_own) (front_nodes ++ begin.side) way.first
  first_departs =
      let short = own_long in
      let long = side_long in
      departs file front own side_own front_nodes own_nodes begin.side way.first front_are own_are begin.side_are own_apart one.chain (omega (arith, short)) (omega (arith, long))

  two : Led file (front ++ side_own) (front_nodes ++ begin.side) way.first way.side way.to_side
  two = line_leads file (side_of (fork count)) (count + 1) (front ++ side_own) (front_nodes ++ begin.side) side_path side_same says_one way.first (side_tip count) side_is_hash
      (subst (λ (ns : List Node). LeadsAlone ns (side_tip count) (front_nodes ++ begin.side)) (sym one.found) side_alone) first_departs one.sure one.grows way.to_side way.side
      (ends_elsewhere file (front ++ own) (front_nodes ++ own_nodes) way.first.chain (side_tip count) first_are (let long = first_long in omega (arith, long, some)) one.chain
      (λ e. tips_differ (ap (last_block_hash no_block) (first_cut count some) ∙ e))) way.leads_side

  side_tip_is : last_block_hash no_block (front ++ side_own) ≡ side_tip count
  side_tip_is = last_joined no_block front side_own

  side_departs : Departs (front ++ own) (front_nodes ++ own_nodes) way.side
  side_departs =
      let short = own_long in
      let long = side_long in
      departs file front side_own own front_nodes begin.side own_nodes way.side front_are begin.side_are own_are
      (none_turned (hashes_of_blocks own) (hashes_of_blocks side_own) own_apart) two.chain (omega (arith, long)) (omega (arith, long))

  three : Led file (front ++ own) (front_nodes ++ own_nodes) way.side way.last way.back
  three = line_leads file first_of count (front ++ own) (front_nodes ++ own_nodes) first_path first_same says_one way.side (first_tip count) first_is_hash
      (subst (λ (ns : List Node). LeadsAlone ns (first_tip count) (front_nodes ++ own_nodes)) (sym (two.found ∙ one.found)) first_alone) side_departs two.sure two.grows way.back way.last
      (ends_elsewhere file (front ++ side_own) (front_nodes ++ begin.side) way.side.chain (first_tip count) side_are (let long = length-side count some in omega (arith, long)) two.chain
      (λ e. tips_differ (sym e ∙ side_tip_is))) way.leads_back

  -- ---- what comes of them

  pub last_blocks : blocks_of way.last.chain ≡ first_branch count
  last_blocks = ap blocks_of three.chain ∙ placed_blocks file (front ++ own) (front_nodes ++ own_nodes) first_are ∙ sym (first_cut count some)

  pub side_blocks : blocks_of way.side.chain ≡ first_branch (fork count) ++ side_branch count
  side_blocks = ap blocks_of two.chain ∙ placed_blocks file (front ++ side_own) (front_nodes ++ begin.side) side_are

  first_moves : way.to_first ≡ (count + 15) / 16
  first_moves =
      let long = nodes_long file (front ++ own) (front_nodes ++ own_nodes) first_are in
      let all = first_long in
      let is = one.count in
      let enough = one.enough in
      ⊎_elim (λ none. omega (arith, long, all, is, enough, none, some)) (λ least. omega (arith, long, all, is, enough, least, some)) one.least

  side_moves : way.to_side ≡ 1
  side_moves =
      let long = nodes_long file (front ++ side_own) (front_nodes ++ begin.side) side_are in
      let all = length-side count some in
      let is = two.count in
      let shared = common_is file front own side_own front_nodes own_nodes begin.side way.first front_are own_are begin.side_are own_apart one.chain in
      let at = length-first (fork count) in
      let within = (fork_within count some).2 in
      ⊎_elim (λ none. omega (arith, is, none)) (λ least. omega (arith, is, long, all, shared, at, within, least)) two.least

  back_moves : way.back ≡ 1
  back_moves =
      let long = nodes_long file (front ++ own) (front_nodes ++ own_nodes) first_are in
      let all = first_long in
      let is = three.count in
      let shared = common_is file front side_own own front_nodes begin.side own_nodes way.side front_are begin.side_are own_are
      (none_turned (hashes_of_blocks own) (hashes_of_blocks side_own) own_apart) two.chain in
      let at = length-first (fork count) in
      let within = (fork_within count some).2 in
      ⊎_elim (λ none. omega (arith, is, none)) (λ least. omega (arith, is, long, all, shared, at, within, least)) three.least

  pub numbers_are : summary_at_end way ≡ numbers count
  numbers_are =
      let a = first_moves in
      let b = side_moves in
      let c = back_moves in
      sums_are count (way.to_first + way.to_side + way.back) way.last.chain some few differ last_blocks (omega (arith, a, b, c))

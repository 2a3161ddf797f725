-- What a proof by groups comes to.
use Rattle.std.proofs.Common.{◌≡◌, inl, inr, ℕ, ◌+◌, ◌-◌, ◌*◌, ◌/◌, ◌%◌, ◌<◌, ◌≤◌, min, nat_lt, List, [], ◌∷◌, ◌++◌, length, map, take, drop, get_or, refl, sym, ap, ap₂, ◌∙◌, append-nil, arith, Option, ◌==◌, eqb-true, ltb-true, ltb-false, lt-ltb, le-ltb}
use Rattle.std.specs.List.{range_with_len}
use Rattle.std.specs.Prelude.{MatchOption, OnOk, Result, Ok, Err}
use Rattle.std.proofs.lemmas.Bool.{cases_Bool, eqb-false}
use Rattle.std.proofs.lemmas.List.{take_all, take-take, take_min, drop-take, take-map, length-take, length-drop, length-take-le, get_or-take, same_lists}
use Rattle.std.proofs.lemmas.List.FromFn.{length-map-range_with_len, get_or-map-range_with_len, map-range_with_len_more}
use Rattle.el_base.specs.declared.hash.Hash32.{Hash32}
use Rattle.el_block.specs.Blocks.{block_hash}
use Rattle.el_chain.specs.Chains.{Chain}
use Rattle.el_chain.specs.declared.placed.Placed.{Placed}
use Rattle.el_merkle.specs.Merkle.{row, levels, no_hash, root, branch_through, branch_of}
use Rattle.el_merkle.proofs.Rows.{root_one, branch_one}
use Rattle.el_model.specs.Queries.{hashes_to, blocks_in, height_of}
use Rattle.el_levels.specs.declared.kept.GroupTree.{GroupTree}
use Rattle.el_levels.specs.declared.kept.AboveTree.{AboveTree}
use Rattle.el_levels.specs.Groups.{group, lifted, group_count, lifted_groups, group_roots}
use Rattle.el_levels.specs.Kept.{block_hashes, group_levels, IsGroupTreeOf, IsGroupOf, IsAboveOf}
use Rattle.el_levels.specs.within.Parts.{last_lifted, last_rows}
use Rattle.el_levels.proofs.GroupLemmas.{root_of_groups, branch_of_groups, full_root, group_of_front, length-roots, root_at, roots_stay}
use Rattle.el_levels.proofs.ReadingLemmas.{hash_count, under_blocks}

pub levels_large : (n : ℕ) → 2048 ≤ n → group_levels n ≡ 11
levels_large n le = rw (le-ltb n 2048 le) refl

pub levels_small : (n : ℕ) → n < 2048 → group_levels n ≡ levels n
levels_small n lt = rw (lt-ltb n 2048 lt) refl

-- ---- hashes of one group that isn't full

only_group : (list : List Hash32) → length list < 2048 → group list 0 ≡ list
unfolding group
only_group list few = take_all 2048 list (omega (arith, few))

one_group : (n : ℕ) (list : List Hash32) → 0 < n → n < 2048 → length list ≡ n → lifted_groups (group_levels n) list ≡ root list ∷ []
unfolding lifted_groups lifted root
one_group n list some few is =
    let count : group_count (length list) ≡ 1 = omega (arith, some, few, is) in
    let f = λ (g : ℕ). lifted (group_levels n) (group list g) in
    let small : length list < 2048 = omega (arith, few, is) in
    ap (λ (k : ℕ). map f (range_with_len 0 k)) count
    ∙ ap (λ (t : List Hash32). lifted (group_levels n) t ∷ []) (only_group list small)
    ∙ ap (λ (k : ℕ). lifted k list ∷ []) (levels_small n few ∙ ap levels (sym is))

-- ---- any hashes

pub proof_root : (n : ℕ) (list : List Hash32) → 0 < n → length list ≡ n → root (lifted_groups (group_levels n) list) ≡ root list
proof_root n list some is =
    elim (cases_Bool (nat_lt n 2048)) [
      | inl low ↦ ap root (one_group n list some (ltb-true n 2048 low) is) ∙ root_one (root list)
      | inr high ↦
          let large = ltb-false n 2048 high in
          ap (λ (k : ℕ). root (lifted_groups k list)) (levels_large n large) ∙ sym (root_of_groups list (omega (arith, large, is)))
    ]

small_branch : (n : ℕ) (list : List Hash32) (pos : ℕ) → pos < n → n < 2048 → length list ≡ n
    → branch_through (group_levels n) (group list (pos / 2048)) (pos % 2048) ≡ branch_of list pos
unfolding branch_of
small_branch n list pos inside few is =
    let first : pos / 2048 ≡ 0 = omega (arith, inside, few) in
    let same : pos % 2048 ≡ pos = omega (arith, inside, few) in
    let small : length list < 2048 = omega (arith, few, is) in
    ap (λ (k : ℕ). branch_through k (group list (pos / 2048)) (pos % 2048)) (levels_small n few ∙ ap levels (sym is))
    ∙ ap₂ (λ (g i : ℕ). branch_through (levels (length list)) (group list g) i) first same
    ∙ ap (λ (t : List Hash32). branch_through (levels (length list)) t pos) (only_group list small)

pub proof_branch : (n : ℕ) (list : List Hash32) (pos : ℕ) → pos < n → length list ≡ n
    → branch_through (group_levels n) (group list (pos / 2048)) (pos % 2048) ++ branch_of (lifted_groups (group_levels n) list) (pos / 2048)
    ≡ branch_of list pos
proof_branch n list pos inside is =
    elim (cases_Bool (nat_lt n 2048)) [
      | inl low ↦
          let few = ltb-true n 2048 low in
          ap₂ (λ (a b : List Hash32). a ++ b) (small_branch n list pos inside few is)
          (ap (λ (t : List Hash32). branch_of t (pos / 2048)) (one_group n list (omega (arith, inside)) few is) ∙ branch_one (root list) (pos / 2048))
          ∙ append-nil (branch_of list pos)
      | inr high ↦
          let large = ltb-false n 2048 high in
          ap (λ (k : ℕ). branch_through k (group list (pos / 2048)) (pos % 2048) ++ branch_of (lifted_groups k list) (pos / 2048)) (levels_large n large)
          ∙ sym (branch_of_groups list pos (omega (arith, large, is)))
    ]

-- ---- the hashes of a group

take_least : (m : ℕ) (xs : List Hash32) → take 2048 (take m xs) ≡ take (min 2048 m) xs
take_least m xs =
    let short = length-take m xs in
    elim (cases_Bool (nat_lt m 2048)) [
      | inl low ↦
          let few = ltb-true m 2048 low in
          let least : m ≡ min 2048 m = omega (arith, few) in
          take_all 2048 (take m xs) (omega (arith, few, short)) ∙ ap (λ (k : ℕ). take k xs) least
      | inr high ↦
          let many = ltb-false m 2048 high in
          let least : 2048 ≡ min 2048 m = omega (arith, many) in
          take-take 2048 m xs many ∙ ap (λ (k : ℕ). take k xs) least
    ]

pub leaves_are : (n number : ℕ) (hashes : List Hash32) → 2048 * number ≤ n
    → take (min 2048 (n - 2048 * number)) (drop (2048 * number) hashes) ≡ group (take n hashes) number
unfolding group
leaves_are n number hashes le =
    let split : 2048 * number + (n - 2048 * number) ≡ n = omega (arith, le) in
    sym (take_least (n - 2048 * number) (drop (2048 * number) hashes))
    ∙ ap (take 2048) (sym (drop-take (2048 * number) (n - 2048 * number) hashes))
    ∙ ap (λ (k : ℕ). take 2048 (drop (2048 * number) (take k hashes))) split

length-group : (list : List Hash32) (g : ℕ) → length (group list g) ≡ min 2048 (length list - 2048 * g)
unfolding group
length-group list g = length-take 2048 (drop (2048 * g) list) ∙ ap (min 2048) (length-drop (2048 * g) list)

-- ---- the hashes above groups

full_groups : (n : ℕ) (hashes : List Hash32) → n ≤ length hashes
    → map (λ (g : ℕ). lifted (group_levels n) (group (take n hashes) g)) (range_with_len 0 (n / 2048)) ≡ take (n / 2048) (group_roots hashes)
full_groups n hashes le =
    let q = n / 2048 in
    let f = λ (g : ℕ). lifted (group_levels n) (group (take n hashes) g) in
    let made = length-map-range_with_len f 0 q in
    let all = length-roots hashes in
    let kept = length-take q (group_roots hashes) in
    let short = length-take-le n hashes le in
    same_lists (map f (range_with_len 0 q)) (take q (group_roots hashes)) (omega (arith, made, all, kept, le))
    (λ g d lt.
    let below : g < n / 2048 = omega (arith, lt, made) in
    let large : 2048 ≤ n = omega (arith, below) in
    let whole = length-group (take n hashes) g in
    get_or-map-range_with_len f 0 q g g d below (omega arith)
    ∙ ap (λ (k : ℕ). lifted k (group (take n hashes) g)) (levels_large n large)
    ∙ full_root 11 (group (take n hashes) g) (omega (arith, whole, short, below))
    ∙ ap root (group_of_front n g hashes (omega (arith, below)))
    ∙ sym (root_at hashes g d (omega (arith, below, le)))
    ∙ sym (get_or-take q (group_roots hashes) g d below))

-- where the last group is full, the roots are all
pub above_full : (n : ℕ) (hashes : List Hash32) → n ≤ length hashes → n % 2048 ≡ 0
    → take (n / 2048) (group_roots hashes) ≡ lifted_groups (group_levels n) (take n hashes)
unfolding lifted_groups
above_full n hashes le full =
    let f = λ (g : ℕ). lifted (group_levels n) (group (take n hashes) g) in
    let short = length-take-le n hashes le in
    let count : n / 2048 ≡ group_count (length (take n hashes)) = omega (arith, short, full) in
    sym (full_groups n hashes le) ∙ ap (λ (k : ℕ). map f (range_with_len 0 k)) count

-- and else the hash above the last group comes after them
pub above_open : (n : ℕ) (hashes : List Hash32) → n ≤ length hashes → 0 < n % 2048
    → take (n / 2048) (group_roots hashes) ++ last_lifted n hashes ∷ [] ≡ lifted_groups (group_levels n) (take n hashes)
unfolding lifted_groups
above_open n hashes le some =
    let f = λ (g : ℕ). lifted (group_levels n) (group (take n hashes) g) in
    let short = length-take-le n hashes le in
    let count : n / 2048 + 1 ≡ group_count (length (take n hashes)) = omega (arith, short, some) in
    ap (λ (t : List Hash32). t ++ last_lifted n hashes ∷ []) (sym (full_groups n hashes le))
    ∙ sym (map-range_with_len_more f 0 (n / 2048) (n / 2048) (omega arith))
    ∙ ap (λ (k : ℕ). map f (range_with_len 0 k)) count

-- ---- trees

pub group_is : (n number : ℕ) (hashes : List Hash32) (tree : GroupTree) → 2048 * number ≤ n → IsGroupTreeOf tree n number → IsGroupOf hashes tree
    → tree.tree.leaves ≡ group (take n hashes) number
group_is n number hashes tree le at of =
    of ∙ ap₂ (λ (k s : ℕ). take k (drop s hashes)) at.count at.first ∙ leaves_are n number hashes le

-- the first block hashes
pub first_hashes : (chain : Chain) (upto : ℕ) → take (upto + 1) (block_hashes chain) ≡ hashes_to chain upto
first_hashes chain upto = take-map (λ (b : Placed). block_hash b.block.header) (upto + 1) chain

-- What is read off both trees is the branch among all hashes, and their root.
pub record IsProof (hashes : List Hash32) (n height : ℕ) (group : GroupTree) (above : AboveTree) : Type 0 where
  pub branch : branch_through group.tree.levels group.tree.leaves (height % 2048) ++ branch_through above.tree.levels above.tree.leaves (height / 2048)
      ≡ branch_of (take n hashes) height
  pub top : lifted above.tree.levels above.tree.leaves ≡ root (take n hashes)

pub is_proof : (hashes : List Hash32) (n height : ℕ) (group : GroupTree) (above : AboveTree) → n ≤ length hashes → height < n
    → IsGroupTreeOf group n (height / 2048) → IsGroupOf hashes group → above.upto + 1 ≡ n → IsAboveOf hashes above
    → IsProof hashes n height group above
unfolding branch_of lifted root
is_proof hashes n height tree above le below at of upto is =
    let list = take n hashes in
    let len : length list ≡ n = length-take-le n hashes le in
    let upper = lifted_groups (group_levels n) list in
    let leaves = group_is n (height / 2048) hashes tree (omega (arith, below)) at of in
    let over : above.tree.leaves ≡ upper = ap (λ t. t.leaves) is ∙ ap (λ (k : ℕ). lifted_groups (group_levels k) (take k hashes)) upto in
    let high : above.tree.levels ≡ levels (length upper) =
    ap (λ t. t.levels) is ∙ ap (λ (k : ℕ). levels (length (lifted_groups (group_levels k) (take k hashes)))) upto in
    record {
      branch =
          ap₂ (λ (a b : List Hash32). a ++ b)
          (ap₂ (λ (k : ℕ) (t : List Hash32). branch_through k t (height % 2048)) at.levels leaves)
          (ap₂ (λ (k : ℕ) (t : List Hash32). branch_through k t (height / 2048)) high over)
          ∙ proof_branch n list height below len;
      top =
          ap₂ (λ (k : ℕ) (t : List Hash32). get_or (row k t) 0 no_hash) high over
          ∙ proof_root n list (omega (arith, below)) len;
    }

-- the same of a ledger's chain
pub proof_of_chain : (chain : Chain) (height : Option ℕ) (asked upto : ℕ) (group : GroupTree) (above : AboveTree) → height ≡ height_of chain
    → MatchOption height ⊥ (λ (top : ℕ). upto ≤ top) → asked ≤ upto → IsGroupTreeOf group (upto + 1) (asked / 2048)
    → IsGroupOf (block_hashes chain) group → above.upto ≡ upto → IsAboveOf (block_hashes chain) above
    → IsProof (block_hashes chain) (upto + 1) asked group above
proof_of_chain chain height asked upto group above is within below at of top over =
    let count = hash_count chain height is in
    let under = under_blocks height upto within in
    is_proof (block_hashes chain) (upto + 1) asked group above (omega (arith, count, under)) (omega (arith, below)) at of
    (ap (λ (k : ℕ). k + 1) top) over

-- ---- following

-- the roots that stay while the first hashes do are those of the first full groups
pub staying : (before hashes roots : List Hash32) (same k : ℕ) → k ≤ same / 2048 → take same before ≡ take same hashes
    → roots ≡ take k (group_roots before) → roots ≡ take (length roots) (group_roots hashes)
staying before hashes roots same k le is kept =
    let here : roots ≡ take k (group_roots hashes) =
    kept ∙ sym (take-take k (same / 2048) (group_roots before) le)
    ∙ ap (take k) (roots_stay before hashes same is)
    ∙ take-take k (same / 2048) (group_roots hashes) le in
    here ∙ sym (take_min k (group_roots hashes))
    ∙ ap (λ (j : ℕ). take j (group_roots hashes)) (sym (ap length here ∙ length-take k (group_roots hashes)))

-- all roots
pub all_roots : (chain : Chain) (height : Option ℕ) → height ≡ height_of chain
    → take (blocks_in height / 2048) (group_roots (block_hashes chain)) ≡ group_roots (block_hashes chain)
all_roots chain height is =
    let count = hash_count chain height is in
    let all = length-roots (block_hashes chain) in
    take_all (blocks_in height / 2048) (group_roots (block_hashes chain)) (omega (arith, count, all))

-- ---- the last group

pub last_is : (n number : ℕ) (hashes : List Hash32) (tree : GroupTree) (hash : Hash32) → number ≡ n / 2048 → IsGroupTreeOf tree n number
    → IsGroupOf hashes tree → hash ≡ lifted tree.tree.levels tree.tree.leaves → hash ≡ last_lifted n hashes
last_is n number hashes tree hash is at of hash_is =
    hash_is
    ∙ ap₂ (λ (k : ℕ) (t : List Hash32). lifted k t) at.levels (group_is n number hashes tree (omega (arith, is)) at of)
    ∙ ap (λ (k : ℕ). lifted (group_levels n) (group (take n hashes) k)) is

-- the group that was asked and the last one have few hashes
pub rows_few : (n height : ℕ) → height < n
    → min 2048 (n - 2048 * (height / 2048)) + last_rows n (height / 2048) ≤ min 4096 n
rows_few n height lt =
    elim (cases_Bool (height / 2048 == n / 2048)) [
      | inl equal ↦
          let is = eqb-true (height / 2048) (n / 2048) equal in
          rw equal (omega (arith, lt, is))
      | inr other ↦
          let ne = eqb-false (height / 2048) (n / 2048) other in
          rw other (omega (arith, lt, ne))
    ]

-- ---- answers

pub on_ok : {T E : Type 0} (r : Result T E) (P Q : Type 0) → (P → Q) → OnOk r P → OnOk r Q
on_ok (Ok v) P Q f p = f p
on_ok (Err e) P Q f p = tt

-- The nodes of made blocks: their hashes, how they are linked, and in parts.
use Rattle.std.proofs.Common.{◌≡◌, ◌≢◌, inl, inr, ℕ, suc, Bool, true, false, ◌&&◌, if◌then◌else◌, List, [], ◌∷◌, ◌++◌, length, take, map, refl, sym, ap, ◌∙◌, append_assoc, append-nil, subst}
use Rattle.el_base.proofs.Lists.{all_weaker}
use Rattle.std.specs.Prelude.{fold, Some, Contains}
use Rattle.std.specs.List.{AllByRecursion}
use Rattle.std.specs.Option.{is_some}
use Rattle.std.proofs.lemmas.Bool.{cases_Bool, false≢true, or_parts}
use Rattle.std.proofs.lemmas.List.{map-append, map_push}
use Rattle.std.proofs.lemmas.List.Elements.{Contains-append_right}
use Rattle.el_base.specs.declared.hash.Hash32.{Hash32}
use Rattle.el_block.specs.Blocks.{AllDiffer, block_hash}
use Rattle.el_block.specs.declared.block.Block.{Block}
use Rattle.el_block.proofs.BlockRules.{still_differ}
use Rattle.el_chain.specs.Chains.{zero_hash}
use Rattle.el_chain.specs.declared.node.Node.{Node}
use Rattle.el_chain.specs.Headers.{same_hash, is_known, is_second, added, names_none, genesis, AreLinked, last_node, IsPath}
use Rattle.el_chain.proofs.TouchLemmas.{hash_gives, hash_from}
use Rattle.el_chain.proofs.CoinLists.{differs}
use Rattle.el_headers.proofs.Growing.{added_new}
use Rattle.el_headers.proofs.Paths.{member_at}
use Rattle.el_gen.specs.MadeFile.{last_block_hash, no_block}
use Rattle.el_check_laws.specs.Differing.{hashes_of_blocks}
use Rattle.el_check_laws.specs.MadeNodes.{AreNodesOf}
use Rattle.el_check_laws.proofs.Apart.{differ_parted}
use Rattle.el_check_laws.proofs.CoinParts.{and_false}
use Rattle.el_check_laws.proofs.MadeChains.{AreMade}
use Rattle.el_check_laws.proofs.OnePath.{HaveDifferent}

abbrev pub node_hashes : List Node → List Hash32
node_hashes ns = map (λ (n : Node). n.hash) ns

pub nodes_hashes : (bytes : List ℕ) (bs : List Block) (ns : List Node) → AreNodesOf bytes bs ns → node_hashes ns ≡ hashes_of_blocks bs
nodes_hashes bytes [] [] are = refl
nodes_hashes bytes (b ∷ bs) (n ∷ ns) are =
    ap (λ (h : Hash32). h ∷ node_hashes ns) are.0.hash ∙ ap (λ (hs : List Hash32). block_hash b.header ∷ hs) (nodes_hashes bytes bs ns are.1)
nodes_hashes bytes [] (n ∷ ns) are = absurd are
nodes_hashes bytes (b ∷ bs) [] are = absurd are

pub nodes_long : (bytes : List ℕ) (bs : List Block) (ns : List Node) → AreNodesOf bytes bs ns → length ns ≡ length bs
nodes_long bytes [] [] are = refl
nodes_long bytes (b ∷ bs) (n ∷ ns) are = ap suc (nodes_long bytes bs ns are.1)
nodes_long bytes [] (n ∷ ns) are = absurd are
nodes_long bytes (b ∷ bs) [] are = absurd are

pub nodes_linked : (bytes : List ℕ) (of : ℕ → ℕ) (previous : Hash32) (height : ℕ) (bs : List Block) (ns : List Node) → AreMade of previous height bs
    → AreNodesOf bytes bs ns → AreLinked previous ns
nodes_linked bytes of previous height [] [] made are = tt
nodes_linked bytes of previous height (b ∷ bs) (n ∷ ns) made are = (
  ap (λ (h : _). h.previous) are.0.header ∙ ap (λ (x : Block). x.header.previous) made.0,
  subst (λ (h : Hash32). AreLinked h ns) (sym are.0.hash) (nodes_linked bytes of (block_hash b.header) (suc height) bs ns made.1 are.1),
)
nodes_linked bytes of previous height [] (n ∷ ns) made are = absurd are
nodes_linked bytes of previous height (b ∷ bs) [] made are = absurd are

pub last_is : (bytes : List ℕ) (previous : Hash32) (bs : List Block) (g : Node) (rest : List Node) → AreNodesOf bytes bs (g ∷ rest)
    → (last_node g rest).hash ≡ last_block_hash previous bs
last_is bytes previous [] g rest are = absurd are
last_is bytes previous (b ∷ []) g [] are = are.0.hash
last_is bytes previous (b ∷ []) g (n ∷ rest) are = absurd are.1
last_is bytes previous (b ∷ c ∷ bs) g [] are = absurd are.1
last_is bytes previous (b ∷ c ∷ bs) g (n ∷ rest) are = last_is bytes (block_hash b.header) (c ∷ bs) n rest are.1

pub nodes_joined : (bytes : List ℕ) (xs ys : List Block) (ns ms : List Node) → AreNodesOf bytes xs ns → AreNodesOf bytes ys ms → AreNodesOf bytes (xs ++ ys) (ns ++ ms)
nodes_joined bytes [] ys [] ms a b = b
nodes_joined bytes (x ∷ xs) ys (n ∷ ns) ms a b = (a.0, nodes_joined bytes xs ys ns ms a.1 b)
nodes_joined bytes [] ys (n ∷ ns) ms a b = absurd a
nodes_joined bytes (x ∷ xs) ys [] ms a b = absurd a

pub nodes_front : (bytes : List ℕ) (xs ys : List Block) (ns : List Node) → AreNodesOf bytes (xs ++ ys) ns → AreNodesOf bytes xs (take (length xs) ns)
nodes_front bytes [] ys ns are = tt
nodes_front bytes (x ∷ xs) ys [] are = absurd are
nodes_front bytes (x ∷ xs) ys (n ∷ ns) are = (are.0, nodes_front bytes xs ys ns are.1)

-- ---- nodes that name one before them

abbrev pub NamesSome : Node → Type 0
NamesSome n = names_none n ≡ false

pub later_all : (before : Hash32) (ns : List Node) → AreLinked before ns → zero_hash ≢ before → AllByRecursion (λ (h : Hash32). zero_hash ≢ h) (node_hashes ns)
    → AllByRecursion NamesSome ns
later_all before [] linked some all = tt
later_all before (n ∷ ns) linked some all = (
  differs (names_none n) (λ e. some (sym (hash_gives n.header.previous zero_hash e) ∙ linked.0)),
  later_all n.hash ns linked.1 all.0 all.1,
)

-- ---- found nodes

pub first_added : (g : Node) → added [] g ≡ g ∷ []
first_added g = ap (λ (b : Bool). if b then [] else g ∷ []) (and_false (names_none g))

others_differ : (h : Hash32) (found : List Node) → is_known found h ≡ false → AllByRecursion (λ (y : Hash32). y ≢ h) (node_hashes found)
others_differ h [] e = tt
others_differ h (m ∷ ms) e =
    let parts = or_parts (same_hash m.hash h) (is_known ms h) e in
    (λ is. false≢true (sym parts.0 ∙ hash_from m.hash h is), others_differ h ms parts.1)

unknown : (h : Hash32) (found : List Node) → AllByRecursion (λ (y : Hash32). y ≢ h) (node_hashes found) → is_known found h ≡ false
unknown h [] all = refl
unknown h (m ∷ ms) all =
    let one : same_hash m.hash h ≡ false = differs (same_hash m.hash h) (λ e. all.0 (hash_gives m.hash h e)) in
    rw one (unknown h ms all.1)

pub all_added : (found ns : List Node) → AllByRecursion NamesSome ns → HaveDifferent (found ++ ns) → fold added found ns ≡ found ++ ns
all_added found [] later d = sym (append-nil found)
all_added found (n ∷ ns) later d =
    let parts = differ_parted (node_hashes found) (node_hashes (n ∷ ns)) (subst AllDiffer (map-append (λ (m : Node). m.hash) found (n ∷ ns)) d) in
    let new = unknown n.hash found (all_weaker _ (λ (y : Hash32). y ≢ n.hash) (node_hashes found) (λ y none. none.0) parts.both) in
    let is = added_new found n (new, ap (λ (b : Bool). b && is_some (genesis found)) later.0) in
    ap (λ (f : List Node). fold added f ns) is
    ∙ all_added (found ++ n ∷ []) ns later.1 (subst HaveDifferent (sym (append_assoc found (n ∷ []) ns)) d)
    ∙ append_assoc found (n ∷ []) ns

-- whatever is added, what was found stays in front, and no hash stands twice
pub record Grown (found now : List Node) : Type 0 where
  pub more : List Node
  pub is : now ≡ found ++ more
  pub differ : HaveDifferent now

pub any_added : (found ns : List Node) → HaveDifferent found → Grown found (fold added found ns)
any_added found [] d = record { more = []; is = sym (append-nil found); differ = d }
any_added found (n ∷ ns) d = elim (cases_Bool (is_known found n.hash)) [
  | inl known ↦ rw known (any_added found ns d)
  | inr new ↦ elim (cases_Bool (is_second found n)) [
    | inl second ↦ rw (new, second) (any_added found ns d)
    | inr single ↦
        let rest = any_added (found ++ n ∷ []) ns (subst AllDiffer (sym (map_push (λ (m : Node). m.hash) found n))
        (still_differ (node_hashes found) n.hash d (others_differ n.hash found new))) in
        rw (new, single) (record { more = n ∷ rest.more; is = rest.is ∙ append_assoc found (n ∷ []) rest.more; differ = rest.differ })
  ]
]

pub all_inside : (front xs back : List Node) → AllByRecursion (Contains (front ++ (xs ++ back))) xs
all_inside front [] back = tt
all_inside front (x ∷ xs) back = (
  Contains-append_right front (x ∷ (xs ++ back)) x (member_at (x ∷ (xs ++ back)) 0 x refl),
  subst (λ (l : List Node). AllByRecursion (Contains l) xs) (append_assoc front (x ∷ []) (xs ++ back)) (all_inside (front ++ x ∷ []) xs back),
)

-- ---- the path of made nodes

-- the first of them names no block before it, and each other does
pub made_named : (bytes : List ℕ) (of : ℕ → ℕ) (bs : List Block) (g : Node) (rest : List Node) → AreMade of no_block 0 bs → AreNodesOf bytes bs (g ∷ rest)
    → AllByRecursion (λ (h : Hash32). zero_hash ≢ h) (hashes_of_blocks bs) → (names_none g ≡ true) × AllByRecursion NamesSome rest
made_named bytes of bs g rest made are some =
    let linked = nodes_linked bytes of no_block 0 bs (g ∷ rest) made are in
    let hashes = subst (AllByRecursion (λ (h : Hash32). zero_hash ≢ h)) (sym (nodes_hashes bytes bs (g ∷ rest) are)) some in
    (hash_from g.header.previous zero_hash linked.0, later_all g.hash rest linked.1 hashes.0 hashes.1)

pub made_path : (bytes : List ℕ) (of : ℕ → ℕ) (bs : List Block) (g : Node) (rest found : List Node) → AreMade of no_block 0 bs → AreNodesOf bytes bs (g ∷ rest)
    → AllByRecursion (λ (h : Hash32). zero_hash ≢ h) (hashes_of_blocks bs) → genesis found ≡ Some g → AllByRecursion (Contains found) rest
    → IsPath found (last_block_hash no_block bs) (g ∷ rest)
made_path bytes of bs g rest found made are some begins inside =
    let linked = nodes_linked bytes of no_block 0 bs (g ∷ rest) made are in
    let named = made_named bytes of bs g rest made are some in
    record {
      first = g;
      rest = rest;
      whole = refl;
      begins = begins;
      once = all_weaker NamesSome (λ (n : Node). n ≢ g) rest (λ n later is. false≢true (sym later ∙ ap names_none is ∙ named.0)) named.1;
      members = inside;
      linked = linked.1;
      ends = last_is bytes no_block bs g rest are;
    }

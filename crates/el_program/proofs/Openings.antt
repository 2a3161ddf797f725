-- The nodes that a scan finds, and the tree where they are added.
use Rattle.std.proofs.Common.{◌≡◌, ℕ, zero, suc, ◌+◌, ◌<◌, List, [], ◌∷◌, ◌++◌, length, take, get_or, Option, None, Some, refl, sym, ap, ◌∙◌}
use Rattle.std.specs.Prelude.{slice_get, option_map}
use Rattle.std.specs.List.{AllByRecursion}
use Rattle.el_base.proofs.Lists.{all_weaker}
use Rattle.std.proofs.lemmas.List.{take_more, length-map}
use Rattle.std.proofs.lemmas.Option.{slice_get-map, slice_get_within, get_or_from_slice_get}
use Rattle.el_outside.specs.declared.archive.Place.{Place}
use Rattle.el_tx.specs.Headers.{IsHeader, header_encoding}
use Rattle.el_tx.specs.declared.types.Header.{Header}
use Rattle.el_block.specs.Blocks.{block_hash}
use Rattle.el_chain.specs.Chains.{Chain}
use Rattle.el_chain.specs.Faults.{IsGood, AreNext}
use Rattle.el_chain.specs.declared.node.Node.{Node}
use Rattle.el_chain.specs.declared.placed.Placed.{Placed}
use Rattle.el_model.specs.Queries.{blocks_in, header_at, place_at, height_of}
use Rattle.el_model.proofs.Heights.{blocks_are}
use Rattle.el_chain.specs.Headers.{added}
use Rattle.el_chain.specs.Records.{IsNode}
use Rattle.el_files.specs.Appending.{AppendsOnly}
use Rattle.el_files.specs.Scanning.{IsFoundBelow}
use Rattle.el_program.specs.Opened.{all_added, node_of_block, nodes_of_chain}

are_nodes' : (gave : ℕ → ℕ → List ℕ → Type 0) (magic : List ℕ) (count : ℕ) (ns : List Node)
    → AllByRecursion (IsFoundBelow gave magic count) ns → AllByRecursion IsNode ns
are_nodes' gave magic count ns are =
    all_weaker (IsFoundBelow gave magic count) IsNode ns (λ n f. f.found.found.node) are

-- nodes that were found are nodes
pub are_nodes : {gave : ℕ → ℕ → List ℕ → Type 0} {magic : List ℕ} (count : ℕ) (ns : List Node)
    → AppendsOnly (IsFoundBelow gave magic count) [] ns → AllByRecursion IsNode ns
are_nodes {gave} {magic} count ns only = rw only.appended (are_nodes' gave magic count only.more only.each)

-- and each was found so
pub are_found : {P : Node → Type 0} (ns : List Node) → AppendsOnly P [] ns → AllByRecursion P ns
are_found ns only = rw only.appended only.each

all_added_more : (found ns : List Node) (n : Node)
    → all_added found (ns ++ n ∷ []) ≡ added (all_added found ns) n
all_added_more found [] n = refl
all_added_more found (m ∷ ms) n = all_added_more (added found m) ms n

-- one more node is added
pub one_added : (first tree next ns : List Node) (i : ℕ) (d : Node) → i < length ns
    → tree ≡ all_added first (take i ns) → next ≡ added tree (get_or ns i d)
    → next ≡ all_added first (take (i + 1) ns)
one_added first tree next ns i d lt so_far more =
    more ∙ ap (λ (t : List Node). added t (get_or ns i d)) so_far
    ∙ sym (all_added_more first (take i ns) (get_or ns i d)) ∙ ap (λ (l : List Node). all_added first l)
    (sym (take_more ns i d lt))

-- ---- the nodes of a chain

headers_fit : (before chain : Chain) (h : ℕ) (b : Placed) → AreNext before chain → slice_get chain h ≡ Some b
    → IsHeader b.block.header
headers_fit before [] h b next is = absurd cc
headers_fit before (x ∷ xs) zero b next is =
    let same : x ≡ b = cc in
    rw (← same) next.0.encoded.1.text.header
headers_fit before (x ∷ xs) (suc h) b next is = headers_fit (before ++ x ∷ []) xs h b next.1 is

-- the node with the header and the place of a block is the block's
of_block : (found : Option Placed) (header : List ℕ) (place : Place) (n : Node)
    → option_map (λ (b : Placed). header_encoding b.block.header) found ≡ Some header
    → option_map (λ (b : Placed). b.place) found ≡ Some place
    → ((b : Placed) → found ≡ Some b → IsHeader b.block.header)
    → ((h : Header) → IsHeader h → header ≡ header_encoding h
    → n ≡ record { hash = block_hash h; header = h; place = place })
    → option_map node_of_block found ≡ Some n
of_block None header place n of_header of_place fits is = absurd cc
of_block (Some b) header place n of_header of_place fits is =
    let bytes : header ≡ header_encoding b.block.header = cc in
    let at' : b.place ≡ place = cc in
    let made = is b.block.header (fits b refl) bytes in
    ap Some (rw made (rw at' refl))

pub node_at_height : (chain : Chain) (h : ℕ) (header : List ℕ) (place : Place) (n : Node) → IsGood chain
    → header_at chain h ≡ Some header → place_at chain h ≡ Some place
    → ((k : Header) → IsHeader k → header ≡ header_encoding k
    → n ≡ record { hash = block_hash k; header = k; place = place })
    → slice_get (nodes_of_chain chain) h ≡ Some n
node_at_height chain h header place n good of_header of_place is =
    slice_get-map node_of_block chain h
    ∙ of_block (slice_get chain h) header place n of_header of_place
    (λ b found. headers_fit [] chain h b good.each found) is

-- one more node of a list that is read in order
pub one_more : (ns so_far : List Node) (i : ℕ) (n : Node) → so_far ≡ take i ns → slice_get ns i ≡ Some n
    → so_far ++ n ∷ [] ≡ take (i + 1) ns
one_more ns so_far i n are is =
    let lt = slice_get_within ns i n is in
    let same = get_or_from_slice_get ns i n n is in
    ap (λ (l : List Node). l ++ n ∷ []) are
    ∙ ap (λ (m : Node). take i ns ++ m ∷ []) (sym same)
    ∙ sym (take_more ns i n lt)

pub nodes_length : (chain : Chain) → length (nodes_of_chain chain) ≡ blocks_in (height_of chain)
nodes_length chain = length-map chain node_of_block ∙ sym (blocks_are chain)

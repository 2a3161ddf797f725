-- The nodes that a scan finds, and the tree where they are added.
use Rattle.std.proofs.Common.{◌≡◌, ℕ, ◌+◌, ◌<◌, List, [], ◌∷◌, ◌++◌, length, take, get_or, refl, sym, ap, ◌∙◌}
use Rattle.std.specs.Prelude.{fold}
use Rattle.std.specs.List.{AllByRecursion}
use Rattle.el_base.proofs.Lists.{all_weaker}
use Rattle.std.proofs.lemmas.List.{take_more}
use Rattle.el_chain.specs.Headers.{added}
use Rattle.el_chain.specs.Records.{IsNode}
use Rattle.el_chain.specs.declared.node.Node.{Node}
use Rattle.el_files.specs.Appending.{AppendsOnly}
use Rattle.el_files.specs.Scanning.{IsFoundBelow}

-- nodes that were found are nodes
pub are_nodes : {gave : ℕ → ℕ → List ℕ → Type 0} {magic : List ℕ} (count : ℕ) (ns : List Node)
    → AppendsOnly (IsFoundBelow gave magic count) [] ns → AllByRecursion IsNode ns
are_nodes {gave} {magic} count ns only =
    rw only.appended (all_weaker (IsFoundBelow gave magic count) IsNode only.more (λ n f. f.found.found.node) only.each)

added_more : (found ns : List Node) (n : Node) → fold added found (ns ++ n ∷ []) ≡ added (fold added found ns) n
added_more found [] n = refl
added_more found (m ∷ ms) n = added_more (added found m) ms n

-- one more node is added
pub one_added : (first tree next ns : List Node) (i : ℕ) (d : Node) → i < length ns
    → tree ≡ fold added first (take i ns) → next ≡ added tree (get_or ns i d)
    → next ≡ fold added first (take (i + 1) ns)
one_added first tree next ns i d lt so_far more =
    more ∙ ap (λ (t : List Node). added t (get_or ns i d)) so_far
    ∙ sym (added_more first (take i ns) (get_or ns i d)) ∙ ap (λ (l : List Node). fold added first l)
    (sym (take_more ns i d lt))

-- The tables where one more node is put in.
use Rattle.std.proofs.Common.{◌≡◌, inl, inr, ℕ, ◌+◌, ◌≤◌, Bool, true, false, cond, List, [], ◌∷◌, ◌++◌, length, Option, None, Some, refl, sym, ap, ◌∙◌, subst, arith}
use Rattle.std.specs.Prelude.{vec_capacity}
use Rattle.std.specs.List.{slice_get, list_any}
use Rattle.std.specs.Option.{is_some, option_map}
use Rattle.std.proofs.lemmas.Bool.{cases_Bool, false≢true}
use Rattle.std.proofs.lemmas.List.{length_push}
use Rattle.indexmap.specs.IndexMap.{IndexMap, get}
use Rattle.el_base.specs.declared.hash.Hash32.{Hash32}
use Rattle.el_chain.specs.declared.node.Node.{Node}
use Rattle.el_chain.specs.Headers.{same_hash, has_hash, is_known, is_second, added, genesis, IsFound, IsPath}
use Rattle.el_chain.specs.Records.{IsNode}
use Rattle.el_headers.specs.Adding.{IsNew}
use Rattle.el_headers.specs.declared.table.Table.{Table}
use Rattle.el_headers.specs.within.Tables.{greatest, is_child_of, AreNewest, AreOlder, AreHeights, AreSame, IsTable, IsHeight, Keeps, NoneLeft, StayKnown, open_count}
use Rattle.el_headers.proofs.Places.{any_at, any_from, at_last, greatest_passes, greatest_above}
use Rattle.el_headers.proofs.Heights.{open_more, open_one_more, open_few}
use Rattle.el_headers.proofs.Growing.{found_more, added_new, numbers_more, older_more, heights_attached, heights_waiting, first_more}
use Rattle.el_headers.proofs.Paths.{path_there, no_path}

-- a node passes a test where a greatest one does
pub any_greatest : (test : Node → Bool) (found : List Node) → is_some (greatest test found) ≡ list_any test found
any_greatest test found = elim (cases_Bool (list_any test found)) [
  | inl h ↦
      let at = any_at test found h in
      let above = greatest_above 0 test found at.0 at.1 at.2 at.3 in
      ap is_some above.1 ∙ sym h
  | inr h ↦ none_passes (greatest test found) refl h ∙ sym h
]
  where
    none_passes : (o : Option ℕ) → greatest test found ≡ o → list_any test found ≡ false → is_some (greatest test found) ≡ false
    none_passes None e h = ap is_some e
    none_passes (Some g) e h =
        let p = greatest_passes 0 test found g e in
        absurd (false≢true (sym h ∙ any_from test found p.0 p.1 p.3 p.4))

-- the same tables
pub same_numbers : {S : Type 0} (a b : IndexMap Hash32 ℕ S) → a.entries ≡ b.entries → (h : Hash32) → get same_hash a h ≡ get same_hash b h
same_numbers a b e h = rw e refl

pub same_table : (s t : Table) → IsTable t → AreSame s t → IsTable s
same_table s t h same = record {
  found = rw same.nodes h.found;
  numbers = λ k. rw same.nodes (same_numbers s.numbers t.numbers same.numbers k ∙ h.numbers k);
  children = λ k. rw same.nodes (same_numbers s.children t.children same.children k ∙ h.children k);
  older = rw (same.nodes, same.older) h.older;
  heights = rw (same.nodes, same.heights) h.heights;
  stack = same.stack ∙ h.stack;
  first = rw same.nodes (same.first ∙ h.first);
}

-- What holds of the tables after a node was put in, before those that waited for it are attached.
pub record IsPut (before : List Node) (t : Table) (n : Node) (height : Option ℕ) : Type 0 where
  pub nodes : t.nodes.items ≡ before ++ n ∷ []
  pub new_at : slice_get t.nodes.items (length before) ≡ Some n
  pub height_at : slice_get t.heights.items (length before) ≡ Some height
  pub found : IsFound t.nodes.items
  pub numbers : (h : Hash32) → get same_hash t.numbers h ≡ greatest (has_hash h) t.nodes.items
  pub children : AreNewest t.nodes.items t.children
  pub older : AreOlder t.nodes.items t.older.items
  pub heights : AreHeights t.nodes.items t.heights.items t.stack.items NoneLeft
  pub first : t.genesis ≡ option_map (λ (m : Node). m.hash) (genesis t.nodes.items)
  pub room : length t.stack.items + open_count t.heights.items ≤ vec_capacity t.stack

heights_put : (found : List Node) (heights : List (Option ℕ)) (n : Node) (height : Option ℕ) → is_second found n ≡ false
    → AreHeights found heights [] NoneLeft → IsHeight found heights n height
    → AreHeights (found ++ n ∷ []) (heights ++ height ∷ []) (cond (is_some height) (length found ∷ []) []) NoneLeft
heights_put found heights n None single a h = heights_waiting found heights n a h
heights_put found heights n (Some x) single a h = heights_attached found heights n x single a h

room_put : (heights : List (Option ℕ)) (height : Option ℕ) (count : ℕ) → length (cond (is_some height) (count ∷ []) []) + open_count (heights ++ height ∷ []) ≤ length heights + 1
room_put heights None count = let few = open_few heights in let more = open_one_more heights in omega arith
room_put heights (Some x) count = let few = open_few heights in let more = open_more heights x in omega arith

pub is_put : (s t : Table) (n : Node) (height : Option ℕ) → IsTable s → IsNode n → IsNew s.nodes.items n
    → IsHeight s.nodes.items s.heights.items n height → Keeps s t n height → IsPut s.nodes.items t n height
is_put s t n height h node new is k =
    let count = h.heights.count in
    let more = length_push s.nodes.items n in
    let all = ap length k.nodes in
    let capacity = k.room in
    let room : length t.stack.items + open_count t.heights.items ≤ length s.heights.items + 1 =
    subst (λ (st : List ℕ). length st + open_count t.heights.items ≤ length s.heights.items + 1) (sym k.stack)
    (subst (λ (hs : List (Option ℕ)). length (cond (is_some height) (length s.nodes.items ∷ []) []) + open_count hs ≤ length s.heights.items + 1) (sym k.heights)
    (room_put s.heights.items height (length s.nodes.items))) in
    record {
      nodes = k.nodes;
      new_at = rw k.nodes (at_last s.nodes.items n);
      height_at = rw (k.heights, ← count) (at_last s.heights.items height);
      found = rw k.nodes (found_more s.nodes.items n h.found node new);
      numbers = λ q. rw k.nodes (numbers_more s.numbers t.numbers has_hash n.hash s.nodes.items n (λ p. refl) h.numbers k.numbers q);
      children = λ q. rw k.nodes (numbers_more s.children t.children is_child_of n.header.previous s.nodes.items n (λ p. refl) h.children k.children q);
      older = rw (k.nodes, k.older) (older_more s.nodes.items s.older.items n _ h.older (h.children n.header.previous));
      heights = rw (k.nodes, k.heights, k.stack) (heights_put s.nodes.items s.heights.items n height new.1 h.heights is);
      first = rw k.nodes (k.first ∙ first_more s.nodes.items s.heights.items n height s.genesis new.1 is h.first);
      room = omega arith;
    }

-- the same where room was made first
pub put_new : (old s t : Table) (n : Node) (height : Option ℕ) → IsTable old → AreSame s old → IsNode n → IsNew old.nodes.items n
    → IsHeight s.nodes.items s.heights.items n height → Keeps s t n height → IsPut old.nodes.items t n height
put_new old s t n height h same node new is k =
    subst (λ (ns : List Node). IsPut ns t n height) same.nodes
    (is_put s t n height (same_table s old h same) node (subst (λ (ns : List Node). IsNew ns n) (sym same.nodes) new) is k)

-- a path leads to the node, or none
pub put_path : (found nodes : List Node) (before heights : List (Option ℕ)) (n : Node) (x : ℕ) → IsNew found n → nodes ≡ found ++ n ∷ []
    → slice_get nodes (length found) ≡ Some n → slice_get before (length found) ≡ Some (Some x) → StayKnown before heights
    → AreHeights nodes heights [] NoneLeft → (path : List Node) × IsPath (added found n) n.hash path × (length path ≡ x + 1)
put_path found nodes before heights n x new is at known stay a =
    let p = path_there nodes heights a (length found) x n at (stay (length found) x known) in
    (p.0, subst (λ (ns : List Node). IsPath ns n.hash p.0) (is ∙ sym (added_new found n new)) p.1, p.2)

pub put_no_path : (found nodes : List Node) (heights : List (Option ℕ)) (n : Node) → IsNew found n → nodes ≡ found ++ n ∷ [] → IsFound nodes
    → slice_get nodes (length found) ≡ Some n → slice_get heights (length found) ≡ Some None → AreHeights nodes heights [] NoneLeft
    → (path : List Node) → IsPath (added found n) n.hash path → ⊥
put_no_path found nodes heights n new is f at bare a path p =
    no_path nodes heights a f.differ (length found) n at bare path (subst (λ (ns : List Node). IsPath ns n.hash path) (added_new found n new ∙ sym is) p)

-- a hash that has a number is known, and its node is there
pub known_at : (found : List Node) (h : Hash32) (number : ℕ) → greatest (has_hash h) found ≡ Some number → is_known found h ≡ true
known_at found h number is = sym (any_greatest (has_hash h) found) ∙ ap is_some is

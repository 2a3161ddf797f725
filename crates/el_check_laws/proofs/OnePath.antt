-- Where no hash of found nodes stands twice, at most one path leads to a hash.
use Rattle.std.proofs.Common.{◌≡◌, ◌≢◌, ◌⊎◌, inl, inr, ℕ, zero, suc, ◌≤◌, List, [], ◌∷◌, ◌++◌, length, map, Some, refl, sym, ap, ◌∙◌, subst, arith}
use Rattle.std.specs.Prelude.{Contains}
use Rattle.std.specs.List.{AllByRecursion, slice_get}
use Rattle.std.proofs.lemmas.List.{length_push}
use Rattle.el_base.specs.declared.hash.Hash32.{Hash32}
use Rattle.el_block.specs.Blocks.{AllDiffer}
use Rattle.el_chain.specs.declared.node.Node.{Node}
use Rattle.el_chain.specs.Headers.{names_none, genesis, AreLinked, last_node, IsPath}
use Rattle.el_headers.proofs.Places.{at_one}
use Rattle.el_headers.proofs.Growing.{one_place}
use Rattle.el_headers.proofs.Paths.{place_of, member_at, found_at}
use Rattle.el_check_laws.proofs.Apart.{all_parted}

abbrev pub HaveDifferent : List Node → Type 0
HaveDifferent found = AllDiffer (map (λ (n : Node). n.hash) found)

ends : {X : Type 0} (xs : List X) → (xs ≡ []) ⊎ ((front : List X) × (x : X) × (xs ≡ front ++ x ∷ []))
ends [] = inl refl
ends (x ∷ xs) = elim (ends xs) [
  | inl none ↦ inr ([], x, ap (λ (ys : List _). x ∷ ys) none)
  | inr more ↦ inr (x ∷ more.0, more.1, ap (λ (ys : List _). x ∷ ys) more.2)
]

last_of : (n : Node) (front : List Node) (m : Node) → last_node n (front ++ m ∷ []) ≡ m
last_of n [] m = refl
last_of n (x ∷ front) m = last_of x front m

linked_front : (n : Node) (front : List Node) (m : Node) → AreLinked n.hash (front ++ m ∷ [])
    → AreLinked n.hash front × (m.header.previous ≡ (last_node n front).hash)
linked_front n [] m h = (tt, h.0)
linked_front n (x ∷ front) m h = let rest = linked_front x front m h.1 in ((h.0, rest.0), rest.1)

-- two found nodes with one hash are one
same_node : (found : List Node) (a b : Node) → HaveDifferent found → Contains found a → Contains found b → a.hash ≡ b.hash → a ≡ b
same_node found a b d ca cb e =
    let i = place_of found a ca in
    let j = place_of found b cb in
    let same = one_place found d i.0 j.0 a b i.1 j.1 e in
    at_one found j.0 a b (subst (λ (p : ℕ). slice_get found p ≡ Some a) same i.1) j.1

-- What follows the genesis on a path.
record Follows (found : List Node) (g : Node) (h : Hash32) (rest : List Node) : Type 0 where
  pub members : AllByRecursion (Contains found) rest
  pub once : AllByRecursion (λ (n : Node). n ≢ g) rest
  pub linked : AreLinked g.hash rest
  pub ends_in : (last_node g rest).hash ≡ h

last_step : (found : List Node) (g : Node) (h : Hash32) (rest front : List Node) (n : Node) → rest ≡ front ++ n ∷ [] → Follows found g h rest
    → Follows found g n.header.previous front × Contains found n × (n ≢ g) × (n.hash ≡ h)
last_step found g h rest front n is f =
    let members = all_parted (Contains found) front (n ∷ []) (subst (AllByRecursion (Contains found)) is f.members) in
    let once = all_parted (λ (m : Node). m ≢ g) front (n ∷ []) (subst (AllByRecursion (λ (m : Node). m ≢ g)) is f.once) in
    let linked = linked_front g front n (subst (AreLinked g.hash) is f.linked) in (
      record { members = members.0; once = once.0; linked = linked.0; ends_in = sym linked.1 },
      members.1.0,
      once.1.0,
      ap (λ (m : Node). m.hash) (sym (last_of g front n)) ∙ ap (λ (r : List Node). (last_node g r).hash) (sym is) ∙ f.ends_in,
    )

none_follows : (found : List Node) (g : Node) (h : Hash32) (rest : List Node) → HaveDifferent found → Contains found g → g.hash ≡ h → Follows found g h rest → rest ≡ []
none_follows found g h rest d there e r = elim (ends rest) [
  | inl none ↦ none
  | inr more ↦
      let s = last_step found g h rest more.0 more.1 more.2 r in
      absurd (s.2 (same_node found more.1 g d s.1 there (s.3 ∙ sym e)))
]

same_rest : (limit : ℕ) (found : List Node) (g : Node) (h : Hash32) (one other : List Node) → length one ≤ limit → HaveDifferent found → Contains found g
    → Follows found g h one → Follows found g h other → one ≡ other
same_rest limit found g h [] other le d there p q = sym (none_follows found g h other d there p.ends_in q)
same_rest zero found g h (x ∷ xs) other le d there p q = absurd (omega arith)
same_rest (suc limit) found g h (x ∷ xs) other le d there p q = elim (ends (x ∷ xs)) [
  | inl none ↦ none ∙ sym (none_follows found g h other d there (ap (λ (r : List Node). (last_node g r).hash) (sym none) ∙ p.ends_in) q)
  | inr a ↦ elim (ends other) [
    | inl none ↦
        none_follows found g h (x ∷ xs) d there (ap (λ (r : List Node). (last_node g r).hash) (sym none) ∙ q.ends_in) p ∙ sym none
    | inr b ↦
        let s = last_step found g h (x ∷ xs) a.0 a.1 a.2 p in
        let t = last_step found g h other b.0 b.1 b.2 q in
        let node = same_node found a.1 b.1 d s.1 t.1 (s.3 ∙ sym t.3) in
        let long = ap length a.2 in
        let more = length_push a.0 a.1 in
        let le = le in
        let short : length a.0 ≤ limit = omega arith in
        let front = same_rest limit found g a.1.header.previous a.0 b.0 short d there s.0
        (subst (λ (n : Node). Follows found g n.header.previous b.0) (sym node) t.0) in
        a.2 ∙ ap (λ (ys : List Node). ys ++ a.1 ∷ []) front ∙ ap (λ (n : Node). b.0 ++ n ∷ []) node ∙ sym b.2
  ]
]

pub one_path : (found : List Node) (h : Hash32) (one other : List Node) → HaveDifferent found → IsPath found h one → IsPath found h other → one ≡ other
one_path found h one other d p q =
    let g : p.first ≡ q.first = same_first p.first q.first p.begins q.begins in
    let at = found_at names_none found p.first p.begins in
    let there = member_at found at.0 p.first at.1 in
    let other_follows : Follows found q.first h q.rest = record { members = q.members; once = q.once; linked = q.linked; ends_in = q.ends } in
    let rest = same_rest (length p.rest) found p.first h p.rest q.rest (omega arith) d there
    (record { members = p.members; once = p.once; linked = p.linked; ends_in = p.ends })
    (subst (λ (n : Node). Follows found n h q.rest) (sym g) other_follows) in
    p.whole ∙ ap (λ (n : Node). n ∷ p.rest) g ∙ ap (λ (r : List Node). q.first ∷ r) rest ∙ sym q.whole
  where
    same_first : (a b : Node) → genesis found ≡ Some a → genesis found ≡ Some b → a ≡ b
    same_first a b e k = cc

-- At most one path leads to a hash; paths stay paths, and go on.
use Rattle.std.proofs.Common.{◌≡◌, ◌≢◌, ◌⊎◌, inl, inr, ℕ, zero, suc, ◌≤◌, false, List, [], ◌∷◌, ◌++◌, length, Option, None, Some, refl, sym, ap, ◌∙◌, subst, arith}
use Rattle.std.specs.Prelude.{Contains, IfSome, IfNone}
use Rattle.std.specs.List.{AllByRecursion, slice_get}
use Rattle.std.proofs.lemmas.Bool.{cases_Bool, false≢true}
use Rattle.std.proofs.lemmas.List.{length_push}
use Rattle.std.proofs.lemmas.List.Elements.{Contains-append_left}
use Rattle.el_base.proofs.Lists.{all_more, all_weaker}
use Rattle.el_base.specs.declared.hash.Hash32.{Hash32}
use Rattle.el_chain.specs.declared.node.Node.{Node}
use Rattle.el_chain.specs.Headers.{has_hash, is_known, is_second, added, names_none, genesis, IsFound, AreLinked, last_node, IsPath}
use Rattle.el_chain.proofs.TouchLemmas.{hash_from}
use Rattle.el_headers.proofs.Places.{at_one, any_from}
use Rattle.el_headers.proofs.Growing.{genesis_stays, one_place}
use Rattle.el_headers.proofs.Paths.{place_of, member_at, found_at, path_before}

-- a list is empty or has a last element
ends : {X : Type 0} (xs : List X) → (xs ≡ []) ⊎ ((front : List X) × (x : X) × (xs ≡ front ++ x ∷ []))
ends [] = inl refl
ends (x ∷ xs) = elim (ends xs) [
  | inl none ↦ inr ([], x, ap (λ (ys : List _). x ∷ ys) none)
  | inr more ↦ inr (x ∷ more.0, more.1, ap (λ (ys : List _). x ∷ ys) more.2)
]

-- what holds of a list with a last element
all_front : {X : Type 0} (P : X → Type 0) (xs : List X) (x : X) → AllByRecursion P (xs ++ x ∷ []) → AllByRecursion P xs × P x
all_front P [] x h = (tt, h.0)
all_front P (y ∷ ys) x h = let rest = all_front P ys x h.1 in ((h.0, rest.0), rest.1)

last_of : (n : Node) (front : List Node) (m : Node) → last_node n (front ++ m ∷ []) ≡ m
last_of n [] m = refl
last_of n (x ∷ front) m = last_of x front m

linked_front : (n : Node) (front : List Node) (m : Node) → AreLinked n.hash (front ++ m ∷ [])
    → AreLinked n.hash front × (m.header.previous ≡ (last_node n front).hash)
linked_front n [] m h = (tt, h.0)
linked_front n (x ∷ front) m h = let rest = linked_front x front m h.1 in ((h.0, rest.0), rest.1)

linked_more : (n : Node) (rest : List Node) (m : Node) → AreLinked n.hash rest → m.header.previous ≡ (last_node n rest).hash → AreLinked n.hash (rest ++ m ∷ [])
linked_more n [] m h e = (e, tt)
linked_more n (x ∷ rest) m h e = (h.0, linked_more x rest m h.1 e)

-- two found nodes with one hash are one
pub same_node : (found : List Node) (a b : Node) → IsFound found → Contains found a → Contains found b → a.hash ≡ b.hash → a ≡ b
same_node found a b f ca cb e =
    let i = place_of found a ca in
    let j = place_of found b cb in
    let same = one_place found f.differ i.0 j.0 a b i.1 j.1 e in
    at_one found j.0 a b (subst (λ (p : ℕ). slice_get found p ≡ Some a) same i.1) j.1

-- What follows the genesis on a path.
record Follows (found : List Node) (g : Node) (h : Hash32) (rest : List Node) : Type 0 where
  pub members : AllByRecursion (Contains found) rest
  pub once : AllByRecursion (λ (n : Node). n ≢ g) rest
  pub linked : AreLinked g.hash rest
  pub ends_in : (last_node g rest).hash ≡ h

-- its last node, and what follows up to there
last_step : (found : List Node) (g : Node) (h : Hash32) (rest front : List Node) (n : Node) → rest ≡ front ++ n ∷ [] → Follows found g h rest
    → Follows found g n.header.previous front × Contains found n × (n ≢ g) × (n.hash ≡ h)
last_step found g h rest front n is f =
    let members = all_front (Contains found) front n (subst (AllByRecursion (Contains found)) is f.members) in
    let once = all_front (λ (m : Node). m ≢ g) front n (subst (AllByRecursion (λ (m : Node). m ≢ g)) is f.once) in
    let linked = linked_front g front n (subst (AreLinked g.hash) is f.linked) in (
      record { members = members.0; once = once.0; linked = linked.0; ends_in = sym linked.1 },
      members.1,
      once.1,
      ap (λ (m : Node). m.hash) (sym (last_of g front n)) ∙ ap (λ (r : List Node). (last_node g r).hash) (sym is) ∙ f.ends_in,
    )

-- nothing follows where the hash is that of the genesis
none_follows : (found : List Node) (g : Node) (h : Hash32) (rest : List Node) → IsFound found → Contains found g → g.hash ≡ h → Follows found g h rest → rest ≡ []
none_follows found g h rest f there e r = elim (ends rest) [
  | inl none ↦ none
  | inr more ↦
      let s = last_step found g h rest more.0 more.1 more.2 r in
      absurd (s.2 (same_node found more.1 g f s.1 there (s.3 ∙ sym e)))
]

same_rest : (limit : ℕ) (found : List Node) (g : Node) (h : Hash32) (one other : List Node) → length one ≤ limit → IsFound found → Contains found g
    → Follows found g h one → Follows found g h other → one ≡ other
same_rest limit found g h [] other le f there p q = sym (none_follows found g h other f there p.ends_in q)
same_rest zero found g h (x ∷ xs) other le f there p q = absurd (omega arith)
same_rest (suc limit) found g h (x ∷ xs) other le f there p q = elim (ends (x ∷ xs)) [
  | inl none ↦ none ∙ sym (none_follows found g h other f there (ap (λ (r : List Node). (last_node g r).hash) (sym none) ∙ p.ends_in) q)
  | inr a ↦ elim (ends other) [
    | inl none ↦
        none_follows found g h (x ∷ xs) f there (ap (λ (r : List Node). (last_node g r).hash) (sym none) ∙ q.ends_in) p ∙ sym none
    | inr b ↦
        let s = last_step found g h (x ∷ xs) a.0 a.1 a.2 p in
        let t = last_step found g h other b.0 b.1 b.2 q in
        let node = same_node found a.1 b.1 f s.1 t.1 (s.3 ∙ sym t.3) in
        let long = ap length a.2 in
        let more = length_push a.0 a.1 in
        let le = le in
        let short : length a.0 ≤ limit = omega arith in
        let front = same_rest limit found g a.1.header.previous a.0 b.0 short f there s.0
        (subst (λ (n : Node). Follows found g n.header.previous b.0) (sym node) t.0) in
        a.2 ∙ ap (λ (ys : List Node). ys ++ a.1 ∷ []) front ∙ ap (λ (n : Node). b.0 ++ n ∷ []) node ∙ sym b.2
  ]
]

pub one_path : (found : List Node) (h : Hash32) (one other : List Node) → IsFound found → IsPath found h one → IsPath found h other → one ≡ other
one_path found h one other f p q =
    let g : p.first ≡ q.first = same_first p.first q.first p.begins q.begins in
    let at = found_at names_none found p.first p.begins in
    let there = member_at found at.0 p.first at.1 in
    let other_follows : Follows found q.first h q.rest = record { members = q.members; once = q.once; linked = q.linked; ends_in = q.ends } in
    let rest = same_rest (length p.rest) found p.first h p.rest q.rest (omega arith) f there
    (record { members = p.members; once = p.once; linked = p.linked; ends_in = p.ends })
    (subst (λ (n : Node). Follows found n h q.rest) (sym g) other_follows) in
    p.whole ∙ ap (λ (n : Node). n ∷ p.rest) g ∙ ap (λ (r : List Node). q.first ∷ r) rest ∙ sym q.whole
  where
    same_first : (a b : Node) → genesis found ≡ Some a → genesis found ≡ Some b → a ≡ b
    same_first a b e k = cc

-- what is found for the block that a node on a path names
pub parent_on : (found : List Node) (h : Hash32) (path : List Node) (k : ℕ) (n : Node) (r : Option Node) → IsFound found → IsPath found h path → slice_get path (suc k) ≡ Some n
    → IfSome r (λ m. Contains found m × (m.hash ≡ n.header.previous)) → IfNone r (is_known found n.header.previous ≡ false) → r ≡ slice_get path k
parent_on found h path k n (Some m) f p at some none =
    let b = path_before found h path k n p at in
    ap Some (same_node found m b.0 f some.0 b.3 (some.1 ∙ b.2)) ∙ sym b.1
parent_on found h path k n None f p at some none =
    let b = path_before found h path k n p at in
    let i = place_of found b.0 b.3 in
    absurd (false≢true (sym none ∙ any_from (has_hash n.header.previous) found i.0 b.0 i.1 (hash_from b.0.hash n.header.previous (sym b.2))))

-- a path stays one over more nodes
path_over : (found more : List Node) (h : Hash32) (path : List Node) → IsPath found h path → IsPath (found ++ more) h path
path_over found more h path p = record {
  first = p.first;
  rest = p.rest;
  whole = p.whole;
  begins = genesis_stays found more p.first p.begins;
  once = p.once;
  members = all_weaker (Contains found) (Contains (found ++ more)) p.rest (λ m c. Contains-append_left found more m c) p.members;
  linked = p.linked;
  ends = p.ends;
}

pub path_stays : (found : List Node) (h : Hash32) (path : List Node) (n : Node) → IsPath found h path → IsPath (added found n) h path
path_stays found h path n p = elim (cases_Bool (is_known found n.hash)) [
  | inl known ↦ rw known p
  | inr unknown ↦ elim (cases_Bool (is_second found n)) [
    | inl second ↦ rw (unknown, second) p
    | inr single ↦ rw (unknown, single) (path_over found (n ∷ []) h path p)
  ]
]

-- a path goes on to a node that names its end
pub path_goes_on : (found : List Node) (h : Hash32) (path : List Node) (n : Node) → IsPath found h path → Contains found n → names_none n ≡ false
    → n.header.previous ≡ h → IsPath found n.hash (path ++ n ∷ [])
path_goes_on found h path n p member later named = record {
  first = p.first;
  rest = p.rest ++ n ∷ [];
  whole = ap (λ (ns : List Node). ns ++ n ∷ []) p.whole;
  begins = p.begins;
  once = all_more (λ (m : Node). m ≢ p.first) p.rest n p.once
      (λ is. false≢true (sym later ∙ ap names_none is ∙ (found_at names_none found p.first p.begins).2));
  members = all_more (Contains found) p.rest n p.members member;
  linked = linked_more p.first p.rest n p.linked (named ∙ sym p.ends);
  ends = ap (λ (m : Node). m.hash) (last_of p.first p.rest n);
}

-- Lists of nodes: ends of paths, and what a move puts in of them.
use Rattle.std.proofs.Common.{◌≡◌, ◌⊎◌, inl, inr, ℕ, zero, suc, ◌+◌, ◌-◌, ◌<◌, ◌≤◌, true, false, Bool, List, [], ◌∷◌, length, take, drop, Option, Some, refl, sym, ap, ◌∙◌, arith, nat_lt, ltb-true, ltb-false}
use Rattle.std.proofs.lemmas.List.{drop_all, drop-drop, length-drop}
use Rattle.std.specs.Prelude.{min}
use Rattle.el_base.specs.declared.hash.Hash32.{Hash32}
use Rattle.el_chain.specs.declared.node.Node.{Node}
use Rattle.el_chain.specs.Chains.{Chain, tip, zero_hash}
use Rattle.el_chain.specs.Headers.{AreLinked}
use Rattle.el_chain.specs.Moves.{FitsChain, shorter, max_forward, last_hash}
use Rattle.el_side.specs.Plans.{left_of}
use Rattle.el_sync.specs.Steps.{previous_hash}

-- the first of linked nodes are linked
pub linked_front : (n : ℕ) (before : Hash32) (ns : List Node) → AreLinked before ns → AreLinked before (take n ns)
linked_front zero before ns h = tt
linked_front (suc n) before [] h = tt
linked_front (suc n) before (x ∷ ns) h = (h.0, linked_front n x.hash ns h.1)

-- and the others after the last of these
pub linked_after : (n : ℕ) (before : Hash32) (ns : List Node) → AreLinked before ns → AreLinked (last_hash before (take n ns)) (drop n ns)
linked_after zero before ns h = h
linked_after (suc n) before [] h = tt
linked_after (suc n) before (x ∷ ns) h = linked_after n x.hash ns h.1

-- passing over the blocks of one move
pub passed_over : (path : List Node) (from n m : ℕ) → from ≤ length path → n ≡ min (length path - from) m → drop (from + n) path ≡ drop m (drop from path)
passed_over path from n m inside is = elim (le_or m (length path - from)) [
  | inl le ↦ ap (λ k. drop (from + k) path) (let e : n ≡ m = omega arith in e) ∙ sym (drop-drop m from path)
  | inr lt ↦
      let whole : length path ≤ from + n = omega arith in
      let none : length (drop from path) ≤ m = let e = length-drop from path in omega arith in
      drop_all (from + n) path whole ∙ sym (drop_all m (drop from path) none)
]
  where
    le_or : (a b : ℕ) → (a ≤ b) ⊎ (b < a)
    le_or a b = by (nat_lt b a) refl
      where
        by : (s : Bool) → nat_lt b a ≡ s → (a ≤ b) ⊎ (b < a)
        by true e = inr (ltb-true b a e)
        by false e = inl (ltb-false b a e)

-- the blocks that are left are linked to the tip
pub left_linked : (before : Hash32) (rest left : List Node) (tip : Option Hash32) → left ≡ left_of rest → AreLinked before rest
    → ((take max_forward rest ≡ [] → ⊥) → tip ≡ Some (last_hash zero_hash (take max_forward rest))) → AreLinked (previous_hash tip) left
left_linked before rest left tip is h last = rw is (linked_by before rest tip h last)
  where
    linked_by : (before : Hash32) (rest : List Node) (tip : Option Hash32) → AreLinked before rest
        → ((take max_forward rest ≡ [] → ⊥) → tip ≡ Some (last_hash zero_hash (take max_forward rest))) → AreLinked (previous_hash tip) (left_of rest)
    linked_by before [] tip h is = tt
    linked_by before (n ∷ ns) tip h is =
        let t = is (λ e. let bad = e in cc) in
        rw t (linked_after max_forward before (n ∷ ns) h)

-- a plan of the next blocks fits
pub plan_fits : (back : ℕ) (rest forward : List Node) (chain : Chain) → forward ≡ take max_forward rest → (back ≤ length chain) × AreLinked (tip (shorter back chain)) rest
    → FitsChain (record { back = back; forward = forward }) chain
plan_fits back rest forward chain is h = record { within = h.0; linked = rw is (linked_front max_forward (tip (shorter back chain)) rest h.1) }

pub left_fewer : (ns left : List Node) → left ≡ left_of ns → (ns ≡ [] → ⊥) → length left < length ns
left_fewer ns left is some = rw is (fewer ns some)
  where
    fewer : (ns : List Node) → (ns ≡ [] → ⊥) → length (left_of ns) < length ns
    fewer [] some = absurd (some refl)
    fewer (n ∷ ns) some = let e = length-drop max_forward (n ∷ ns) in omega arith

pub left_no_more : (ns left : List Node) → left ≡ left_of ns → length left ≤ length ns
left_no_more ns left is = rw is (let e = length-drop max_forward ns in omega arith)

pub none_fewer : (ns left : List Node) → left ≡ [] → (ns ≡ [] → ⊥) → length left < length ns
none_fewer [] left is some = absurd (some refl)
none_fewer (n ∷ ns) left is some = rw is (omega arith)

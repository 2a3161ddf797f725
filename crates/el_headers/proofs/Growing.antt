-- The found nodes, and what the tables keep beside them, where one more node is added.
use Rattle.std.proofs.Common.{◌≡◌, ◌≢◌, inl, inr, ℕ, zero, suc, ◌+◌, ◌≤◌, Bool, true, false, cond, List, [], ◌∷◌, ◌++◌, length, map, Option, None, Some, refl, sym, ap, ◌∙◌, subst, arith}
use Rattle.std.specs.List.{AllByRecursion, slice_get, find}
use Rattle.std.specs.Option.{option_or, option_map}
use Rattle.std.proofs.lemmas.Bool.{cases_Bool, or_parts, false≢true}
use Rattle.std.proofs.lemmas.List.{length_push, take-append-le, take_at, map_push}
use Rattle.std.proofs.lemmas.List.Folds.{find-append}
use Rattle.std.proofs.lemmas.Option.{none-some, same_Some, slice_get_within}
use Rattle.indexmap.specs.IndexMap.{IndexMap, get}
use Rattle.el_base.proofs.Lists.{all_more, all_weaker}
use Rattle.el_base.specs.declared.hash.Hash32.{Hash32}
use Rattle.el_chain.specs.declared.node.Node.{Node}
use Rattle.el_block.specs.Blocks.{AllDiffer}
use Rattle.el_chain.specs.Headers.{same_hash, has_hash, is_known, is_second, added, names_none, genesis, IsFound}
use Rattle.el_chain.specs.Records.{IsNode}
use Rattle.el_chain.proofs.TouchLemmas.{hash_gives, hash_from}
use Rattle.el_block.proofs.BlockRules.{still_differ}
use Rattle.el_headers.specs.Adding.{IsNew}
use Rattle.el_headers.specs.within.Tables.{greatest, is_child_of, AreOlder, open_count, Has, HasParent, HasHeight, AreHeights, IsHeight, IsParent, NoneLeft, Numbers, is_lowest}
use Rattle.el_headers.proofs.Places.{at_left, at_last, at_more, greatest_more, greatest_passes, greatest_above}
use Rattle.el_headers.proofs.Heights.{open_more, open_one_more, open_few}

-- the genesis stays, and comes with the first node that names none
pub genesis_stays : (found more : List Node) (g : Node) → genesis found ≡ Some g → genesis (found ++ more) ≡ Some g
genesis_stays found more g h = find-append names_none found more ∙ ap (λ (o : Option Node). option_or o (find names_none more)) h

genesis_with : (found : List Node) (n : Node) (b : Bool) → names_none n ≡ b → genesis (found ++ n ∷ []) ≡ option_or (genesis found) (cond b (Some n) None)
genesis_with found n b e = find-append names_none found (n ∷ []) ∙ ap (λ (t : Bool). option_or (genesis found) (cond t (Some n) None)) e

pub genesis_same : (found : List Node) (n : Node) → names_none n ≡ false → genesis (found ++ n ∷ []) ≡ genesis found
genesis_same found n later = genesis_with found n false later ∙ go (genesis found)
  where
    go : (o : Option Node) → option_or o None ≡ o
    go None = refl
    go (Some g) = refl

pub genesis_comes : (found : List Node) (n : Node) → names_none n ≡ true → is_second found n ≡ false → genesis (found ++ n ∷ []) ≡ Some n
genesis_comes found n first single = go (genesis found) refl
  where
    go : (o : Option Node) → genesis found ≡ o → genesis (found ++ n ∷ []) ≡ Some n
    go None e = genesis_with found n true first ∙ ap (λ (o : Option Node). option_or o (Some n)) e
    go (Some g) e =
        let second : is_second found n ≡ true = rw (first, e) refl in
        absurd (false≢true (sym single ∙ second))

-- found nodes stay found nodes
others_differ : (h : Hash32) (found : List Node) → is_known found h ≡ false → AllByRecursion (λ y. y ≢ h) (map (λ (m : Node). m.hash) found)
others_differ h [] e = tt
others_differ h (m ∷ ms) e =
    let parts = or_parts (same_hash m.hash h) (is_known ms h) e in
    (λ is. false≢true (sym parts.0 ∙ hash_from m.hash h is), others_differ h ms parts.1)

pub found_more : (found : List Node) (n : Node) → IsFound found → IsNode n → IsNew found n → IsFound (found ++ n ∷ [])
found_more found n h node new = record {
  nodes = all_more IsNode found n h.nodes node;
  differ = subst AllDiffer (sym (map_push (λ (m : Node). m.hash) found n))
      (still_differ (map (λ (m : Node). m.hash) found) n.hash h.differ (others_differ n.hash found new.0));
  only = all_more (λ (m : Node). names_none m ≡ true → genesis (found ++ n ∷ []) ≡ Some m) found n
      (all_weaker (λ (m : Node). names_none m ≡ true → genesis found ≡ Some m) (λ (m : Node). names_none m ≡ true → genesis (found ++ n ∷ []) ≡ Some m) found
      (λ m is first. genesis_stays found (n ∷ []) m (is first)) h.only)
      (λ first. genesis_comes found n first new.1);
}

pub found_none : IsFound []
found_none = record { nodes = tt; differ = tt; only = tt }

pub found_added : (found : List Node) (n : Node) → IsFound found → IsNode n → IsFound (added found n)
found_added found n h node = elim (cases_Bool (is_known found n.hash)) [
  | inl known ↦ rw known h
  | inr unknown ↦ elim (cases_Bool (is_second found n)) [
    | inl second ↦ rw (unknown, second) h
    | inr single ↦ rw (unknown, single) (found_more found n h node (unknown, single))
  ]
]

pub added_new : (found : List Node) (n : Node) → IsNew found n → added found n ≡ found ++ n ∷ []
added_new found n new = rw (new.0, new.1) refl

-- no hash has two places
pub differs_at : (P : Hash32 → Type 0) (found : List Node) (i : ℕ) (n : Node) → AllByRecursion P (map (λ (m : Node). m.hash) found) → slice_get found i ≡ Some n → P n.hash
differs_at P [] i n h at = absurd (none-some n at)
differs_at P (m ∷ ms) zero n h at = subst (λ (x : Node). P x.hash) (same_Some m n at) h.0
differs_at P (m ∷ ms) (suc i) n h at = differs_at P ms i n h.1 at

pub one_place : (found : List Node) → AllDiffer (map (λ (m : Node). m.hash) found) → (i j : ℕ) (a b : Node)
    → slice_get found i ≡ Some a → slice_get found j ≡ Some b → a.hash ≡ b.hash → i ≡ j
one_place [] d i j a b ai bj e = absurd (none-some a ai)
one_place (m ∷ ms) d zero zero a b ai bj e = refl
one_place (m ∷ ms) d zero (suc j) a b ai bj e =
    absurd (differs_at (λ (h : Hash32). m.hash ≢ h) ms j b d.0 bj (ap (λ (x : Node). x.hash) (same_Some m a ai) ∙ e))
one_place (m ∷ ms) d (suc i) zero a b ai bj e =
    absurd (differs_at (λ (h : Hash32). m.hash ≢ h) ms i a d.0 ai (ap (λ (x : Node). x.hash) (same_Some m b bj) ∙ sym e))
one_place (m ∷ ms) d (suc i) (suc j) a b ai bj e = ap suc (one_place ms d.1 i j a b ai bj e)

-- numbers by hash
pub numbers_more : {S : Type 0} (old new : IndexMap Hash32 ℕ S) (test : Hash32 → Node → Bool) (key : Hash32) (found : List Node) (n : Node)
    → ((h : Hash32) → test h n ≡ same_hash key h) → ((h : Hash32) → get same_hash old h ≡ greatest (test h) found)
    → Numbers old key (length found) new → (h : Hash32) → get same_hash new h ≡ greatest (test h) (found ++ n ∷ [])
numbers_more old new test key found n tests before after h =
    after h ∙ ap (λ (o : Option ℕ). cond (same_hash key h) (Some (length found)) o) (before h)
    ∙ ap (λ (b : Bool). cond b (Some (length found)) (greatest (test h) found)) (sym (tests h))
    ∙ sym (greatest_more 0 (length found) (test h) found n (omega arith))

pub older_more : (found : List Node) (older : List (Option ℕ)) (n : Node) (next : Option ℕ) → AreOlder found older
    → next ≡ greatest (is_child_of n.header.previous) found → AreOlder (found ++ n ∷ []) (older ++ next ∷ [])
older_more found older n next h is = record {
  count = let a = length_push found n in let b = length_push older next in let e = h.count in omega arith;
  each = λ i m at. elim (at_more found n i m at) [
    | inl old ↦
        let lt = slice_get_within found i m old in
        let le : i ≤ length found = omega arith in
        at_left older (next ∷ []) i _ (h.each i m old) ∙ ap (λ (front : List Node). Some (greatest (is_child_of m.header.previous) front)) (sym (take-append-le i found (n ∷ []) le))
    | inr last ↦
        let place : i ≡ length older = last.0 ∙ sym h.count in
        subst (λ (p : ℕ). slice_get (older ++ next ∷ []) p ≡ Some next) (sym place) (at_last older next)
        ∙ ap Some (is ∙ ap (λ (m : Node). greatest (is_child_of m.header.previous) found) (sym last.1)
        ∙ ap (λ (front : List Node). greatest (is_child_of m.header.previous) front) (sym (take_at found (n ∷ []) i (sym last.0))))
  ];
}

-- heights beside one more node
pub height_moves : (found : List Node) (heights : List (Option ℕ)) (n : Node) (more : Option ℕ) (m : Node) (k : ℕ)
    → HasHeight found heights m k → HasHeight (found ++ n ∷ []) (heights ++ more ∷ []) m k
height_moves found heights n more m zero h = genesis_stays found (n ∷ []) m h
height_moves found heights n more m (suc k) h = (h.0, parent_moves found heights n more m k h.1)
  where
    parent_moves : (found : List Node) (heights : List (Option ℕ)) (n : Node) (more : Option ℕ) (m : Node) (k : ℕ)
        → HasParent found heights m k → HasParent (found ++ n ∷ []) (heights ++ more ∷ []) m k
    parent_moves found heights n more m k p = record {
      number = p.number;
      parent = p.parent;
      stands = at_left found (n ∷ []) p.number p.parent p.stands;
      named = p.named;
      height_is = at_left heights (more ∷ []) p.number (Some k) p.height_is;
    }

height_now : (found : List Node) (heights : List (Option ℕ)) (n : Node) (x : ℕ) → is_second found n ≡ false → IsHeight found heights n (Some x)
    → HasHeight (found ++ n ∷ []) (heights ++ Some x ∷ []) n x
height_now found heights n zero single h = genesis_comes found n h single
height_now found heights n (suc x) single h = (
  h.0,
  record {
    number = h.1.number;
    parent = h.1.parent;
    stands = at_left found (n ∷ []) h.1.number h.1.parent h.1.stands;
    named = h.1.named;
    height_is = at_left heights (Some (suc x) ∷ []) h.1.number (Some x) h.1.height_is;
  },
)

height_fits : (found : List Node) (heights : List (Option ℕ)) (n : Node) (x : ℕ) → AreHeights found heights [] NoneLeft → IsHeight found heights n (Some x)
    → x + open_count heights ≤ length heights
height_fits found heights n zero a h = let few = open_few heights in omega arith
height_fits found heights n (suc x) a h = let low = a.low h.1.number x h.1.height_is in omega arith

nothing_has : (j : ℕ) → Has [] j → ⊥
nothing_has j h = none-some j h.1

never_past : {X Y : Type 0} (xs : List X) (ys : List Y) (i : ℕ) (x : X) → length ys ≡ length xs → slice_get xs i ≡ Some x → i ≡ length ys → ⊥
never_past xs ys i x e at last = let lt = slice_get_within xs i x at in omega arith

not_none : (k : ℕ) → Some k ≡ None → ⊥
not_none k e = none-some k (sym e)

-- the node is attached at that height, and goes on the stack
pub heights_attached : (found : List Node) (heights : List (Option ℕ)) (n : Node) (x : ℕ) → is_second found n ≡ false
    → AreHeights found heights [] NoneLeft → IsHeight found heights n (Some x)
    → AreHeights (found ++ n ∷ []) (heights ++ Some x ∷ []) (length found ∷ []) NoneLeft
heights_attached found heights n x single a h = record {
  count = let l = length_push found n in let m = length_push heights (Some x) in let e = a.count in omega arith;
  sound = λ i k m ni hi. elim (at_more found n i m ni) [
    | inl old ↦ elim (at_more heights (Some x) i (Some k) hi) [
      | inl was ↦ height_moves found heights n (Some x) m k (a.sound i k m old was)
      | inr last ↦ absurd (never_past found heights i m a.count old last.0)
    ]
    | inr new ↦ elim (at_more heights (Some x) i (Some k) hi) [
      | inl was ↦ absurd (never_past heights found i (Some k) (sym a.count) was new.0)
      | inr last ↦
          let same : x ≡ k = sym (same_Some k x last.1) in
          subst (λ (y : ℕ). HasHeight (found ++ n ∷ []) (heights ++ Some x ∷ []) m y) same
          (subst (λ (y : Node). HasHeight (found ++ n ∷ []) (heights ++ Some x ∷ []) y x) (sym new.1) (height_now found heights n x single h))
    ]
  ];
  later = λ i m ni hi. elim (at_more heights (Some x) i None hi) [
    | inl was ↦ elim (at_more found n i m ni) [
      | inl old ↦ a.later i m old was
      | inr new ↦ absurd (never_past heights found i None (sym a.count) was new.0)
    ]
    | inr last ↦ absurd (not_none x (sym last.1))
  ];
  complete = λ i j m p ni hi pj named. elim (at_more heights (Some x) i None hi) [
    | inl was ↦ elim (at_more found n i m ni) [
      | inl old ↦ elim (at_more found n j p pj) [
        | inl before ↦ elim (a.complete i j m p old was before named) [
          | inl bare ↦ inl (at_left heights (Some x ∷ []) j None bare)
          | inr r ↦ elim r [ inl s ↦ absurd (nothing_has j s) | inr l ↦ absurd l ]
        ]
        | inr here ↦ inr (inl (0, ap Some (sym here.0)))
      ]
      | inr new ↦ absurd (never_past heights found i None (sym a.count) was new.0)
    ]
    | inr last ↦ absurd (not_none x (sym last.1))
  ];
  on = λ j s. (x, subst (λ (p : ℕ). slice_get (heights ++ Some x ∷ []) p ≡ Some (Some x)) (a.count ∙ only_one (length found) j s.0 s.1) (at_last heights (Some x)));
  low = λ i k hi. let l = length_push heights (Some x) in let c = open_more heights x in elim (at_more heights (Some x) i (Some k) hi) [
    | inl was ↦ let low = a.low i k was in omega arith
    | inr last ↦ let same : k ≡ x = same_Some k x last.1 in let fits = height_fits found heights n x a h in omega arith
  ];
}
  where
    only_one : (y j place : ℕ) → slice_get (y ∷ []) place ≡ Some j → y ≡ j
    only_one y j zero e = same_Some y j e
    only_one y j (suc place) e = absurd (none-some j e)

-- no path leads to the node yet
pub heights_waiting : (found : List Node) (heights : List (Option ℕ)) (n : Node) → AreHeights found heights [] NoneLeft → IsHeight found heights n None
    → AreHeights (found ++ n ∷ []) (heights ++ None ∷ []) [] NoneLeft
heights_waiting found heights n a h = record {
  count = let l = length_push found n in let m = length_push heights None in let e = a.count in omega arith;
  sound = λ i k m ni hi. elim (at_more heights None i (Some k) hi) [
    | inl was ↦ elim (at_more found n i m ni) [
      | inl old ↦ height_moves found heights n None m k (a.sound i k m old was)
      | inr new ↦ absurd (never_past heights found i (Some k) (sym a.count) was new.0)
    ]
    | inr last ↦ absurd (not_none k last.1)
  ];
  later = λ i m ni hi. elim (at_more found n i m ni) [
    | inl old ↦ elim (at_more heights None i None hi) [
      | inl was ↦ a.later i m old was
      | inr last ↦ absurd (never_past found heights i m a.count old last.0)
    ]
    | inr new ↦ ap names_none new.1 ∙ h.0
  ];
  complete = λ i j m p ni hi pj named. elim (at_more found n j p pj) [
    | inl before ↦ elim (at_more found n i m ni) [
      | inl old ↦ elim (at_more heights None i None hi) [
        | inl was ↦ elim (a.complete i j m p old was before named) [
          | inl bare ↦ inl (at_left heights (None ∷ []) j None bare)
          | inr r ↦ elim r [ inl s ↦ absurd (nothing_has j s) | inr l ↦ absurd l ]
        ]
        | inr last ↦ absurd (never_past found heights i m a.count old last.0)
      ]
      | inr new ↦ inl (at_left heights (None ∷ []) j None (h.1 j p before (named ∙ ap (λ (y : Node). y.header.previous) new.1)))
    ]
    | inr here ↦ inl (subst (λ (q : ℕ). slice_get (heights ++ None ∷ []) q ≡ Some None) (a.count ∙ sym here.0) (at_last heights None))
  ];
  on = λ j s. absurd (nothing_has j s);
  low = λ i k hi. let l = length_push heights None in let c = open_one_more heights in elim (at_more heights None i (Some k) hi) [
    | inl was ↦ let low = a.low i k was in omega arith
    | inr last ↦ absurd (not_none k last.1)
  ];
}

-- the genesis that is kept beside
pub first_more : (found : List Node) (heights : List (Option ℕ)) (n : Node) (height : Option ℕ) (before : Option Hash32)
    → is_second found n ≡ false → IsHeight found heights n height → before ≡ option_map (λ (m : Node). m.hash) (genesis found)
    → cond (is_lowest height) (Some n.hash) before ≡ option_map (λ (m : Node). m.hash) (genesis (found ++ n ∷ []))
first_more found heights n None before single h is = is ∙ ap (option_map (λ (m : Node). m.hash)) (sym (genesis_same found n h.0))
first_more found heights n (Some zero) before single h is = ap (option_map (λ (m : Node). m.hash)) (sym (genesis_comes found n h single))
first_more found heights n (Some (suc x)) before single h is = is ∙ ap (option_map (λ (m : Node). m.hash)) (sym (genesis_same found n h.0))

-- the height of a node by its parent's number
pub parent_at : (found : List Node) (h : Hash32) (number : ℕ) → greatest (has_hash h) found ≡ Some number
    → (m : Node) × (slice_get found number ≡ Some m) × (m.hash ≡ h)
parent_at found h number is =
    let p = greatest_passes 0 (has_hash h) found number is in
    let same : p.0 ≡ number = let e = p.2 in omega arith in
    (p.1, subst (λ (q : ℕ). slice_get found q ≡ Some p.1) same p.3, hash_gives p.1.hash h p.4)

pub unknown_parent : (found : List Node) (heights : List (Option ℕ)) (n : Node) → names_none n ≡ false
    → greatest (has_hash n.header.previous) found ≡ None → IsHeight found heights n None
unknown_parent found heights n later none = (
  later,
  λ j m at named.
      let above = greatest_above 0 (has_hash n.header.previous) found j m at (hash_from m.hash n.header.previous named) in
      absurd (none-some above.0 (sym none ∙ above.1)),
)

pub open_parent : (found : List Node) (heights : List (Option ℕ)) (n : Node) (number : ℕ) → names_none n ≡ false
    → AllDiffer (map (λ (m : Node). m.hash) found) → greatest (has_hash n.header.previous) found ≡ Some number → slice_get heights number ≡ Some None
    → IsHeight found heights n None
open_parent found heights n number later differ is bare =
    let p = parent_at found n.header.previous number is in
    (later, λ j m at named. subst (λ (q : ℕ). slice_get heights q ≡ Some None) (one_place found differ number j p.0 m p.1 at (p.2 ∙ sym named)) bare)

pub known_parent : (found : List Node) (heights : List (Option ℕ)) (n : Node) (number k : ℕ) → names_none n ≡ false
    → greatest (has_hash n.header.previous) found ≡ Some number → slice_get heights number ≡ Some (Some k)
    → IsHeight found heights n (Some (suc k))
known_parent found heights n number k later is known =
    let p = parent_at found n.header.previous number is in
    (later, record { number = number; parent = p.0; stands = p.1; named = p.2; height_is = known })

-- the number of the parent of a node that stands above the genesis
pub parent_number : (found : List Node) (heights : List (Option ℕ)) → AreHeights found heights [] NoneLeft → (i k : ℕ) (n : Node)
    → slice_get found i ≡ Some n → slice_get heights i ≡ Some (Some (suc k)) → (g : ℕ) × (greatest (has_hash n.header.previous) found ≡ Some g)
parent_number found heights a i k n at known =
    let has : HasHeight found heights n (suc k) = a.sound i (suc k) n at known in
    let p = has.1 in
    let above = greatest_above 0 (has_hash n.header.previous) found p.number p.parent p.stands (hash_from p.parent.hash n.header.previous p.named) in
    (above.0, above.1)

pub is_parent : (found : List Node) (heights : List (Option ℕ)) → AreHeights found heights [] NoneLeft → AllDiffer (map (λ (m : Node). m.hash) found)
    → (i k g : ℕ) (n : Node) → slice_get found i ≡ Some n → slice_get heights i ≡ Some (Some (suc k)) → greatest (has_hash n.header.previous) found ≡ Some g
    → IsParent found heights i g
is_parent found heights a differ i k g n at known is =
    let has : HasHeight found heights n (suc k) = a.sound i (suc k) n at known in
    let p = parent_at found n.header.previous g is in
    record {
      node = n;
      before = p.0;
      child_is = at;
      parent_is = p.1;
      named = p.2;
      later = has.0;
      lower = λ x other.
          let above : HasHeight found heights n (suc x) = a.sound i (suc x) n at other in
          let q = above.1 in
          subst (λ (j : ℕ). slice_get heights j ≡ Some (Some x)) (one_place found differ q.number g q.parent p.0 q.stands p.1 (q.named ∙ sym p.2)) q.height_is;
    }

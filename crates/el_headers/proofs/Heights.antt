-- Heights beside the nodes: how they stay right while nodes are attached one by one, and when the list of nodes grows.
use Rattle.std.proofs.Common.{◌≡◌, ◌≢◌, ◌⊎◌, inl, inr, ℕ, zero, suc, ◌+◌, ◌<◌, ◌≤◌, Bool, true, false, cond, List, [], ◌∷◌, ◌++◌, length, take, set, get_or, not, Option, None, Some, refl, sym, ap, ◌∙◌, subst, arith, length-set}
use Rattle.std.specs.List.{slice_get}
use Rattle.std.specs.Option.{is_some}
use Rattle.std.proofs.lemmas.Bool.{cases_eq, false≢true}
use Rattle.std.proofs.lemmas.List.{length_push}
use Rattle.std.proofs.lemmas.Option.{none-some, same_Some, slice_get_within, slice_get_read, slice_get-get_or, get_or_from_slice_get}
use Rattle.indexmap.specs.IndexMap.{IndexMap, get}
use Rattle.el_base.specs.declared.hash.Hash32.{Hash32}
use Rattle.el_chain.specs.declared.node.Node.{Node}
use Rattle.el_chain.specs.Headers.{same_hash, names_none}
use Rattle.el_chain.proofs.TouchLemmas.{hash_gives, hash_from}
use Rattle.el_headers.specs.within.Tables.{greatest, is_child_of, AreNewest, AreOlder, open_count, is_open_height, attached_at, stacked, Has, HasHeight, AreHeights, NoneLeft, IsUpTo, ChildrenLeft, StayKnown}
use Rattle.el_headers.proofs.Places.{at_one, at_there, at_left, at_last, at_more, set_here, set_other, in_front, of_front, greatest_passes, greatest_above}

-- a height is known or not
pub known_or_open : (heights : List (Option ℕ)) (i : ℕ) → i < length heights
    → (slice_get heights i ≡ Some None) ⊎ ((k : ℕ) × (slice_get heights i ≡ Some (Some k)))
known_or_open heights i lt = go (at_there heights i lt)
  where
    go : (x : Option ℕ) × (slice_get heights i ≡ Some x) → (slice_get heights i ≡ Some None) ⊎ ((k : ℕ) × (slice_get heights i ≡ Some (Some k)))
    go (None, h) = inl h
    go (Some k, h) = inr (k, h)

pub never_both : (heights : List (Option ℕ)) (i k : ℕ) → slice_get heights i ≡ Some None → slice_get heights i ≡ Some (Some k) → ⊥
never_both heights i k bare known = none-some k (at_one heights i None (Some k) bare known)

-- how many are not attached
pub open_set : (heights : List (Option ℕ)) (i k : ℕ) → slice_get heights i ≡ Some None
    → open_count heights ≡ open_count (set heights i (Some k)) + 1
open_set [] i k h = absurd (none-some None h)
open_set (None ∷ hs) zero k h = refl
open_set (Some x ∷ hs) zero k h = absurd (none-some x (sym (same_Some (Some x) None h)))
open_set (None ∷ hs) (suc i) k h = let rest = open_set hs i k h in omega arith
open_set (Some x ∷ hs) (suc i) k h = open_set hs i k h

pub open_more : (heights : List (Option ℕ)) (k : ℕ) → open_count (heights ++ Some k ∷ []) ≡ open_count heights
open_more [] k = refl
open_more (None ∷ hs) k = let rest = open_more hs k in omega arith
open_more (Some x ∷ hs) k = open_more hs k

pub open_one_more : (heights : List (Option ℕ)) → open_count (heights ++ None ∷ []) ≡ open_count heights + 1
open_one_more [] = refl
open_one_more (None ∷ hs) = let rest = open_one_more hs in omega arith
open_one_more (Some x ∷ hs) = open_one_more hs

pub open_few : (heights : List (Option ℕ)) → open_count heights ≤ length heights
open_few [] = omega arith
open_few (None ∷ hs) = let rest = open_few hs in omega arith
open_few (Some x ∷ hs) = let rest = open_few hs in omega arith

-- what a read of a height says
pub read_open : (heights : List (Option ℕ)) (i : ℕ) (none : Bool) → i < length heights → is_some (get_or heights i None) ≡ not none → none ≡ true
    → slice_get heights i ≡ Some None
read_open heights i none lt said is = go (get_or heights i None) refl
  where
    go : (o : Option ℕ) → get_or heights i None ≡ o → slice_get heights i ≡ Some None
    go None e = slice_get_read heights (length heights) i None refl lt (sym e)
    go (Some k) e = absurd (false≢true (sym (said ∙ ap not is) ∙ ap is_some e))

pub read_known : (heights : List (Option ℕ)) (i : ℕ) (none : Bool) → i < length heights → is_some (get_or heights i None) ≡ not none → none ≡ false
    → (k : ℕ) × (slice_get heights i ≡ Some (Some k))
read_known heights i none lt said is = elim (known_or_open heights i lt) [
  | inl bare ↦ absurd (false≢true (sym (ap is_some (get_or_from_slice_get heights i None None bare)) ∙ said ∙ ap not is))
  | inr known ↦ known
]

pub some_open : (heights : List (Option ℕ)) (i : ℕ) → slice_get heights i ≡ Some None → 1 ≤ open_count heights
some_open heights i bare = let one = open_set heights i 0 bare in omega arith

pub attached_new : (heights : List (Option ℕ)) (i k : ℕ) → slice_get heights i ≡ Some None → set heights i (Some k) ≡ attached_at heights i k
attached_new heights i k bare = sym (ap (λ (o : Option (Option ℕ)). cond (is_open_height o) (set heights i (Some k)) heights) bare)

pub attached_same : (heights : List (Option ℕ)) (i k x : ℕ) → slice_get heights i ≡ Some (Some x) → heights ≡ attached_at heights i k
attached_same heights i k x known = sym (ap (λ (o : Option (Option ℕ)). cond (is_open_height o) (set heights i (Some k)) heights) known)

pub stacked_new : (heights : List (Option ℕ)) (i : ℕ) (stack : List ℕ) → slice_get heights i ≡ Some None → stack ++ i ∷ [] ≡ stacked heights i stack
stacked_new heights i stack bare = sym (ap (λ (o : Option (Option ℕ)). cond (is_open_height o) (stack ++ i ∷ []) stack) bare)

pub stacked_same : (heights : List (Option ℕ)) (i x : ℕ) (stack : List ℕ) → slice_get heights i ≡ Some (Some x) → stack ≡ stacked heights i stack
stacked_same heights i x stack known = sym (ap (λ (o : Option (Option ℕ)). cond (is_open_height o) (stack ++ i ∷ []) stack) known)

-- the stack
pub has_more : (stack : List ℕ) (x j : ℕ) → Has (stack ++ x ∷ []) j → Has stack j ⊎ (j ≡ x)
has_more stack x j h = elim (at_more stack x h.0 j h.1) [ inl k ↦ inl (h.0, k) | inr k ↦ inr k.1 ]

pub has_left : (stack : List ℕ) (x j : ℕ) → Has stack j → Has (stack ++ x ∷ []) j
has_left stack x j h = (h.0, at_left stack (x ∷ []) h.0 j h.1)

pub has_last : (stack : List ℕ) (x : ℕ) → Has (stack ++ x ∷ []) x
has_last stack x = (length stack, at_last stack x)

-- what is left may be said in another way
pub left_as : (nodes : List Node) (heights : List (Option ℕ)) (stack : List ℕ) (left other : ℕ → ℕ → Type 0)
    → ((i j : ℕ) (n m : Node) → slice_get nodes i ≡ Some n → slice_get nodes j ≡ Some m → m.hash ≡ n.header.previous → left i j → other i j)
    → AreHeights nodes heights stack left → AreHeights nodes heights stack other
left_as nodes heights stack left other turn h = record {
  count = h.count;
  sound = h.sound;
  later = h.later;
  complete = λ i j n m ni bare mj named. elim (h.complete i j n m ni bare mj named) [
    | inl o ↦ inl o
    | inr r ↦ elim r [ inl s ↦ inr (inl s) | inr l ↦ inr (inr (turn i j n m ni mj named l)) ]
  ];
  on = h.on;
  low = h.low;
}

-- what is known stays where one more is attached
pub stay_set : (heights : List (Option ℕ)) (c k : ℕ) → slice_get heights c ≡ Some None → StayKnown heights (set heights c (Some k))
stay_set heights c k bare i x known = set_other heights c i (Some k) (λ e. never_both heights c x bare (subst (λ (p : ℕ). slice_get heights p ≡ Some (Some x)) e known)) ∙ known

pub height_stays : (nodes : List Node) (old new : List (Option ℕ)) (n : Node) (k : ℕ) → StayKnown old new → HasHeight nodes old n k → HasHeight nodes new n k
height_stays nodes old new n zero stay h = h
height_stays nodes old new n (suc k) stay h =
    (h.0, record { number = h.1.number; parent = h.1.parent; stands = h.1.stands; named = h.1.named; height_is = stay h.1.number k h.1.height_is })

-- One child of the parent is looked at. The number before it is that of the next older child.
pub record AtChild (nodes : List Node) (older heights : List (Option ℕ)) (stack : List ℕ) (parent k child : ℕ) (next : Option ℕ) : Type 0 where
  pub links : AreOlder nodes older
  pub parent_height : slice_get heights parent ≡ Some (Some k)
  pub before : Node
  pub parent_is : slice_get nodes parent ≡ Some before
  pub node : Node
  pub child_is : slice_get nodes child ≡ Some node
  pub named : node.header.previous ≡ before.hash
  pub next_is : slice_get older child ≡ Some next
  pub are : AreHeights nodes heights stack (ChildrenLeft parent (Some child))

next_greatest : (nodes : List Node) (older heights : List (Option ℕ)) (stack : List ℕ) (parent k child : ℕ) (next : Option ℕ)
    → (a : AtChild nodes older heights stack parent k child next) → next ≡ greatest (is_child_of a.before.hash) (take child nodes)
next_greatest nodes older heights stack parent k child next a =
    at_one older child next (greatest (is_child_of a.node.header.previous) (take child nodes)) a.next_is (a.links.each child a.node a.child_is)
    ∙ ap (λ (h : Hash32). greatest (is_child_of h) (take child nodes)) a.named

-- a child that is left below this one is left up to the next
left_below : (nodes : List Node) (older heights : List (Option ℕ)) (stack : List ℕ) (parent k child : ℕ) (next : Option ℕ)
    → (a : AtChild nodes older heights stack parent k child next) (i : ℕ) (n : Node) → slice_get nodes i ≡ Some n
    → n.header.previous ≡ a.before.hash → i < child → IsUpTo next i
left_below nodes older heights stack parent k child next a i n at named lt =
    let above = greatest_above 0 (is_child_of a.before.hash) (take child nodes) i n (in_front child nodes i n at lt) (hash_from n.header.previous a.before.hash named) in
    let le = above.2 in
    let up : i ≤ above.0 = omega arith in
    subst (λ (o : Option ℕ). IsUpTo o i) (sym (next_greatest nodes older heights stack parent k child next a ∙ above.1)) up

-- the next one names the parent too, and stands before this one
pub next_child : (nodes : List Node) (older heights : List (Option ℕ)) (stack : List ℕ) (parent k child : ℕ) (next : Option ℕ)
    → (a : AtChild nodes older heights stack parent k child next) (c : ℕ) → next ≡ Some c
    → (n : Node) × (slice_get nodes c ≡ Some n) × (n.header.previous ≡ a.before.hash) × (c < child)
next_child nodes older heights stack parent k child next a c is =
    let found = greatest_passes 0 (is_child_of a.before.hash) (take child nodes) c (sym (next_greatest nodes older heights stack parent k child next a) ∙ is) in
    let front = of_front child nodes found.0 found.1 found.3 in
    let same : found.0 ≡ c = let e = found.2 in omega arith in
    let lt = front.1 in
    (found.1, subst (λ (p : ℕ). slice_get nodes p ≡ Some found.1) same front.0, hash_gives found.1.header.previous a.before.hash found.4, omega arith)

-- a child that was attached before
pub passed_child : (nodes : List Node) (older heights : List (Option ℕ)) (stack : List ℕ) (parent k child : ℕ) (next : Option ℕ)
    → AtChild nodes older heights stack parent k child next → (x : ℕ) → slice_get heights child ≡ Some (Some x)
    → AreHeights nodes heights stack (ChildrenLeft parent next)
passed_child nodes older heights stack parent k child next a x known = record {
  count = a.are.count;
  sound = a.are.sound;
  later = a.are.later;
  complete = λ i j n m ni bare mj named. elim (a.are.complete i j n m ni bare mj named) [
    | inl o ↦ inl o
    | inr r ↦ elim r [
      | inl s ↦ inr (inl s)
      | inr l ↦ inr (inr (l.0, lower i j n m ni bare mj named l))
    ]
  ];
  on = a.are.on;
  low = a.are.low;
}
  where
    lower : (i j : ℕ) (n m : Node) → slice_get nodes i ≡ Some n → slice_get heights i ≡ Some None → slice_get nodes j ≡ Some m → m.hash ≡ n.header.previous
        → ChildrenLeft parent (Some child) i j → IsUpTo next i
    lower i j n m ni bare mj named l =
        let same : m ≡ a.before = at_one nodes parent m a.before (subst (λ (p : ℕ). slice_get nodes p ≡ Some m) l.0 mj) a.parent_is in
        let ne : i ≢ child = λ e. never_both heights child x (subst (λ (p : ℕ). slice_get heights p ≡ Some None) e bare) known in
        let le = l.1 in
        left_below nodes older heights stack parent k child next a i n ni (sym named ∙ ap (λ (b : Node). b.hash) same) (omega arith)

-- a child that is attached now
pub new_child : (nodes : List Node) (older heights : List (Option ℕ)) (stack : List ℕ) (parent k child : ℕ) (next : Option ℕ)
    → AtChild nodes older heights stack parent k child next → slice_get heights child ≡ Some None
    → AreHeights nodes (set heights child (Some (k + 1))) (stack ++ child ∷ []) (ChildrenLeft parent next)
new_child nodes older heights stack parent k child next a here = record {
  count = length-set heights child (Some (k + 1)) ∙ a.are.count;
  sound = sound;
  later = λ i n ni bare. a.are.later i n ni (was_open i bare).1;
  complete = complete;
  on = λ j h. elim (has_more stack child j h) [
    | inl s ↦ let k = a.are.on j s in (k.0, stay j k.0 k.1)
    | inr e ↦ (k + 1, subst (λ (p : ℕ). slice_get new p ≡ Some (Some (k + 1))) (sym e) now)
  ];
  low = low;
}
  where
    new : List (Option ℕ)
    new = set heights child (Some (k + 1))

    within : child < length heights
    within = slice_get_within heights child None here

    now : slice_get (set heights child (Some (k + 1))) child ≡ Some (Some (k + 1))
    now = set_here heights child (Some (k + 1)) within

    stay : StayKnown heights (set heights child (Some (k + 1)))
    stay = stay_set heights child (k + 1) here

    was_open : (i : ℕ) → slice_get (set heights child (Some (k + 1))) i ≡ Some None → (i ≢ child) × (slice_get heights i ≡ Some None)
    was_open i bare =
        let ne : i ≢ child = λ e. never_both (set heights child (Some (k + 1))) child (k + 1) (subst (λ (p : ℕ). slice_get (set heights child (Some (k + 1))) p ≡ Some None) e bare) now in
        (ne, sym (set_other heights child i (Some (k + 1)) ne) ∙ bare)

    sound : (i x : ℕ) (n : Node) → slice_get nodes i ≡ Some n → slice_get (set heights child (Some (k + 1))) i ≡ Some (Some x)
        → HasHeight nodes (set heights child (Some (k + 1))) n x
    sound i x n ni known = elim (cases_eq i child) [
      | inl e ↦
          let height : k + 1 ≡ x = same_Some (k + 1) x (same_Some (Some (k + 1)) (Some x) (sym now ∙ subst (λ (p : ℕ). slice_get (set heights child (Some (k + 1))) p ≡ Some (Some x)) e known)) in
          let node : n ≡ a.node = at_one nodes child n a.node (subst (λ (p : ℕ). slice_get nodes p ≡ Some n) e ni) a.child_is in
          let as_suc : suc k ≡ x = omega arith in
          subst (λ (y : ℕ). HasHeight nodes (set heights child (Some (k + 1))) n y) as_suc (
            ap names_none node ∙ a.are.later child a.node a.child_is here,
            record { number = parent; parent = a.before; stands = a.parent_is; named = sym a.named ∙ ap (λ (b : Node). b.header.previous) (sym node); height_is = stay parent k a.parent_height },
          )
      | inr ne ↦ height_stays nodes heights (set heights child (Some (k + 1))) n x stay (a.are.sound i x n ni (sym (set_other heights child i (Some (k + 1)) ne) ∙ known))
    ]

    complete : (i j : ℕ) (n m : Node) → slice_get nodes i ≡ Some n → slice_get (set heights child (Some (k + 1))) i ≡ Some None → slice_get nodes j ≡ Some m → m.hash ≡ n.header.previous
        → (slice_get (set heights child (Some (k + 1))) j ≡ Some None) ⊎ (Has (stack ++ child ∷ []) j ⊎ ChildrenLeft parent next i j)
    complete i j n m ni bare mj named =
        let was = was_open i bare in
        elim (a.are.complete i j n m ni was.1 mj named) [
          | inl o ↦ elim (cases_eq j child) [
            | inl e ↦ inr (inl (subst (Has (stack ++ child ∷ [])) (sym e) (has_last stack child)))
            | inr ne ↦ inl (set_other heights child j (Some (k + 1)) ne ∙ o)
          ]
          | inr r ↦ elim r [
            | inl s ↦ inr (inl (has_left stack child j s))
            | inr l ↦
                let same : m ≡ a.before = at_one nodes parent m a.before (subst (λ (p : ℕ). slice_get nodes p ≡ Some m) l.0 mj) a.parent_is in
                let ne = was.0 in
                let le = l.1 in
                inr (inr (l.0, left_below nodes older heights stack parent k child next a i n ni (sym named ∙ ap (λ (b : Node). b.hash) same) (omega arith)))
          ]
        ]

    low : (i x : ℕ) → slice_get (set heights child (Some (k + 1))) i ≡ Some (Some x)
        → x + open_count (set heights child (Some (k + 1))) < length (set heights child (Some (k + 1)))
    low i x known =
        let long = length-set heights child (Some (k + 1)) in
        let fewer = open_set heights child (k + 1) here in
        elim (cases_eq i child) [
          | inl e ↦
              let height : k + 1 ≡ x = same_Some (k + 1) x (same_Some (Some (k + 1)) (Some x) (sym now ∙ subst (λ (p : ℕ). slice_get (set heights child (Some (k + 1))) p ≡ Some (Some x)) e known)) in
              let below = a.are.low parent k a.parent_height in
              omega arith
          | inr ne ↦
              let below = a.are.low i x (sym (set_other heights child i (Some (k + 1)) ne) ∙ known) in
              omega arith
        ]

-- how many places may still be looked at
abbrev pub places_left : Option ℕ → ℕ
places_left None = 0
places_left (Some child) = child + 1

-- all children of the parent are left from the newest on
pub all_left : (nodes : List Node) (heights : List (Option ℕ)) (stack : List ℕ) (parent : ℕ) (m : Node) (newest : Option ℕ)
    → slice_get nodes parent ≡ Some m → newest ≡ greatest (is_child_of m.hash) nodes
    → AreHeights nodes heights stack (λ i j. j ≡ parent) → AreHeights nodes heights stack (ChildrenLeft parent newest)
all_left nodes heights stack parent m newest at is = left_as nodes heights stack (λ i j. j ≡ parent) (ChildrenLeft parent newest)
    (λ i j n b ni bj named same.
    let one : b ≡ m = at_one nodes parent b m (subst (λ (p : ℕ). slice_get nodes p ≡ Some b) same bj) at in
    let above = greatest_above 0 (is_child_of m.hash) nodes i n ni (hash_from n.header.previous m.hash (sym named ∙ ap (λ (x : Node). x.hash) one)) in
    let le = above.2 in
    let up : i ≤ above.0 = omega arith in
    (same, subst (λ (o : Option ℕ). IsUpTo o i) (sym (is ∙ above.1)) up))

-- none is left where no child is
pub none_left : (nodes : List Node) (heights : List (Option ℕ)) (stack : List ℕ) (parent : ℕ)
    → AreHeights nodes heights stack (ChildrenLeft parent None) → AreHeights nodes heights stack NoneLeft
none_left nodes heights stack parent = left_as nodes heights stack (ChildrenLeft parent None) NoneLeft (λ i j n b ni bj named l. l.1)

-- the newest child names the parent
pub newest_named : (nodes : List Node) (m : Node) (newest : Option ℕ) (child : ℕ) → newest ≡ greatest (is_child_of m.hash) nodes → newest ≡ Some child
    → (n : Node) × (slice_get nodes child ≡ Some n) × (n.header.previous ≡ m.hash)
newest_named nodes m newest child is some =
    let found = greatest_passes 0 (is_child_of m.hash) nodes child (sym is ∙ some) in
    let same : found.0 ≡ child = let e = found.2 in omega arith in
    (found.1, subst (λ (p : ℕ). slice_get nodes p ≡ Some found.1) same found.3, hash_gives found.1.header.previous m.hash found.4)

-- a child after it was looked at
pub child_done : (nodes : List Node) (older heights : List (Option ℕ)) (stack : List ℕ) (parent k child : ℕ) (next : Option ℕ)
    → AtChild nodes older heights stack parent k child next
    → AreHeights nodes (attached_at heights child (k + 1)) (stacked heights child stack) (ChildrenLeft parent next)
    × StayKnown heights (attached_at heights child (k + 1))
    × (length (stacked heights child stack) + open_count (attached_at heights child (k + 1)) ≡ length stack + open_count heights)
child_done nodes older heights stack parent k child next a =
    let lt = slice_get_within nodes child a.node a.child_is in
    let count = a.are.count in
    elim (known_or_open heights child (omega arith)) [
      | inl bare ↦
          let one = open_set heights child (k + 1) bare in
          let long = length_push stack child in
          subst (λ (s : List ℕ). AreHeights nodes (attached_at heights child (k + 1)) s (ChildrenLeft parent next)
          × StayKnown heights (attached_at heights child (k + 1)) × (length s + open_count (attached_at heights child (k + 1)) ≡ length stack + open_count heights))
          (stacked_new heights child stack bare)
          (subst (λ (hs : List (Option ℕ)). AreHeights nodes hs (stack ++ child ∷ []) (ChildrenLeft parent next)
          × StayKnown heights hs × (length (stack ++ child ∷ []) + open_count hs ≡ length stack + open_count heights))
          (attached_new heights child (k + 1) bare)
          (new_child nodes older heights stack parent k child next a bare, stay_set heights child (k + 1) bare, omega arith))
      | inr known ↦
          subst (λ (s : List ℕ). AreHeights nodes (attached_at heights child (k + 1)) s (ChildrenLeft parent next)
          × StayKnown heights (attached_at heights child (k + 1)) × (length s + open_count (attached_at heights child (k + 1)) ≡ length stack + open_count heights))
          (stacked_same heights child known.0 stack known.1)
          (subst (λ (hs : List (Option ℕ)). AreHeights nodes hs stack (ChildrenLeft parent next)
          × StayKnown heights hs × (length stack + open_count hs ≡ length stack + open_count heights))
          (attached_same heights child (k + 1) known.0 known.1)
          (passed_child nodes older heights stack parent k child next a known.0 known.1, (λ i x h. h), refl))
    ]

-- one node is taken off the stack
pub popped : (nodes : List Node) (heights : List (Option ℕ)) (before stack : List ℕ) (parent : ℕ) → before ≡ stack ++ parent ∷ []
    → AreHeights nodes heights before NoneLeft
    → AreHeights nodes heights stack (λ i j. j ≡ parent) × ((k : ℕ) × (slice_get heights parent ≡ Some (Some k)))
popped nodes heights before stack parent is a = (
  record {
    count = a.count;
    sound = a.sound;
    later = a.later;
    complete = λ i j n m ni bare mj named. elim (a.complete i j n m ni bare mj named) [
      | inl none ↦ inl none
      | inr r ↦ elim r [
        | inl s ↦ elim (has_more stack parent j (subst (λ (st : List ℕ). Has st j) is s)) [ inl old ↦ inr (inl old) | inr last ↦ inr (inr last) ]
        | inr l ↦ absurd l
      ]
    ];
    on = λ j s. a.on j (subst (λ (st : List ℕ). Has st j) (sym is) (has_left stack parent j s));
    low = a.low;
  },
  a.on parent (subst (λ (st : List ℕ). Has st parent) (sym is) (has_last stack parent)),
)

-- the child that is looked at, by what the loop over the children keeps
pub at_child : (nodes : List Node) (older heights : List (Option ℕ)) (stack : List ℕ) (parent k child : ℕ) (newest : Option ℕ)
    → AreOlder nodes older → slice_get heights parent ≡ Some (Some k)
    → ((child : ℕ) → newest ≡ Some child → (m : Node) → slice_get nodes parent ≡ Some m → (n : Node) × (slice_get nodes child ≡ Some n) × (n.header.previous ≡ m.hash))
    → AreHeights nodes heights stack (ChildrenLeft parent newest) → newest ≡ Some child
    → AtChild nodes older heights stack parent k child (get_or older child None)
at_child nodes older heights stack parent k child newest links known named a is =
    let lt = slice_get_within heights parent (Some k) known in
    let count = a.count in
    let m = at_there nodes parent (omega arith) in
    let n = named child is m.0 m.1 in
    let within = slice_get_within nodes child n.0 n.1 in
    let long = links.count in
    record {
      links = links;
      parent_height = known;
      before = m.0;
      parent_is = m.1;
      node = n.0;
      child_is = n.1;
      named = n.2;
      next_is = slice_get-get_or older child None (omega arith);
      are = subst (λ (o : Option ℕ). AreHeights nodes heights stack (ChildrenLeft parent o)) is a;
    }

-- where the child stands
pub child_within : (nodes : List Node) (older heights : List (Option ℕ)) (stack : List ℕ) (parent k child : ℕ) (next : Option ℕ)
    → AtChild nodes older heights stack parent k child next → (child < length heights) × (child < length older)
child_within nodes older heights stack parent k child next a =
    let lt = slice_get_within nodes child a.node a.child_is in
    let count = a.are.count in
    let long = a.links.count in
    (omega arith, omega arith)

-- the children that are left after it are fewer
pub fewer_left : (nodes : List Node) (older heights : List (Option ℕ)) (stack : List ℕ) (parent k child : ℕ) (next newest : Option ℕ)
    → AtChild nodes older heights stack parent k child next → newest ≡ Some child → places_left next < places_left newest
fewer_left nodes older heights stack parent k child None newest a is = rw is (omega arith)
fewer_left nodes older heights stack parent k child (Some c) newest a is =
    let lower = next_child nodes older heights stack parent k child (Some c) a c refl in
    let lt = lower.3 in
    rw is (omega arith)

-- what the loop over the children keeps, one child on
pub record Turn (nodes : List Node) (heights after : List (Option ℕ)) (stack stack_after : List ℕ) (parent k : ℕ) (next : Option ℕ) : Type 0 where
  pub are : AreHeights nodes after stack_after (ChildrenLeft parent next)
  pub named : (c : ℕ) → next ≡ Some c → (m : Node) → slice_get nodes parent ≡ Some m
      → (n : Node) × (slice_get nodes c ≡ Some n) × (n.header.previous ≡ m.hash)
  pub parent_is : slice_get after parent ≡ Some (Some k)
  pub known : StayKnown heights after
  pub sum : length stack_after + open_count after ≡ length stack + open_count heights

pub turn : (nodes : List Node) (older heights after : List (Option ℕ)) (stack stack_after : List ℕ) (parent k child : ℕ) (next : Option ℕ)
    → AtChild nodes older heights stack parent k child next
    → after ≡ attached_at heights child (k + 1) → stack_after ≡ stacked heights child stack
    → Turn nodes heights after stack stack_after parent k next
turn nodes older heights after stack stack_after parent k child next a hs st =
    let d = child_done nodes older heights stack parent k child next a in
    let all : AreHeights nodes after stack_after (ChildrenLeft parent next) × StayKnown heights after
    × (length stack_after + open_count after ≡ length stack + open_count heights) =
    subst (λ (s : List ℕ). AreHeights nodes after s (ChildrenLeft parent next) × StayKnown heights after × (length s + open_count after ≡ length stack + open_count heights)) (sym st)
    (subst (λ (h : List (Option ℕ)). AreHeights nodes h (stacked heights child stack) (ChildrenLeft parent next) × StayKnown heights h
    × (length (stacked heights child stack) + open_count h ≡ length stack + open_count heights)) (sym hs) d) in
    record {
      are = all.0;
      named = λ c is m at.
          let n = next_child nodes older heights stack parent k child next a c is in
          (n.0, n.1, n.2 ∙ ap (λ (x : Node). x.hash) (at_one nodes parent a.before m a.parent_is at));
      parent_is = all.1 parent k a.parent_height;
      known = all.1;
      sum = all.2;
    }

-- where the loop over the children starts
pub children_start : {S : Type 0} (nodes : List Node) (heights : List (Option ℕ)) (stack : List ℕ) (parent k : ℕ) (children : IndexMap Hash32 ℕ S) (newest : Option ℕ) (d : Node)
    → slice_get heights parent ≡ Some (Some k) → AreNewest nodes children → newest ≡ get same_hash children (get_or nodes parent d).hash
    → AreHeights nodes heights stack (λ i j. j ≡ parent)
    → AreHeights nodes heights stack (ChildrenLeft parent newest)
    × ((child : ℕ) → newest ≡ Some child → (m : Node) → slice_get nodes parent ≡ Some m → (n : Node) × (slice_get nodes child ≡ Some n) × (n.header.previous ≡ m.hash))
children_start nodes heights stack parent k children newest d known are is a =
    let lt = slice_get_within heights parent (Some k) known in
    let count = a.count in
    let at : slice_get nodes parent ≡ Some (get_or nodes parent d) = slice_get-get_or nodes parent d (omega arith) in
    let first = is ∙ are (get_or nodes parent d).hash in (
      all_left nodes heights stack parent (get_or nodes parent d) newest at first a,
      λ child some m there. newest_named nodes m newest child
          (first ∙ ap (λ (x : Node). greatest (is_child_of x.hash) nodes) (at_one nodes parent (get_or nodes parent d) m at there)) some,
    )

-- Paths: one leads to each attached node and none to another, and at most one leads to a hash.
use Rattle.std.proofs.Common.{◌≡◌, ◌≢◌, inl, inr, ℕ, zero, suc, ◌+◌, ◌-◌, ◌<◌, ◌≤◌, Bool, true, false, cond, List, [], ◌∷◌, ◌++◌, length, map, drop, reverse, Option, None, Some, refl, sym, ap, ◌∙◌, subst, arith}
use Rattle.std.specs.Prelude.{Contains}
use Rattle.std.specs.List.{AllByRecursion, slice_get, find}
use Rattle.std.proofs.lemmas.Bool.{cases_Bool, false≢true}
use Rattle.std.proofs.lemmas.List.{length_push, reverse-append, length-reverse}
use Rattle.std.proofs.lemmas.Option.{none-some, same_Some, slice_get_within, slice_get_read, get_or_from_slice_get}
use Rattle.el_base.proofs.Lists.{all_weaker}
use Rattle.el_base.specs.declared.hash.Hash32.{Hash32}
use Rattle.el_chain.specs.declared.node.Node.{Node}
use Rattle.el_block.specs.Blocks.{AllDiffer}
use Rattle.el_chain.specs.Headers.{names_none, genesis, AreLinked, last_node, IsPath}
use Rattle.el_headers.specs.within.Tables.{HasHeight, AreHeights, HasPathFrom, IsParent, NoneLeft}
use Rattle.el_headers.proofs.Places.{at_one}
use Rattle.el_headers.proofs.Heights.{known_or_open, never_both}
use Rattle.el_headers.proofs.Growing.{one_place}

-- members of a list by their places
pub place_of : {X : Type 0} (xs : List X) (x : X) → Contains xs x → (i : ℕ) × (slice_get xs i ≡ Some x)
place_of xs x h = (h.0, slice_get_read xs (length xs) h.0 x refl h.1 (sym h.2))

pub member_at : {X : Type 0} (xs : List X) (i : ℕ) (x : X) → slice_get xs i ≡ Some x → Contains xs x
member_at xs i x h = (i, slice_get_within xs i x h, get_or_from_slice_get xs i x x h)

pub found_at : {X : Type 0} (test : X → Bool) (xs : List X) (x : X) → find test xs ≡ Some x → (i : ℕ) × (slice_get xs i ≡ Some x) × (test x ≡ true)
found_at test [] x h = absurd (none-some x h)
found_at test (y ∷ ys) x h = elim (cases_Bool (test y)) [
  | inl e ↦
      let is : y ≡ x = same_Some y x (sym (ap (λ (b : Bool). cond b (Some y) (find test ys)) e) ∙ h) in
      (0, ap Some is, ap test (sym is) ∙ e)
  | inr e ↦
      let rest = found_at test ys x (sym (ap (λ (b : Bool). cond b (Some y) (find test ys)) e) ∙ h) in
      (suc rest.0, rest.1, rest.2)
]

-- The end of a path to a hash: what follows a node.
pub record Tail (found : List Node) (h : Hash32) (n : Node) (rest : List Node) : Type 0 where
  pub members : AllByRecursion (Contains found) rest
  pub linked : AreLinked n.hash rest
  pub ends : (last_node n rest).hash ≡ h
  pub later : AllByRecursion (λ (m : Node). names_none m ≡ false) rest

pub tail_none : (found : List Node) (n : Node) → Tail found n.hash n []
tail_none found n = record { members = tt; linked = tt; ends = refl; later = tt }

pub tail_more : (found : List Node) (h : Hash32) (i : ℕ) (n p : Node) (rest : List Node) → Tail found h n rest → slice_get found i ≡ Some n
    → p.hash ≡ n.header.previous → names_none n ≡ false → Tail found h p (n ∷ rest)
tail_more found h i n p rest t at named later = record {
  members = (member_at found i n at, t.members);
  linked = (sym named, t.linked);
  ends = t.ends;
  later = (later, t.later);
}

pub tail_path : (found : List Node) (h : Hash32) (n : Node) (rest : List Node) → Tail found h n rest → genesis found ≡ Some n → IsPath found h (n ∷ rest)
tail_path found h n rest t g = record {
  first = n;
  rest = rest;
  whole = refl;
  begins = g;
  once = all_weaker (λ (m : Node). names_none m ≡ false) (λ (m : Node). m ≢ n) rest
      (λ m later is. false≢true (sym later ∙ ap names_none is ∙ (found_at names_none found n g).2)) t.later;
  members = t.members;
  linked = t.linked;
  ends = t.ends;
}

-- from a node of known height down to the genesis
climb : (found : List Node) (heights : List (Option ℕ)) → AreHeights found heights [] NoneLeft → (h : Hash32) (k i : ℕ) (n : Node) (rest : List Node)
    → slice_get found i ≡ Some n → slice_get heights i ≡ Some (Some k) → Tail found h n rest
    → (path : List Node) × IsPath found h path × (length path ≡ k + 1 + length rest) × (drop k path ≡ n ∷ rest)
climb found heights a h zero i n rest at known t =
    (n ∷ rest, tail_path found h n rest t (a.sound i 0 n at known), omega arith, refl)
climb found heights a h (suc k) i n rest at known t =
    let has : HasHeight found heights n (suc k) = a.sound i (suc k) n at known in
    let p = has.1 in
    let more = climb found heights a h k p.number p.parent (n ∷ rest) p.stands p.height_is (tail_more found h i n p.parent rest t at p.named has.0) in
    let long : length more.0 ≡ k + 1 + suc (length rest) = more.2 in
    (more.0, more.1, omega arith, next_drop k more.0 p.parent (n ∷ rest) more.3)
  where
    next_drop : (k : ℕ) (path : List Node) (m : Node) (after : List Node) → drop k path ≡ m ∷ after → drop (suc k) path ≡ after
    next_drop zero [] m after e = absurd cc
    next_drop zero (x ∷ xs) m after e = ap (drop 1) e
    next_drop (suc k) [] m after e = absurd cc
    next_drop (suc k) (x ∷ xs) m after e = next_drop k xs m after e

pub path_there : (found : List Node) (heights : List (Option ℕ)) → AreHeights found heights [] NoneLeft → (i k : ℕ) (n : Node)
    → slice_get found i ≡ Some n → slice_get heights i ≡ Some (Some k)
    → (path : List Node) × IsPath found n.hash path × (length path ≡ k + 1) × (drop k path ≡ n ∷ [])
path_there found heights a i k n at known =
    let p = climb found heights a n.hash k i n [] at known (tail_none found n) in
    let long : length p.0 ≡ k + 1 + 0 = p.2 in
    (p.0, p.1, omega arith, p.3)

-- Each node of a path is attached.
abbrev IsAttachedAt : List Node → List (Option ℕ) → Node → Type 0
IsAttachedAt found heights n = (i : ℕ) × (slice_get found i ≡ Some n) × ((k : ℕ) × (slice_get heights i ≡ Some (Some k)))

attached_on : (found : List Node) (heights : List (Option ℕ)) → AreHeights found heights [] NoneLeft → (n : Node) (rest : List Node)
    → IsAttachedAt found heights n → AllByRecursion (Contains found) rest → AreLinked n.hash rest → IsAttachedAt found heights (last_node n rest)
attached_on found heights a n [] here members linked = here
attached_on found heights a n (m ∷ ms) here members linked =
    let at = place_of found m members.0 in
    let lt = slice_get_within found at.0 m at.1 in
    let long = a.count in
    let next : IsAttachedAt found heights m = elim (known_or_open heights at.0 (omega arith)) [
      | inl bare ↦ elim (a.complete at.0 here.0 m n at.1 bare here.1 (sym linked.0)) [
        | inl none ↦ absurd (never_both heights here.0 here.2.0 none here.2.1)
        | inr r ↦ elim r [ inl s ↦ absurd (none-some here.0 s.1) | inr l ↦ absurd l ]
      ]
      | inr known ↦ (at.0, at.1, known)
    ] in
    attached_on found heights a m ms next members.1 linked.1

pub no_path : (found : List Node) (heights : List (Option ℕ)) → AreHeights found heights [] NoneLeft → AllDiffer (map (λ (m : Node). m.hash) found)
    → (i : ℕ) (n : Node) → slice_get found i ≡ Some n → slice_get heights i ≡ Some None → (path : List Node) → IsPath found n.hash path → ⊥
no_path found heights a differ i n at bare path p =
    let first = found_at names_none found p.first p.begins in
    let lt = slice_get_within found first.0 p.first first.1 in
    let long = a.count in
    let start : IsAttachedAt found heights p.first = elim (known_or_open heights first.0 (omega arith)) [
      | inl none ↦ absurd (false≢true (sym (a.later first.0 p.first first.1 none) ∙ first.2))
      | inr known ↦ (first.0, first.1, known)
    ] in
    let last = attached_on found heights a p.first p.rest start p.members p.linked in
    let same = one_place found differ last.0 i (last_node p.first p.rest) n last.1 at p.ends in
    never_both heights i last.2.0 bare (subst (λ (q : ℕ). slice_get heights q ≡ Some (Some last.2.0)) same last.2.1)

-- the hash of a path's end was found
pub path_known : (found : List Node) (h : Hash32) (path : List Node) → IsPath found h path → (i : ℕ) × (n : Node) × (slice_get found i ≡ Some n) × (n.hash ≡ h)
path_known found h path p =
    let first = found_at names_none found p.first p.begins in
    let last = last_in found p.first p.rest (first.0, first.1) p.members in
    (last.0, last_node p.first p.rest, last.1, p.ends)
  where
    last_in : (found : List Node) (n : Node) (rest : List Node) → (i : ℕ) × (slice_get found i ≡ Some n) → AllByRecursion (Contains found) rest
        → (i : ℕ) × (slice_get found i ≡ Some (last_node n rest))
    last_in found n [] here members = here
    last_in found n (m ∷ ms) here members = last_in found m ms (place_of found m members.0) members.1

-- The walk from a node back to the genesis: the nodes that were passed stand in the list, the last one first.
pub record IsClimbing (found : List Node) (heights : List (Option ℕ)) (tip at height step : ℕ) (passed : List Node) : Type 0 where
  pub tail : (n last : Node) → slice_get found at ≡ Some n → slice_get found tip ≡ Some last → Tail found last.hash n (reverse passed)
  pub left : ℕ
  pub height_is : slice_get heights at ≡ Some (Some left)
  pub sum : left + step ≡ height
  pub long : length passed ≡ step

pub climb_start : (found : List Node) (heights : List (Option ℕ)) (tip height : ℕ) (passed : List Node) → passed ≡ [] → slice_get heights tip ≡ Some (Some height)
    → IsClimbing found heights tip tip height 0 passed
climb_start found heights tip height passed none known = record {
  tail = λ n last at there. subst (λ (p : List Node). Tail found last.hash n (reverse p)) (sym none)
      (subst (λ (m : Node). Tail found last.hash m []) (at_one found tip last n there at) (tail_none found last));
  left = height;
  height_is = known;
  sum = omega arith;
  long = ap length none;
}

pub climb_above : (found : List Node) (heights : List (Option ℕ)) (tip at height step : ℕ) (passed : List Node)
    → IsClimbing found heights tip at height step passed → step < height → (k : ℕ) × (slice_get heights at ≡ Some (Some (suc k)))
climb_above found heights tip at height step passed c lt = go c.left c.height_is c.sum
  where
    go : (k : ℕ) → slice_get heights at ≡ Some (Some k) → k + step ≡ height → (k : ℕ) × (slice_get heights at ≡ Some (Some (suc k)))
    go zero known sum = absurd (omega arith)
    go (suc k) known sum = (k, known)

reversed : (xs : List Node) (x : Node) → reverse (xs ++ x ∷ []) ≡ x ∷ reverse xs
reversed xs x = reverse-append xs (x ∷ [])

pub climb_more : (found : List Node) (heights : List (Option ℕ)) (tip at height step parent : ℕ) (passed after : List Node) (n : Node)
    → IsClimbing found heights tip at height step passed → step < height → slice_get found at ≡ Some n → after ≡ passed ++ n ∷ []
    → IsParent found heights at parent → IsClimbing found heights tip parent height (step + 1) after
climb_more found heights tip at height step parent passed after n c lt here is p =
    let above = climb_above found heights tip at height step passed c lt in
    let same : c.left ≡ suc above.0 = same_Some c.left (suc above.0) (same_Some (Some c.left) (Some (suc above.0)) (sym c.height_is ∙ above.1)) in
    let sum = c.sum in
    let long = c.long in
    let more = length_push passed n in
    let one : n ≡ p.node = at_one found at n p.node here p.child_is in
    record {
      tail = λ m last there tip_is.
          let before : p.before ≡ m = at_one found parent p.before m p.parent_is there in
          subst (λ (xs : List Node). Tail found last.hash m xs) (sym (ap reverse is ∙ reversed passed n))
          (subst (λ (x : Node). Tail found last.hash x (n ∷ reverse passed)) before
          (tail_more found last.hash at n p.before (reverse passed) (c.tail n last here tip_is) here
          (p.named ∙ ap (λ (x : Node). x.header.previous) (sym one)) (ap names_none one ∙ p.later)));
      left = above.0;
      height_is = p.lower above.0 above.1;
      sum = omega arith;
      long = ap length is ∙ more ∙ ap (λ (l : ℕ). l + 1) long;
    }

pub climb_end : (found : List Node) (heights : List (Option ℕ)) (tip at height first step : ℕ) (passed after path : List Node) (n : Node)
    → AreHeights found heights [] NoneLeft → IsClimbing found heights tip at height step passed → first ≤ height → step ≡ height - first → slice_get found at ≡ Some n
    → after ≡ passed ++ n ∷ [] → path ≡ reverse after
    → (last : Node) → slice_get found tip ≡ Some last → HasPathFrom found last.hash height first path
climb_end found heights tip at height first step passed after path n a c below last_step here is turned last there =
    let sum = c.sum in
    let lowest : c.left ≡ first = omega arith in
    let known = subst (λ (k : ℕ). slice_get heights at ≡ Some (Some k)) lowest c.height_is in
    let p = climb found heights a last.hash first at n (reverse passed) here known (c.tail n last here there) in
    let whole : path ≡ n ∷ reverse passed = turned ∙ ap reverse is ∙ reversed passed n in
    let long = c.long in
    let turned_long = length-reverse passed in
    let count : length p.0 ≡ first + 1 + length (reverse passed) = p.2 in
    (p.0, p.1, omega arith, whole ∙ sym p.3)

-- what holds of each found node holds of each node of a path
pub path_nodes : (P : Node → Type 0) (found : List Node) (h : Hash32) (path : List Node) → AllByRecursion P found → IsPath found h path → AllByRecursion P path
path_nodes P found h path all p =
    let first = found_at names_none found p.first p.begins in
    subst (AllByRecursion P) (sym p.whole) (all_at found first.0 p.first all first.1, each found p.rest all p.members)
  where
    all_at : (xs : List Node) (i : ℕ) (x : Node) → AllByRecursion P xs → slice_get xs i ≡ Some x → P x
    all_at [] i x h at = absurd (none-some x at)
    all_at (y ∷ ys) zero x h at = subst P (same_Some y x at) h.0
    all_at (y ∷ ys) (suc i) x h at = all_at ys i x h.1 at

    each : (xs : List Node) (rest : List Node) → AllByRecursion P xs → AllByRecursion (Contains xs) rest → AllByRecursion P rest
    each xs [] h members = tt
    each xs (m ∷ ms) h members = let at = place_of xs m members.0 in (all_at xs at.0 m h at.1, each xs ms h members.1)

pub all_drop : (P : Node → Type 0) (n : ℕ) (path : List Node) → AllByRecursion P path → AllByRecursion P (drop n path)
all_drop P zero path h = h
all_drop P (suc n) [] h = tt
all_drop P (suc n) (x ∷ path) h = all_drop P n path h.1

-- the node on a path before another
pub path_before : (found : List Node) (h : Hash32) (path : List Node) (k : ℕ) (n : Node) → IsPath found h path → slice_get path (suc k) ≡ Some n
    → (m : Node) × (slice_get path k ≡ Some m) × (n.header.previous ≡ m.hash) × Contains found m
path_before found h path k n p at =
    let first = found_at names_none found p.first p.begins in
    let b = go found p.first p.rest k n (member_at found first.0 p.first first.1) p.members p.linked (subst (λ (xs : List Node). slice_get xs (suc k) ≡ Some n) p.whole at) in
    (b.0, subst (λ (xs : List Node). slice_get xs k ≡ Some b.0) (sym p.whole) b.1, b.2, b.3)
  where
    go : (found : List Node) (m : Node) (rest : List Node) (k : ℕ) (n : Node) → Contains found m → AllByRecursion (Contains found) rest → AreLinked m.hash rest → slice_get (m ∷ rest) (suc k) ≡ Some n
        → (b : Node) × (slice_get (m ∷ rest) k ≡ Some b) × (n.header.previous ≡ b.hash) × Contains found b
    go found m [] k n here members linked at = absurd (none-some n at)
    go found m (x ∷ xs) zero n here members linked at =
        (m, refl, ap (λ (y : Node). y.header.previous) (sym (same_Some x n at)) ∙ linked.0, here)
    go found m (x ∷ xs) (suc k) n here members linked at = go found x xs k n members.0 members.1 linked.1 at

-- what stands last at its height
pub last_at : (path : List Node) (k : ℕ) (n : Node) → drop k path ≡ n ∷ [] → slice_get path k ≡ Some n
last_at [] zero n e = absurd cc
last_at [] (suc k) n e = absurd cc
last_at (x ∷ xs) zero n e = ap head e
  where
    head : List Node → Option Node
    head [] = None
    head (y ∷ ys) = Some y
last_at (x ∷ xs) (suc k) n e = last_at xs k n e

-- the nodes of a path that ends below a height
pub drop_past : (n : ℕ) (path : List Node) → length path ≤ n → [] ≡ drop n path
drop_past zero [] le = refl
drop_past zero (x ∷ path) le = absurd (omega arith)
drop_past (suc n) [] le = refl
drop_past (suc n) (x ∷ path) le = drop_past n path (omega arith)

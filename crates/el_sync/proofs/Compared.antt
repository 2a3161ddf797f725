-- The chain compared with a path.
use Rattle.std.proofs.Common.{◌≡◌, ◌⊎◌, inl, inr, ℕ, zero, suc, ◌+◌, ◌-◌, ◌<◌, ◌≤◌, true, false, Bool, List, [], ◌∷◌, length, take, drop, Option, None, Some, rules, refl, sym, ap, ◌∙◌, arith, ◌==◌, eqb-true, eq-eqb, nat_lt, ltb-true, ltb-false}
use Rattle.std.proofs.lemmas.List.{drop_all}
use Rattle.std.proofs.lemmas.Option.{slice_get_within}
use Rattle.std.specs.Prelude.{IsTrue, ◌↔◌, min, slice_get}
use Rattle.el_base.specs.declared.hash.Hash32.{Hash32}
use Rattle.el_base.specs.Hashing.{sha256d}
use Rattle.el_chain.specs.declared.node.Node.{Node}
use Rattle.el_chain.specs.declared.placed.Placed.{Placed}
use Rattle.el_block.specs.Blocks.{block_hash}
use Rattle.el_chain.specs.Chains.{Chain, tip, tip_after, zero_hash}
use Rattle.el_chain.specs.Headers.{AreLinked, same_hash, IsPath, genesis}
use Rattle.el_chain.specs.Moves.{shorter, last_hash}
use Rattle.el_chain.proofs.TouchLemmas.{hash_gives, hash_from}
use Rattle.el_tx.specs.Headers.{header_encoding}
use Rattle.el_lines.specs.declared.node_answer.NodeAnswer.{NodeAnswer}
use Rattle.el_lines.specs.declared.node_answer.NodeAnswer.TheVariants as say
use Rattle.el_headers.specs.Adding.{IsEndOf}
use Rattle.el_side.specs.Plans.{common, common_up_to, back_of, rest_of, IsMoving}
use Rattle.el_model.specs.Queries.{header_at}
use Rattle.el_sync.specs.within.Below.{IsBelow}
use Rattle.el_sync.proofs.Lists.{linked_after}

-- the rest of a path is linked
pub drop_linked : (path rest : List Node) → AreLinked zero_hash path → (n : ℕ) × (rest ≡ drop n path) → (x : Hash32) × AreLinked x rest
drop_linked path rest h end = (last_hash zero_hash (take end.0 path), rw end.1 (linked_after end.0 zero_hash path h))

-- how many are common, of a block and those above it
up_to_less : (same : Bool) (above : ℕ) → common_up_to same above ≤ suc above
up_to_less same (suc above) = omega arith
up_to_less true zero = omega arith
up_to_less false zero = omega arith

-- after one block or more the last hash isn't what stood before them
tip_not_before : (x y : Hash32) (chain : Chain) (count : ℕ) → suc count ≤ length chain → tip_after x (take (suc count) chain) ≡ tip_after y (take (suc count) chain)
tip_not_before x y [] count le = absurd (omega (arith, le))
tip_not_before x y (b ∷ bs) count le = refl

common_within : (chain : Chain) (path : List Node) → common chain path ≤ length chain
common_within [] path = omega arith
common_within (b ∷ bs) [] = omega arith
common_within (b ∷ bs) (n ∷ ns) =
    let more = common_within bs ns in
    let up = up_to_less (same_hash (block_hash b.block.header) n.hash) (common bs ns) in
    omega (arith, more, up)

common_linked : (before : Hash32) (chain : Chain) (path : List Node) → AreLinked before path
    → AreLinked (tip_after before (take (common chain path) chain)) (drop (common chain path) path)
common_linked before [] path h = h
common_linked before (b ∷ bs) [] h = tt
common_linked before (b ∷ bs) (n ∷ ns) h = by (same_hash (block_hash b.block.header) n.hash) (common bs ns) refl refl (common_linked n.hash bs ns h.1)
  where
    by : (s : Bool) (m : ℕ) → same_hash (block_hash b.block.header) n.hash ≡ s → common bs ns ≡ m → AreLinked (tip_after n.hash (take (common bs ns) bs)) (drop (common bs ns) ns)
        → AreLinked (tip_after before (take (common (b ∷ bs) (n ∷ ns)) (b ∷ bs))) (drop (common (b ∷ bs) (n ∷ ns)) (n ∷ ns))
    by s (suc m) e is go =
        let within = common_within bs ns in
        let long : suc m ≤ length bs = omega (arith, within, is) in
        let go' : AreLinked (tip_after n.hash (take (suc m) bs)) (drop (suc m) ns) = rw is at go in
        let here : AreLinked (tip_after (block_hash b.block.header) (take (suc m) bs)) (drop (suc m) ns) = rw (tip_not_before (block_hash b.block.header) n.hash bs m long) go' in
        rw is here
    by true zero e is go =
        let same = hash_gives (block_hash b.block.header) n.hash e in
        let here : AreLinked (block_hash b.block.header) ns = rw same h.1 in
        rw (e, is) here
    by false zero e is go = rw (e, is) h

-- the plan of a path fits the chain
pub rest_fits : (chain : Chain) (path rest : List Node) (back : ℕ) → back ≡ back_of chain path → rest ≡ rest_of chain path → AreLinked zero_hash path
    → (back ≤ length chain) × AreLinked (tip (shorter back chain)) rest
rest_fits chain path rest back is rest_is linked =
    let within = common_within chain path in
    let staying : length chain - back ≡ common chain path = omega (arith, is, within) in
    let whole : shorter back chain ≡ take (common chain path) chain = ap (λ n. take n chain) staying in
    let fits : AreLinked (tip (shorter back chain)) rest = rw (whole, rest_is) (common_linked zero_hash chain path linked) in
    (omega (arith, is), fits)

-- whether there are none
pub nil_if : (xs : List Node) (b : Bool) → b ≡ true → b ≡ (length xs == 0) → xs ≡ []
nil_if [] b yes_b is = refl
nil_if (x ∷ xs) b yes_b is = absurd (let e = eqb-true (length (x ∷ xs)) 0 (sym is ∙ yes_b) in omega arith)

pub some_if : (xs : List Node) (b : Bool) → b ≡ false → b ≡ (length xs == 0) → xs ≡ [] → ⊥
some_if xs b no_b is none =
    let e = sym no_b ∙ is ∙ eq-eqb (length xs) 0 (ap (λ (l : List Node). length l) none) in
    cc

pub moving_any : (b : ℕ) (ns : List Node) → (ns ≡ [] → ⊥) → IsMoving b ns
moving_any zero [] some = absurd (some refl)
moving_any zero (n ∷ ns) some = tt
moving_any (suc b) ns some = tt

pub moving_back : (b : ℕ) (ns : List Node) → (b ≡ 0 → ⊥) → IsMoving b ns
moving_back zero ns some = absurd (some refl)
moving_back (suc b) ns some = tt

-- whether something is to be moved
pub moving_by : (b : ℕ) (ns : List Node) (none : Bool) → none ≡ (length ns == 0) → none ≡ false → IsMoving b ns
moving_by b ns none is off = moving_any b ns (some_if ns none off is)

-- a path is linked from its first node on, which names no block
pub path_linked : (found path : List Node) (h : Hash32) → IsPath found h path → AreLinked zero_hash path
path_linked found path h p = rw p.whole (names_zero found p.first p.begins, p.linked)
  where
    by : (found : List Node) (x n : Node) (s : Bool) → same_hash x.header.previous zero_hash ≡ s → genesis (x ∷ found) ≡ Some n
        → (genesis found ≡ Some n → n.header.previous ≡ zero_hash) → n.header.previous ≡ zero_hash
    by found x n true is e go =
        let one : x ≡ n = (let f = rw is at e in cc) in
        rw (← one) (hash_gives x.header.previous zero_hash is)
    by found x n false is e go = go (let f = rw is at e in f)

    names_zero : (found : List Node) (n : Node) → genesis found ≡ Some n → n.header.previous ≡ zero_hash
    names_zero [] n e = absurd (let f = e in cc)
    names_zero (x ∷ xs) n e = by xs x n (same_hash x.header.previous zero_hash) refl e (names_zero xs n)

-- ---- comparing

block_here : (chain : Chain) (i : ℕ) (text : List ℕ) → header_at chain i ≡ Some text → (b : Placed) × (drop i chain ≡ b ∷ drop (i + 1) chain) × (header_encoding b.block.header ≡ text)
block_here [] i text h = absurd (let e = h in cc)
block_here (b ∷ bs) zero text h = (b, refl, (let e = h in cc))
block_here (b ∷ bs) (suc i) text h =
    let r = block_here bs i text h in
    (r.0, r.1 ∙ ap (λ n. r.0 ∷ drop n (b ∷ bs)) (let e : suc (i + 1) ≡ suc i + 1 = omega arith in e), r.2)

hash_other : (a b : Hash32) → (a ≡ b → ⊥) → same_hash a b ≡ false
hash_other a b no_eq = by (same_hash a b) refl
  where
    by : (s : Bool) → same_hash a b ≡ s → same_hash a b ≡ false
    by true e = absurd (no_eq (hash_gives a b e))
    by false e = e

node_at : (path : List Node) (i : ℕ) (n : Node) → slice_get path i ≡ Some n → drop i path ≡ n ∷ drop (i + 1) path
node_at [] i n h = absurd (let e = h in cc)
node_at (m ∷ ms) zero n h = ap (λ (x : Node). x ∷ ms) (let e = h in cc)
node_at (m ∷ ms) (suc i) n h = node_at ms i n h ∙ ap (λ k. n ∷ drop k (m ∷ ms)) (let e : suc (i + 1) ≡ suc i + 1 = omega arith in e)

none_common : (chain : Chain) → common chain [] ≡ 0
none_common [] = refl
none_common (b ∷ bs) = refl

-- where some block from a height on is common, so many are
common_from : (chain : Chain) (path : List Node) (i count : ℕ) → common (drop i chain) (drop i path) ≡ suc count → common chain path ≡ suc (i + count)
common_from chain path zero count is = is ∙ (let e : suc count ≡ suc (0 + count) = omega arith in e)
common_from [] path (suc i) count is = absurd (let e = is in cc)
common_from (b ∷ bs) [] (suc i) count is = absurd (let e = sym is ∙ none_common (drop i bs) in cc)
common_from (b ∷ bs) (n ∷ ns) (suc i) count is =
    let up : common (b ∷ bs) (n ∷ ns) ≡ suc (suc (i + count)) = rw (common_from bs ns i count is) refl in
    up ∙ (let e : suc (suc (i + count)) ≡ suc (suc i + count) = omega arith in e)

-- where none is, no more are than stand below
common_to : (chain : Chain) (path : List Node) (i : ℕ) → common (drop i chain) (drop i path) ≡ 0 → common chain path ≤ i
common_to chain path zero is = omega (arith, is)
common_to [] path (suc i) is = omega arith
common_to (b ∷ bs) [] (suc i) is = omega arith
common_to (b ∷ bs) (n ∷ ns) (suc i) is =
    let more = common_to bs ns i is in
    let up = up_to_less (same_hash (block_hash b.block.header) n.hash) (common bs ns) in
    omega (arith, more, up)

pub below_to : (chain : Chain) (path : List Node) (i : ℕ) (last : Option Node) → IsBelow chain path i last → common chain path ≤ i
below_to chain path i last is = common_to chain path i is.none_above

-- one of the two ends there
common_past : (chain : Chain) (path : List Node) (i : ℕ) → (length chain ≤ i) ⊎ (length path ≤ i) → common (drop i chain) (drop i path) ≡ 0
common_past chain path i (inl le) = rw (drop_all i chain le) refl
common_past chain path i (inr le) = rw (drop_all i path le) (none_common (drop i chain))

-- the comparison begins at the end of the shorter one
pub below_first : (chain : Chain) (path : List Node) (count both height : ℕ) (end : Node) (last : Option Node) → count ≡ length chain → IsEndOf path end height
    → both ≡ min count (height + 1) → ((below : ℕ) → both ≤ length path → both ≡ suc below → last ≡ slice_get path below) → IsBelow chain path both last
below_first chain path count both height end last blocks is_end is node =
    let long : both ≤ length path = let e = is_end.1 in omega arith in record {
      none_above = common_past chain path both (by (nat_lt both count) refl);
      long = long;
      node = λ below one. node below long one;
    }
  where
    by : (s : Bool) → nat_lt both count ≡ s → (length chain ≤ both) ⊎ (length path ≤ both)
    by true e = inr (let l = ltb-true both count e in let p = is_end.1 in omega arith)
    by false e = inl (let l = ltb-false both count e in omega arith)

-- the next block below is another
pub below_next : (chain : Chain) (path : List Node) (i k : ℕ) (last next : Option Node) (n : Node) (text : List ℕ) → IsBelow chain path i last → i ≡ suc k → last ≡ Some n
    → header_at chain k ≡ Some text → (record { 0 = sha256d text } ≡ n.hash → ⊥)
    → ((height : ℕ) → slice_get path (suc height) ≡ Some n → next ≡ slice_get path height) → IsBelow chain path k next
below_next chain path i k last next n text is one there header other parent =
    let b = block_here chain k text header in
    let here = sym (is.node k one) ∙ there in
    let no_same : same_hash (block_hash b.0.block.header) n.hash ≡ false =
    hash_other (block_hash b.0.block.header) n.hash (λ e. other (ap (λ (t : List ℕ). record { 0 = sha256d t }) (sym b.2) ∙ e)) in
    let next_one : i ≡ k + 1 = omega (arith, one) in
    let above : common (drop (k + 1) chain) (drop (k + 1) path) ≡ 0 = rw (← next_one) is.none_above in
    let long = is.long in record {
      none_above = rw (b.1, node_at path k n here, no_same, above) refl;
      long = omega (arith, one, long);
      node = λ below e. parent below (ap (slice_get path) (sym e) ∙ here);
    }

-- the next block below is the same
pub below_same : (chain : Chain) (path : List Node) (i k : ℕ) (last : Option Node) (n : Node) (text : List ℕ) → IsBelow chain path i last → i ≡ suc k → last ≡ Some n
    → header_at chain k ≡ Some text → record { 0 = sha256d text } ≡ n.hash → common chain path ≡ i
below_same chain path i k last n text is one there header same =
    let b = block_here chain k text header in
    let here = sym (is.node k one) ∙ there in
    let hash : block_hash b.0.block.header ≡ n.hash = ap (λ (t : List ℕ). record { 0 = sha256d t }) b.2 ∙ same in
    let yes_same = hash_from (block_hash b.0.block.header) n.hash hash in
    let next_one : i ≡ k + 1 = omega (arith, one) in
    let above : common (drop (k + 1) chain) (drop (k + 1) path) ≡ 0 = rw (← next_one) is.none_above in
    let found : common (drop k chain) (drop k path) ≡ 1 = rw (b.1, node_at path k n here, yes_same, above) refl in
    let all = common_from chain path k 0 found in
    omega (arith, all, one)

-- where nothing stands below, nothing is common
pub below_none : (chain : Chain) (path : List Node) (i : ℕ) (last : Option Node) → IsBelow chain path i last → i ≡ 0 → 0 ≡ common chain path
below_none chain path i last is none = let le = below_to chain path i last is in omega (arith, le, none)

-- a path has a node at each height below its length
node_below : (path : List Node) (i : ℕ) → i < length path → slice_get path i ≡ None → ⊥
node_below [] i lt none = omega (arith, lt)
node_below (n ∷ ns) zero lt none = let e = none in cc
node_below (n ∷ ns) (suc i) lt none = node_below ns i (omega (arith, lt)) none

pub below_has : (chain : Chain) (path : List Node) (i : ℕ) (last : Option Node) → IsBelow chain path i last → 0 < i → last ≡ None → ⊥
below_has chain path i last is some none =
    let one : i ≡ suc (i - 1) = omega (arith, some) in
    let long = is.long in
    node_below path (i - 1) (omega (arith, long, some)) (sym (is.node (i - 1) one) ∙ none)

-- below a node of a path stands another
pub none_below : (path : List Node) (n : Node) (height : ℕ) → slice_get path (suc height) ≡ Some n → slice_get path height ≡ None → ⊥
none_below path n height is none =
    let within = slice_get_within path (suc height) n is in
    node_below path height (omega (arith, within)) none

pub other_hash : (r : Bool) (P : Type 0) → r ≡ false → IsTrue r ↔ P → P → ⊥
other_hash true P e b p = let f = e in cc
other_hash false P e b p = let t = b.1 p in search rules

pub this_hash : (r : Bool) (P : Type 0) → r ≡ true → IsTrue r ↔ P → P
this_hash true P e b = b.0 (search rules)
this_hash false P e b = absurd (let f = e in cc)

pub at_is : (t u : Option Hash32) (h i : Option ℕ) → t ≡ u → h ≡ i → ◌≡◌ {A = NodeAnswer} (say.At t h) (say.At u i)
at_is t u h i same same' = rw (same, same') refl

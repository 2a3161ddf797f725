-- The tree row by row.
use Rattle.std.proofs.Common.{◌≡◌, inl, inr, ℕ, zero, suc, ◌+◌, ◌-◌, ◌*◌, ◌/◌, ◌%◌, ◌<◌, ◌≤◌, ◌≢◌, false, cond, List, [], ◌∷◌, ◌++◌, length, take, drop, get_or, refl, sym, ap, ◌∙◌, append_assoc, arith, ltb-false, ltb-true, ◌↔◌, ◌^◌, le-ltb, lt-ltb, eqb-true, eq-eqb, ne_eqb, ◌==◌, nat_lt, Some}
use Rattle.std.specs.List.{slice_get}
use Rattle.std.proofs.lemmas.Bool.{eqb-false, cases_Bool}
use Rattle.std.proofs.lemmas.List.{take_more, drop_more, set_at, take_at, get_or_default, get_or-drop, get_or-append_right, length-take-le, length-set, take_all, drop_all, take-append-drop}
use Rattle.std.proofs.Math.ListN.{set}
use Rattle.std.proofs.Math.Nat.{pow-suc, mul_comm, mul_left_comm}
use Rattle.el_base.specs.declared.hash.Hash32.{Hash32}
use Rattle.el_merkle.specs.Merkle.{joined, pairs, row, half_up, halvings, levels, no_hash, root, neighbour, partner, branch_through, branch_of, climb}

pub length-pairs : (list : List Hash32) → length (pairs list) ≡ half_up (length list)
unfolding pairs
length-pairs [] = refl
length-pairs (odd ∷ []) = refl
length-pairs (left ∷ right ∷ rest) = let more = length-pairs rest in omega arith

-- a limit that is high enough changes nothing
halvings_same : (a b n : ℕ) → n ≤ suc a → n ≤ suc b → halvings a n ≡ halvings b n
unfolding halvings
halvings_same zero zero n la lb = refl
halvings_same zero (suc b) n la lb = rw (lt-ltb n 2 (omega arith)) refl
halvings_same (suc a) zero n la lb = rw (lt-ltb n 2 (omega arith)) refl
halvings_same (suc a) (suc b) n la lb =
    elim (cases_Bool (nat_lt n 2)) [
      | inl low ↦ rw low refl
      | inr high ↦
          let two = ltb-false n 2 high in
          rw high (ap suc (halvings_same a b (half_up n) (omega arith) (omega arith)))
    ]

pub levels_one : levels 1 ≡ 0
unfolding levels halvings
levels_one = refl

pub levels_more : (n : ℕ) → 2 ≤ n → levels n ≡ suc (levels (half_up n))
unfolding levels halvings
levels_more zero two = absurd (omega arith)
levels_more (suc m) two =
    rw (le-ltb (suc m) 2 two) (ap suc (halvings_same m (half_up (suc m)) (half_up (suc m)) (omega arith) (omega arith)))

positive : (k : ℕ) → 1 ≤ 2 ^ k
positive zero = omega arith
positive (suc k) =
    let one = positive k in
    let twice = pow-suc 2 k in
    omega arith

doubled : (h n k : ℕ) → 2 ≤ n → (h ≤ k - 1) ↔ (half_up n ≤ 2 ^ (k - 1)) → (suc h ≤ k) ↔ (n ≤ 2 ^ k)
doubled h n zero two below = (λ le. absurd (omega arith), λ le. absurd (omega arith))
doubled h n (suc k) two below =
    let same : suc k - 1 ≡ k = omega arith in
    let below' = rw same at below in
    let twice = pow-suc 2 k in
    (λ le. let half = below'.0 (omega arith) in omega arith, λ le. let fewer = below'.1 (omega arith) in omega arith)

-- the halvings are the least number of doublings from 1 that reach n
halvings_least : (limit n k : ℕ) → n ≤ suc limit → (halvings limit n ≤ k) ↔ (n ≤ 2 ^ k)
unfolding halvings
halvings_least zero n k le = let one = positive k in (λ h. omega arith, λ h. omega arith)
halvings_least (suc limit) n k le =
    elim (cases_Bool (nat_lt n 2)) [
      | inl low ↦
          let few = ltb-true n 2 low in
          let one = positive k in
          rw low (λ h. omega arith, λ h. omega arith)
      | inr high ↦
          let two = ltb-false n 2 high in
          rw high (doubled (halvings limit (half_up n)) n k two (halvings_least limit (half_up n) (k - 1) (omega arith)))
    ]

pub levels_least : (n k : ℕ) → (levels n ≤ k) ↔ (n ≤ 2 ^ k)
unfolding levels
levels_least n k = halvings_least n n k (omega arith)

pub root_one : (hash : Hash32) → root (hash ∷ []) ≡ hash
unfolding root levels halvings row
root_one hash = refl

pub root_more : (list : List Hash32) → 2 ≤ length list → root list ≡ root (pairs list)
unfolding root row
root_more list two =
    ap (λ (n : ℕ). get_or (row n list) 0 no_hash) (levels_more (length list) two)
    ∙ ap (λ (n : ℕ). get_or (row (levels n) (pairs list)) 0 no_hash) (sym (length-pairs list))

pub branch_one : (hash : Hash32) (pos : ℕ) → branch_of (hash ∷ []) pos ≡ []
unfolding branch_of levels halvings branch_through
branch_one hash pos = refl

pub branch_more : (list : List Hash32) (pos : ℕ) → 2 ≤ length list → branch_of list pos ≡ partner list pos ∷ branch_of (pairs list) (pos / 2)
unfolding branch_of branch_through
branch_more list pos two =
    ap (λ (n : ℕ). branch_through n list pos) (levels_more (length list) two)
    ∙ ap (λ (n : ℕ). partner list pos ∷ branch_through (levels n) (pairs list) (pos / 2)) (sym (length-pairs list))

length-through : (n : ℕ) (list : List Hash32) (pos : ℕ) → length (branch_through n list pos) ≡ n
unfolding branch_through
length-through zero list pos = refl
length-through (suc n) list pos = ap suc (length-through n (pairs list) (pos / 2))

pub length-branch : (list : List Hash32) (pos : ℕ) → length (branch_of list pos) ≡ levels (length list)
unfolding branch_of
length-branch list pos = length-through (levels (length list)) list pos

-- a hash of the next row
pair_at : (list : List Hash32) (i : ℕ) (d : Hash32) → 2 * i < length list
    → get_or (pairs list) i d ≡ joined (get_or list (2 * i) d) (get_or list (2 * i + 1) (get_or list (2 * i) d))
unfolding pairs
pair_at [] i d lt = absurd (omega arith)
pair_at (odd ∷ []) zero d lt = refl
pair_at (odd ∷ []) (suc i) d lt = absurd (omega arith)
pair_at (left ∷ right ∷ rest) zero d lt = refl
pair_at (left ∷ right ∷ rest) (suc i) d lt =
    let even : 2 * suc i ≡ suc (suc (2 * i)) = omega arith in
    let odd : suc (suc (2 * i)) + 1 ≡ suc (suc (2 * i + 1)) = omega arith in
    rw (even, odd) (pair_at rest i d (omega arith))

neighbour_even : (pos : ℕ) → pos % 2 ≡ 0 → neighbour pos ≡ pos + 1
neighbour_even pos even = rw (eq-eqb (pos % 2) 0 even) refl

neighbour_odd : (pos : ℕ) → (pos % 2 == 0) ≡ false → neighbour pos ≡ pos - 1
neighbour_odd pos odd = rw odd refl

-- a hash and its partner make the hash above them
pair_above : (list : List Hash32) (pos : ℕ) → pos < length list
    → cond (pos % 2 == 0) (joined (get_or list pos no_hash) (partner list pos)) (joined (partner list pos) (get_or list pos no_hash))
    ≡ get_or (pairs list) (pos / 2) no_hash
unfolding partner
pair_above list pos lt =
    elim (cases_Bool (pos % 2 == 0)) [
      | inl even ↦
          let zero_left = eqb-true (pos % 2) 0 even in
          let whole : 2 * (pos / 2) ≡ pos = omega arith in
          let pair = pair_at list (pos / 2) no_hash (omega arith) in
          let pair' = rw whole at pair in
          rw even (sym pair')
      | inr odd ↦
          let one_left = eqb-false (pos % 2) 0 odd in
          let whole : 2 * (pos / 2) ≡ pos - 1 = omega arith in
          let after : pos - 1 + 1 ≡ pos = omega arith in
          let pair = pair_at list (pos / 2) no_hash (omega arith) in
          let pair' = rw (whole, after) at pair in
          let left = get_or_default list (pos - 1) (get_or list pos no_hash) no_hash (omega arith) in
          let right = get_or_default list pos (get_or list (pos - 1) no_hash) no_hash lt in
          rw odd (cc)
    ]

climb_more : (hash : Hash32) (pos : ℕ) (next : Hash32) (rest : List Hash32)
    → climb hash pos (next ∷ rest) ≡ climb (cond (pos % 2 == 0) (joined hash next) (joined next hash)) (pos / 2) rest
unfolding climb
climb_more hash pos next rest = refl

-- by induction over the rows
climbs_by : (limit : ℕ) (list : List Hash32) (pos : ℕ) → length list ≤ limit → pos < length list
    → climb (get_or list pos no_hash) pos (branch_of list pos) ≡ root list
unfolding climb
climbs_by zero list pos le lt = absurd (omega arith)
climbs_by (suc limit) [] pos le lt = absurd (omega arith)
climbs_by (suc limit) (hash ∷ []) zero le lt = ap (climb hash 0) (branch_one hash 0) ∙ sym (root_one hash)
climbs_by (suc limit) (hash ∷ []) (suc pos) le lt = absurd (omega arith)
climbs_by (suc limit) (left ∷ right ∷ rest) pos le lt =
    let list : List Hash32 = left ∷ right ∷ rest in
    let two : 2 ≤ length list = omega arith in
    let size = length-pairs list in
    ap (climb (get_or list pos no_hash) pos) (branch_more list pos two)
    ∙ climb_more (get_or list pos no_hash) pos (partner list pos) (branch_of (pairs list) (pos / 2))
    ∙ ap (λ (hash : Hash32). climb hash (pos / 2) (branch_of (pairs list) (pos / 2))) (pair_above list pos lt)
    ∙ climbs_by limit (pairs list) (pos / 2) (omega arith) (omega arith)
    ∙ sym (root_more list two)

slice_get_is : (list : List Hash32) (pos : ℕ) (leaf : Hash32) → slice_get list pos ≡ Some leaf → (pos < length list) × (get_or list pos no_hash ≡ leaf)
slice_get_is [] pos leaf is = absurd cc
slice_get_is (hash ∷ rest) zero leaf is = (omega arith, cc)
slice_get_is (hash ∷ rest) (suc pos) leaf is =
    let more = slice_get_is rest pos leaf is in
    (omega arith, more.1)

pub climbs : (list : List Hash32) (pos : ℕ) (leaf : Hash32) → slice_get list pos ≡ Some leaf → climb leaf pos (branch_of list pos) ≡ root list
climbs list pos leaf is =
    let there = slice_get_is list pos leaf is in
    rw (← there.1) (climbs_by (length list) list pos (omega arith) there.0)

-- the row while its front has become the next row
pub record Paired (list : List Hash32) (i : ℕ) (now : List Hash32) : Type 0 where
  pub size : length now ≡ length list
  pub parts : now ≡ take i (pairs list) ++ drop i list

pub paired_none : (list : List Hash32) → Paired list 0 list
paired_none list = record { size = refl; parts = refl }

-- after the front stand the row's own hashes
after_front : (list now : List Hash32) (i j : ℕ) (d : Hash32) → Paired list i now → i < half_up (length list) → i ≤ j → get_or now j d ≡ get_or list j d
after_front list now i j d so_far lt le =
    let size = length-pairs list in
    let place : i + (j - i) ≡ j = omega arith in
    ap (λ (t : List Hash32). get_or t j d) so_far.parts
    ∙ get_or-append_right (take i (pairs list)) (drop i list) i j d (length-take-le i (pairs list) (omega arith)) le
    ∙ get_or-drop i list (j - i) d
    ∙ ap (λ (k : ℕ). get_or list k d) place

pub paired_more : (list now : List Hash32) (i : ℕ) (left right both : Hash32) → Paired list i now → i < half_up (length list)
    → left ≡ get_or now (2 * i) left → right ≡ partner now (2 * i) → both ≡ joined left right → Paired list (i + 1) (set now i both)
unfolding partner
paired_more list now i left right both so_far lt is_left is_right is_both =
    let size = length-pairs list in
    let inside : 2 * i < length list = omega arith in
    let front = length-take-le i (pairs list) (omega arith) in
    let first : left ≡ get_or list (2 * i) no_hash =
    is_left ∙ after_front list now i (2 * i) left so_far lt (omega arith) ∙ get_or_default list (2 * i) left no_hash inside in
    let second : right ≡ get_or list (2 * i + 1) (get_or list (2 * i) no_hash) =
    is_right ∙ ap (λ (k : ℕ). get_or now k (get_or now (2 * i) no_hash)) (neighbour_even (2 * i) (omega arith))
    ∙ after_front list now i (2 * i + 1) (get_or now (2 * i) no_hash) so_far lt (omega arith)
    ∙ ap (get_or list (2 * i + 1)) (after_front list now i (2 * i) no_hash so_far lt (omega arith)) in
    let pair : get_or (pairs list) i no_hash ≡ both =
    pair_at list i no_hash inside
    ∙ sym (is_both ∙ ap (λ (hash : Hash32). joined hash right) first ∙ ap (joined (get_or list (2 * i) no_hash)) second) in
    let split : now ≡ take i (pairs list) ++ get_or list i no_hash ∷ drop (i + 1) list =
    so_far.parts ∙ ap (λ (t : List Hash32). take i (pairs list) ++ t) (drop_more list i no_hash (omega arith)) in
    let front_more : take (i + 1) (pairs list) ≡ take i (pairs list) ++ both ∷ [] =
    take_more (pairs list) i no_hash (omega arith) ∙ ap (λ (hash : Hash32). take i (pairs list) ++ hash ∷ []) pair in
    record {
      size = length-set now i both ∙ so_far.size;
      parts =
          ap (λ (t : List Hash32). set t i both) split
          ∙ set_at (take i (pairs list)) (get_or list i no_hash) (drop (i + 1) list) both i front
          ∙ rw front_more (simp append_assoc);
    }

pub paired_all : (list now : List Hash32) (i half : ℕ) → Paired list i now → i ≡ half → half ≡ half_up (length list) → take half now ≡ pairs list
paired_all list now i half done all is =
    let size : length (pairs list) ≡ half = length-pairs list ∙ sym is in
    let whole : take half (pairs list) ≡ pairs list = take_all half (pairs list) (omega arith) in
    ap (take half) (done.parts ∙ ap (λ (k : ℕ). take k (pairs list) ++ drop k list) all)
    ∙ take_at (take half (pairs list)) (drop half list) half (length-take-le half (pairs list) (omega arith))
    ∙ whole

-- the next row
pub record IsAbove (list next : List Hash32) : Type 0 where
  pub half : length next ≡ half_up (length list)
  pub some : 0 < length next
  pub shorter : length next < length list
  pub same : root next ≡ root list

pub above : (list next : List Hash32) → next ≡ pairs list → 2 ≤ length list → IsAbove list next
above list next is two =
    let half : length next ≡ half_up (length list) = ap length is ∙ length-pairs list in
    record { half = half; some = omega arith; shorter = omega arith; same = ap root is ∙ sym (root_more list two) }

-- one more hash of a branch is there
pub branched_more : (list next before after : List Hash32) (pos : ℕ) (hash : Hash32) → next ≡ pairs list → 2 ≤ length list → hash ≡ partner list pos
    → after ≡ before ++ hash ∷ [] → after ++ branch_of next (pos / 2) ≡ before ++ branch_of list pos
branched_more list next before after pos hash is two is_partner longer =
    let here : hash ∷ branch_of next (pos / 2) ≡ branch_of list pos =
    ap (λ (h : Hash32). h ∷ branch_of next (pos / 2)) is_partner
    ∙ ap (λ (t : List Hash32). partner list pos ∷ branch_of t (pos / 2)) is
    ∙ sym (branch_more list pos two) in
    ap (λ (t : List Hash32). t ++ branch_of next (pos / 2)) longer
    ∙ append_assoc before (hash ∷ []) (branch_of next (pos / 2))
    ∙ ap (λ (t : List Hash32). before ++ t) here

-- a row of one hash
pub record IsTop (list : List Hash32) (hash : Hash32) : Type 0 where
  pub root_is : root list ≡ hash
  pub no_more : (pos : ℕ) → branch_of list pos ≡ []

pub top : (list : List Hash32) (hash : Hash32) → 0 < length list → length list ≤ 1 → hash ≡ get_or list 0 hash → IsTop list hash
top [] hash some few is = absurd (omega arith)
top (one ∷ []) hash some few is = record { root_is = root_one one ∙ sym is; no_more = branch_one one }
top (left ∷ right ∷ rest) hash some few is = absurd (omega arith)

-- one more hash of a branch is climbed
climbed_more : (branch : List Hash32) (i : ℕ) (hash : Hash32) (pos : ℕ) (d : Hash32) → i < length branch
    → climb hash pos (drop i branch)
    ≡ climb (cond (pos % 2 == 0) (joined hash (get_or branch i d)) (joined (get_or branch i d) hash)) (pos / 2) (drop (i + 1) branch)
climbed_more branch i hash pos d lt =
    ap (climb hash pos) (drop_more branch i d lt) ∙ climb_more hash pos (get_or branch i d) (drop (i + 1) branch)

pub climbed_even : (branch : List Hash32) (i : ℕ) (hash after : Hash32) (pos : ℕ) (d : Hash32) → i < length branch → pos % 2 ≡ 0
    → after ≡ joined hash (get_or branch i d) → climb after (pos / 2) (drop (i + 1) branch) ≡ climb hash pos (drop i branch)
climbed_even branch i hash after pos d lt even is =
    let more = climbed_more branch i hash pos d lt in
    let more' = rw (eq-eqb (pos % 2) 0 even) at more in
    ap (λ (h : Hash32). climb h (pos / 2) (drop (i + 1) branch)) is ∙ sym more'

pub climbed_odd : (branch : List Hash32) (i : ℕ) (hash after : Hash32) (pos : ℕ) (d : Hash32) → i < length branch → pos % 2 ≢ 0
    → after ≡ joined (get_or branch i d) hash → climb after (pos / 2) (drop (i + 1) branch) ≡ climb hash pos (drop i branch)
climbed_odd branch i hash after pos d lt odd is =
    let more = climbed_more branch i hash pos d lt in
    let more' = rw (ne_eqb (pos % 2) 0 odd) at more in
    ap (λ (h : Hash32). climb h (pos / 2) (drop (i + 1) branch)) is ∙ sym more'

pub climbed_all : (branch : List Hash32) (i : ℕ) (hash : Hash32) (pos : ℕ) → length branch ≤ i → climb hash pos (drop i branch) ≡ hash
unfolding climb
climbed_all branch i hash pos le = ap (climb hash pos) (drop_all i branch le)

-- ---- rows far above

pub row_none : (list : List Hash32) → row 0 list ≡ list
unfolding row
row_none list = refl

-- the row so many levels above is the one a level fewer above the pairs
pub row_more : (n i : ℕ) (list : List Hash32) → i < n → row (n - i) list ≡ row (n - (i + 1)) (pairs list)
unfolding row
row_more n i list lt = let e : n - i ≡ suc (n - (i + 1)) = omega arith in rw e refl

pub row_ends : (n i : ℕ) (list : List Hash32) → n ≤ i → row (n - i) list ≡ list
row_ends n i list le = let e : n - i ≡ 0 = omega arith in rw e (row_none list)

-- the pairs of a front of whole pairs stand in front of the pairs
take_pairs : (m : ℕ) (list : List Hash32) → pairs (take (2 * m) list) ≡ take m (pairs list)
unfolding pairs
take_pairs zero list = refl
take_pairs (suc m) [] = let e : 2 * suc m ≡ suc (suc (2 * m)) = omega arith in rw e refl
take_pairs (suc m) (odd ∷ []) =
    let e : 2 * suc m ≡ suc (suc (2 * m)) = omega arith in
    rw e (ap (λ (t : List Hash32). joined odd odd ∷ t) (sym (take_all m [] (omega arith))))
take_pairs (suc m) (left ∷ right ∷ rest) =
    let e : 2 * suc m ≡ suc (suc (2 * m)) = omega arith in
    rw e (ap (λ (t : List Hash32). joined left right ∷ t) (take_pairs m rest))

drop_pairs : (m : ℕ) (list : List Hash32) → pairs (drop (2 * m) list) ≡ drop m (pairs list)
unfolding pairs
drop_pairs zero list = refl
drop_pairs (suc m) [] = let e : 2 * suc m ≡ suc (suc (2 * m)) = omega arith in rw e refl
drop_pairs (suc m) (odd ∷ []) = let e : 2 * suc m ≡ suc (suc (2 * m)) = omega arith in rw e (sym (drop_all m [] (omega arith)))
drop_pairs (suc m) (left ∷ right ∷ rest) = let e : 2 * suc m ≡ suc (suc (2 * m)) = omega arith in rw e (drop_pairs m rest)

-- Above a list whose front is of whole groups stand what is above the front, and then what is above the rest.
pub row_parts : (n m size : ℕ) (list : List Hash32) → size ≡ m * 2 ^ n → row n (take size list) ++ row n (drop size list) ≡ row n list
unfolding row
row_parts zero m size list is = take-append-drop size list
row_parts (suc n) m size list is =
    let e : size ≡ 2 * (m * 2 ^ n) = is ∙ ap (λ (p : ℕ). m * p) (pow-suc 2 n ∙ mul_comm (2 ^ n) 2) ∙ mul_left_comm m 2 (2 ^ n) in
    rw (e, take_pairs (m * 2 ^ n) list, drop_pairs (m * 2 ^ n) list) (row_parts n m (m * 2 ^ n) (pairs list) refl)

-- A row in which no level below was joined from a single hash has the root of the list.
pub root_of_row : (n : ℕ) (list : List Hash32) → 2 ^ n ≤ length list → root (row n list) ≡ root list
unfolding row
root_of_row zero list long = refl
root_of_row (suc n) list long =
    let power = pow-suc 2 n in
    let one = positive n in
    let half = length-pairs list in
    root_of_row n (pairs list) (omega arith) ∙ sym (root_more list (omega arith))

-- a row above some hashes has some
pub row_some : (n : ℕ) (list : List Hash32) → 0 < length list → 0 < length (row n list)
unfolding row
row_some zero list some = some
row_some (suc n) list some = let half = length-pairs list in row_some n (pairs list) (omega arith)

pub row_of_none : (n : ℕ) → row n [] ≡ []
unfolding row pairs
row_of_none zero = refl
row_of_none (suc n) = row_of_none n

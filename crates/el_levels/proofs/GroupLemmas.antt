-- Trees by groups.
use Rattle.std.proofs.Common.{◌≡◌, inl, inr, ℕ, zero, suc, ◌+◌, ◌-◌, ◌*◌, ◌/◌, ◌%◌, ◌<◌, ◌≤◌, ◌^◌, List, [], ◌∷◌, ◌++◌, length, map, take, drop, get_or, refl, sym, ap, ap₂, ◌∙◌, arith, min, ◌==◌, nat_lt, ltb-true, ltb-false, eqb-true}
use Rattle.std.specs.List.{range_with_len}
use Rattle.std.proofs.lemmas.Bool.{eqb-false, cases_Bool}
use Rattle.std.proofs.lemmas.List.{take_at, drop_at, take_all, drop_all, get_or-take, get_or-drop, length-take-le, length-drop, length-take, get_or-append_right, same_lists, take-take, drop-take}
use Rattle.std.proofs.lemmas.List.FromFn.{length-map-range_with_len, get_or-map-range_with_len}
use Rattle.std.proofs.Math.Nat.{pow-suc, mul_comm, mul_assoc, lt_of_mul-lt-mul_left, mul-suc}
use Rattle.el_base.specs.declared.hash.Hash32.{Hash32}
use Rattle.el_merkle.specs.Merkle.{pairs, row, half_up, levels, no_hash, root, neighbour, partner, branch_through, branch_of}
use Rattle.el_merkle.proofs.Rows.{length-pairs, row_parts, row_some, root_of_row, root_one, branch_more}
use Rattle.el_levels.specs.Groups.{group, lifted, group_count, lifted_groups, group_roots}

positive : (k : ℕ) → 1 ≤ 2 ^ k
positive zero = omega arith
positive (suc k) = let one = positive k in let twice = pow-suc 2 k in omega arith

-- ---- how long a row is

-- a row has one hash of each 2 ^ n below it, and one of the rest
pub record IsShortened (n below above : ℕ) : Type 0 where
  pub enough : below ≤ 2 ^ n * above
  pub few : 2 ^ n * above < below + 2 ^ n

pub row_length : (n : ℕ) (list : List Hash32) → IsShortened n (length list) (length (row n list))
unfolding row
row_length zero list = record { enough = omega arith; few = omega arith }
row_length (suc n) list =
    let half = length-pairs list in
    let next = row_length n (pairs list) in
    let enough = next.enough in
    let few = next.few in
    let one = positive n in
    let twice = pow-suc 2 n in
    let same : 2 ^ suc n * length (row n (pairs list)) ≡ 2 * (2 ^ n * length (row n (pairs list))) =
    ap (λ (p : ℕ). p * length (row n (pairs list))) (twice ∙ mul_comm (2 ^ n) 2) ∙ omega arith in
    record { enough = omega arith; few = omega arith }

-- ---- the hashes of a row

-- a factor that two products tell
factor : (p r g : ℕ) → 1 ≤ p → p * g ≤ p * r → p * r < p * g + p → r ≡ g
factor p r g one le lt =
    let above : r < suc g = lt_of_mul-lt-mul_left p (rw (mul-suc p g) lt) in
    let below : g < suc r = lt_of_mul-lt-mul_left p (rw (mul-suc p r) (omega (arith, le, one))) in
    omega (arith, above, below)

alone : (xs : List Hash32) → 0 < length xs → length xs < 2 → xs ≡ get_or xs 0 no_hash ∷ []
alone [] some few = absurd (omega arith)
alone (one ∷ []) some few = refl
alone (one ∷ two ∷ rest) some few = absurd (omega arith)

-- so many levels above 2 ^ n hashes or fewer stands one hash
pub lifted_alone : (n : ℕ) (list : List Hash32) → 0 < length list → length list ≤ 2 ^ n → row n list ≡ lifted n list ∷ []
unfolding lifted
lifted_alone n list some few =
    let short = row_length n list in
    let under = short.few in
    let twice : 2 ^ n * 2 ≡ 2 ^ n + 2 ^ n = mul_comm (2 ^ n) 2 ∙ omega arith in
    let two : length (row n list) < 2 = lt_of_mul-lt-mul_left (2 ^ n) (rw twice (omega arith)) in
    alone (row n list) (row_some n list some) two

-- the length of a row above whole groups
whole_row : (n g : ℕ) (list : List Hash32) → length list ≡ 2 ^ n * g → length (row n list) ≡ g
whole_row n g list is =
    let short = row_length n list in
    let enough = short.enough in
    let few = short.few in
    factor (2 ^ n) (length (row n list)) g (positive n) (omega (arith, is, enough)) (omega (arith, is, few))

-- the hash of a row with that number stands above the group with that number
pub row_at : (n g : ℕ) (list : List Hash32) (d : Hash32) → 2 ^ n * g < length list
    → get_or (row n list) g d ≡ lifted n (take (2 ^ n) (drop (2 ^ n * g) list))
row_at n g list d lt =
    let p = 2 ^ n in
    let rest = drop (p * g) list in
    let here = take p rest in
    let some : 0 < length rest = rw (length-drop (p * g) list) (omega arith) in
    let one = positive n in
    let few = length-take p rest in
    let some_here : 0 < length here = rw few (omega arith) in
    let front = row_parts n g (p * g) list (mul_comm p g) in
    let back = row_parts n 1 p rest (omega arith) in
    let long = whole_row n g (take (p * g) list) (length-take-le (p * g) list (omega arith)) in
    let single = lifted_alone n here some_here (rw few (omega arith)) in
    ap (λ (t : List Hash32). get_or t g d) (sym front)
    ∙ get_or-append_right (row n (take (p * g) list)) (row n rest) g g d long (omega arith)
    ∙ ap (λ (i : ℕ). get_or (row n rest) i d) (omega arith)
    ∙ ap (λ (t : List Hash32). get_or t 0 d) (sym back)
    ∙ ap (λ (t : List Hash32). get_or (t ++ row n (drop p rest)) 0 d) single

-- the row 11 levels above hashes has one hash of each group
pub row_of_groups : (list : List Hash32) → row 11 list ≡ lifted_groups 11 list
unfolding lifted_groups group
row_of_groups list =
    let short = row_length 11 list in
    let enough = short.enough in
    let few = short.few in
    let count : length (row 11 list) ≡ group_count (length list) = omega arith in
    let f = λ (g : ℕ). lifted 11 (take 2048 (drop (2048 * g) list)) in
    same_lists (row 11 list) (map f (range_with_len 0 (group_count (length list))))
    (count ∙ sym (length-map-range_with_len f 0 (group_count (length list))))
    (λ g d lt. row_at 11 g list d (omega (arith, lt, few))
    ∙ sym (get_or-map-range_with_len f 0 (group_count (length list)) g g d (omega (arith, lt, count)) (omega arith)))

-- ---- branches

neighbour_moved : (k off : ℕ) → neighbour (2 * k + off) ≡ 2 * k + neighbour off
neighbour_moved k off =
    let same : (2 * k + off) % 2 ≡ off % 2 = omega arith in
    rw same (elim (cases_Bool (off % 2 == 0)) [
      | inl even ↦ rw even (omega arith)
      | inr odd ↦
          let one = eqb-false (off % 2) 0 odd in
          rw odd (omega arith)
    ])

neighbour_within : (m off : ℕ) → off < 2 * m → neighbour off < 2 * m
neighbour_within m off lt =
    elim (cases_Bool (off % 2 == 0)) [
      | inl even ↦
          let none = eqb-true (off % 2) 0 even in
          rw even (omega arith)
      | inr odd ↦ rw odd (omega arith)
    ]

-- a partner is in the same group
partner_in_group : (list : List Hash32) (m k off : ℕ) → off < 2 * m
    → partner list (2 * k + off) ≡ partner (take (2 * m) (drop (2 * k) list)) off
unfolding partner
partner_in_group list m k off lt =
    let here = take (2 * m) (drop (2 * k) list) in
    let read : (i : ℕ) (d : Hash32) → i < 2 * m → get_or list (2 * k + i) d ≡ get_or here i d =
    λ i d small. sym (get_or-take (2 * m) (drop (2 * k) list) i d small ∙ get_or-drop (2 * k) list i d) in
    ap (λ (i : ℕ). get_or list i (get_or list (2 * k + off) no_hash)) (neighbour_moved k off)
    ∙ read (neighbour off) (get_or list (2 * k + off) no_hash) (neighbour_within m off lt)
    ∙ ap (λ (d : Hash32). get_or here (neighbour off) d) (read off no_hash lt)

-- the pairs of a front and of a rest of whole pairs
pairs_parts : (m : ℕ) (list : List Hash32) → pairs (take (2 * m) list) ++ pairs (drop (2 * m) list) ≡ pairs list
unfolding row
pairs_parts m list = row_parts 1 m (2 * m) list (omega arith)

pairs_none : pairs [] ≡ []
unfolding pairs
pairs_none = refl

front_length : (m : ℕ) (list : List Hash32) → 2 * m ≤ length list → length (pairs (take (2 * m) list)) ≡ m
front_length m list le = length-pairs (take (2 * m) list) ∙ ap half_up (length-take-le (2 * m) list le) ∙ omega arith

take_pairs : (m : ℕ) (list : List Hash32) → pairs (take (2 * m) list) ≡ take m (pairs list)
take_pairs m list =
    let half = length-pairs list in
    elim (cases_Bool (nat_lt (length list) (2 * m))) [
      | inl low ↦
          let lt = ltb-true (length list) (2 * m) low in
          ap pairs (take_all (2 * m) list (omega arith)) ∙ sym (take_all m (pairs list) (omega arith))
      | inr high ↦
          let le = ltb-false (length list) (2 * m) high in
          sym (take_at (pairs (take (2 * m) list)) (pairs (drop (2 * m) list)) m (front_length m list le))
          ∙ ap (take m) (pairs_parts m list)
    ]

drop_pairs : (m : ℕ) (list : List Hash32) → pairs (drop (2 * m) list) ≡ drop m (pairs list)
drop_pairs m list =
    let half = length-pairs list in
    elim (cases_Bool (nat_lt (length list) (2 * m))) [
      | inl low ↦
          let lt = ltb-true (length list) (2 * m) low in
          ap pairs (drop_all (2 * m) list (omega arith)) ∙ pairs_none ∙ sym (drop_all m (pairs list) (omega arith))
      | inr high ↦
          let le = ltb-false (length list) (2 * m) high in
          sym (drop_at (pairs (take (2 * m) list)) (pairs (drop (2 * m) list)) m (front_length m list le))
          ∙ ap (drop m) (pairs_parts m list)
    ]

twice : (n : ℕ) → 2 ^ suc n ≡ 2 * 2 ^ n
twice n = pow-suc 2 n ∙ mul_comm (2 ^ n) 2

start : (n g : ℕ) → 2 ^ suc n * g ≡ 2 * (2 ^ n * g)
start n g = ap (λ (p : ℕ). p * g) (twice n) ∙ mul_assoc 2 (2 ^ n) g

-- The partners through n levels are those in the group of 2 ^ n.
pub through_group : (n g off : ℕ) (list : List Hash32) → off < 2 ^ n
    → branch_through n list (2 ^ n * g + off) ≡ branch_through n (take (2 ^ n) (drop (2 ^ n * g) list)) off
unfolding branch_through
through_group zero g off list lt = refl
through_group (suc n) g off list lt =
    let double = twice n in
    let half : (2 * (2 ^ n * g) + off) / 2 ≡ 2 ^ n * g + off / 2 = omega arith in
    let same : take (2 ^ n) (drop (2 ^ n * g) (pairs list)) ≡ pairs (take (2 * 2 ^ n) (drop (2 * (2 ^ n * g)) list)) =
    ap (take (2 ^ n)) (sym (drop_pairs (2 ^ n * g) list)) ∙ sym (take_pairs (2 ^ n) (drop (2 * (2 ^ n * g)) list)) in
    ap (λ (s : ℕ). branch_through (suc n) list (s + off)) (start n g)
    ∙ ap₂ (λ (h : Hash32) (t : List Hash32). h ∷ t)
    (partner_in_group list (2 ^ n) (2 ^ n * g) off (omega (arith, lt, double)))
    (ap (branch_through n (pairs list)) half
    ∙ through_group n g (off / 2) (pairs list) (omega (arith, lt, double))
    ∙ ap (λ (t : List Hash32). branch_through n t (off / 2)) same)
    ∙ ap (λ (s : ℕ). branch_through (suc n) (take s (drop (2 * (2 ^ n * g)) list)) off) (sym double)
    ∙ ap (λ (s : ℕ). branch_through (suc n) (take (2 ^ suc n) (drop s list)) off) (sym (start n g))

-- A branch is the partners through n levels, and then the branch in the row above these.
pub branch_over : (n g off : ℕ) (list : List Hash32) → off < 2 ^ n → 2 ^ n ≤ length list
    → branch_of list (2 ^ n * g + off) ≡ branch_through n list (2 ^ n * g + off) ++ branch_of (row n list) g
unfolding branch_through row
branch_over zero g off list lt long = ap (branch_of list) (omega (arith, lt))
branch_over (suc n) g off list lt long =
    let double = twice n in
    let one = positive n in
    let shorter = length-pairs list in
    let half : (2 ^ suc n * g + off) / 2 ≡ 2 ^ n * g + off / 2 = ap (λ (s : ℕ). (s + off) / 2) (start n g) ∙ omega arith in
    branch_more list (2 ^ suc n * g + off) (omega (arith, long, double, one))
    ∙ ap (λ (t : List Hash32). partner list (2 ^ suc n * g + off) ∷ t)
    (ap (branch_of (pairs list)) half
    ∙ branch_over n g (off / 2) (pairs list) (omega (arith, lt, double)) (omega (arith, long, double, shorter))
    ∙ ap (λ (i : ℕ). branch_through n (pairs list) i ++ branch_of (row n (pairs list)) g) (sym half))

-- ---- what is said of groups of 2,048

pub root_of_groups : (list : List Hash32) → 2048 ≤ length list → root list ≡ root (lifted_groups 11 list)
root_of_groups list long = sym (root_of_row 11 list (omega (arith, long))) ∙ ap root (row_of_groups list)

pub branch_of_groups : (list : List Hash32) (pos : ℕ) → 2048 ≤ length list
    → branch_of list pos ≡ branch_through 11 (group list (pos / 2048)) (pos % 2048) ++ branch_of (lifted_groups 11 list) (pos / 2048)
unfolding group
branch_of_groups list pos long =
    let whole : pos ≡ 2048 * (pos / 2048) + pos % 2048 = omega arith in
    let rest : pos % 2048 < 2 ^ 11 = omega arith in
    ap (branch_of list) whole
    ∙ branch_over 11 (pos / 2048) (pos % 2048) list rest (omega (arith, long))
    ∙ ap₂ (λ (a b : List Hash32). a ++ b)
    (through_group 11 (pos / 2048) (pos % 2048) list rest)
    (ap (λ (t : List Hash32). branch_of t (pos / 2048)) (row_of_groups list))

-- above a full group stands its root
pub full_root : (n : ℕ) (list : List Hash32) → length list ≡ 2 ^ n → lifted n list ≡ root list
full_root n list is =
    let one = positive n in
    sym (root_one (lifted n list))
    ∙ ap root (sym (lifted_alone n list (omega (arith, is, one)) (omega (arith, is))))
    ∙ root_of_row n list (omega (arith, is))

pub group_of_front : (n g : ℕ) (xs : List Hash32) → 2048 * (g + 1) ≤ n → group (take n xs) g ≡ group xs g
unfolding group
group_of_front n g xs le =
    let split : n ≡ 2048 * g + (n - 2048 * g) = omega (arith, le) in
    ap (λ (k : ℕ). take 2048 (drop (2048 * g) (take k xs))) split
    ∙ ap (take 2048) (drop-take (2048 * g) (n - 2048 * g) xs)
    ∙ take-take 2048 (n - 2048 * g) (drop (2048 * g) xs) (omega (arith, le))

pub length-roots : (xs : List Hash32) → length (group_roots xs) ≡ length xs / 2048
unfolding group_roots
length-roots xs = length-map-range_with_len (λ (g : ℕ). root (group xs g)) 0 (length xs / 2048)

pub root_at : (xs : List Hash32) (g : ℕ) (d : Hash32) → g < length xs / 2048 → get_or (group_roots xs) g d ≡ root (group xs g)
unfolding group_roots
root_at xs g d lt = get_or-map-range_with_len (λ (k : ℕ). root (group xs k)) 0 (length xs / 2048) g g d lt (omega arith)

-- the roots of the first groups are those of the hashes in them
pub roots_front : (k : ℕ) (xs : List Hash32) → take k (group_roots xs) ≡ group_roots (take (2048 * k) xs)
roots_front k xs =
    let front = take (2048 * k) xs in
    let all = length-roots xs in
    let few = length-roots front in
    let short = length-take (2048 * k) xs in
    let len : length (take k (group_roots xs)) ≡ length front / 2048 =
    length-take k (group_roots xs) ∙ ap (min k) all ∙ omega (arith, short) in
    same_lists (take k (group_roots xs)) (group_roots front) (len ∙ sym few)
    (λ g d lt.
    get_or-take k (group_roots xs) g d (omega (arith, lt, len, short))
    ∙ root_at xs g d (omega (arith, lt, len, short))
    ∙ ap root (sym (group_of_front (2048 * k) g xs (omega (arith, lt, len, short))))
    ∙ sym (root_at front g d (omega (arith, lt, len))))

pub roots_stay : (xs ys : List Hash32) (same : ℕ) → take same xs ≡ take same ys
    → take (same / 2048) (group_roots xs) ≡ take (same / 2048) (group_roots ys)
roots_stay xs ys same is =
    let whole = 2048 * (same / 2048) in
    let le : whole ≤ same = omega arith in
    roots_front (same / 2048) xs
    ∙ ap group_roots (sym (take-take whole same xs le) ∙ ap (take whole) is ∙ take-take whole same ys le)
    ∙ sym (roots_front (same / 2048) ys)

pub roots_none : group_roots [] ≡ []
unfolding group_roots
roots_none = refl

-- the hashes of a group
pub group_read : (hashes : List Hash32) (number : ℕ) → take 2048 (drop (number * 2048) hashes) ≡ group hashes number
unfolding group
group_read hashes number = let same : number * 2048 ≡ 2048 * number = omega arith in ap (λ (k : ℕ). take 2048 (drop k hashes)) same

-- ---- whole trees

pub whole_root : (list : List Hash32) → lifted (levels (length list)) list ≡ root list
unfolding lifted root
whole_root list = refl

pub whole_branch : (list : List Hash32) (pos : ℕ) → branch_through (levels (length list)) list pos ≡ branch_of list pos
unfolding branch_of
whole_branch list pos = refl

-- Rows, heads and links under one member more or less, and one row that changes.
use Rattle.std.proofs.Common.{◌≡◌, ℕ, zero, suc, ◌+◌, ◌*◌, ◌<◌, ◌≤◌, ◌==◌, List, [], ◌∷◌, ◌++◌, length, map, set, replicate, get_or, Option, None, Some, refl, ap, ap₂, sym, ◌∙◌, arith, eq-eqb, ne_eqb, mod-lt}
use Rattle.el_base.specs.declared.hash.Hash32.{Hash32}
use Rattle.el_tables.specs.Tables.{bucket_in, greatest, rows_from, numbers_from, heads}
use Rattle.el_tables.specs.Edits.{head_of, set_head}
use Rattle.el_tables.proofs.OlderWalks.{greatest_more}
use Rattle.el_tables.proofs.Tables.{length_heads}

-- 1. Rows

pub rows_same : {X Y : Type 0} (f g : ℕ → X → Y) (n : ℕ) (xs : List X) → ((i : ℕ) (x : X) → n ≤ i → i < n + length xs → g i x ≡ f i x)
    → rows_from g n xs ≡ rows_from f n xs
rows_same f g n [] same = refl
rows_same f g n (x ∷ xs) same =
    let one = same n x (omega arith) (omega arith) in
    let rest = rows_same f g (n + 1) xs (λ i y le lt. same i y (omega arith) (omega arith)) in
    rw (one, rest) refl

-- one row changes; where there is none with that number, none does
pub rows_change : {X Y : Type 0} (f g : ℕ → X → Y) (h : Y → Y) (d : Y) (n k m : ℕ) (xs : List X) → m ≡ n + k
    → ((i : ℕ) (x : X) → (i ≡ m → ⊥) → g i x ≡ f i x) → ((x : X) → g m x ≡ h (f m x))
    → rows_from g n xs ≡ set (rows_from f n xs) k (h (get_or (rows_from f n xs) k d))
rows_change f g h d n k m [] at same new = refl
rows_change f g h d n zero m (x ∷ xs) at same new =
    let rest = rows_same f g (n + 1) xs (λ i y le lt. same i y (λ e. omega arith)) in
    let e : m ≡ n = omega arith in
    let one : g n x ≡ h (f n x) = ap (λ (i : ℕ). g i x) (sym e) ∙ new x ∙ ap (λ (i : ℕ). h (f i x)) e in
    rw (rest, one) refl
rows_change f g h d n (suc k) m (x ∷ xs) at same new =
    let one = same n x (λ e. omega arith) in
    let rest = rows_change f g h d (n + 1) k m xs (omega arith) same new in
    rw one (ap (λ l. f n x ∷ l) rest)

pub rows_more : {X Y : Type 0} (f : ℕ → X → Y) (n m : ℕ) (xs : List X) (x : X) → m ≡ n + length xs → rows_from f n (xs ++ x ∷ []) ≡ rows_from f n xs ++ f m x ∷ []
rows_more f n m [] x at = let e : n ≡ m = omega arith in rw e refl
rows_more f n m (y ∷ ys) x at = ap (λ l. f n y ∷ l) (rows_more f (n + 1) m ys x (omega arith))

pub length_rows : {X Y : Type 0} (f : ℕ → X → Y) (n : ℕ) (xs : List X) → length (rows_from f n xs) ≡ length xs
length_rows f n [] = refl
length_rows f n (x ∷ xs) = ap suc (length_rows f (n + 1) xs)

-- the row of a number
pub rows_at : {X Y : Type 0} (f : ℕ → X → Y) (d : Y) (x : X) (n k m : ℕ) (xs : List X) → m ≡ n + k → k < length xs → get_or (rows_from f n xs) k d ≡ f m (get_or xs k x)
rows_at f d x n k m [] at lt = absurd (omega arith)
rows_at f d x n zero m (y ∷ ys) at lt = let e : n ≡ m = omega arith in ap (λ (i : ℕ). f i y) e
rows_at f d x n (suc k) m (y ∷ ys) at lt = rows_at f d x (n + 1) k m ys (omega arith) (omega arith)

-- the rows of one member more, by other rows of those before
pub rows_grown : {X Y : Type 0} (f g : ℕ → X → Y) (xs : List X) (x : X) (y : Y) → ((i : ℕ) (z : X) → i < length xs → g i z ≡ f i z) → g (length xs) x ≡ y
    → rows_from g 0 (xs ++ x ∷ []) ≡ rows_from f 0 xs ++ y ∷ []
rows_grown f g xs x y same new =
    rows_more g 0 (length xs) xs x (omega arith) ∙ ap₂ (λ a b. a ++ b ∷ []) (rows_same f g 0 xs (λ i z le lt. same i z (omega arith))) new

-- 2. Heads

below_set : {Y : Type 0} (f g : ℕ → Y) (y : Y) (n count k m : ℕ) → m ≡ n + k → ((i : ℕ) → (i ≡ m → ⊥) → g i ≡ f i) → g m ≡ y
    → map g (numbers_from n count) ≡ set (map f (numbers_from n count)) k y
below_set f g y n zero k m at same new = refl
below_set f g y n (suc count) zero m at same new =
    let e : m ≡ n = omega arith in
    let one : g n ≡ y = ap g (sym e) ∙ new in
    let rest = below_same f g (n + 1) count (λ i le. same i (λ q. omega arith)) in
    rw (one, rest) refl
  where
    below_same : {Z : Type 0} (f g : ℕ → Z) (a c : ℕ) → ((i : ℕ) → a ≤ i → g i ≡ f i) → map g (numbers_from a c) ≡ map f (numbers_from a c)
    below_same f g a zero same = refl
    below_same f g a (suc c) same =
        let one = same a (omega arith) in let rest = below_same f g (a + 1) c (λ i le. same i (omega arith)) in rw (one, rest) refl
below_set f g y n (suc count) (suc k) m at same new =
    let one = same n (λ e. omega arith) in
    rw one (ap (λ l. f n ∷ l) (below_set f g y (n + 1) count k m (omega arith) same new))

pub below_at : {Y : Type 0} (f : ℕ → Y) (d : Y) (n count k m : ℕ) → m ≡ n + k → k < count → get_or (map f (numbers_from n count)) k d ≡ f m
below_at f d n zero k m at lt = absurd (omega arith)
below_at f d n (suc count) zero m at lt = ap f (let e : n ≡ m = omega arith in e)
below_at f d n (suc count) (suc k) m at lt = below_at f d (n + 1) count k m (omega arith) (omega arith)

bucket_within : (count : ℕ) (h : Hash32) → 0 < count → bucket_in count h < count
unfolding bucket_in
bucket_within count h some = mod-lt (get_or h.0 0 0 + 256 * get_or h.0 1 0 + 65536 * get_or h.0 2 0) some

-- a head is the greatest of its bucket
pub head_is : {X : Type 0} (count : ℕ) (hash : X → Hash32) (xs : List X) (h : Hash32) → 0 < count
    → head_of h (heads count hash xs) ≡ greatest (λ x. bucket_in count (hash x) == bucket_in count h) xs
head_is count hash xs h some =
    let lt = bucket_within count h some in
    ap (λ (c : ℕ). get_or (heads count hash xs) (bucket_in c h) None) (length_heads count hash xs)
    ∙ below_at (λ n. greatest (λ x. bucket_in count (hash x) == n) xs) None 0 count (bucket_in count h) (bucket_in count h) (omega arith) lt

-- one more: its bucket's head has its number
pub heads_more : {X : Type 0} (count : ℕ) (hash : X → Hash32) (xs : List X) (x : X)
    → heads count hash (xs ++ x ∷ []) ≡ set_head (hash x) (Some (length xs)) (heads count hash xs)
heads_more count hash xs x =
    let b = bucket_in count (hash x) in
    let self = eq-eqb b b refl in
    below_set (λ n. greatest (λ y. bucket_in count (hash y) == n) xs) (λ n. greatest (λ y. bucket_in count (hash y) == n) (xs ++ x ∷ [])) (Some (length xs)) 0 count b b (omega arith)
    (λ i other. let apart = ne_eqb b i (λ e. other (sym e)) in greatest_more 0 (length xs) (λ y. bucket_in count (hash y) == i) xs x (omega arith) ∙ rw apart refl)
    (greatest_more 0 (length xs) (λ y. bucket_in count (hash y) == b) xs x (omega arith) ∙ rw self refl)
    ∙ ap (λ (c : ℕ). set (heads count hash xs) (bucket_in c (hash x)) (Some (length xs))) (sym (length_heads count hash xs))

-- one less: its bucket's head is again the greatest of those before
pub heads_less : {X : Type 0} (count : ℕ) (hash : X → Hash32) (xs : List X) (x : X)
    → heads count hash xs ≡ set_head (hash x) (greatest (λ y. bucket_in count (hash y) == bucket_in count (hash x)) xs) (heads count hash (xs ++ x ∷ []))
heads_less count hash xs x =
    let b = bucket_in count (hash x) in
    below_set (λ n. greatest (λ y. bucket_in count (hash y) == n) (xs ++ x ∷ [])) (λ n. greatest (λ y. bucket_in count (hash y) == n) xs)
    (greatest (λ y. bucket_in count (hash y) == b) xs) 0 count b b (omega arith)
    (λ i other. let apart = ne_eqb b i (λ e. other (sym e)) in sym (greatest_more 0 (length xs) (λ y. bucket_in count (hash y) == i) xs x (omega arith) ∙ rw apart refl))
    refl
    ∙ ap (λ (c : ℕ). set (heads count hash (xs ++ x ∷ [])) (bucket_in c (hash x)) (greatest (λ y. bucket_in count (hash y) == b) xs)) (sym (length_heads count hash (xs ++ x ∷ [])))

-- 3. No rows

pub no_heads : {X : Type 0} (count : ℕ) (hash : X → Hash32) → heads count hash [] ≡ replicate count None
no_heads count hash = go 0 count
  where
    go : (n c : ℕ) → map (λ (i : ℕ). greatest (λ x. bucket_in count (hash x) == i) []) (numbers_from n c) ≡ replicate c None
    go n zero = refl
    go n (suc c) = ap (λ (l : List (Option ℕ)). None ∷ l) (go (n + 1) c)

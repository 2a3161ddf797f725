-- Rows of bytes that other rows are written into.
use Rattle.std.proofs.Common.{◌≡◌, ◌≢◌, ◌⊎◌, ⊎_elim, ℕ, suc, ◌+◌, ◌-◌, ◌*◌, ◌<◌, ◌≤◌, List, ◌++◌, length, get_or, take, drop, sym, ◌∙◌, ap, arith, length-take, length-drop}
use Rattle.std.proofs.lemmas.Bool.{cases_lt}
use Rattle.std.proofs.lemmas.List.{ext_get_or, get_or-take, get_or-drop, take-take, drop-take, drop-drop, take-append-drop}
use Rattle.std.proofs.lemmas.Nat.{mul-le}
use Rattle.el_outside.specs.Disk.{over}
use Rattle.el_outside.proofs.Bytes.{length-over, over_before, over_in, over_after}
use Rattle.el_row_formats.specs.Tables.{row_at}

-- a row is its bytes
pub length-row : (size : ℕ) (b : List ℕ) (i : ℕ) → i * size + size ≤ length b → length (row_at size b i) ≡ size
length-row size b i le = omega (arith, length-take (i * size + size - i * size) (drop (i * size) b), length-drop (i * size) b)

row_byte : (size : ℕ) (b : List ℕ) (i k : ℕ) → k < size → get_or (row_at size b i) k 0 ≡ get_or b (i * size + k) 0
row_byte size b i k lt = get_or-take (i * size + size - i * size) (drop (i * size) b) k 0 (omega (arith, lt)) ∙ get_or-drop (i * size) b k 0

-- the same bytes, the same row
pub same_row : (size : ℕ) (b d : List ℕ) (i : ℕ) → i * size + size ≤ length b → i * size + size ≤ length d
    → ((k : ℕ) → i * size ≤ k → k < i * size + size → get_or b k 0 ≡ get_or d k 0) → row_at size b i ≡ row_at size d i
same_row size b d i le le_d same = ext_get_or 0 (row_at size b i) (row_at size d i) (length-row size b i le ∙ sym (length-row size d i le_d))
    (λ k lt. let below : k < size = omega (arith, lt, length-row size b i le) in
    row_byte size b i k below ∙ same (i * size + k) (omega arith) (omega (arith, below)) ∙ sym (row_byte size d i k below))

-- a row that is written is there
pub row_over_here : (size : ℕ) (b row : List ℕ) (i : ℕ) → i * size ≤ length b → length row ≡ size → row_at size (over b (i * size) row) i ≡ row
row_over_here size b row i le sized =
    let whole : i * size + size ≤ length (over b (i * size) row) = omega (arith, length-over b (i * size) row le, sized) in
    ext_get_or 0 (row_at size (over b (i * size) row) i) row (length-row size (over b (i * size) row) i whole ∙ sym sized)
    (λ k lt. let below : k < size = omega (arith, lt, length-row size (over b (i * size) row) i whole) in
    row_byte size (over b (i * size) row) i k below ∙ over_in b (i * size) row (i * size + k) le (omega arith) (omega (arith, below, sized))
    ∙ ap (λ n. get_or row n 0) (let e : i * size + k - i * size ≡ k = omega arith in e))

-- rows don't overlap
pub row_ends : (size i j : ℕ) → i < j → i * size + size ≤ j * size
row_ends size i j lt = let more : suc i * size ≤ j * size = mul-le (suc i) size j size (omega (arith, lt)) (omega arith) in omega (arith, more)

-- and the others stay
pub row_over_other : (size : ℕ) (b row : List ℕ) (i j : ℕ) → i ≢ j → i * size + size ≤ length b → j * size ≤ length b → length row ≡ size
    → row_at size (over b (j * size) row) i ≡ row_at size b i
row_over_other size b row i j ne le begins sized =
    same_row size (over b (j * size) row) b i (omega (arith, length-over b (j * size) row begins, le)) le
    (λ k ge lt. ⊎_elim
    (λ (first : i < j). over_before b (j * size) row k begins (omega (arith, lt, row_ends size i j first)))
    (λ (later : j ≤ i). over_after b (j * size) row k begins (omega (arith, ge, sized, row_ends size j i (omega (arith, later, ne)))))
    (cases_lt i j))

-- the next row of bytes
pub take_row : (size : ℕ) (b : List ℕ) (n : ℕ) → n * size + size ≤ length b → take (n * size) b ++ row_at size b n ≡ take (n * size + size) b
take_row size b n le =
    ap (λ (x : List ℕ). x ++ row_at size b n) (sym (take-take (n * size) (n * size + size) b (omega arith)))
    ∙ ap (λ (m : ℕ). take (n * size) (take (n * size + size) b) ++ take m (drop (n * size) b)) (let e : n * size + size - n * size ≡ size = omega arith in e)
    ∙ ap (λ (x : List ℕ). take (n * size) (take (n * size + size) b) ++ x) (sym (drop-take (n * size) size b))
    ∙ take-append-drop (n * size) (take (n * size + size) b)

-- rows that are written one after another are there
pub rows_over_here : (size : ℕ) (b bytes : List ℕ) (p n d : ℕ) → p * size ≤ length b → length bytes ≡ n * size → d < n
    → row_at size (over b (p * size) bytes) (p + d) ≡ row_at size bytes d
rows_over_here size b bytes p n d le long lt =
    let fits : d * size + size ≤ length bytes = omega (arith, row_ends size d n lt, long) in
    let shifted : (p + d) * size ≡ p * size + d * size = omega arith in
    let whole : (p + d) * size + size ≤ length (over b (p * size) bytes) = omega (arith, length-over b (p * size) bytes le, fits, shifted) in
    ext_get_or 0 (row_at size (over b (p * size) bytes) (p + d)) (row_at size bytes d) (length-row size (over b (p * size) bytes) (p + d) whole ∙ sym (length-row size bytes d fits))
    (λ k below_all. let below : k < size = omega (arith, below_all, length-row size (over b (p * size) bytes) (p + d) whole) in
    row_byte size (over b (p * size) bytes) (p + d) k below
    ∙ over_in b (p * size) bytes ((p + d) * size + k) le (omega (arith, shifted)) (omega (arith, shifted, below, fits))
    ∙ ap (λ n. get_or bytes n 0) (let e : (p + d) * size + k - p * size ≡ d * size + k = omega (arith, shifted) in e)
    ∙ sym (row_byte size bytes d k below))

-- and the others stay
pub rows_over_other : (size : ℕ) (b bytes : List ℕ) (p n j : ℕ) → (j < p) ⊎ (p + n ≤ j) → j * size + size ≤ length b → p * size ≤ length b → length bytes ≡ n * size
    → row_at size (over b (p * size) bytes) j ≡ row_at size b j
rows_over_other size b bytes p n j where_is le begins long =
    same_row size (over b (p * size) bytes) b j (omega (arith, length-over b (p * size) bytes begins, le)) le
    (λ k ge lt. ⊎_elim
    (λ (first : j < p). over_before b (p * size) bytes k begins (omega (arith, lt, row_ends size j p first)))
    (λ (later : p + n ≤ j).
    let all : (p + n) * size ≤ j * size = mul-le (p + n) size j size later (omega arith) in
    let shifted : (p + n) * size ≡ p * size + n * size = omega arith in
    over_after b (p * size) bytes k begins (omega (arith, ge, long, all, shifted)))
    where_is)

-- a row of what is left after some
pub row_drop : (size : ℕ) (b : List ℕ) (n j : ℕ) → row_at size (drop (n * size) b) j ≡ row_at size b (n + j)
row_drop size b n j =
    ap (λ (x : List ℕ). take (j * size + size - j * size) x) (drop-drop (j * size) (n * size) b)
    ∙ ap (λ m. take (j * size + size - j * size) (drop m b)) (let shifted : n * size + j * size ≡ (n + j) * size = omega arith in shifted)
    ∙ ap (λ m. take m (drop ((n + j) * size) b)) (let e : j * size + size - j * size ≡ (n + j) * size + size - (n + j) * size = omega arith in e)

-- a row that is whole among the first bytes
pub row_front : (size : ℕ) (b : List ℕ) (m j : ℕ) → j * size + size ≤ m → row_at size (take m b) j ≡ row_at size b j
row_front size b m j le =
    ap (λ n. take (j * size + size - j * size) (drop (j * size) (take n b))) (let e : m ≡ j * size + (m - j * size) = omega (arith, le) in e)
    ∙ ap (λ (x : List ℕ). take (j * size + size - j * size) x) (drop-take (j * size) (m - j * size) b)
    ∙ take-take (j * size + size - j * size) (m - j * size) (drop (j * size) b) (omega (arith, le))

-- or one of the first rows
pub row_take : (size : ℕ) (b : List ℕ) (n j : ℕ) → j < n → row_at size (take (n * size) b) j ≡ row_at size b j
row_take size b n j lt = row_front size b (n * size) j (row_ends size j n lt)

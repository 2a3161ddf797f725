-- The rows of a tree one after the other.
use Rattle.std.proofs.Common.{◌≡◌, ℕ, zero, suc, ◌+◌, ◌-◌, ◌/◌, ◌<◌, ◌≤◌, ◌^◌, List, [], ◌∷◌, ◌++◌, length, take, drop, get_or, refl, sym, ap, ap₂, ◌∙◌, append_assoc, append-nil, arith, length-append}
use Rattle.std.proofs.lemmas.List.{take_at, drop_at, take_all, drop-drop, get_or-append_right, length-take-le, length-drop}
use Rattle.std.proofs.Math.Nat.{pow-suc}
use Rattle.el_base.specs.declared.hash.Hash32.{Hash32}
use Rattle.el_merkle.specs.Merkle.{pairs, row, half_up, halvings, levels, partner, branch_through}
use Rattle.el_merkle.proofs.Rows.{length-pairs, levels_least}
use Rattle.el_levels.specs.Groups.{lifted}
use Rattle.el_levels.specs.within.RowsThrough.{rows_through, AreRows}

-- ---- making them

-- none was put so far
pub grown_begins : (n : ℕ) (hashes last list : List Hash32) → hashes ≡ [] → last ≡ list → hashes ++ rows_through (n - 0) last ≡ rows_through n list
grown_begins n hashes last list none is =
    let left : n - 0 ≡ n = omega arith in
    ap₂ (λ (a b : List Hash32). a ++ rows_through (n - 0) b) none is ∙ ap (λ (k : ℕ). rows_through k list) left

-- one more row was put to the others
pub grown_more : (n i : ℕ) (hashes last grown next whole : List Hash32) → i < n → grown ≡ hashes ++ last → next ≡ row 1 last
    → hashes ++ rows_through (n - i) last ≡ whole → grown ++ rows_through (n - (i + 1)) next ≡ whole
unfolding rows_through row
grown_more n i hashes last grown next whole lt grown_is next_is so =
    let left : n - i ≡ suc (n - (i + 1)) = omega (arith, lt) in
    ap₂ (λ (a b : List Hash32). a ++ rows_through (n - (i + 1)) b) grown_is next_is
    ∙ append_assoc hashes last (rows_through (n - (i + 1)) (pairs last))
    ∙ ap (λ (k : ℕ). hashes ++ rows_through k last) (sym left)
    ∙ so

-- the last one was
pub grown_all : (n i : ℕ) (hashes last whole : List Hash32) → n ≤ i → hashes ++ rows_through (n - i) last ≡ whole → hashes ++ last ≡ whole
unfolding rows_through
grown_all n i hashes last whole le so =
    let left : 0 ≡ n - i = omega (arith, le) in
    ap (λ (k : ℕ). hashes ++ rows_through k last) left ∙ so

-- ---- reading them

some_rows : (n : ℕ) (list : List Hash32) → length list ≤ length (rows_through n list)
unfolding rows_through
some_rows zero list = omega arith
some_rows (suc n) list = let both = length-append list (rows_through n (pairs list)) in omega arith

-- the rows begin with the lowest
rows_front : (n : ℕ) (list : List Hash32) → take (length list) (rows_through n list) ≡ list
unfolding rows_through
rows_front zero list = take_all (length list) list (omega arith)
rows_front (suc n) list = take_at list (rows_through n (pairs list)) (length list) refl

pub rows_long : (n : ℕ) (list : List Hash32) → length list ≤ length (rows_through n list)
rows_long = some_rows

-- the last of them is the hash at the top
pub top_of_rows : (n : ℕ) (list : List Hash32) (d : Hash32) → 0 < length list → length list ≤ 2 ^ n
    → get_or (rows_through n list) (length (rows_through n list) - 1) d ≡ lifted n list
unfolding rows_through row lifted
top_of_rows zero [] d some reach = absurd (omega arith)
top_of_rows zero (one ∷ []) d some reach = refl
top_of_rows zero (one ∷ two ∷ rest) d some reach = absurd (omega arith)
top_of_rows (suc n) list d some reach =
    let half = length-pairs list in
    let double = pow-suc 2 n in
    let above = rows_through n (pairs list) in
    let both = length-append list above in
    let more = some_rows n (pairs list) in
    let there : length (list ++ above) - 1 - length list ≡ length above - 1 = omega arith in
    get_or-append_right list above (length list) (length (list ++ above) - 1) d refl (omega arith)
    ∙ ap (λ (i : ℕ). get_or above i d) there
    ∙ top_of_rows n (pairs list) d (omega arith) (omega (arith, half, double, reach))

-- On the way up from a place, i of n levels above the hashes: the row begins at `start`, and has `len` hashes.
pub record Climbing (hashes : List Hash32) (n i start len place : ℕ) (partners whole : List Hash32) : Type 0 where
  pub inside : i ≤ n
  pub fits : start + len ≤ length hashes
  pub rows : drop start hashes ≡ rows_through (n - i) (take len (drop start hashes))
  pub so_far : partners ++ branch_through (n - i) (take len (drop start hashes)) place ≡ whole

pub climb_begins : (hashes : List Hash32) (n count place : ℕ) → AreRows hashes count n
    → Climbing hashes n 0 0 count place [] (branch_through n (take count hashes) place)
climb_begins hashes n count place are =
    let left : n - 0 ≡ n = omega arith in
    let within = are.within in
    record {
      inside = omega arith;
      fits = omega (arith, within);
      rows = are.rows ∙ ap (λ (j : ℕ). rows_through j (take count hashes)) (sym left);
      so_far = ap (λ (j : ℕ). branch_through j (take count hashes) place) left;
    }

-- a row and those above it, of which the row is taken
climbed_row : (hashes row : List Hash32) (k start len : ℕ) → length row ≡ len → drop start hashes ≡ row ++ rows_through k (pairs row)
    → drop (start + len) hashes ≡ rows_through k (pairs row)
climbed_row hashes row k start len is so =
    sym (drop-drop len start hashes) ∙ ap (drop len) so ∙ drop_at row (rows_through k (pairs row)) len is

pub climb_more : (hashes : List Hash32) (n i start len place : ℕ) (partners more whole : List Hash32) (hash : Hash32) → i < n
    → hash ≡ partner (take len (drop start hashes)) place → more ≡ partners ++ hash ∷ []
    → Climbing hashes n i start len place partners whole
    → Climbing hashes n (i + 1) (start + len) (len - len / 2) (place / 2) more whole
unfolding rows_through branch_through
climb_more hashes n i start len place partners more whole hash lt hash_is more_is was =
    let row = take len (drop start hashes) in
    let k = n - (i + 1) in
    let left : n - i ≡ suc k = omega (arith, lt) in
    let fits = was.fits in
    let rest = length-drop start hashes in
    let long : length row ≡ len = length-take-le len (drop start hashes) (omega arith) in
    let here : drop start hashes ≡ row ++ rows_through k (pairs row) = was.rows ∙ ap (λ (j : ℕ). rows_through j row) left in
    let after = climbed_row hashes row k start len long here in
    let half : length (pairs row) ≡ len - len / 2 = length-pairs row ∙ ap half_up long in
    let next : take (len - len / 2) (drop (start + len) hashes) ≡ pairs row =
    ap₂ (λ (j : ℕ) (t : List Hash32). take j t) (sym half) after ∙ rows_front k (pairs row) in
    let short = length-drop (start + len) hashes in
    let enough = rows_long k (pairs row) in
    let same = ap length after in
    record {
      inside = omega (arith, lt);
      fits = omega (arith, short, enough, same, half, fits);
      rows = after ∙ ap (rows_through k) (sym next);
      so_far =
          ap₂ (λ (a t : List Hash32). a ++ branch_through k t (place / 2)) more_is next
          ∙ append_assoc partners (hash ∷ []) (branch_through k (pairs row) (place / 2))
          ∙ ap (λ (h : Hash32). partners ++ h ∷ branch_through k (pairs row) (place / 2)) hash_is
          ∙ ap (λ (j : ℕ). partners ++ branch_through j row place) (sym left)
          ∙ was.so_far;
    }

pub climb_ends : (hashes : List Hash32) (n i start len place : ℕ) (partners whole : List Hash32) → n ≤ i
    → Climbing hashes n i start len place partners whole → partners ≡ whole
unfolding branch_through
climb_ends hashes n i start len place partners whole le was =
    let left : 0 ≡ n - i = omega (arith, le) in
    sym (append-nil partners) ∙ ap (λ (j : ℕ). partners ++ branch_through j (take len (drop start hashes)) place) left ∙ was.so_far

-- ---- how many levels there are

-- a number of hashes that has no levels
pub no_levels : (n : ℕ) → n ≤ 1 → levels n ≡ 0
unfolding levels halvings
no_levels zero le = refl
no_levels (suc zero) le = refl
no_levels (suc (suc n)) le = absurd (omega arith)

pub few_levels : (n k : ℕ) → n ≤ 2 ^ k → levels n ≤ k
few_levels n k le = (levels_least n k).1 le

pub levels_reach : (n : ℕ) → n ≤ 2 ^ levels n
levels_reach n = (levels_least n (levels n)).0 (omega arith)

-- the last of the rows
pub top_is : (hashes : List Hash32) (count n : ℕ) (hash : Hash32) → AreRows hashes count n → hash ≡ get_or hashes (length hashes - 1) hash
    → hash ≡ lifted n (take count hashes)
top_is hashes count n hash are is =
    let long = length-take-le count hashes are.within in
    let some = are.some in
    let reach = are.reach in
    is ∙ ap (λ (t : List Hash32). get_or t (length t - 1) hash) are.rows
    ∙ top_of_rows n (take count hashes) hash (omega (arith, long, some)) (omega (arith, long, reach))

-- ---- a new tree

pub new_front : (hashes list : List Hash32) (n : ℕ) → hashes ≡ rows_through n list → take (length list) hashes ≡ list
new_front hashes list n is = ap (take (length list)) is ∙ rows_front n list

pub new_rows : (hashes list : List Hash32) (n : ℕ) → 0 < length list → length list ≤ 2 ^ n → hashes ≡ rows_through n list
    → AreRows hashes (length list) n
new_rows hashes list n some reach is =
    let long = rows_long n list in
    let all = ap length is in
    record {
      some = some;
      within = omega (arith, long, all);
      reach = reach;
      rows = is ∙ ap (rows_through n) (sym (new_front hashes list n is));
    }

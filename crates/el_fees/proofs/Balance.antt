-- Sums of sizes at an edge, before changes and after them.
use Rattle.std.proofs.Common.{◌≡◌, ℕ, ◌+◌, ◌%◌, ◌^◌, ◌<◌, ◌≤◌, ◌==◌, Bool, true, false, ◌&&◌, if◌then◌else◌, List, [], ◌∷◌, length, map, get_or, refl, sym, ap, ap₂, ◌∙◌, arith, inl, inr, eqb-true}
use Rattle.std.specs.Prelude.{filter, sum_by, nat_eq, nat_lt}
use Rattle.std.specs.List.{zip}
use Rattle.std.specs.List.Sorted.{IsPermutation}
use Rattle.std.proofs.lemmas.Bool.{cases_Bool}
use Rattle.std.proofs.lemmas.List.{same_lists, get_or_default, get_or-map}
use Rattle.std.proofs.lemmas.List.Sums.{sum_by-cons, sum_by-append}
use Rattle.std.proofs.lemmas.List.Sorted.{sum_by-IsPermutation}
use Rattle.el_tx.specs.declared.types.Tx.{Tx}
use Rattle.el_tx.specs.Hashing.{vsize}
use Rattle.el_chain.specs.Chains.{Chain}
use Rattle.el_chain.specs.Headers.{same_hash}
use Rattle.el_mempool.specs.declared.held.KeptTx.{KeptTx}
use Rattle.el_mempool.specs.declared.fees.FeeChange.{FeeChange}
use Rattle.el_mempool.specs.declared.fees.TheConstants.{FEE_EDGES}
use Rattle.el_mempool.specs.Standing.{kept_tx}
use Rattle.el_mempool.specs.Fees.{edge_of, has_edge, histogram, fee_change, stay_changes, fee_changes, FitTogether}
use Rattle.el_fees.specs.Tables.{is_at_edge, size_at, sizes_of}
use Rattle.el_fees.specs.within.Sums.{added_at, removed_at, IsBalanced}

-- what one entry puts to the sum of an edge
abbrev own : ℕ → KeptTx → ℕ
own e k = if is_at_edge e k then k.vsize else 0

size_more : (e : ℕ) (k : KeptTx) (ks : List KeptTx) → size_at (k ∷ ks) e ≡ own e k + size_at ks e
size_more e k ks = elim (cases_Bool (is_at_edge e k)) [
  | inl h ↦ rw h (sum_by-cons (λ (x : KeptTx). x.vsize) k (filter (is_at_edge e) ks))
  | inr h ↦ rw h (omega arith)
]

added_more : (e : ℕ) (c : FeeChange) (cs : List FeeChange) → sum_by (added_at e) (c ∷ cs) ≡ added_at e c + sum_by (added_at e) cs
added_more e c cs = sum_by-cons (added_at e) c cs

removed_more : (e : ℕ) (c : FeeChange) (cs : List FeeChange) → sum_by (removed_at e) (c ∷ cs) ≡ removed_at e c + sum_by (removed_at e) cs
removed_more e c cs = sum_by-cons (removed_at e) c cs

came : (e : ℕ) (new : List KeptTx) → sum_by (added_at e) (map (fee_change true) new) ≡ size_at new e
came e [] = refl
came e (l ∷ new) = added_more e (fee_change true l) (map (fee_change true) new) ∙ ap (λ (n : ℕ). own e l + n) (came e new) ∙ sym (size_more e l new)

none_left : (e : ℕ) (new : List KeptTx) → sum_by (removed_at e) (map (fee_change true) new) ≡ 0
none_left e [] = refl
none_left e (l ∷ new) = removed_more e (fee_change true l) (map (fee_change true) new) ∙ ap (λ (n : ℕ). 0 + n) (none_left e new) ∙ omega arith

-- what one that stays changes
pub stayed_balance : (e : ℕ) (k l : KeptTx) → own e k + sum_by (added_at e) (stay_changes k l) ≡ own e l + sum_by (removed_at e) (stay_changes k l)
stayed_balance e k l = elim (cases_Bool (nat_eq k.fee l.fee && nat_eq k.vsize l.vsize)) [
  | inl h ↦
      let both = and_both (nat_eq k.fee l.fee) (nat_eq k.vsize l.vsize) h in
      let fee = eqb-true k.fee l.fee both.0 in
      let size = eqb-true k.vsize l.vsize both.1 in
      rw h (ap (λ (n : ℕ). n + 0) (ap₂ (λ (f v : ℕ). if edge_of f v == e then v else 0) fee size))
  | inr h ↦ rw h (two_balance e k l)
]
  where
    and_both : (a b : Bool) → (a && b) ≡ true → (a ≡ true) × (b ≡ true)
    and_both true true h = (refl, refl)
    and_both true false h = absurd (cc)
    and_both false b h = absurd (cc)

    two_balance : (e : ℕ) (k l : KeptTx)
        → own e k + sum_by (added_at e) (fee_change false k ∷ fee_change true l ∷ [])
        ≡ own e l + sum_by (removed_at e) (fee_change false k ∷ fee_change true l ∷ [])
    two_balance e k l =
        let a = added_more e (fee_change false k) (fee_change true l ∷ []) in
        let b = added_more e (fee_change true l) [] in
        let c = removed_more e (fee_change false k) (fee_change true l ∷ []) in
        let d = removed_more e (fee_change true l) [] in
        omega (arith, a, b, c, d)

-- An edge's sum with what was added is the sum after the changes with what was removed.
pub balance : (e : ℕ) (old new : List KeptTx)
    → size_at old e + sum_by (added_at e) (fee_changes old new) ≡ size_at new e + sum_by (removed_at e) (fee_changes old new)
balance e [] new = let a = came e new in let b = none_left e new in omega (arith, a, b)
balance e (k ∷ old) [] =
    let a = size_more e k old in
    let b = added_more e (fee_change false k) (fee_changes old []) in
    let c = removed_more e (fee_change false k) (fee_changes old []) in
    let d = balance e old [] in
    omega (arith, a, b, c, d)
balance e (k ∷ old) (l ∷ new) = elim (cases_Bool (same_hash k.txid l.txid)) [
  | inl h ↦
      let a = size_more e k old in
      let b = size_more e l new in
      let c = sum_by-append (added_at e) (stay_changes k l) (fee_changes old new) in
      let d = sum_by-append (removed_at e) (stay_changes k l) (fee_changes old new) in
      let f = stayed_balance e k l in
      let g = balance e old new in
      rw h (omega (arith, a, b, c, d, f, g))
  | inr h ↦
      let a = size_more e k old in
      let b = added_more e (fee_change false k) (fee_changes old (l ∷ new)) in
      let c = removed_more e (fee_change false k) (fee_changes old (l ∷ new)) in
      let d = balance e old (l ∷ new) in
      rw h (omega (arith, a, b, c, d))
]

-- the sum at one edge is at most the sum of all
pub part_le : (e : ℕ) (ks : List KeptTx) → size_at ks e ≤ sum_by (λ (k : KeptTx). k.vsize) ks
part_le e [] = omega arith
part_le e (k ∷ ks) =
    let a = size_more e k ks in
    let b = sum_by-cons (λ (x : KeptTx). x.vsize) k ks in
    let c = part_le e ks in
    let d = own_le (is_at_edge e k) k.vsize in
    omega (arith, a, b, c, d)
  where
    own_le : (b : Bool) (v : ℕ) → (if b then v else 0) ≤ v
    own_le true v = omega arith
    own_le false v = omega arith

-- The sum that 64 bits count after the changes is that of the entries after them.
pub sum_is : (e : ℕ) (old new : List KeptTx) (changes : List FeeChange) (before after : ℕ)
    → IsPermutation (fee_changes old new) changes → sum_by (λ (k : KeptTx). k.vsize) new < 2 ^ 64 → after < 2 ^ 64 → before ≡ size_at old e
    → (after + sum_by (removed_at e) changes) % 2 ^ 64 ≡ (before + sum_by (added_at e) changes) % 2 ^ 64
    → after ≡ size_at new e
sum_is e old new changes before after same fit small was is =
    let a = balance e old new in
    let b = sum_by-IsPermutation (added_at e) (fee_changes old new) changes same in
    let c = sum_by-IsPermutation (removed_at e) (fee_changes old new) changes same in
    let d = part_le e new in
    omega (arith, a, b, c, d, fit, small, was, is)

-- ---- all edges

pub size_is : (entries : List KeptTx) (k : ℕ) → k < 14 → get_or (sizes_of entries) k 0 ≡ size_at entries (get_or FEE_EDGES k 0)
unfolding sizes_of
size_is entries k lt = get_or-map (size_at entries) FEE_EDGES k 0 0 lt

pub size_count : (entries : List KeptTx) → length (sizes_of entries) ≡ 14
unfolding sizes_of
size_count entries = refl

-- The sums after the changes are those of the entries after them.
pub follows : (old new : List KeptTx) (changes : List FeeChange) (before after : List ℕ)
    → before ≡ sizes_of old → IsPermutation (fee_changes old new) changes → FitTogether new → length after ≡ 14
    → ((k : ℕ) → k < 14 → get_or after k 0 < 2 ^ 64)
    → ((k : ℕ) → k < 14 → IsBalanced (get_or before k 0) (get_or after k 0) (sum_by (added_at (get_or FEE_EDGES k 0)) changes)
    (sum_by (removed_at (get_or FEE_EDGES k 0)) changes))
    → after ≡ sizes_of new
follows old new changes before after was same fit long small is =
    same_lists after (sizes_of new) (long ∙ sym (size_count new))
    (λ k d lt.
    let within : k < 14 = omega (arith, lt, long) in
    let e = get_or FEE_EDGES k 0 in
    get_or_default after k d 0 lt
    ∙ sum_is e old new changes (get_or before k 0) (get_or after k 0) same fit (small k within)
    (ap (λ (l : List ℕ). get_or l k 0) was ∙ size_is old k within) (is k within)
    ∙ sym (size_is new k within)
    ∙ sym (get_or_default (sizes_of new) k d 0 (omega (arith, within, size_count new))))

-- ---- the histogram

abbrev with_sum : (ℕ → ℕ) → ℕ → ℕ × ℕ
with_sum f e = (e, f e)

zip_rows : (edges : List ℕ) (f : ℕ → ℕ) → zip edges (map f edges) ≡ map (with_sum f) edges
zip_rows [] f = refl
zip_rows (e ∷ es) f = ap (λ (t : List (ℕ × ℕ)). with_sum f e ∷ t) (zip_rows es f)

at_entries : (e : ℕ) (chain : Chain) (kept list : List Tx)
    → sum_by (λ (k : KeptTx). k.vsize) (filter (is_at_edge e) (map (kept_tx chain kept) list)) ≡ sum_by vsize (filter (has_edge chain kept e) list)
at_entries e chain kept [] = refl
at_entries e chain kept (t ∷ ts) =
    let more = at_entries e chain kept ts in
    elim (cases_Bool (has_edge chain kept e t)) [
      | inl h ↦
          let a = sum_by-cons (λ (x : KeptTx). x.vsize) (kept_tx chain kept t) (filter (is_at_edge e) (map (kept_tx chain kept) ts)) in
          let b = sum_by-cons vsize t (filter (has_edge chain kept e) ts) in
          rw h (a ∙ ap (λ (n : ℕ). vsize t + n) more ∙ sym b)
      | inr h ↦ rw h more
    ]

rows_same : (edges : List ℕ) (f g : ℕ → ℕ) → ((e : ℕ) → f e ≡ g e) → map (with_sum f) edges ≡ map (with_sum g) edges
rows_same [] f g h = refl
rows_same (e ∷ es) f g h = ap₂ (λ (n : ℕ) (t : List (ℕ × ℕ)). let row : ℕ × ℕ = (e, n) in row ∷ t) (h e) (rows_same es f g h)

-- The rows of a table of the kept transactions are the histogram.
pub rows_are : (entries : List KeptTx) (chain : Chain) (kept : List Tx) (sizes : List ℕ) → sizes ≡ sizes_of entries
    → entries ≡ map (kept_tx chain kept) kept
    → filter (λ (row : ℕ × ℕ). nat_lt 0 row.1) (zip FEE_EDGES sizes) ≡ histogram chain kept
unfolding sizes_of histogram
rows_are entries chain kept sizes is are =
    ap (λ (l : List (ℕ × ℕ)). filter (λ (row : ℕ × ℕ). nat_lt 0 row.1) l)
    (ap (zip FEE_EDGES) (is ∙ ap (λ (l : List KeptTx). map (size_at l) FEE_EDGES) are)
    ∙ zip_rows FEE_EDGES (size_at (map (kept_tx chain kept) kept))
    ∙ rows_same FEE_EDGES (size_at (map (kept_tx chain kept) kept)) (λ (e : ℕ). sum_by vsize (filter (has_edge chain kept e) kept))
    (λ e. at_entries e chain kept kept))

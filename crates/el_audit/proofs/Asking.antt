-- What is collected, script hash by script hash.
use Rattle.std.proofs.Common.{◌≡◌, ℕ, ◌+◌, ◌<◌, ◌≤◌, List, [], ◌∷◌, ◌++◌, length, map, take, drop, get_or, refl, ap, sym, ◌∙◌, arith}
use Rattle.std.proofs.lemmas.List.{map-append, get_or_default}
use Rattle.std.proofs.lemmas.List.Sums.{sum_by-cons, sum_by-append}
use Rattle.std.specs.Prelude.{sum_by}
use Rattle.el_base.specs.declared.hash.Hash32.{Hash32}
use Rattle.el_base.proofs.Lists.{taken_at, cut_at}
use Rattle.el_chain.specs.declared.coin.Coin.{Coin}
use Rattle.el_chain.specs.declared.entry.Entry.{Entry}
use Rattle.el_audit.specs.declared.claim.Claim.{Claim}

pub claim_is : (s : Hash32) (h i : List Entry) (u v : List Coin) (b d : ℕ) → h ≡ i → u ≡ v → b ≡ d
    → ◌≡◌ {A = Claim} (record { script = s; history = h; unspent = u; balance = b }) (record { script = s; history = i; unspent = v; balance = d })
claim_is s h i u v b d e1 e2 e3 = rw (e1, e2, e3) refl

-- one more value of a list is mapped
pub mapped_more : {X Y : Type 0} (f : X → Y) (xs : List X) (i : ℕ) (x d : X) (y : Y) (old new : List Y) → i < length xs → x ≡ get_or xs i d → y ≡ f x → old ≡ map f (take i xs)
    → new ≡ old ++ y ∷ [] → new ≡ map f (take (i + 1) xs)
mapped_more {X} {Y} f xs i x d y old new lt is' made so more =
    let is = is' ∙ get_or_default xs i d x lt in
    more ∙ ap (λ (l : List Y). l ++ y ∷ []) so ∙ ap (λ (z : Y). map f (take i xs) ++ z ∷ []) made
    ∙ sym (ap (map f) (taken_at xs i x lt is) ∙ map-append f (take i xs) (x ∷ []))

-- one more value is mapped back
pub named_more : {X Y : Type 0} (g : Y → X) (xs : List X) (i : ℕ) (x d : X) (y : Y) (old new : List Y) → i < length xs → x ≡ get_or xs i d → g y ≡ x → map g old ≡ take i xs
    → new ≡ old ++ y ∷ [] → map g new ≡ take (i + 1) xs
named_more {X} {Y} g xs i x d y old new lt is' named so more =
    let is = is' ∙ get_or_default xs i d x lt in
    ap (map g) more ∙ map-append g old (y ∷ []) ∙ ap (λ (l : List X). l ++ g y ∷ []) so ∙ ap (λ (z : X). take i xs ++ z ∷ []) named ∙ sym (taken_at xs i x lt is)

-- the rows of one more
pub rows_more : {X : Type 0} (f : X → ℕ) (xs : List X) (i : ℕ) (x d : X) → i < length xs → x ≡ get_or xs i d
    → (sum_by f (take (i + 1) xs) ≡ sum_by f (take i xs) + f x) × (sum_by f (take i xs) + f x ≤ sum_by f xs)
rows_more {X} f xs i x d lt is' =
    let is = is' ∙ get_or_default xs i d x lt in
    let more = ap (sum_by f) (taken_at xs i x lt is) ∙ sum_by-append f (take i xs) (x ∷ []) in
    let one = sum_by-cons f x [] in
    let whole = ap (sum_by f) (cut_at xs i x lt is) ∙ sum_by-append f (take i xs) (x ∷ drop (i + 1) xs) in
    let rest = sum_by-cons f x (drop (i + 1) xs) in
    let none : sum_by f [] ≡ 0 = refl in
    (omega (arith, more, one, none), omega (arith, whole, rest))

-- what was read, and one more claim's
pub rows_next : {X : Type 0} (f : X → ℕ) (xs : List X) (i : ℕ) (x d : X) (start mid now : ℕ) → i < length xs → x ≡ get_or xs i d → mid ≤ start + sum_by f (take i xs) → now ≤ mid + f x
    → now ≤ start + sum_by f (take (i + 1) xs)
rows_next f xs i x d start mid now lt is so more = let step = (rows_more f xs i x d lt is).0 in omega (arith, so, more, step)

pub rows_all : {X : Type 0} (f : X → ℕ) (xs : List X) (i : ℕ) (x d : X) (start mid now : ℕ) → i < length xs → x ≡ get_or xs i d → mid ≤ start + sum_by f (take i xs) → now ≤ mid + f x
    → now ≤ start + sum_by f xs
rows_all f xs i x d start mid now lt is so more = let most = (rows_more f xs i x d lt is).1 in omega (arith, so, more, most)

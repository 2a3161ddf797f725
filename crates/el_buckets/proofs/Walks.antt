-- Walks along a bucket: from its head by the links, over the hashes alone.
use Rattle.std.proofs.Common.{◌≡◌, inl, inr, ℕ, zero, suc, ◌+◌, ◌-◌, ◌<◌, ◌≤◌, Bool, true, false, cond, List, [], ◌∷◌, ◌++◌, length, take, get_or, Option, None, Some, refl, ap, sym, ◌∙◌, arith, count_by, eq-eqb, length-append, add-zero}
use Rattle.std.proofs.lemmas.Bool.{cases_Bool, cases_lt, lt-ltb, le-ltb}
use Rattle.std.proofs.Math.Seq.{take-suc}
use Rattle.std.proofs.lemmas.List.{get_or_at, get_or_append_left, get_or-take, take-take, take_all, take-append-le, length-take-le}
use Rattle.std.proofs.lemmas.List.Sums.{count_by_more_yes, count_by_more_no}
use Rattle.std.specs.Option.{ForSome}
use Rattle.el_base.specs.declared.hash.Hash32.{Hash32}
use Rattle.el_chain.specs.Headers.{same_hash}
use Rattle.el_tables.specs.Tables.{greatest, bucket_in}
use Rattle.el_tables.proofs.Outputs.{from_front}
use Rattle.el_tables.proofs.OlderWalks.{greatest_more}
use Rattle.el_tables.proofs.Scripts.{hash_gives}
use Rattle.el_row_formats.specs.RowBytes.{link_number}
use Rattle.el_buckets.specs.Buckets.{below, share_bucket}

-- one more than the number that a link names, or 0
abbrev pub end_of : Option ℕ → ℕ
end_of None = 0
end_of (Some n) = n + 1

-- 1. The greatest that passes a test

-- what a link names passes the test
abbrev pub Passes : {X : Type 0} → (X → Bool) → X → List X → Option ℕ → Type 0
Passes test d xs o = (n : ℕ) → o ≡ Some n → (n < length xs) × (test (get_or xs n d) ≡ true)

pub end_within : {X : Type 0} (test : X → Bool) (d : X) (xs : List X) (o : Option ℕ) → Passes test d xs o → end_of o ≤ length xs
end_within test d xs None h = omega arith
end_within test d xs (Some n) h = let lt = (h n refl).0 in omega arith

pub greatest_passes : {X : Type 0} (test : X → Bool) (d : X) (xs : List X) → Passes test d xs (greatest test xs)
greatest_passes test d xs = from_front (λ us. Passes test d us (greatest test us)) (λ n e. cc) (λ us u h. grow us u h) xs
  where
    grow : (us : List _) (u : _) → Passes test d us (greatest test us) → Passes test d (us ++ u ∷ []) (greatest test (us ++ u ∷ []))
    grow us u h n is =
        let next = greatest_more 0 (length us) test us u (omega arith) in
        let long = length-append us (u ∷ []) in
        elim (cases_Bool (test u)) [
          | inl e ↦
              let found : greatest test (us ++ u ∷ []) ≡ Some (length us) = next ∙ rw e refl in
              let at : n ≡ length us = let both : Some (length us) ≡ Some n = sym found ∙ is in cc in
              (omega arith, ap test (get_or_at us u [] d n (sym at)) ∙ e)
          | inr e ↦
              let same : greatest test (us ++ u ∷ []) ≡ greatest test us = next ∙ rw e refl in
              let before = h n (sym same ∙ is) in
              let lt = before.0 in
              (omega arith, ap test (get_or_append_left us (u ∷ []) d n lt) ∙ before.1)
        ]

-- of the first n + 1, it is n, or that of the first n
pub greatest_at : {X : Type 0} (test : X → Bool) (d : X) (n : ℕ) (xs : List X) → n < length xs
    → greatest test (take (n + 1) xs) ≡ cond (test (get_or xs n d)) (Some n) (greatest test (take n xs))
greatest_at test d n xs lt =
    let short : length (take n xs) ≡ n = length-take-le n xs (omega arith) in
    let one : n + 1 ≡ suc n = omega arith in
    ap (λ k. greatest test (take k xs)) one ∙ ap (greatest test) (take-suc xs n d lt) ∙ greatest_more 0 n test (take n xs) (get_or xs n d) (omega arith)

-- where each that passes the one test passes the other, the one's greatest is at or before the other's
pub up_to : {X : Type 0} (one other : X → Bool) → ((x : X) → one x ≡ true → other x ≡ true) → (xs : List X)
    → greatest one xs ≡ greatest one (take (end_of (greatest other xs)) xs)
up_to one other within xs = from_front (λ us. greatest one us ≡ greatest one (take (end_of (greatest other us)) us)) refl (λ us u h. grow us u h) xs
  where
    grow : (us : List _) (u : _) → greatest one us ≡ greatest one (take (end_of (greatest other us)) us)
        → greatest one (us ++ u ∷ []) ≡ greatest one (take (end_of (greatest other (us ++ u ∷ []))) (us ++ u ∷ []))
    grow us u h =
        let next = greatest_more 0 (length us) other us u (omega arith) in
        let mine = greatest_more 0 (length us) one us u (omega arith) in
        let long = length-append us (u ∷ []) in
        elim (cases_Bool (other u)) [
          | inl e ↦
              let found : greatest other (us ++ u ∷ []) ≡ Some (length us) = next ∙ rw e refl in
              let whole : take (length us + 1) (us ++ u ∷ []) ≡ us ++ u ∷ [] = take_all (length us + 1) (us ++ u ∷ []) (omega arith) in
              sym (ap (greatest one) (ap (λ o. take (end_of o) (us ++ u ∷ [])) found ∙ whole))
          | inr e ↦
              let same : greatest other (us ++ u ∷ []) ≡ greatest other us = next ∙ rw e refl in
              let le = end_within other u us (greatest other us) (greatest_passes other u us) in
              let front : take (end_of (greatest other us)) (us ++ u ∷ []) ≡ take (end_of (greatest other us)) us = take-append-le (end_of (greatest other us)) us (u ∷ []) le in
              let stays : greatest one (us ++ u ∷ []) ≡ greatest one us = elim (cases_Bool (one u)) [
                | inl y ↦ let both : true ≡ false = sym (within u y) ∙ e in absurd cc
                | inr n ↦ mine ∙ rw n refl
              ] in
              stays ∙ h ∙ sym (ap (greatest one) (ap (λ o. take (end_of o) (us ++ u ∷ [])) same ∙ front))
        ]

-- 2. A walk

-- the link is one of the bucket, and the greatest that passes is at or before it
pub record IsWalk {X : Type 0} (one other : X → Bool) (d : X) (xs : List X) (link : Option ℕ) : Type 0 where
  pub rest : greatest one xs ≡ greatest one (take (end_of link) xs)
  pub here : Passes other d xs link

module _ {X : Type 0} (one other : X → Bool) (within : (x : X) → one x ≡ true → other x ≡ true) (d : X) (xs : List X) where
  pub walk_begins : IsWalk one other d xs (greatest other xs)
  walk_begins = record { rest = up_to one other within xs; here = greatest_passes other d xs }

  pub walk_found : (n : ℕ) → IsWalk one other d xs (Some n) → one (get_or xs n d) ≡ true → Some n ≡ greatest one xs
  walk_found n walk is = sym (walk.rest ∙ greatest_at one d n xs (walk.here n refl).0 ∙ rw is refl)

  pub walk_ends : IsWalk one other d xs None → None ≡ greatest one xs
  walk_ends walk = sym walk.rest

  pub walk_on : (n : ℕ) → IsWalk one other d xs (Some n) → one (get_or xs n d) ≡ false → IsWalk one other d xs (greatest other (take n xs))
  walk_on n walk isnt =
      let lt = (walk.here n refl).0 in
      let next = greatest other (take n xs) in
      let short : length (take n xs) ≡ n = length-take-le n xs (omega arith) in
      let passes = greatest_passes other d (take n xs) in
      let le = end_within other d (take n xs) next passes in
      record {
        rest = walk.rest ∙ greatest_at one d n xs lt ∙ (rw isnt (up_to one other within (take n xs))) ∙ ap (greatest one) (take-take (end_of next) n xs (omega arith));
        here = λ m is. let p = passes m is in let less = p.0 in (omega arith, sym (ap other (get_or-take n xs m d (omega arith))) ∙ p.1);
      }

  -- the rows of the bucket before a link
  one_more : (n : ℕ) → n < length xs → count_by other (take n xs) ≤ count_by other (take (n + 1) xs)
  one_more n lt = elim (cases_Bool (other (get_or xs n d))) [
    | inl y ↦ omega (arith, count_by_more_yes other xs n d lt y)
    | inr y ↦ omega (arith, count_by_more_no other xs n d lt y)
  ]

  pub more_rows : (m k : ℕ) → m + k ≤ length xs → count_by other (take m xs) ≤ count_by other (take (m + k) xs)
  more_rows m zero le = rw add-zero (omega arith)
  more_rows m (suc k) le =
      let so_far = more_rows m k (omega arith) in
      let last = one_more (m + k) (omega arith) in
      let same : m + suc k ≡ m + k + 1 = omega arith in
      rw same (omega (arith, so_far, last))

  pub fewer_rows : (m n : ℕ) → m ≤ n → n ≤ length xs → count_by other (take m xs) ≤ count_by other (take n xs)
  fewer_rows m n le within_n =
      let gap = more_rows m (n - m) (omega arith) in
      let same : m + (n - m) ≡ n = omega arith in
      rw same at gap

  pub rows_within : (link : Option ℕ) → Passes other d xs link → count_by other (take (end_of link) xs) ≤ count_by other xs
  rows_within link passes =
      let le = end_within other d xs link passes in
      let few = fewer_rows (end_of link) (length xs) le (omega arith) in
      let whole = take_all (length xs) xs (omega arith) in
      rw whole at few

  pub rows_on : (n : ℕ) (link : Option ℕ) → IsWalk one other d xs (Some n) → end_of link ≤ n
      → count_by other (take (end_of link) xs) + 1 ≤ count_by other (take (n + 1) xs)
  rows_on n link walk le =
      let here = walk.here n refl in
      let lt = here.0 in
      let few = fewer_rows (end_of link) n le (omega arith) in
      let more = count_by_more_yes other xs n d lt here.1 in
      omega (arith, few, more)

pub end_below : (n : ℕ) (o : Option ℕ) → ForSome o (λ m. m < n) → end_of o ≤ n
end_below n None less = omega arith
end_below n (Some m) less = let lt = less m refl in omega arith

pub number_below : (n : ℕ) (o : Option ℕ) → ForSome o (λ m. m < n) → link_number o ≤ n
number_below n None less = omega arith
number_below n (Some m) less = let lt = less m refl in omega arith

-- what is left of a link is below its own row
pub less_than : (n : ℕ) (link : Option ℕ) (m : ℕ) → below n link ≡ Some m → m < n
less_than n None m is = absurd cc
less_than n (Some k) m is = elim (cases_lt k n) [
  | inl lt ↦ let test = lt-ltb k n lt in let left = rw test at is in let same : k ≡ m = cc in omega (arith, lt, same)
  | inr le ↦ let test = le-ltb k n le in let left = rw test at is in absurd (none_some left)
]
  where
    none_some : None ≡ Some m → ⊥
    none_some q = cc

-- a hash is in its own bucket
pub in_own_bucket : (count : ℕ) (h x : Hash32) → same_hash x h ≡ true → share_bucket count h x ≡ true
in_own_bucket count h x is = eq-eqb (bucket_in count x) (bucket_in count h) (ap (bucket_in count) (hash_gives x h is))

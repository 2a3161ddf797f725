-- The heads of buckets as numbers.
use Rattle.std.proofs.Common.{◌≡◌, ◌<◌, ◌+◌, ◌==◌, ℕ, zero, suc, List, [], ◌∷◌, ◌++◌, Option, None, Some, length, map, replicate, get_or, set, refl, ap, ap₂, sym, ◌∙◌, arith, rules}
use Rattle.std.proofs.lemmas.List.{map-set, get_or-map}
use Rattle.el_base.specs.declared.hash.Hash32.{Hash32}
use Rattle.el_row_formats.specs.RowBytes.{link_number}
use Rattle.el_tables.specs.Tables.{bucket_in, greatest, heads}
use Rattle.el_tables.proofs.RowLists.{head_is, heads_more, no_heads}
use Rattle.el_tables.proofs.Tables.{length_heads}
use Rattle.el_migrate.specs.within.Moving.{AreHeads}

-- a link is known by its number
one_link : (a b : Option ℕ) → link_number a ≡ link_number b → a ≡ b
one_link None None e = refl
one_link None (Some n) e = absurd (omega (arith, e))
one_link (Some m) None e = absurd (omega (arith, e))
one_link (Some m) (Some n) e = let same : m ≡ n = omega (arith, e) in ap Some same

map_none : (n : ℕ) → map link_number (replicate n None) ≡ replicate n 0
map_none zero = refl
map_none (suc n) = ap (λ (l : List ℕ). 0 ∷ l) (map_none n)

-- before the first row
pub none_in : (links : List ℕ) (n : ℕ) → links ≡ replicate n 0 → length links ≡ n → AreHeads links []
none_in links n is long =
    is ∙ sym (map_none n) ∙ sym (ap (λ (hs : List (Option ℕ)). map link_number hs) (no_heads n (λ (h : Hash32). h)))
    ∙ ap (λ k. map link_number (heads k (λ (h : Hash32). h) [])) (sym long)

-- the link of a bucket
pub head_at : (links : List ℕ) (hashes : List Hash32) (k : ℕ) (link : Option ℕ) → AreHeads links hashes → k < length links → link_number link ≡ get_or links k 0
    → link ≡ get_or (heads (length links) (λ (x : Hash32). x) hashes) k None
head_at links hashes k link are within is =
    let all = heads (length links) (λ (x : Hash32). x) hashes in
    let long = length_heads (length links) (λ (x : Hash32). x) hashes in
    one_link link (get_or all k None) (is ∙ ap (λ (l : List ℕ). get_or l k 0) are ∙ get_or-map link_number all k None 0 (omega (arith, long, within)))

module _ (links : List ℕ) (hashes : List Hash32) (h : Hash32) (are : AreHeads links hashes) (some : 0 < length links) (b : ℕ) (bucket : b ≡ bucket_in (length links) h) (within : b < length links) where
  abbrev count : ℕ
  count = length links

  abbrev all : List (Option ℕ)
  all = heads count (λ (x : Hash32). x) hashes

  -- what stands in a bucket
  pub link_there : (link : Option ℕ) → link_number link ≡ get_or links b 0 → link ≡ greatest (λ x. bucket_in count x == bucket_in count h) hashes
  link_there link is =
      let long = length_heads count (λ (x : Hash32). x) hashes in
      let at : get_or links b 0 ≡ link_number (get_or all b None) =
      ap (λ (l : List ℕ). get_or l b 0) are ∙ get_or-map link_number all b None 0 (omega (arith, long, within)) in
      let here : get_or all b None ≡ greatest (λ x. bucket_in count x == bucket_in count h) hashes =
      ap (λ k. get_or all k None) (bucket ∙ ap (λ c. bucket_in c h) (sym long)) ∙ head_is count (λ (x : Hash32). x) hashes h some in
      one_link link (get_or all b None) (is ∙ at) ∙ here

  -- one row more
  pub heads_put : (n : ℕ) → n ≡ length hashes → AreHeads (set links b (n + 1)) (hashes ++ h ∷ [])
  heads_put n is =
      let long = length_heads count (λ (x : Hash32). x) hashes in
      let same_long : length (set links b (n + 1)) ≡ count = search rules in
      ap (λ (l : List ℕ). set l b (n + 1)) are
      ∙ sym (map-set link_number all b (Some n))
      ∙ ap (λ (l : List (Option ℕ)). map link_number l)
      (ap₂ (λ (k m : ℕ). set all k (Some m)) (bucket ∙ ap (λ c. bucket_in c h) (sym long)) is ∙ sym (heads_more count (λ (x : Hash32). x) hashes h))
      ∙ ap (λ k. map link_number (heads k (λ (x : Hash32). x) (hashes ++ h ∷ []))) (sym same_long)

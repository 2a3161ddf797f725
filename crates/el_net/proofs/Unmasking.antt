-- Bytes without a mask, in parts.
use Rattle.std.proofs.Common.{◌≡◌, ◌∙◌, ◌≤◌, ◌+◌, ℕ, zero, suc, List, [], ◌∷◌, ◌++◌, length, take, drop, get_or, ◌%◌, ◌<◌, slice_set, slice_index_or, append-nil, bit_xor, refl, ap, sym, arith}
use Rattle.std.specs.Int.Bits.{xor_zero_r}
use Rattle.std.proofs.lemmas.List.{take_all, drop_all}
use Rattle.el_outside.specs.Files.{Grows, AllGrow}
use Rattle.std.specs.Option.{option_map_or}
use Rattle.std.specs.Prelude.{Option}
use Rattle.el_net.specs.declared.masks.Mask.{Mask}
use Rattle.el_net.specs.Devices.{read_with}
use Rattle.el_net.specs.Masks.{unmasked}

pub length_unmasked : (mask : List ℕ) (place : ℕ) (bytes : List ℕ) → length (unmasked mask place bytes) ≡ length bytes
length_unmasked mask place [] = refl
length_unmasked mask place (b ∷ bytes) = ap suc (length_unmasked mask (suc place) bytes)

pub unmasked_append : (mask : List ℕ) (place : ℕ) (xs ys : List ℕ)
    → unmasked mask place (xs ++ ys) ≡ unmasked mask place xs ++ unmasked mask (length xs + place) ys
unmasked_append mask place [] ys = ap (λ n. unmasked mask n ys) (omega arith)
unmasked_append mask place (x ∷ xs) ys =
    ap (λ more. bit_xor x (get_or mask (place % 8) 0) ∷ more) (unmasked_append mask (suc place) xs ys
    ∙ ap (λ n. unmasked mask (suc place) xs ++ unmasked mask n ys) (omega arith))

pub unmasked_take : (mask : List ℕ) (place n : ℕ) (bytes : List ℕ) → take n (unmasked mask place bytes) ≡ unmasked mask place (take n bytes)
unmasked_take mask place zero bytes = refl
unmasked_take mask place (suc n) [] = refl
unmasked_take mask place (suc n) (b ∷ bytes) =
    ap (λ more. bit_xor b (get_or mask (place % 8) 0) ∷ more) (unmasked_take mask (suc place) n bytes)

pub unmasked_drop : (mask : List ℕ) (place n : ℕ) (bytes : List ℕ) → drop n (unmasked mask place bytes) ≡ unmasked mask (n + place) (drop n bytes)
unmasked_drop mask place zero bytes = ap (λ p. unmasked mask p bytes) (omega arith)
unmasked_drop mask place (suc n) [] = refl
unmasked_drop mask place (suc n) (b ∷ bytes) = unmasked_drop mask (suc place) n bytes ∙ ap (λ p. unmasked mask p (drop n bytes)) (omega arith)

-- what was read at a place
pub unmasked_part : (mask : List ℕ) (at n : ℕ) (bytes : List ℕ) → unmasked mask at (take n (drop at bytes)) ≡ take n (drop at (unmasked mask 0 bytes))
unmasked_part mask at n bytes = sym (unmasked_take mask at n (drop at bytes))
    ∙ ap (take n) (ap (λ p. unmasked mask p (drop at bytes)) (omega arith) ∙ sym (unmasked_drop mask 0 at bytes))

pub unmasked_grows : (mask old new : List ℕ) → Grows old new → Grows (unmasked mask 0 old) (unmasked mask 0 new)
unmasked_grows mask old new (more, is) = (unmasked mask (length old + 0) more, ap (unmasked mask 0) is ∙ unmasked_append mask 0 old more)

-- eight zeros change nothing
abbrev pub zeros : List ℕ
zeros = 0 ∷ 0 ∷ 0 ∷ 0 ∷ 0 ∷ 0 ∷ 0 ∷ 0 ∷ []

zero_at : (k : ℕ) → get_or zeros k 0 ≡ 0
zero_at zero = refl
zero_at (suc zero) = refl
zero_at (suc (suc zero)) = refl
zero_at (suc (suc (suc zero))) = refl
zero_at (suc (suc (suc (suc zero)))) = refl
zero_at (suc (suc (suc (suc (suc zero))))) = refl
zero_at (suc (suc (suc (suc (suc (suc zero)))))) = refl
zero_at (suc (suc (suc (suc (suc (suc (suc zero))))))) = refl
zero_at (suc (suc (suc (suc (suc (suc (suc (suc k)))))))) = refl

pub unmasked_plain : (mask : List ℕ) (place : ℕ) (bytes : List ℕ) → mask ≡ zeros → unmasked mask place bytes ≡ bytes
unmasked_plain mask place [] is = refl
unmasked_plain mask place (b ∷ bytes) is =
    ap (λ m. bit_xor b (get_or m (place % 8) 0) ∷ unmasked m (suc place) bytes) is
    ∙ ap (λ z. bit_xor b z ∷ unmasked zeros (suc place) bytes) (zero_at (place % 8))
    ∙ ap (λ x. x ∷ unmasked zeros (suc place) bytes) (xor_zero_r b)
    ∙ ap (λ more. b ∷ more) (ap (λ m. unmasked m (suc place) bytes) (sym is) ∙ unmasked_plain mask (suc place) bytes is)

-- the mask was taken off the first i bytes
abbrev pub so_far : List ℕ → ℕ → List ℕ → ℕ → List ℕ
so_far mask place bytes i = unmasked mask place (take i bytes) ++ drop i bytes

pub one_more : (mask : List ℕ) (place : ℕ) (bytes : List ℕ) (i : ℕ) → i < length bytes
    → slice_set (so_far mask place bytes i) i (bit_xor (slice_index_or (so_far mask place bytes i) i 0) (slice_index_or mask ((place % 8 + i % 8) % 8) 0))
    ≡ so_far mask place bytes (suc i)
one_more mask place [] i lt = absurd (omega (arith, lt))
one_more mask place (b ∷ bytes) zero lt = ap (λ k. bit_xor b (slice_index_or mask k 0) ∷ bytes) (omega arith)
one_more mask place (b ∷ bytes) (suc i) lt =
    ap (λ k. bit_xor b (get_or mask (place % 8) 0) ∷ slice_set (so_far mask (suc place) bytes i) i
    (bit_xor (slice_index_or (so_far mask (suc place) bytes i) i 0) (slice_index_or mask k 0))) (omega arith)
    ∙ ap (λ more. bit_xor b (get_or mask (place % 8) 0) ∷ more) (one_more mask (suc place) bytes i (omega (arith, lt)))

pub all_done : (mask : List ℕ) (place : ℕ) (bytes : List ℕ) (i : ℕ) → length bytes ≤ i → so_far mask place bytes i ≡ unmasked mask place bytes
all_done mask place bytes i le = ap (λ xs. unmasked mask place xs ++ drop i bytes) (take_all i bytes le)
    ∙ ap (λ xs. unmasked mask place bytes ++ xs) (drop_all i bytes le) ∙ append-nil (unmasked mask place bytes)

-- What archives of block files tell grows with what the files have.
pub reads_grow : (old_mask mid_mask new_mask : Option Mask) (old mid new : ℕ → List ℕ) → mid_mask ≡ old_mask → new_mask ≡ mid_mask
    → new ≡ mid → AllGrow old mid → AllGrow (λ n. read_with old_mask (old n)) (λ n. read_with new_mask (new n))
reads_grow old_mask mid_mask new_mask old mid new same still is grows = rw (is, still, same)
    (λ n. unmasked_grows (option_map_or (λ (m : Mask). m.bytes) old_mask []) (old n) (mid n) (grows n))

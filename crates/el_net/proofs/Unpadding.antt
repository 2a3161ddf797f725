-- Reads of block files in which nothing is made ahead.
use Rattle.std.proofs.Common.{◌≡◌, ◌∙◌, ◌-◌, ℕ, min, List, [], ◌++◌, length, take, drop, append-nil, ap}

-- what stands in a file is what was written
pub unpadded : (bytes padding : List ℕ) → padding ≡ [] → bytes ++ padding ≡ bytes
unpadded bytes padding none = ap (λ more. bytes ++ more) none ∙ append-nil bytes

pub count_unpadded : (n at : ℕ) (bytes padding : List ℕ) (long : ℕ) → padding ≡ [] → n ≡ min long (length (bytes ++ padding) - at)
    → n ≡ min long (length bytes - at)
count_unpadded n at bytes padding long none count = count ∙ ap (λ all. min long (length all - at)) (unpadded bytes padding none)

pub filled_unpadded : (n at : ℕ) (bytes padding buffer : List ℕ) → padding ≡ [] → take n buffer ≡ take n (drop at (bytes ++ padding))
    → take n buffer ≡ take n (drop at bytes)
filled_unpadded n at bytes padding buffer none filled = filled ∙ ap (λ all. take n (drop at all)) (unpadded bytes padding none)

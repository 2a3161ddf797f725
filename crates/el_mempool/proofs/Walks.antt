-- A loop over a list that looks for an element.
use Rattle.std.proofs.Common.{◌≡◌, ℕ, ◌+◌, ◌<◌, true, false, Bool, List, length, drop, get_or, refl}
use Rattle.std.specs.List.{list_any}
use Rattle.el_base.proofs.Lists.{left_at}

pub any_stop : {X : Type 0} (f : X → Bool) (xs : List X) (i : ℕ) (x : X) → i < length xs → x ≡ get_or xs i x → f x ≡ true → list_any f (drop i xs) ≡ true
any_stop f xs i x lt is h = let left = left_at xs i x lt is in rw (left, h) refl

pub any_skip : {X : Type 0} (f : X → Bool) (xs : List X) (i : ℕ) (x : X) → i < length xs → x ≡ get_or xs i x → f x ≡ false → list_any f (drop i xs) ≡ list_any f (drop (i + 1) xs)
any_skip f xs i x lt is h = let left = left_at xs i x lt is in rw (left, h) refl

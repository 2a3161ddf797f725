-- The mask of Bitcoin Core's block files: eight bytes, with which each byte is xored by its place.
use Rattle.std.specs.Prelude.{ℕ, suc, ◌%◌, List, [], ◌∷◌, get_or, bit_xor}

-- the bytes from the place on, without the mask
abbrev pub unmasked : List ℕ → ℕ → List ℕ → List ℕ
unmasked mask place [] = []
unmasked mask place (byte ∷ bytes) =
    bit_xor byte (get_or mask (place % 8) 0) ∷ unmasked mask (suc place) bytes

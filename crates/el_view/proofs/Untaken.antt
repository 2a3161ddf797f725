-- Who takes an outpoint, and whether anybody does.
use Rattle.std.proofs.Common.{◌≡◌, Bool, true, false, not, refl}

pub other_way : (a b : Bool) → a ≡ not b → b ≡ not a
other_way true false e = refl
other_way true true e = absurd (cc)
other_way false true e = refl
other_way false false e = absurd (cc)

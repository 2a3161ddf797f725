-- How many blocks a chain has, by the height of its last.
use Rattle.std.proofs.Common.{◌≡◌, [], ◌∷◌, length, refl, arith}
use Rattle.el_chain.specs.Chains.{Chain}
use Rattle.el_model.specs.Queries.{blocks_in, height_of}

pub blocks_are : (chain : Chain) → blocks_in (height_of chain) ≡ length chain
blocks_are [] = refl
blocks_are (b ∷ bs) = omega arith

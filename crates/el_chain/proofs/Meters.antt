-- The script hashes that transactions concern, step by step.
use Rattle.std.proofs.Common.{◌≡◌, ◌+◌, List, [], ◌∷◌, ◌++◌, refl}
use Rattle.el_base.specs.declared.hash.Hash32.{Hash32}
use Rattle.el_chain.specs.RowCounts.{add_script, add_scripts}

pub gather_joined : (before xs ys : List Hash32) → add_scripts before (xs ++ ys) ≡ add_scripts (add_scripts before xs) ys
gather_joined before [] ys = refl
gather_joined before (x ∷ xs) ys = gather_joined (add_script x before) xs ys

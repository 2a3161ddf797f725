-- Good chains: their blocks can be read transaction by transaction, and one block more keeps them good.
use Rattle.std.proofs.Common.{◌+◌, [], ◌∷◌, ◌++◌}
use Rattle.std.specs.List.{AllByRecursion}
use Rattle.el_chain.specs.Chains.{Chain}
use Rattle.el_chain.specs.Faults.{IsGood}
use Rattle.el_coins.specs.CoinTables.{HasFitting}
use Rattle.el_coins.proofs.GoodChains.{chain_fits}

-- what holds of the blocks of two parts holds of each part's
parted : (front back : Chain) → AllByRecursion HasFitting (front ++ back) → AllByRecursion HasFitting front × AllByRecursion HasFitting back
parted [] back all = (tt, all)
parted (x ∷ front) back all = let rest = parted front back all.1 in ((all.0, rest.0), rest.1)

-- the blocks of a good chain that stands in two parts
pub front_fits : (front back : Chain) → IsGood (front ++ back) → AllByRecursion HasFitting front
front_fits front back h = (parted front back (chain_fits [] (front ++ back) h.each)).0

pub back_fits : (front back : Chain) → IsGood (front ++ back) → AllByRecursion HasFitting back
back_fits front back h = (parted front back (chain_fits [] (front ++ back) h.each)).1

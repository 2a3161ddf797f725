-- What a plain ledger stands for.
use Rattle.std.specs.Prelude.{◌≡◌, refl}
use Rattle.el_chain.specs.Chains.{Chain}
use Rattle.el_chain.specs.Faults.{IsGood}
use Rattle.el_model.specs.Queries.{height_of, tip_of}

-- A ledger that contracts see as a list of blocks stands for that chain alone, which is good.
pub record IsPlain (blocks chain : Chain) : Type 0 where
  pub is : blocks ≡ chain
  pub good : IsGood chain

-- its height is that of the chain
pub plain_height : (blocks chain : Chain) → IsPlain blocks chain → height_of blocks ≡ height_of chain
plain_height blocks chain h = rw h.is refl

-- its tip is that of the chain
pub plain_tip : (blocks chain : Chain) → IsPlain blocks chain → tip_of blocks ≡ tip_of chain
plain_tip blocks chain h = rw h.is refl

-- the chain that it stands for is good
pub plain_good : (blocks chain : Chain) → IsPlain blocks chain → IsGood chain
plain_good blocks chain h = h.good

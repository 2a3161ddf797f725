-- At which script hashes clients see another thing of a transaction where the kept ones are sifted over
-- another chain: each step of the sift tells of one transaction.
use Rattle.std.specs.Prelude.{ℕ, nat_eq, Bool, false, not, ◌&&◌, ◌||◌, if◌then◌else◌, List, [], ◌∷◌}
use Rattle.std.specs.Ordering.{int_eq}
use Rattle.el_base.specs.declared.hash.Hash32.{Hash32}
use Rattle.el_tx.specs.declared.types.Tx.{Tx}
use Rattle.el_chain.specs.Chains.{Chain}
use Rattle.el_mempool.specs.declared.held.KeptTx.{KeptTx}
use Rattle.el_mempool.specs.Sift.{may_join, joined}
use Rattle.el_mempool.specs.Standing.{kept_tx, is_at_script}

-- one of the two holds
abbrev pub just_one : Bool → Bool → Bool
just_one a b = (a && not b) || (b && not a)

-- both have the same flag and the same fee
abbrev pub look_same : KeptTx → KeptTx → Bool
look_same k l = int_eq k.flag l.flag && nat_eq k.fee l.fee

-- at the script hash clients see another thing of the transaction by the second entry than by the first
abbrev pub differs_at : List ℕ → KeptTx → KeptTx → Bool
differs_at s k l =
    if look_same k l then just_one (is_at_script s k) (is_at_script s l)
    else is_at_script s k || is_at_script s l

-- The sift over a chain comes to a transaction after those that it kept: at the script hash clients see
-- another thing of it than before, over the one chain and with all that were kept there.
abbrev pub step_differs : Chain → List Tx → Chain → List Tx → Hash32 → Tx → Bool
step_differs before all chain kept s t =
    if may_join chain kept t then differs_at s.0 (kept_tx before all t) (kept_tx chain kept t)
    else is_at_script s.0 (kept_tx before all t)

-- they do of one of these transactions, to which the sift comes after those that it kept
abbrev pub any_differs : Chain → List Tx → Chain → List Tx → Hash32 → List Tx → Bool
any_differs before all chain kept s [] = false
any_differs before all chain kept s (t ∷ ts) =
    step_differs before all chain kept s t || any_differs before all chain (joined chain kept t) s ts

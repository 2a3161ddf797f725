-- What an audit reports: that all claims are right, or the first difference.
use Rattle.std.specs.Prelude.{◌≡◌, ◌≢◌, ◌⊎◌, ℕ, List, [], ◌∷◌, length, take, slice_get}
use Rattle.std.specs.List.{AllByRecursion}
use Rattle.el_base.specs.declared.hash.Hash32.{Hash32}
use Rattle.el_chain.specs.Chains.{Chain}
use Rattle.el_audit.specs.declared.claim.Claim.{Claim}
use Rattle.el_audit.specs.declared.claim.Kind.{Kind}
use Rattle.el_audit.specs.declared.claim.Kind.TheVariants.{History, Unspent, Balance}
use Rattle.el_audit.specs.declared.claim.Report.{Report}
use Rattle.el_audit.specs.declared.claim.Report.TheVariants.{Same, Differs}
use Rattle.el_audit.specs.Claims.{claim_of, IsRight}

-- The lists are the same before the place, and not at it, where one of them may have ended.
pub record DifferAt {X : Type 0} (wanted claimed : List X) (at : ℕ) : Type 0 where
  pub before : take at wanted ≡ take at claimed
  pub here : slice_get wanted at ≢ slice_get claimed at

-- The claim differs from the wanted one in that kind, at that place, and in no kind before it. Histories come
-- first, then coins, then balances. What both have at the place is told.
abbrev pub IsDifference : Claim → Claim → Kind → ℕ → Type 0
IsDifference w c (History wanted claimed) at =
    DifferAt w.history c.history at
    × (wanted ≡ slice_get w.history at) × (claimed ≡ slice_get c.history at)
IsDifference w c (Unspent wanted claimed) at =
    (w.history ≡ c.history) × DifferAt w.unspent c.unspent at
    × (wanted ≡ slice_get w.unspent at) × (claimed ≡ slice_get c.unspent at)
IsDifference w c (Balance wanted claimed) at =
    (w.history ≡ c.history) × (w.unspent ≡ c.unspent) × (w.balance ≢ c.balance)
    × (wanted ≡ w.balance) × (claimed ≡ c.balance) × (at ≡ 0)

-- of these claims the first that isn't what the chain gives is that of the script hash, and differs so
abbrev pub IsFirstDifference : Chain → List Claim → Hash32 → Kind → ℕ → Type 0
IsFirstDifference chain [] s kind at = ⊥
IsFirstDifference chain (c ∷ cs) s kind at =
    ((s ≡ c.script) × IsDifference (claim_of chain c.script) c kind at)
    ⊎ (IsRight chain c × IsFirstDifference chain cs s kind at)

-- the report on these claims over the chain
abbrev pub IsReport : Chain → List Claim → Report → Type 0
IsReport chain claims (Same scripts) = AllByRecursion (IsRight chain) claims × (scripts ≡ length claims)
IsReport chain claims (Differs s kind at) = IsFirstDifference chain claims s kind at

-- What calls of a ledger leave as it was, and what a crash since then may leave.
use Rattle.std.specs.Prelude.{◌≡◌, ◌⊎◌, ℕ, Option}
use Rattle.el_base.specs.declared.hash.Hash32.{Hash32}
use Rattle.el_outside.specs.Moments.{LeftNow}
use Rattle.el_chain.specs.Chains.{Chain}

-- Whether the ledger is live, its height, its tip, its number of buckets and the chains that it stands for
-- are as they were.
pub record Stays {S : Type 0} (is_live : S → Type 0) (height : S → Option ℕ)
    (tip : S → Option Hash32) (buckets : S → ℕ)
    (stands : S → Chain → Type 0) (old new : S) : Type 0 where
  pub still_live : is_live old → is_live new
  pub was_live : is_live new → is_live old
  pub same_height : height new ≡ height old
  pub same_tip : tip new ≡ tip old
  pub same_buckets : buckets new ≡ buckets old
  pub still_stands : (chain : Chain) → stands old chain → stands new chain
  pub stood : (chain : Chain) → stands new chain → stands old chain

-- A call has left the ledger as it was, whatever it stands for, and what is below it is kept, as `keeps`
-- says.
pub record Quiet {S : Type 0} (is_live : S → Type 0) (height : S → Option ℕ)
    (tip : S → Option Hash32) (buckets : S → ℕ)
    (stands : S → Chain → Type 0) (keeps : S → S → Type 0) (old new : S) : Type 0 where
  pub stays : Stays is_live height tip buckets stands old new
  pub below : keeps old new

-- what a crash left stands for the one chain or for the other
abbrev pub Either : {C : Type 0} → (C → Chain → Type 0) → Chain → Chain → C → Type 0
Either means a b c = means c a ⊎ means c b

-- whatever a crash now may leave of the ledger stands for the one chain or for the other
abbrev pub LeavesEither : {S C : Type 0} → Type 0 → (C → Chain → Type 0) → (S → ℕ) → (S → ℕ → C → Type 0) → S
    → Chain → Chain → Type 0
LeavesEither {S} {C} tells_crash means moment left_since s acked flight =
    tells_crash → (c : C) → LeftNow moment left_since s c → Either means acked flight c

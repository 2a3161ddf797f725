-- What a call asks of a ledger and leaves of it, over all that the ledger's type tells.
use Rattle.std.specs.Prelude.{◌≡◌, ℕ}
use Rattle.el_outside.specs.declared.archive.Archive as archive
use Rattle.el_outside.specs.Devices.{Faults, faults}
use Rattle.el_outside.specs.Moments.{KeepsBelow, LeavesOnly}
use Rattle.el_chain.specs.Chains.{Chain}
use Rattle.el_model.specs.Keeping.{Quiet, Either}
use Rattle.el_model.specs.declared.ledger.Ledger as ledger

-- The ledger was asked alone: it is as it was, the files beside its own are as they were, and a crash leaves
-- no more than one before the call.
abbrev pub Asked : {G : Type 0} → ledger.Ghosts G → G → G → Type 0
Asked of_ledger old new =
    Quiet of_ledger.is_live of_ledger.height of_ledger.tip of_ledger.buckets of_ledger.stands
    (KeepsBelow of_ledger.tells_crash of_ledger.moment of_ledger.left_since of_ledger.beside) old new

-- the files beside the ledger's own are as they were, where that is told
abbrev pub KeepsBeside : {G : Type 0} → ledger.Ghosts G → G → G → Type 0
KeepsBeside of_ledger old new = of_ledger.tells_crash → of_ledger.beside new ≡ of_ledger.beside old

-- whatever a crash since the call's start leaves stands for the one chain or for the other
abbrev pub CrashLeaves : {G : Type 0} → ledger.Ghosts G → G → G → Chain → Chain → Type 0
CrashLeaves of_ledger old new chain next =
    of_ledger.tells_crash
    → LeavesOnly of_ledger.moment of_ledger.left_since old new (Either of_ledger.means chain next)

-- The ledger stands for `next`, and whatever a crash since the call's start leaves stands for the chain that
-- it stood for or for that one.
pub record Moved {G : Type 0} (of_ledger : ledger.Ghosts G) (old new : G) (chain next : Chain) : Type 0 where
  pub stood : of_ledger.stands new next
  pub crash : CrashLeaves of_ledger old new chain next

-- how often calls of the devices have failed, where calls of the link failed so often
abbrev pub failed_calls : {G A : Type 0} → ledger.Ghosts G → archive.Ghosts A → ℕ → G → A → Faults
failed_calls of_ledger of_files of_link l files = faults of_link (of_files.faults files) (of_ledger.faults l)

-- What the server asks below it: a ledger and block files, of which only the types are known.
use Rattle.std.specs.Prelude.{ℕ, List}
use Rattle.el_outside.specs.declared.archive.Archive as archive
use Rattle.el_model.specs.declared.ledger.Ledger as ledger
use Rattle.el_side.specs.Deeds.{Deed, Faults, faults, Rose}

-- what both types tell of them
pub record Ghosts (G A : Type 0) : Type 1 where
  pub ledger : ledger.Ghosts G
  pub files : archive.Ghosts A

-- what the types of the ledger and of the block files tell, as one
abbrev pub ghosts : {G A : Type 0} → ledger.Ghosts G → archive.Ghosts A → Ghosts G A
ghosts of_ledger of_files = record { ledger = of_ledger; files = of_files }

-- the ledger and the block files, at some moment
pub record Beneath (G A : Type 0) : Type 0 where
  pub ledger : G
  pub files : A

-- these two, as they are at some moment
abbrev pub beneath : {G A : Type 0} → G → A → Beneath G A
beneath ledger files = record { ledger = ledger; files = files }

-- how often calls of the devices have failed, where calls of the link and of the relay failed so often
abbrev pub failed_beneath : {G A : Type 0} → Ghosts G A → ℕ → ℕ → Beneath G A → Faults
failed_beneath of of_link of_relay now =
    faults of_link (of.files.faults now.files) (of.ledger.faults now.ledger) of_relay

-- The counts of failed calls rose by these deeds meanwhile, and neither the link nor the relay was called.
abbrev pub Lost : {G A : Type 0} → Ghosts G A → Beneath G A → Beneath G A → List Deed → Type 0
Lost of was now deeds =
    (of_link of_relay : ℕ)
    → Rose (failed_beneath of of_link of_relay was) (failed_beneath of of_link of_relay now) deeds

-- What is asked for a client's line, and what became of that.
use Rattle.std.specs.Prelude.{ℕ, List, ◌++◌}
use Rattle.el_outside.specs.declared.relay.Relay as relays
use Rattle.el_relay.specs.Desk.{DeskState}
use Rattle.el_side.specs.Beneath.{Beneath, Ghosts, beneath, failed_beneath}
use Rattle.el_side.specs.Deeds.{Deed, Faults, Rose, Offered}

-- what the types of the ledger, of the block files and of the relay tell of them
pub record AskedGhosts (G A Y : Type 0) : Type 1 where
  pub beneath : Ghosts G A
  pub relay : relays.Ghosts Y

-- what is told of the two, and of the relay, as one
abbrev pub asked_ghosts : {G A Y : Type 0} → Ghosts G A → relays.Ghosts Y → AskedGhosts G A Y
asked_ghosts of of_relay = record { beneath = of; relay = of_relay }

-- the ledger and the block files, the relay, and what the desk of broadcasts keeps, at some moment
pub record Asking (G A Y : Type 0) : Type 0 where
  pub beneath : Beneath G A
  pub relay : Y
  pub desk : DeskState

-- these, as they are at some moment
abbrev pub asking : {G A Y : Type 0} → G → A → Y → DeskState → Asking G A Y
asking ledger files relay desk = record { beneath = beneath ledger files; relay = relay; desk = desk }

-- how often calls of the devices have failed, where calls of the link failed so often
abbrev pub failed_asking : {G A Y : Type 0} → AskedGhosts G A Y → ℕ → Asking G A Y → Faults
failed_asking of of_link now = failed_beneath of.beneath of_link (of.relay.faults now.relay) now.beneath

-- The counts of failed calls rose by these deeds meanwhile, the relay was offered what they say, and the link
-- wasn't called.
pub record Did {G A Y : Type 0} (of : AskedGhosts G A Y) (was now : Asking G A Y) (deeds : List Deed)
    : Type 0 where
  pub rose : (of_link : ℕ) → Rose (failed_asking of of_link was) (failed_asking of of_link now) deeds
  pub offered : Offered of.relay was.relay now.relay deeds

-- what requests did so far, and what the desk keeps then
pub record Spent : Type 0 where
  pub deeds : List Deed
  pub desk : DeskState

-- these deeds, and then that desk
abbrev pub spent : List Deed → DeskState → Spent
spent deeds desk = record { deeds = deeds; desk = desk }

-- Something was done, and these were its deeds, whatever the deeds before it.
pub record Loses {G A Y : Type 0} (of : AskedGhosts G A Y) (was now : Asking G A Y)
    (does : Spent → Spent → Type 0) : Type 0 where
  pub deeds : List Deed
  pub done : (past : List Deed) → does (spent past was.desk) (spent (past ++ deeds) now.desk)
  pub did : Did of was now deeds

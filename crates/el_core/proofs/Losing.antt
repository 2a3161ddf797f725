-- What a turn shows of the devices.
use Rattle.std.proofs.Common.{◌≡◌, List, [], ◌++◌, sym, ap, ◌∙◌, refl, append-nil}
use Rattle.el_outside.specs.Counts.{RoseBy}
use Rattle.el_outside.specs.Relays.{Offer}
use Rattle.el_relay.specs.Desk.{DeskState}
use Rattle.el_replies.specs.Spending.{AskedGhosts, Asking, asking, Did}
use Rattle.el_replies.proofs.Losing.{did_none}
use Rattle.el_side.specs.Deeds as device
use Rattle.el_side.specs.Deeds.{Deed, failures, offers, answered}
use Rattle.el_side.proofs.Deeds.{all_rose_none, rose_of}
use Rattle.el_side.specs.Beneath.{Beneath, Ghosts, Lost, beneath, failed_beneath}
use Rattle.el_core.specs.within.Clients.{IsIdly, passing}

module _ {G A Y : Type 0} (of : AskedGhosts G A Y) where
  -- nothing was asked
  pub idly : (old new : G) (files : A) (y : Y) (desk now : DeskState) → new ≡ old → now ≡ desk
      → IsIdly (passing of (asking old files y desk) (asking new files y now))
  idly old new files y desk now same same_desk =
      rw (same, same_desk) (record { desk = refl; did = did_none of (asking old files y desk) })

  -- the relay was not asked
  pub did_of : (was now : Beneath G A) (y : Y) (desk later : DeskState) (losses : List Deed) → offers losses ≡ [] → Lost of.beneath was now losses
      → Did of (record { beneath = was; relay = y; desk = desk }) (record { beneath = now; relay = y; desk = later }) losses
  did_of was now y desk later losses none lost = record {
    rose = λ of_link. lost of_link (of.relay.faults y);
    offered = λ tells.
        let start = answered (of.relay.offers y) in
        sym (ap (λ (o : List Offer). start ++ o) none ∙ append-nil start);
  }

module _ {G A : Type 0} (of : Ghosts G A) where
  pub lost_of : (old new : G) (before after : A) (losses : List Deed) → failures device.link losses ≡ 0 → failures device.relay losses ≡ 0
      → RoseBy (of.files.faults before) (of.files.faults after) (failures device.archive losses) → RoseBy (of.ledger.faults old) (of.ledger.faults new) (failures device.disk losses)
      → Lost of (beneath old before) (beneath new after) losses
  lost_of old new before after losses no_link no_relay of_files of_disk = λ of_link of_relay. rose_of of_link of_relay (of.files.faults before) (of.files.faults after) (of.ledger.faults old) (of.ledger.faults new) losses no_link no_relay of_files of_disk

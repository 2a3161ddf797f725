-- The devices outside of the program, how often calls of them failed, and what is told of their calls.
use Rattle.std.specs.Prelude.{◌≡◌, ℕ, Bool, true, false, List, [], ◌∷◌, ◌++◌, length, filter, Result, Ok, Err, ⊤}
use Rattle.std.specs.List.{AllByRecursion}
use Rattle.el_outside.specs.Counts.{RoseBy}
use Rattle.el_outside.specs.Relays.{Offer}
use Rattle.el_outside.specs.declared.relay.Relay as relays
use Rattle.el_outside.specs.declared.relay.RelayFailed.{RelayFailed}
use Rattle.el_outside.specs.declared.relay.Verdict.{Verdict}

-- the link to clients and to the node, the node's block files, the disk of the index, and the relay of
-- transactions
pub data Device : Type 0 where
  link : Device
  archive : Device
  disk : Device
  relay : Device

-- whether the two are one device
abbrev pub same_device : Device → Device → Bool
same_device link link = true
same_device archive archive = true
same_device disk disk = true
same_device relay relay = true
same_device device other = false

-- What became of a call of a device, where it is told: it failed; or the relay was offered a transaction by
-- these bytes, and said whether it takes it.
pub data Deed : Type 0 where
  lost : Device → Deed
  offered : List ℕ → Verdict → Deed

-- a call of this device failed
abbrev pub is_lost : Device → Deed → Bool
is_lost device (lost other) = same_device device other
is_lost device (offered bytes verdict) = false

-- how many of these are failed calls of this device
abbrev pub failures : Device → List Deed → ℕ
failures device deeds = length (filter (is_lost device) deeds)

-- the deed is an offer to the relay that it answered, and no failed call
abbrev pub IsOffer : Deed → Type 0
IsOffer (lost device) = ⊥
IsOffer (offered bytes verdict) = ⊤

-- none of these is a failed call
abbrev pub NoneLost : List Deed → Type 0
NoneLost deeds = AllByRecursion IsOffer deeds

-- how often calls of each device have failed
abbrev pub Faults : Type 0
Faults = Device → ℕ

-- the counts of the link, of the block files, of the disk and of the relay, as one
abbrev pub faults : ℕ → ℕ → ℕ → ℕ → Faults
faults of_link of_archive of_disk of_relay link = of_link
faults of_link of_archive of_disk of_relay archive = of_archive
faults of_link of_archive of_disk of_relay disk = of_disk
faults of_link of_archive of_disk of_relay relay = of_relay

-- calls failed as often as these deeds say, between the one moment and the other
abbrev pub Rose : Faults → Faults → List Deed → Type 0
Rose before after deeds = (device : Device) → RoseBy (before device) (after device) (failures device deeds)

-- the offers among these, in their order
abbrev pub offers : List Deed → List Offer
offers [] = []
offers (lost device ∷ deeds) = offers deeds
offers (offered bytes verdict ∷ deeds) = record { bytes = bytes; answer = Ok verdict } ∷ offers deeds

-- the relay answered the offer
abbrev pub is_answered : Result Verdict RelayFailed → Bool
is_answered (Ok verdict) = true
is_answered (Err failed) = false

-- calls of a relay that didn't fail
abbrev pub answered : List Offer → List Offer
answered calls = filter (λ (call : Offer). is_answered call.answer) calls

-- A relay that tells was offered what these deeds say, and no more, between the one moment and the other.
abbrev pub Offered : {Y : Type 0} → relays.Ghosts Y → Y → Y → List Deed → Type 0
Offered of_relay before after deeds = of_relay.tells
    → answered (of_relay.offers after) ≡ answered (of_relay.offers before) ++ offers deeds

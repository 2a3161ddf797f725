-- What a broadcast is answered (Electrum Protocol 1.4, `blockchain.transaction.broadcast`), and what the
-- relay did in it.
use Rattle.std.specs.Prelude.{◌≡◌, ◌⊎◌, ℕ, List, [], ◌∷◌, Option, Some, None, option_map, Result, Ok, Err, IsOk}
use Rattle.serde_json.specs.Data.{Data}
use Rattle.el_base.specs.declared.hash.Hash32.{Hash32}
use Rattle.el_outside.specs.Counts.{RoseBy}
use Rattle.el_outside.specs.declared.relay.Relay as relays
use Rattle.el_outside.specs.declared.relay.RelayFailed.{RelayFailed}
use Rattle.el_outside.specs.declared.relay.Verdict.{Verdict}
use Rattle.el_relay.specs.Desk.{DeskState, HasReason, desk_after, said}
use Rattle.el_relay.specs.declared.fault.OfferFault.{OfferFault}
use Rattle.el_relay.specs.declared.fault.OfferFault.TheVariants as fault
use Rattle.el_side.specs.Deeds as deed
use Rattle.el_side.specs.Deeds.{Deed, relay, failures, Offered}
use Rattle.el_calls.specs.declared.refusal.Refusal.{Refusal}
use Rattle.el_calls.specs.declared.refusal.Refusal.TheVariants as refusal
use Rattle.el_methods.specs.Results.{shown_hash}

-- why a transaction isn't broadcast, as the client is told it; nothing where memory ran out
abbrev pub refusal_by : OfferFault → Option Refusal
refusal_by fault.Off = Some refusal.NoRelay
refusal_by fault.Form = Some refusal.NotTransaction
refusal_by fault.CoinbaseForm = Some refusal.CoinbaseNotRelayed
refusal_by fault.Refused = Some refusal.RefusedByRelay
refusal_by fault.RelayFailed = Some refusal.RelayFailed
refusal_by fault.Memory = None

-- what the client is told of what the desk answered: the txid, or why the transaction isn't broadcast
abbrev pub told_of_desk : Result Hash32 OfferFault → Option (Result Data Refusal)
told_of_desk (Ok id) = Some (Ok (shown_hash id))
told_of_desk (Err e) = option_map (λ (r : Refusal). Err r) (refusal_by e)

-- what the relay did with these bytes where it said that, if it was asked
abbrev pub deeds_by : List ℕ → Option (Result Verdict RelayFailed) → List Deed
deeds_by bytes None = []
deeds_by bytes (Some (Ok verdict)) = deed.offered bytes verdict ∷ []
deeds_by bytes (Some (Err failed)) = deed.lost relay ∷ []

-- The desk answered a broadcast of these bytes so, and was left so, and the relay did that.
pub record IsBroadcast {Y : Type 0} (of_relay : relays.Ghosts Y) (was now : Y) (desk next : DeskState)
    (bytes : List ℕ) (by : Result Hash32 OfferFault) : Type 0 where
  pub reason : HasReason desk bytes by
  pub next_is : next ≡ desk_after desk by
  pub rose : RoseBy (of_relay.faults was) (of_relay.faults now)
      (failures relay (deeds_by bytes (said desk by)))
  pub offered : Offered of_relay was now (deeds_by bytes (said desk by))

-- The client is told so of what the desk answered, or no memory was found for that.
abbrev pub TellsOf : {E : Type 0} → Result Hash32 OfferFault → Result (Result Data Refusal) E → Type 0
TellsOf by (Ok told) = told_of_desk by ≡ Some told
TellsOf by (Err e) = (told_of_desk by ≡ None) ⊎ IsOk by

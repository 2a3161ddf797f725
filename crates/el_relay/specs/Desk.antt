-- The desk of broadcasts, by which the transactions of wallets go to the relay.
use Rattle.std.specs.Prelude.{◌≡◌, ◌≢◌, ℕ, ◌-◌, Bool, true, false, if◌then◌else◌, List, [], ◌∷◌, ◌++◌, length, drop, Option, Some, None, MatchOption, Result, Ok, Err}
use Rattle.std.specs.List.{list_any}
use Rattle.el_base.specs.declared.hash.Hash32.{Hash32}
use Rattle.el_outside.specs.declared.relay.Verdict.{Verdict}
use Rattle.el_outside.specs.declared.relay.Verdict.TheVariants as verdict
use Rattle.el_outside.specs.declared.relay.RelayFailed.{RelayFailed}
use Rattle.el_outside.specs.Relays.{Offer, GoesOnBy}
use Rattle.el_tx.specs.declared.types.Tx.{Tx}
use Rattle.el_tx.specs.Encoding.{Encodes}
use Rattle.el_tx.specs.Hashing.{txid}
use Rattle.el_chain.specs.Headers.{same_hash}
use Rattle.el_mempool.specs.Refusals.{has_coinbase_form}
use Rattle.el_relay.specs.declared.desk.TheConstants.{MOST_TXIDS}
use Rattle.el_relay.specs.declared.fault.OfferFault.{OfferFault}
use Rattle.el_relay.specs.declared.fault.OfferFault.TheVariants as fault

-- What a desk keeps: whether it is on, and the txids of the last transactions that the relay took, the oldest
-- first.
pub record DeskState : Type 0 where
  pub on : Bool
  pub txids : List Hash32

-- a desk that is on, or off, at its start
abbrev pub empty_desk : Bool → DeskState
empty_desk on = record { on = on; txids = [] }

-- the txid is one of those that the desk keeps
abbrev pub has_txid : DeskState → Hash32 → Bool
has_txid desk id = list_any (same_hash id) desk.txids

-- the last n of these
abbrev pub last_of : {A : Type 0} → ℕ → List A → List A
last_of n xs = drop (length xs - n) xs

-- these txids and one more: of all the last ones, as many as a desk keeps
abbrev pub with_txid : List Hash32 → Hash32 → List Hash32
with_txid txids id = last_of MOST_TXIDS (txids ++ id ∷ [])

-- The bytes are one whole transaction, of which no input is a coinbase's.
pub record IsSendable (bytes : List ℕ) (t : Tx) : Type 0 where
  pub encoded : Encodes bytes t
  pub form : has_coinbase_form t ≡ false

-- The bytes are a transaction that a desk which is on doesn't keep: the relay is asked.
pub record IsToOffer (desk : DeskState) (bytes : List ℕ) : Type 0 where
  pub on : desk.on ≡ true
  pub tx : Tx
  pub sendable : IsSendable bytes tx
  pub new : has_txid desk (txid tx) ≡ false

-- Why a broadcast of these bytes is answered so. The first two are the desk's own: it is off, or it is on and
-- out of memory.
abbrev pub HasReason : DeskState → List ℕ → Result Hash32 OfferFault → Type 0
HasReason desk bytes (Err fault.Off) = desk.on ≡ false
HasReason desk bytes (Err fault.Memory) = desk.on ≡ true
HasReason desk bytes (Err fault.Form) = (desk.on ≡ true) × ((t : Tx) → Encodes bytes t → ⊥)
HasReason desk bytes (Err fault.CoinbaseForm) =
    (desk.on ≡ true) × ((t : Tx) × Encodes bytes t × (has_coinbase_form t ≡ true))
HasReason desk bytes (Err fault.Refused) = IsToOffer desk bytes
HasReason desk bytes (Err fault.RelayFailed) = IsToOffer desk bytes
HasReason desk bytes (Ok id) = (desk.on ≡ true) × ((t : Tx) × IsSendable bytes t × (id ≡ txid t))

-- what the relay said in a broadcast that was answered so; none where it wasn't asked
abbrev pub said : DeskState → Result Hash32 OfferFault → Option (Result Verdict RelayFailed)
said desk (Ok id) = if has_txid desk id then None else Some (Ok verdict.Taken)
said desk (Err fault.Refused) = Some (Ok verdict.Refused)
said desk (Err fault.RelayFailed) = Some (Err (record {}))
said desk (Err other) = None

-- What a broadcast of these bytes that was answered so makes of the list of the relay's calls: it has one
-- more where the relay was asked, but for one that failed, which may be missing.
abbrev pub AddsOffer : DeskState → List ℕ → Result Hash32 OfferFault → List Offer → List Offer → Type 0
AddsOffer desk bytes answer before after =
    MatchOption (said desk answer) (after ≡ before) (λ by. GoesOnBy before after bytes by)

-- the desk after a broadcast that was answered so: a txid that the relay took is its newest
abbrev pub desk_after : DeskState → Result Hash32 OfferFault → DeskState
desk_after desk (Ok id) =
    if has_txid desk id then desk else record desk { txids = with_txid desk.txids id }
desk_after desk (Err e) = desk

-- An answer shows each cause that stands: a desk that is off, bytes that are no transaction, or one of a
-- coinbase's form, or one that the desk keeps; and else that the relay was asked.
pub record ShowsCauses (desk : DeskState) (bytes : List ℕ) (answer : Result Hash32 OfferFault) : Type 0 where
  pub off : desk.on ≡ false → answer ≡ Err fault.Off
  pub form : desk.on ≡ true → ((t : Tx) → Encodes bytes t → ⊥) → answer ≡ Err fault.Form
  pub coinbase : desk.on ≡ true → (t : Tx) → Encodes bytes t → has_coinbase_form t ≡ true
      → answer ≡ Err fault.CoinbaseForm
  pub known : desk.on ≡ true → (t : Tx) → IsSendable bytes t → has_txid desk (txid t) ≡ true
      → answer ≡ Ok (txid t)
  pub asked : IsToOffer desk bytes → said desk answer ≢ None

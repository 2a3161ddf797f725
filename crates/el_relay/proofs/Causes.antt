-- Each cause of an answer to a broadcast shows, by the answers.
use Rattle.std.proofs.Common.{◌≡◌, ◌≢◌, ℕ, Bool, true, false, List, [], Some, None, Result, Ok, Err, if◌then◌else◌, refl, sym, ap, ◌∙◌, true≢false}
use Rattle.el_base.specs.declared.hash.Hash32.{Hash32}
use Rattle.el_tx.specs.declared.types.Tx.{Tx}
use Rattle.el_tx.specs.Encoding.{Encodes}
use Rattle.el_tx.specs.Hashing.{txid}
use Rattle.el_tx.proofs.Decoded.{one_reading}
use Rattle.el_mempool.specs.Refusals.{has_coinbase_form}
use Rattle.el_relay.specs.declared.fault.OfferFault.{OfferFault}
use Rattle.el_relay.specs.declared.fault.OfferFault.TheVariants as fault
use Rattle.el_relay.specs.Desk.{DeskState, has_txid, IsSendable, IsToOffer, HasReason, said, ShowsCauses}

-- not both
clash : {A : Type 0} (b : Bool) → b ≡ true → b ≡ false → A
clash b is other = absurd (true≢false (sym is ∙ other))

-- the bytes encode one transaction
same_tx : (bytes : List ℕ) (t u : Tx) → Encodes bytes t → Encodes bytes u → t ≡ u
same_tx bytes t u one two = (one_reading bytes bytes [] [] t u one two refl).1

-- what is asked is no coinbase's
not_coinbase : (bytes : List ℕ) (t u : Tx) → Encodes bytes t → has_coinbase_form t ≡ true → IsSendable bytes u → {A : Type 0} → A
not_coinbase bytes t u encoded is sendable {A} =
    clash (has_coinbase_form u) (sym (ap has_coinbase_form (same_tx bytes t u encoded sendable.encoded)) ∙ is) sendable.form

-- what is asked isn't kept
not_kept : (desk : DeskState) (bytes : List ℕ) (t : Tx) → IsToOffer desk bytes → Encodes bytes t → has_txid desk (txid t) ≡ false
not_kept desk bytes t asked encoded =
    ap (λ (u : Tx). has_txid desk (txid u)) (same_tx bytes t asked.tx encoded asked.sendable.encoded) ∙ asked.new

some_said : {X : Type 0} (b : Bool) (x : X) → b ≡ false → (if b then None else Some x) ≢ None
some_said true x other is = absurd (true≢false other)
some_said false x other is = cc

-- the relay was asked
of_asked : (desk : DeskState) (bytes : List ℕ) (answer : Result Hash32 OfferFault) → IsToOffer desk bytes → said desk answer ≢ None
    → ShowsCauses desk bytes answer
of_asked desk bytes answer asked some = record {
  off = λ off. clash desk.on asked.on off;
  form = λ on none. absurd (none asked.tx asked.sendable.encoded);
  coinbase = λ on t encoded is. not_coinbase bytes t asked.tx encoded is asked.sendable;
  known = λ on t sendable has. clash (has_txid desk (txid t)) has (not_kept desk bytes t asked sendable.encoded);
  asked = λ _. some;
}

pub shows : (desk : DeskState) (bytes : List ℕ) (answer : Result Hash32 OfferFault) → HasReason desk bytes answer → answer ≢ Err fault.Memory
    → ShowsCauses desk bytes answer
shows desk bytes (Err fault.Off) reason other = record {
  off = λ _. refl;
  form = λ on none. clash desk.on on reason;
  coinbase = λ on t encoded is. clash desk.on on reason;
  known = λ on t sendable has. clash desk.on on reason;
  asked = λ asked. clash desk.on asked.on reason;
}
shows desk bytes (Err fault.Form) reason other = record {
  off = λ off. clash desk.on reason.0 off;
  form = λ on none. refl;
  coinbase = λ on t encoded is. absurd (reason.1 t encoded);
  known = λ on t sendable has. absurd (reason.1 t sendable.encoded);
  asked = λ asked. absurd (reason.1 asked.tx asked.sendable.encoded);
}
shows desk bytes (Err fault.CoinbaseForm) reason other =
    let t : Tx = reason.1.0 in record {
      off = λ off. clash desk.on reason.0 off;
      form = λ on none. absurd (none t reason.1.1);
      coinbase = λ on u encoded is. refl;
      known = λ on u sendable has. not_coinbase bytes t u reason.1.1 reason.1.2 sendable;
      asked = λ asked. not_coinbase bytes t asked.tx reason.1.1 reason.1.2 asked.sendable;
    }
shows desk bytes (Err fault.Refused) reason other = of_asked desk bytes (Err fault.Refused) reason (λ is. cc)
shows desk bytes (Err fault.RelayFailed) reason other = of_asked desk bytes (Err fault.RelayFailed) reason (λ is. cc)
shows desk bytes (Err fault.Memory) reason other = absurd (other refl)
shows desk bytes (Ok id) reason other =
    let t : Tx = reason.1.0 in record {
      off = λ off. clash desk.on reason.0 off;
      form = λ on none. absurd (none t reason.1.1.encoded);
      coinbase = λ on u encoded is. not_coinbase bytes u t encoded is reason.1.1;
      known = λ on u sendable has. ap Ok (reason.1.2 ∙ ap txid (same_tx bytes t u reason.1.1.encoded sendable.encoded));
      asked = λ asked. some_said (has_txid desk id) _
          (ap (has_txid desk) reason.1.2 ∙ not_kept desk bytes t asked reason.1.1.encoded);
    }

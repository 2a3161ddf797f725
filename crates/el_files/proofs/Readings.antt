-- What is read by a place.
use Rattle.std.proofs.Common.{◌≡◌, ℕ, List, length, ap, Result, Ok}
use Rattle.std.specs.Prelude.{Option, None, Some}
use Rattle.el_base.specs.declared.hash.Hash32.{Hash32}
use Rattle.el_tx.specs.declared.types.Tx.{Tx}
use Rattle.el_tx.specs.declared.fault.TxFault.{TxFault}
use Rattle.el_files.specs.Reading.{IsTxOf, IsOtherTx}

-- a transaction that was read is the one that is encoded
pub same_tx : (read : Tx) (size : ℕ) (other : Tx) (long : ℕ) → ◌≡◌ {A = Result (Tx × ℕ) TxFault} (Ok (read, size)) (Ok (other, long)) → (read ≡ other) × (size ≡ long)
same_tx read size other long e =
    let pair : ◌≡◌ {A = Tx × ℕ} (read, size) (other, long) = cc in
    (ap (λ (p : Tx × ℕ). p.0) pair, ap (λ (p : Tx × ℕ). p.1) pair)

-- too many or too few bytes are no transaction of that length
pub other_length : (len : ℕ) (id : Hash32) (bytes : List ℕ) → (length bytes ≡ len → ⊥) → IsOtherTx len id bytes None
other_length len id bytes differs = record { other = λ t. differs t.size; txid_found = λ other t. differs t.size }

-- another txid was found
pub other_tx : (id wanted : Hash32) (bytes : List ℕ) → IsTxOf (length bytes) id bytes → (id ≡ wanted → ⊥)
    → ((other : Hash32) → IsTxOf (length bytes) other bytes → ◌≡◌ {A = Option Hash32} (Some id) (Some other)) → IsOtherTx (length bytes) wanted bytes (Some id)
other_tx id wanted bytes here differs only = record { other = λ t. differs (let e = only wanted t in cc); txid_found = here }

-- none was found
pub no_tx : (wanted : Hash32) (bytes : List ℕ) (found : Option Hash32) → found ≡ None
    → ((other : Hash32) → IsTxOf (length bytes) other bytes → found ≡ Some other) → IsOtherTx (length bytes) wanted bytes found
no_tx wanted bytes None e only = record { other = λ t. absurd (let k = only wanted t in cc); txid_found = λ id t. absurd (let k = only id t in cc) }
no_tx wanted bytes (Some id) e only = absurd (cc)

-- the length is as it was wanted
pub of_length : (len : ℕ) (wanted : Hash32) (bytes : List ℕ) (found : Option Hash32) → length bytes ≡ len → IsOtherTx (length bytes) wanted bytes found
    → IsOtherTx len wanted bytes found
of_length len wanted bytes found long other = rw (← long) other

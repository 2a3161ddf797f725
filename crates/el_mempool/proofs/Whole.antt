-- Bytes of which a transaction is read, or none is.
use Rattle.std.proofs.Common.{◌≡◌, ◌≢◌, ◌⊎◌, ◌==◌, inl, inr, ℕ, Bool, true, false, if◌then◌else◌, List, [], ◌++◌, length, Result, Ok, Err, IfErr, refl, sym, ap, subst, append-nil}
use Rattle.std.proofs.lemmas.Bool.{eqb-false}
use Rattle.el_tx.specs.Encoding.{Encodes}
use Rattle.el_tx.specs.declared.fault.TxFault.{TxFault}
use Rattle.el_tx.specs.declared.fault.TxFault.TheVariants as fault
use Rattle.el_tx.specs.declared.types.Tx.{Tx}
use Rattle.el_mempool.specs.declared.fault.PoolFault.{PoolFault}
use Rattle.el_mempool.specs.declared.fault.PoolFault.TheVariants as refusal

-- what is encoded in front is read
abbrev pub ReadsOnly : Result (Tx × ℕ) TxFault → List ℕ → Type 0
ReadsOnly r bytes = r ≢ Err fault.Memory → (front rest : List ℕ) (t : Tx) → Encodes front t → bytes ≡ front ++ rest → r ≡ Ok (t, length front)

abbrev Read : Type 0
Read = Result (Tx × ℕ) TxFault

one_size : (a b : Tx) (m n : ℕ) (r : Read) → r ≡ Ok (a, m) → r ≡ Ok (b, n) → m ≡ n
one_size a b m n r h k = let pair : ◌≡◌ {A = Tx × ℕ} (a, m) (b, n) = cc in ap (λ (x : Tx × ℕ). x.1) pair

not_both : (r : Read) (a : Tx) (n : ℕ) (e : TxFault) → r ≡ Ok (a, n) → r ≡ Err e → ⊥
not_both r a n e h k = cc

one_fault : (r : Read) (e f : TxFault) → r ≡ Err e → r ≡ Err f → e ≡ f
one_fault r e f h k = cc

pub not_whole : (r : Read) (bytes : List ℕ) (tx : Tx) (size : ℕ) → ReadsOnly r bytes → r ≡ Ok (tx, size) → (size ≡ length bytes → ⊥) → (t : Tx) → Encodes bytes t → ⊥
not_whole r bytes tx size only is differs t enc =
    differs (one_size tx t size (length bytes) r is (only (λ e. not_both r tx size fault.Memory is e) bytes [] t enc (sym (append-nil bytes))))

none_whole : (r : Read) (bytes : List ℕ) (e : TxFault) → ReadsOnly r bytes → r ≡ Err e → e ≢ fault.Memory → (t : Tx) → Encodes bytes t → ⊥
none_whole r bytes e only is other t enc =
    not_both r t (length bytes) e (only (λ h. other (one_fault r e fault.Memory is h)) bytes [] t enc (sym (append-nil bytes))) is

pub refused_whole : (r : Result (Tx × ℕ) TxFault) (bytes : List ℕ) (e : TxFault) (f : PoolFault) → ReadsOnly r bytes → r ≡ Err e
    → (f ≡ refusal.Memory) ⊎ ((f ≡ refusal.Bad) × (e ≢ fault.Memory)) → (f ≡ refusal.Memory) ⊎ ((f ≡ refusal.Bad) × ((t : Tx) → Encodes bytes t → ⊥))
refused_whole r bytes e f only is (inl h) = inl h
refused_whole r bytes e f only is (inr h) = inr (h.0, none_whole r bytes e only is h.1)

-- what was read is refused where it isn't of all the bytes
pub refused_part : (out : Result Tx PoolFault) (r : Read) (bytes : List ℕ) (tx : Tx) (size : ℕ) → ReadsOnly r bytes → r ≡ Ok (tx, size)
    → out ≡ (if size == length bytes then Ok tx else Err refusal.Bad)
    → IfErr out (λ e. (e ≡ refusal.Memory) ⊎ ((e ≡ refusal.Bad) × ((t : Tx) → Encodes bytes t → ⊥)))
refused_part out r bytes tx size only is said = by (size == length bytes) refl said
  where
    Said : Result Tx PoolFault → Type 0
    Said o = IfErr o (λ e. (e ≡ refusal.Memory) ⊎ ((e ≡ refusal.Bad) × ((t : Tx) → Encodes bytes t → ⊥)))

    by : (b : Bool) → (size == length bytes) ≡ b → out ≡ (if b then Ok tx else Err refusal.Bad) → Said out
    by true all said = subst Said (sym said) tt
    by false all said = subst Said (sym said) (inr (refl, not_whole r bytes tx size only is (eqb-false size (length bytes) all)))

-- Why bytes encode no transaction: whole lawful fields stand in front, and what comes next is the named fault
-- at the named place. A place counts from the first byte handed in; each relation speaks of the bytes from a
-- place on.
use Rattle.std.specs.Prelude.{◌≡◌, ◌≢◌, ℕ, ◌+◌, ◌<◌, ◌≤◌, ◌^◌, true, false, List, [], ◌∷◌, ◌++◌, length, ⊤}
use Rattle.std.specs.List.{flat_map, AllByRecursion}
use Rattle.std.specs.Int.{w64, to_le_bytes}
use Rattle.el_base.specs.Compact.{FirstCompactFault, compact}
use Rattle.el_base.specs.declared.compact.CompactFault.{CompactFault}
use Rattle.el_base.specs.declared.compact.CompactFault.TheVariants as number
use Rattle.el_tx.specs.declared.fault.TxFault.{TxFault}
use Rattle.el_tx.specs.declared.fault.TxFault.TheVariants as fault
use Rattle.el_tx.specs.declared.types.TxIn.{TxIn}
use Rattle.el_tx.specs.declared.types.TxOut.{TxOut}
use Rattle.el_tx.specs.declared.types.Tx.{Tx}
use Rattle.el_tx.specs.Encoding.{sized, counted, input_encoding, output_encoding, stack_encoding, body_encoding, has_witness, max_money, total_value, Countable, IsItem, IsInput, IsOutput, IsLawful}

-- These bytes stand in front, and the fault is in what comes next.
pub record After (front : List ℕ) (Next : ℕ → List ℕ → TxFault → Type 0)
    (place : ℕ) (bytes : List ℕ) (f : TxFault) : Type 0 where
  pub more : List ℕ
  pub parts : bytes ≡ front ++ more
  pub next : Next (place + length front) more f

-- Fewer bytes are left than a field of n bytes has.
abbrev pub FaultInField : ℕ → ℕ → List ℕ → TxFault → Type 0
FaultInField n place bytes f = (length bytes < n) × (f ≡ fault.Short place)

-- this is the fault, wherever it is met
abbrev pub FaultHere : TxFault → ℕ → List ℕ → TxFault → Type 0
FaultHere found place bytes f = f ≡ found

-- the fault of a CompactSize
abbrev pub fault_of : CompactFault → TxFault
fault_of (number.Short place) = fault.Short place
fault_of (number.LongSpelling place) = fault.LongSpelling place

-- the first fault is that of a CompactSize that should stand here
abbrev pub FaultInNumber : ℕ → List ℕ → TxFault → Type 0
FaultInNumber place bytes f =
    (found : CompactFault) × FirstCompactFault place bytes found × (f ≡ fault_of found)

-- what stands after its number n, as n bytes or n things
pub data FaultInCounted (Next : ℕ → ℕ → List ℕ → TxFault → Type 0)
    (place : ℕ) (bytes : List ℕ) (f : TxFault) : Type 0 where
  in_number : FaultInNumber place bytes f → FaultInCounted Next place bytes f
  after_number : (n : ℕ) → n < 2 ^ 64 → After (compact n) (Next n) place bytes f
      → FaultInCounted Next place bytes f

-- bytes after their number: a CompactSize, and then as many bytes
abbrev pub FaultInSized : ℕ → List ℕ → TxFault → Type 0
FaultInSized place bytes f = FaultInCounted FaultInField place bytes f

-- one of n things, after some that are lawful
pub record FaultAmong {A : Type 0} (AreThings : List A → Type 0) (encoding : A → List ℕ)
    (Next : List A → ℕ → List ℕ → TxFault → Type 0)
    (n : ℕ) (place : ℕ) (bytes : List ℕ) (f : TxFault) : Type 0 where
  pub before : List A
  pub fewer : length before < n
  pub lawful : AreThings before
  pub next : After (flat_map encoding before) (Next before) place bytes f

-- an input: 32 bytes of txid and 4 of index, the script, the sequence
pub data FaultInInput (place : ℕ) (bytes : List ℕ) (f : TxFault) : Type 0 where
  in_txid : FaultInField 32 place bytes f → FaultInInput place bytes f
  in_index : (txid : List ℕ) → length txid ≡ 32 → After txid (FaultInField 4) place bytes f
      → FaultInInput place bytes f
  in_script : (txid index : List ℕ) → length txid ≡ 32 → length index ≡ 4
      → After (txid ++ index) FaultInSized place bytes f → FaultInInput place bytes f
  in_sequence : (txid index script : List ℕ) → length txid ≡ 32 → length index ≡ 4 → IsItem script
      → After (txid ++ index ++ sized script) (FaultInField 4) place bytes f → FaultInInput place bytes f

-- an output after these: the value, which must keep the sum so far within the money bound before the script
-- is read, and the script
pub data FaultInOutput (before : List TxOut) (place : ℕ) (bytes : List ℕ) (f : TxFault) : Type 0 where
  in_value : FaultInField 8 place bytes f → FaultInOutput before place bytes f
  too_much : (value : ℕ) → value < 2 ^ 64 → max_money < total_value before + value
      → After (to_le_bytes w64 value) (FaultHere (fault.Money (length before))) place bytes f
      → FaultInOutput before place bytes f
  in_script : (value : ℕ) → total_value before + value ≤ max_money
      → After (to_le_bytes w64 value) FaultInSized place bytes f → FaultInOutput before place bytes f

-- outputs within the money bound
abbrev pub AreOutputs : List TxOut → Type 0
AreOutputs outputs = AllByRecursion IsOutput outputs × (total_value outputs ≤ max_money)

-- n inputs, at least one
pub data FaultInInputs (n : ℕ) (place : ℕ) (bytes : List ℕ) (f : TxFault) : Type 0 where
  none : n ≡ 0 → FaultHere fault.NoInputs place bytes f → FaultInInputs n place bytes f
  among : FaultAmong (AllByRecursion IsInput) input_encoding (λ _. FaultInInput) n place bytes f
      → FaultInInputs n place bytes f

-- n outputs, at least one
pub data FaultInOutputs (n : ℕ) (place : ℕ) (bytes : List ℕ) (f : TxFault) : Type 0 where
  none : n ≡ 0 → FaultHere fault.NoOutputs place bytes f → FaultInOutputs n place bytes f
  among : FaultAmong AreOutputs output_encoding FaultInOutput n place bytes f
      → FaultInOutputs n place bytes f

-- the inputs and the outputs
pub data FaultInBody (place : ℕ) (bytes : List ℕ) (f : TxFault) : Type 0 where
  in_inputs : FaultInCounted FaultInInputs place bytes f → FaultInBody place bytes f
  in_outputs : (inputs : List TxIn) → 1 ≤ length inputs → Countable inputs → AllByRecursion IsInput inputs
      → After (counted input_encoding inputs) (FaultInCounted FaultInOutputs) place bytes f
      → FaultInBody place bytes f

-- the witness of one input: n items
abbrev pub FaultInStack : ℕ → List ℕ → TxFault → Type 0
FaultInStack place bytes f =
    FaultInCounted (FaultAmong (AllByRecursion IsItem) sized (λ _. FaultInSized)) place bytes f

-- the witness of one input: items, as many as a CompactSize can count
abbrev pub IsStack : List (List ℕ) → Type 0
IsStack stack = Countable stack × AllByRecursion IsItem stack

-- the witnesses of n inputs
abbrev pub FaultInStacks : ℕ → ℕ → List ℕ → TxFault → Type 0
FaultInStacks n place bytes f =
    FaultAmong (AllByRecursion IsStack) (counted sized) (λ _. FaultInStack) n place bytes f

-- after the version, in the form without witnesses
pub data FaultInStrippedForm (place : ℕ) (bytes : List ℕ) (f : TxFault) : Type 0 where
  in_body : FaultInBody place bytes f → FaultInStrippedForm place bytes f
  in_lock : (t : Tx) → IsLawful t → After (body_encoding t) (FaultInField 4) place bytes f
      → FaultInStrippedForm place bytes f

-- after marker and flag: one stack per input stands between body and lock time, and not all are empty
pub data FaultInWitnessForm (place : ℕ) (bytes : List ℕ) (f : TxFault) : Type 0 where
  in_body : FaultInBody place bytes f → FaultInWitnessForm place bytes f
  in_stacks : (t : Tx) → IsLawful t → After (body_encoding t) (FaultInStacks (length t.inputs)) place bytes f
      → FaultInWitnessForm place bytes f
  no_witness : (t : Tx) → IsLawful t → has_witness t ≡ false
      → After (body_encoding t ++ flat_map stack_encoding t.inputs) (FaultHere fault.EmptyWitness) place
      bytes f
      → FaultInWitnessForm place bytes f
  in_lock : (t : Tx) → IsLawful t → has_witness t ≡ true
      → After (body_encoding t ++ flat_map stack_encoding t.inputs) (FaultInField 4) place bytes f
      → FaultInWitnessForm place bytes f

-- no marker stands here
abbrev pub HasNoMarker : List ℕ → Type 0
HasNoMarker [] = ⊤
HasNoMarker (first ∷ rest) = first ≢ 0

-- the flag, which is 1
abbrev pub FaultInFlag : ℕ → List ℕ → TxFault → Type 0
FaultInFlag place [] f = f ≡ fault.Short place
FaultInFlag place (flag ∷ rest) f = (flag ≢ 1) × (f ≡ fault.BadFlag place)

-- after the version: marker and flag or none, and the form that they say
pub data FaultAfterVersion (place : ℕ) (bytes : List ℕ) (f : TxFault) : Type 0 where
  stripped : HasNoMarker bytes → FaultInStrippedForm place bytes f → FaultAfterVersion place bytes f
  in_flag : After (0 ∷ []) FaultInFlag place bytes f → FaultAfterVersion place bytes f
  witnessed : After (0 ∷ 1 ∷ []) FaultInWitnessForm place bytes f → FaultAfterVersion place bytes f

-- The bytes encode no transaction, and this is their first fault.
pub data FirstFault (bytes : List ℕ) (f : TxFault) : Type 0 where
  in_version : FaultInField 4 0 bytes f → FirstFault bytes f
  after_version : (version : List ℕ) → length version ≡ 4 → After version FaultAfterVersion 0 bytes f
      → FirstFault bytes f

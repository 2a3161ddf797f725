-- Reading a transaction from left to right: the value and what is left, or the first fault that is met.
use Rattle.std.specs.Prelude.{◌≡◌, ◌⊎◌, ℕ, zero, suc, ℤ, ◌+◌, ◌==◌, Bool, true, false, List, [], ◌∷◌, ◌++◌, length, take, nat_lt, if◌then◌else◌, Result, Ok, Err}
use Rattle.std.specs.Str.{bytes_eq}
use Rattle.std.specs.Int.{Width, w32, w64, byte_len, from_le_bytes, cast_signed}
use Rattle.el_base.specs.Left.{Left, after}
use Rattle.el_base.specs.CompactReading.{compact_at}
use Rattle.el_base.specs.declared.compact.CompactFault.{CompactFault}
use Rattle.el_tx.specs.declared.fault.TxFault.{TxFault}
use Rattle.el_tx.specs.declared.fault.TxFault.TheVariants as fault
use Rattle.el_tx.specs.declared.reading.ReadError.{ReadError}
use Rattle.el_tx.specs.declared.reading.ReadError.TheVariants as errors
use Rattle.el_tx.specs.declared.types.Outpoint.{Outpoint}
use Rattle.el_tx.specs.declared.types.TxIn.{TxIn}
use Rattle.el_tx.specs.declared.types.TxOut.{TxOut}
use Rattle.el_tx.specs.declared.types.Tx.{Tx}
use Rattle.el_tx.specs.Encoding.{max_money, total_value, some_witness}
use Rattle.el_tx.specs.FirstFault.{fault_of}

-- reading goes on with what was read, and ends with the first fault; lines after `do` are read by it
infixl 10 ◌>>=◌
abbrev pub ◌>>=◌ : {A B : Type 0} → Result A TxFault → (A → Result B TxFault) → Result B TxFault
(Ok x) >>= f = f x
(Err e) >>= f = Err e

-- The reader failed as reading does: with that fault, unless memory ran out.
abbrev pub Fails : {Y : Type 0} → ReadError → Result Y TxFault → Type 0
Fails errors.Memory read = Unit {0}
Fails (errors.Fault f) read = read ≡ Err f

-- What a reader returned, seen by view, and where it left off, are what reading gives, unless memory ran out.
abbrev pub Gives : {X Y : Type 0} → (X → Y) → Result X ReadError → Left → Result (Y × Left) TxFault → Type 0
Gives view (Ok x) next read = read ≡ Ok (view x, next)
Gives view (Err e) next read = Fails e read

-- the next n bytes
abbrev pub bytes_at : ℕ → Left → Result (List ℕ × Left) TxFault
bytes_at n left =
    if nat_lt (length left.rest) n then Err (fault.Short left.place) else Ok (take n left.rest, after n left)

-- a number of fixed width
abbrev pub number_at : Width → Left → Result (ℕ × Left) TxFault
number_at w left = do
  bytes ← bytes_at (byte_len w) left
  Ok (from_le_bytes w bytes.0, bytes.1)

-- a fault of a CompactSize as one of the transaction
abbrev pub with_fault : {A : Type 0} → Result A CompactFault → Result A TxFault
with_fault (Ok x) = Ok x
with_fault (Err e) = Err (fault_of e)

-- a CompactSize (Bitcoin's variable-length number)
unfoldable pub count_at : Left → Result (ℕ × Left) TxFault
count_at left = with_fault (compact_at left)

-- bytes after their number
unfoldable pub sized_at : Left → Result (List ℕ × Left) TxFault
sized_at left = do
  n ← count_at left
  bytes_at n.0 n.1

-- an outpoint: the txid in inner order, and the index in four bytes
unfoldable pub outpoint_at : Left → Result (Outpoint × Left) TxFault
outpoint_at left = do
  txid ← bytes_at 32 left
  index ← number_at w32 txid.1
  Ok (record { txid = record { 0 = txid.0 }; index = index.0 }, index.1)

-- an input, as yet without its witness
unfoldable pub input_at : Left → Result (TxIn × Left) TxFault
input_at left = do
  from ← outpoint_at left
  script ← sized_at from.1
  sequence ← number_at w32 script.1
  Ok (record { from = from.0; script = script.0; sequence = sequence.0; witness = [] }, sequence.1)

-- n things after those that were read before, on which the reading of the next may depend
unfoldable pub many_at : {A : Type 0} → (List A → Left → Result (A × Left) TxFault) → List A → ℕ → Left
    → Result (List A × Left) TxFault
many_at next before zero left = Ok (before, left)
many_at next before (suc n) left = do
  x ← next before left
  many_at next (before ++ x.0 ∷ []) n x.1

-- so many inputs, as yet without their witnesses
abbrev pub inputs_at : ℕ → Left → Result (List TxIn × Left) TxFault
inputs_at n left = many_at (λ _. input_at) [] n left

-- the value of the output with this index, after outputs of this sum
unfoldable pub value_at : ℕ → ℕ → Left → Result (ℕ × Left) TxFault
value_at index sum left = do
  value ← number_at w64 left
  if nat_lt max_money (sum + value.0) then Err (fault.Money index) else Ok value

-- the output with this index, after outputs of this sum: its value in eight bytes, and its script
unfoldable pub output_at : ℕ → ℕ → Left → Result (TxOut × Left) TxFault
output_at index sum left = do
  value ← value_at index sum left
  script ← sized_at value.1
  Ok (record { value = value.0; script = script.0 }, script.1)

-- the output after these outputs
abbrev pub next_output_at : List TxOut → Left → Result (TxOut × Left) TxFault
next_output_at before left = output_at (length before) (total_value before) left

-- so many outputs
abbrev pub outputs_at : ℕ → Left → Result (List TxOut × Left) TxFault
outputs_at n left = many_at next_output_at [] n left

-- so many items of a witness, each after its size
abbrev pub items_at : ℕ → Left → Result (List (List ℕ) × Left) TxFault
items_at n left = many_at (λ _. sized_at) [] n left

-- the witness of one input
unfoldable pub stack_at : Left → Result (List (List ℕ) × Left) TxFault
stack_at left = do
  n ← count_at left
  items_at n.0 n.1

-- the inputs with their witnesses, after inputs that have theirs
unfoldable pub stacks_at : List TxIn → List TxIn → Left → Result (List TxIn × Left) TxFault
stacks_at before [] left = Ok (before, left)
stacks_at before (i ∷ is) left = do
  stack ← stack_at left
  stacks_at (before ++ record i { witness = stack.0 } ∷ []) is stack.1

-- the inputs with their witnesses, of which one at least is not empty (BIP 144)
unfoldable pub witnesses_at : List TxIn → Left → Result (List TxIn × Left) TxFault
witnesses_at is left = do
  inputs ← stacks_at [] is left
  if some_witness inputs.0 then Ok inputs else Err fault.EmptyWitness

-- the inputs, of which there is one at least
unfoldable pub some_inputs_at : Left → Result (List TxIn × Left) TxFault
some_inputs_at left = do
  n ← count_at left
  if n.0 == 0 then Err fault.NoInputs else inputs_at n.0 n.1

-- the outputs, of which there is one at least
unfoldable pub some_outputs_at : Left → Result (List TxOut × Left) TxFault
some_outputs_at left = do
  n ← count_at left
  if n.0 == 0 then Err fault.NoOutputs else outputs_at n.0 n.1

-- the inputs, as yet without their witnesses, and the outputs
unfoldable pub body_at : Left → Result ((List TxIn × List TxOut) × Left) TxFault
body_at left = do
  inputs ← some_inputs_at left
  outputs ← some_outputs_at inputs.1
  Ok ((inputs.0, outputs.0), outputs.1)

-- the flag, which is 1
unfoldable pub flag_at : Left → Result (Bool × Left) TxFault
flag_at left = do
  flag ← bytes_at 1 left
  if bytes_eq flag.0 (1 ∷ []) then Ok (true, flag.1) else Err (fault.BadFlag left.place)

-- the marker stands in front
abbrev pub is_marked : List ℕ → Bool
is_marked [] = false
is_marked (first ∷ rest) = first == 0

-- marker and flag, where they stand: whether the form is that with witnesses
unfoldable pub form_at : Left → Result (Bool × Left) TxFault
form_at left = if is_marked left.rest then (do
  marker ← bytes_at 1 left
  flag_at marker.1) else Ok (false, left)

-- the version in four bytes, in two's complement
unfoldable pub version_at : Left → Result (ℤ × Left) TxFault
version_at left = do
  version ← number_at w32 left
  Ok (cast_signed w32 version.0, version.1)

-- after the version, in the form without witnesses
unfoldable pub stripped_at : ℤ → Left → Result (Tx × Left) TxFault
stripped_at version left = do
  body ← body_at left
  lock ← number_at w32 body.1
  Ok (record { version = version; inputs = body.0.0; outputs = body.0.1; lock = lock.0 }, lock.1)

-- after marker and flag, in the form with witnesses (BIP 144)
unfoldable pub witnessed_at : ℤ → Left → Result (Tx × Left) TxFault
witnessed_at version left = do
  body ← body_at left
  inputs ← witnesses_at body.0.0 body.1
  lock ← number_at w32 inputs.1
  Ok (record { version = version; inputs = inputs.0; outputs = body.0.1; lock = lock.0 }, lock.1)

-- a transaction in either form (Bitcoin's serialization; BIP 144 for the form with witnesses)
unfoldable pub tx_at : Left → Result (Tx × Left) TxFault
tx_at left = do
  version ← version_at left
  form ← form_at version.1
  if form.0 then witnessed_at version.0 form.1 else stripped_at version.0 form.1

-- the value and the place after it
abbrev pub Answers : {A : Type 0} → Result (A × ℕ) TxFault → Result (A × Left) TxFault → Type 0
Answers (Ok x) read = (left : Left) × (read ≡ Ok (x.0, left)) × (x.1 ≡ left.place)
Answers (Err e) read = (e ≡ fault.Memory) ⊎ (read ≡ Err e)

-- How a transaction is encoded (Bitcoin's serialization; BIP 144 for the form with witnesses). Numbers are
-- little endian.
use Rattle.std.specs.Prelude.{◌≡◌, ℕ, ◌<◌, ◌≤◌, ◌^◌, ◌==◌, Bool, true, false, not, List, ◌∷◌, ◌++◌, length, flat_map, sum_by, pos, negsuc, ◌≤ℤ◌, ◌<ℤ◌}
use Rattle.std.specs.List.{AllByRecursion, list_any}
use Rattle.std.specs.Int.{w32, w64, to_le_bytes, cast_unsigned}
use Rattle.el_base.specs.Compact.{compact}
use Rattle.el_base.specs.Left.{AreBytes}
use Rattle.el_tx.specs.declared.types.Outpoint.{Outpoint}
use Rattle.el_tx.specs.declared.types.TxIn.{TxIn}
use Rattle.el_tx.specs.declared.types.TxOut.{TxOut}
use Rattle.el_tx.specs.declared.types.Tx.{Tx}
use Rattle.el_tx.specs.declared.types.TheConstants.{MAX_MONEY}

-- bytes, after how many there are as a CompactSize
abbrev pub sized : List ℕ → List ℕ
sized bytes = compact (length bytes) ++ bytes

-- some things, one after the other, after their number
abbrev pub counted : {A : Type 0} → (A → List ℕ) → List A → List ℕ
counted encoding things = compact (length things) ++ flat_map encoding things

-- an outpoint: the txid in inner order, and the index in four bytes
abbrev pub outpoint_encoding : Outpoint → List ℕ
outpoint_encoding o = o.txid.0 ++ to_le_bytes w32 o.index

-- an input without its witness: its outpoint, its script, its sequence in four bytes
abbrev pub input_encoding : TxIn → List ℕ
input_encoding i = outpoint_encoding i.from ++ (sized i.script ++ to_le_bytes w32 i.sequence)

-- an output: its value in eight bytes, and its script
abbrev pub output_encoding : TxOut → List ℕ
output_encoding o = to_le_bytes w64 o.value ++ sized o.script

-- the witness of an input: its items, each after its size
abbrev pub stack_encoding : TxIn → List ℕ
stack_encoding i = counted sized i.witness

-- the version in four bytes, in two's complement
abbrev pub version_encoding : Tx → List ℕ
version_encoding t = to_le_bytes w32 (cast_unsigned w32 t.version)

-- the inputs and the outputs
abbrev pub body_encoding : Tx → List ℕ
body_encoding t = counted input_encoding t.inputs ++ counted output_encoding t.outputs

-- the form without marker, flag and witnesses
abbrev pub stripped_encoding : Tx → List ℕ
stripped_encoding t = version_encoding t ++ (body_encoding t ++ to_le_bytes w32 t.lock)

-- the form of BIP 144: marker 0 and flag 1 after the version, one stack for each input before the lock time
abbrev pub witness_encoding : Tx → List ℕ
witness_encoding t =
    version_encoding t
    ++ (0 ∷ 1 ∷ (body_encoding t ++ (flat_map stack_encoding t.inputs ++ to_le_bytes w32 t.lock)))

-- whether some input has a witness: at least one item
abbrev pub some_witness : List TxIn → Bool
some_witness inputs = list_any (λ (i : TxIn). not (length i.witness == 0)) inputs

-- whether some input of the transaction has a witness
abbrev pub has_witness : Tx → Bool
has_witness t = some_witness t.inputs

-- all the money that there can be, in satoshi
abbrev pub max_money : ℕ
max_money = MAX_MONEY

-- the values of outputs together, in satoshi
abbrev pub total_value : List TxOut → ℕ
total_value outputs = sum_by (λ (o : TxOut). o.value) outputs

-- a list that a CompactSize can count
abbrev pub Countable : {A : Type 0} → List A → Type 0
Countable things = length things < 2 ^ 64

-- an item of bytes: a script, or an item of a witness
abbrev pub IsItem : List ℕ → Type 0
IsItem item = Countable item × AreBytes item

-- an input whose fields fit
pub record IsInput (i : TxIn) : Type 0 where
  pub txid_size : length i.from.txid.0 ≡ 32
  pub txid_bytes : AreBytes i.from.txid.0
  pub index : i.from.index < 2 ^ 32
  pub script : IsItem i.script
  pub sequence : i.sequence < 2 ^ 32
  pub items : Countable i.witness
  pub witness : AllByRecursion IsItem i.witness

-- an output whose script can be counted
pub record IsOutput (o : TxOut) : Type 0 where
  pub value : o.value < 2 ^ 64
  pub script : IsItem o.script

-- a version of 32 bits, with its sign
pub record IsVersion (t : Tx) : Type 0 where
  pub least : negsuc 2147483647 ≤ℤ t.version
  pub most : t.version <ℤ pos 2147483648

-- what has an encoding: at least one input and one output, all values together within the money bound
pub record IsLawful (t : Tx) : Type 0 where
  pub version : IsVersion t
  pub some_inputs : 1 ≤ length t.inputs
  pub few_inputs : Countable t.inputs
  pub inputs : AllByRecursion IsInput t.inputs
  pub some_outputs : 1 ≤ length t.outputs
  pub few_outputs : Countable t.outputs
  pub outputs : AllByRecursion IsOutput t.outputs
  pub money : total_value t.outputs ≤ max_money
  pub lock : t.lock < 2 ^ 32

-- The bytes encode the transaction: without marker, flag and stacks where every witness is empty, else with
-- them.
pub data Encodes (bytes : List ℕ) (t : Tx) : Type 0 where
  stripped : IsLawful t → has_witness t ≡ false → bytes ≡ stripped_encoding t → Encodes bytes t
  with_witness : IsLawful t → has_witness t ≡ true → bytes ≡ witness_encoding t → Encodes bytes t

-- Some bytes encode the transaction.
abbrev pub HasEncoding : Tx → Type 0
HasEncoding t = (bytes : List ℕ) × Encodes bytes t

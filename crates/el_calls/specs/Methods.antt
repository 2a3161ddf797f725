-- What each method takes (Electrum Protocol 1.4.2, "Protocol Methods"): the names of its parameters in their
-- order, and the call by what is given for them.
use Rattle.std.specs.Prelude.{◌≡◌, ℕ, false, if◌then◌else◌, List, [], ◌∷◌, Option, Some, None, option_and_then, ok_or, is_some, Bool, Result, Ok, Err, codes}
use Rattle.hex.specs.Hex.{decode_of}
use Rattle.hex.specs.declared.FromHexError.{FromHexError}
use Rattle.serde_json.specs.Data.{Data}
use Rattle.serde_json.specs.Find.{as_bool, as_str, as_object}
use Rattle.el_base.specs.declared.hash.Hash32.{Hash32}
use Rattle.el_json.specs.declared.params.Params.{Params}
use Rattle.el_json.specs.Parameters.{given, has_only, number_in, hash_from_hex}
use Rattle.el_calls.specs.declared.method.Method.{Method}
use Rattle.el_calls.specs.declared.method.Method.TheVariants as method
use Rattle.el_calls.specs.declared.call.Call.{Call}
use Rattle.el_calls.specs.declared.call.Call.TheVariants as call
use Rattle.el_calls.specs.declared.refusal.Refusal.{Refusal}
use Rattle.el_calls.specs.declared.refusal.Refusal.TheVariants.{InvalidParams}
use Rattle.el_calls.specs.declared.refusal.Refusal.TheVariants as refusal
use Rattle.el_calls.specs.Names.{name_of}
use Rattle.el_calls.specs.Versions.{versions_in, default_version}

-- what comes first, and then what comes of it, unless it was refused
infixl 10 ◌>>=◌
abbrev pub ◌>>=◌ : {A B : Type 0} → Result A Refusal → (A → Result B Refusal) → Result B Refusal
(Ok x) >>= f = f x
(Err e) >>= f = Err e

-- A parameter that must be given, of this kind.
abbrev pub needed : {A : Type 0} → (Data → Option A) → Option Data → Result A Refusal
needed kind None = Err InvalidParams
needed kind (Some d) = ok_or (kind d) InvalidParams

-- A parameter that may be left out, and then has this value.
abbrev pub otherwise : {A : Type 0} → A → (Data → Option A) → Option Data → Result A Refusal
otherwise value kind None = Ok value
otherwise value kind (Some d) = ok_or (kind d) InvalidParams

-- the kind of what passes the test
abbrev pub passing_test : (Data → Bool) → Data → Option (Unit {0})
passing_test test d = if test d then Some tt else None

-- the value is a string
abbrev pub is_text : Data → Bool
is_text d = is_some (as_str d)

-- the value is an object
abbrev pub is_object : Data → Bool
is_object d = is_some (as_object d)

-- the bytes that were decoded, if they were
abbrev pub bytes_or : Result (List ℕ) FromHexError → Option (List ℕ)
bytes_or (Ok bytes) = Some bytes
bytes_or (Err e) = None

-- the bytes that a text of an even number of hex digits shows
abbrev pub hex_in : Data → Option (List ℕ)
hex_in d = option_and_then (λ text. bytes_or (decode_of text)) (as_str d)

-- nothing else is given than these parameters
abbrev pub only : List (List ℕ) → Params → Result (Unit {0}) Refusal
only names p = if has_only names p then Ok tt else Err InvalidParams

-- one row of the table
pub record Row : Type 0 where
  pub names : List (List ℕ)
  pub call : Params → Result Call Refusal

-- a method without parameters
abbrev pub plain : Call → Row
plain c = record { names = []; call = λ p. Ok c }

-- a method of a script hash
abbrev pub of_script_hash : (Hash32 → Call) → Row
of_script_hash make = record {
  names = codes "scripthash" ∷ [];
  call = λ p. do
    script_hash ← needed hash_from_hex (given p 0 (codes "scripthash"))
    Ok (make script_hash);
}

-- The table of methods.
abbrev pub method_row : Method → Row
method_row method.ServerVersion = record {
  names = codes "client_name" ∷ codes "protocol_version" ∷ [];
  call = λ p. do
    client_name ← otherwise tt (passing_test is_text) (given p 0 (codes "client_name"))
    versions ← otherwise (default_version, default_version) versions_in (given p 1 (codes "protocol_version"))
    Ok (call.ServerVersion versions.0 versions.1);
}
method_row method.ServerBanner = plain call.ServerBanner
method_row method.ServerDonationAddress = plain call.ServerDonationAddress
method_row method.ServerFeatures = plain call.ServerFeatures
method_row method.ServerPing = plain call.ServerPing
method_row method.ServerPeersSubscribe = plain call.ServerPeersSubscribe
method_row method.ServerAddPeer = record {
  names = codes "features" ∷ [];
  call = λ p. do
    features ← needed (passing_test is_object) (given p 0 (codes "features"))
    Ok call.ServerAddPeer;
}
method_row method.BlockHeader = record {
  names = codes "height" ∷ codes "cp_height" ∷ [];
  call = λ p. do
    height ← needed number_in (given p 0 (codes "height"))
    cp_height ← otherwise 0 number_in (given p 1 (codes "cp_height"))
    Ok (call.BlockHeader height cp_height);
}
method_row method.BlockHeaders = record {
  names = codes "start_height" ∷ codes "count" ∷ codes "cp_height" ∷ [];
  call = λ p. do
    start_height ← needed number_in (given p 0 (codes "start_height"))
    count ← needed number_in (given p 1 (codes "count"))
    cp_height ← otherwise 0 number_in (given p 2 (codes "cp_height"))
    Ok (call.BlockHeaders start_height count cp_height);
}
method_row method.EstimateFee = record {
  names = codes "number" ∷ [];
  call = λ p. do
    number ← needed number_in (given p 0 (codes "number"))
    Ok call.EstimateFee;
}
method_row method.RelayFee = plain call.RelayFee
method_row method.HeadersSubscribe = plain call.HeadersSubscribe
method_row method.GetBalance = of_script_hash call.GetBalance
method_row method.GetHistory = of_script_hash call.GetHistory
method_row method.GetMempool = of_script_hash call.GetMempool
method_row method.ListUnspent = of_script_hash call.ListUnspent
method_row method.ScriptHashSubscribe = of_script_hash call.ScriptHashSubscribe
method_row method.ScriptHashUnsubscribe = of_script_hash call.ScriptHashUnsubscribe
method_row method.Broadcast = record {
  names = codes "raw_tx" ∷ [];
  call = λ p. do
    raw_tx ← needed hex_in (given p 0 (codes "raw_tx"))
    Ok (call.Broadcast raw_tx);
}
method_row method.TransactionGet = record {
  names = codes "tx_hash" ∷ codes "verbose" ∷ [];
  call = λ p. do
    tx_hash ← needed hash_from_hex (given p 0 (codes "tx_hash"))
    verbose ← otherwise false as_bool (given p 1 (codes "verbose"))
    Ok (call.TransactionGet tx_hash verbose);
}
method_row method.GetMerkle = record {
  names = codes "tx_hash" ∷ codes "height" ∷ [];
  call = λ p. do
    tx_hash ← needed hash_from_hex (given p 0 (codes "tx_hash"))
    height ← needed number_in (given p 1 (codes "height"))
    Ok (call.GetMerkle tx_hash height);
}
method_row method.IdFromPos = record {
  names = codes "height" ∷ codes "tx_pos" ∷ codes "merkle" ∷ [];
  call = λ p. do
    height ← needed number_in (given p 0 (codes "height"))
    tx_pos ← needed number_in (given p 1 (codes "tx_pos"))
    merkle ← otherwise false as_bool (given p 2 (codes "merkle"))
    Ok (call.IdFromPos height tx_pos merkle);
}
method_row method.FeeHistogram = plain call.FeeHistogram

-- The call of this method with these parameters: none may be missing, one too many, unknown or not of its
-- kind.
abbrev pub called : Method → Params → Result Call Refusal
called m p = do
  nothing ← only (method_row m).names p
  (method_row m).call p

-- What a request by that name asks for: an unknown name comes before what is given.
pub data IsCalled (name : List ℕ) (p : Params) (asked : Result Call Refusal) : Type 0 where
  known : (m : Method) → name ≡ name_of m → asked ≡ called m p → IsCalled name p asked
  unknown : ((m : Method) → name ≡ name_of m → ⊥) → asked ≡ Err refusal.UnknownMethod → IsCalled name p asked

-- what is given for a script hash alone
abbrev pub script_hash_in : Params → Result Hash32 Refusal
script_hash_in p = do
  nothing ← only (codes "scripthash" ∷ []) p
  needed hash_from_hex (given p 0 (codes "scripthash"))

-- a call without parameters
abbrev pub plain_call : Call → Params → Result Call Refusal
plain_call c p = do
  nothing ← only [] p
  Ok c

-- the bytes that a call broadcasts, if it is a broadcast
abbrev pub raw_tx_of : Call → Option (List ℕ)
raw_tx_of (call.Broadcast bytes) = Some bytes
raw_tx_of other = None

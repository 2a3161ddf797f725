-- The status of a script hash (Electrum Protocol 1.4, "Status"). A script hash stands in inner order.
use Rattle.std.specs.Prelude.{ℕ, List, [], ◌∷◌, ◌++◌, flat_map, Option, None, Some}
use Rattle.std.specs.Fmt.{decimal, signed_decimal}
use Rattle.sha2.specs.Sha256.{sha256}
use Rattle.el_base.specs.declared.hash.Hash32.{Hash32}
use Rattle.el_base.specs.Shown.{shown}
use Rattle.el_tx.specs.declared.types.Tx.{Tx}
use Rattle.el_chain.specs.Chains.{Chain}
use Rattle.el_chain.specs.History.{history}
use Rattle.el_chain.specs.declared.entry.Entry.{Entry}
use Rattle.el_mempool.specs.declared.entry.PoolEntry.{PoolEntry}
use Rattle.el_mempool.specs.Unconfirmed.{pool_history}

-- what a transaction adds to the text: its shown txid, ':', this text of its height, and ':' again (58)
abbrev pub part : Hash32 → List ℕ → List ℕ
part txid height = shown txid.0 ++ 58 ∷ (height ++ 58 ∷ [])

-- a confirmed one, by its height
abbrev pub entry_part : Entry → List ℕ
entry_part e = part e.txid (decimal e.height)

-- one that no block has yet, by its flag, which is 0 or -1
abbrev pub pool_part : PoolEntry → List ℕ
pool_part e = part e.txid (signed_decimal e.flag)

-- the text of these confirmed entries and then of these unconfirmed ones
abbrev pub text_of : List Entry → List PoolEntry → List ℕ
text_of confirmed unconfirmed = flat_map entry_part confirmed ++ flat_map pool_part unconfirmed

-- the text of a script hash: its history in chain order, and then the kept ones by their shown txids
abbrev pub status_text : Chain → List Tx → List ℕ → List ℕ
status_text chain kept script_hash = text_of (history chain script_hash) (pool_history chain kept script_hash)

-- the SHA-256 of a text, and none for no text
abbrev pub status_of_text : List ℕ → Option Hash32
status_of_text [] = None
status_of_text (b ∷ bs) = Some (record { 0 = sha256 (b ∷ bs) })

-- the status of a script hash, which is none where no transaction concerns it
abbrev pub status : Chain → List Tx → List ℕ → Option Hash32
status chain kept script_hash = status_of_text (status_text chain kept script_hash)

-- What kept transactions give to a script hash and take from it.
use Rattle.std.specs.Prelude.{ℕ, List, if◌then◌else◌, Option, None, Some, option_map, sum_by}
use Rattle.el_tx.specs.declared.types.Tx.{Tx}
use Rattle.el_chain.specs.Chains.{Chain}
use Rattle.el_mempool.specs.declared.held.Held.{Held}
use Rattle.el_mempool.specs.declared.held.Source.{Source}
use Rattle.el_mempool.specs.declared.held.KeptTx.{KeptTx}
use Rattle.el_mempool.specs.declared.entry.PoolEntry.{PoolEntry}
use Rattle.el_mempool.specs.Refusals.{kept_with}
use Rattle.el_mempool.specs.Standing.{kept_tx}
use Rattle.el_mempool.specs.Unconfirmed.{has_script}

-- what it holds of the script hash, in satoshi
abbrev pub value_at : List ℕ → Held → ℕ
value_at s h = if has_script s h then h.value else 0

-- what these outputs give to it together
abbrev pub given_at : List ℕ → List Held → ℕ
given_at s outputs = sum_by (λ (h : Held). value_at s h) outputs

-- what these inputs take of it together
abbrev pub taken_at : List ℕ → List Source → ℕ
taken_at s inputs = sum_by (λ (x : Source). value_at s x.held) inputs

-- what the outputs of a kept transaction give to it; nothing where none is kept
abbrev pub given_in : List ℕ → Option KeptTx → ℕ
given_in s None = 0
given_in s (Some k) = given_at s k.outputs

-- what the inputs of a kept transaction take of it; nothing where none is kept
abbrev pub taken_in : List ℕ → Option KeptTx → ℕ
taken_in s None = 0
taken_in s (Some k) = taken_at s k.inputs

-- what is kept of the transaction that the entry names
abbrev pub kept_of : Chain → List Tx → PoolEntry → Option KeptTx
kept_of chain kept e = option_map (kept_tx chain kept) (kept_with e.txid kept)

-- what the transactions that these entries name give to the script hash
abbrev pub given_by : Chain → List Tx → List ℕ → List PoolEntry → ℕ
given_by chain kept s entries = sum_by (λ (e : PoolEntry). given_in s (kept_of chain kept e)) entries

-- what the transactions that these entries name take of the script hash
abbrev pub taken_by : Chain → List Tx → List ℕ → List PoolEntry → ℕ
taken_by chain kept s entries = sum_by (λ (e : PoolEntry). taken_in s (kept_of chain kept e)) entries

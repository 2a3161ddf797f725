-- What the tables of a set say of a transaction that may join.
use Rattle.std.specs.Prelude.{◌≡◌, ℕ, ℤ, pos, negsuc, if◌then◌else◌, List, [], ◌∷◌, Bool, Option, None, option_map}
use Rattle.std.specs.List.{list_any}
use Rattle.std.specs.Option.{option_or, is_some}
use Rattle.el_base.specs.declared.hash.Hash32.{Hash32}
use Rattle.el_tx.specs.declared.types.Outpoint.{Outpoint}
use Rattle.el_tx.specs.declared.types.TxIn.{TxIn}
use Rattle.el_tx.specs.declared.types.TxOut.{TxOut}
use Rattle.el_tx.specs.declared.types.Tx.{Tx}
use Rattle.el_tx.specs.Encoding.{Encodes, total_value}
use Rattle.el_chain.specs.Chains.{Chain}
use Rattle.el_mempool.specs.declared.held.Source.{Source}
use Rattle.el_mempool.specs.declared.held.KeptTx.{KeptTx}
use Rattle.el_kept.specs.declared.table.Table.{Table}
use Rattle.el_kept.specs.Named.{kept_output, total_sources}
use Rattle.el_mempool.specs.declared.entry.PoolLimits.{PoolLimits}
use Rattle.el_mempool.specs.declared.fault.PoolFault.{PoolFault}
use Rattle.el_mempool.specs.declared.fault.PoolFault.TheVariants as refusal
use Rattle.el_mempool.specs.Sift.{any_takes}
use Rattle.el_mempool.specs.Refusals.{where_so, overspends, over_limit, tx_refusal}
use Rattle.el_mempool.specs.Standing.{kept_tx}

-- the refusal for an input that takes the outpoint: someone takes it, or a later input does too
abbrev pub first_conflict : Option Hash32 → Hash32 → Outpoint → Bool → Option PoolFault
first_conflict taken id o later =
    option_or (option_map (λ by. refusal.Conflict o by) taken) (where_so later (refusal.Conflict o id))

-- the first of these inputs that someone takes, by a look-up, or that a later one of them takes too
abbrev pub conflict_by : (Outpoint → Option Hash32) → Hash32 → List TxIn → Option PoolFault
conflict_by taker id [] = None
conflict_by taker id (i ∷ is) =
    option_or (option_map (λ by. refusal.Conflict i.from by) (taker i.from))
    (option_or (where_so (any_takes i.from is) (refusal.Conflict i.from id)) (conflict_by taker id is))

-- outputs that hold too much, or no room for so many bytes
abbrev pub room_by : PoolLimits → ℕ → ℕ → List Source → List TxOut → ℕ → Option PoolFault
room_by limits count bytes ss outputs size =
    option_or (overspends (total_sources ss) (total_value outputs)) (over_limit limits count bytes size)

-- the input takes an output of a kept transaction, by a look-up
abbrev pub is_output_at : Table → Source → Bool
is_output_at t s = is_some (kept_output t s.from)

-- -1 where one of these inputs does, else 0
abbrev pub flag_by : Table → List Source → ℤ
flag_by t ss = if list_any (is_output_at t) ss then negsuc 0 else pos 0

-- The bytes encode a transaction that no refusal keeps out, and this is what is kept of it.
pub record Joins (limits : PoolLimits) (chain : Chain) (kept : List Tx) (bytes : List ℕ)
    (k : KeptTx) : Type 0 where
  pub tx : Tx
  pub encoded : Encodes bytes tx
  pub free : tx_refusal limits chain kept tx ≡ None
  pub is : k ≡ kept_tx chain kept tx

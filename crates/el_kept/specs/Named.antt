-- What outpoints name of a set that stands for kept transactions over a chain.
use Rattle.std.specs.Prelude.{◌≡◌, ℕ, true, false, List, Option, Some, None, option_and_then, slice_get, sum_by}
use Rattle.std.specs.Option.{option_flatten, is_some}
use Rattle.indexmap.specs.IndexMap.{get}
use Rattle.el_tx.specs.declared.types.Outpoint.{Outpoint}
use Rattle.el_tx.specs.declared.types.Tx.{Tx}
use Rattle.el_chain.specs.Chains.{Chain}
use Rattle.el_chain.specs.Headers.{same_hash}
use Rattle.el_mempool.specs.declared.held.Held.{Held}
use Rattle.el_mempool.specs.declared.held.Source.{Source}
use Rattle.el_mempool.specs.declared.held.KeptTx.{KeptTx}
use Rattle.el_mempool.specs.Sift.{coin_named, output_among}
use Rattle.el_mempool.specs.Standing.{KeptStandFor}
use Rattle.el_kept.specs.declared.found.FoundOutput.{FoundOutput}
use Rattle.el_kept.specs.declared.table.Table.{Table}
use Rattle.el_kept.specs.Tables.{HasEntries}

-- what the inputs take together, in satoshi
abbrev pub total_sources : List Source → ℕ
total_sources ss = sum_by (λ (s : Source). s.held.value) ss

-- what the output of a kept transaction holds that the outpoint names, by a look-up
abbrev pub kept_output : Table → Outpoint → Option Held
kept_output t o =
    option_and_then (λ (k : KeptTx). slice_get k.outputs o.index)
    (option_flatten (get same_hash t.kept o.txid))

-- an output of a kept one, or else a coin
abbrev pub found_by : Option Held → Option Held → Option FoundOutput
found_by (Some h) coin = Some (record { held = h; is_kept = true })
found_by None (Some h) = Some (record { held = h; is_kept = false })
found_by None None = None

-- the table stands for these transactions over the chain
pub record IsTableOver (t : Table) (chain : Chain) (kept : List Tx) : Type 0 where
  pub entries : List KeptTx
  pub table : HasEntries t entries
  pub stands : KeptStandFor entries chain kept

-- no output of a kept one is a coin of the chain
abbrev pub AreUnspent : Chain → List Tx → Type 0
AreUnspent chain kept = (o : Outpoint) → is_some (output_among o kept) ≡ true → coin_named chain o ≡ None

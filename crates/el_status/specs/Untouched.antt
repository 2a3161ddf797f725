-- What stays of a script hash where a move leaves it untouched.
use Rattle.std.specs.Prelude.{◌≡◌, ℕ, Bool, false, List, filter}
use Rattle.std.specs.List.{list_any}
use Rattle.el_base.specs.declared.hash.Hash32.{Hash32}
use Rattle.el_chain.specs.Chains.{Chain}
use Rattle.el_chain.specs.Headers.{same_hash}
use Rattle.el_chain.specs.History.{concerns, history, positions}
use Rattle.el_model.specs.Queries.{unspent, balance}

-- The script hash has the same history, coins and balance over both chains. The positions that its history
-- lists are the same too, with the coins before each.
pub record LooksSame (before after : Chain) (script_hash : List ℕ) : Type 0 where
  pub listed : filter (concerns script_hash) (positions before)
      ≡ filter (concerns script_hash) (positions after)
  pub history : history before script_hash ≡ history after script_hash
  pub unspent : unspent before script_hash ≡ unspent after script_hash
  pub balance : balance before script_hash ≡ balance after script_hash

-- the script hash is among these
abbrev pub is_among : List Hash32 → Hash32 → Bool
is_among scripts s = list_any (same_hash s) scripts

-- each script hash that is not among these looks the same over both chains
abbrev pub KeepsOthers : Chain → Chain → List Hash32 → Type 0
KeepsOthers before after scripts = (s : Hash32) → is_among scripts s ≡ false → LooksSame before after s.0

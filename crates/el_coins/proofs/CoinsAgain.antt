-- Coins that are computed anew over a table that has none.
use Rattle.std.proofs.Common.{◌≡◌, ℕ, ◌<◌, ◌≤◌, ◌+◌, List, [], ◌∷◌, ◌++◌, length, take, drop, get_or, Option, None, Some, refl, ap, sym, ◌∙◌}
use Rattle.std.specs.Option.{option_or, option_flatten}
use Rattle.std.specs.Map.{lookup as entry_lookup}
use Rattle.indexmap.specs.IndexMap.{IndexMap}
use Rattle.el_base.proofs.Lists.{left_at, taken_at}
use Rattle.el_tx.specs.declared.types.Outpoint.{Outpoint}
use Rattle.el_tx.specs.Encoding.{max_money}
use Rattle.el_tx.specs.Hashing.{same_outpoint}
use Rattle.el_chain.specs.declared.coin.Coin.{Coin}
use Rattle.el_coins.specs.declared.coins.CoinTable.{CoinTable}
use Rattle.el_chain.specs.declared.placed.Placed.{Placed}
use Rattle.el_coins.specs.declared.tally.Tally.{Tally}
use Rattle.el_chain.specs.Chains.{Chain}
use Rattle.el_chain.specs.Coins.{coins, coins_after_all}
use Rattle.el_chain.specs.Faults.{first_fault, IsNext, AreNext}
use Rattle.el_chain.specs.History.{positions, block_positions}
use Rattle.el_coins.specs.CoinLayers.{Holds, IsPlainChain}
use Rattle.el_coins.specs.CoinTables.{lookup, coin_by, coin_over}
use Rattle.el_coins.specs.Drafts.{IsDrafted}
use Rattle.el_coins.specs.Tallies.{IsTally, AreFew}
use Rattle.el_coins.proofs.DraftSteps.{drafted_connected}

-- a block that may stand next is connected
pub drafted_again : (base : CoinTable) (chain joined : Chain) (b : Placed) (old new : CoinTable) (tally counted : Tally) (ts : _) → IsDrafted base chain old tally → IsNext chain b.block → joined ≡ chain → ts ≡ b.block.txs
    → first_fault (positions joined) (block_positions (length joined) ts (coins joined)) ≡ None → Holds base new (coins_after_all (length joined) ts (coins joined)) → new.supply ≤ max_money
    → IsTally counted (positions joined ++ block_positions (length joined) ts (coins joined)) → AreFew counted → IsDrafted base (chain ++ b ∷ []) new counted
drafted_again base chain joined b old new tally counted ts h next same txs none after money counts rows =
    drafted_connected base chain b.block b.place old new tally counted ts h next.encoded next.names txs (rw same at none) (rw same at after) money (rw same at counts) rows

-- a table over an empty one says what it says alone
over_nothing : {S : Type 0} (none new : IndexMap Outpoint (Option Coin) S) → none.entries ≡ [] → (o : Outpoint) → coin_over none new o ≡ coin_by new o
over_nothing none new empty o = ap (λ (es : List (Outpoint × Option Coin)). option_flatten (option_or (lookup new o) (entry_lookup (same_outpoint o) es))) empty ∙ ap option_flatten (or_nothing (lookup new o))
  where
    or_nothing : (r : Option (Option Coin)) → option_or r None ≡ r
    or_nothing None = refl
    or_nothing (Some x) = refl

-- so what is drafted over it may be kept
pub kept_anew : (none new : CoinTable) (chain : Chain) (tally : Tally) → none.map.entries ≡ [] → IsDrafted none chain new tally → IsPlainChain chain new tally
kept_anew none new chain tally empty h = record {
  good = h.good;
  few = h.few;
  money = h.money;
  stands = record {
    each = λ o. sym (over_nothing none.map new.map empty o) ∙ h.stands.each o;
    total = h.stands.total;
    once = h.stands.once;
  };
  counted = h.counted;
  rows = h.rows;
}

-- The first blocks were connected, and those that are left may stand after them.
pub record GoesAnew (none : CoinTable) (chain : Chain) (i : ℕ) (changes : CoinTable) (tally : Tally) : Type 0 where
  pub drafted : IsDrafted none (take i chain) changes tally
  pub left : AreNext (take i chain) (drop i chain)

pub next_anew : (none : CoinTable) (chain : Chain) (i : ℕ) (changes : CoinTable) (tally : Tally) (b : Placed) → GoesAnew none chain i changes tally → i < length chain → b ≡ get_or chain i b → IsNext (take i chain) b.block
next_anew none chain i changes tally b h lt is = let left = rw (left_at chain i b lt is) at h.left in left.0

pub anew_more : (none : CoinTable) (chain : Chain) (i : ℕ) (changes new : CoinTable) (tally counted : Tally) (b : Placed) → GoesAnew none chain i changes tally → i < length chain → b ≡ get_or chain i b
    → IsDrafted none (take i chain ++ b ∷ []) new counted → GoesAnew none chain (i + 1) new counted
anew_more none chain i changes new tally counted b h lt is drafted =
    let left = rw (left_at chain i b lt is) at h.left in
    let more = taken_at chain i b lt is in
    record { drafted = rw more drafted; left = rw more left.1 }

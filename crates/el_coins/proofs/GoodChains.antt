-- Good chains: their blocks can be read transaction by transaction, and one block more keeps them good.
use Rattle.std.proofs.Common.{◌≡◌, ◌+◌, ◌≤◌, List, [], ◌∷◌, ◌++◌, length, Option, None, ap, ◌∙◌, arith, length-append}
use Rattle.std.specs.List.{AllByRecursion}
use Rattle.std.specs.Option.{option_or, option_flatten}
use Rattle.std.specs.Map.{lookup as entry_lookup}
use Rattle.indexmap.specs.IndexMap.{IndexMap}
use Rattle.el_tx.specs.declared.types.Outpoint.{Outpoint}
use Rattle.el_tx.specs.declared.types.Tx.{Tx}
use Rattle.el_tx.specs.Hashing.{same_outpoint}
use Rattle.el_tx.specs.Encoding.{max_money, counted}
use Rattle.el_chain.specs.declared.placed.Placed.{Placed}
use Rattle.el_chain.specs.declared.coin.Coin.{Coin}
use Rattle.el_coins.specs.declared.coins.CoinTable.{CoinTable}
use Rattle.el_block.specs.Blocks.{HasBlockEncoding, EncodesBlock}
use Rattle.el_chain.specs.Chains.{Chain, tip}
use Rattle.el_chain.specs.Coins.{coins_after_all, coins}
use Rattle.el_chain.specs.Faults.{first_fault, fault, AreNext}
use Rattle.el_chain.specs.History.{positions, block_positions}
use Rattle.el_coins.specs.declared.tally.Tally.{Tally}
use Rattle.el_coins.specs.Tallies.{IsTally, AreFew}
use Rattle.el_chain.proofs.Tallies.{positions_more}
use Rattle.el_coins.specs.CoinTables.{lookup, coin_by, coin_over, CoinsStandFor, HasFitting}
use Rattle.el_coins.specs.CoinLayers.{Holds, IsPlainChain}
use Rattle.el_block.proofs.BlockLemmas.{one_some}
use Rattle.el_chain.proofs.GoodChains.{fits_of_encoded, next_more, coins_more, has_room}

-- so do the transactions of each block of a good chain
pub chain_fits : (before chain : Chain) → AreNext before chain → AllByRecursion HasFitting chain
chain_fits before [] h = tt
chain_fits before (b ∷ bs) h = (fits_of_encoded b.block h.0.encoded, chain_fits (before ++ b ∷ []) bs h.1)

-- what is kept goes on with one block more
pub kept_more : (chain : Chain) (b : Placed) (kept new : CoinTable) (tally counted : Tally) → IsPlainChain chain kept tally → HasBlockEncoding b.block → b.block.header.previous ≡ tip chain
    → fault chain b.block ≡ None → new.supply ≤ max_money
    → CoinsStandFor (coin_by new.map) new.supply (coins_after_all (length chain) b.block.txs (coins chain))
    → IsTally counted (positions chain ++ block_positions (length chain) b.block.txs (coins chain)) → AreFew counted → IsPlainChain (chain ++ b ∷ []) new counted
kept_more chain b kept new tally counted h encoded names none money stands counts rows = record {
  good = record { each = next_more [] chain b h.good.each (record { encoded = encoded; names = names; faultless = none }) };
  few =
      let s : EncodesBlock encoded.0 b.block = encoded.1 in
      let room = has_room chain b.block.txs none (one_some b.block.txs s.coinbase) in
      let joined = length-append chain (b ∷ []) in
      omega arith;
  money = money;
  stands = rw (coins_more 0 chain b []) (rw (let e : 0 + length chain ≡ length chain = omega arith in e) stands);
  counted = rw (positions_more chain b) counts;
  rows = rows;
}

-- an empty table over another one says what that one says
pub over_empty : {S : Type 0} (base start : IndexMap Outpoint (Option Coin) S) → start.entries ≡ [] → (o : Outpoint) → coin_over base start o ≡ coin_by base o
over_empty base start none o = ap (λ (es : List (Outpoint × Option Coin)). option_flatten (option_or (entry_lookup (same_outpoint o) es) (lookup base o))) none

-- before the first change, what is kept over which nothing is laid
pub over_begins : (base start : CoinTable) (chain : Chain) (tally : Tally) → IsPlainChain chain base tally → start.map.entries ≡ [] → start.supply ≡ base.supply → Holds base start (coins chain)
over_begins base start chain tally h none same = record {
  each = λ o. over_empty base.map start.map none o ∙ h.stands.each o;
  total = same ∙ h.stands.total;
  once = h.stands.once;
}

-- what is kept goes on with one block more, once the changes that it makes are laid over what was kept
pub kept_connected : (chain : Chain) (b : Placed) (base changes new : CoinTable) (tally counted : Tally) (blocks : Chain) (ts : List Tx) → IsPlainChain chain base tally → HasBlockEncoding b.block
    → b.block.header.previous ≡ tip chain → blocks ≡ chain → ts ≡ b.block.txs
    → first_fault (positions blocks) (block_positions (length blocks) ts (coins blocks)) ≡ None → Holds base changes (coins_after_all (length blocks) ts (coins blocks))
    → changes.supply ≤ max_money → IsTally counted (positions blocks ++ block_positions (length blocks) ts (coins blocks)) → AreFew counted
    → ((o : Outpoint) → coin_by new.map o ≡ coin_over base.map changes.map o) → new.supply ≡ changes.supply → IsPlainChain (chain ++ b ∷ []) new counted
kept_connected chain b base changes new tally counted blocks ts h encoded names tall txs faultless after money counts rows laid total =
    let clean = rw (tall, txs) at faultless in
    let stands = rw (tall, txs) at after in
    let so = rw (tall, txs) at counts in
    let most = rw (← total) at money in
    kept_more chain b base new tally counted h encoded names clean most (record {
      each = λ o. laid o ∙ stands.each o;
      total = total ∙ stands.total;
      once = stands.once;
    }) so rows

-- Drafts of chains, block by block.
use Rattle.std.proofs.Common.{◌≡◌, ◌+◌, ◌≤◌, [], ◌∷◌, ◌++◌, length, None, ◌∙◌, length-append, arith}
use Rattle.el_tx.specs.Encoding.{max_money, counted}
use Rattle.el_block.specs.declared.block.Block.{Block}
use Rattle.el_chain.specs.declared.placed.Placed.{Placed}
use Rattle.el_coins.specs.declared.coins.CoinTable.{CoinTable}
use Rattle.el_block.specs.declared.fault.BlockFault.TheVariants as block
use Rattle.el_block.specs.Blocks.{EncodesBlock, HasBlockEncoding, HasOneCoinbase}
use Rattle.el_chain.specs.Chains.{Chain, tip}
use Rattle.el_coins.specs.CoinLayers.{Holds, IsPlainChain}
use Rattle.el_chain.specs.Coins.{coins, coins_after_all}
use Rattle.el_coins.specs.CoinTables.{coin_by, coin_over}
use Rattle.el_coins.specs.Drafts.{IsDrafted}
use Rattle.el_chain.specs.Faults.{fault, first_fault}
use Rattle.el_chain.specs.History.{positions, block_positions}
use Rattle.el_coins.specs.declared.tally.Tally.{Tally}
use Rattle.el_coins.specs.Tallies.{IsTally, AreFew}
use Rattle.el_chain.proofs.Tallies.{positions_more}
use Rattle.el_chain.proofs.GoodChains.{next_more, coins_more, has_room}
use Rattle.el_coins.proofs.GoodChains.{over_begins}

-- a draft goes on with one block more
pub drafted_more : (base : CoinTable) (chain : Chain) (b : Placed) (old new : CoinTable) (tally counted : Tally) → IsDrafted base chain old tally → HasBlockEncoding b.block
    → b.block.header.previous ≡ tip chain → fault chain b.block ≡ None → new.supply ≤ max_money
    → Holds base new (coins_after_all (length chain) b.block.txs (coins chain))
    → IsTally counted (positions chain ++ block_positions (length chain) b.block.txs (coins chain)) → AreFew counted → IsDrafted base (chain ++ b ∷ []) new counted
drafted_more base chain b old new tally counted h encoded names none money stands counts rows = record {
  good = record { each = next_more [] chain b h.good.each (record { encoded = encoded; names = names; faultless = none }) };
  few =
      let s : EncodesBlock encoded.0 b.block = encoded.1 in
      let room = has_room chain b.block.txs none (some_txs b.block.txs s.coinbase) in
      let joined = length-append chain (b ∷ []) in
      omega arith;
  money = money;
  stands = rw (coins_more 0 chain b []) (rw (let e : 0 + length chain ≡ length chain = omega arith in e) stands);
  counted = rw (positions_more chain b) counts;
  rows = rows;
}
  where
    some_txs : (ts : _) → HasOneCoinbase ts → 1 ≤ length ts
    some_txs [] one = absurd one
    some_txs (t ∷ ts) one = omega arith

-- what is kept is a draft without changes
pub draft_begins : (base start : CoinTable) (chain : Chain) (tally : Tally) → IsPlainChain chain base tally → start.map.entries ≡ [] → start.supply ≡ base.supply → IsDrafted base chain start tally
draft_begins base start chain tally h none same = record {
  good = h.good;
  few = h.few;
  money = rw same h.money;
  stands = over_begins base start chain tally h none same;
  counted = h.counted;
  rows = h.rows;
}

-- and it is kept once the changes are laid over
pub draft_kept : (base changes new : CoinTable) (chain : Chain) (tally : Tally) → IsDrafted base chain changes tally → ((o : _) → coin_by new.map o ≡ coin_over base.map changes.map o)
    → new.supply ≡ changes.supply → IsPlainChain chain new tally
draft_kept base changes new chain tally h laid total = record {
  good = h.good;
  few = h.few;
  money = rw total h.money;
  stands = record {
    each = λ o. laid o ∙ h.stands.each o;
    total = total ∙ h.stands.total;
    once = h.stands.once;
  };
  counted = h.counted;
  rows = h.rows;
}

-- the same, as the code connects the block
pub drafted_connected : (base : CoinTable) (chain : Chain) (b : Block) (place : _) (old new : CoinTable) (tally counted : Tally) (ts : _)
    → IsDrafted base chain old tally → HasBlockEncoding b → b.header.previous ≡ tip chain → ts ≡ b.txs
    → first_fault (positions chain) (block_positions (length chain) ts (coins chain)) ≡ None → Holds base new (coins_after_all (length chain) ts (coins chain)) → new.supply ≤ max_money
    → IsTally counted (positions chain ++ block_positions (length chain) ts (coins chain)) → AreFew counted
    → IsDrafted base (chain ++ record { block = b; place = place } ∷ []) new counted
drafted_connected base chain b place old new tally counted ts h encoded names txs none after money counts rows =
    drafted_more base chain (record { block = b; place = place }) old new tally counted h encoded names
    (rw txs at none) money (rw txs at after) (rw txs at counts) rows

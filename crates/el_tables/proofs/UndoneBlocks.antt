-- A block's transactions are taken back, and the rows of blocks.
use Rattle.std.proofs.Common.{◌≡◌, ℕ, suc, ◌+◌, List, [], ◌∷◌, ◌++◌, length, None, refl, ap, sym, subst, ◌∙◌, append_assoc, append-nil, arith, length-append}
use Rattle.el_tx.specs.declared.types.Tx.{Tx}
use Rattle.el_tx.specs.Hashing.{full_encoding}
use Rattle.el_chain.specs.RowCounts.{spending_inputs}
use Rattle.el_chain.specs.declared.placed.Placed.{Placed}
use Rattle.el_chain.specs.declared.coin.Coin.{Coin}
use Rattle.el_chain.specs.declared.fault.ConnectFault.TheVariants as refusal
use Rattle.el_chain.specs.Chains.{Chain}
use Rattle.el_chain.specs.Coins.{coins_after, coins_after_all, coins_from, coins, supply}
use Rattle.el_chain.specs.Faults.{missing_input, missing_fault, position_fault, first_fault, IsNext, AreNext, IsGood}
use Rattle.el_chain.proofs.GoodChains.{coins_more, first_none, second_none}
use Rattle.el_tables.specs.Lists.{unspent_sum}
use Rattle.el_chain.specs.History.{block_positions, Position, positions_in, positions_from, positions, first_start}
use Rattle.el_tables.specs.ChainLists.{outputs, lists_of, lists, ListedBlock, listed_block, listed_blocks_from, listed_blocks, scripts_of}
use Rattle.el_prepare.specs.Prepared.{prepared_txs, prepared}
use Rattle.el_tables.specs.Connecting.{block_between}
use Rattle.el_tables.specs.Disconnecting.{times, disconnect_tx, disconnect_txs, but_last}
use Rattle.el_tables.proofs.Outputs.{coins_of, coins_step, chain_coins}
use Rattle.el_tables.proofs.Numbering.{length_txs}
use Rattle.el_tables.proofs.Connects.{next_position}
use Rattle.el_chain.proofs.Tallies.{positions_more}
use Rattle.el_tables.proofs.WholeBlocks.{map_none, missing_is, all_held_is}
use Rattle.el_tables.proofs.TakeBack.{but_last_is}
use Rattle.el_tables.proofs.Disconnects.{disconnects_one}

-- 1. Transactions

pub disconnects_txs : (ts : List Tx) (height index start : ℕ) (ps : List Position) → first_fault ps (positions_in height index start ts (coins_of (outputs ps))) ≡ None
    → times (length ts) disconnect_tx (lists_of (ps ++ positions_in height index start ts (coins_of (outputs ps)))) ≡ lists_of ps
disconnects_txs [] height index start ps none = ap lists_of (append-nil ps)
disconnects_txs (t ∷ ts) height index start ps none =
    let p = next_position height index start t ps in
    let cs = coins_of (outputs ps) in
    let later = positions_in height (index + 1) (start + length (full_encoding t)) ts (coins_after height t cs) in
    let mine = first_none (position_fault ps p) (first_fault (ps ++ p ∷ []) later) none in
    let others = second_none (position_fault ps p) (first_fault (ps ++ p ∷ []) later) none in
    let missing = first_none (missing_fault index t cs) _ mine in
    let there = map_none (λ n. refusal.MissingCoin index n) (missing_input 0 (spending_inputs t) cs) (sym (missing_is index t cs) ∙ missing) in
    let step = coins_step ps p in
    let rest = disconnects_txs ts height (index + 1) (start + length (full_encoding t)) (ps ++ p ∷ []) (rw step others) in
    let joined = append_assoc ps (p ∷ []) later in
    let after = rw (step, joined) at rest in
    ap disconnect_tx after ∙ disconnects_one ps p there

-- 2. Good chains

pub good_front : (before front : Chain) (b : Placed) → AreNext before (front ++ b ∷ []) → AreNext before front × IsNext (before ++ front) b.block
good_front before [] b h = (tt, subst (λ (l : Chain). IsNext l b.block) (sym (append-nil before)) h.0)
good_front before (x ∷ xs) b h =
    let rest = good_front (before ++ x ∷ []) xs b h.1 in
    ((h.0, rest.0), subst (λ (l : Chain). IsNext l b.block) (append_assoc before (x ∷ []) xs) rest.1)

pub disconnects : (chain : Chain) (b : Placed) → IsGood (chain ++ b ∷ []) → disconnect_txs (length b.block.txs) (lists (chain ++ b ∷ [])) ≡ lists chain
disconnects chain b good =
    let parts = good_front [] chain b good.each in
    let faultless = parts.1.faultless in
    let cs = chain_coins chain in
    let more = positions_more chain b in
    let moved : first_fault (positions chain) (block_positions (length chain) b.block.txs (coins_of (outputs (positions chain)))) ≡ None = rw cs at faultless in
    let done = disconnects_txs b.block.txs (length chain) 0 (first_start b.block.txs) (positions chain) moved in
    ap (disconnect_txs (length b.block.txs))
    (ap lists_of more ∙ ap (λ (l : List Coin). lists_of (positions chain ++ block_positions (length chain) b.block.txs l)) cs)
    ∙ done

pub good_before : (chain : Chain) (b : Placed) → IsGood (chain ++ b ∷ []) → IsGood chain
good_before chain b good = record { each = (good_front [] chain b good.each).0 }

-- 3. Rows of blocks

abbrev pub tx_count : Chain → ℕ
tx_count [] = 0
tx_count (b ∷ bs) = length b.block.txs + tx_count bs

blocks_on : (height first n m : ℕ) (chain : Chain) (b : Placed) (cs : List Coin) → n ≡ height + length chain → m ≡ first + tx_count chain
    → listed_blocks_from height first (chain ++ b ∷ []) cs
    ≡ listed_blocks_from height first chain cs ++ listed_block m (supply (coins_after_all n b.block.txs (coins_from height chain cs))) b ∷ []
blocks_on height first n m [] b cs en em = let f : height ≡ n = omega arith in let g : first ≡ m = omega arith in rw (f, g) refl
blocks_on height first n m (x ∷ xs) b cs en em =
    ap (λ (l : List ListedBlock). listed_block first (supply (coins_after_all height x.block.txs cs)) x ∷ l)
    (blocks_on (height + 1) (first + length x.block.txs) n m xs b (coins_after_all height x.block.txs cs) (omega arith) (omega arith))

count_in : (height index start : ℕ) (ts : List Tx) (cs : List Coin) → length (positions_in height index start ts cs) ≡ length ts
count_in height index start [] cs = refl
count_in height index start (t ∷ ts) cs = ap suc (count_in height (index + 1) (start + length (full_encoding t)) ts (coins_after height t cs))

chain_count : (height : ℕ) (chain : Chain) (cs : List Coin) → length (positions_from height chain cs) ≡ tx_count chain
chain_count height [] cs = refl
chain_count height (b ∷ bs) cs =
    let joined = length-append (block_positions height b.block.txs cs) (positions_from (height + 1) bs (coins_after_all height b.block.txs cs)) in
    let one = count_in height 0 (first_start b.block.txs) b.block.txs cs in
    let rest = chain_count (height + 1) bs (coins_after_all height b.block.txs cs) in
    omega arith

-- the new block's row: its first transaction is the next, and all unspent outputs after it hold that sum
pub blocks_more : (chain : Chain) (b : Placed)
    → listed_blocks (chain ++ b ∷ []) ≡ listed_blocks chain ++ listed_block (length (lists chain).txs) (unspent_sum (lists (chain ++ b ∷ [])).outs) b ∷ []
blocks_more chain b =
    let count = length_txs 0 0 (positions chain) ∙ chain_count 0 chain [] in
    let held = all_held_is (scripts_of (positions (chain ++ b ∷ []))) (outputs (positions (chain ++ b ∷ []))) in
    let cs = chain_coins (chain ++ b ∷ []) in
    let more = coins_more 0 chain b [] in
    let sum : supply (coins_after_all (0 + length chain) b.block.txs (coins chain)) ≡ unspent_sum (lists (chain ++ b ∷ [])).outs =
    ap supply (sym more ∙ cs) ∙ sym held in
    blocks_on 0 0 (0 + length chain) (length (lists chain).txs) chain b [] refl (omega arith)
    ∙ ap (λ (n : ℕ). listed_blocks chain ++ listed_block (length (lists chain).txs) n b ∷ []) sum

pub prepared_count : (start : ℕ) (ts : List Tx) → length (prepared_txs start ts) ≡ length ts
prepared_count start [] = refl
prepared_count start (t ∷ ts) = ap suc (prepared_count (start + length (full_encoding t)) ts)

pub row_more : (chain : Chain) (b : Placed)
    → listed_blocks (chain ++ b ∷ [])
    ≡ listed_blocks chain ++ block_between (prepared b.block) b.place (lists chain) (lists (chain ++ b ∷ [])) ∷ []
row_more chain b = let count = prepared_count (first_start b.block.txs) b.block.txs in blocks_more chain b ∙ rw count refl

pub blocks_less : (chain : Chain) (b : Placed) → but_last (listed_blocks (chain ++ b ∷ [])) ≡ listed_blocks chain
blocks_less chain b = ap but_last (blocks_more chain b) ∙ but_last_is (listed_blocks chain) _

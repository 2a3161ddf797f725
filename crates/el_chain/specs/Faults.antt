-- Why a block can't be added to a chain, and which chains are good.
use Rattle.std.specs.Prelude.{◌≡◌, ℕ, ◌+◌, nat_lt, Bool, if◌then◌else◌, List, [], ◌∷◌, ◌++◌, length, Option, None, Some, option_map, ⊤}
use Rattle.std.specs.List.{list_any}
use Rattle.std.specs.Option.{option_or}
use Rattle.el_tx.specs.Encoding.{max_money}
use Rattle.el_tx.specs.declared.types.Outpoint.{Outpoint}
use Rattle.el_tx.specs.declared.types.TxIn.{TxIn}
use Rattle.el_tx.specs.declared.types.Tx.{Tx}
use Rattle.el_tx.specs.Hashing.{is_coinbase}
use Rattle.el_block.specs.declared.block.Block.{Block}
use Rattle.el_chain.specs.declared.coin.Coin.{Coin}
use Rattle.el_chain.specs.declared.fault.ConnectFault.{ConnectFault}
use Rattle.el_chain.specs.declared.fault.ConnectFault.TheVariants as refusal
use Rattle.el_block.specs.Blocks.{HasBlockEncoding}
use Rattle.el_chain.specs.Chains.{Chain, tip}
use Rattle.el_chain.specs.Coins.{is_coin_of, without, coins_after, coins, supply}
use Rattle.el_chain.specs.History.{Position, positions, block_positions}
use Rattle.el_chain.specs.RowCounts.{row_limit, output_count, input_count, script_count, entry_count}

-- one of the coins has that outpoint
abbrev pub has_coin : Outpoint → List Coin → Bool
has_coin o coins = list_any (is_coin_of o) coins

-- the number of the first of these inputs, the first of which has that number, whose coin is not there; the
-- inputs before it have taken theirs
abbrev pub missing_input : ℕ → List TxIn → List Coin → Option ℕ
missing_input n [] coins = None
missing_input n (i ∷ is) coins =
    if has_coin i.from coins then missing_input (n + 1) is (without i.from coins) else Some n

-- a transaction takes a coin that is not there; a coinbase takes none
abbrev pub missing_fault : ℕ → Tx → List Coin → Option ConnectFault
missing_fault index t coins =
    if is_coinbase t then None
    else option_map (λ n. refusal.MissingCoin index n) (missing_input 0 t.inputs coins)

-- all coins together hold that sum, which is more than all the money that there can be
abbrev pub money_fault : ℕ → Option ConnectFault
money_fault sum = if nat_lt max_money sum then Some (refusal.Money sum) else None

-- the table with that number would need so many rows, which is more than it may have
abbrev pub full : ℕ → ℕ → Option ConnectFault
full table rows = if nat_lt (row_limit table) rows then Some (refusal.Full table (row_limit table)) else None

-- The first table, by its number, that would need more rows than it may have for so many blocks and for the
-- transactions of these positions: 1 of blocks, 2 of transactions, 4 of outputs, 5 of inputs, 6 of
-- scripts and 8 of entries. Tables 3 and 7, of heads, have one number of rows whatever the chain is.
abbrev pub full_fault : ℕ → List Position → Option ConnectFault
full_fault blocks ps =
    option_or (full 1 blocks) (option_or (full 2 (length ps)) (option_or (full 4 (output_count ps))
    (option_or (full 5 (input_count ps)) (option_or (full 6 (script_count ps)) (full 8 (entry_count ps))))))

-- The first fault of the transaction at the position, after those of the positions before: a coin that is
-- missing, too much money, a table that is full. The block's own row counts with each of its transactions, so
-- that a table of blocks that is full stops the first.
abbrev pub position_fault : List Position → Position → Option ConnectFault
position_fault before p =
    option_or (missing_fault p.pos p.tx p.before)
    (option_or (money_fault (supply (coins_after p.height p.tx p.before)))
    (full_fault (p.height + 1) (before ++ p ∷ [])))

-- the fault of the first of these positions that has one, after those before
abbrev pub first_fault : List Position → List Position → Option ConnectFault
first_fault before [] = None
first_fault before (p ∷ ps) = option_or (position_fault before p) (first_fault (before ++ p ∷ []) ps)

-- the first fault of a block after the chain: of its first transaction that has one
abbrev pub fault : Chain → Block → Option ConnectFault
fault chain b = first_fault (positions chain) (block_positions (length chain) b.txs (coins chain))

-- the block may stand after the chain: some bytes encode it, it names the last block, or the zero hash where
-- there is none, and it has no fault
pub record IsNext (chain : Chain) (b : Block) : Type 0 where
  pub encoded : HasBlockEncoding b
  pub names : b.header.previous ≡ tip chain
  pub faultless : fault chain b ≡ None

-- each of these blocks may stand after the blocks before it, of which the first are these
abbrev pub AreNext : Chain → Chain → Type 0
AreNext before [] = ⊤
AreNext before (b ∷ bs) = IsNext before b.block × AreNext (before ++ b ∷ []) bs

-- each block of the chain may stand after those before it
pub record IsGood (chain : Chain) : Type 0 where
  pub each : AreNext [] chain

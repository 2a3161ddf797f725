-- The words of the laws on coins: which coins a transaction makes, which it takes or replaces, and what its
-- inputs take.
use Rattle.std.specs.Prelude.{◌≡◌, ◌⊎◌, ℕ, ◌+◌, ◌≤◌, Bool, false, not, ◌&&◌, ◌||◌, List, [], ◌∷◌, ◌++◌, filter, ⊤}
use Rattle.std.specs.List.{list_any, AllByRecursion}
use Rattle.el_base.specs.declared.hash.Hash32.{Hash32}
use Rattle.el_tx.specs.Encoding.{total_value}
use Rattle.el_tx.specs.declared.types.Outpoint.{Outpoint}
use Rattle.el_tx.specs.declared.types.TxIn.{TxIn}
use Rattle.el_tx.specs.declared.types.TxOut.{TxOut}
use Rattle.el_tx.specs.declared.types.Tx.{Tx}
use Rattle.el_tx.specs.Hashing.{txid, same_outpoint, is_coinbase}
use Rattle.el_chain.specs.declared.placed.Placed.{Placed}
use Rattle.el_chain.specs.declared.coin.Coin.{Coin}
use Rattle.el_chain.specs.Coins.{is_coin_of, without, coin_made, coins_after, supply}
use Rattle.el_chain.specs.History.{Position, funds}

-- what the coins hold that inputs take, in satoshi, each input its own
abbrev pub inputs_take : List TxIn → List Coin → ℕ
inputs_take [] coins = 0
inputs_take (i ∷ is) coins = supply (filter (is_coin_of i.from) coins) + inputs_take is (without i.from coins)

-- The transaction is no coinbase, and its outputs hold no more than the coins that its inputs take. The coins
-- are those before it.
pub record GivesNoMore (t : Tx) (coins : List Coin) : Type 0 where
  pub other : is_coinbase t ≡ false
  pub less : total_value t.outputs ≤ inputs_take t.inputs coins

-- each of these transactions, one after the other, gives no more than it takes
abbrev pub AllGiveNoMore : ℕ → List Tx → List Coin → Type 0
AllGiveNoMore height [] coins = ⊤
AllGiveNoMore height (t ∷ ts) coins =
    GivesNoMore t coins × AllGiveNoMore height ts (coins_after height t coins)

-- the coin is one of these
abbrev pub IsIn : Coin → List Coin → Type 0
IsIn c [] = ⊥
IsIn c (x ∷ xs) = (c ≡ x) ⊎ IsIn c xs

-- the coins of outputs of a transaction with that txid and height, the first of which has that index
abbrev pub coins_made : Hash32 → ℕ → ℕ → List TxOut → List Coin
coins_made id height index [] = []
coins_made id height index (o ∷ os) = coin_made id height index o ∷ coins_made id height (index + 1) os

-- the coins that the outputs of a position's transaction make
abbrev pub makes : Position → List Coin
makes p = coins_made (txid p.tx) p.height 0 p.tx.outputs

-- the transaction, which is no coinbase, has an input that names the outpoint
abbrev pub takes : Outpoint → Tx → Bool
takes o t = not (is_coinbase t) && list_any (λ (i : TxIn). same_outpoint o i.from) t.inputs

-- the position's transaction takes the outpoint's coin, or makes one in its place
abbrev pub touches : Outpoint → Position → Bool
touches o p = takes o p.tx || list_any (is_coin_of o) (makes p)

-- none of these positions takes or replaces the outpoint's coin
abbrev pub Untouched : Outpoint → List Position → Type 0
Untouched o ps = AllByRecursion (λ p. touches o p ≡ false) ps

-- one of these positions makes the coin, and none after it takes or replaces it
pub record IsMadeIn (c : Coin) (ps : List Position) : Type 0 where
  pub front : List Position
  pub at : Position
  pub later : List Position
  pub places : ps ≡ front ++ at ∷ later
  pub made : IsIn c (makes at)
  pub kept : Untouched c.outpoint later

-- no output of the block has the script hash
abbrev pub PaysNone : List ℕ → Placed → Type 0
PaysNone script_hash b = AllByRecursion (λ t. funds script_hash t ≡ false) b.block.txs

-- The counts of a chain's transactions, position by position.
use Rattle.std.proofs.Common.{◌≡◌, ℕ, suc, ◌+◌, List, [], ◌∷◌, ◌++◌, length, ap, sym, ◌∙◌, append_assoc, append-nil, arith}
use Rattle.el_chain.specs.declared.placed.Placed.{Placed}
use Rattle.el_chain.specs.declared.coin.Coin.{Coin}
use Rattle.el_chain.specs.Chains.{Chain}
use Rattle.el_chain.specs.Coins.{coins_after_all, coins_from, coins}
use Rattle.el_chain.specs.History.{Position, block_positions, positions_from, positions}

-- the positions of one block more
from_more : (height : ℕ) (chain : Chain) (b : Placed) (cs : List Coin)
    → positions_from height (chain ++ b ∷ []) cs ≡ positions_from height chain cs ++ block_positions (height + length chain) b.block.txs (coins_from height chain cs)
from_more height [] b cs =
    append-nil (block_positions height b.block.txs cs) ∙ ap (λ (n : ℕ). block_positions n b.block.txs cs) (let e : height ≡ height + 0 = omega arith in e)
from_more height (x ∷ xs) b cs =
    let mid = coins_after_all height x.block.txs cs in
    ap (λ (ps : List Position). block_positions height x.block.txs cs ++ ps)
    (from_more (height + 1) xs b mid
    ∙ ap (λ (n : ℕ). positions_from (height + 1) xs mid ++ block_positions n b.block.txs (coins_from (height + 1) xs mid)) (let e : height + 1 + length xs ≡ height + suc (length xs) = omega arith in e))
    ∙ sym (append_assoc (block_positions height x.block.txs cs) (positions_from (height + 1) xs mid) (block_positions (height + suc (length xs)) b.block.txs (coins_from (height + 1) xs mid)))

pub positions_more : (chain : Chain) (b : Placed) → positions (chain ++ b ∷ []) ≡ positions chain ++ block_positions (length chain) b.block.txs (coins chain)
positions_more chain b = from_more 0 chain b [] ∙ ap (λ (n : ℕ). positions chain ++ block_positions n b.block.txs (coins chain)) (let e : 0 + length chain ≡ length chain = omega arith in e)

-- the coins after two chains, one behind the other
pub coins_joined : (height : ℕ) (front back : Chain) (cs : List Coin) → coins_from height (front ++ back) cs ≡ coins_from (height + length front) back (coins_from height front cs)
coins_joined height [] back cs = ap (λ (n : ℕ). coins_from n back cs) (let e : height ≡ height + 0 = omega arith in e)
coins_joined height (b ∷ front) back cs =
    let after = coins_after_all height b.block.txs cs in
    coins_joined (height + 1) front back after
    ∙ ap (λ (n : ℕ). coins_from n back (coins_from (height + 1) front after)) (let e : height + 1 + length front ≡ height + suc (length front) = omega arith in e)

-- A script hash that no output has has no history.
use Rattle.std.proofs.Common.{◌≡◌, inl, inr, ℕ, ◌+◌, Bool, true, false, cond, not, List, [], ◌∷◌, refl, ◌∙◌}
use Rattle.std.proofs.lemmas.Bool.{cases_Bool, or_parts, or_from, and_right}
use Rattle.std.specs.List.{list_any, AllByRecursion}
use Rattle.std.specs.Str.{bytes_eq}
use Rattle.el_base.specs.declared.hash.Hash32.{Hash32}
use Rattle.el_tx.specs.declared.types.Outpoint.{Outpoint}
use Rattle.el_tx.specs.declared.types.TxIn.{TxIn}
use Rattle.el_tx.specs.declared.types.TxOut.{TxOut}
use Rattle.el_tx.specs.declared.types.Tx.{Tx}
use Rattle.el_tx.specs.Hashing.{txid, is_coinbase, same_outpoint}
use Rattle.el_chain.specs.declared.coin.Coin.{Coin}
use Rattle.el_chain.specs.Chains.{Chain}
use Rattle.el_chain.specs.Coins.{script_hash_of, without, add_coin, coin_made, spend_inputs, add_outputs, coins_left, coins_after, coins_after_all}
use Rattle.el_chain.specs.CoinLaws.{PaysNone}
use Rattle.el_chain.specs.History.{funds, spends, has_own}
use Rattle.el_chain.specs.Listings.{listed_in, listed_from}
use Rattle.el_chain.proofs.Histories.{own_without, own_put, blocks_listed}

-- no coin has the script hash
abbrev pub OwnNone : List ℕ → List Coin → Type 0
OwnNone script_hash cs = (o : Outpoint) → has_own script_hash cs o ≡ false

cond_false : (b c : Bool) → c ≡ false → cond b false c ≡ false
cond_false true c e = refl
cond_false false c e = e

none_without : (script_hash : List ℕ) (p : Outpoint) (cs : List Coin) → OwnNone script_hash cs → OwnNone script_hash (without p cs)
none_without script_hash p cs h o = own_without script_hash p cs o ∙ cond_false (same_outpoint p o) (has_own script_hash cs o) (h o)

none_put : (script_hash : List ℕ) (c : Coin) (cs : List Coin) → OwnNone script_hash cs → bytes_eq c.script.0 script_hash ≡ false → OwnNone script_hash (add_coin c cs)
none_put script_hash c cs h other o = own_put script_hash c cs o ∙ rw other (cond_false (same_outpoint c.outpoint o) (has_own script_hash cs o) (h o))

none_inputs : (script_hash : List ℕ) (is : List TxIn) (cs : List Coin) → OwnNone script_hash cs → OwnNone script_hash (spend_inputs is cs)
none_inputs script_hash [] cs h = h
none_inputs script_hash (i ∷ is) cs h = none_inputs script_hash is (without i.from cs) (none_without script_hash i.from cs h)

none_outputs : (script_hash : List ℕ) (id : Hash32) (height n : ℕ) (os : List TxOut) (cs : List Coin) → OwnNone script_hash cs
    → list_any (λ (o : TxOut). bytes_eq (script_hash_of o) script_hash) os ≡ false → OwnNone script_hash (add_outputs id height n os cs)
none_outputs script_hash id height n [] cs h other = h
none_outputs script_hash id height n (o ∷ os) cs h other =
    let parts = or_parts (bytes_eq (script_hash_of o) script_hash) (list_any (λ (x : TxOut). bytes_eq (script_hash_of x) script_hash) os) other in
    none_outputs script_hash id height (n + 1) os (add_coin (coin_made id height n o) cs) (none_put script_hash (coin_made id height n o) cs h parts.0) parts.1

none_left : (script_hash : List ℕ) (t : Tx) (cs : List Coin) → OwnNone script_hash cs → OwnNone script_hash (coins_left t cs)
none_left script_hash t cs h = elim (cases_Bool (is_coinbase t)) [
  | inl e ↦ rw e h
  | inr e ↦ rw e (none_inputs script_hash t.inputs cs h)
]

none_after : (script_hash : List ℕ) (height : ℕ) (t : Tx) (cs : List Coin) → OwnNone script_hash cs → funds script_hash t ≡ false → OwnNone script_hash (coins_after height t cs)
none_after script_hash height t cs h other = none_outputs script_hash (txid t) height 0 t.outputs (coins_left t cs) (none_left script_hash t cs h) other

none_taken : (script_hash : List ℕ) (is : List TxIn) (cs : List Coin) → OwnNone script_hash cs → list_any (λ (x : TxIn). has_own script_hash cs x.from) is ≡ false
none_taken script_hash [] cs h = refl
none_taken script_hash (i ∷ is) cs h = or_from (has_own script_hash cs i.from) (list_any (λ (x : TxIn). has_own script_hash cs x.from) is) (h i.from) (none_taken script_hash is cs h)

block_none : (script_hash : List ℕ) (height : ℕ) (ts : List Tx) (cs : List Coin) → OwnNone script_hash cs → AllByRecursion (λ t. funds script_hash t ≡ false) ts
    → (listed_in script_hash height ts cs ≡ []) × OwnNone script_hash (coins_after_all height ts cs)
block_none script_hash height [] cs h all = (refl, h)
block_none script_hash height (t ∷ ts) cs h all =
    let rest = block_none script_hash height ts (coins_after height t cs) (none_after script_hash height t cs h all.0) all.1 in
    let none = or_from (funds script_hash t) (spends script_hash cs t) all.0 (and_right (not (is_coinbase t)) (list_any (λ (x : TxIn). has_own script_hash cs x.from) t.inputs) (none_taken script_hash t.inputs cs h)) in
    (rw none rest.0, rest.1)

pub chain_none : (script_hash : List ℕ) (height : ℕ) (chain : Chain) (cs : List Coin) → OwnNone script_hash cs → AllByRecursion (PaysNone script_hash) chain
    → listed_from script_hash height chain cs ≡ []
chain_none script_hash height [] cs h all = refl
chain_none script_hash height (b ∷ bs) cs h all =
    let here = block_none script_hash height b.block.txs cs h all.0 in
    let rest = chain_none script_hash (height + 1) bs (coins_after_all height b.block.txs cs) here.1 all.1 in
    blocks_listed script_hash height b bs cs ∙ rw (here.0, rest) refl

pub no_own : (script_hash : List ℕ) → (o : Outpoint) → has_own script_hash [] o ≡ false
no_own script_hash o = refl

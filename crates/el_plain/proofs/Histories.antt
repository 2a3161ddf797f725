-- The history of a script hash by the outpoints of its own coins alone.
use Rattle.std.proofs.Common.{◌≡◌, ℕ, ◌+◌, ◌<◌, Bool, true, false, cond, ◌||◌, List, ◌∷◌, ◌++◌, length, drop, get_or, refl, ap, sym, ◌∙◌, append_assoc}
use Rattle.std.specs.List.{list_any}
use Rattle.std.specs.Str.{bytes_eq}
use Rattle.indexmap.specs.IndexSet.{IndexSet, contains}
use Rattle.el_tx.specs.declared.types.Outpoint.{Outpoint}
use Rattle.el_tx.specs.declared.types.TxIn.{TxIn}
use Rattle.el_tx.specs.declared.types.Tx.{Tx}
use Rattle.el_tx.specs.Hashing.{same_outpoint, is_coinbase}
use Rattle.el_chain.specs.declared.placed.Placed.{Placed}
use Rattle.el_chain.specs.declared.coin.Coin.{Coin}
use Rattle.el_chain.specs.declared.entry.Entry.{Entry}
use Rattle.el_chain.specs.Chains.{Chain}
use Rattle.el_chain.specs.Coins.{without, add_coin, coins_after, coins_after_all}
use Rattle.el_plain.specs.within.CoinTables.{HasOwnOutpoints}
use Rattle.el_chain.specs.History.{spends, has_own}
use Rattle.el_chain.specs.Listings.{entry_listed, listed_in, listed_from}
use Rattle.el_base.proofs.Lists.{left_at}
use Rattle.el_chain.proofs.Histories.{own_without, own_put, blocks_listed}

-- a set of own outpoints, as a coin is taken
pub own_taken : {S : Type 0} (own new : IndexSet Outpoint S) (script_hash : List ℕ) (coins : List Coin) (p : Outpoint) → HasOwnOutpoints own script_hash coins
    → ((o : Outpoint) → contains same_outpoint new o ≡ cond (same_outpoint p o) false (contains same_outpoint own o)) → HasOwnOutpoints new script_hash (without p coins)
own_taken own new script_hash coins p h says = λ o. says o ∙ ap (cond (same_outpoint p o) false) (h o) ∙ sym (own_without script_hash p coins o)

-- as a coin is put
pub own_made : {S : Type 0} (own new : IndexSet Outpoint S) (script_hash : List ℕ) (coins : List Coin) (c : Coin) (is_own : Bool) → HasOwnOutpoints own script_hash coins
    → ((o : Outpoint) → contains same_outpoint new o ≡ cond (same_outpoint c.outpoint o) is_own (contains same_outpoint own o))
    → is_own ≡ bytes_eq c.script.0 script_hash → HasOwnOutpoints new script_hash (add_coin c coins)
own_made own new script_hash coins c is_own h says is =
    λ o. says o ∙ ap (λ (b : Bool). cond (same_outpoint c.outpoint o) is_own b) (h o) ∙ ap (λ (b : Bool). cond (same_outpoint c.outpoint o) b (has_own script_hash coins o)) is
    ∙ sym (own_put script_hash c coins o)

-- an input that takes none of the script hash's coins
pub spends_step : (script_hash : List ℕ) (coins : List Coin) (inputs : List TxIn) (n : ℕ) (i : TxIn) → n < length inputs → i ≡ get_or inputs n i
    → has_own script_hash coins i.from ≡ false → list_any (λ (x : TxIn). has_own script_hash coins x.from) (drop n inputs) ≡ list_any (λ (x : TxIn). has_own script_hash coins x.from) (drop (n + 1) inputs)
spends_step script_hash coins inputs n i lt is none =
    let left = left_at inputs n i lt is in
    rw left (passed (drop (n + 1) inputs))
  where
    passed : (is : List TxIn) → list_any (λ (x : TxIn). has_own script_hash coins x.from) (i ∷ is) ≡ list_any (λ (x : TxIn). has_own script_hash coins x.from) is
    passed is = ap (λ (b : Bool). b || list_any (λ (x : TxIn). has_own script_hash coins x.from) is) none

-- an input that takes one
pub spends_stop : (script_hash : List ℕ) (coins : List Coin) (inputs : List TxIn) (n : ℕ) (i : TxIn) → n < length inputs → i ≡ get_or inputs n i
    → has_own script_hash coins i.from ≡ true → list_any (λ (x : TxIn). has_own script_hash coins x.from) (drop n inputs) ≡ true
spends_stop script_hash coins inputs n i lt is some =
    let left = left_at inputs n i lt is in
    rw left (ap (λ (b : Bool). b || list_any (λ (x : TxIn). has_own script_hash coins x.from) (drop (n + 1) inputs)) some)

-- a transaction that is no coinbase takes what its inputs take
pub spends_by : (script_hash : List ℕ) (coins : List Coin) (t : Tx) (inputs : List TxIn) (b : Bool) → inputs ≡ t.inputs → is_coinbase t ≡ false
    → b ≡ list_any (λ (x : TxIn). has_own script_hash coins x.from) inputs → b ≡ spends script_hash coins t
spends_by script_hash coins t inputs b same other is = is ∙ ap (list_any (λ (x : TxIn). has_own script_hash coins x.from)) same ∙ rw other refl

-- a transaction's entry was found, and those of the transactions after it are left
pub block_step : (script_hash : List ℕ) (height n : ℕ) (ts : List Tx) (t : Tx) (coins : List Coin) (found new whole : List Entry) → n < length ts → t ≡ get_or ts n t
    → found ++ listed_in script_hash height (drop n ts) coins ≡ whole → new ≡ found ++ entry_listed script_hash height t coins
    → new ++ listed_in script_hash height (drop (n + 1) ts) (coins_after height t coins) ≡ whole
block_step script_hash height n ts t coins found new whole lt is so more =
    let left = left_at ts n t lt is in
    ap (λ (es : List Entry). es ++ listed_in script_hash height (drop (n + 1) ts) (coins_after height t coins)) more
    ∙ append_assoc found (entry_listed script_hash height t coins) (listed_in script_hash height (drop (n + 1) ts) (coins_after height t coins))
    ∙ ap (λ (us : List Tx). found ++ listed_in script_hash height us coins) (sym left) ∙ so

-- a block's entries were found, and those of the blocks after it are left
pub chain_step : (script_hash : List ℕ) (n : ℕ) (chain : Chain) (b : Placed) (ts : List Tx) (coins : List Coin) (found new whole : List Entry) → n < length chain
    → b ≡ get_or chain n b → ts ≡ b.block.txs → found ++ listed_from script_hash n (drop n chain) coins ≡ whole → new ≡ found ++ listed_in script_hash n ts coins
    → new ++ listed_from script_hash (n + 1) (drop (n + 1) chain) (coins_after_all n ts coins) ≡ whole
chain_step script_hash n chain b ts coins found new whole lt is txs so more =
    let left = left_at chain n b lt is in
    ap (λ (es : List Entry). es ++ listed_from script_hash (n + 1) (drop (n + 1) chain) (coins_after_all n ts coins)) more
    ∙ append_assoc found (listed_in script_hash n ts coins) (listed_from script_hash (n + 1) (drop (n + 1) chain) (coins_after_all n ts coins))
    ∙ ap (λ (us : List Tx). found ++ (listed_in script_hash n us coins ++ listed_from script_hash (n + 1) (drop (n + 1) chain) (coins_after_all n us coins))) txs
    ∙ ap (λ (es : List Entry). found ++ es) (sym (blocks_listed script_hash n b (drop (n + 1) chain) coins))
    ∙ ap (λ (bs : Chain). found ++ listed_from script_hash n bs coins) (sym left) ∙ so

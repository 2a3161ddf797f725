-- Who took the newest coin of an outpoint, transaction by transaction.
use Rattle.std.proofs.Common.{rules, ◌≡◌, inl, inr, ℕ, ◌+◌, ◌<◌, ◌≤◌, Bool, true, false, ◌&&◌, ◌||◌, nat_lt, List, [], ◌∷◌, ◌++◌, length, drop, get_or, Option, refl, ap, sym, ◌∙◌, arith}
use Rattle.std.proofs.lemmas.Bool.{cases_Bool}
use Rattle.std.proofs.lemmas.List.Sums.{fold-append}
use Rattle.std.specs.List.{fold, list_any}
use Rattle.std.specs.Str.{bytes_eq}
use Rattle.std.specs.Prelude.{◌==◌}
use Rattle.el_base.proofs.Lists.{left_at}
use Rattle.el_base.specs.declared.hash.Hash32.{Hash32}
use Rattle.el_tx.specs.declared.types.Outpoint.{Outpoint}
use Rattle.el_tx.specs.declared.types.TxOut.{TxOut}
use Rattle.el_tx.specs.declared.types.Tx.{Tx}
use Rattle.el_tx.specs.Hashing.{full_encoding}
use Rattle.el_chain.specs.declared.placed.Placed.{Placed}
use Rattle.el_chain.specs.declared.coin.Coin.{Coin}
use Rattle.el_chain.specs.declared.entry.Entry.{Entry}
use Rattle.el_chain.specs.Chains.{Chain}
use Rattle.el_chain.specs.Coins.{is_coin_of, coins_after, coins_after_all}
use Rattle.el_chain.specs.CoinLaws.{coins_made}
use Rattle.el_chain.specs.History.{Position, positions_in, block_positions, first_start, positions_from}
use Rattle.el_model.specs.Queries.{taken_after}

-- a transaction was looked at, and those after it are left
pub spender_step : (o : Outpoint) (height pos start n : ℕ) (ts : List Tx) (t : Tx) (coins : List Coin) (found new whole : Option Entry) → n < length ts → t ≡ get_or ts n t
    → ((p : Position) → p.tx ≡ t → p.height ≡ height → new ≡ taken_after o found p)
    → fold (taken_after o) found (positions_in height pos start (drop n ts) coins) ≡ whole
    → fold (taken_after o) new (positions_in height (pos + 1) (start + length (full_encoding t)) (drop (n + 1) ts) (coins_after height t coins)) ≡ whole
spender_step o height pos start n ts t coins found new whole lt is says so =
    let left = left_at ts n t lt is in
    let later = positions_in height (pos + 1) (start + length (full_encoding t)) (drop (n + 1) ts) (coins_after height t coins) in
    ap (λ e. fold (taken_after o) e later) (says (record { height = height; pos = pos; start = start; tx = t; before = coins }) refl refl)
    ∙ ap (λ us. fold (taken_after o) found (positions_in height pos start us coins)) (sym left) ∙ so

-- a block was looked at, and those after it are left
pub spender_more : (o : Outpoint) (n : ℕ) (chain : Chain) (b : Placed) (ts : List Tx) (coins : List Coin) (found new whole : Option Entry) → n < length chain → b ≡ get_or chain n b → ts ≡ b.block.txs
    → ((pos start : ℕ) (coins : List Coin) → new ≡ fold (taken_after o) found (positions_in n pos start ts coins))
    → fold (taken_after o) found (positions_from n (drop n chain) coins) ≡ whole
    → fold (taken_after o) new (positions_from (n + 1) (drop (n + 1) chain) (coins_after_all n ts coins)) ≡ whole
spender_more o n chain b ts coins found new whole lt is txs says so =
    let left = left_at chain n b lt is in
    let later = positions_from (n + 1) (drop (n + 1) chain) (coins_after_all n ts coins) in
    ap (λ e. fold (taken_after o) e later) (says 0 (first_start ts) coins)
    ∙ sym (fold-append (taken_after o) found (block_positions n ts coins) later)
    ∙ ap (λ (us : List Tx). fold (taken_after o) found (block_positions n us coins ++ positions_from (n + 1) (drop (n + 1) chain) (coins_after_all n us coins))) txs
    ∙ ap (λ (bs : Chain). fold (taken_after o) found (positions_from n bs coins)) (sym left) ∙ so

-- no coin of another transaction is the outpoint's
pub made_apart : (id : Hash32) (height i : ℕ) (o : Outpoint) (os : List TxOut) → bytes_eq id.0 o.txid.0 ≡ false → list_any (is_coin_of o) (coins_made id height i os) ≡ false
made_apart id height i o [] e = refl
made_apart id height i o (x ∷ os) e = rw e (made_apart id height (i + 1) o os e)

-- none of the coins from the index on is one before it
pub made_past : (id : Hash32) (height i : ℕ) (o : Outpoint) (os : List TxOut) → o.index < i → list_any (is_coin_of o) (coins_made id height i os) ≡ false
made_past id height i o [] lt = refl
made_past id height i o (x ∷ os) lt =
    let other : (i == o.index) ≡ false = search rules in
    rw other (by (bytes_eq id.0 o.txid.0) (made_past id height (i + 1) o os (omega arith)))
  where
    by : (b : Bool) → list_any (is_coin_of o) (coins_made id height (i + 1) os) ≡ false → ((b && false) || list_any (is_coin_of o) (coins_made id height (i + 1) os)) ≡ false
    by true e = e
    by false e = e

-- the coin of the outpoint is among those of its transaction where it has so many outputs
pub made_here : (id : Hash32) (height i : ℕ) (o : Outpoint) (os : List TxOut) → bytes_eq id.0 o.txid.0 ≡ true → i ≤ o.index
    → list_any (is_coin_of o) (coins_made id height i os) ≡ nat_lt o.index (i + length os)
made_here id height i o [] e le =
    let none : nat_lt o.index (i + 0) ≡ false = search rules in
    sym none
made_here id height i o (x ∷ os) e le = elim (cases_Bool (i == o.index)) [
  | inl h ↦
      let within : nat_lt o.index (i + length (x ∷ os)) ≡ true = search rules in
      rw (e, h) (sym within)
  | inr h ↦
      let rest = made_here id height (i + 1) o os e (search rules) in
      let same : i + 1 + length os ≡ i + length (x ∷ os) = omega arith in
      rw (e, h) (rest ∙ ap (λ n. nat_lt o.index n) same)
]

pub made_then : (id : Hash32) (height : ℕ) (o : Outpoint) (os : List TxOut) → bytes_eq id.0 o.txid.0 ≡ true → nat_lt o.index (length os) ≡ list_any (is_coin_of o) (coins_made id height 0 os)
made_then id height o os e =
    let same : length os ≡ 0 + length os = omega arith in
    ap (λ n. nat_lt o.index n) same ∙ sym (made_here id height 0 o os e (omega arith))

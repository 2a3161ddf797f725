-- What is asked of the lists of a chain is what the chain says.
use Rattle.std.proofs.Common.{◌≡◌, inl, inr, ℕ, zero, suc, ◌+◌, ◌==◌, true, false, List, [], ◌∷◌, ◌++◌, length, map, filter, Option, None, Some, option_map, option_and_then, refl, ap, sym, ◌∙◌, append_assoc, arith, length-append, ne_eqb, eq-eqb, find, bytes_eq, slice_get}
use Rattle.std.proofs.lemmas.Bool.{cases_Bool, and_right, true≢false}
use Rattle.std.proofs.lemmas.List.{map-append, length-map, get_or_at}
use Rattle.std.specs.List.{AllByRecursion}
use Rattle.el_base.specs.declared.hash.Hash32.{Hash32}
use Rattle.el_tx.specs.declared.types.Outpoint.{Outpoint}
use Rattle.el_tx.specs.declared.types.TxOut.{TxOut}
use Rattle.el_tx.specs.Hashing.{txid}
use Rattle.el_chain.specs.RowCounts.{is_script_among, spending_inputs}
use Rattle.el_chain.specs.declared.coin.Coin.{Coin}
use Rattle.el_chain.specs.Chains.{Chain, zero_hash}
use Rattle.el_chain.specs.Coins.{is_coin_of, coins, supply}
use Rattle.el_chain.specs.CoinLaws.{coins_made, makes}
use Rattle.el_chain.proofs.CoinLists.{same_gives}
use Rattle.el_chain.specs.Headers.{same_hash}
use Rattle.el_tables.specs.Lists.{ListedTx, ListedOut, ListedEntry, Lists, is_unspent, script_number, output_number, unspent_at, if_unspent, balance_of}
use Rattle.el_chain.specs.History.{Position, positions}
use Rattle.el_tables.specs.ChainLists.{Output, output, outputs_from, outputs, listed_out, listed_position, txs_from, scripts_of, lists_of, lists}
use Rattle.el_tables.specs.Queries.{height_at, listed_balance, shown_coin, listed_coin}
use Rattle.el_tables.proofs.Outputs.{coins_of, chain_coins}
use Rattle.el_tables.proofs.Names.{live, NoneLive, OnlyAt, NamesBy, none_coins}
use Rattle.el_tables.proofs.Numbering.{names_all}
use Rattle.el_tables.proofs.Scripts.{hash_gives, all_met, number_at, number_apart}
use Rattle.el_tables.proofs.Steps.{AllHave}
use Rattle.el_tables.proofs.Connects.{outputs_have}

-- the coin of an outpoint, and the coins of a script hash
abbrev coin_in : List Coin → Outpoint → Option Coin
coin_in coins o = find (is_coin_of o) coins

abbrev pub own_coins : List ℕ → List Coin → List Coin
own_coins script coins = filter (λ (c : Coin). bytes_eq c.script.0 script) coins

-- 1. Balances

balance_is : (s : Hash32) (scripts : List Hash32) (xs : List Output) → AllHave scripts xs
    → supply (own_coins s.0 (coins_of xs)) ≡ balance_of (script_number s scripts) (map (listed_out scripts) xs)
balance_is s scripts [] have = refl
balance_is s scripts (x ∷ xs) have =
    let rest = balance_is s scripts xs have.1 in
    elim (cases_Bool (is_unspent x.state)) [
      | inl u ↦ elim (cases_Bool (same_hash x.coin.script s)) [
        | inl h ↦
            let self : (script_number x.coin.script scripts == script_number s scripts) ≡ true =
            eq-eqb (script_number x.coin.script scripts) (script_number s scripts) (ap (λ (t : Hash32). script_number t scripts) (hash_gives x.coin.script s h)) in
            rw (u, h, self, rest) refl
        | inr h ↦
            let apart : (script_number x.coin.script scripts == script_number s scripts) ≡ false =
            ne_eqb (script_number x.coin.script scripts) (script_number s scripts) (λ e. number_apart s x.coin.script scripts have.0 e h) in
            rw (u, h, apart) (rest ∙ (let e : balance_of (script_number s scripts) (map (listed_out scripts) xs) ≡ 0 + balance_of (script_number s scripts) (map (listed_out scripts) xs) = omega arith in e))
      ]
      | inr u ↦
          let none = and_right (script_number x.coin.script scripts == script_number s scripts) (is_unspent x.state) u in
          rw (none, u) (rest ∙ (let e : balance_of (script_number s scripts) (map (listed_out scripts) xs) ≡ 0 + balance_of (script_number s scripts) (map (listed_out scripts) xs) = omega arith in e))
    ]

pub balances : (chain : Chain) (script : List ℕ) → supply (own_coins script (coins chain)) ≡ listed_balance script (lists chain)
balances chain script =
    ap (λ (cs : List Coin). supply (own_coins script cs)) (chain_coins chain)
    ∙ balance_is (record { 0 = script }) (scripts_of (positions chain)) (outputs (positions chain)) (outputs_have (scripts_of (positions chain)) 0 (positions chain) (all_met (positions chain)))

-- 2. Coins

-- the output knows its height and its script
abbrev pub Knows : List ListedTx → List Hash32 → List Output → Type 0
Knows txs scripts xs = AllByRecursion (λ (x : Output). (height_at x.tx txs ≡ x.coin.height) × (is_script_among x.coin.script scripts ≡ true)) xs

pub height_of : (front : List ListedTx) (t : ListedTx) (back : List ListedTx) (n : ℕ) → length front ≡ n → height_at n (front ++ t ∷ back) ≡ t.height
height_of front t back n at =
    let hs = map-append (λ (u : ListedTx). u.height) front (t ∷ back) in
    rw hs (get_or_at (map (λ (u : ListedTx). u.height) front) t.height (map (λ (u : ListedTx). u.height) back) 0 n (length-map front (λ (u : ListedTx). u.height) ∙ at))

know_joined : (txs : List ListedTx) (scripts : List Hash32) (xs ys : List Output) → Knows txs scripts xs → Knows txs scripts ys → Knows txs scripts (xs ++ ys)
know_joined txs scripts [] ys a b = b
know_joined txs scripts (x ∷ xs) ys a b = (a.0, know_joined txs scripts xs ys a.1 b)

heights_known : (front : List ListedTx) (a b n : ℕ) (scripts : List Hash32) (ps : List Position) → length front ≡ n → AllHave scripts (outputs_from n ps)
    → Knows (front ++ txs_from a b ps) scripts (outputs_from n ps)
heights_known front a b n scripts [] at have = tt
heights_known front a b n scripts (p ∷ ps) at have =
    let t = listed_position a b p in
    let back = txs_from (a + length p.tx.outputs) (b + length (spending_inputs p.tx)) ps in
    let parts = split (makes p) have in
    let moved = append_assoc front (t ∷ []) back in
    let rest = heights_known (front ++ t ∷ []) (a + length p.tx.outputs) (b + length (spending_inputs p.tx)) (n + 1) scripts ps (let l = length-append front (t ∷ []) in omega arith) parts.1 in
    let others = rw moved at rest in
    know_joined (front ++ t ∷ back) scripts (map (output n ps) (makes p)) (outputs_from (n + 1) ps)
    (own (front ++ t ∷ back) (height_of front t back n at) 0 p.tx.outputs parts.0) others
  where
    split : (cs : List Coin) → AllHave scripts (map (output n ps) cs ++ outputs_from (n + 1) ps) → AllHave scripts (map (output n ps) cs) × AllHave scripts (outputs_from (n + 1) ps)
    split [] h = (tt, h)
    split (c ∷ cs) h = let rest = split cs h.1 in ((h.0, rest.0), rest.1)

    own : (txs : List ListedTx) → height_at n txs ≡ p.height → (i : ℕ) (os : List TxOut) → AllHave scripts (map (output n ps) (coins_made (txid p.tx) p.height i os))
        → Knows txs scripts (map (output n ps) (coins_made (txid p.tx) p.height i os))
    own txs h i [] all = tt
    own txs h i (o ∷ os) all = ((h, all.0), own txs h (i + 1) os all.1)

find_none : (o : Outpoint) (cs : List Coin) → filter (is_coin_of o) cs ≡ [] → coin_in cs o ≡ None
find_none o [] e = refl
find_none o (c ∷ cs) e = elim (cases_Bool (is_coin_of o c)) [
  | inl h ↦ let bad = rw h at e in absurd (wrong bad)
  | inr h ↦ let rest = rw h at e in rw h (find_none o cs rest)
]
  where
    wrong : c ∷ filter (is_coin_of o) cs ≡ [] → ⊥
    wrong f = cc

coin_here : (o : Outpoint) (txs : List ListedTx) (scripts : List Hash32) (ins : List ℕ) (es : List ListedEntry) (outs : List ListedOut) (x : Output) → is_coin_of o x.coin ≡ true
    → height_at x.tx txs ≡ x.coin.height → is_script_among x.coin.script scripts ≡ true
    → x.coin ≡ shown_coin o (record { txs = txs; outs = outs; ins = ins; scripts = scripts; entries = es }) (listed_out scripts x)
coin_here o txs scripts ins es outs x is height there =
    let same = same_gives x.coin.outpoint o is in
    let hash = number_at x.coin.script zero_hash scripts there in
    rw (hash, height) (ap (λ (p : Outpoint). record { outpoint = p; value = x.coin.value; script = x.coin.script; height = x.coin.height }) same)

coin_at : (k : ℕ) (o : Outpoint) (l : Lists) (scripts : List Hash32) (txs : List ListedTx) (xs : List Output) → l.txs ≡ txs → l.scripts ≡ scripts → Knows txs scripts xs → OnlyAt k o xs
    → unspent_at k (map (listed_out scripts) xs) ≡ true
    → coin_in (coins_of xs) o ≡ option_map (shown_coin o l) (slice_get (map (listed_out scripts) xs) k)
coin_at k o l scripts txs [] et es know at there = absurd at
coin_at zero o l scripts txs (x ∷ xs) et es know at there =
    let h = at.0 in
    let shown = coin_here o txs scripts l.ins l.entries l.outs x h know.0.0 know.0.1 in
    rw (there, h, et, es) (ap (λ (c : Coin). Some c) shown)
coin_at (suc k) o l scripts txs (x ∷ xs) et es know at there =
    let rest = coin_at k o l scripts txs xs et es know.1 at.1 there in
    elim (cases_Bool (is_unspent x.state)) [
      | inl u ↦ elim (cases_Bool (is_coin_of o x.coin)) [
        | inl h ↦ absurd (true≢false (sym (both h u) ∙ at.0))
        | inr h ↦ rw (u, h) rest
      ]
      | inr u ↦ rw u rest
    ]
  where
    both : is_coin_of o x.coin ≡ true → is_unspent x.state ≡ true → live o x ≡ true
    both h u = rw (h, u) refl

dead_coin : (k : ℕ) (o : Outpoint) (scripts : List Hash32) (xs : List Output) → OnlyAt k o xs → unspent_at k (map (listed_out scripts) xs) ≡ false → NoneLive o xs
dead_coin k o scripts [] at dead = absurd at
dead_coin zero o scripts (x ∷ xs) at dead = (and_right (is_coin_of o x.coin) (is_unspent x.state) dead, at.1)
dead_coin (suc k) o scripts (x ∷ xs) at dead = (at.0, dead_coin k o scripts xs at.1 dead)

coin_case : (o : Outpoint) (l : Lists) (xs : List Output) → l.outs ≡ map (listed_out l.scripts) xs → Knows l.txs l.scripts xs → (r : Option ℕ) → NamesBy o r xs
    → coin_in (coins_of xs) o ≡ option_map (shown_coin o l) (option_and_then (λ k. slice_get (map (listed_out l.scripts) xs) k) (option_and_then (if_unspent (map (listed_out l.scripts) xs)) r))
coin_case o l xs is know None h = find_none o (coins_of xs) (none_coins o xs h)
coin_case o l xs is know (Some k) h = elim (cases_Bool (unspent_at k (map (listed_out l.scripts) xs))) [
  | inl u ↦ rw u (coin_at k o l l.scripts l.txs xs refl refl know h u)
  | inr u ↦ rw u (find_none o (coins_of xs) (none_coins o xs (dead_coin k o l.scripts xs h u)))
]

pub coin_answers : (chain : Chain) (o : Outpoint) → coin_in (coins chain) o ≡ listed_coin o (lists chain)
coin_answers chain o =
    let ps = positions chain in
    let scripts = scripts_of ps in
    let know = heights_known [] 0 0 0 scripts ps refl (outputs_have scripts 0 ps (all_met ps)) in
    ap (λ (cs : List Coin). coin_in cs o) (chain_coins chain)
    ∙ coin_case o (lists_of ps) (outputs ps) refl know (output_number o (txs_from 0 0 ps)) (names_all ps o)

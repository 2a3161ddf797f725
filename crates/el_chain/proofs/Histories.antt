-- The history of a script hash by the outpoints of its own coins alone.
use Rattle.std.proofs.Common.{◌≡◌, inl, inr, ℕ, ◌+◌, Bool, true, false, cond, ◌&&◌, ◌||◌, List, [], ◌∷◌, ◌++◌, length, map, filter, refl, ap, ◌∙◌}
use Rattle.std.proofs.lemmas.Bool.{cases_Bool}
use Rattle.std.proofs.lemmas.List.{map-append}
use Rattle.std.proofs.lemmas.List.Elements.{filter-append}
use Rattle.std.proofs.Math.Bool.{or-false}
use Rattle.std.specs.Str.{bytes_eq}
use Rattle.el_tx.specs.declared.types.Outpoint.{Outpoint}
use Rattle.el_tx.specs.declared.types.Tx.{Tx}
use Rattle.el_tx.specs.Hashing.{full_encoding, same_outpoint}
use Rattle.el_chain.specs.declared.placed.Placed.{Placed}
use Rattle.el_chain.specs.declared.coin.Coin.{Coin}
use Rattle.el_chain.specs.declared.entry.Entry.{Entry}
use Rattle.el_chain.specs.Chains.{Chain}
use Rattle.el_chain.specs.Coins.{without, add_coin, coins_after, coins_after_all}
use Rattle.el_chain.specs.History.{Position, funds, concerns, entry, positions_in, block_positions, first_start, positions_from, has_own}
use Rattle.el_chain.specs.Listings.{entry_listed, entries_of, listed_in, listed_from}
use Rattle.el_chain.proofs.CoinLists.{same_gives, apart_turned}

-- the script hash's own coins where one coin is taken
pub own_without : (script_hash : List ℕ) (p : Outpoint) (coins : List Coin) (o : Outpoint)
    → has_own script_hash (without p coins) o ≡ cond (same_outpoint p o) false (has_own script_hash coins o)
own_without script_hash p [] o = elim (cases_Bool (same_outpoint p o)) [
  | inl h ↦ rw h refl
  | inr h ↦ rw h refl
]
own_without script_hash p (c ∷ cs) o = elim (cases_Bool (same_outpoint c.outpoint p)) [
  | inl h ↦
      let is = same_gives c.outpoint p h in
      rw h (own_without script_hash p cs o ∙ by_p is (same_outpoint p o) refl)
  | inr h ↦ rw h (by_o h (own_without script_hash p cs o) (same_outpoint c.outpoint o) refl)
]
  where
    by_p : c.outpoint ≡ p → (b : Bool) → same_outpoint p o ≡ b
        → cond (same_outpoint p o) false (has_own script_hash cs o)
        ≡ cond (same_outpoint p o) false ((same_outpoint c.outpoint o && bytes_eq c.script.0 script_hash) || has_own script_hash cs o)
    by_p is true e = rw e refl
    by_p is false e = rw (e, is, e) refl

    by_o : same_outpoint c.outpoint p ≡ false → has_own script_hash (without p cs) o ≡ cond (same_outpoint p o) false (has_own script_hash cs o)
        → (b : Bool) → same_outpoint c.outpoint o ≡ b
        → ((same_outpoint c.outpoint o && bytes_eq c.script.0 script_hash) || has_own script_hash (without p cs) o)
        ≡ cond (same_outpoint p o) false ((same_outpoint c.outpoint o && bytes_eq c.script.0 script_hash) || has_own script_hash cs o)
    by_o apart rest true e =
        let is = same_gives c.outpoint o e in
        let other = rw (← is, apart_turned c.outpoint p apart) at rest in
        rw (e, ← is, apart_turned c.outpoint p apart, other) refl
    by_o apart rest false e = rw e rest

-- where one more stands after
pub own_more : (script_hash : List ℕ) (coins : List Coin) (c : Coin) (o : Outpoint)
    → has_own script_hash (coins ++ c ∷ []) o ≡ (has_own script_hash coins o || (same_outpoint c.outpoint o && bytes_eq c.script.0 script_hash))
own_more script_hash [] c o = or-false (same_outpoint c.outpoint o && bytes_eq c.script.0 script_hash)
own_more script_hash (x ∷ xs) c o = elim (cases_Bool (same_outpoint x.outpoint o && bytes_eq x.script.0 script_hash)) [
  | inl h ↦ rw h refl
  | inr h ↦ rw h (own_more script_hash xs c o)
]

-- where a coin is put
pub own_put : (script_hash : List ℕ) (c : Coin) (coins : List Coin) (o : Outpoint)
    → has_own script_hash (add_coin c coins) o ≡ cond (same_outpoint c.outpoint o) (bytes_eq c.script.0 script_hash) (has_own script_hash coins o)
own_put script_hash c coins o = own_more script_hash (without c.outpoint coins) c o ∙ rw (own_without script_hash c.outpoint coins o) (by (same_outpoint c.outpoint o) refl)
  where
    by : (b : Bool) → same_outpoint c.outpoint o ≡ b
        → (cond (same_outpoint c.outpoint o) false (has_own script_hash coins o) || (same_outpoint c.outpoint o && bytes_eq c.script.0 script_hash))
        ≡ cond (same_outpoint c.outpoint o) (bytes_eq c.script.0 script_hash) (has_own script_hash coins o)
    by true e = rw e refl
    by false e = rw e (or-false (has_own script_hash coins o))

-- the entries of positions, of which one stands before the others
pub entries_before : (script_hash : List ℕ) (p : Position) (ps : List Position)
    → entries_of script_hash (p ∷ ps) ≡ cond (concerns script_hash p) (entry p ∷ []) [] ++ entries_of script_hash ps
entries_before script_hash p ps = elim (cases_Bool (concerns script_hash p)) [
  | inl h ↦ rw h refl
  | inr h ↦ rw h refl
]

-- the entries of positions, one part after the other
pub entries_joined : (script_hash : List ℕ) (ps qs : List Position) → entries_of script_hash (ps ++ qs) ≡ entries_of script_hash ps ++ entries_of script_hash qs
entries_joined script_hash ps qs =
    ap (map entry) (filter-append (concerns script_hash) ps qs) ∙ map-append entry (filter (concerns script_hash) ps) (filter (concerns script_hash) qs)

-- a position that concerns the script hash is listed once
pub once_listed : (script_hash : List ℕ) (p : Position) → funds script_hash p.tx ≡ true → map entry (filter (concerns script_hash) (p ∷ [])) ≡ entry p ∷ []
once_listed script_hash p e = rw e refl

-- the entries of a block's transactions, wherever they begin
pub block_listed : (script_hash : List ℕ) (height pos start : ℕ) (ts : List Tx) (coins : List Coin)
    → entries_of script_hash (positions_in height pos start ts coins) ≡ listed_in script_hash height ts coins
block_listed script_hash height pos start [] coins = refl
block_listed script_hash height pos start (t ∷ ts) coins =
    let later = positions_in height (pos + 1) (start + length (full_encoding t)) ts (coins_after height t coins) in
    entries_before script_hash (record { height = height; pos = pos; start = start; tx = t; before = coins }) later
    ∙ ap (λ (es : List Entry). entry_listed script_hash height t coins ++ es) (block_listed script_hash height (pos + 1) (start + length (full_encoding t)) ts (coins_after height t coins))

-- the entries of blocks, of which one stands before the others
pub blocks_listed : (script_hash : List ℕ) (height : ℕ) (b : Placed) (bs : Chain) (coins : List Coin)
    → listed_from script_hash height (b ∷ bs) coins
    ≡ listed_in script_hash height b.block.txs coins ++ listed_from script_hash (height + 1) bs (coins_after_all height b.block.txs coins)
blocks_listed script_hash height b bs coins =
    let later = positions_from (height + 1) bs (coins_after_all height b.block.txs coins) in
    entries_joined script_hash (block_positions height b.block.txs coins) later
    ∙ ap (λ (es : List Entry). es ++ entries_of script_hash later) (block_listed script_hash height 0 (first_start b.block.txs) b.block.txs coins)

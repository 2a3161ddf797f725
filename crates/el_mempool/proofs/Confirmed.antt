-- A coin of the chain is an output of one of its transactions.
use Rattle.std.proofs.Common.{◌≡◌, ◌⊎◌, inl, inr, ℕ, ◌+◌, true, false, Bool, List, [], ◌∷◌, ◌++◌, Option, None, Some, refl, ap, sym, ◌∙◌}
use Rattle.std.proofs.lemmas.Bool.{cases_Bool, or_left, or_right, true≢false}
use Rattle.std.proofs.lemmas.List.Folds.{list_any-append}
use Rattle.std.specs.List.{list_any, find}
use Rattle.std.specs.Prelude.{option_map}
use Rattle.std.proofs.lemmas.Slice.Eq.{bytes_eq-Decides}
use Rattle.el_base.specs.declared.hash.Hash32.{Hash32}
use Rattle.el_tx.specs.declared.types.Outpoint.{Outpoint}
use Rattle.el_tx.specs.declared.types.TxOut.{TxOut}
use Rattle.el_tx.specs.Hashing.{txid, same_outpoint}
use Rattle.el_chain.specs.declared.coin.Coin.{Coin}
use Rattle.el_chain.specs.Chains.{Chain}
use Rattle.el_chain.specs.Coins.{coins, is_coin_of}
use Rattle.el_chain.specs.CoinLaws.{IsIn, coins_made, IsMadeIn}
use Rattle.el_chain.specs.Headers.{same_hash}
use Rattle.el_chain.specs.History.{Position, positions}
use Rattle.el_chain.proofs.CoinLists.{same_gives}
use Rattle.el_chain.proofs.CoinOrigins.{origin}
use Rattle.el_mempool.specs.Sift.{coin_held, coin_named, is_confirmed}

pub hash_self : (a b : Hash32) → a ≡ b → same_hash a b ≡ true
hash_self a b e = rw e ((bytes_eq-Decides b.0 b.0).1 refl)

pub hash_same : (a b : Hash32) → same_hash a b ≡ true → a ≡ b
hash_same a b h = ap (λ (l : List ℕ). the_hash l) ((bytes_eq-Decides a.0 b.0).0 h)
  where
    the_hash : List ℕ → Hash32
    the_hash l = record { 0 = l }

pub hash_turned : (a b : Hash32) → same_hash a b ≡ same_hash b a
hash_turned a b = by (cases_Bool (same_hash a b)) (cases_Bool (same_hash b a))
  where
    by : (same_hash a b ≡ true) ⊎ (same_hash a b ≡ false) → (same_hash b a ≡ true) ⊎ (same_hash b a ≡ false) → same_hash a b ≡ same_hash b a
    by (inl h) other = h ∙ sym (hash_self b a (sym (hash_same a b h)))
    by (inr h) (inl k) = hash_self a b (sym (hash_same b a k)) ∙ sym k
    by (inr h) (inr k) = h ∙ sym k

-- the coin that is found is among them, and is that of the outpoint
found_coin : (o : Outpoint) (cs : List Coin) (c : Coin) → find (is_coin_of o) cs ≡ Some c → IsIn c cs × (same_outpoint c.outpoint o ≡ true)
found_coin o [] c h = absurd (cc)
found_coin o (x ∷ xs) c h = elim (cases_Bool (same_outpoint x.outpoint o)) [
  | inl e ↦ let is : x ≡ c = here e h in (inl (sym is), rw (← is) e)
  | inr e ↦ let more = rw e at h in let rest = found_coin o xs c more in (inr rest.0, rest.1)
]
  where
    here : same_outpoint x.outpoint o ≡ true → find (is_coin_of o) (x ∷ xs) ≡ Some c → x ≡ c
    here e g = let said = rw e at g in cc

made_under : (c : Coin) (id : Hash32) (height n : ℕ) (os : List TxOut) → IsIn c (coins_made id height n os) → c.outpoint.txid ≡ id
made_under c id height n [] h = absurd h
made_under c id height n (o ∷ os) (inl is) = ap (λ (x : Coin). x.outpoint.txid) is
made_under c id height n (o ∷ os) (inr more) = made_under c id height (n + 1) os more

any_mid : {X : Type 0} (f : X → Bool) (xs : List X) (y : X) (ys : List X) → f y ≡ true → list_any f (xs ++ y ∷ ys) ≡ true
any_mid f xs y ys h = list_any-append f xs (y ∷ ys) ∙ or_right (list_any f xs) (list_any f (y ∷ ys)) (or_left (f y) (list_any f ys) h)

-- the transaction of a coin is in the chain
coin_confirmed : (chain : Chain) (o : Outpoint) (c : Coin) → find (is_coin_of o) (coins chain) ≡ Some c → is_confirmed chain o.txid ≡ true
coin_confirmed chain o c h =
    let found = found_coin o (coins chain) c h in
    let m : IsMadeIn c (positions chain) = origin c chain found.0 in
    let is : c.outpoint ≡ o = same_gives c.outpoint o found.1 in
    let id : txid m.at.tx ≡ o.txid = sym (made_under c (txid m.at.tx) m.at.height 0 m.at.tx.outputs m.made) ∙ ap (λ (x : Outpoint). x.txid) is in
    ap (list_any (λ (p : Position). same_hash (txid p.tx) o.txid)) m.places
    ∙ any_mid (λ (p : Position). same_hash (txid p.tx) o.txid) m.front m.at m.later (hash_self (txid m.at.tx) o.txid id)

-- so an outpoint of a transaction that is not in the chain has no coin there
pub unconfirmed_none : (chain : Chain) (o : Outpoint) → is_confirmed chain o.txid ≡ false → coin_named chain o ≡ None
unconfirmed_none chain o h = by (find (is_coin_of o) (coins chain)) refl
  where
    by : (x : Option Coin) → find (is_coin_of o) (coins chain) ≡ x → option_map coin_held x ≡ None
    by None e = refl
    by (Some c) e = absurd (true≢false (sym (coin_confirmed chain o c e) ∙ h))

-- Where the newest transaction with a txid stands, its block has a place.
use Rattle.std.proofs.Common.{◌≡◌, ◌∙◌, sym, ap, subst, ℕ, ◌+◌, ◌<◌, Bool, true, false, if◌then◌else◌, List, [], ◌∷◌, ◌++◌, length, Option, Some, None, option_map, option_and_then, refl, arith, inl, inr, Err}
use Rattle.std.specs.Option.{option_or}
use Rattle.std.specs.Str.{bytes_eq}
use Rattle.std.proofs.lemmas.Option.{slice_get_cases}
use Rattle.el_base.specs.declared.hash.Hash32.{Hash32}
use Rattle.el_tx.specs.Hashing.{txid}
use Rattle.el_tx.specs.declared.types.Tx.{Tx}
use Rattle.el_outside.specs.declared.archive.Place.{Place}
use Rattle.el_chain.specs.declared.coin.Coin.{Coin}
use Rattle.el_chain.specs.Coins.{coins_after, coins_after_all}
use Rattle.el_chain.specs.Chains.{Chain}
use Rattle.el_chain.specs.History.{Position, positions, positions_from, positions_in, block_positions}
use Rattle.el_tx.specs.Hashing.{full_encoding}
use Rattle.el_model.specs.Queries.{newest, place_at, spot_of, find_tx}
use Rattle.el_methods.specs.Results.{transaction_get}
use Rattle.el_methods.specs.Outcomes.{IsAnswer}
use Rattle.el_calls.specs.declared.refusal.Refusal.{Refusal}
use Rattle.el_calls.specs.declared.refusal.Refusal.TheVariants as refusal
use Rattle.el_methods.specs.declared.stop.Stop.{Stop}
use Rattle.el_methods.specs.declared.stop.Stop.TheVariants as stop

or_assoc : (a b c : Option Position) → option_or (option_or a b) c ≡ option_or a (option_or b c)
or_assoc None b c = refl
or_assoc (Some x) b c = refl

pub newest-append : (id : Hash32) (xs ys : List Position) → newest id (xs ++ ys) ≡ option_or (newest id ys) (newest id xs)
newest-append id [] ys = or_none (newest id ys)
  where
    or_none : (r : Option Position) → r ≡ option_or r None
    or_none None = refl
    or_none (Some x) = refl
newest-append id (x ∷ xs) ys =
    ap (λ r. option_or r (if bytes_eq (txid x.tx).0 id.0 then Some x else None)) (newest-append id xs ys) ∙ or_assoc (newest id ys) (newest id xs) _

-- one of two that both have the property has it
pub chosen : (P : Position → Type 0) (r other : Option Position) → ((q : Position) → r ≡ Some q → P q) → ((q : Position) → other ≡ Some q → P q)
    → (p : Position) → option_or r other ≡ Some p → P p
chosen P (Some q) other one two p e = one p e
chosen P None other one two p e = two p e

pub this : (P : Position → Type 0) (b : Bool) (x : Position) → P x → (q : Position) → (if b then Some x else None) ≡ Some q → P q
this P true x here q e = let same : x ≡ q = cc in subst P same here
this P false x here q e = absurd (cc)

of_block : (id : Hash32) (height pos start : ℕ) (ts : List Tx) (coins : List Coin) (p : Position)
    → newest id (positions_in height pos start ts coins) ≡ Some p → p.height ≡ height
of_block id height pos start [] coins p e = absurd (cc)
of_block id height pos start (t ∷ ts) coins p e =
    chosen (λ q. q.height ≡ height) (newest id (positions_in height (pos + 1) (start + length (full_encoding t)) ts (coins_after height t coins))) _
    (λ q. of_block id height (pos + 1) (start + length (full_encoding t)) ts (coins_after height t coins) q)
    (this (λ q. q.height ≡ height) (bytes_eq (txid t).0 id.0) (record { height = height; pos = pos; start = start; tx = t; before = coins }) refl) p e

of_chain : (id : Hash32) (height : ℕ) (chain : Chain) (coins : List Coin) (p : Position)
    → newest id (positions_from height chain coins) ≡ Some p → p.height < height + length chain
of_chain id height [] coins p e = absurd (cc)
of_chain id height (b ∷ bs) coins p e =
    let after = coins_after_all height b.block.txs coins in
    let here = block_positions height b.block.txs coins in
    chosen (λ q. q.height < height + length (b ∷ bs)) (newest id (positions_from (height + 1) bs after)) (newest id here)
    (λ q f. let far : q.height < height + 1 + length bs = of_chain id (height + 1) bs after q f in omega arith)
    (λ q f. let same : q.height ≡ height = of_block id height 0 _ b.block.txs coins q f in omega arith) p
    (sym (newest-append id here (positions_from (height + 1) bs after)) ∙ e)

has_place : (chain : Chain) (height : ℕ) → height < length chain → place_at chain height ≡ None → ⊥
has_place chain height inside none =
    elim (slice_get_cases chain height).1 [
      | inl found ↦ (let some : place_at chain height ≡ Some (found.0).place = rw (found.2) refl in absurd (cc))
      | inr past ↦ absurd (omega arith)
    ]

split : (chain : Chain) (r : Option Position) → ((p : Position) → r ≡ Some p → p.height < length chain)
    → option_and_then (λ (p : Position). option_map (spot_of p) (place_at chain p.height)) r ≡ None → r ≡ None
split chain None inside e = refl
split chain (Some p) inside e = absurd (has_place chain p.height (inside p refl) (none_of (place_at chain p.height) e))
  where
    none_of : (o : Option Place) → option_map (spot_of p) o ≡ None → o ≡ None
    none_of None e = refl
    none_of (Some x) e = absurd (cc)

-- where no transaction is found, the chain has none with that txid
pub not_found : (chain : Chain) (id : Hash32) → find_tx chain id ≡ None → newest id (positions chain) ≡ None
not_found chain id e = split chain (newest id (positions chain)) (λ p f. let h : p.height < 0 + length chain = of_chain id 0 chain [] p f in omega arith) e

pub no_transaction : (chain : Chain) (id : Hash32) → find_tx chain id ≡ None
    → transaction_get chain [] id false ≡ Err refusal.NoSuchTransaction
no_transaction chain id e = rw (not_found chain id e) refl

-- what is answered where no transaction of the chain was found
pub stopped : (chain : Chain) (id : Hash32) (e : Stop)
    → ((r : Refusal) → e ≡ stop.Refused r → (r ≡ refusal.NoSuchTransaction) × (find_tx chain id ≡ None))
    → IsAnswer (transaction_get chain [] id false) (Err e)
stopped chain id (stop.Refused r) told = no_transaction chain id (told r refl).1 ∙ ap Err (sym (told r refl).0)
stopped chain id stop.Disk told = tt
stopped chain id stop.Archive told = tt
stopped chain id stop.Changed told = tt
stopped chain id stop.Memory told = tt

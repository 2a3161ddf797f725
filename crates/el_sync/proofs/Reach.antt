-- How far a move reaches: what it doesn't touch, kept transactions find as it was.
use Rattle.std.proofs.Common.{◌≡◌, inl, inr, ℕ, zero, suc, ◌+◌, ◌-◌, ◌≤◌, true, false, Bool, not, List, [], ◌∷◌, ◌++◌, length, take, filter, Option, None, Some, refl, ap, sym, subst, ◌∙◌, arith}
use Rattle.std.proofs.lemmas.Bool.{cases_Bool, true≢false}
use Rattle.std.specs.List.{list_any, find}
use Rattle.std.specs.Prelude.{option_map, IfSome}
use Rattle.std.specs.Option.{is_some}
use Rattle.std.specs.Str.{bytes_eq}
use Rattle.std.proofs.lemmas.Slice.Eq.{bytes_eq-Decides}
use Rattle.el_base.specs.declared.hash.Hash32.{Hash32}
use Rattle.el_tx.specs.declared.types.Outpoint.{Outpoint}
use Rattle.el_tx.specs.Hashing.{same_outpoint}
use Rattle.el_chain.specs.declared.coin.Coin.{Coin}
use Rattle.el_chain.specs.declared.moves.Plan.{Plan}
use Rattle.el_chain.specs.Chains.{Chain}
use Rattle.el_chain.specs.Coins.{coins, is_coin_of}
use Rattle.el_chain.specs.CoinLaws.{IsIn}
use Rattle.el_chain.specs.CoinLists.{AreOnce}
use Rattle.el_chain.specs.Headers.{same_hash}
use Rattle.el_chain.specs.Moves.{target}
use Rattle.el_chain.specs.Touches.{AreTouched}
use Rattle.el_chain.proofs.CoinLists.{once_in_chain, same_gives}
use Rattle.el_model.specs.Queries.{blocks_in, height_of}
use Rattle.el_mempool.specs.declared.held.Held.{Held}
use Rattle.el_mempool.specs.Sift.{coin_held, coin_named}
use Rattle.el_status.proofs.Sides.{move_keeps}
use Rattle.el_sift.specs.Untouched.{KeepsCoins, KeepsUntouched}

-- ---- the coin of an outpoint

abbrev own : List ℕ → List Coin → List Coin
own s cs = filter (λ (c : Coin). bytes_eq c.script.0 s) cs

some_coin : (a b : Coin) → ◌≡◌ {A = Option Coin} (Some a) (Some b) → a ≡ b
some_coin a b e = cc

-- the coin that is found is among them, and is that of the outpoint
found_in : (o : Outpoint) (cs : List Coin) (c : Coin) → find (is_coin_of o) cs ≡ Some c → IsIn c cs × (same_outpoint c.outpoint o ≡ true)
found_in o [] c h = absurd (cc)
found_in o (x ∷ xs) c h = elim (cases_Bool (same_outpoint x.outpoint o)) [
  | inl e ↦ let here : x ≡ c = some_coin x c (rw e at h) in (inl (sym here), rw (← here) e)
  | inr e ↦ let more = found_in o xs c (rw e at h) in (inr more.0, more.1)
]

-- one of them that has the script hash is among those that have it, and back
to_own : (s : List ℕ) (c : Coin) (cs : List Coin) → bytes_eq c.script.0 s ≡ true → IsIn c cs → IsIn c (own s cs)
to_own s c [] has bad = absurd bad
to_own s c (x ∷ xs) has (inl is) = let own_it : bytes_eq x.script.0 s ≡ true = ap (λ (y : Coin). bytes_eq y.script.0 s) (sym is) ∙ has in rw own_it (inl is)
to_own s c (x ∷ xs) has (inr more) = elim (cases_Bool (bytes_eq x.script.0 s)) [
  | inl e ↦ rw e (inr (to_own s c xs has more))
  | inr e ↦ rw e (to_own s c xs has more)
]

from_own : (s : List ℕ) (c : Coin) (cs : List Coin) → IsIn c (own s cs) → IsIn c cs
from_own s c [] bad = absurd bad
from_own s c (x ∷ xs) h = elim (cases_Bool (bytes_eq x.script.0 s)) [
  | inl e ↦ by (rw e at h) (λ there. from_own s c xs there)
  | inr e ↦ inr (from_own s c xs (rw e at h))
]
  where
    by : IsIn c (x ∷ own s xs) → (IsIn c (own s xs) → IsIn c xs) → IsIn c (x ∷ xs)
    by (inl is) more = inl is
    by (inr there) more = inr (more there)

-- where no outpoint has two coins, one that is there is found
there_found : (o : Outpoint) (cs : List Coin) (c : Coin) → AreOnce cs → IsIn c cs → same_outpoint c.outpoint o ≡ true → find (is_coin_of o) cs ≡ Some c
there_found o [] c once bad is = absurd bad
there_found o (x ∷ xs) c once (inl here) is = let own_it : same_outpoint x.outpoint o ≡ true = ap (λ (y : Coin). same_outpoint y.outpoint o) (sym here) ∙ is in rw (own_it, here) refl
there_found o (x ∷ xs) c once (inr more) is = elim (cases_Bool (same_outpoint x.outpoint o)) [
  | inl e ↦
      let same : x.outpoint ≡ o = same_gives x.outpoint o e in
      let none : find (is_coin_of o) xs ≡ None = ap (λ p. find (is_coin_of p) xs) (sym same) ∙ once.0 in
      absurd (both none (there_found o xs c once.1 more is))
  | inr e ↦ rw e (there_found o xs c once.1 more is)
]
  where
    both : find (is_coin_of o) xs ≡ None → find (is_coin_of o) xs ≡ Some c → ⊥
    both none some = let bad : None ≡ Some c = sym none ∙ some in cc

-- ---- a move

-- a coin whose script hash the move doesn't touch is a coin after it
coins_stay : (p : Plan) (chain blocks : Chain) (scripts : List Hash32) → AreTouched p chain blocks scripts → KeepsCoins chain (target p chain blocks) scripts
coins_stay p chain blocks scripts touched o h is off = by (find (is_coin_of o) (coins chain)) refl is
  where
    by : (x : Option Coin) → find (is_coin_of o) (coins chain) ≡ x → option_map coin_held x ≡ Some h → coin_named (target p chain blocks) o ≡ Some h
    by None e bad = absurd (cc)
    by (Some c) e some =
        let held : coin_held c ≡ h = cc in
        let apart : list_any (same_hash c.script) scripts ≡ false = ap (λ (x : Held). list_any (same_hash x.script) scripts) held ∙ off in
        let found = found_in o (coins chain) c e in
        let own_script : bytes_eq c.script.0 c.script.0 ≡ true = (bytes_eq-Decides c.script.0 c.script.0).1 refl in
        let same = (move_keeps p chain blocks scripts touched c.script apart).unspent in
        let there : IsIn c (coins (target p chain blocks)) =
        from_own c.script.0 c (coins (target p chain blocks)) (subst (IsIn c) same (to_own c.script.0 c (coins chain) own_script found.0)) in
        ap (option_map coin_held) (there_found o (coins (target p chain blocks)) c (once_in_chain (target p chain blocks)) there found.1) ∙ ap Some held

blocks_are : (chain : Chain) → blocks_in (height_of chain) ≡ length chain
blocks_are [] = refl
blocks_are (b ∷ bs) = omega arith

take_front : (n : ℕ) (chain more : Chain) → n ≤ length chain → take n chain ≡ take n (take n chain ++ more)
take_front zero chain more le = refl
take_front (suc n) [] more le = absurd (omega (arith, le))
take_front (suc n) (b ∷ bs) more le = ap (λ l. b ∷ l) (take_front n bs more (omega (arith, le)))

pub move_reaches : (p : Plan) (chain blocks : Chain) (scripts : List Hash32) (same : ℕ) → same ≡ blocks_in (height_of chain) - p.back → AreTouched p chain blocks scripts
    → KeepsUntouched chain (target p chain blocks) same scripts
move_reaches p chain blocks scripts same is touched = record {
  blocks = let count : same ≡ length chain - p.back = is ∙ ap (λ n. n - p.back) (blocks_are chain) in
      rw count (take_front (length chain - p.back) chain blocks (omega arith));
  coins = coins_stay p chain blocks scripts touched;
}

-- where nothing moves
pub none_reaches : (start chain : Chain) (scripts : List Hash32) (same : ℕ) → start ≡ chain → KeepsUntouched start chain same scripts
none_reaches start chain scripts same is = rw is (record { blocks = refl; coins = λ o h e off. e })

-- ---- where a reach is told

pub is_told : {X : Type 0} (o : Option X) (same_of : X → ℕ) (touched_of : X → List Hash32) (later : Bool) (before chain : Chain) (same : ℕ) (touched : List Hash32) → is_some o ≡ not later
    → IfSome o (λ r. (same_of r ≡ same) × (touched_of r ≡ touched)) → (later ≡ false → KeepsUntouched before chain same touched)
    → IfSome o (λ r. KeepsUntouched before chain (same_of r) (touched_of r))
is_told None same_of touched_of later before chain same touched first are h = tt
is_told (Some r) same_of touched_of true before chain same touched first are h = absurd (true≢false first)
is_told (Some r) same_of touched_of false before chain same touched first are h = rw (are.0, are.1) (h refl)

-- Script hashes that are touched, one coin, output and transaction after the other.
use Rattle.std.proofs.Common.{◌≡◌, inl, inr, not, ℕ, ◌+◌, ◌<◌, ◌≤◌, Bool, false, ◌||◌, ◌&&◌, List, [], ◌∷◌, Option, None, Some, length, get_or, drop, refl, ap, sym, ◌∙◌}
use Rattle.std.proofs.Math.Bool.{or-false, or_assoc}
use Rattle.std.proofs.lemmas.Bool.{cases_Bool}
use Rattle.std.proofs.lemmas.List.{get_or_default, drop_all}
use Rattle.std.specs.List.{list_any}
use Rattle.std.specs.Str.{bytes_eq}
use Rattle.el_base.specs.declared.hash.Hash32.{Hash32}
use Rattle.el_base.proofs.Lists.{left_at}
use Rattle.el_tx.specs.declared.types.Outpoint.{Outpoint}
use Rattle.el_tx.specs.declared.types.TxOut.{TxOut}
use Rattle.el_tx.specs.Hashing.{same_outpoint}
use Rattle.el_chain.specs.declared.coin.Coin.{Coin}
use Rattle.el_chain.specs.CoinLaws.{coins_made}
use Rattle.el_chain.specs.Coins.{coin_made}
use Rattle.el_chain.specs.History.{has_own}
use Rattle.el_chain.specs.CoinLists.{coin_in, AreOnce}
use Rattle.el_coins.specs.CoinTables.{CoinsStandFor}
use Rattle.el_chain.proofs.CoinLists.{same_gives}

-- whether the outpoint's coin has the script hash
abbrev pub own_coin : List ℕ → Option Coin → Bool
own_coin s None = false
own_coin s (Some c) = bytes_eq c.script.0 s

none_owned : (s : List ℕ) (cs : List Coin) (o : Outpoint) → coin_in cs o ≡ None → has_own s cs o ≡ false
none_owned s [] o none = refl
none_owned s (c ∷ cs) o none = elim (cases_Bool (same_outpoint c.outpoint o)) [
  | inl h ↦ absurd (let bad : Some c ≡ None = rw h at none in cc)
  | inr h ↦ rw h (none_owned s cs o (rw h at none))
]

pub owned : (s : List ℕ) (cs : List Coin) (o : Outpoint) → AreOnce cs → has_own s cs o ≡ own_coin s (coin_in cs o)
owned s [] o once = refl
owned s (c ∷ cs) o once = elim (cases_Bool (same_outpoint c.outpoint o)) [
  | inl h ↦
      let is = same_gives c.outpoint o h in
      let none = none_owned s cs o (rw is at once.0) in
      rw (h, none) (or-false (bytes_eq c.script.0 s))
  | inr h ↦ rw h (owned s cs o once.1)
]

-- the outpoint's coin is touched
pub coin_touched : (look : Outpoint → Option Coin) (sum : ℕ) (coins : List Coin) (o : Outpoint) (found : Option Coin) (s : Hash32) (before now : Bool)
    → CoinsStandFor look sum coins → look o ≡ found → now ≡ (before || own_coin s.0 found) → now ≡ (before || has_own s.0 coins o)
coin_touched look sum coins o found s before now h is added =
    added ∙ ap (λ (b : Bool). before || b) (ap (own_coin s.0) (sym is ∙ h.each o) ∙ sym (owned s.0 coins o h.once))

pub any_ends : {T : Type 0} (f : T → Bool) (xs : List T) (i : ℕ) (before all : Bool) → length xs ≤ i → (before || list_any f (drop i xs)) ≡ all → before ≡ all
any_ends f xs i before all most h = sym (or-false before) ∙ ap (λ l. before || list_any f l) (sym (drop_all i xs most)) ∙ h

pub made_ends : (f : Coin → Bool) (id : Hash32) (xs : List TxOut) (i : ℕ) (before all : Bool) → length xs ≤ i
    → (before || list_any f (coins_made id 0 i (drop i xs))) ≡ all → before ≡ all
made_ends f id xs i before all most h = sym (or-false before) ∙ ap (λ l. before || list_any f (coins_made id 0 i l)) (sym (drop_all i xs most)) ∙ h

pub made_step : (f : Coin → Bool) (g : Outpoint → Bool) (id : Hash32) (xs : List TxOut) (i : ℕ) (x d : TxOut) (before now all : Bool) → ((c : Coin) → f c ≡ g c.outpoint)
    → i < length xs → x ≡ get_or xs i d
    → (before || list_any f (coins_made id 0 i (drop i xs))) ≡ all → now ≡ (before || g (record { txid = id; index = i }))
    → (now || list_any f (coins_made id 0 (i + 1) (drop (i + 1) xs))) ≡ all
made_step f g id xs i x d before now all fg lt is' h added =
    let is : x ≡ get_or xs i x = is' ∙ get_or_default xs i d x lt in
    let left = left_at xs i x lt is in
    let rest = coins_made id 0 (i + 1) (drop (i + 1) xs) in
    ap (λ (b : Bool). b || list_any f rest) (added ∙ ap (λ (b : Bool). before || b) (sym (fg (coin_made id 0 i x)))) ∙ or_assoc before (f (coin_made id 0 i x)) (list_any f rest)
    ∙ ap (λ l. before || list_any f (coins_made id 0 i l)) (sym left) ∙ h

pub or_three : (o f s r n1 n2 n3 : Bool) → n1 ≡ (o || f) → n2 ≡ (n1 || s) → n3 ≡ (n2 || r) → n3 ≡ (o || (f || (s || r)))
or_three o f s r n1 n2 n3 a b c =
    c ∙ ap (λ (x : Bool). x || r) (b ∙ ap (λ (x : Bool). x || s) a) ∙ or_assoc (o || f) s r ∙ or_assoc o f (s || r)

-- a coinbase takes nothing, and any other transaction what its inputs name
pub spent_now : (coinbase taken old now : Bool) → coinbase ≡ false → now ≡ (old || taken) → now ≡ (old || (not coinbase && taken))
spent_now coinbase taken old now e h = rw e h

-- What a table's entries hold for a script hash is what the coins with that script hash hold.
use Rattle.std.proofs.Common.{◌≡◌, inl, inr, ℕ, ◌+◌, ◌≤◌, Bool, true, false, cond, List, [], ◌∷◌, Option, None, Some, map, filter, refl, ap, sym, ◌∙◌, arith}
use Rattle.std.proofs.lemmas.Bool.{cases_Bool}
use Rattle.std.specs.Str.{bytes_eq}
use Rattle.std.specs.List.{AllByRecursion, IsDistinct}
use Rattle.std.specs.Map.{lookup}
use Rattle.std.specs.Option.{option_flatten}
use Rattle.el_tx.specs.declared.types.Outpoint.{Outpoint}
use Rattle.el_tx.specs.Encoding.{max_money}
use Rattle.el_tx.specs.Hashing.{same_outpoint}
use Rattle.el_chain.specs.declared.coin.Coin.{Coin}
use Rattle.el_chain.specs.Coins.{supply}
use Rattle.el_chain.specs.CoinLists.{coin_in, AreOnce}
use Rattle.el_coins.specs.CoinTables.{CoinsStandFor}
use Rattle.el_coins.specs.within.Balances.{own_value, own_values}
use Rattle.el_chain.proofs.CoinLists.{same_gives, same_self}

abbrev pub Entries : Type 0
Entries = List (Outpoint × Option Coin)

abbrev pub look : Entries → Outpoint → Option Coin
look es o = option_flatten (lookup (same_outpoint o) es)

abbrev pub vals : Entries → List (Option Coin)
vals es = map (λ (e : Outpoint × Option Coin). e.1) es

abbrev pub places : Entries → List Outpoint
places es = map (λ (e : Outpoint × Option Coin). e.0) es

-- the entries without the coin of an outpoint
abbrev pub cleared : Outpoint → Entries → Entries
cleared p [] = []
cleared p (e ∷ es) = (e.0, cond (same_outpoint p e.0) None e.1) ∷ cleared p es

look_cleared : (p o : Outpoint) (es : Entries) → look (cleared p es) o ≡ cond (same_outpoint p o) None (look es o)
look_cleared p o [] = elim (cases_Bool (same_outpoint p o)) [
  | inl h ↦ rw h refl
  | inr h ↦ rw h refl
]
look_cleared p o (e ∷ es) = elim (cases_Bool (same_outpoint o e.0)) [
  | inl h ↦ let is = same_gives o e.0 h in rw (h, is) refl
  | inr h ↦ rw h (look_cleared p o es)
]

same_places : (p : Outpoint) (es : Entries) → places (cleared p es) ≡ places es
same_places p [] = refl
same_places p (e ∷ es) = ap (λ (l : List Outpoint). e.0 ∷ l) (same_places p es)

stays_all : (s : List ℕ) (p : Outpoint) (es : Entries) → AllByRecursion (λ y. same_outpoint p y ≡ false) (places es) → own_values s (vals (cleared p es)) ≡ own_values s (vals es)
stays_all s p [] h = refl
stays_all s p (e ∷ es) h = rw h.0 (ap (λ (n : ℕ). own_value s e.1 + n) (stays_all s p es h.1))

absent : (p : Outpoint) (es : Entries) → AllByRecursion (λ y. same_outpoint p y ≡ false) (places es) → look es p ≡ None
absent p [] h = refl
absent p (e ∷ es) h = rw h.0 (absent p es h.1)

parts : (s : List ℕ) (p : Outpoint) (es : Entries) → IsDistinct same_outpoint (places es) → own_values s (vals es) ≡ own_value s (look es p) + own_values s (vals (cleared p es))
unfolding IsDistinct
parts s p [] h = omega arith
parts s p (e ∷ es) h = elim (cases_Bool (same_outpoint p e.0)) [
  | inl same ↦
      let is = same_gives p e.0 same in
      let rest = stays_all s p es (rw is h.0) in
      rw same (omega (arith, rest))
  | inr other ↦
      let rest = parts s p es h.1 in
      rw other (omega (arith, rest))
]

nothing : (s : List ℕ) (es : Entries) → IsDistinct same_outpoint (places es) → ((o : Outpoint) → look es o ≡ None) → own_values s (vals es) ≡ 0
unfolding IsDistinct
nothing s [] h none = refl
nothing s (e ∷ es) h none =
    let here : e.1 ≡ None = rw (same_self e.0) at (none e.0) in
    let rest = nothing s es h.1 left in rw here (omega (arith, rest))
  where
    left : (o : Outpoint) → look es o ≡ None
    left o = elim (cases_Bool (same_outpoint o e.0)) [
      | inl same ↦ let is = same_gives o e.0 same in rw is (absent e.0 es h.0)
      | inr other ↦ rw other at (none o)
    ]

pub held : (s : List ℕ) (coins : List Coin) (es : Entries) → AreOnce coins → IsDistinct same_outpoint (places es) → ((o : Outpoint) → look es o ≡ coin_in coins o)
    → own_values s (vals es) ≡ supply (filter (λ (c : Coin). bytes_eq c.script.0 s) coins)
held s [] es once distinct each = nothing s es distinct each
held s (c ∷ cs) es once distinct each =
    let first : look es c.outpoint ≡ Some c = each c.outpoint ∙ rw (same_self c.outpoint) refl in
    let rest = held s cs (cleared c.outpoint es) once.1 (rw (same_places c.outpoint es) distinct) next in
    parts s c.outpoint es distinct ∙ rw (first, rest) (sum (bytes_eq c.script.0 s) refl)
  where
    next : (o : Outpoint) → look (cleared c.outpoint es) o ≡ coin_in cs o
    next o = look_cleared c.outpoint o es ∙ elim (cases_Bool (same_outpoint c.outpoint o)) [
      | inl same ↦ let is = same_gives c.outpoint o same in rw same (sym (rw is at once.0))
      | inr other ↦ rw other (each o ∙ rw other refl)
    ]

    sum : (b : Bool) → bytes_eq c.script.0 s ≡ b
        → own_value s (Some c) + supply (filter (λ (m : Coin). bytes_eq m.script.0 s) cs) ≡ supply (filter (λ (m : Coin). bytes_eq m.script.0 s) (c ∷ cs))
    sum true e = rw e refl
    sum false e = rw e (omega arith)

pub no_more : (s : List ℕ) (coins : List Coin) → supply (filter (λ (c : Coin). bytes_eq c.script.0 s) coins) ≤ supply coins
no_more s [] = omega arith
no_more s (c ∷ cs) = by (no_more s cs) (bytes_eq c.script.0 s) refl
  where
    by : supply (filter (λ (m : Coin). bytes_eq m.script.0 s) cs) ≤ supply cs → (b : Bool) → bytes_eq c.script.0 s ≡ b
        → supply (filter (λ (m : Coin). bytes_eq m.script.0 s) (c ∷ cs)) ≤ supply (c ∷ cs)
    by rest true e = rw e (omega (arith, rest))
    by rest false e = rw e (omega (arith, rest))

pub within : (s : List ℕ) (sum : ℕ) (es : Entries) → IsDistinct same_outpoint (places es) → sum ≤ max_money
    → (coins : List Coin) × CoinsStandFor (look es) sum coins → own_values s (vals es) ≤ max_money
within s sum es distinct money (coins, h) =
    let is = held s coins es h.once distinct h.each in
    let less = no_more s coins in
    let all = h.total in
    omega arith

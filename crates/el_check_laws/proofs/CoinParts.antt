-- Lists of coins in parts: what stays without an outpoint, what they hold together.
use Rattle.std.proofs.Common.{◌≡◌, ◌≢◌, inl, inr, ◌+◌, Bool, true, false, ◌&&◌, not, List, [], ◌∷◌, ◌++◌, length, filter, refl, ap, ◌∙◌, arith}
use Rattle.std.specs.List.{AllByRecursion, list_any}
use Rattle.std.proofs.lemmas.Bool.{cases_Bool}
use Rattle.std.proofs.lemmas.List.Elements.{filter-append}
use Rattle.el_base.specs.declared.hash.Hash32.{Hash32}
use Rattle.el_tx.specs.declared.types.Outpoint.{Outpoint}
use Rattle.el_chain.specs.declared.coin.Coin.{Coin}
use Rattle.el_chain.specs.Coins.{is_coin_of, without, add_coin, supply}
use Rattle.el_chain.proofs.CoinLists.{same_gives, same_self}

-- the coin is of another transaction
abbrev pub IsApart : Hash32 → Coin → Type 0
IsApart id c = c.outpoint.txid ≢ id

pub and_false : (a : Bool) → (a && false) ≡ false
and_false true = refl
and_false false = refl

pub without_joined : (o : Outpoint) (xs ys : List Coin) → without o (xs ++ ys) ≡ without o xs ++ without o ys
without_joined o xs ys = filter-append (λ (c : Coin). not (is_coin_of o c)) xs ys

pub without_apart : (o : Outpoint) (cs : List Coin) → AllByRecursion (IsApart o.txid) cs → without o cs ≡ cs
without_apart o [] apart = refl
without_apart o (c ∷ cs) apart = elim (cases_Bool (is_coin_of o c)) [
  | inl h ↦ absurd (apart.0 (ap (λ (p : Outpoint). p.txid) (same_gives c.outpoint o h)))
  | inr h ↦ rw h (ap (λ (l : List Coin). c ∷ l) (without_apart o cs apart.1))
]

pub without_other : (o : Outpoint) (c : Coin) (cs : List Coin) → is_coin_of o c ≡ false → without o (c ∷ cs) ≡ c ∷ without o cs
without_other o c cs h = rw h refl

pub without_own : (c : Coin) (cs : List Coin) → without c.outpoint (c ∷ cs) ≡ without c.outpoint cs
without_own c cs = rw (same_self c.outpoint) refl

-- a coin of a new transaction goes after the others
pub put_apart : (c : Coin) (cs : List Coin) → AllByRecursion (IsApart c.outpoint.txid) cs → add_coin c cs ≡ cs ++ c ∷ []
put_apart c cs apart = ap (λ (l : List Coin). l ++ c ∷ []) (without_apart c.outpoint cs apart)

-- the coin that stands between others is taken
pub taken_between : (c : Coin) (xs ys : List Coin) → AllByRecursion (IsApart c.outpoint.txid) xs → AllByRecursion (IsApart c.outpoint.txid) ys
    → without c.outpoint (xs ++ c ∷ ys) ≡ xs ++ ys
taken_between c xs ys before after =
    without_joined c.outpoint xs (c ∷ ys)
    ∙ ap (λ (l : List Coin). l ++ without c.outpoint (c ∷ ys)) (without_apart c.outpoint xs before)
    ∙ ap (λ (l : List Coin). xs ++ l) (without_own c ys ∙ without_apart c.outpoint ys after)

pub any_between : {X : Type 0} (test : X → Bool) (xs : List X) (x : X) (ys : List X) → test x ≡ true → list_any test (xs ++ x ∷ ys) ≡ true
any_between test [] x ys is = rw is refl
any_between test (y ∷ xs) x ys is = elim (cases_Bool (test y)) [
  | inl h ↦ rw h refl
  | inr h ↦ rw h (any_between test xs x ys is)
]

pub supply_joined : (xs ys : List Coin) → supply (xs ++ ys) ≡ supply xs + supply ys
supply_joined [] ys = omega arith
supply_joined (x ∷ xs) ys = let rest = supply_joined xs ys in omega (arith, rest)

-- how many coins an outpoint has
pub counts_parted : (o : Outpoint) (cs : List Coin) → length (filter (is_coin_of o) cs) + length (without o cs) ≡ length cs
counts_parted o [] = refl
counts_parted o (c ∷ cs) = elim (cases_Bool (is_coin_of o c)) [
  | inl h ↦ let rest = counts_parted o cs in rw h (omega (arith, rest))
  | inr h ↦ let rest = counts_parted o cs in rw h (omega (arith, rest))
]

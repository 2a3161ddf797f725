-- The coins after each made block, where the txids differ.
use Rattle.std.proofs.Common.{◌≡◌, ◌≢◌, ℕ, zero, suc, ◌*◌, ◌%◌, ◌≤◌, ◌<◌, Bool, true, false, if◌then◌else◌, List, [], ◌∷◌, ◌++◌, filter, refl, sym, ap, ◌∙◌, arith, append_assoc}
use Rattle.std.specs.List.{AllByRecursion}
use Rattle.std.specs.Str.{bytes_eq}
use Rattle.std.proofs.lemmas.List.Elements.{filter-append}
use Rattle.std.proofs.lemmas.Slice.Eq.{bytes_eq-Decides}
use Rattle.sha2.specs.Sha256.{sha256}
use Rattle.el_base.proofs.Lists.{all_append, all_weaker}
use Rattle.el_tx.specs.declared.types.Tx.{Tx}
use Rattle.el_tx.specs.Hashing.{txid, is_coinbase}
use Rattle.el_chain.specs.declared.coin.Coin.{Coin}
use Rattle.el_chain.specs.Coins.{is_coin_of, without, add_coin, coin_made, coins_left, coins_after, coins_after_all, supply}
use Rattle.el_chain.specs.Faults.{has_coin}
use Rattle.el_chain.proofs.CoinLists.{same_self, differs}
use Rattle.el_gen.specs.Generated.{locking_script, paid, spend}
use Rattle.el_gen.specs.MadeFile.{first_output, halves}
use Rattle.el_check_laws.proofs.MadeChains.{coinbase_at, spend_after, txs_at}
use Rattle.el_check_laws.proofs.CoinParts.{IsApart, and_false, without_joined, without_apart, without_other, put_apart, taken_between, any_between, supply_joined}

-- the coin of a height's coinbase, and the two of the spend of it in the next block
abbrev pub coinbase_coin : (ℕ → ℕ) → ℕ → Coin
coinbase_coin of height = coin_made (txid (coinbase_at of height)) height 0 (paid 5000000000 101)

abbrev pub other_half : (ℕ → ℕ) → ℕ → Coin
other_half of height = coin_made (txid (spend_after of height)) (suc height) 0 (paid 2500000000 (suc height % 100))

abbrev pub own_half : (ℕ → ℕ) → ℕ → Coin
own_half of height = coin_made (txid (spend_after of height)) (suc height) 1 (paid 2500000000 100)

-- no two of the transactions in the first blocks, so many, have one txid
pub record AreApart (of : ℕ → ℕ) (n : ℕ) : Type 0 where
  pub coinbases : (i j : ℕ) → i < j → j < n → txid (coinbase_at of i) ≢ txid (coinbase_at of j)
  pub spends : (i j : ℕ) → i < j → suc j < n → txid (spend_after of i) ≢ txid (spend_after of j)
  pub others : (i j : ℕ) → i < n → suc j < n → txid (coinbase_at of i) ≢ txid (spend_after of j)

-- the script of 100 is another than the others
abbrev pub ScriptsDiffer : Type 0
ScriptsDiffer = (k : ℕ) → k ≤ 101 → k ≢ 100 → sha256 (locking_script k) ≢ sha256 (locking_script 100)

abbrev pub is_own : Coin → Bool
is_own c = bytes_eq c.script.0 (sha256 (locking_script 100))

-- the coin is of a spend of one of the first coinbases, so many
abbrev pub IsHalf : (ℕ → ℕ) → ℕ → Coin → Type 0
IsHalf of n c = (i : ℕ) × (i < n) × (c.outpoint.txid ≡ txid (spend_after of i))

-- The coins after the block of a height: its coinbase's between those of spends.
pub record After (of : ℕ → ℕ) (height : ℕ) (coins : List Coin) : Type 0 where
  pub old : List Coin
  pub new : List Coin
  pub are : coins ≡ old ++ coinbase_coin of height ∷ new
  pub halves_old : AllByRecursion (IsHalf of height) old
  pub halves_new : AllByRecursion (IsHalf of height) new
  pub sum : supply (old ++ new) ≡ 5000000000 * height
  pub own : supply (filter is_own (old ++ new)) ≡ 2500000000 * height

-- the same after so many blocks
abbrev pub AfterAll : (ℕ → ℕ) → ℕ → List Coin → Type 0
AfterAll of zero coins = coins ≡ []
AfterAll of (suc height) coins = After of height coins

-- ---- the first block

pub first_coins : (of : ℕ → ℕ) → After of 0 (coins_after_all 0 (txs_at of 0) [])
first_coins of = record { old = []; new = []; are = refl; halves_old = tt; halves_new = tt; sum = refl; own = refl }

-- ---- a block above

pub spend_other : (t : Tx) (height : ℕ) → is_coinbase (spend (first_output t ∷ []) (halves height)) ≡ false
spend_other t height = and_false (bytes_eq (txid t).0 _)

-- halves are apart from what comes later
apart_coinbase : (of : ℕ → ℕ) (n k m : ℕ) → AreApart of n → k < n → m < n → (cs : List Coin) → AllByRecursion (IsHalf of m) cs
    → AllByRecursion (IsApart (txid (coinbase_at of k))) cs
apart_coinbase of n k m apart lt le cs all =
    all_weaker (IsHalf of m) (IsApart (txid (coinbase_at of k))) cs
    (λ c half is. apart.others k half.0 lt (let less = half.1 in omega (arith, less, le)) (sym is ∙ half.2)) all

apart_spend : (of : ℕ → ℕ) (n m : ℕ) → AreApart of n → suc m < n → (cs : List Coin) → AllByRecursion (IsHalf of m) cs
    → AllByRecursion (IsApart (txid (spend_after of m))) cs
apart_spend of n m apart lt cs all =
    all_weaker (IsHalf of m) (IsApart (txid (spend_after of m))) cs
    (λ c half is. apart.spends half.0 m half.1 lt (sym half.2 ∙ is)) all

module _ (of : ℕ → ℕ) (n m : ℕ) (coins : List Coin) (apart : AreApart of n) (lt : suc m < n) (a : After of m coins) where
  abbrev pub after_coinbase : List Coin
  after_coinbase = coins_after (suc m) (coinbase_at of (suc m)) coins

  next_apart : AllByRecursion (IsApart (txid (coinbase_at of (suc m)))) coins
  next_apart = rw (a.are) (all_append (IsApart (txid (coinbase_at of (suc m)))) a.old (coinbase_coin of m ∷ a.new)
      (apart_coinbase of n (suc m) m apart lt (omega arith) a.old a.halves_old)
      (apart.coinbases m (suc m) (omega arith) lt, apart_coinbase of n (suc m) m apart lt (omega arith) a.new a.halves_new))

  -- the new coinbase's coin stands last
  pub coinbase_put : after_coinbase ≡ a.old ++ coinbase_coin of m ∷ (a.new ++ coinbase_coin of (suc m) ∷ [])
  coinbase_put =
      put_apart (coinbase_coin of (suc m)) coins next_apart
      ∙ ap (λ (l : List Coin). l ++ coinbase_coin of (suc m) ∷ []) a.are
      ∙ append_assoc a.old (coinbase_coin of m ∷ a.new) (coinbase_coin of (suc m) ∷ [])

  pub has_spent : has_coin (first_output (coinbase_at of m)) after_coinbase ≡ true
  has_spent = rw coinbase_put (any_between (is_coin_of (first_output (coinbase_at of m))) a.old (coinbase_coin of m) (a.new ++ coinbase_coin of (suc m) ∷ [])
      (same_self (first_output (coinbase_at of m))))

  -- without the coin that the spend takes
  pub left_without : without (first_output (coinbase_at of m)) after_coinbase ≡ a.old ++ (a.new ++ coinbase_coin of (suc m) ∷ [])
  left_without =
      ap (without (first_output (coinbase_at of m))) coinbase_put
      ∙ taken_between (coinbase_coin of m) a.old (a.new ++ coinbase_coin of (suc m) ∷ [])
      (apart_coinbase of n m m apart (omega (arith, lt)) (omega (arith, lt)) a.old a.halves_old)
      (all_append (IsApart (txid (coinbase_at of m))) a.new (coinbase_coin of (suc m) ∷ [])
      (apart_coinbase of n m m apart (omega (arith, lt)) (omega (arith, lt)) a.new a.halves_new)
      ((λ is. apart.coinbases m (suc m) (omega arith) lt (sym is)), tt))

  left_by_spend : coins_left (spend_after of m) after_coinbase ≡ a.old ++ (a.new ++ coinbase_coin of (suc m) ∷ [])
  left_by_spend =
      ap (λ (b : Bool). if b then after_coinbase else without (first_output (coinbase_at of m)) after_coinbase) (spend_other (coinbase_at of m) (suc m))
      ∙ left_without

  left_apart : AllByRecursion (IsApart (txid (spend_after of m))) (a.old ++ (a.new ++ coinbase_coin of (suc m) ∷ []))
  left_apart = all_append (IsApart (txid (spend_after of m))) a.old (a.new ++ coinbase_coin of (suc m) ∷ [])
      (apart_spend of n m apart lt a.old a.halves_old)
      (all_append (IsApart (txid (spend_after of m))) a.new (coinbase_coin of (suc m) ∷ []) (apart_spend of n m apart lt a.new a.halves_new)
      ((apart.others (suc m) m lt lt), tt))

  own_put : (cs : List Coin) → AllByRecursion (IsApart (txid (spend_after of m))) cs
      → add_coin (own_half of m) (add_coin (other_half of m) cs) ≡ (cs ++ other_half of m ∷ []) ++ own_half of m ∷ []
  own_put cs new =
      ap (add_coin (own_half of m)) (put_apart (other_half of m) cs new)
      ∙ ap (λ (l : List Coin). l ++ own_half of m ∷ [])
      (without_joined (own_half of m).outpoint cs (other_half of m ∷ [])
      ∙ ap (λ (l : List Coin). l ++ without (own_half of m).outpoint (other_half of m ∷ [])) (without_apart (own_half of m).outpoint cs new)
      ∙ ap (λ (l : List Coin). cs ++ l) (without_other (own_half of m).outpoint (other_half of m) [] (and_false (bytes_eq (txid (spend_after of m)).0 (txid (spend_after of m)).0))))

  arranged : (xs ys : List Coin) (p q r : Coin) → ((xs ++ (ys ++ p ∷ [])) ++ q ∷ []) ++ r ∷ [] ≡ (xs ++ ys) ++ p ∷ q ∷ r ∷ []
  arranged xs ys p q r = simp append_assoc

  pub spend_put : coins_after (suc m) (spend_after of m) after_coinbase ≡ (a.old ++ a.new) ++ coinbase_coin of (suc m) ∷ other_half of m ∷ own_half of m ∷ []
  spend_put =
      ap (λ (l : List Coin). add_coin (own_half of m) (add_coin (other_half of m) l)) left_by_spend
      ∙ own_put (a.old ++ (a.new ++ coinbase_coin of (suc m) ∷ [])) left_apart
      ∙ arranged a.old a.new (coinbase_coin of (suc m)) (other_half of m) (own_half of m)

  still_half : (c : Coin) → IsHalf of m c → IsHalf of (suc m) c
  still_half c half = (half.0, (let less = half.1 in omega (arith, less)), half.2)

  pub more_coins : ScriptsDiffer → After of (suc m) (coins_after_all (suc m) (txs_at of (suc m)) coins)
  more_coins scripts = record {
    old = a.old ++ a.new;
    new = other_half of m ∷ own_half of m ∷ [];
    are = spend_put;
    halves_old = all_append (IsHalf of (suc m)) a.old a.new
        (all_weaker (IsHalf of m) (IsHalf of (suc m)) a.old still_half a.halves_old)
        (all_weaker (IsHalf of m) (IsHalf of (suc m)) a.new still_half a.halves_new);
    halves_new = ((m, omega arith, refl), ((m, omega arith, refl), tt));
    sum = sums;
    own = owns;
  }
    where
      sums : supply ((a.old ++ a.new) ++ other_half of m ∷ own_half of m ∷ []) ≡ 5000000000 * suc m
      sums =
          let parts = supply_joined (a.old ++ a.new) (other_half of m ∷ own_half of m ∷ []) in
          let before = a.sum in
          omega (arith, parts, before)

      other : is_own (other_half of m) ≡ false
      other = differs (is_own (other_half of m)) (λ e. scripts (suc m % 100) (omega arith) (λ is. (let less : suc m % 100 < 100 = omega arith in omega (arith, is, less)))
          ((bytes_eq-Decides (sha256 (locking_script (suc m % 100))) (sha256 (locking_script 100))).0 e))

      mine : is_own (own_half of m) ≡ true
      mine = (bytes_eq-Decides (sha256 (locking_script 100)) (sha256 (locking_script 100))).1 refl

      owns : supply (filter is_own ((a.old ++ a.new) ++ other_half of m ∷ own_half of m ∷ [])) ≡ 2500000000 * suc m
      owns =
          let cut = filter-append is_own (a.old ++ a.new) (other_half of m ∷ own_half of m ∷ []) in
          let kept : filter is_own (other_half of m ∷ own_half of m ∷ []) ≡ own_half of m ∷ [] = rw (other, mine) refl in
          let parts = supply_joined (filter is_own (a.old ++ a.new)) (own_half of m ∷ []) in
          let before = a.own in
          ap supply (cut ∙ ap (λ (l : List Coin). filter is_own (a.old ++ a.new) ++ l) kept) ∙ omega (arith, parts, before)

-- What a chain of the first branch has together.
use Rattle.std.proofs.Common.{◌≡◌, ℕ, zero, suc, ◌+◌, ◌-◌, ◌*◌, ◌/◌, ◌≤◌, false, List, ◌∷◌, ◌++◌, length, filter, refl, sym, ap, ◌∙◌, arith, subst}
use Rattle.std.proofs.lemmas.List.{length-map}
use Rattle.std.proofs.lemmas.List.Elements.{filter-append}
use Rattle.std.proofs.lemmas.Slice.Eq.{bytes_eq-Decides}
use Rattle.sha2.specs.Sha256.{sha256}
use Rattle.el_chain.specs.declared.coin.Coin.{Coin}
use Rattle.el_chain.specs.declared.placed.Placed.{Placed}
use Rattle.el_chain.specs.Chains.{Chain}
use Rattle.el_chain.specs.Coins.{coins, supply}
use Rattle.el_chain.specs.History.{positions}
use Rattle.el_chain.specs.RowCounts.{output_count}
use Rattle.el_chain.proofs.CoinLists.{differs}
use Rattle.el_model.specs.Queries.{balance}
use Rattle.el_gen.specs.Generated.{locking_script}
use Rattle.el_gen.specs.MadeFile.{no_block, made_file, first_branch}
use Rattle.el_check_chain.specs.Summaries.{summary_of}
use Rattle.el_check_chain.specs.declared.summary.Summary.{Summary}
use Rattle.el_check_laws.specs.Differing.{HashesDiffer, blocks_of}
use Rattle.el_check_laws.specs.Numbers.{numbers}
use Rattle.el_check_laws.proofs.MadeChains.{AreMade, first_of, first_made}
use Rattle.el_check_laws.proofs.MadeCoins.{ScriptsDiffer, is_own, coinbase_coin, AfterAll}
use Rattle.el_check_laws.proofs.MadeGood.{Stands}
use Rattle.el_check_laws.proofs.MadeOrder.{made_stand}
use Rattle.el_check_laws.proofs.BothBranches.{length-first, first_right}

-- a coin of another script changes nothing of what the own ones are
own_between : (c : Coin) (xs ys : List Coin) → is_own c ≡ false → filter is_own (xs ++ c ∷ ys) ≡ filter is_own (xs ++ ys)
own_between c xs ys other =
    let same : filter is_own (c ∷ ys) ≡ filter is_own ys = rw other refl in
    filter-append is_own xs (c ∷ ys) ∙ ap (λ (l : List Coin). filter is_own xs ++ l) same ∙ sym (filter-append is_own xs ys)

coinbase_other : (of : ℕ → ℕ) (height : ℕ) → ScriptsDiffer → is_own (coinbase_coin of height) ≡ false
coinbase_other of height scripts = differs (is_own (coinbase_coin of height))
    (λ e. scripts 101 (omega arith) (λ is. omega (arith, is)) ((bytes_eq-Decides (sha256 (locking_script 101)) (sha256 (locking_script 100))).0 e))

own_sum : (of : ℕ → ℕ) (n : ℕ) (cs : List Coin) → ScriptsDiffer → AfterAll of n cs → supply (filter is_own cs) ≡ 2500000000 * (n - 1)
own_sum of zero cs scripts none = ap (λ (l : List Coin). supply (filter is_own l)) none
own_sum of (suc m) cs scripts a =
    let e : suc m - 1 ≡ m = omega arith in
    ap (λ (l : List Coin). supply (filter is_own l)) a.are ∙ ap supply (own_between (coinbase_coin of m) a.old a.new (coinbase_other of m scripts)) ∙ a.own
    ∙ ap (λ (k : ℕ). 2500000000 * k) (sym e)

same_summary : (h i t u o p m n b c : ℕ) (f : ℕ) → h ≡ i → t ≡ u → o ≡ p → m ≡ n → b ≡ c
    → (let s : Summary = record { height = h; txs = t; outputs = o; moves = m; balance = b; bytes = f } in s)
    ≡ record { height = i; txs = u; outputs = p; moves = n; balance = c; bytes = f }
same_summary h i t u o p m n b c f eh et eo em eb = rw (eh, et, eo, em, eb) refl

pub sums_are : (count moves : ℕ) (chain : Chain) → 1 ≤ count → count ≤ 20000 → HashesDiffer count → blocks_of chain ≡ first_branch count
    → moves ≡ (count + 15) / 16 + 2 → summary_of chain moves (length (made_file count)) ≡ numbers count
sums_are count moves chain some few differ are moved =
    same_summary (length chain - 1) (count - 1) (length (positions chain)) (2 * count - 1) (output_count (positions chain)) (3 * count - 2)
    moves ((count + 15) / 16 + 2) (balance chain (sha256 (locking_script 100))) (2500000000 * (count - 1)) (length (made_file count))
    (ap (λ (n : ℕ). n - 1) long) stands.txs stands.outputs moved (own_sum first_of count (coins chain) differ.scripts stands.after)
  where
    long : length chain ≡ count
    long = sym (length-map chain (λ (b : Placed). b.block)) ∙ ap length are ∙ length-first count

    stands : Stands first_of count chain
    stands = subst (λ (n : ℕ). Stands first_of n chain) long
        (made_stand first_of count chain (first_right count few differ) (subst (AreMade first_of no_block 0) (sym are) (first_made count)) (omega (arith, long))).1

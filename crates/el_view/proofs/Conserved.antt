-- What a script hash holds by the chain and the kept transactions: what it held by the chain, with what they give, without what they take.
use Rattle.std.proofs.Common.{◌≡◌, ℕ, ◌+◌, Bool, true, false, ◌&&◌, ◌||◌, not, List, [], ◌∷◌, ◌++◌, Option, None, Some, refl, ap, sym, ◌∙◌, append_assoc, append-nil, arith}
use Rattle.std.proofs.lemmas.Bool.{and_parts, not-true, true≢false}
use Rattle.std.proofs.lemmas.List.Folds.{list_any-append}
use Rattle.std.proofs.lemmas.List.Sums.{sum_by-cons}
use Rattle.std.proofs.Math.Bool.{or-false}
use Rattle.std.specs.List.{filter, flat_map}
use Rattle.std.specs.Prelude.{map, option_map, option_to_list}
use Rattle.std.specs.Str.{bytes_eq}
use Rattle.el_base.specs.declared.hash.Hash32.{Hash32}
use Rattle.el_tx.specs.declared.types.Outpoint.{Outpoint}
use Rattle.el_tx.specs.declared.types.TxIn.{TxIn}
use Rattle.el_tx.specs.declared.types.TxOut.{TxOut}
use Rattle.el_tx.specs.declared.types.Tx.{Tx}
use Rattle.el_tx.specs.Hashing.{txid, same_outpoint}
use Rattle.el_chain.specs.declared.coin.Coin.{Coin}
use Rattle.el_chain.specs.Chains.{Chain}
use Rattle.el_chain.specs.Coins.{without, coins, supply}
use Rattle.el_chain.specs.CoinLaws.{coins_made}
use Rattle.el_chain.specs.CoinLists.{coin_in, AreOnce}
use Rattle.el_chain.proofs.CoinLists.{same_self, once_without, once_in_chain}
use Rattle.el_model.specs.Queries as confirmed
use Rattle.el_mempool.specs.declared.held.Held.{Held}
use Rattle.el_mempool.specs.declared.held.Source.{Source}
use Rattle.el_mempool.specs.Sift.{coin_held, output_held, named, any_takes, is_taken, each_takes, may_join, sift}
use Rattle.el_mempool.specs.Standing.{source_at, sources}
use Rattle.el_mempool.specs.Unconfirmed.{shown_cmp, by_shown, made, pool_unspent}
use Rattle.el_mempool.proofs.Sifting.{AllJoin, joins_of}
use Rattle.el_mempool.proofs.Picked.{KeysApart}
use Rattle.el_mempool.proofs.Sifted.{AreFresh}
use Rattle.el_mempool.proofs.Worth.{Names, names_later, takes_untaken}
use Rattle.el_view.specs.Views.{untaken, unspent}
use Rattle.el_view.specs.within.Sums.{value_at, given_at, taken_at}
use Rattle.el_view.proofs.Weighing.{weigh, weigh_is, weigh_filter, weigh_agree, weigh_append, weight_of, weigh_without, in_filter, once_filter, weigh_in_order}
use Rattle.el_view.proofs.Making.{once_with_made, chain_has_none, all_named_in}

-- the coin has the script hash
abbrev pub own : List ℕ → Coin → Bool
own s c = bytes_eq c.script.0 s

-- the sums of some transactions
abbrev pub tally : (Tx → ℕ) → List Tx → ℕ
tally f [] = 0
tally f (t ∷ ts) = f t + tally f ts

abbrev pub gives : List ℕ → Tx → ℕ
gives s t = given_at s (map output_held t.outputs)

abbrev pub takes : Chain → List Tx → List ℕ → Tx → ℕ
takes chain kept s t = taken_at s (sources chain kept t.inputs)

-- ---- what inputs take

-- what it holds of the script hash
abbrev pub held_at : List ℕ → Option Held → ℕ
held_at s None = 0
held_at s (Some h) = value_at s h

weight_is : (s : List ℕ) (x : Option Coin) → weight_of (own s) x ≡ held_at s (option_map coin_held x)
weight_is s None = refl
weight_is s (Some c) = refl

one_more : (s : List ℕ) (i : TxIn) (x : Option Held) (xs : List Source) → taken_at s (option_to_list (option_map (source_at i) x) ++ xs) ≡ held_at s x + taken_at s xs
one_more s i None xs = omega arith
one_more s i (Some h) xs = sum_by-cons (λ (x : Source). value_at s x.held) (source_at i h) xs

both_not : (a b p : Bool) → (not (a || b) && p) ≡ (not a && (not b && p))
both_not true b p = refl
both_not false b p = refl

-- with the script hash, and taken by none of these inputs
abbrev pub left : List ℕ → List TxIn → Coin → Bool
left s is c = not (any_takes c.outpoint is) && own s c

spent : (chain : Chain) (kept before : List Tx) (s : List ℕ) (is : List TxIn) (cs : List Coin) → AreOnce cs → each_takes chain before is ≡ true → Names chain kept is cs
    → weigh (left s is) cs + taken_at s (sources chain kept is) ≡ weigh (own s) cs
spent chain kept before s [] cs once takes names = omega arith
spent chain kept before s (i ∷ is) cs once takes names =
    let both = and_parts _ _ takes in
    let more = and_parts _ _ both.1 in
    let self : any_takes i.from (i ∷ is) ≡ true = ap (λ b. b || any_takes i.from is) (same_self i.from) in
    let first : weight_of (own s) (coin_in cs i.from) ≡ held_at s (named chain kept i.from) = weight_is s (coin_in cs i.from) ∙ ap (held_at s) (names i.from self) in
    let here = weigh_agree (left s (i ∷ is)) (λ c. not (same_outpoint c.outpoint i.from) && left s is c) (λ c. both_not (same_outpoint c.outpoint i.from) (any_takes c.outpoint is) (own s c)) cs
    ∙ sym (weigh_filter (left s is) (λ (c : Coin). not (same_outpoint c.outpoint i.from)) cs) in
    let rest = spent chain kept before s is (without i.from cs) (once_without i.from cs once) more.1 (names_later chain kept i is cs names (not-true _ more.0)) in
    let out = weigh_without (own s) i.from cs once in
    let one = one_more s i (named chain kept i.from) (sources chain kept is) in
    omega (arith, here, rest, out, one, first)

-- ---- one kept transaction after the other

-- with the script hash, and taken by none of these transactions
abbrev pub free : List ℕ → List Tx → Coin → Bool
free s ts c = not (is_taken c.outpoint ts) && own s c

free_more : (s : List ℕ) (before : List Tx) (t : Tx) (c : Coin) → free s (before ++ t ∷ []) c ≡ (not (is_taken c.outpoint before) && left s t.inputs c)
free_more s before t c =
    ap (λ b. not b && own s c) (list_any-append (λ (u : Tx). any_takes c.outpoint u.inputs) before (t ∷ []) ∙ ap (λ b. is_taken c.outpoint before || b) (or-false (any_takes c.outpoint t.inputs)))
    ∙ both_not (is_taken c.outpoint before) (any_takes c.outpoint t.inputs) (own s c)

not_true_of : (b : Bool) → b ≡ false → not b ≡ true
not_true_of true e = absurd (true≢false e)
not_true_of false e = refl

takes_all : (chain : Chain) (kept before ts : List Tx) (s : List ℕ) (all : List Coin) → AreOnce all → ((o : Outpoint) → option_map coin_held (coin_in all o) ≡ named chain kept o)
    → AllJoin (may_join chain) before ts → weigh (free s (before ++ ts)) all + tally (takes chain kept s) ts ≡ weigh (free s before) all
takes_all chain kept before [] s all once names joins = let same = ap (λ l. weigh (free s l) all) (append-nil before) in omega (arith, same)
takes_all chain kept before (t ∷ ts) s all once names joins =
    let both = and_parts _ _ joins.0 in
    let more = and_parts _ _ both.1 in
    let rest = takes_all chain kept (before ++ t ∷ []) ts s all once names joins.1 in
    let whole = ap (λ l. weigh (free s l) all) (append_assoc before (t ∷ []) ts) in
    let one = spent chain kept before s t.inputs (filter (λ (c : Coin). not (is_taken c.outpoint before)) all) (once_filter (λ o. not (is_taken o before)) all once) more.0
    (λ o there. ap (option_map coin_held) (in_filter (λ x. not (is_taken x before)) all o (not_true_of (is_taken o before) (takes_untaken chain before t.inputs o more.0 there))) ∙ names o) in
    let start = weigh_filter (own s) (λ (c : Coin). not (is_taken c.outpoint before)) all in
    let after = weigh_filter (left s t.inputs) (λ (c : Coin). not (is_taken c.outpoint before)) all ∙ sym (weigh_agree (free s (before ++ t ∷ [])) (λ c. not (is_taken c.outpoint before) && left s t.inputs c) (free_more s before t) all) in
    omega (arith, rest, whole, one, start, after)

-- ---- what outputs give

gives_made : (s : List ℕ) (id : Hash32) (n : ℕ) (os : List TxOut) → weigh (own s) (coins_made id 0 n os) ≡ given_at s (map output_held os)
gives_made s id n [] = refl
gives_made s id n (o ∷ os) =
    let rest = gives_made s id (n + 1) os in
    let one = sum_by-cons (λ (h : Held). value_at s h) (output_held o) (map output_held os) in
    omega (arith, rest, one)

gives_all : (s : List ℕ) (ts : List Tx) → weigh (own s) (flat_map made ts) ≡ tally (gives s) ts
gives_all s [] = refl
gives_all s (t ∷ ts) =
    let rest = gives_all s ts in
    let one = gives_made s (txid t) 0 t.outputs in
    let parts = weigh_append (own s) (made t) (flat_map made ts) in
    omega (arith, rest, one, parts)

-- ---- what is unspent

turned : (a b : Bool) → (a && b) ≡ (b && a)
turned true true = refl
turned true false = refl
turned false true = refl
turned false false = refl

supply_append : (xs ys : List Coin) → supply (xs ++ ys) ≡ supply xs + supply ys
supply_append [] ys = omega arith
supply_append (x ∷ xs) ys = let rest = supply_append xs ys in omega (arith, rest)

unspent_is : (chain : Chain) (kept : List Tx) (s : List ℕ) → supply (unspent chain kept s) ≡ weigh (free s kept) (coins chain ++ flat_map made kept)
unspent_is chain kept s =
    let parts = supply_append (untaken kept (confirmed.unspent chain s)) (pool_unspent kept s) in
    let first : supply (untaken kept (confirmed.unspent chain s)) ≡ weigh (free s kept) (coins chain) =
    weigh_is (λ (c : Coin). not (is_taken c.outpoint kept)) (confirmed.unspent chain s)
    ∙ weigh_filter (λ (c : Coin). not (is_taken c.outpoint kept)) (own s) (coins chain)
    ∙ weigh_agree (λ c. own s c && not (is_taken c.outpoint kept)) (free s kept) (λ c. turned (own s c) (not (is_taken c.outpoint kept))) (coins chain) in
    let second : supply (pool_unspent kept s) ≡ weigh (free s kept) (flat_map made kept) =
    weigh_is (λ (c : Coin). own s c && not (is_taken c.outpoint kept)) (flat_map made (by_shown kept))
    ∙ weigh_agree (λ c. own s c && not (is_taken c.outpoint kept)) (free s kept) (λ c. turned (own s c) (not (is_taken c.outpoint kept))) (flat_map made (by_shown kept))
    ∙ weigh_in_order shown_cmp (free s kept) made kept in
    let whole = weigh_append (free s kept) (coins chain) (flat_map made kept) in
    omega (arith, parts, first, second, whole)

fresh_from : (chain : Chain) (before ts : List Tx) → AllJoin (may_join chain) before ts → AreFresh chain ts
fresh_from chain before [] joins = tt
fresh_from chain before (t ∷ ts) joins = (not-true _ (and_parts _ _ joins.0).0, fresh_from chain (before ++ t ∷ []) ts joins.1)

pub conserved : (chain : Chain) (kept : List Tx) (s : List ℕ) → sift chain kept ≡ kept → KeysApart txid kept
    → supply (unspent chain kept s) + tally (takes chain kept s) kept ≡ confirmed.balance chain s + tally (gives s) kept
conserved chain kept s same apart =
    let joins = joins_of (may_join chain) kept same in
    let once = once_with_made kept (coins chain) apart (once_in_chain chain) (chain_has_none chain kept (fresh_from chain [] kept joins)) in
    let taken = takes_all chain kept [] kept s (coins chain ++ flat_map made kept) once (all_named_in chain kept) joins in
    let now = unspent_is chain kept s in
    let before = weigh_append (own s) (coins chain) (flat_map made kept) in
    let given = gives_all s kept in
    let was : confirmed.balance chain s ≡ weigh (own s) (coins chain) = weigh_is (own s) (coins chain) in
    omega (arith, taken, now, before, given, was)

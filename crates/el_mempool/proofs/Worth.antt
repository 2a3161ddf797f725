-- The coins that the chain and the kept ones leave hold no more than the chain's: each that joins gives no more than it takes.
use Rattle.std.proofs.Common.{◌≡◌, ◌⊎◌, inl, inr, ℕ, zero, suc, ◌+◌, ◌≤◌, ◌<◌, true, false, Bool, cond, ◌&&◌, ◌||◌, List, [], ◌∷◌, ◌++◌, Option, None, Some, refl, ap, sym, ◌∙◌, append_assoc, arith}
use Rattle.std.proofs.lemmas.Bool.{cases_Bool, and_parts, or_parts, or_right, not-true, true≢false, false_from_ne_true}
use Rattle.std.proofs.lemmas.List.Folds.{list_any-append}
use Rattle.std.proofs.lemmas.List.Sums.{sum_by-cons}
use Rattle.std.specs.List.{AllByRecursion}
use Rattle.std.specs.Prelude.{map, nat_eq, nat_lt, slice_get, option_map, option_to_list}
use Rattle.std.specs.Option.{option_or}
use Rattle.el_base.specs.declared.hash.Hash32.{Hash32}
use Rattle.el_tx.specs.Encoding.{total_value}
use Rattle.el_tx.specs.declared.types.Outpoint.{Outpoint}
use Rattle.el_tx.specs.declared.types.TxIn.{TxIn}
use Rattle.el_tx.specs.declared.types.TxOut.{TxOut}
use Rattle.el_tx.specs.declared.types.Tx.{Tx}
use Rattle.el_tx.specs.Hashing.{txid, same_outpoint}
use Rattle.el_chain.specs.declared.coin.Coin.{Coin}
use Rattle.el_chain.specs.Chains.{Chain}
use Rattle.el_chain.specs.Coins.{without, spend_inputs, coin_made, add_coin, add_outputs, coins, supply}
use Rattle.el_chain.specs.Headers.{same_hash}
use Rattle.el_chain.specs.CoinLists.{coin_in, value_in, AreOnce}
use Rattle.el_chain.proofs.CoinLists.{same_gives, same_self, in_without, in_put, once_without, once_put, once_spent, once_added, once_in_chain, supply_without, supply_put, outpoints_equal}
use Rattle.el_mempool.specs.declared.held.Held.{Held}
use Rattle.el_mempool.specs.Sift.{coin_held, coin_named, output_held, output_of, output_among, named, any_takes, is_taken, each_takes, held_by, total_held, is_confirmed, may_join, sift}
use Rattle.el_mempool.specs.Refusals.{is_kept}
use Rattle.el_mempool.proofs.Sifting.{AllJoin, joins_of}
use Rattle.el_mempool.proofs.Confirmed.{hash_same, unconfirmed_none}
use Rattle.el_mempool.proofs.Named.{among_append, held_more}
use Rattle.el_mempool.proofs.Dropping.{output_apart}
use Rattle.el_mempool.specs.Unconfirmed.{fee}
use Rattle.el_mempool.proofs.Picked.{KeysApart}
use Rattle.el_mempool.proofs.Changes.{apart_from}
use Rattle.el_base.proofs.Lists.{all_weaker}
use Rattle.el_block.specs.Blocks.{AllDiffer}
use Rattle.el_mempool.proofs.Sifted.{NoneKept, none_more, none_of_nothing, joins_named}

-- ---- inputs take their coins out

held_one : (x : Option Coin) (l : List Held) → total_held (option_to_list (option_map coin_held x) ++ l) ≡ value_in x + total_held l
held_one None l = omega arith
held_one (Some c) l = sum_by-cons (λ (h : Held). h.value) (coin_held c) l

-- the coins are what these inputs name
abbrev pub Names : Chain → List Tx → List TxIn → List Coin → Type 0
Names chain kept is cs = (o : Outpoint) → any_takes o is ≡ true → option_map coin_held (coin_in cs o) ≡ named chain kept o

pub names_later : (chain : Chain) (kept : List Tx) (i : TxIn) (is : List TxIn) (cs : List Coin) → Names chain kept (i ∷ is) cs → any_takes i.from is ≡ false → Names chain kept is (without i.from cs)
names_later chain kept i is cs names apart o h =
    let other : same_outpoint i.from o ≡ false = false_from_ne_true (same_outpoint i.from o) (λ e. true≢false (sym h ∙ ap (λ x. any_takes x is) (sym (same_gives i.from o e)) ∙ apart)) in
    ap (option_map coin_held) (in_without i.from cs o ∙ ap (λ b. cond b None (coin_in cs o)) other) ∙ names o (or_right (same_outpoint o i.from) (any_takes o is) h)

pub spent_less : (chain : Chain) (kept : List Tx) (is : List TxIn) (cs : List Coin) → AreOnce cs → each_takes chain kept is ≡ true → Names chain kept is cs
    → supply (spend_inputs is cs) + total_held (held_by chain kept is) ≡ supply cs
spent_less chain kept [] cs once takes names = omega arith
spent_less chain kept (i ∷ is) cs once takes names =
    let both = and_parts _ _ takes in
    let more = and_parts _ _ both.1 in
    let own : any_takes i.from (i ∷ is) ≡ true = ap (λ b. b || any_takes i.from is) (same_self i.from) in
    let first : named chain kept i.from ≡ option_map coin_held (coin_in cs i.from) = sym (names i.from own) in
    let rest = spent_less chain kept is (without i.from cs) (once_without i.from cs once) more.1 (names_later chain kept i is cs names (not-true _ more.0)) in
    let out = supply_without i.from cs once in
    let one = ap (λ x. total_held (option_to_list x ++ held_by chain kept is)) first ∙ held_one (coin_in cs i.from) (held_by chain kept is) in
    omega (arith, rest, out, one)

pub in_spent : (is : List TxIn) (cs : List Coin) (o : Outpoint) → coin_in (spend_inputs is cs) o ≡ cond (any_takes o is) None (coin_in cs o)
in_spent [] cs o = refl
in_spent (i ∷ is) cs o =
    in_spent is (without i.from cs) o ∙ ap (cond (any_takes o is) None) (in_without i.from cs o ∙ ap (λ b. cond b None (coin_in cs o)) (outpoints_equal.symm i.from o)) ∙ by (same_outpoint o i.from) (any_takes o is)
  where
    by : (a b : Bool) → cond b None (cond a None (coin_in cs o)) ≡ cond (a || b) None (coin_in cs o)
    by true true = refl
    by true false = refl
    by false true = refl
    by false false = refl

-- ---- outputs put theirs in

abbrev pub made_at : Hash32 → ℕ → List TxOut → Outpoint → Option Coin
made_at id n [] o = None
made_at id n (x ∷ xs) o = option_or (made_at id (n + 1) xs o) (cond (same_outpoint (record { txid = id; index = n }) o) (Some (coin_made id 0 n x)) None)

pub in_made : (id : Hash32) (n : ℕ) (os : List TxOut) (cs : List Coin) (o : Outpoint) → coin_in (add_outputs id 0 n os cs) o ≡ option_or (made_at id n os o) (coin_in cs o)
in_made id n [] cs o = refl
in_made id n (x ∷ xs) cs o =
    in_made id (n + 1) xs (add_coin (coin_made id 0 n x) cs) o ∙ ap (option_or (made_at id (n + 1) xs o)) (in_put (coin_made id 0 n x) cs o)
    ∙ by (made_at id (n + 1) xs o) (same_outpoint (record { txid = id; index = n }) o)
  where
    by : (m : Option Coin) (b : Bool) → option_or m (cond b (Some (coin_made id 0 n x)) (coin_in cs o)) ≡ option_or (option_or m (cond b (Some (coin_made id 0 n x)) None)) (coin_in cs o)
    by (Some c) b = refl
    by None true = refl
    by None false = refl

outputs_add : (id : Hash32) (h n : ℕ) (os : List TxOut) (cs : List Coin) → AreOnce cs → supply (add_outputs id h n os cs) ≤ supply cs + total_value os
outputs_add id h n [] cs once = omega arith
outputs_add id h n (o ∷ os) cs once =
    let one = supply_put (coin_made id h n o) cs once in
    let rest = outputs_add id h (n + 1) os (add_coin (coin_made id h n o) cs) (once_put (coin_made id h n o) cs once) in
    let joined = sum_by-cons (λ (x : TxOut). x.value) o os in
    omega (arith, one, rest, joined)

-- the output with that number, where the first has another
abbrev pub get_from : ℕ → List TxOut → ℕ → Option TxOut
get_from n [] k = None
get_from n (x ∷ xs) k = cond (nat_eq n k) (Some x) (get_from (n + 1) xs k)

nat_apart : (m n : ℕ) → m < n → nat_eq n m ≡ false
nat_apart m n h = grind (arith, h)

nat_own : (n : ℕ) → nat_eq n n ≡ true
nat_own n = grind arith

get_below : (n : ℕ) (os : List TxOut) (k : ℕ) → k < n → get_from n os k ≡ None
get_below n [] k h = refl
get_below n (x ∷ xs) k h = let apart = nat_apart k n h in rw apart (get_below (n + 1) xs k (omega (arith, h)))

get_at : (n : ℕ) (os : List TxOut) (k : ℕ) → get_from n os (n + k) ≡ slice_get os k
get_at n [] k = refl
get_at n (x ∷ xs) zero =
    let own : nat_eq n (n + 0) ≡ true = grind arith in
    rw own refl
get_at n (x ∷ xs) (suc k) =
    let apart : nat_eq n (n + suc k) ≡ false = grind arith in
    let moved : n + suc k ≡ n + 1 + k = omega arith in
    rw apart (ap (get_from (n + 1) xs) moved ∙ get_at (n + 1) xs k)

pub made_held : (id : Hash32) (n : ℕ) (os : List TxOut) (o : Outpoint) → option_map coin_held (made_at id n os o) ≡ cond (same_hash id o.txid) (option_map output_held (get_from n os o.index)) None
made_held id n [] o = by (same_hash id o.txid)
  where
    by : (b : Bool) → ◌≡◌ {A = Option Held} None (cond b None None)
    by true = refl
    by false = refl
made_held id n (x ∷ xs) o = by (same_hash id o.txid) (nat_eq n o.index) (made_at id (n + 1) xs o) (made_held id (n + 1) xs o) (λ e. get_below (n + 1) xs o.index (below e))
  where
    below : nat_eq n o.index ≡ true → o.index < n + 1
    below e = grind (arith, e)

    by : (a b : Bool) (m : Option Coin) → option_map coin_held m ≡ cond a (option_map output_held (get_from (n + 1) xs o.index)) None → (b ≡ true → get_from (n + 1) xs o.index ≡ None)
        → option_map coin_held (option_or m (cond (a && b) (Some (coin_made id 0 n x)) None)) ≡ cond a (option_map output_held (cond b (Some x) (get_from (n + 1) xs o.index))) None
    by true true None e none = refl
    by true true (Some c) e none = absurd (some_none c (e ∙ ap (option_map output_held) (none refl)))
      where
        some_none : (d : Coin) → option_map coin_held (Some d) ≡ None → ⊥
        some_none d h = cc
    by true false None e none = e
    by true false (Some c) e none = e
    by false b None e none = refl
    by false b (Some c) e none = e

-- ---- one more is kept

-- The coins are what the outpoints name that no kept one takes, and no outpoint has two.
pub record AreLeftBy (chain : Chain) (kept : List Tx) (cs : List Coin) : Type 0 where
  pub once : AreOnce cs
  pub each : (o : Outpoint) → is_taken o kept ≡ false → option_map coin_held (coin_in cs o) ≡ named chain kept o

-- the coins after one that is no coinbase
abbrev pub after_one : Tx → List Coin → List Coin
after_one t cs = add_outputs (txid t) 0 0 t.outputs (spend_inputs t.inputs cs)

pub takes_untaken : (chain : Chain) (kept : List Tx) (is : List TxIn) (o : Outpoint) → each_takes chain kept is ≡ true → any_takes o is ≡ true → is_taken o kept ≡ false
takes_untaken chain kept [] o h there = absurd (true≢false (sym there))
takes_untaken chain kept (i ∷ is) o h there =
    let both = and_parts _ _ h in
    let first = and_parts _ _ both.0 in
    let more = and_parts _ _ both.1 in
    by (cases_Bool (same_outpoint o i.from)) (not-true _ first.1) (takes_untaken chain kept is o more.1)
  where
    by : (same_outpoint o i.from ≡ true) ⊎ (same_outpoint o i.from ≡ false) → is_taken i.from kept ≡ false → (any_takes o is ≡ true → is_taken o kept ≡ false) → is_taken o kept ≡ false
    by (inl e) free rest = ap (λ x. is_taken x kept) (same_gives o i.from e) ∙ free
    by (inr e) free rest = rest (sym (ap (λ b. b || any_takes o is) e) ∙ there)

none_among_kept : (o : Outpoint) (id : Hash32) (ts : List Tx) → is_kept id ts ≡ false → id ≡ o.txid → output_among o ts ≡ None
none_among_kept o id [] h is = refl
none_among_kept o id (t ∷ ts) h is =
    let parts = or_parts (same_hash (txid t) id) (is_kept id ts) h in
    let apart : same_hash (txid t) o.txid ≡ false = ap (same_hash (txid t)) (sym is) ∙ parts.0 in
    ap (λ x. option_or x (output_among o ts)) (output_apart o t apart) ∙ none_among_kept o id ts parts.1 is

pub mapped_or : (a b : Option Coin) → option_map coin_held (option_or a b) ≡ option_or (option_map coin_held a) (option_map coin_held b)
mapped_or None b = refl
mapped_or (Some c) b = refl

pub left_after : (chain : Chain) (kept : List Tx) (t : Tx) (cs : List Coin) → AreLeftBy chain kept cs → is_confirmed chain (txid t) ≡ false → is_kept (txid t) kept ≡ false → AreLeftBy chain (kept ++ t ∷ []) (after_one t cs)
left_after chain kept t cs h fresh new = record {
  once = once_added (txid t) 0 0 t.outputs (spend_inputs t.inputs cs) (once_spent t.inputs cs h.once);
  each = λ o free.
      let parts = or_parts (is_taken o kept) (any_takes o t.inputs || false) (sym (list_any-append (λ (u : Tx). any_takes o u.inputs) kept (t ∷ [])) ∙ free) in
      let untaken = or_parts (any_takes o t.inputs) false parts.1 in
      let left : coin_in (spend_inputs t.inputs cs) o ≡ coin_in cs o = in_spent t.inputs cs o ∙ ap (λ b. cond b None (coin_in cs o)) untaken.0 in
      let from : option_map coin_held (made_at (txid t) 0 t.outputs o) ≡ output_of o t =
      made_held (txid t) 0 t.outputs o ∙ ap (λ x. cond (same_hash (txid t) o.txid) (option_map output_held x) None) (ap (get_from 0 t.outputs) (zero_more o.index) ∙ get_at 0 t.outputs o.index) in
      ap (option_map coin_held) (in_made (txid t) 0 t.outputs (spend_inputs t.inputs cs) o ∙ ap (option_or (made_at (txid t) 0 t.outputs o)) left)
      ∙ mapped_or (made_at (txid t) 0 t.outputs o) (coin_in cs o)
      ∙ ap (λ x. option_or x (option_map coin_held (coin_in cs o))) from ∙ ap (option_or (output_of o t)) (h.each o parts.0)
      ∙ ends o (cases_Bool (same_hash (txid t) o.txid));
}
  where
    zero_more : (n : ℕ) → n ≡ 0 + n
    zero_more n = omega arith

    or_end : (a : Option Held) → option_or a None ≡ a
    or_end None = refl
    or_end (Some x) = refl

    ends : (o : Outpoint) → (same_hash (txid t) o.txid ≡ true) ⊎ (same_hash (txid t) o.txid ≡ false) → option_or (output_of o t) (named chain kept o) ≡ named chain (kept ++ t ∷ []) o
    ends o (inl e) =
        let is = hash_same (txid t) o.txid e in
        let coin = unconfirmed_none chain o (ap (is_confirmed chain) (sym is) ∙ fresh) in
        let others = none_among_kept o (txid t) kept new is in
        ap (λ x. option_or (output_of o t) (option_or x (output_among o kept))) coin ∙ ap (option_or (output_of o t)) others ∙ or_end (output_of o t)
        ∙ sym (ap (λ x. option_or x (output_among o (kept ++ t ∷ []))) coin ∙ among_append o kept (t ∷ []) ∙ ap (λ x. option_or x (output_among o (t ∷ []))) others ∙ or_end (output_of o t))
    ends o (inr e) =
        let none = output_apart o t e in
        ap (λ x. option_or x (named chain kept o)) none
        ∙ ap (option_or (coin_named chain o)) (sym (among_append o kept (t ∷ []) ∙ ap (λ x. option_or (output_among o kept) (option_or x None)) none ∙ or_end (output_among o kept)))

-- ---- all of them

less_than : (a b : ℕ) → nat_lt a b ≡ false → b ≤ a
less_than a b h = grind (arith, h)

pub fees_fit : (chain : Chain) (all before ts : List Tx) (cs : List Coin) (most : ℕ) → all ≡ before ++ ts → AllJoin (may_join chain) before ts → NoneKept before ts → KeysApart txid ts → AreLeftBy chain before cs
    → supply cs ≤ most → AllByRecursion (λ (t : Tx). total_held (held_by chain all t.inputs) ≤ most) ts
fees_fit chain all before [] cs most whole joins none apart h less = tt
fees_fit chain all before (t ∷ ts) cs most whole joins none apart h less =
    let both = and_parts _ _ joins.0 in
    let more = and_parts _ _ both.1 in
    let taken = spent_less chain before t.inputs cs h.once more.0 (λ o there. h.each o (takes_untaken chain before t.inputs o more.0 there)) in
    let given = outputs_add (txid t) 0 0 t.outputs (spend_inputs t.inputs cs) (once_spent t.inputs cs h.once) in
    let enough = less_than (total_held (held_by chain before t.inputs)) (total_value t.outputs) (not-true _ more.1) in
    let same = ap (λ l. total_held (held_by chain l t.inputs)) whole ∙ ap total_held (held_more chain before (t ∷ ts) t.inputs (joins_named chain before t joins.0)) in (
      omega (arith, taken, same, less),
      fees_fit chain all (before ++ t ∷ []) ts (after_one t cs) most (whole ∙ sym (append_assoc before (t ∷ []) ts)) joins.1 (none_more before t ts none.1 apart.0) apart.1
          (left_after chain before t cs h (not-true _ both.0) none.0) (omega (arith, taken, given, enough, less)),
    )

or_nothing : (a : Option Held) → a ≡ option_or a None
or_nothing None = refl
or_nothing (Some x) = refl

-- no fee of a kept one passes what the coins of the chain hold
pub fees_within : (chain : Chain) (kept : List Tx) → sift chain kept ≡ kept → AllDiffer (map txid kept) → AllByRecursion (λ (t : Tx). fee chain kept t ≤ supply (coins chain)) kept
fees_within chain kept same once =
    all_weaker (λ (t : Tx). total_held (held_by chain kept t.inputs) ≤ supply (coins chain)) (λ (t : Tx). fee chain kept t ≤ supply (coins chain)) kept (λ t h. omega (arith, h))
    (fees_fit chain kept [] kept (coins chain) (supply (coins chain)) refl (joins_of (may_join chain) kept same) (none_of_nothing kept) (apart_from kept once)
    (record { once = once_in_chain chain; each = λ o free. or_nothing (coin_named chain o) }) (omega arith))

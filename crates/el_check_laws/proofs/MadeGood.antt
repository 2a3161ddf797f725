-- Each made block can stand after those before it.
use Rattle.std.proofs.Common.{◌≡◌, ℕ, zero, suc, ◌+◌, ◌-◌, ◌*◌, ◌<◌, ◌≤◌, Bool, if◌then◌else◌, List, [], ◌∷◌, ◌++◌, length, length-append, filter, map, refl, sym, ap, ◌∙◌, arith, append_assoc, subst}
use Rattle.std.specs.Prelude.{Option, None, Some, option_map}
use Rattle.std.specs.Option.{option_or}
use Rattle.std.proofs.lemmas.List.Sums.{sum_by-append}
use Rattle.std.proofs.lemmas.List.{length-map}
use Rattle.std.proofs.lemmas.List.Concat.{flat_map-cons}
use Rattle.el_tx.specs.declared.types.TxIn.{TxIn}
use Rattle.el_tx.specs.declared.types.Tx.{Tx}
use Rattle.el_tx.specs.Hashing.{full_encoding}
use Rattle.el_chain.specs.declared.coin.Coin.{Coin}
use Rattle.el_chain.specs.declared.fault.ConnectFault.{ConnectFault}
use Rattle.el_chain.specs.declared.fault.ConnectFault.TheVariants as refusal
use Rattle.el_chain.specs.declared.placed.Placed.{Placed}
use Rattle.el_chain.specs.Chains.{Chain}
use Rattle.el_chain.specs.Coins.{is_coin_of, coins, coins_after, coins_after_all, supply}
use Rattle.el_chain.specs.Faults.{has_coin, missing_fault, position_fault, first_fault, fault}
use Rattle.el_chain.specs.History.{Position, block_positions, positions, first_start}
use Rattle.el_chain.specs.RowCounts.{spending_inputs, concerned_scripts, spent_scripts, output_script, output_count}
use Rattle.el_chain.proofs.GoodChains.{coins_more}
use Rattle.el_chain.proofs.Tallies.{positions_more}
use Rattle.el_gen.specs.Generated.{spending_input}
use Rattle.el_gen.specs.MadeFile.{first_output}
use Rattle.el_check_laws.proofs.CoinParts.{supply_joined, counts_parted}
use Rattle.el_check_laws.proofs.MadeChains.{coinbase_at, spend_after, txs_at}
use Rattle.el_check_laws.proofs.MadeCoins.{AreApart, ScriptsDiffer, After, AfterAll, coinbase_coin, other_half, own_half, first_coins, spend_other, coinbase_put, has_spent, left_without, spend_put, more_coins}
use Rattle.el_check_laws.proofs.Counts.{AreFew, none_are_few, few_more, position_fits}

spent_by_one : (cs : List Coin) (i : TxIn) → length (spent_scripts cs (i ∷ [])) ≡ length (filter (is_coin_of i.from) cs)
spent_by_one cs i =
    ap length (flat_map-cons (λ (j : TxIn). map (λ (c : Coin). c.script) (filter (is_coin_of j.from) cs)) i [])
    ∙ length-append (map (λ (c : Coin). c.script) (filter (is_coin_of i.from) cs)) []
    ∙ (let long = length-map (filter (is_coin_of i.from) cs) (λ (c : Coin). c.script) in omega (arith, long))

two_none : (a b : Option ConnectFault) → a ≡ None → b ≡ None → option_or a (option_or b None) ≡ None
two_none a b p q = rw (p, q) refl

one_none : (a : Option ConnectFault) → a ≡ None → option_or a None ≡ None
one_none a p = rw p refl

-- The positions of a block have no fault after those before, and these are then not many more.
pub record Fits (k txs outputs : ℕ) (before ps : List Position) : Type 0 where
  pub faultless : first_fault before ps ≡ None
  pub few : AreFew (k + 6) (before ++ ps)
  pub txs_are : length ps ≡ txs
  pub outputs_are : output_count ps ≡ outputs

-- ---- the first block

abbrev first_position : (ℕ → ℕ) → Position
first_position of = record { height = 0; pos = 0; start = first_start (txs_at of 0); tx = coinbase_at of 0; before = [] }

more_room : (k n : ℕ) (ps : List Position) → k ≤ n → AreFew k ps → AreFew n ps
more_room k n ps le few = record {
  txs = (let was = few.txs in omega (arith, was, le));
  outputs = (let was = few.outputs in omega (arith, was, le));
  inputs = (let was = few.inputs in omega (arith, was, le));
  scripts = (let was = few.scripts in omega (arith, was, le));
}

pub first_fits : (of : ℕ → ℕ) (k : ℕ) (before : List Position) → AreFew k before → k + 6 ≤ 4294967295
    → Fits k 1 1 before (block_positions 0 (txs_at of 0) [])
first_fits of k before few le = record {
  faultless = one_none (position_fault before (first_position of))
      (position_fits before (first_position of) (k + 3) refl (omega arith) more (omega arith) (omega (arith, le)));
  few = more_room (k + 3) (k + 6) (before ++ first_position of ∷ []) (omega arith) more;
  txs_are = refl;
  outputs_are = refl;
}
  where
    more : AreFew (k + 3) (before ++ first_position of ∷ [])
    more = few_more k 3 before (first_position of) few (omega arith) (omega arith) (omega arith) (omega arith)

-- ---- a block above

module _ (of : ℕ → ℕ) (n m : ℕ) (coins : List Coin) (apart : AreApart of n) (lt : suc m < n) (small : n ≤ 20002) (a : After of m coins) where
  abbrev one : Position
  one = record { height = suc m; pos = 0; start = first_start (txs_at of (suc m)); tx = coinbase_at of (suc m); before = coins }

  abbrev two : Position
  two = record {
    height = suc m;
    pos = 0 + 1;
    start = first_start (txs_at of (suc m)) + length (full_encoding (coinbase_at of (suc m)));
    tx = spend_after of m;
    before = coins_after (suc m) (coinbase_at of (suc m)) coins;
  }

  sum_between : supply (a.old ++ coinbase_coin of m ∷ a.new) ≡ 5000000000 * m + 5000000000
  sum_between =
      let both = supply_joined a.old (coinbase_coin of m ∷ a.new) in
      let parts = supply_joined a.old a.new in
      let whole = a.sum in
      omega (arith, both, parts, whole)

  sum_one : supply (coins_after (suc m) (coinbase_at of (suc m)) coins) ≡ 5000000000 * m + 10000000000
  sum_one =
      let put = ap supply (coinbase_put of n m coins apart lt a) in
      let both = supply_joined a.old (coinbase_coin of m ∷ (a.new ++ coinbase_coin of (suc m) ∷ [])) in
      let rest = supply_joined a.new (coinbase_coin of (suc m) ∷ []) in
      let parts = supply_joined a.old a.new in
      let whole = a.sum in
      omega (arith, put, both, rest, parts, whole)

  sum_two : supply (coins_after (suc m) (spend_after of m) (coins_after (suc m) (coinbase_at of (suc m)) coins)) ≡ 5000000000 * m + 10000000000
  sum_two =
      let put = ap supply (spend_put of n m coins apart lt a) in
      let both = supply_joined (a.old ++ a.new) (coinbase_coin of (suc m) ∷ other_half of m ∷ own_half of m ∷ []) in
      let whole = a.sum in
      omega (arith, put, both, whole)

  coin_there : missing_fault 1 (spend_after of m) (coins_after (suc m) (coinbase_at of (suc m)) coins) ≡ None
  coin_there =
      ap (λ (b : Bool). if b then None else option_map (λ i. refusal.MissingCoin 1 i) (if has_coin (first_output (coinbase_at of m)) (coins_after (suc m) (coinbase_at of (suc m)) coins) then None else Some 0)) (spend_other (coinbase_at of m) (suc m))
      ∙ ap (λ (b : Bool). option_map (λ i. refusal.MissingCoin 1 i) (if b then None else Some 0)) (has_spent of n m coins apart lt a)

  one_taken : length (filter (is_coin_of (first_output (coinbase_at of m))) (coins_after (suc m) (coinbase_at of (suc m)) coins)) ≤ 1
  one_taken =
      let parts = counts_parted (first_output (coinbase_at of m)) (coins_after (suc m) (coinbase_at of (suc m)) coins) in
      let left = ap length (left_without of n m coins apart lt a) ∙ length-append a.old (a.new ++ coinbase_coin of (suc m) ∷ []) in
      let whole = ap length (coinbase_put of n m coins apart lt a) ∙ length-append a.old (coinbase_coin of m ∷ (a.new ++ coinbase_coin of (suc m) ∷ [])) in
      omega (arith, parts, left, whole)

  spent_few : length (spent_scripts (coins_after (suc m) (coinbase_at of (suc m)) coins) ((spend_after of m).inputs)) ≤ 1
  spent_few =
      let same = spent_by_one (coins_after (suc m) (coinbase_at of (suc m)) coins) (spending_input (first_output (coinbase_at of m))) in
      let few = one_taken in
      omega (arith, same, few)

  scripts_two : length (concerned_scripts two) ≤ 3
  scripts_two =
      let ins : spending_inputs (spend_after of m) ≡ (spend_after of m).inputs = ap (λ (b : Bool). if b then [] else (spend_after of m).inputs) (spend_other (coinbase_at of m) (suc m)) in
      let both = length-append (spent_scripts (coins_after (suc m) (coinbase_at of (suc m)) coins) (spending_inputs (spend_after of m))) (map output_script (spend_after of m).outputs) in
      let same = ap (λ (is : List TxIn). length (spent_scripts (coins_after (suc m) (coinbase_at of (suc m)) coins) is)) ins in
      let few = spent_few in
      omega (arith, both, same, few)

  inputs_two : length (spending_inputs (spend_after of m)) ≤ 1
  inputs_two =
      let ins : spending_inputs (spend_after of m) ≡ (spend_after of m).inputs = ap (λ (b : Bool). if b then [] else (spend_after of m).inputs) (spend_other (coinbase_at of m) (suc m)) in
      let long = ap length ins in
      omega (arith, long)

  pub above_fits : (k : ℕ) (before : List Position) → AreFew k before → k + 6 ≤ 4294967295
      → Fits k 2 3 before (block_positions (suc m) (txs_at of (suc m)) coins)
  above_fits k before few le = record {
    faultless = two_none (position_fault before one) (position_fault (before ++ one ∷ []) two)
        (position_fits before one (k + 3) refl (let sum = sum_one in omega (arith, sum, lt, small)) more (omega (arith, lt, small)) (omega (arith, le)))
        (position_fits (before ++ one ∷ []) two (k + 3 + 3) coin_there (let sum = sum_two in omega (arith, sum, lt, small)) both (omega (arith, lt, small)) (omega (arith, le)));
    few = rw (← append_assoc before (one ∷ []) (two ∷ [])) (more_room (k + 3 + 3) (k + 6) ((before ++ one ∷ []) ++ two ∷ []) (omega arith) both);
    txs_are = refl;
    outputs_are = refl;
  }
    where
      more : AreFew (k + 3) (before ++ one ∷ [])
      more = few_more k 3 before one few (omega arith) (omega arith) (omega arith) (omega arith)

      both : AreFew (k + 3 + 3) ((before ++ one ∷ []) ++ two ∷ [])
      both = few_more (k + 3) 3 (before ++ one ∷ []) two more (omega arith) (omega arith) (let few = inputs_two in omega (arith, few)) scripts_two

-- ---- chains

-- The chain has so many made blocks, and this is what stands after them.
pub record Stands (of : ℕ → ℕ) (n : ℕ) (chain : Chain) : Type 0 where
  pub long : length chain ≡ n
  pub after : AfterAll of n (coins chain)
  pub few : AreFew (6 * n) (positions chain)
  pub txs : length (positions chain) ≡ 2 * n - 1
  pub outputs : output_count (positions chain) ≡ 3 * n - 2

pub none_stand : (of : ℕ → ℕ) → Stands of 0 []
none_stand of = record { long = refl; after = refl; few = none_are_few; txs = refl; outputs = refl }

-- what one block more leaves
record More (k txs outputs : ℕ) (chain : Chain) (b : Placed) : Type 0 where
  pub faultless : fault chain b.block ≡ None
  pub few : AreFew (k + 6) (positions (chain ++ b ∷ []))
  pub txs_are : length (positions (chain ++ b ∷ [])) ≡ length (positions chain) + txs
  pub outputs_are : output_count (positions (chain ++ b ∷ [])) ≡ output_count (positions chain) + outputs

one_more : (k txs outputs : ℕ) (chain : Chain) (b : Placed) (ps : List Position) → block_positions (length chain) b.block.txs (coins chain) ≡ ps
    → Fits k txs outputs (positions chain) ps → More k txs outputs chain b
one_more k txs outputs chain b ps are fits = record {
  faultless = ap (first_fault (positions chain)) are ∙ fits.faultless;
  few = subst (AreFew (k + 6)) (sym whole) fits.few;
  txs_are = (
      let long = ap length whole ∙ length-append (positions chain) ps in
      let own = fits.txs_are in
      omega (arith, long, own)
      );
  outputs_are = (
      let sum = ap output_count whole ∙ sum_by-append (λ (p : Position). length p.tx.outputs) (positions chain) ps in
      let own = fits.outputs_are in
      omega (arith, sum, own)
      );
}
  where
    whole : positions (chain ++ b ∷ []) ≡ positions chain ++ ps
    whole = positions_more chain b ∙ ap (λ (qs : List Position). positions chain ++ qs) are

positions_are : (h n : ℕ) (ts us : List Tx) (cs ds : List Coin) → h ≡ n → ts ≡ us → cs ≡ ds → block_positions h ts cs ≡ block_positions n us ds
positions_are h n ts us cs ds p q r =
    ap (λ (k : ℕ). block_positions k ts cs) p ∙ ap (λ (xs : List Tx). block_positions n xs cs) q ∙ ap (λ (xs : List Coin). block_positions n us xs) r

coins_are : (h n : ℕ) (ts us : List Tx) (cs ds : List Coin) → h ≡ n → ts ≡ us → cs ≡ ds → coins_after_all h ts cs ≡ coins_after_all n us ds
coins_are h n ts us cs ds p q r =
    ap (λ (k : ℕ). coins_after_all k ts cs) p ∙ ap (λ (xs : List Tx). coins_after_all n xs cs) q ∙ ap (λ (xs : List Coin). coins_after_all n us xs) r

pub stand_more : (of : ℕ → ℕ) (n most : ℕ) (chain : Chain) (b : Placed) → Stands of n chain → n < most → most ≤ 20002 → AreApart of most → ScriptsDiffer
    → b.block.txs ≡ txs_at of n → (fault chain b.block ≡ None) × Stands of (suc n) (chain ++ b ∷ [])
stand_more of zero most chain b s lt small apart scripts is =
    let fits = first_fits of 0 (positions chain) s.few (omega arith) in
    let long = s.long in
    let none = s.after in
    let more = one_more 0 1 1 chain b (block_positions 0 (txs_at of 0) []) (positions_are (length chain) 0 b.block.txs (txs_at of 0) (coins chain) [] long is none) fits in
    let left = coins_more 0 chain b [] ∙ coins_are (0 + length chain) 0 b.block.txs (txs_at of 0) (coins chain) [] (omega (arith, long)) is none in (
      more.faultless,
      record {
        long = (let both = length-append chain (b ∷ []) in omega (arith, both, long));
        after = subst (After of 0) (sym left) (first_coins of);
        few = more.few;
        txs = (let sum = more.txs_are in let was = s.txs in omega (arith, sum, was));
        outputs = (let sum = more.outputs_are in let was = s.outputs in omega (arith, sum, was));
      },
    )
stand_more of (suc m) most chain b s lt small apart scripts is =
    let long = s.long in
    let fits = above_fits of most m (coins chain) apart lt small s.after (6 * suc m) (positions chain) s.few (omega (arith, lt, small)) in
    let more = one_more (6 * suc m) 2 3 chain b (block_positions (suc m) (txs_at of (suc m)) (coins chain)) (positions_are (length chain) (suc m) b.block.txs (txs_at of (suc m)) (coins chain) (coins chain) long is refl) fits in
    let left = coins_more 0 chain b [] ∙ coins_are (0 + length chain) (suc m) b.block.txs (txs_at of (suc m)) (coins chain) (coins chain) (omega (arith, long)) is refl in (
      more.faultless,
      record {
        long = (let both = length-append chain (b ∷ []) in omega (arith, both, long));
        after = subst (After of (suc m)) (sym left) (more_coins of most m (coins chain) apart lt s.after scripts);
        few = (let e : 6 * suc m + 6 ≡ 6 * suc (suc m) = omega arith in subst (λ (k : ℕ). AreFew k (positions (chain ++ b ∷ []))) e more.few);
        txs = (let sum = more.txs_are in let was = s.txs in omega (arith, sum, was));
        outputs = (let sum = more.outputs_are in let was = s.outputs in omega (arith, sum, was));
      },
    )

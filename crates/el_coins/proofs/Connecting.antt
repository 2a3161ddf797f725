-- A block is connected transaction by transaction.
use Rattle.std.proofs.Common.{◌≡◌, ◌⊎◌, inl, inr, ℕ, ◌+◌, ◌<◌, List, [], ◌∷◌, ◌++◌, length, take, drop, get_or, Option, None, Some, refl, ap, sym, ◌∙◌, append_assoc}
use Rattle.std.specs.Option.{option_or}
use Rattle.el_base.proofs.Lists.{left_at, taken_at}
use Rattle.el_tx.specs.declared.types.Tx.{Tx}
use Rattle.el_tx.specs.Hashing.{full_encoding}
use Rattle.el_chain.specs.declared.coin.Coin.{Coin}
use Rattle.el_coins.specs.declared.coins.CoinTable.{CoinTable}
use Rattle.el_chain.specs.declared.fault.ConnectFault.{ConnectFault}
use Rattle.el_chain.specs.declared.fault.ConnectFault.TheVariants as refusal
use Rattle.el_coins.specs.declared.tally.Tally.{Tally}
use Rattle.el_chain.specs.Chains.{Chain}
use Rattle.el_chain.specs.Coins.{coins_after, coins_after_all, coins, supply}
use Rattle.el_chain.specs.History.{Position, positions_in, block_positions, first_start, positions}
use Rattle.el_chain.specs.RowCounts.{spending_inputs}
use Rattle.el_chain.specs.Faults.{missing_fault, money_fault, full_fault, position_fault, first_fault}
use Rattle.el_coins.specs.CoinLayers.{Holds, coin_fault}
use Rattle.el_coins.specs.Tallies.{IsTally, MeetAs}
use Rattle.el_coins.proofs.Tallies.{meets_begin, meets_more, after_more, tally_more}

-- The first transactions were connected, and those that are left go on.
pub record Connecting (base changes : CoinTable) (tally : Tally) (chain : Chain) (ts : List Tx) (i : ℕ) : Type 0 where
  pub mid : List Coin
  pub before : List Position
  pub start : ℕ
  pub stands : Holds base changes mid
  pub mid_is : mid ≡ coins_after_all (length chain) (take i ts) (coins chain)
  pub counted : IsTally tally before
  pub met : MeetAs chain (take i ts) before
  pub whole : before ++ positions_in (length chain) i start (drop i ts) mid ≡ positions chain ++ block_positions (length chain) ts (coins chain)
  pub fault_is : first_fault (positions chain) (block_positions (length chain) ts (coins chain)) ≡ first_fault before (positions_in (length chain) i start (drop i ts) mid)

pub connecting_begins : (base changes : CoinTable) (tally : Tally) (chain : Chain) (ts : List Tx) → Holds base changes (coins chain) → IsTally tally (positions chain)
    → Connecting base changes tally chain ts 0
connecting_begins base changes tally chain ts stands counted = record {
  mid = coins chain;
  before = positions chain;
  start = first_start ts;
  stands = stands;
  mid_is = refl;
  counted = counted;
  met = meets_begin chain;
  whole = refl;
  fault_is = refl;
}

-- the position of the next transaction
abbrev pub next_of : ℕ → ℕ → ℕ → Tx → List Coin → Position
next_of height i start t mid = record { height = height; pos = i; start = start; tx = t; before = mid }

-- the fault of the next transaction, in two parts
pub parted : (height i start : ℕ) (t : Tx) (mid : List Coin) (before : List Position)
    → position_fault before (next_of height i start t mid) ≡ option_or (coin_fault height i t mid) (full_fault (height + 1) (before ++ next_of height i start t mid ∷ []))
parted height i start t mid before = sym (assoc (missing_fault i t mid) (money_fault (supply (coins_after height t mid))) (full_fault (height + 1) (before ++ next_of height i start t mid ∷ [])))
  where
    assoc : (a b c : Option ConnectFault) → option_or (option_or a b) c ≡ option_or a (option_or b c)
    assoc None b c = refl
    assoc (Some x) b c = refl

-- what the counts after the next transaction are counts of
pub record NextCounted (tally : Tally) (chain : Chain) (ts : List Tx) (i start : ℕ) (t : Tx) (mid : List Coin) (before : List Position) : Type 0 where
  pub counted : IsTally tally (before ++ next_of (length chain) i start t mid ∷ [])
  pub met : MeetAs chain (take (i + 1) ts) (before ++ next_of (length chain) i start t mid ∷ [])

pub next_counted : (base changes : CoinTable) (tally new : Tally) (chain : Chain) (ts : List Tx) (i : ℕ) (t : Tx) (c : Connecting base changes tally chain ts i) → i < length ts → t ≡ get_or ts i t
    → new.txs ≡ tally.txs + 1 → new.outputs ≡ tally.outputs + length t.outputs → new.inputs ≡ tally.inputs + length (spending_inputs t) → NextCounted new chain ts i c.start t c.mid c.before
next_counted base changes tally new chain ts i t c lt is txs outputs inputs = record {
  counted = tally_more tally new c.before (next_of (length chain) i c.start t c.mid) t c.counted refl txs outputs inputs;
  met = meets_more chain ts i t c.before (next_of (length chain) i c.start t c.mid) c.met lt is refl c.mid_is c.stands.once;
}

-- the next transaction is connected
pub connecting_more : (base changes changes' : CoinTable) (tally new : Tally) (chain : Chain) (ts : List Tx) (i height : ℕ) (t : Tx) (c : Connecting base changes tally chain ts i) → height ≡ length chain
    → i < length ts → t ≡ get_or ts i t → NextCounted new chain ts i c.start t c.mid c.before → coin_fault height i t c.mid ≡ None
    → full_fault (length chain + 1) (c.before ++ next_of (length chain) i c.start t c.mid ∷ []) ≡ None → Holds base changes' (coins_after height t c.mid)
    → Connecting base changes' new chain ts (i + 1)
connecting_more base changes changes' tally new chain ts i height t c tall lt is counts coin rows after =
    let left = left_at ts i t lt is in
    let h = length chain in
    let p = next_of h i c.start t c.mid in
    let rest = positions_in h (i + 1) (c.start + length (full_encoding t)) (drop (i + 1) ts) (coins_after h t c.mid) in
    let coin_none = rw tall at coin in
    record {
      mid = coins_after h t c.mid;
      before = c.before ++ p ∷ [];
      start = c.start + length (full_encoding t);
      stands = rw (← tall) after;
      mid_is = ap (coins_after h t) c.mid_is ∙ sym (after_more h (take i ts) t (coins chain)) ∙ ap (λ (us : List Tx). coins_after_all h us (coins chain)) (sym (taken_at ts i t lt is));
      counted = counts.counted;
      met = counts.met;
      whole = append_assoc c.before (p ∷ []) rest ∙ ap (λ (us : List Tx). c.before ++ positions_in h i c.start us c.mid) (sym left) ∙ c.whole;
      fault_is = c.fault_is ∙ ap (λ (us : List Tx). first_fault c.before (positions_in h i c.start us c.mid)) left
          ∙ ap (λ (r : Option ConnectFault). option_or r (first_fault (c.before ++ p ∷ []) rest))
          (parted h i c.start t c.mid c.before ∙ ap (λ (r : Option ConnectFault). option_or r (full_fault (h + 1) (c.before ++ p ∷ []))) coin_none ∙ rows);
    }

-- the next transaction stops the block
stops : (base changes : CoinTable) (tally : Tally) (chain : Chain) (ts : List Tx) (i : ℕ) (t : Tx) (c : Connecting base changes tally chain ts i) (e : ConnectFault)
    → i < length ts → t ≡ get_or ts i t → option_or (coin_fault (length chain) i t c.mid) (full_fault (length chain + 1) (c.before ++ next_of (length chain) i c.start t c.mid ∷ [])) ≡ Some e
    → first_fault (positions chain) (block_positions (length chain) ts (coins chain)) ≡ Some e
stops base changes tally chain ts i t c e lt is fault =
    let left = left_at ts i t lt is in
    let h = length chain in
    let p = next_of h i c.start t c.mid in
    let rest = positions_in h (i + 1) (c.start + length (full_encoding t)) (drop (i + 1) ts) (coins_after h t c.mid) in
    c.fault_is ∙ ap (λ (us : List Tx). first_fault c.before (positions_in h i c.start us c.mid)) left
    ∙ ap (λ (r : Option ConnectFault). option_or r (first_fault (c.before ++ p ∷ []) rest)) (parted h i c.start t c.mid c.before ∙ fault)

pub rows_stop : (base changes : CoinTable) (tally : Tally) (chain : Chain) (ts : List Tx) (i height : ℕ) (t : Tx) (c : Connecting base changes tally chain ts i) (e : ConnectFault) → height ≡ length chain
    → i < length ts → t ≡ get_or ts i t → coin_fault height i t c.mid ≡ None
    → (e ≡ refusal.Memory) ⊎ (full_fault (length chain + 1) (c.before ++ next_of (length chain) i c.start t c.mid ∷ []) ≡ Some e)
    → (e ≡ refusal.Memory) ⊎ (first_fault (positions chain) (block_positions (length chain) ts (coins chain)) ≡ Some e)
rows_stop base changes tally chain ts i height t c e tall lt is coin (inl memory) = inl memory
rows_stop base changes tally chain ts i height t c e tall lt is coin (inr fault) =
    let none = rw tall at coin in
    inr (stops base changes tally chain ts i t c e lt is
    (ap (λ (r : Option ConnectFault). option_or r (full_fault (length chain + 1) (c.before ++ next_of (length chain) i c.start t c.mid ∷ []))) none ∙ fault))

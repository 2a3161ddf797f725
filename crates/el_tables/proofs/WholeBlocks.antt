-- A block's transactions lead from the lists of a chain to those of the chain with the block, or stop at the chain's fault.
use Rattle.std.proofs.Common.{◌≡◌, inl, inr, ℕ, ◌+◌, List, [], ◌∷◌, ◌++◌, length, map, Option, None, Some, Ok, option_map, refl, ap, sym, subst, ◌∙◌, append_assoc, append-nil, length-append, arith}
use Rattle.std.proofs.lemmas.Bool.{cases_Bool}
use Rattle.std.proofs.lemmas.List.{length-map}
use Rattle.std.proofs.lemmas.List.Sums.{sum_by-cons}
use Rattle.std.specs.Option.{option_or}
use Rattle.el_base.specs.declared.hash.Hash32.{Hash32}
use Rattle.el_tx.specs.declared.types.Tx.{Tx}
use Rattle.el_tx.specs.Hashing.{full_encoding, is_coinbase}
use Rattle.el_chain.specs.RowCounts.{spending_inputs, concerned_scripts, add_scripts, output_count, input_count, entry_count}
use Rattle.el_chain.specs.declared.placed.Placed.{Placed}
use Rattle.el_chain.specs.declared.coin.Coin.{Coin}
use Rattle.el_chain.specs.declared.fault.ConnectFault.{ConnectFault}
use Rattle.el_chain.specs.declared.fault.ConnectFault.TheVariants as refusal
use Rattle.el_chain.specs.Chains.{Chain}
use Rattle.el_chain.specs.Coins.{coins_after, coins, supply}
use Rattle.el_chain.specs.Faults.{missing_input, missing_fault, money_fault, full_fault, position_fault, first_fault, fault, AreNext, IsGood}
use Rattle.el_chain.proofs.GoodChains.{first_none, second_none}
use Rattle.el_chain.proofs.Tallies.{positions_more}
use Rattle.el_tables.specs.Lists.{is_unspent, unspent_sum}
use Rattle.el_chain.specs.History.{block_positions, Position, positions_in, positions, first_start}
use Rattle.el_tables.specs.ChainLists.{Output, outputs, listed_out, scripts_of, entry_of, entries_from, lists_of, lists}
use Rattle.el_prepare.specs.Prepared.{prepared_txs, prepared}
use Rattle.el_tables.specs.Connecting.{bounds_by, connect_txs, ok_unless}
use Rattle.el_tables.proofs.Outputs.{coins_of, coins_step, chain_coins}
use Rattle.el_tables.proofs.Numbering.{outs_of, ins_of, length_txs, length_outputs}
use Rattle.el_tables.proofs.Connects.{IsSound, next_position, connect_faultless, connect_refused, sound_more}

-- 1. Faults

pub missing_is : (index : ℕ) (t : Tx) (cs : List Coin) → missing_fault index t cs ≡ option_map (λ n. refusal.MissingCoin index n) (missing_input 0 (spending_inputs t) cs)
missing_is index t cs = elim (cases_Bool (is_coinbase t)) [
  | inl h ↦ rw h refl
  | inr h ↦ rw h refl
]

pub all_held_is : (scripts : List Hash32) (xs : List Output) → unspent_sum (map (listed_out scripts) xs) ≡ supply (coins_of xs)
all_held_is scripts [] = refl
all_held_is scripts (x ∷ xs) =
    let rest = all_held_is scripts xs in
    elim (cases_Bool (is_unspent x.state)) [
      | inl u ↦ rw (u, rest) refl
      | inr u ↦ rw (u, rest) (let e : 0 + supply (coins_of xs) ≡ supply (coins_of xs) = omega arith in e)
    ]

-- as many rows as are counted of the positions
outs_counted : (ps : List Position) → outs_of ps ≡ output_count ps
outs_counted [] = refl
outs_counted (p ∷ ps) =
    let rest = outs_counted ps in
    let sum = sum_by-cons (λ (q : Position). length q.tx.outputs) p ps in
    omega arith

ins_counted : (ps : List Position) → ins_of ps ≡ input_count ps
ins_counted [] = refl
ins_counted (p ∷ ps) =
    let rest = ins_counted ps in
    let sum = sum_by-cons (λ (q : Position). length (spending_inputs q.tx)) p ps in
    omega arith

entries_counted : (scripts : List Hash32) (n : ℕ) (ps : List Position) → length (entries_from scripts n ps) ≡ entry_count ps
entries_counted scripts n [] = refl
entries_counted scripts n (p ∷ ps) =
    let rest = entries_counted scripts (n + 1) ps in
    let sum = sum_by-cons (λ (q : Position). length (add_scripts [] (concerned_scripts q))) p ps in
    let joined = length-append (map (entry_of scripts n) (add_scripts [] (concerned_scripts p))) (entries_from scripts (n + 1) ps) in
    let mapped = length-map (add_scripts [] (concerned_scripts p)) (entry_of scripts n) in
    omega arith

pub txs_long : (ps : List Position) → length (lists_of ps).txs ≡ length ps
txs_long ps = length_txs 0 0 ps

pub outs_long : (ps : List Position) → length (lists_of ps).outs ≡ output_count ps
outs_long ps = length-map (outputs ps) (listed_out (scripts_of ps)) ∙ length_outputs 0 ps ∙ outs_counted ps

pub ins_long : (ps : List Position) → IsSound ps → length (lists_of ps).ins ≡ input_count ps
ins_long ps sound = sound ∙ ins_counted ps

pub entries_long : (ps : List Position) → length (lists_of ps).entries ≡ entry_count ps
entries_long ps = entries_counted (scripts_of ps) 0 ps

-- the bounds by lists are those by positions
bounds_are : (height : ℕ) (ps : List Position) (p : Position) → IsSound (ps ++ p ∷ []) → p.height ≡ height → p.before ≡ coins_of (outputs ps)
    → bounds_by height (lists_of (ps ++ p ∷ []))
    ≡ option_or (money_fault (supply (coins_after p.height p.tx p.before))) (full_fault (p.height + 1) (ps ++ p ∷ []))
bounds_are height ps p sound at coins =
    let held = all_held_is (scripts_of (ps ++ p ∷ [])) (outputs (ps ++ p ∷ [])) in
    let step = coins_step ps p in
    let txs = txs_long (ps ++ p ∷ []) in
    let outs = outs_long (ps ++ p ∷ []) in
    let ins = ins_long (ps ++ p ∷ []) sound in
    let entries = entries_long (ps ++ p ∷ []) in
    rw (held, step, txs, outs, ins, entries, at, coins) refl

-- 2. Transactions

abbrev Connects : ℕ → ℕ → ℕ → List Tx → List Position → Type 0
Connects height index start ts ps = connect_txs height index (prepared_txs start ts) (lists_of ps)
    ≡ ok_unless (first_fault ps (positions_in height index start ts (coins_of (outputs ps)))) (lists_of (ps ++ positions_in height index start ts (coins_of (outputs ps))))

step_case : (height index start : ℕ) (t : Tx) (ts : List Tx) (ps : List Position) → IsSound ps
    → (IsSound (ps ++ next_position height index start t ps ∷ []) → Connects height (index + 1) (start + length (full_encoding t)) ts (ps ++ next_position height index start t ps ∷ []))
    → (r : Option ℕ) → missing_input 0 (spending_inputs t) (coins_of (outputs ps)) ≡ r
    → (b : Option ConnectFault) → option_or (money_fault (supply (coins_after height t (coins_of (outputs ps))))) (full_fault (height + 1) (ps ++ next_position height index start t ps ∷ [])) ≡ b
    → Connects height index start (t ∷ ts) ps
step_case height index start t ts ps sound next (Some input) e b f =
    let done = connect_refused ps height index start t input e in
    let missing : missing_fault index t (coins_of (outputs ps)) ≡ Some (refusal.MissingCoin index input) =
    missing_is index t (coins_of (outputs ps)) ∙ ap (option_map (λ n. refusal.MissingCoin index n)) e in
    rw (done, missing) refl
step_case height index start t ts ps sound next None e (Some g) f =
    let p = next_position height index start t ps in
    let done = connect_faultless ps height index start t sound e in
    let missing : missing_fault index t (coins_of (outputs ps)) ≡ None =
    missing_is index t (coins_of (outputs ps)) ∙ ap (option_map (λ n. refusal.MissingCoin index n)) e in
    let bound : bounds_by height (lists_of (ps ++ p ∷ [])) ≡ Some g = bounds_are height ps p (sound_more ps height index start t sound e) refl refl ∙ f in
    rw (done, missing, bound, f) refl
step_case height index start t ts ps sound next None e None f =
    let p = next_position height index start t ps in
    let done = connect_faultless ps height index start t sound e in
    let missing : missing_fault index t (coins_of (outputs ps)) ≡ None =
    missing_is index t (coins_of (outputs ps)) ∙ ap (option_map (λ n. refusal.MissingCoin index n)) e in
    let more = sound_more ps height index start t sound e in
    let bound : bounds_by height (lists_of (ps ++ p ∷ [])) ≡ None = bounds_are height ps p more refl refl ∙ f in
    let rest = next more in
    let step = coins_step ps p in
    let joined = append_assoc ps (p ∷ []) (positions_in height (index + 1) (start + length (full_encoding t)) ts (coins_after height t (coins_of (outputs ps)))) in
    let after = rw (step, joined) at rest in
    rw (done, missing, bound, f) after

pub connect_txs_is : (ts : List Tx) (height index start : ℕ) (ps : List Position) → IsSound ps → Connects height index start ts ps
connect_txs_is [] height index start ps sound = ap (λ (l : List Position). Ok (lists_of l)) (sym (append-nil ps))
connect_txs_is (t ∷ ts) height index start ps sound =
    step_case height index start t ts ps sound
    (λ s. connect_txs_is ts height (index + 1) (start + length (full_encoding t)) (ps ++ next_position height index start t ps ∷ []) s)
    (missing_input 0 (spending_inputs t) (coins_of (outputs ps))) refl
    (option_or (money_fault (supply (coins_after height t (coins_of (outputs ps))))) (full_fault (height + 1) (ps ++ next_position height index start t ps ∷ []))) refl

-- 3. Chains

pub map_none : {X Y : Type 0} (f : X → Y) (r : Option X) → option_map f r ≡ None → r ≡ None
map_none f None h = refl
map_none f (Some x) h = absurd (wrong h)
  where
    wrong : Some (f x) ≡ None → ⊥
    wrong e = cc

-- it goes on with each transaction whose coins are there
abbrev pub GoesOnBy : (List Position → Type 0) → Type 0
GoesOnBy P = (ps : List Position) (height pos start : ℕ) (t : Tx) → P ps
    → missing_input 0 (spending_inputs t) (coins_of (outputs ps)) ≡ None → P (ps ++ next_position height pos start t ps ∷ [])

txs_have : (P : List Position → Type 0) → GoesOnBy P → (ts : List Tx) (height index start : ℕ) (ps : List Position) → P ps
    → first_fault ps (positions_in height index start ts (coins_of (outputs ps))) ≡ None → P (ps ++ positions_in height index start ts (coins_of (outputs ps)))
txs_have P on [] height index start ps has none = subst P (sym (append-nil ps)) has
txs_have P on (t ∷ ts) height index start ps has none =
    let p = next_position height index start t ps in
    let cs = coins_of (outputs ps) in
    let later = positions_in height (index + 1) (start + length (full_encoding t)) ts (coins_after height t cs) in
    let mine = first_none (position_fault ps p) (first_fault (ps ++ p ∷ []) later) none in
    let others = second_none (position_fault ps p) (first_fault (ps ++ p ∷ []) later) none in
    let missing = first_none (missing_fault index t cs) _ mine in
    let there = map_none (λ n. refusal.MissingCoin index n) (missing_input 0 (spending_inputs t) cs) (sym (missing_is index t cs) ∙ missing) in
    let next = on ps height index start t has there in
    let step = coins_step ps p in
    let rest = txs_have P on ts height (index + 1) (start + length (full_encoding t)) (ps ++ p ∷ []) next (rw step others) in
    let joined = append_assoc ps (p ∷ []) later in
    rw (step, joined) at rest

blocks_have : (P : List Position → Type 0) → GoesOnBy P → (before chain : Chain) → P (positions before) → AreNext before chain → P (positions (before ++ chain))
blocks_have P on before [] has next = subst (λ (l : Chain). P (positions l)) (sym (append-nil before)) has
blocks_have P on before (b ∷ bs) has next =
    let faultless = next.0.faultless in
    let cs = chain_coins before in
    let height = length before in
    let one = txs_have P on b.block.txs height 0 (first_start b.block.txs) (positions before) has (rw cs at faultless) in
    let moved : P (positions (before ++ b ∷ [])) =
    subst P (ap (λ (l : List Coin). positions before ++ block_positions height b.block.txs l) (sym cs) ∙ sym (positions_more before b)) one in
    subst (λ (l : Chain). P (positions l)) (append_assoc before (b ∷ []) bs) (blocks_have P on (before ++ b ∷ []) bs moved next.1)

-- so it holds of all positions of a good chain
pub good_has : (P : List Position → Type 0) → P [] → GoesOnBy P → (chain : Chain) → IsGood chain → P (positions chain)
good_has P none on chain good = blocks_have P on [] chain none good.each

pub good_sound : (chain : Chain) → IsGood chain → IsSound (positions chain)
good_sound chain good = good_has IsSound refl sound_more chain good

-- a block's transactions lead from the lists of a good chain to those of the chain with the block, or end with the chain's fault
pub connects : (chain : Chain) (b : Placed) → IsGood chain
    → connect_txs (length chain) 0 (prepared b.block).txs (lists chain) ≡ ok_unless (fault chain b.block) (lists (chain ++ b ∷ []))
connects chain b good =
    connect_txs_is b.block.txs (length chain) 0 (first_start b.block.txs) (positions chain) (good_sound chain good)
    ∙ ap (λ (cs : List Coin). ok_unless (first_fault (positions chain) (block_positions (length chain) b.block.txs cs)) (lists_of (positions chain ++ block_positions (length chain) b.block.txs cs)))
    (sym (chain_coins chain))
    ∙ ap (λ (ps : List Position). ok_unless (fault chain b.block) (lists_of ps)) (sym (positions_more chain b))

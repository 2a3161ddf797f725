-- Positions whose tables have room, and what one position more adds.
use Rattle.std.proofs.Common.{◌≡◌, ℕ, ◌+◌, ◌≤◌, Bool, true, false, List, [], ◌∷◌, ◌++◌, length, length-append, flat_map, refl, ap, ◌∙◌, arith, le-ltb}
use Rattle.std.specs.Prelude.{Option, None}
use Rattle.std.specs.Option.{option_or}
use Rattle.std.proofs.lemmas.Grind.{flat_map-append}
use Rattle.std.proofs.lemmas.List.Sums.{sum_by-append, sum_by-cons}
use Rattle.std.proofs.lemmas.List.Concat.{flat_map-cons}
use Rattle.el_base.specs.declared.hash.Hash32.{Hash32}
use Rattle.el_chain.specs.declared.fault.ConnectFault.{ConnectFault}
use Rattle.el_chain.specs.Coins.{coins_after, supply}
use Rattle.el_chain.specs.Faults.{missing_fault, money_fault, full, full_fault, position_fault}
use Rattle.el_chain.specs.History.{Position}
use Rattle.el_chain.specs.RowCounts.{row_limit, spending_inputs, concerned_scripts, is_script_among, add_script, add_scripts, output_count, input_count, script_count, entry_count}

-- The positions need so many rows of each table at most.
pub record AreFew (k : ℕ) (ps : List Position) : Type 0 where
  pub txs : length ps ≤ k
  pub outputs : output_count ps ≤ k
  pub inputs : input_count ps ≤ k
  pub scripts : length (flat_map concerned_scripts ps) ≤ k

pub none_are_few : AreFew 0 []
none_are_few = record { txs = omega arith; outputs = omega arith; inputs = omega arith; scripts = omega arith }

pub few_more : (k n : ℕ) (ps : List Position) (p : Position) → AreFew k ps → 1 ≤ n → length p.tx.outputs ≤ n → length (spending_inputs p.tx) ≤ n
    → length (concerned_scripts p) ≤ n → AreFew (k + n) (ps ++ p ∷ [])
few_more k n ps p few one outs ins scripts = record {
  txs = (let both = length-append ps (p ∷ []) in let was = few.txs in omega (arith, both, was, one));
  outputs = (
      let both = sum_by-append (λ (q : Position). length q.tx.outputs) ps (p ∷ []) in
      let own = sum_by-cons (λ (q : Position). length q.tx.outputs) p [] in
      let was = few.outputs in
      omega (arith, both, own, was, outs)
      );
  inputs = (
      let both = sum_by-append (λ (q : Position). length (spending_inputs q.tx)) ps (p ∷ []) in
      let own = sum_by-cons (λ (q : Position). length (spending_inputs q.tx)) p [] in
      let was = few.inputs in
      omega (arith, both, own, was, ins)
      );
  scripts = (
      let both = ap length (flat_map-append concerned_scripts ps (p ∷ [])) ∙ length-append (flat_map concerned_scripts ps) (flat_map concerned_scripts (p ∷ [])) in
      let own = ap length (flat_map-cons concerned_scripts p []) ∙ length-append (concerned_scripts p) [] in
      let was = few.scripts in
      omega (arith, both, own, was, scripts)
      );
}

one_script : (s : Hash32) (before : List Hash32) → length (add_script s before) ≤ length before + 1
one_script s before = by (is_script_among s before) refl
  where
    by : (b : Bool) → is_script_among s before ≡ b → length (add_script s before) ≤ length before + 1
    by true e = rw e (omega arith)
    by false e = rw e (let both = length-append before (s ∷ []) in omega (arith, both))

gathered_few : (before ss : List Hash32) → length (add_scripts before ss) ≤ length before + length ss
gathered_few before [] = omega arith
gathered_few before (s ∷ ss) =
    let rest = gathered_few (add_script s before) ss in
    let one = one_script s before in
    omega (arith, rest, one)

entries_few : (ps : List Position) → entry_count ps ≤ length (flat_map concerned_scripts ps)
entries_few [] = omega arith
entries_few (p ∷ ps) =
    let sums = sum_by-cons (λ (q : Position). length (add_scripts [] (concerned_scripts q))) p ps in
    let own = gathered_few [] (concerned_scripts p) in
    let rest = entries_few ps in
    let both = ap length (flat_map-cons concerned_scripts p ps) ∙ length-append (concerned_scripts p) (flat_map concerned_scripts ps) in
    omega (arith, sums, own, rest, both)

not_full : (table rows : ℕ) → rows ≤ row_limit table → full table rows ≡ None
not_full table rows le = rw (le-ltb (row_limit table) rows le) refl

six_none : (a b c d e f : Option ConnectFault) → a ≡ None → b ≡ None → c ≡ None → d ≡ None → e ≡ None → f ≡ None
    → option_or a (option_or b (option_or c (option_or d (option_or e f)))) ≡ None
six_none a b c d e f p q r s t u = rw (p, q, r, s, t, u) refl

pub tables_fit : (blocks k : ℕ) (ps : List Position) → AreFew k ps → blocks ≤ 4294967295 → k ≤ 4294967295 → full_fault blocks ps ≡ None
tables_fit blocks k ps few some le =
    let gathered = gathered_few [] (flat_map concerned_scripts ps) in
    let entries = entries_few ps in
    let txs = few.txs in
    let outs = few.outputs in
    let ins = few.inputs in
    let scripts = few.scripts in
    six_none _ _ _ _ _ _ (not_full 1 blocks some)
    (not_full 2 (length ps) (omega (arith, txs, le)))
    (not_full 4 (output_count ps) (omega (arith, outs, le)))
    (not_full 5 (input_count ps) (omega (arith, ins, le)))
    (not_full 6 (script_count ps) (omega (arith, gathered, scripts, le)))
    (not_full 8 (entry_count ps) (omega (arith, entries, scripts, le)))

three_none : (a b c : Option ConnectFault) → a ≡ None → b ≡ None → c ≡ None → option_or a (option_or b c) ≡ None
three_none a b c p q r = rw (p, q, r) refl

no_money_fault : (sum : ℕ) → sum ≤ 2100000000000000 → money_fault sum ≡ None
no_money_fault sum le = rw (le-ltb 2100000000000000 sum le) refl

pub position_fits : (before : List Position) (p : Position) (k : ℕ) → missing_fault p.pos p.tx p.before ≡ None
    → supply (coins_after p.height p.tx p.before) ≤ 2100000000000000 → AreFew k (before ++ p ∷ []) → p.height + 1 ≤ 4294967295 → k ≤ 4294967295
    → position_fault before p ≡ None
position_fits before p k there sum few early le =
    three_none _ _ _ there (no_money_fault (supply (coins_after p.height p.tx p.before)) sum) (tables_fit (p.height + 1) k (before ++ p ∷ []) few early le)

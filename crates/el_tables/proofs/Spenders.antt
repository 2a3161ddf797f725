-- What became of the newest_tx output with an outpoint.
use Rattle.std.proofs.Common.{◌≡◌, inl, inr, ◌⊎◌, ℕ, zero, suc, ◌+◌, ◌<◌, ◌≤◌, ◌==◌, true, false, cond, nat_lt, List, [], ◌∷◌, ◌++◌, length, map, Option, None, Some, option_map, option_and_then, refl, ap, sym, ◌∙◌, append_assoc, arith, length-append, eq-eqb, slice_get}
use Rattle.std.proofs.lemmas.Bool.{cases_Bool, and_parts, and_cases, and_from, ltb-true, ltb-false}
use Rattle.std.proofs.lemmas.List.{map-append, length-map}
use Rattle.std.specs.Option.{option_or}
use Rattle.std.specs.Str.{bytes_eq}
use Rattle.el_base.specs.declared.hash.Hash32.{Hash32}
use Rattle.el_tx.specs.declared.types.Outpoint.{Outpoint}
use Rattle.el_tx.specs.declared.types.TxOut.{TxOut}
use Rattle.el_tx.specs.Hashing.{txid}
use Rattle.el_chain.specs.RowCounts.{spending_inputs}
use Rattle.el_chain.specs.Coins.{is_coin_of, coin_made}
use Rattle.el_chain.specs.CoinLaws.{coins_made, makes}
use Rattle.el_chain.proofs.CoinLists.{same_gives}
use Rattle.el_tables.specs.Lists.{ListedOut, State, has_output, output_number}
use Rattle.el_chain.specs.History.{Position}
use Rattle.el_tables.specs.ChainLists.{output, outputs_from, state_after, makes_outpoint, listed_out, listed_position, txs_from, scripts_of, lists_of}
use Rattle.el_tables.specs.Queries.{newest_state, listed_state}
use Rattle.el_tables.proofs.Names.{makes_at, makes_none}
use Rattle.el_tables.proofs.Numbering.{length_made}

-- the number that is output_number, and the state_after that is told, are of one output, or there are none
abbrev pub Agree : (ℕ → Option State) → Option ℕ → Option State → Type 0
Agree at None None = Unit {0}
Agree at None (Some s) = ⊥
Agree at (Some k) None = ⊥
Agree at (Some k) (Some s) = at k ≡ Some s

out_front : (xs ys : List ListedOut) (k n : ℕ) → n ≡ length xs + k → slice_get (xs ++ ys) n ≡ slice_get ys k
out_front [] ys k n is = let e : n ≡ k = omega arith in rw e refl
out_front (x ∷ xs) ys k n is =
    let e : n ≡ suc (length xs + k) = omega arith in
    rw e (out_front xs ys k (length xs + k) refl)

out_made : (scripts : List Hash32) (n : ℕ) (ps : List Position) (id : Hash32) (height i k : ℕ) (os : List TxOut) (back : List ListedOut) (o : Outpoint) → o.index ≡ i + k → k < length os
    → bytes_eq id.0 o.txid.0 ≡ true
    → option_map (λ (x : ListedOut). x.state) (slice_get (map (listed_out scripts) (map (output n ps) (coins_made id height i os)) ++ back) k) ≡ Some (state_after o (n + 1) ps)
out_made scripts n ps id height i k [] back o is lt same = absurd (omega arith)
out_made scripts n ps id height i zero (x ∷ xs) back o is lt same =
    let here : is_coin_of o (coin_made id height i x) ≡ true = and_from (bytes_eq id.0 o.txid.0) (i == o.index) same (eq-eqb i o.index (omega arith)) in
    ap (λ (p : Outpoint). Some (state_after p (n + 1) ps)) (same_gives (coin_made id height i x).outpoint o here)
out_made scripts n ps id height i (suc k) (x ∷ xs) back o is lt same =
    out_made scripts n ps id height (i + 1) k xs back o (omega arith) (omega arith) same

has_is : (a b : ℕ) (p : Position) (o : Outpoint) → has_output o (listed_position a b p) ≡ makes_outpoint o p
has_is a b p o = elim (cases_Bool (has_output o (listed_position a b p))) [
  | inl h ↦
      let parts = and_parts (bytes_eq (txid p.tx).0 o.txid.0) (nat_lt o.index (length p.tx.outputs)) h in
      let lt = ltb-true o.index (length p.tx.outputs) parts.1 in
      h ∙ sym (makes_at o.index 0 0 o (txid p.tx) p.height p.tx.outputs (omega arith) lt parts.0).1
  | inr h ↦ h ∙ sym (makes_none 0 0 o (txid p.tx) p.height p.tx.outputs (out (and_cases (bytes_eq (txid p.tx).0 o.txid.0) (nat_lt o.index (length p.tx.outputs)) h))).1
]
  where
    out : (bytes_eq (txid p.tx).0 o.txid.0 ≡ false) ⊎ (nat_lt o.index (length p.tx.outputs) ≡ false) → (bytes_eq (txid p.tx).0 o.txid.0 ≡ false) ⊎ (0 + length p.tx.outputs ≤ o.index)
    out (inl e) = inl e
    out (inr e) = let h = ltb-false o.index (length p.tx.outputs) e in inr (omega arith)

agree_or : (at : ℕ → Option State) (r q : Option ℕ) (f g : Option State) → Agree at r f → Agree at q g → Agree at (option_or r q) (option_or f g)
agree_or at None q None g a b = b
agree_or at None q (Some s) g a b = absurd a
agree_or at (Some k) q None g a b = absurd a
agree_or at (Some k) q (Some s) g a b = a

fates : (o : Outpoint) (scripts : List Hash32) (front : List ListedOut) (a b n : ℕ) (ps : List Position) → length front ≡ a
    → Agree (λ k. option_map (λ (x : ListedOut). x.state) (slice_get (front ++ map (listed_out scripts) (outputs_from n ps)) k)) (output_number o (txs_from a b ps)) (newest_state o n ps)
fates o scripts front a b n [] at = tt
fates o scripts front a b n (p ∷ ps) at =
    let mine = map (listed_out scripts) (map (output n ps) (makes p)) in
    let others = map (listed_out scripts) (outputs_from (n + 1) ps) in
    let whole = map-append (listed_out scripts) (map (output n ps) (makes p)) (outputs_from (n + 1) ps) in
    let joined = append_assoc front mine others in
    let long : length (front ++ mine) ≡ a + length p.tx.outputs =
    (let x = length-append front mine in let y = length-map (map (output n ps) (makes p)) (listed_out scripts) in
    let z = length-map (makes p) (output n ps) in let w = length_made (txid p.tx) p.height 0 p.tx.outputs in omega arith) in
    let rest = fates o scripts (front ++ mine) (a + length p.tx.outputs) (b + length (spending_inputs p.tx)) (n + 1) ps long in
    let same = has_is a b p o in
    let later = rw joined at rest in
    rw (whole, same) (agree_or (λ k. option_map (λ (x : ListedOut). x.state) (slice_get (front ++ (mine ++ others)) k))
    (output_number o (txs_from (a + length p.tx.outputs) (b + length (spending_inputs p.tx)) ps)) (cond (makes_outpoint o p) (Some (a + o.index)) None)
    (newest_state o (n + 1) ps) (cond (makes_outpoint o p) (Some (state_after o (n + 1) ps)) None) later (own mine others refl same))
  where
    own : (mine others : List ListedOut) → mine ≡ map (listed_out scripts) (map (output n ps) (makes p)) → has_output o (listed_position a b p) ≡ makes_outpoint o p
        → Agree (λ k. option_map (λ (x : ListedOut). x.state) (slice_get (front ++ (mine ++ others)) k)) (cond (makes_outpoint o p) (Some (a + o.index)) None) (cond (makes_outpoint o p) (Some (state_after o (n + 1) ps)) None)
    own mine others is same = elim (cases_Bool (makes_outpoint o p)) [
      | inl h ↦
          let parts = and_parts (bytes_eq (txid p.tx).0 o.txid.0) (nat_lt o.index (length p.tx.outputs)) (same ∙ h) in
          let lt = ltb-true o.index (length p.tx.outputs) parts.1 in
          let here = out_front front (mine ++ others) o.index (a + o.index) (omega arith) in
          let made = out_made scripts n ps (txid p.tx) p.height 0 o.index p.tx.outputs others o (omega arith) lt parts.0 in
          rw (h, here, is) made
      | inr h ↦ rw h tt
    ]

agreed : (at : ℕ → Option ListedOut) (r : Option ℕ) (f : Option State) → Agree (λ k. option_map (λ (x : ListedOut). x.state) (at k)) r f
    → f ≡ option_map (λ (x : ListedOut). x.state) (option_and_then at r)
agreed at None None h = refl
agreed at None (Some s) h = absurd h
agreed at (Some k) None h = absurd h
agreed at (Some k) (Some s) h = sym h

-- the state of the output that an outpoint names is what became of the newest output with that outpoint
pub states_agree : (ps : List Position) (o : Outpoint) → newest_state o 0 ps ≡ listed_state o (lists_of ps)
states_agree ps o =
    agreed (λ k. slice_get (lists_of ps).outs k) (output_number o (txs_from 0 0 ps)) (newest_state o 0 ps)
    (fates o (scripts_of ps) [] 0 0 0 ps refl)

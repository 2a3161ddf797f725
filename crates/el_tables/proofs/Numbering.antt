-- How many there are, and how the lists go on with one transaction more.
use Rattle.std.proofs.Common.{◌≡◌, ℕ, suc, ◌+◌, ◌≤◌, List, [], ◌∷◌, ◌++◌, length, map, take, refl, ap, sym, ◌∙◌, append_assoc, append-nil, arith, length-append}
use Rattle.std.proofs.lemmas.List.{length-map, take_at, take-append-le}
use Rattle.el_base.specs.declared.hash.Hash32.{Hash32}
use Rattle.el_tx.specs.declared.types.TxOut.{TxOut}
use Rattle.el_tx.specs.Hashing.{txid}
use Rattle.el_chain.specs.RowCounts.{spending_inputs}
use Rattle.el_chain.specs.CoinLaws.{coins_made, makes}
use Rattle.el_tables.specs.Lists.{ListedTx}
use Rattle.el_chain.specs.History.{Position}
use Rattle.el_tables.specs.ChainLists.{output, outputs_from, outputs, listed_position, txs_from, spent_numbers, ins_from}
use Rattle.el_tables.proofs.Outputs.{outputs_more, from_front}
use Rattle.el_tables.proofs.Names.{Names, names_more}

-- 1. How many

abbrev pub outs_of : List Position → ℕ
outs_of [] = 0
outs_of (p ∷ ps) = length p.tx.outputs + outs_of ps

abbrev pub ins_of : List Position → ℕ
ins_of [] = 0
ins_of (p ∷ ps) = length (spending_inputs p.tx) + ins_of ps

pub length_made : (id : Hash32) (height n : ℕ) (os : List TxOut) → length (coins_made id height n os) ≡ length os
length_made id height n [] = refl
length_made id height n (o ∷ os) = ap suc (length_made id height (n + 1) os)

pub length_outputs : (n : ℕ) (ps : List Position) → length (outputs_from n ps) ≡ outs_of ps
length_outputs n [] = refl
length_outputs n (p ∷ ps) =
    let joined = length-append (map (output n ps) (makes p)) (outputs_from (n + 1) ps) in
    let mapped = length-map (makes p) (output n ps) in
    let made = length_made (txid p.tx) p.height 0 p.tx.outputs in
    let rest = length_outputs (n + 1) ps in
    omega arith

pub length_txs : (a b : ℕ) (ps : List Position) → length (txs_from a b ps) ≡ length ps
length_txs a b [] = refl
length_txs a b (p ∷ ps) = ap suc (length_txs (a + length p.tx.outputs) (b + length (spending_inputs p.tx)) ps)

-- 2. Transactions

pub txs_more : (a b x y : ℕ) (ps : List Position) (p : Position) → x ≡ a + outs_of ps → y ≡ b + ins_of ps
    → txs_from a b (ps ++ p ∷ []) ≡ txs_from a b ps ++ listed_position x y p ∷ []
txs_more a b x y [] p ex ey = let f : a ≡ x = omega arith in let g : b ≡ y = omega arith in rw (f, g) refl
txs_more a b x y (q ∷ qs) p ex ey =
    ap (λ (l : List ListedTx). listed_position a b q ∷ l)
    (txs_more (a + length q.tx.outputs) (b + length (spending_inputs q.tx)) x y qs p (omega arith) (omega arith))

pub names_all : (ps : List Position) → Names (txs_from 0 0 ps) (outputs ps)
names_all ps = from_front (λ (qs : List Position). Names (txs_from 0 0 qs) (outputs qs)) (λ o. tt) more ps
  where
    more : (qs : List Position) (q : Position) → Names (txs_from 0 0 qs) (outputs qs) → Names (txs_from 0 0 (qs ++ q ∷ [])) (outputs (qs ++ q ∷ []))
    more qs q h =
        let t = listed_position (outs_of qs) (ins_of qs) q in
        let txs = txs_more 0 0 (outs_of qs) (ins_of qs) qs q (omega arith) (omega arith) in
        let outs = outputs_more 0 (length qs) qs q (omega arith) in
        let next = names_more (txs_from 0 0 qs) t (length qs) q (outputs qs) (record { txid = refl; outs = refl; first = sym (length_outputs 0 qs) }) h in
        rw (txs, outs) next

-- 3. Inputs

-- the transactions after do not matter
pub ins_same : (ts us : List ListedTx) (n : ℕ) (ps : List Position) → n + length ps ≤ length ts → ins_from (ts ++ us) n ps ≡ ins_from ts n ps
ins_same ts us n [] few = refl
ins_same ts us n (p ∷ ps) few =
    let first = take-append-le n ts us (omega arith) in
    let rest = ins_same ts us (n + 1) ps (omega arith) in
    rw (first, rest) refl

pub ins_more : (ts : List ListedTx) (t : ListedTx) (n : ℕ) (ps : List Position) (p : Position) → n + length ps ≡ length ts
    → ins_from (ts ++ t ∷ []) n (ps ++ p ∷ []) ≡ ins_from ts n ps ++ spent_numbers ts (spending_inputs p.tx)
ins_more ts t n [] p at = append-nil _ ∙ ap (λ (us : List ListedTx). spent_numbers us (spending_inputs p.tx)) (take_at ts (t ∷ []) n (omega arith))
ins_more ts t n (q ∷ qs) p at =
    let first = take-append-le n ts (t ∷ []) (omega arith) in
    let rest = ins_more ts t (n + 1) qs p (omega arith) in
    rw (first, rest) (sym (append_assoc (spent_numbers (take n ts) (spending_inputs q.tx)) (ins_from ts (n + 1) qs) (spent_numbers ts (spending_inputs p.tx))))

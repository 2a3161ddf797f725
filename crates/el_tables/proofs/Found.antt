-- The newest transaction with a txid, by its number.
use Rattle.std.proofs.Common.{◌≡◌, inl, inr, ℕ, zero, suc, ◌+◌, ◌<◌, Bool, true, false, cond, List, [], ◌∷◌, ◌++◌, length, filter, get_or, take, slice_get, Option, None, Some, option_and_then, refl, ap, sym, subst, ◌∙◌, arith, append-nil}
use Rattle.std.proofs.lemmas.Bool.{cases_Bool}
use Rattle.std.proofs.lemmas.List.Elements.{filter-append}
use Rattle.std.specs.Option.{option_or}
use Rattle.el_base.specs.declared.hash.Hash32.{Hash32}
use Rattle.el_tx.specs.Hashing.{txid}
use Rattle.el_tx.specs.declared.types.Outpoint.{Outpoint}
use Rattle.el_chain.specs.Headers.{same_hash}
use Rattle.el_chain.specs.History.{Position}
use Rattle.el_tables.specs.Lists.{ListedTx, newest_tx, has_output, output_number}
use Rattle.el_tables.specs.ChainLists.{listed_position, txs_from}
use Rattle.el_tables.specs.Disconnecting.{last}
use Rattle.el_tables.specs.Tables.{greatest_from, greatest}
use Rattle.el_tables.proofs.Outputs.{from_front}
use Rattle.el_tables.proofs.Numbering.{outs_of, ins_of, length_txs, txs_more}
use Rattle.el_tables.proofs.TakeBack.{last_is}
use Rattle.el_tables.proofs.TxEdits.{newest_is}
use Rattle.el_tables.proofs.OlderWalks.{greatest_more, has_txid, Walk, walks}

-- 1. Along `older`

pub none_named : (o : Outpoint) (txs : List ListedTx) → newest_tx o.txid txs ≡ None → output_number o txs ≡ None
none_named o txs none =
    let at : greatest (has_txid o) txs ≡ None = sym (newest_is 0 o.txid txs) ∙ none in
    subst (Walk (listed_none o) o txs) at (walks (listed_none o) o txs)
  where
    listed_none : Outpoint → ListedTx
    listed_none q = record { txid = q.txid; height = 0; start = 0; len = 0; first_out = 0; outs = 0; first_in = 0; ins = 0 }

pub some_named : (o : Outpoint) (txs : List ListedTx) (n : ℕ) (d : ListedTx) → newest_tx o.txid txs ≡ Some n
    → (n < length txs) × (output_number o txs
    ≡ cond (has_output o (get_or txs n d)) (Some ((get_or txs n d).first_out + o.index)) (output_number o (take n txs)))
some_named o txs n d some =
    let at : greatest (has_txid o) txs ≡ Some n = sym (newest_is 0 o.txid txs) ∙ some in
    let walk = subst (Walk d o txs) at (walks d o txs) in
    (walk.within, walk.is)

-- 2. Positions

slice_front : {X : Type 0} (xs ys : List X) (k : ℕ) → k < length xs → slice_get (xs ++ ys) k ≡ slice_get xs k
slice_front [] ys k lt = absurd (omega arith)
slice_front (x ∷ xs) ys zero lt = refl
slice_front (x ∷ xs) ys (suc k) lt = slice_front xs ys k (omega arith)

slice_end : {X : Type 0} (xs : List X) (x : X) → slice_get (xs ++ x ∷ []) (length xs) ≡ Some x
slice_end [] x = refl
slice_end (y ∷ ys) x = slice_end ys x

within_case : {X : Type 0} (n k : ℕ) (test : X → Bool) (x : X) (xs : List X) (r : Option ℕ) (b : Bool)
    → ((j : ℕ) → r ≡ Some j → j < n + 1 + length xs) → option_or r (cond b (Some n) None) ≡ Some k → k < n + length (x ∷ xs)
within_case n k test x xs (Some j) b later e = let lt = later j refl in let same : j ≡ k = cc in omega arith
within_case n k test x xs None true later e = let same : n ≡ k = cc in omega arith
within_case n k test x xs None false later e = absurd (wrong e)
  where
    wrong : None ≡ Some k → ⊥
    wrong f = cc

greatest_within : {X : Type 0} (n k : ℕ) (test : X → Bool) (xs : List X) → greatest_from n test xs ≡ Some k → k < n + length xs
greatest_within n k test [] e = absurd (wrong e)
  where
    wrong : None ≡ Some k → ⊥
    wrong f = cc
greatest_within n k test (x ∷ xs) e =
    within_case n k test x xs (greatest_from (n + 1) test xs) (test x) (λ j f. greatest_within (n + 1) j test xs f) e

-- the number of the newest, where one stands after the others
front_case : (ps : List Position) (p : Position) (r : Option ℕ) → ((k : ℕ) → r ≡ Some k → k < length ps)
    → option_and_then (λ n. slice_get (ps ++ p ∷ []) n) r ≡ option_and_then (λ n. slice_get ps n) r
front_case ps p None within = refl
front_case ps p (Some k) within = slice_front ps (p ∷ []) k (within k refl)

pub newest_position : (id : Hash32) (ps : List Position)
    → option_and_then (λ n. slice_get ps n) (newest_tx id (txs_from 0 0 ps)) ≡ last (filter (λ (p : Position). same_hash (txid p.tx) id) ps)
newest_position id ps =
    from_front (λ (qs : List Position). option_and_then (λ n. slice_get qs n) (newest_tx id (txs_from 0 0 qs)) ≡ last (filter passes qs)) refl more ps
  where
    passes : Position → Bool
    passes p = same_hash (txid p.tx) id

    more : (qs : List Position) (q : Position) → option_and_then (λ n. slice_get qs n) (newest_tx id (txs_from 0 0 qs)) ≡ last (filter passes qs)
        → option_and_then (λ n. slice_get (qs ++ q ∷ []) n) (newest_tx id (txs_from 0 0 (qs ++ q ∷ []))) ≡ last (filter passes (qs ++ q ∷ []))
    more qs q h =
        let txs = txs_from 0 0 qs in
        let t = listed_position (outs_of qs) (ins_of qs) q in
        let has = λ (u : ListedTx). same_hash u.txid id in
        let grown = txs_more 0 0 (outs_of qs) (ins_of qs) qs q (omega arith) (omega arith) in
        let long = length_txs 0 0 qs in
        let next = greatest_more 0 (length qs) has txs t (omega arith) in
        let all : newest_tx id (txs_from 0 0 (qs ++ q ∷ [])) ≡ cond (passes q) (Some (length qs)) (newest_tx id txs) =
        ap (newest_tx id) grown ∙ newest_is 0 id (txs ++ t ∷ []) ∙ next
        ∙ ap (λ (r : Option ℕ). cond (passes q) (Some (length qs)) r) (sym (newest_is 0 id txs)) in
        let split = filter-append passes qs (q ∷ []) in
        elim (cases_Bool (passes q)) [
          | inl e ↦
              let found : newest_tx id (txs_from 0 0 (qs ++ q ∷ [])) ≡ Some (length qs) = all ∙ rw e refl in
              let one : filter passes (q ∷ []) ≡ q ∷ [] = rw e refl in
              rw (found, split, one) (slice_end qs q ∙ sym (last_is (filter passes qs) q))
          | inr e ↦
              let found : newest_tx id (txs_from 0 0 (qs ++ q ∷ [])) ≡ newest_tx id txs = all ∙ rw e refl in
              let none : filter passes (q ∷ []) ≡ [] = rw e refl in
              let same = append-nil (filter passes qs) in
              rw (found, split, none, same)
              (front_case qs q (newest_tx id txs)
              (λ k f. let lt = greatest_within 0 k has txs (sym (newest_is 0 id txs) ∙ f) in omega arith) ∙ h)
        ]

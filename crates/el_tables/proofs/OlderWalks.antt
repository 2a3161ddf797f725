-- How the output that an outpoint names is found: from the newest_tx transaction with its txid along `older`.
use Rattle.std.proofs.Common.{◌≡◌, inl, inr, ℕ, ◌+◌, ◌<◌, Bool, false, cond, nat_lt, List, [], ◌∷◌, ◌++◌, length, take, get_or, Option, None, Some, refl, sym, subst, ◌∙◌, arith}
use Rattle.std.proofs.lemmas.Bool.{cases_Bool, and_left}
use Rattle.std.proofs.lemmas.List.{take_at, get_or_at, take-append-le, get_or_append_left}
use Rattle.std.specs.Option.{option_or}
use Rattle.el_tx.specs.declared.types.Outpoint.{Outpoint}
use Rattle.el_chain.specs.Headers.{same_hash}
use Rattle.el_tables.specs.Lists.{ListedTx, has_output, output_number}
use Rattle.el_tables.specs.Tables.{greatest_from, greatest}
use Rattle.el_tables.proofs.Outputs.{from_front}
use Rattle.el_tables.proofs.Names.{named_more}

pub greatest_more : {X : Type 0} (n m : ℕ) (test : X → Bool) (xs : List X) (x : X) → m ≡ n + length xs
    → greatest_from n test (xs ++ x ∷ []) ≡ cond (test x) (Some m) (greatest_from n test xs)
greatest_more n m test [] x at = let e : n ≡ m = omega arith in rw e (by (test x))
  where
    by : (b : Bool) → option_or None (cond b (Some m) None) ≡ cond b (Some m) None
    by b = refl
greatest_more n m test (y ∷ ys) x at =
    let rest = greatest_more (n + 1) m test ys x (omega arith) in
    elim (cases_Bool (test x)) [
      | inl h ↦ let e : greatest_from (n + 1) test (ys ++ x ∷ []) ≡ Some m = rest ∙ rw h refl in rw (e, h) refl
      | inr h ↦ let e : greatest_from (n + 1) test (ys ++ x ∷ []) ≡ greatest_from (n + 1) test ys = rest ∙ rw h refl in rw (e, h) refl
    ]

-- the transaction has the outpoint's txid
abbrev pub has_txid : Outpoint → ListedTx → Bool
has_txid o t = same_hash t.txid o.txid

-- by the greatest number with the txid: there is none, or the output is its own, or else it is output_number by those below
abbrev pub Walk : ListedTx → Outpoint → List ListedTx → Option ℕ → Type 0
Walk d o ts None = output_number o ts ≡ None
Walk d o ts (Some n) = record {
  within : n < length ts;
  is : output_number o ts ≡ cond (has_output o (get_or ts n d)) (Some ((get_or ts n d).first_out + o.index)) (output_number o (take n ts));
}

walk_on : (d : ListedTx) (o : Outpoint) (ts : List ListedTx) (t : ListedTx) (r : Option ℕ) → has_txid o t ≡ false → Walk d o ts r → Walk d o (ts ++ t ∷ []) r
walk_on d o ts t None other h =
    let none = and_left (has_txid o t) (nat_lt o.index t.outs) other in
    named_more o ts t ∙ rw none h
walk_on d o ts t (Some n) other h =
    let none = and_left (has_txid o t) (nat_lt o.index t.outs) other in
    let lt = h.within in
    let here = get_or_append_left ts (t ∷ []) d n lt in
    let front = take-append-le n ts (t ∷ []) (omega arith) in
    let more : output_number o (ts ++ t ∷ []) ≡ output_number o ts = named_more o ts t ∙ rw none refl in
    let long = Rattle.std.proofs.Common.length-append ts (t ∷ []) in
    record { within = omega arith; is = more ∙ h.is ∙ rw (here, front) refl }

pub walks : (d : ListedTx) (o : Outpoint) (ts : List ListedTx) → Walk d o ts (greatest (has_txid o) ts)
walks d o ts = from_front (λ (us : List ListedTx). Walk d o us (greatest (has_txid o) us)) refl more ts
  where
    more : (us : List ListedTx) (t : ListedTx) → Walk d o us (greatest (has_txid o) us) → Walk d o (us ++ t ∷ []) (greatest (has_txid o) (us ++ t ∷ []))
    more us t h =
        let next = greatest_more 0 (length us) (has_txid o) us t (omega arith) in
        elim (cases_Bool (has_txid o t)) [
          | inl e ↦
              let found : greatest (has_txid o) (us ++ t ∷ []) ≡ Some (length us) = next ∙ rw e refl in
              let here = get_or_at us t [] d (length us) refl in
              let front = take_at us (t ∷ []) (length us) refl in
              let long = Rattle.std.proofs.Common.length-append us (t ∷ []) in
              let is = named_more o us t in
              subst (Walk d o (us ++ t ∷ [])) (sym found) (record { within = omega arith; is = is ∙ rw (here, front) refl })
          | inr e ↦
              let same : greatest (has_txid o) (us ++ t ∷ []) ≡ greatest (has_txid o) us = next ∙ rw e refl in
              subst (Walk d o (us ++ t ∷ [])) (sym same) (walk_on d o us t (greatest (has_txid o) us) e h)
        ]

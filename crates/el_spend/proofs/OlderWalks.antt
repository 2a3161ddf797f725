-- Walks along `older`: from the newest transaction with a txid to the output that an outpoint names among the
-- first transactions.
use Rattle.std.proofs.Common.{◌≡◌, inl, inr, ℕ, zero, suc, ◌+◌, ◌<◌, ◌≤◌, true, false, cond, nat_lt, List, [], ◌∷◌, ◌++◌, length, take, get_or, Option, None, Some, option_map, slice_get, refl, ap, sym, subst, ◌∙◌, arith, count_by, length-append}
use Rattle.std.proofs.lemmas.Bool.{cases_Bool, cases_lt, and_left, and_right, lt-ltb, le-ltb}
use Rattle.std.proofs.lemmas.List.{get_or-map, get_or_at, get_or_append_left, get_or-take, take-take, take_all, take-append-le, length-take, length-take-le}
use Rattle.std.proofs.lemmas.List.Sums.{count_by_more_yes}
use Rattle.el_base.specs.declared.hash.Hash32.{Hash32}
use Rattle.el_chain.specs.Chains.{zero_hash}
use Rattle.el_chain.specs.Headers.{same_hash}
use Rattle.el_tx.specs.declared.types.Outpoint.{Outpoint}
use Rattle.el_tables.specs.Lists.{ListedTx, has_output, output_number, newest_tx, txid_at}
use Rattle.el_tables.specs.Tables.{greatest, rows_from, tx_row}
use Rattle.el_tables.proofs.Names.{named_more}
use Rattle.el_tables.proofs.OlderWalks.{greatest_more, has_txid}
use Rattle.el_tables.proofs.Outputs.{from_front}
use Rattle.el_tables.proofs.Scripts.{hash_gives}
use Rattle.el_tables.proofs.TxEdits.{newest_is}
use Rattle.el_row_formats.specs.declared.tx_row.TxRow.{TxRow}
use Rattle.el_schema.specs.Rows.{tx_fields}
use Rattle.el_buckets.specs.Buckets.{below as if_less}
use Rattle.el_schema.proofs.Held.{no_tx}
use Rattle.el_buckets.proofs.Heads.{below_all}
use Rattle.el_buckets.proofs.Walks.{Passes, end_of, end_within, greatest_passes, greatest_at, up_to, fewer_rows, rows_within}
use Rattle.el_schema.proofs.Rows.{listed_row, row_within}

-- 1. The output's number, by the greatest transaction that has it

-- a transaction with the output has the txid
pub has_id : (o : Outpoint) (t : ListedTx) → has_output o t ≡ true → has_txid o t ≡ true
has_id o t is = elim (cases_Bool (has_txid o t)) [
  | inl y ↦ y
  | inr n ↦ let none = and_left (has_txid o t) (nat_lt o.index t.outs) n in let both : true ≡ false = sym is ∙ none in absurd cc
]

pub has_it : (o : Outpoint) (t : ListedTx) → has_txid o t ≡ true → o.index < t.outs → has_output o t ≡ true
has_it o t id lt = let more = lt-ltb o.index t.outs lt in rw (id, more) refl

pub has_not : (o : Outpoint) (t : ListedTx) → t.outs ≤ o.index → has_output o t ≡ false
has_not o t le = and_right (has_txid o t) (nat_lt o.index t.outs) (le-ltb o.index t.outs le)

abbrev pub Named : Outpoint → ListedTx → List ListedTx → Option ℕ → Type 0
Named o d ts None = output_number o ts ≡ None
Named o d ts (Some n) = output_number o ts ≡ Some ((get_or ts n d).first_out + o.index)

pub named_at : (o : Outpoint) (d : ListedTx) (ts : List ListedTx) → Named o d ts (greatest (has_output o) ts)
named_at o d ts = from_front (λ (us : List ListedTx). Named o d us (greatest (has_output o) us)) refl more ts
  where
    on : (us : List ListedTx) (t : ListedTx) (r : Option ℕ) → Passes (has_output o) d us r → has_output o t ≡ false → Named o d us r → Named o d (us ++ t ∷ []) r
    on us t None passes other h = named_more o us t ∙ rw other h
    on us t (Some n) passes other h =
        let here = get_or_append_left us (t ∷ []) d n (passes n refl).0 in
        named_more o us t ∙ rw (other, here) h

    more : (us : List ListedTx) (t : ListedTx) → Named o d us (greatest (has_output o) us) → Named o d (us ++ t ∷ []) (greatest (has_output o) (us ++ t ∷ []))
    more us t h =
        let next = greatest_more 0 (length us) (has_output o) us t (omega arith) in
        elim (cases_Bool (has_output o t)) [
          | inl e ↦
              let found : greatest (has_output o) (us ++ t ∷ []) ≡ Some (length us) = next ∙ rw e refl in
              let here = get_or_at us t [] d (length us) refl in
              subst (Named o d (us ++ t ∷ [])) (sym found) (named_more o us t ∙ rw (e, here) refl)
          | inr e ↦
              let same : greatest (has_output o) (us ++ t ∷ []) ≡ greatest (has_output o) us = next ∙ rw e refl in
              subst (Named o d (us ++ t ∷ [])) (sym same) (on us t (greatest (has_output o) us) (greatest_passes (has_output o) d us) e h)
        ]

-- 2. A walk

-- what a link names has the txid, and the output is one of a transaction at or before it
pub record IsOlder (o : Outpoint) (below : ℕ) (d : ListedTx) (ts : List ListedTx) (link : Option ℕ) : Type 0 where
  pub rest : greatest (has_output o) (take below ts) ≡ greatest (has_output o) (take (end_of link) (take below ts))
  pub here : Passes (has_txid o) d ts link

-- the greatest with the txid is at or after the output, also among the first
begins : (o : Outpoint) (below : ℕ) (ts : List ListedTx)
    → greatest (has_output o) (take below ts) ≡ greatest (has_output o) (take (end_of (greatest (has_txid o) ts)) (take below ts))
begins o below ts = from_front (λ us. greatest (has_output o) (take below us) ≡ greatest (has_output o) (take (end_of (greatest (has_txid o) us)) (take below us))) (none below) more ts
  where
    none : (n : ℕ) → greatest (has_output o) (take n []) ≡ greatest (has_output o) (take 0 (take n []))
    none zero = refl
    none (suc n) = refl

    more : (us : List ListedTx) (t : ListedTx)
        → greatest (has_output o) (take below us) ≡ greatest (has_output o) (take (end_of (greatest (has_txid o) us)) (take below us))
        → greatest (has_output o) (take below (us ++ t ∷ [])) ≡ greatest (has_output o) (take (end_of (greatest (has_txid o) (us ++ t ∷ []))) (take below (us ++ t ∷ [])))
    more us t h =
        let one = has_output o in
        let other = has_txid o in
        let long = length-append us (t ∷ []) in
        let next = greatest_more 0 (length us) other us t (omega arith) in
        elim (cases_lt (length us) below) [
          | inl lt ↦
              let whole : take below (us ++ t ∷ []) ≡ us ++ t ∷ [] = take_all below (us ++ t ∷ []) (omega arith) in
              subst (λ (zs : List ListedTx). greatest one zs ≡ greatest one (take (end_of (greatest other (us ++ t ∷ []))) zs)) (sym whole) (up_to one other (has_id o) (us ++ t ∷ []))
          | inr le ↦
              let front : take below (us ++ t ∷ []) ≡ take below us = take-append-le below us (t ∷ []) le in
              let short : length (take below us) ≡ below = length-take-le below us le in
              elim (cases_Bool (other t)) [
                | inl e ↦
                    let found : greatest other (us ++ t ∷ []) ≡ Some (length us) = next ∙ rw e refl in
                    let all : take (length us + 1) (take below us) ≡ take below us = take_all (length us + 1) (take below us) (omega arith) in
                    ap (greatest one) front ∙ sym (ap (greatest one) (ap (λ (k : Option ℕ). take (end_of k) (take below (us ++ t ∷ []))) found ∙ ap (take (length us + 1)) front ∙ all))
                | inr e ↦
                    let same : greatest other (us ++ t ∷ []) ≡ greatest other us = next ∙ rw e refl in
                    ap (greatest one) front ∙ h ∙ sym (ap (greatest one) (ap (λ (k : Option ℕ). take (end_of k) (take below (us ++ t ∷ []))) same ∙ ap (take (end_of (greatest other us))) front))
              ]
        ]

module _ (o : Outpoint) (below : ℕ) (d : ListedTx) (ts : List ListedTx) where
  pub older_begins : IsOlder o below d ts (greatest (has_txid o) ts)
  older_begins = record { rest = begins o below ts; here = greatest_passes (has_txid o) d ts }

  -- the first where the walk stands, and of which it is one
  found_here : (n : ℕ) → IsOlder o below d ts (Some n) → n < below
      → greatest (has_output o) (take below ts) ≡ cond (has_output o (get_or ts n d)) (Some n) (greatest (has_output o) (take n ts))
  found_here n walk lt =
      let ys = take below ts in
      let within = (walk.here n refl).0 in
      let long = length-take below ts in
      let at = get_or-take below ts n d lt in
      let front = take-take n below ts (omega arith) in
      walk.rest ∙ greatest_at (has_output o) d n ys (omega arith)
      ∙ ap (λ (t : ListedTx). cond (has_output o t) (Some n) (greatest (has_output o) (take n ys))) at
      ∙ ap (λ (zs : List ListedTx). cond (has_output o (get_or ts n d)) (Some n) (greatest (has_output o) zs)) front

  pub older_found : (n : ℕ) → IsOlder o below d ts (Some n) → n < below → has_output o (get_or ts n d) ≡ true
      → Some ((get_or ts n d).first_out + o.index) ≡ output_number o (take below ts)
  older_found n walk lt is =
      let at : greatest (has_output o) (take below ts) ≡ Some n = found_here n walk lt ∙ rw is refl in
      let named = subst (Named o d (take below ts)) at (named_at o d (take below ts)) in
      sym (named ∙ ap (λ (t : ListedTx). Some (t.first_out + o.index)) (get_or-take below ts n d lt))

  pub older_ends : IsOlder o below d ts None → None ≡ output_number o (take below ts)
  older_ends walk = sym (subst (Named o d (take below ts)) walk.rest (named_at o d (take below ts)))

  -- where it isn't the one, the walk goes on with the newest before it
  pub older_on : (n : ℕ) → IsOlder o below d ts (Some n) → (n < below → has_output o (get_or ts n d) ≡ false)
      → IsOlder o below d ts (greatest (has_txid o) (take n ts))
  older_on n walk isnt =
      let one = has_output o in
      let next = greatest (has_txid o) (take n ts) in
      let within = (walk.here n refl).0 in
      let short : length (take n ts) ≡ n = length-take-le n ts (omega arith) in
      let passes = greatest_passes (has_txid o) d (take n ts) in
      let le : end_of next ≤ n = (let e = end_within (has_txid o) d (take n ts) next passes in omega arith) in
      record {
        rest = elim (cases_lt n below) [
          | inl lt ↦
              let gone = isnt lt in
              found_here n walk lt ∙ rw gone (up_to one (has_txid o) (has_id o) (take n ts))
              ∙ ap (greatest one) (take-take (end_of next) n ts le ∙ sym (take-take (end_of next) below ts (omega arith)))
          | inr ge ↦ subst (λ (zs : List ListedTx). greatest one zs ≡ greatest one (take (end_of next) zs)) (take-take below n ts ge) (begins o below (take n ts))
        ];
        here = λ m is. let p = passes m is in let less = p.0 in (omega (arith, less, short, within), sym (ap (has_txid o) (get_or-take n ts m d (omega (arith, less, short)))) ∙ p.1);
      }

  -- the transactions with the txid before a link
  pub older_left : (n : ℕ) (link : Option ℕ) → IsOlder o below d ts (Some n) → end_of link ≤ n
      → count_by (has_txid o) (take (end_of link) ts) + 1 ≤ count_by (has_txid o) (take (n + 1) ts)
  older_left n link walk le =
      let here = walk.here n refl in
      let lt = here.0 in
      let few = fewer_rows (has_output o) (has_txid o) (has_id o) d ts (end_of link) n le (omega arith) in
      let more = count_by_more_yes (has_txid o) ts n d lt here.1 in
      omega (arith, few, more)

  pub older_all : (link : Option ℕ) → Passes (has_txid o) d ts link → count_by (has_txid o) (take (end_of link) ts) ≤ count_by (has_txid o) ts
  older_all link passes = rows_within (has_output o) (has_txid o) (has_id o) d ts link passes

-- 3. The row of a transaction

-- its `older` is the newest before it with the outpoint's txid, if it has this itself
pub older_is : (o : Outpoint) (below : ℕ) (c : ℕ) (ts : List ListedTx) (n : ℕ) (row : TxRow) → IsOlder o below no_tx ts (Some n)
    → row ≡ tx_fields (tx_row c ts n (get_or ts n no_tx)) → if_less n row.older ≡ greatest (has_txid o) (take n ts)
older_is o below c ts n row walk is =
    let t = get_or ts n no_tx in
    let here = walk.here n refl in
    let id = hash_gives t.txid o.txid here.1 in
    let lt = here.0 in
    let short : length (take n ts) ≡ n = length-take-le n ts (omega arith) in
    let links : row.older ≡ greatest (has_txid o) (take n ts) =
    ap (λ (r : TxRow). r.older) is ∙ ap (λ (h : Hash32). greatest (λ (u : ListedTx). same_hash u.txid h) (take n ts)) id in
    ap (if_less n) links ∙ below_all (has_txid o) no_tx (take n ts) n short

-- where it has none, no transaction before has its txid
pub none_older : (c : ℕ) (ts : List ListedTx) (n : ℕ) (row : TxRow) → Some row ≡ option_map tx_fields (slice_get (rows_from (tx_row c ts) 0 ts) n)
    → row.older ≡ None → newest_tx (txid_at n ts) (take n ts) ≡ None
none_older c ts n row e none =
    let t = get_or ts n no_tx in
    let lt = row_within c ts n row e in
    let id : txid_at n ts ≡ t.txid = get_or-map (λ (u : ListedTx). u.txid) ts n no_tx zero_hash lt in
    let links = ap (λ (r : TxRow). r.older) (listed_row c ts n row e) in
    ap (λ (h : Hash32). newest_tx h (take n ts)) id ∙ newest_is 0 t.txid (take n ts) ∙ sym links ∙ none

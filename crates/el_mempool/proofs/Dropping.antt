-- What stays where transactions are taken away with all that spend them.
use Rattle.std.proofs.Common.{◌≡◌, inl, inr, true, false, Bool, cond, not, ◌&&◌, ◌||◌, List, [], ◌∷◌, ◌++◌, None, refl, ap, sym, ◌∙◌, append-nil}
use Rattle.std.proofs.lemmas.Bool.{cases_Bool, and_parts, and_from, and_left, and_right, or_parts, or_cases, not-true, not_from_false, true≢false, false_from_ne_true}
use Rattle.std.proofs.lemmas.List.Elements.{filter-append}
use Rattle.std.specs.List.{AllByRecursion, list_any, filter}
use Rattle.std.specs.Prelude.{option_to_list, nat_lt}
use Rattle.std.specs.Option.{option_or, is_some}
use Rattle.el_base.specs.declared.hash.Hash32.{Hash32}
use Rattle.el_tx.specs.declared.types.Outpoint.{Outpoint}
use Rattle.el_tx.specs.declared.types.TxIn.{TxIn}
use Rattle.el_tx.specs.declared.types.Tx.{Tx}
use Rattle.el_tx.specs.Encoding.{total_value}
use Rattle.el_tx.specs.Hashing.{txid}
use Rattle.el_chain.specs.Chains.{Chain}
use Rattle.el_chain.specs.Headers.{same_hash}
use Rattle.el_mempool.specs.Sift.{coin_named, output_of, output_among, named, any_takes, is_taken, each_takes, held_by, total_held, is_confirmed, may_join, sift, other_than}
use Rattle.el_mempool.proofs.Sifting.{stay, AllJoin, folds, joins_of}
use Rattle.el_mempool.proofs.Confirmed.{hash_same, unconfirmed_none}

-- those whose txid isn't gone
abbrev pub rest : (Hash32 → Bool) → List Tx → List Tx
rest gone ts = filter (λ (t : Tx). not (gone (txid t))) ts

-- one of these inputs names a transaction that is gone
abbrev pub names_gone : (Hash32 → Bool) → List TxIn → Bool
names_gone gone is = list_any (λ (i : TxIn). gone i.from.txid) is

-- Gone are that one, and whatever names one that is gone.
abbrev pub IsDropped : Hash32 → (Hash32 → Bool) → List Tx → Type 0
IsDropped id gone ts = AllByRecursion (λ (t : Tx). gone (txid t) ≡ (same_hash (txid t) id || names_gone gone t.inputs)) ts

pub output_apart : (o : Outpoint) (t : Tx) → same_hash (txid t) o.txid ≡ false → output_of o t ≡ None
output_apart o t h = rw h refl

-- what the outpoint of a transaction that stays names
pub among_rest : (gone : Hash32 → Bool) (o : Outpoint) (ts : List Tx) → gone o.txid ≡ false → output_among o (rest gone ts) ≡ output_among o ts
among_rest gone o [] h = refl
among_rest gone o (t ∷ ts) h = elim (cases_Bool (gone (txid t))) [
  | inl g ↦
      let apart : same_hash (txid t) o.txid ≡ false = false_from_ne_true (same_hash (txid t) o.txid) (λ e. true≢false (sym g ∙ ap gone (hash_same (txid t) o.txid e) ∙ h)) in
      rw g (among_rest gone o ts h ∙ sym (ap (λ x. option_or x (output_among o ts)) (output_apart o t apart)))
  | inr g ↦ rw g (ap (option_or (output_of o t)) (among_rest gone o ts h))
]

-- those that stay have no output of one that is gone
pub none_among : (gone : Hash32 → Bool) (o : Outpoint) (ts : List Tx) → gone o.txid ≡ true → output_among o (rest gone ts) ≡ None
none_among gone o [] h = refl
none_among gone o (t ∷ ts) h = elim (cases_Bool (gone (txid t))) [
  | inl g ↦ rw g (none_among gone o ts h)
  | inr g ↦
      let apart : same_hash (txid t) o.txid ≡ false = false_from_ne_true (same_hash (txid t) o.txid) (λ e. true≢false (sym h ∙ ap gone (sym (hash_same (txid t) o.txid e)) ∙ g)) in
      rw g (ap (λ x. option_or x (output_among o (rest gone ts))) (output_apart o t apart) ∙ none_among gone o ts h)
]

pub taken_rest : (gone : Hash32 → Bool) (o : Outpoint) (ts : List Tx) → is_taken o ts ≡ false → is_taken o (rest gone ts) ≡ false
taken_rest gone o [] h = refl
taken_rest gone o (t ∷ ts) h =
    let parts = or_parts (any_takes o t.inputs) (is_taken o ts) h in
    elim (cases_Bool (gone (txid t))) [
      | inl g ↦ rw g (taken_rest gone o ts parts.1)
      | inr g ↦ rw g (rw parts.0 (taken_rest gone o ts parts.1))
    ]

pub named_rest : (chain : Chain) (gone : Hash32 → Bool) (o : Outpoint) (ts : List Tx) → gone o.txid ≡ false → named chain (rest gone ts) o ≡ named chain ts o
named_rest chain gone o ts h = ap (option_or (coin_named chain o)) (among_rest gone o ts h)

-- inputs that name none that is gone take what they took
pub held_rest : (chain : Chain) (gone : Hash32 → Bool) (ts : List Tx) (is : List TxIn) → names_gone gone is ≡ false → held_by chain (rest gone ts) is ≡ held_by chain ts is
held_rest chain gone ts [] h = refl
held_rest chain gone ts (i ∷ is) h =
    let parts = or_parts (gone i.from.txid) (names_gone gone is) h in
    let here = named_rest chain gone i.from ts parts.0 in
    ap (λ x. option_to_list x ++ held_by chain (rest gone ts) is) here ∙ ap (λ l. option_to_list (named chain ts i.from) ++ l) (held_rest chain gone ts is parts.1)

pub takes_rest : (chain : Chain) (gone : Hash32 → Bool) (ts : List Tx) (is : List TxIn) → names_gone gone is ≡ false → each_takes chain ts is ≡ true → each_takes chain (rest gone ts) is ≡ true
takes_rest chain gone ts [] h all = refl
takes_rest chain gone ts (i ∷ is) h all =
    let parts = or_parts (gone i.from.txid) (names_gone gone is) h in
    let both = and_parts (is_some (named chain ts i.from) && not (is_taken i.from ts)) (not (any_takes i.from is) && each_takes chain ts is) all in
    let first = and_parts (is_some (named chain ts i.from)) (not (is_taken i.from ts)) both.0 in
    let others = and_parts (not (any_takes i.from is)) (each_takes chain ts is) both.1 in
    and_from (is_some (named chain (rest gone ts) i.from) && not (is_taken i.from (rest gone ts))) (not (any_takes i.from is) && each_takes chain (rest gone ts) is)
    (
    and_from (is_some (named chain (rest gone ts) i.from)) (not (is_taken i.from (rest gone ts))) (ap is_some (named_rest chain gone i.from ts parts.0) ∙ first.0)
    (not_from_false (is_taken i.from (rest gone ts)) (taken_rest gone i.from ts (not-true (is_taken i.from ts) first.1)))
    )
    (and_from (not (any_takes i.from is)) (each_takes chain (rest gone ts) is) others.0 (takes_rest chain gone ts is parts.1 others.1))

-- what is gone is not in the chain either
abbrev pub AreUnconfirmed : Chain → (Hash32 → Bool) → Type 0
AreUnconfirmed chain gone = (id : Hash32) → gone id ≡ true → is_confirmed chain id ≡ false

-- an input that names one that is gone takes nothing
takes_gone : (chain : Chain) (gone : Hash32 → Bool) (ts : List Tx) (is : List TxIn) → AreUnconfirmed chain gone → names_gone gone is ≡ true → each_takes chain (rest gone ts) is ≡ false
takes_gone chain gone ts [] fresh h = absurd (true≢false (sym h))
takes_gone chain gone ts (i ∷ is) fresh h = elim (or_cases (gone i.from.txid) (names_gone gone is) h) [
  | inl g ↦
      let none : named chain (rest gone ts) i.from ≡ None =
      ap (λ x. option_or x (output_among i.from (rest gone ts))) (unconfirmed_none chain i.from (fresh i.from.txid g)) ∙ none_among gone i.from ts g in
      and_left (is_some (named chain (rest gone ts) i.from) && not (is_taken i.from (rest gone ts))) (not (any_takes i.from is) && each_takes chain (rest gone ts) is)
      (and_left (is_some (named chain (rest gone ts) i.from)) (not (is_taken i.from (rest gone ts))) (ap is_some none))
  | inr g ↦
      and_right (is_some (named chain (rest gone ts) i.from) && not (is_taken i.from (rest gone ts))) (not (any_takes i.from is) && each_takes chain (rest gone ts) is)
      (and_right (not (any_takes i.from is)) (each_takes chain (rest gone ts) is) (takes_gone chain gone ts is fresh g))
]

-- a transaction that names none that is gone may join as it might before
pub joins_rest : (chain : Chain) (gone : Hash32 → Bool) (ts : List Tx) (t : Tx) → names_gone gone t.inputs ≡ false → may_join chain ts t ≡ true → may_join chain (rest gone ts) t ≡ true
joins_rest chain gone ts t h all =
    let both = and_parts (not (is_confirmed chain (txid t))) (each_takes chain ts t.inputs && not (nat_lt (total_held (held_by chain ts t.inputs)) (total_value t.outputs))) all in
    let more = and_parts (each_takes chain ts t.inputs) (not (nat_lt (total_held (held_by chain ts t.inputs)) (total_value t.outputs))) both.1 in
    and_from (not (is_confirmed chain (txid t))) (each_takes chain (rest gone ts) t.inputs && not (nat_lt (total_held (held_by chain (rest gone ts) t.inputs)) (total_value t.outputs))) both.0
    (and_from (each_takes chain (rest gone ts) t.inputs) (not (nat_lt (total_held (held_by chain (rest gone ts) t.inputs)) (total_value t.outputs)))
    (takes_rest chain gone ts t.inputs h more.0)
    (ap (λ l. not (nat_lt (total_held l) (total_value t.outputs))) (held_rest chain gone ts t.inputs h) ∙ more.1))

joins_not : (chain : Chain) (gone : Hash32 → Bool) (ts : List Tx) (t : Tx) → AreUnconfirmed chain gone → names_gone gone t.inputs ≡ true → may_join chain (rest gone ts) t ≡ false
joins_not chain gone ts t fresh h =
    and_right (not (is_confirmed chain (txid t))) (each_takes chain (rest gone ts) t.inputs && not (nat_lt (total_held (held_by chain (rest gone ts) t.inputs)) (total_value t.outputs)))
    (and_left (each_takes chain (rest gone ts) t.inputs) (not (nat_lt (total_held (held_by chain (rest gone ts) t.inputs)) (total_value t.outputs))) (takes_gone chain gone ts t.inputs fresh h))

rest_more : (gone : Hash32 → Bool) (ts : List Tx) (t : Tx) → gone (txid t) ≡ false → rest gone (ts ++ t ∷ []) ≡ rest gone ts ++ t ∷ []
rest_more gone ts t h = filter-append (λ (u : Tx). not (gone (txid u))) ts (t ∷ []) ∙ rw h refl

rest_less : (gone : Hash32 → Bool) (ts : List Tx) (t : Tx) → gone (txid t) ≡ true → rest gone (ts ++ t ∷ []) ≡ rest gone ts
rest_less gone ts t h = filter-append (λ (u : Tx). not (gone (txid u))) ts (t ∷ []) ∙ rw h (append-nil (rest gone ts))

-- after those that stay of the transactions before, of the others those stay that aren't gone
drops_from : (chain : Chain) (gone : Hash32 → Bool) (id : Hash32) (before ts : List Tx) → AreUnconfirmed chain gone → IsDropped id gone ts → AllJoin (may_join chain) before ts
    → stay (may_join chain) (rest gone before) (other_than id ts) ≡ rest gone ts
drops_from chain gone id before [] fresh law all = refl
drops_from chain gone id before (t ∷ ts) fresh law all =
    let next = drops_from chain gone id (before ++ t ∷ []) ts fresh law.1 all.1 in
    elim (cases_Bool (gone (txid t))) [
      | inl g ↦
          let less = rest_less gone before t g in
          let after = rw less at next in
          elim (cases_Bool (same_hash (txid t) id)) [
            | inl same ↦ rw (g, same) after
            | inr other ↦
                let why : names_gone gone t.inputs ≡ true = said other (law.0) g in
                let refused = joins_not chain gone before t fresh why in
                rw (g, other) (skips refused after)
          ]
      | inr g ↦
          let more = rest_more gone before t g in
          let after = rw more at next in
          let parts = or_parts (same_hash (txid t) id) (names_gone gone t.inputs) (sym law.0 ∙ g) in
          let taken_in = joins_rest chain gone before t parts.1 all.0 in
          rw (g, parts.0) (keeps taken_in after)
    ]
  where
    said : same_hash (txid t) id ≡ false → gone (txid t) ≡ (same_hash (txid t) id || names_gone gone t.inputs) → gone (txid t) ≡ true → names_gone gone t.inputs ≡ true
    said other is g = let e = rw other at is in sym e ∙ g

    skips : may_join chain (rest gone before) t ≡ false → stay (may_join chain) (rest gone before) (other_than id ts) ≡ rest gone ts
        → stay (may_join chain) (rest gone before) (t ∷ other_than id ts) ≡ rest gone ts
    skips refused is = ap (λ b. cond b (t ∷ stay (may_join chain) (rest gone before ++ t ∷ []) (other_than id ts)) (stay (may_join chain) (rest gone before) (other_than id ts))) refused ∙ is

    keeps : may_join chain (rest gone before) t ≡ true → stay (may_join chain) (rest gone before ++ t ∷ []) (other_than id ts) ≡ rest gone ts
        → stay (may_join chain) (rest gone before) (t ∷ other_than id ts) ≡ t ∷ rest gone ts
    keeps taken_in is = ap (λ b. cond b (t ∷ stay (may_join chain) (rest gone before ++ t ∷ []) (other_than id ts)) (stay (may_join chain) (rest gone before) (other_than id ts))) taken_in ∙ ap (λ l. t ∷ l) is

-- The sift of the kept ones without one of them has those that neither are that one nor spend it, directly or
-- not; over each chain over which the kept ones stand.
pub drops : (chain : Chain) (gone : Hash32 → Bool) (id : Hash32) (kept : List Tx) → AreUnconfirmed chain gone → IsDropped id gone kept → sift chain kept ≡ kept
    → sift chain (other_than id kept) ≡ rest gone kept
drops chain gone id kept fresh law same =
    folds (may_join chain) [] (other_than id kept) ∙ drops_from chain gone id [] kept fresh law (joins_of (may_join chain) kept same)

-- What a look-up has found, in the lists.
use Rattle.std.proofs.Common.{◌≡◌, ◌≢◌, inl, inr, ℕ, zero, suc, ◌<◌, true, false, List, [], ◌∷◌, length, get_or, slice_get, Option, None, Some, option_map, option_and_then, refl, ap, sym, ◌∙◌, arith, eq-eqb}
use Rattle.std.proofs.lemmas.Bool.{cases_Bool}
use Rattle.std.proofs.lemmas.List.{take_all}
use Rattle.el_tx.specs.declared.types.Outpoint.{Outpoint}
use Rattle.el_tables.specs.Disconnecting.{is_buried_by, buried_at, is_spent, spent_at}
use Rattle.el_tables.specs.Edits.{no_out}
use Rattle.el_tables.specs.Lists.{State, ListedTx, ListedOut, Lists, is_unspent, unspent_at, if_unspent, output_number}
use Rattle.el_tables.specs.Lists.State.{Unspent, Spent, Buried}
use Rattle.el_tables.proofs.OutEdits.{is_there, buried_is, spent_is}
use Rattle.el_row_formats.specs.declared.out_row.OutRow.{OutRow}
use Rattle.el_row_formats.specs.declared.out_row.State.TheVariants as out
use Rattle.el_schema.specs.Rows.{out_fields, state_fields}
use Rattle.el_spend.specs.Outputs.{output_numbered, coin_among}
use Rattle.el_spend.specs.declared.lookup.NamedOutput.{NamedOutput}
use Rattle.el_schema.proofs.Rows.{found_at, found_within}

-- 1. An output with its row

-- an output with its number
abbrev named_row : ℕ → ListedOut → NamedOutput
named_row k x = record { number = k; row = out_fields x }

-- what was found is the output of that number
pub named_gives : (outs : List ListedOut) (r : Option ℕ) (x : NamedOutput) → Some x ≡ option_and_then (output_numbered outs) r
    → (r ≡ Some x.number) × (Some x.row ≡ option_map out_fields (slice_get outs x.number))
named_gives outs None x e = absurd cc
named_gives outs (Some k) x e = by (slice_get outs k) refl e
  where
    by : (s : Option ListedOut) → slice_get outs k ≡ s → Some x ≡ option_map (named_row k) s
        → (Some k ≡ Some x.number) × (Some x.row ≡ option_map out_fields (slice_get outs x.number))
    by None at f = absurd cc
    by (Some z) at f =
        let number : k ≡ x.number = cc in
        let row : x.row ≡ out_fields z = cc in
        (ap Some number, ap Some row ∙ sym (ap (option_map out_fields) (ap (slice_get outs) (sym number) ∙ at)))

-- where nothing was found there is no such output
pub named_none : (outs : List ListedOut) (r : Option ℕ) (k : ℕ) → None ≡ option_and_then (output_numbered outs) r → r ≡ Some k → slice_get outs k ≡ None
named_none outs None k e is = absurd cc
named_none outs (Some j) k e is = let same : j ≡ k = cc in ap (slice_get outs) (sym same) ∙ by (slice_get outs j) e
  where
    by : (s : Option ListedOut) → None ≡ option_map (named_row j) s → s ≡ None
    by None f = refl
    by (Some z) f = absurd cc

-- 2. States

-- the state of a row is that of its output
pub state_is : (outs : List ListedOut) (k : ℕ) (row : OutRow) → Some row ≡ option_map out_fields (slice_get outs k) → row.state ≡ state_fields (get_or outs k no_out).state
state_is outs k row e = ap (λ (r : OutRow). r.state) (found_at out_fields outs k no_out row e)

unspent_get : (k : ℕ) (outs : List ListedOut) → k < length outs → unspent_at k outs ≡ is_unspent (get_or outs k no_out).state
unspent_get k [] lt = absurd (omega arith)
unspent_get zero (x ∷ xs) lt = refl
unspent_get (suc k) (x ∷ xs) lt = unspent_get k xs (omega arith)

unspent_yes : (s : State) → state_fields s ≡ out.Unspent → is_unspent s ≡ true
unspent_yes Unspent e = refl
unspent_yes (Spent n) e = absurd cc
unspent_yes (Buried n) e = absurd cc

pub unspent_no : (s : State) → (state_fields s ≡ out.Unspent → ⊥) → is_unspent s ≡ false
unspent_no Unspent e = absurd (e refl)
unspent_no (Spent n) e = refl
unspent_no (Buried n) e = refl

pub row_unspent : (outs : List ListedOut) (k : ℕ) (row : OutRow) → Some row ≡ option_map out_fields (slice_get outs k) → row.state ≡ out.Unspent → unspent_at k outs ≡ true
row_unspent outs k row e is =
    unspent_get k outs (found_within out_fields outs k row e) ∙ unspent_yes (get_or outs k no_out).state (sym (state_is outs k row e) ∙ is)

pub row_not_unspent : (outs : List ListedOut) (k : ℕ) (row : OutRow) → Some row ≡ option_map out_fields (slice_get outs k) → row.state ≢ out.Unspent → unspent_at k outs ≡ false
row_not_unspent outs k row e isnt =
    unspent_get k outs (found_within out_fields outs k row e) ∙ unspent_no (get_or outs k no_out).state (λ is. isnt (state_is outs k row e ∙ is))

unspent_there : (k : ℕ) (outs : List ListedOut) → unspent_at k outs ≡ true → slice_get outs k ≡ None → ⊥
unspent_there k [] u e = cc
unspent_there zero (x ∷ xs) u e = cc
unspent_there (suc k) (x ∷ xs) u e = unspent_there k xs u e

buried_yes : (by : ℕ) (s : State) → state_fields s ≡ out.Buried by → is_buried_by by s ≡ true
buried_yes by Unspent e = absurd cc
buried_yes by (Spent n) e = absurd cc
buried_yes by (Buried n) e = let same : n ≡ by = cc in eq-eqb n by same

buried_no : (by : ℕ) (s : State) → (state_fields s ≡ out.Buried by → ⊥) → is_buried_by by s ≡ false
buried_no by Unspent e = refl
buried_no by (Spent n) e = refl
buried_no by (Buried n) e = Rattle.std.proofs.Common.ne_eqb n by (λ q. e (ap out.Buried q))

pub row_buried : (by : ℕ) (outs : List ListedOut) (k : ℕ) (row : OutRow) → Some row ≡ option_map out_fields (slice_get outs k) → row.state ≡ out.Buried by → buried_at by k outs ≡ true
row_buried by outs k row e is = buried_is by k outs ∙ buried_yes by (get_or outs k no_out).state (sym (state_is outs k row e) ∙ is)

pub row_not_buried : (by : ℕ) (outs : List ListedOut) (k : ℕ) (row : OutRow) → Some row ≡ option_map out_fields (slice_get outs k) → row.state ≢ out.Buried by → buried_at by k outs ≡ false
row_not_buried by outs k row e isnt = buried_is by k outs ∙ buried_no by (get_or outs k no_out).state (λ is. isnt (state_is outs k row e ∙ is))

pub past_not_buried : (by k : ℕ) (outs : List ListedOut) → slice_get outs k ≡ None → buried_at by k outs ≡ false
past_not_buried by k [] e = refl
past_not_buried by zero (x ∷ xs) e = absurd cc
past_not_buried by (suc k) (x ∷ xs) e = past_not_buried by k xs e

spent_yes : (n : ℕ) (s : State) → state_fields s ≡ out.Spent n → is_spent s ≡ true
spent_yes n Unspent e = absurd cc
spent_yes n (Spent m) e = refl
spent_yes n (Buried m) e = absurd cc

spent_no : (s : State) → ((n : ℕ) → state_fields s ≡ out.Spent n → ⊥) → is_spent s ≡ false
spent_no Unspent e = refl
spent_no (Spent n) e = absurd (e n refl)
spent_no (Buried n) e = refl

pub row_spent : (n : ℕ) (outs : List ListedOut) (k : ℕ) (row : OutRow) → Some row ≡ option_map out_fields (slice_get outs k) → row.state ≡ out.Spent n → spent_at k outs ≡ true
row_spent n outs k row e is = spent_is k outs ∙ spent_yes n (get_or outs k no_out).state (sym (state_is outs k row e) ∙ is)

pub row_not_spent : (outs : List ListedOut) (k : ℕ) (row : OutRow) → Some row ≡ option_map out_fields (slice_get outs k) → ((n : ℕ) → row.state ≡ out.Spent n → ⊥) → spent_at k outs ≡ false
row_not_spent outs k row e isnt = spent_is k outs ∙ spent_no (get_or outs k no_out).state (λ n is. isnt n (state_is outs k row e ∙ is))

pub past_not_spent : (k : ℕ) (outs : List ListedOut) → slice_get outs k ≡ None → spent_at k outs ≡ false
past_not_spent k [] e = refl
past_not_spent zero (x ∷ xs) e = absurd cc
past_not_spent (suc k) (x ∷ xs) e = past_not_spent k xs e

-- 3. A coin

-- the coin by its number
abbrev pub coin_by : List ListedOut → Option ℕ → Option NamedOutput
coin_by outs names = option_and_then (output_numbered outs) (option_and_then (if_unspent outs) names)

-- an output that is unspent is the coin, another is none
pub coin_here : (outs : List ListedOut) (names : Option ℕ) (x : NamedOutput) → Some x ≡ option_and_then (output_numbered outs) names → x.row.state ≡ out.Unspent → Some x ≡ coin_by outs names
coin_here outs names x e is =
    let found = named_gives outs names x e in
    let there = row_unspent outs x.number x.row found.1 is in
    let same : option_and_then (if_unspent outs) names ≡ names = ap (option_and_then (if_unspent outs)) found.0 ∙ (rw there refl) ∙ sym found.0 in
    e ∙ ap (option_and_then (output_numbered outs)) (sym same)

pub coin_gone_here : (outs : List ListedOut) (names : Option ℕ) (x : NamedOutput) → Some x ≡ option_and_then (output_numbered outs) names → x.row.state ≢ out.Unspent → None ≡ coin_by outs names
coin_gone_here outs names x e isnt =
    let found = named_gives outs names x e in
    let gone = row_not_unspent outs x.number x.row found.1 isnt in
    let none : option_and_then (if_unspent outs) names ≡ None = ap (option_and_then (if_unspent outs)) found.0 ∙ rw gone refl in
    ap (option_and_then (output_numbered outs)) (sym none)

pub coin_nowhere : (outs : List ListedOut) (names : Option ℕ) → None ≡ option_and_then (output_numbered outs) names → None ≡ coin_by outs names
coin_nowhere outs None e = refl
coin_nowhere outs (Some k) e = elim (cases_Bool (unspent_at k outs)) [
  | inl y ↦ absurd (unspent_there k outs y (named_none outs (Some k) k e refl))
  | inr n ↦ rw n refl
]

-- the number of a coin that was found, and that there is none where none was
pub coin_number_is : (outs : List ListedOut) (names : Option ℕ) (x : NamedOutput) → Some x ≡ coin_by outs names
    → (option_and_then (if_unspent outs) names ≡ Some x.number) × (Some x.row ≡ option_map out_fields (slice_get outs x.number)) × (unspent_at x.number outs ≡ true)
coin_number_is outs names x e =
    let found = named_gives outs (option_and_then (if_unspent outs) names) x e in
    (found.0, found.1, is_there outs names x.number found.0)

pub coin_number_none : (outs : List ListedOut) (names : Option ℕ) → None ≡ coin_by outs names → option_and_then (if_unspent outs) names ≡ None
coin_number_none outs names e = by (option_and_then (if_unspent outs) names) refl
  where
    by : (r : Option ℕ) → option_and_then (if_unspent outs) names ≡ r → r ≡ None
    by None is = refl
    by (Some k) is = absurd (unspent_there k outs (is_there outs names k is) (named_none outs (option_and_then (if_unspent outs) names) k e is))

-- among all transactions
pub among_all : (o : Outpoint) (n : ℕ) (l : Lists) → n ≡ length l.txs → coin_among o n l ≡ coin_by l.outs (output_number o l.txs)
among_all o n l is = ap (λ (ts : List ListedTx). coin_by l.outs (output_number o ts)) (take_all n l.txs (omega arith))

pub coin_names : (outs : List ListedOut) (names : Option ℕ) (f : Option NamedOutput) → f ≡ coin_by outs names → option_map (λ (x : NamedOutput). x.number) f ≡ option_and_then (if_unspent outs) names
coin_names outs names None e = sym (coin_number_none outs names e)
coin_names outs names (Some x) e = sym (coin_number_is outs names x e).0

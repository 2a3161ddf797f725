-- The outputs of a chain, by outpoint.
use Rattle.std.proofs.Common.{◌≡◌, ◌≢◌, ℕ, zero, suc, ◌+◌, ◌<◌, ◌≤◌, List, [], ◌∷◌, ◌++◌, length, map, get_or, slice_get, Option, None, Some, option_map, option_and_then, refl, ap, ap₂, Result, IfOk, sym, subst, ◌∙◌, arith}
use Rattle.std.proofs.lemmas.List.{get_or-map, take_all}
use Rattle.std.specs.List.{AllByRecursion}
use Rattle.el_base.specs.declared.hash.Hash32.{Hash32}
use Rattle.el_tx.specs.declared.types.Outpoint.{Outpoint}
use Rattle.el_chain.specs.declared.coin.Coin.{Coin}
use Rattle.el_chain.specs.Chains.{Chain, zero_hash}
use Rattle.el_chain.specs.CoinLaws.{makes}
use Rattle.el_chain.specs.Faults.{IsGood}
use Rattle.el_chain.specs.History.{Position, positions}
use Rattle.el_model.specs.Queries as asked
use Rattle.el_tables.specs.Lists.{State, ListedTx, ListedOut, Lists, output_number}
use Rattle.el_tables.specs.Lists.State.{Unspent, Spent, Buried}
use Rattle.el_tables.specs.ChainLists.{output, outputs_from, listed_out, scripts_of, ListedBlock, listed_blocks, lists}
use Rattle.el_tables.specs.Tables.{HeadCounts, rows_from, tx_row, script_row, in_both}
use Rattle.el_tables.specs.Queries.{height_at, shown_coin, listed_coin, listed_state, spender_by}
use Rattle.el_tables.proofs.Answering.{coin_answers}
use Rattle.el_tables.proofs.FitLemmas.{chain_fits}
use Rattle.el_tables.proofs.Numbering.{length_txs}
use Rattle.el_tables.proofs.SpentBy.{spender_answers}
use Rattle.el_row_formats.specs.Tables as held
use Rattle.el_row_formats.specs.declared.table.Table.TheVariants as table
use Rattle.el_row_formats.specs.declared.out_row.OutRow.{OutRow}
use Rattle.el_row_formats.specs.declared.script_row.ScriptRow.{ScriptRow}
use Rattle.el_row_formats.specs.declared.tx_row.TxRow.{TxRow}
use Rattle.el_row_formats.specs.declared.out_row.State.TheVariants as out
use Rattle.el_schema.specs.Rows.{Hold, out_fields, state_fields, tx_fields, script_fields}
use Rattle.el_schema.proofs.Held.{no_tx, count_txs, count_tx_heads}
use Rattle.el_schema.specs.Standing.{HoldChain}
use Rattle.el_schema.proofs.Answered.{if_ok}
use Rattle.el_spend.specs.Outputs.{output_numbered, named_among}
use Rattle.el_spend.specs.declared.lookup.NamedOutput.{NamedOutput}
use Rattle.el_spend.proofs.Found.{named_gives, named_none, coin_here, coin_gone_here, coin_nowhere, coin_by, coin_number_is, coin_number_none}
use Rattle.el_schema.proofs.Rows.{found_at, get_past, listed_row, row_within}
use Rattle.el_queries.specs.within.Lookups.{output_for_outpoint, coin_of_row}

-- 1. An output that was found

-- the listed output whose row it is
record Listed (outs : List ListedOut) (x : NamedOutput) : Type 0 where
  pub z : ListedOut
  pub here : slice_get outs x.number ≡ Some z
  pub is : x.row ≡ out_fields z

listed_of : (outs : List ListedOut) (x : NamedOutput) → Some x.row ≡ option_map out_fields (slice_get outs x.number) → Listed outs x
listed_of outs x e = by (slice_get outs x.number) refl e
  where
    by : (s : Option ListedOut) → slice_get outs x.number ≡ s → Some x.row ≡ option_map out_fields s → Listed outs x
    by None here f = absurd cc
    by (Some z) here f = record { z = z; here = here; is = cc }

-- among as many transactions as there are, an outpoint names what it names among all
pub among_all : (o : Outpoint) (n : ℕ) (l : Lists) → n ≡ length l.txs → named_among o n l ≡ option_and_then (output_numbered l.outs) (output_number o l.txs)
among_all o n l is = ap (λ (ts : List ListedTx). option_and_then (output_numbered l.outs) (output_number o ts)) (take_all n l.txs (omega arith))

-- 2. The coin

pub coin_told : (chain : Chain) (o : Outpoint) (x : NamedOutput) → Some x ≡ output_for_outpoint o (lists chain)
    → x.row.state ≡ out.Unspent → Some (coin_of_row o (lists chain) x.row) ≡ asked.coin_of chain o
coin_told chain o x e is =
    let l = lists chain in
    let number = (coin_number_is l.outs (output_number o l.txs) x (coin_here l.outs (output_number o l.txs) x e is)).0 in
    let listed = listed_of l.outs x (named_gives l.outs (output_number o l.txs) x e).1 in
    let found : listed_coin o l ≡ Some (shown_coin o l listed.z) = ap (option_map (shown_coin o l)) (ap (option_and_then (λ k. slice_get l.outs k)) number ∙ listed.here) in
    ap Some (ap (coin_of_row o l) listed.is) ∙ sym (coin_answers chain o ∙ found)

no_coin : (chain : Chain) (o : Outpoint) → None ≡ coin_by (lists chain).outs (output_number o (lists chain).txs) → None ≡ asked.coin_of chain o
no_coin chain o e =
    let l = lists chain in
    let none = coin_number_none l.outs (output_number o l.txs) e in
    sym (coin_answers chain o ∙ ap (option_map (shown_coin o l)) (ap (option_and_then (λ k. slice_get l.outs k)) none))

pub gone_told : (chain : Chain) (o : Outpoint) (x : NamedOutput) → Some x ≡ output_for_outpoint o (lists chain)
    → x.row.state ≢ out.Unspent → None ≡ asked.coin_of chain o
gone_told chain o x e isnt = no_coin chain o (coin_gone_here (lists chain).outs (output_number o (lists chain).txs) x e isnt)

pub none_told : (chain : Chain) (o : Outpoint) → None ≡ output_for_outpoint o (lists chain) → None ≡ asked.coin_of chain o
none_told chain o e = no_coin chain o (coin_nowhere (lists chain).outs (output_number o (lists chain).txs) e)

-- 3. What an output names is there

-- each is of a transaction below that number
all_below : (n m : ℕ) (later : List Position) (scripts : List Hash32) (cs : List Coin) (rest : List ListedOut) → n < m → AllByRecursion (λ (x : ListedOut). x.tx < m) rest
    → AllByRecursion (λ (x : ListedOut). x.tx < m) (map (listed_out scripts) (map (output n later) cs) ++ rest)
all_below n m later scripts [] rest lt all = all
all_below n m later scripts (c ∷ cs) rest lt all = (lt, all_below n m later scripts cs rest lt all)

map_over : {X Y : Type 0} (f : X → Y) (xs ys : List X) → map f (xs ++ ys) ≡ map f xs ++ map f ys
map_over f [] ys = refl
map_over f (x ∷ xs) ys = ap (λ zs. f x ∷ zs) (map_over f xs ys)

txs_within : (n m : ℕ) (scripts : List Hash32) (ps : List Position) → n + length ps ≤ m → AllByRecursion (λ (x : ListedOut). x.tx < m) (map (listed_out scripts) (outputs_from n ps))
txs_within n m scripts [] le = tt
txs_within n m scripts (p ∷ ps) le =
    let split = map_over (listed_out scripts) (map (output n ps) (makes p)) (outputs_from (n + 1) ps) in
    rw split (all_below n m ps scripts (makes p) (map (listed_out scripts) (outputs_from (n + 1) ps)) (omega arith) (txs_within (n + 1) m scripts ps (omega arith)))

at_number : (P : ListedOut → Type 0) (xs : List ListedOut) (k : ℕ) (z : ListedOut) → AllByRecursion P xs → slice_get xs k ≡ Some z → P z
at_number P [] k z all e = absurd cc
at_number P (x ∷ xs) zero z all e = let same : x ≡ z = cc in subst P same all.0
at_number P (x ∷ xs) (suc k) z all e = at_number P xs k z all.1 e

pub parts_there : (chain : Chain) (o : Outpoint) (x : NamedOutput) → Some x ≡ output_for_outpoint o (lists chain)
    → (x.row.script < length (lists chain).scripts) × (x.row.tx < length (lists chain).txs)
parts_there chain o x e =
    let l = lists chain in
    let ps = positions chain in
    let listed = listed_of l.outs x (named_gives l.outs (output_number o l.txs) x e).1 in
    let long = length_txs 0 0 ps in
    let script_is = ap (λ (r : OutRow). r.script) listed.is in
    let tx_is = ap (λ (r : OutRow). r.tx) listed.is in
    let script : listed.z.script < length l.scripts = at_number (λ (y : ListedOut). y.script < length l.scripts) l.outs x.number listed.z (chain_fits chain).within listed.here in
    let tx : listed.z.tx < length ps = at_number (λ (y : ListedOut). y.tx < length ps) l.outs x.number listed.z (txs_within 0 (length ps) (scripts_of ps) ps (omega arith)) listed.here in
    (omega (arith, script_is, script), omega (arith, tx_is, tx, long))

-- 4. What became of it

state_told : (chain : Chain) (o : Outpoint) (x : NamedOutput) → Some x ≡ output_for_outpoint o (lists chain)
    → (s : State) × (listed_state o (lists chain) ≡ Some s) × (x.row.state ≡ state_fields s)
state_told chain o x e =
    let l = lists chain in
    let named = named_gives l.outs (output_number o l.txs) x e in
    let listed = listed_of l.outs x named.1 in
    (listed.z.state, ap (option_map (λ (y : ListedOut). y.state)) (ap (option_and_then (λ k. slice_get l.outs k)) named.0 ∙ listed.here), ap (λ (r : OutRow). r.state) listed.is)

spent_as : (by : ℕ) (s : State) → state_fields s ≡ out.Spent by → s ≡ Spent by
spent_as by Unspent e = absurd cc
spent_as by (Spent n) e = let same : n ≡ by = cc in ap Spent same
spent_as by (Buried n) e = absurd cc

spent_by_none : (txs : List ListedTx) (s : State) → ((by : ℕ) → state_fields s ≡ out.Spent by → ⊥) → None ≡ spender_by txs s
spent_by_none txs Unspent isnt = refl
spent_by_none txs (Spent n) isnt = absurd (isnt n refl)
spent_by_none txs (Buried n) isnt = refl

-- the transaction that took it
pub spender_told : (chain : Chain) (o : Outpoint) (x : NamedOutput) (by : ℕ) → IsGood chain → Some x ≡ output_for_outpoint o (lists chain)
    → x.row.state ≡ out.Spent by → spender_by (lists chain).txs (Spent by) ≡ asked.spender chain o
spender_told chain o x by good e is =
    let l = lists chain in
    let s = state_told chain o x e in
    let same = spent_as by s.0 (sym s.2 ∙ is) in
    sym (spender_answers chain o good ∙ ap (option_and_then (spender_by l.txs)) s.1 ∙ ap (spender_by l.txs) same)

-- nobody did
pub unspent_told : (chain : Chain) (o : Outpoint) (x : NamedOutput) → IsGood chain → Some x ≡ output_for_outpoint o (lists chain)
    → ((by : ℕ) → x.row.state ≡ out.Spent by → ⊥) → None ≡ asked.spender chain o
unspent_told chain o x good e isnt =
    let l = lists chain in
    let s = state_told chain o x e in
    spent_by_none l.txs s.0 (λ by f. isnt by (s.2 ∙ f)) ∙ sym (spender_answers chain o good ∙ ap (option_and_then (spender_by l.txs)) s.1)

pub unnamed_told : (chain : Chain) (o : Outpoint) → IsGood chain → None ≡ output_for_outpoint o (lists chain) → None ≡ asked.spender chain o
unnamed_told chain o good e =
    let l = lists chain in
    let none : listed_state o l ≡ None = ap (option_map (λ (y : ListedOut). y.state)) (by (output_number o l.txs) e) in
    sym (spender_answers chain o good ∙ ap (option_and_then (spender_by l.txs)) none)
  where
    by : (r : Option ℕ) → None ≡ option_and_then (output_numbered (lists chain).outs) r → option_and_then (λ k. slice_get (lists chain).outs k) r ≡ None
    by None f = refl
    by (Some k) f = named_none (lists chain).outs (Some k) k f refl

-- 5. Rows

-- what a row tells of its member
told_by : {X Y F A : Type 0} (row : ℕ → X → Y) (fields : Y → F) (g : F → A) (f : X → A) → ((n : ℕ) (x : X) → g (fields (row n x)) ≡ f x) → (m n : ℕ) (xs : List X) (r : F)
    → Some r ≡ option_map fields (slice_get (rows_from row m xs) n) → Some (g r) ≡ option_map f (slice_get xs n)
told_by row fields g f same m n [] r e = absurd cc
told_by row fields g f same m zero (x ∷ xs) r e = ap Some (ap g (cc) ∙ same m x)
told_by row fields g f same m (suc n) (x ∷ xs) r e = told_by row fields g f same (m + 1) n xs r e

-- the transaction of that number, as a history shows it
pub entry_told : (count n : ℕ) (txs : List ListedTx) (r : TxRow) → Some r ≡ option_map tx_fields (slice_get (rows_from (tx_row count txs) 0 txs) n)
    → Some (record { height = r.height; txid = r.txid }) ≡ spender_by txs (Spent n)
entry_told count n txs r e =
    told_by (tx_row count txs) tx_fields (λ (s : TxRow). record { height = s.height; txid = s.txid }) (λ (t : ListedTx). record { height = t.height; txid = t.txid }) (λ m t. refl) 0 n txs r e

pub past_txs : (n : ℕ) (txs : List ListedTx) → length txs ≤ n → None ≡ spender_by txs (Spent n)
past_txs n txs le = sym (ap (option_map (λ (t : ListedTx). record { height = t.height; txid = t.txid })) (get_past txs n le))

-- its height, and the script hash of a number
height_told : (count n : ℕ) (txs : List ListedTx) (r : TxRow) → Some r ≡ option_map tx_fields (slice_get (rows_from (tx_row count txs) 0 txs) n) → r.height ≡ height_at n txs
height_told count n txs r e =
    ap (λ (s : TxRow). s.height) (listed_row count txs n r e) ∙ sym (get_or-map (λ (t : ListedTx). t.height) txs n no_tx 0 (row_within count txs n r e))

script_told : (count n : ℕ) (l : Lists) (r : ScriptRow) → Some r ≡ option_map script_fields (slice_get (rows_from (script_row count l) 0 l.scripts) n) → r.script ≡ get_or l.scripts n zero_hash
script_told count n l r e =
    found_at (λ (s : Hash32). s) l.scripts n zero_hash r.script
    (told_by (script_row count l) script_fields (λ (s : ScriptRow). s.script) (λ (s : Hash32). s) (λ m s. refl) 0 n l.scripts r e)

-- the coin by its rows
pub coin_by_rows : (a b : ℕ) (o : Outpoint) (l : Lists) (row : OutRow) (tx : TxRow) (script : ScriptRow)
    → Some tx ≡ option_map tx_fields (slice_get (rows_from (tx_row a l.txs) 0 l.txs) row.tx)
    → Some script ≡ option_map script_fields (slice_get (rows_from (script_row b l) 0 l.scripts) row.script)
    → Some (record { outpoint = o; value = row.value; script = script.script; height = tx.height }) ≡ Some (coin_of_row o l row)
coin_by_rows a b o l row tx script e f =
    let height_is = height_told a row.tx l.txs tx e in
    let script_is = script_told b row.script l script f in
    ap₂ (λ (s : Hash32) (h : ℕ). Some (record { outpoint = o; value = row.value; script = s; height = h })) script_is height_is

-- 6. From rows that stand for a chain

pub output_in : {E : Type 0} (heads : ℕ) (chain : Chain) (shown : held.Tables) (o : Outpoint) (n : ℕ) (r : Result (Option NamedOutput) E) → 0 < heads → HoldChain heads shown chain → n ≡ length (shown table.Txs)
    → ((counts : HeadCounts) (bs : List ListedBlock) (l : Lists) → Hold counts bs l shown → 0 < counts.txs → IfOk r (λ f. f ≡ named_among o n l))
    → IfOk r (λ f. f ≡ output_for_outpoint o (lists chain))
output_in heads chain shown o n r some hold many named =
    let counts = in_both heads in
    let blocks = listed_blocks chain in
    let l = lists chain in
    if_ok r (named counts blocks l hold some) (λ f is. is ∙ among_all o n l (many ∙ count_txs counts blocks l shown hold))

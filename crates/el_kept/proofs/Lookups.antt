-- What a table and a ledger say of outpoints and txids, and sums of what is taken and held.
use Rattle.std.proofs.Common.{◌≡◌, ℕ, zero, suc, ◌+◌, ◌-◌, ◌<◌, true, false, Bool, cond, ◌||◌, List, [], ◌∷◌, ◌++◌, length, Option, None, Some, inl, inr, refl, ap, sym, ◌∙◌, arith}
use Rattle.std.proofs.lemmas.Bool.{cases_Bool, true≢false}
use Rattle.std.proofs.lemmas.List.Sums.{sum_by-cons}
use Rattle.std.specs.List.{AllByRecursion, list_any, find}
use Rattle.std.specs.Prelude.{map, slice_get, option_map, option_and_then, option_to_list, IfSome}
use Rattle.std.specs.Option.{option_or, option_flatten, is_some}
use Rattle.indexmap.specs.IndexMap.{get}
use Rattle.el_base.proofs.Lists.{all_append, all_weaker}
use Rattle.el_base.specs.declared.hash.Hash32.{Hash32}
use Rattle.el_tx.specs.declared.types.Outpoint.{Outpoint}
use Rattle.el_tx.specs.declared.types.TxIn.{TxIn}
use Rattle.el_tx.specs.declared.types.TxOut.{TxOut}
use Rattle.el_tx.specs.declared.types.Tx.{Tx}
use Rattle.el_tx.specs.Encoding.{total_value}
use Rattle.el_tx.specs.Hashing.{txid, same_outpoint, full_encoding}
use Rattle.el_outside.specs.declared.archive.Place.{Place}
use Rattle.el_chain.specs.Chains.{Chain}
use Rattle.el_chain.specs.Headers.{same_hash}
use Rattle.el_chain.specs.declared.coin.Coin.{Coin}
use Rattle.el_chain.specs.Coins.{coins_after, coins_after_all}
use Rattle.el_chain.specs.History.{Position, positions, positions_in, block_positions, first_start, positions_from}
use Rattle.el_model.specs.Queries.{find_tx, newest, place_at, spot_of}
use Rattle.el_model.proofs.Findings.{newest_has}
use Rattle.el_mempool.specs.declared.held.Held.{Held}
use Rattle.el_mempool.specs.declared.held.Source.{Source}
use Rattle.el_mempool.specs.declared.held.KeptTx.{KeptTx}
use Rattle.el_mempool.specs.Sift.{coin_named, output_among, named, held_by, total_held, is_confirmed, may_join, output_held}
use Rattle.el_mempool.specs.Refusals.{spender_of}
use Rattle.el_mempool.specs.Standing.{source_at, sources, KeptStandFor}
use Rattle.el_mempool.specs.Unconfirmed.{fee}
use Rattle.el_mempool.proofs.Sifting.{joins_of}
use Rattle.el_mempool.proofs.Confirmed.{hash_same, unconfirmed_none}
use Rattle.el_mempool.proofs.Dropping.{output_apart}
use Rattle.el_mempool.proofs.Arrivals.{fresh_from}
use Rattle.el_mempool.proofs.Named.{AreNamed, all_named}
use Rattle.el_mempool.proofs.Sifted.{AreFresh}
use Rattle.el_mempool.proofs.Changes.{apart_from}
use Rattle.el_kept.specs.declared.found.FoundOutput.{FoundOutput}
use Rattle.el_kept.specs.declared.table.Table.{Table}
use Rattle.el_kept.specs.Named.{found_by, total_sources, IsTableOver, AreUnspent}
use Rattle.el_kept.specs.Tables.{undropped, by_txid, takes_from, HasEntries}
use Rattle.el_kept.proofs.Entries.{found_standing, held_is, taker_is}

-- a table of a set that stands for transactions
pub is_over : (table : Table) (chain : Chain) (kept : List Tx) → HasEntries table (undropped table.kept.entries) → KeptStandFor (undropped table.kept.entries) chain kept → IsTableOver table chain kept
is_over table chain kept t h = record { entries = undropped table.kept.entries; table = t; stands = h }

pub none_of : {X : Type 0} (x : Option X) → is_some x ≡ false → x ≡ None
none_of None h = refl
none_of (Some y) h = absurd (true≢false h)

-- ---- what an outpoint names

-- what the table says that an outpoint names
pub output_is : (t : Table) (chain : Chain) (kept : List Tx) (o : Outpoint) → IsTableOver t chain kept
    → option_and_then (λ (k : KeptTx). slice_get k.outputs o.index) (option_flatten (get same_hash t.kept o.txid)) ≡ output_among o kept
output_is t chain kept o h =
    ap (option_and_then (λ (k : KeptTx). slice_get k.outputs o.index)) (found_standing o.txid t.kept.entries h.table.right h.table.once ∙ ap (by_txid o.txid) (h.table.are ∙ h.stands.are))
    ∙ held_is o chain kept kept (apart_from kept h.stands.once)

-- who takes an outpoint
pub takers_are : (t : Table) (chain : Chain) (kept : List Tx) (o : Outpoint) → IsTableOver t chain kept → get same_outpoint t.spenders o ≡ option_map txid (spender_of o kept)
takers_are t chain kept o h =
    h.table.takers o ∙ ap (λ ks. option_map (λ (k : KeptTx). k.txid) (find (takes_from o) ks)) h.stands.are ∙ taker_is o chain kept kept (all_named chain kept h.stands.sifted)

-- an output of a kept one is no coin of the chain
pub kept_unspent : (chain : Chain) (o : Outpoint) (v : Held) (ts : List Tx) → AreFresh chain ts → output_among o ts ≡ Some v → coin_named chain o ≡ None
kept_unspent chain o v [] fresh h = absurd (cc)
kept_unspent chain o v (t ∷ ts) fresh h = elim (cases_Bool (same_hash (txid t) o.txid)) [
  | inl e ↦ unconfirmed_none chain o (ap (is_confirmed chain) (sym (hash_same (txid t) o.txid e)) ∙ fresh.0)
  | inr e ↦ kept_unspent chain o v ts fresh.1 (sym (ap (λ x. option_or x (output_among o ts)) (output_apart o t e)) ∙ h)
]

pub unspent_of : (chain : Chain) (kept : List Tx) (entries : List KeptTx) → KeptStandFor entries chain kept → AreUnspent chain kept
unspent_of chain kept entries h o some = by (output_among o kept) refl some
  where
    by : (x : Option Held) → output_among o kept ≡ x → is_some x ≡ true → coin_named chain o ≡ None
    by None e bad = absurd (true≢false (sym bad))
    by (Some v) e some = kept_unspent chain o v kept (fresh_from chain [] kept (joins_of (may_join chain) kept h.sifted)) e

-- a coin of the chain stands before an output of a kept one, and none is both
pub held_found : (left : Option Held) (chain : Chain) (kept : List Tx) (o : Outpoint) (found : Option FoundOutput) → left ≡ output_among o kept
    → (is_some (output_among o kept) ≡ true → coin_named chain o ≡ None) → found ≡ found_by left (coin_named chain o) → option_map (λ (n : FoundOutput). n.held) found ≡ named chain kept o
held_found left chain kept o found same unspent is =
    ap (option_map (λ (n : FoundOutput). n.held)) (is ∙ ap (λ x. found_by x (coin_named chain o)) same) ∙ by (output_among o kept) (coin_named chain o) unspent
  where
    by : (x c : Option Held) → (is_some x ≡ true → c ≡ None) → option_map (λ (n : FoundOutput). n.held) (found_by x c) ≡ option_or c x
    by (Some h) None f = refl
    by (Some h) (Some c) f = absurd (cc_none c (f refl))
      where
        cc_none : (v : Held) → Some v ≡ None → ⊥
        cc_none v e = cc
    by None (Some c) f = refl
    by None None f = refl

-- ---- what is found in the chain

positions_below : (height : ℕ) (bs : Chain) (coins : List Coin) → AllByRecursion (λ (p : Position). p.height < height + length bs) (positions_from height bs coins)
positions_below height [] coins = tt
positions_below height (b ∷ bs) coins =
    all_append (λ (p : Position). p.height < height + length (b ∷ bs)) (block_positions height b.block.txs coins) (positions_from (height + 1) bs (coins_after_all height b.block.txs coins))
    (in_block (height + length (b ∷ bs)) height 0 (first_start b.block.txs) b.block.txs coins (omega arith))
    (all_weaker (λ (p : Position). p.height < height + 1 + length bs) (λ (p : Position). p.height < height + length (b ∷ bs)) (positions_from (height + 1) bs (coins_after_all height b.block.txs coins))
    (λ p h. omega (arith, h)) (positions_below (height + 1) bs (coins_after_all height b.block.txs coins)))
  where
    in_block : (most h place start : ℕ) (ts : List Tx) (cs : List Coin) → h < most → AllByRecursion (λ (p : Position). p.height < most) (positions_in h place start ts cs)
    in_block most h place start [] cs lt = tt
    in_block most h place start (t ∷ ts) cs lt = (lt, in_block most h (place + 1) (start + length (full_encoding t)) ts (coins_after h t cs) lt)

place_there : (chain : Chain) (n : ℕ) → n < length chain → is_some (place_at chain n) ≡ true
place_there [] n lt = absurd (omega (arith, lt))
place_there (x ∷ chain) zero lt = refl
place_there (x ∷ chain) (suc n) lt = place_there chain n (omega (arith, lt))

newest_some : (id : Hash32) (ps : List Position) → is_some (newest id ps) ≡ list_any (λ (p : Position). same_hash (txid p.tx) id) ps
newest_some id [] = refl
newest_some id (p ∷ ps) = by (newest id ps) (same_hash (txid p.tx) id) (newest_some id ps)
  where
    by : (x : Option Position) (b : Bool) → is_some x ≡ list_any (λ (q : Position). same_hash (txid q.tx) id) ps
        → is_some (option_or x (cond b (Some p) None)) ≡ (b || list_any (λ (q : Position). same_hash (txid q.tx) id) ps)
    by None true e = refl
    by None false e = e
    by (Some q) true e = refl
    by (Some q) false e = e

-- the ledger finds a transaction exactly where the chain has one
pub confirmed_is : (chain : Chain) (id : Hash32) → is_some (find_tx chain id) ≡ is_confirmed chain id
confirmed_is chain id =
    by (newest id (positions chain)) (newest_has (λ (p : Position). p.height < 0 + length chain) id (positions chain) (positions_below 0 chain [])) ∙ newest_some id (positions chain)
  where
    placed : (p : Position) (x : Option Place) → is_some x ≡ true → is_some (option_map (spot_of p) x) ≡ true
    placed p None h = h
    placed p (Some q) h = refl

    by : (x : Option Position) → IfSome x (λ p. p.height < 0 + length chain) → is_some (option_and_then (λ (p : Position). option_map (spot_of p) (place_at chain p.height)) x) ≡ is_some x
    by None h = refl
    by (Some p) h = placed p (place_at chain p.height) (place_there chain p.height (omega (arith, h)))

-- ---- sums, and what is asked of each input

pub sources_sum : (chain : Chain) (kept : List Tx) (is : List TxIn) → total_sources (sources chain kept is) ≡ total_held (held_by chain kept is)
sources_sum chain kept [] = refl
sources_sum chain kept (i ∷ is) = by (named chain kept i.from) (sources_sum chain kept is)
  where
    by : (x : Option Held) → total_sources (sources chain kept is) ≡ total_held (held_by chain kept is)
        → total_sources (option_to_list (option_map (source_at i) x) ++ sources chain kept is) ≡ total_held (option_to_list x ++ held_by chain kept is)
    by None e = e
    by (Some v) e =
        sum_by-cons (λ (s : Source). s.held.value) (source_at i v) (sources chain kept is) ∙ ap (λ n. v.value + n) e ∙ sym (sum_by-cons (λ (h : Held). h.value) v (held_by chain kept is))

pub outputs_sum : (os : List TxOut) → total_held (map output_held os) ≡ total_value os
outputs_sum [] = refl
outputs_sum (o ∷ os) =
    sum_by-cons (λ (h : Held). h.value) (output_held o) (map output_held os) ∙ ap (λ n. o.value + n) (outputs_sum os) ∙ sym (sum_by-cons (λ (x : TxOut). x.value) o os)

pub fee_is : (chain : Chain) (kept : List Tx) (t : Tx) (ss : List Source) (outs : List Held) → ss ≡ sources chain kept t.inputs → outs ≡ map output_held t.outputs
    → total_sources ss - total_held outs ≡ fee chain kept t
fee_is chain kept t ss outs are whole =
    ap (λ n. n - total_held outs) (ap total_sources are ∙ sources_sum chain kept t.inputs)
    ∙ ap (λ n. total_held (held_by chain kept t.inputs) - n) (ap total_held whole ∙ outputs_sum t.outputs)

-- what is asked of each input is asked of its outpoint
pub any_from : (p : Outpoint → Bool) (chain : Chain) (kept : List Tx) (is : List TxIn) → AreNamed chain kept is
    → list_any (λ (s : Source). p s.from) (sources chain kept is) ≡ list_any (λ (i : TxIn). p i.from) is
any_from p chain kept [] h = refl
any_from p chain kept (i ∷ is) h = by (named chain kept i.from) h.0 (any_from p chain kept is h.1)
  where
    by : (x : Option Held) → is_some x ≡ true → list_any (λ (s : Source). p s.from) (sources chain kept is) ≡ list_any (λ (j : TxIn). p j.from) is
        → list_any (λ (s : Source). p s.from) (option_to_list (option_map (source_at i) x) ++ sources chain kept is) ≡ (p i.from || list_any (λ (j : TxIn). p j.from) is)
    by None none more = absurd (true≢false (sym none))
    by (Some v) some more = ap (λ b. p i.from || b) more

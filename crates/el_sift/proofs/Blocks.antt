-- Which kept transactions the blocks of a move have, read off the txids of the blocks from a height on.
use Rattle.std.proofs.Common.{◌≡◌, ℕ, zero, suc, ◌+◌, ◌≤◌, true, false, Bool, ◌||◌, List, [], ◌∷◌, length, take, drop, map, Option, None, Some, refl, ap, sym, ◌∙◌, subst, arith}
use Rattle.std.proofs.lemmas.Bool.{or_parts}
use Rattle.std.proofs.lemmas.List.{drop_all, take-append-drop}
use Rattle.std.proofs.lemmas.List.Folds.{list_any-append}
use Rattle.std.specs.List.{list_any}
use Rattle.std.specs.Prelude.{slice_get, option_map, Result, Ok, Err, IfOk}
use Rattle.el_base.specs.declared.hash.Hash32.{Hash32}
use Rattle.el_tx.specs.declared.types.Tx.{Tx}
use Rattle.el_tx.specs.Hashing.{txid, full_encoding}
use Rattle.el_block.specs.Blocks.{txids}
use Rattle.el_chain.specs.declared.placed.Placed.{Placed}
use Rattle.el_chain.specs.declared.coin.Coin.{Coin}
use Rattle.el_chain.specs.Chains.{Chain}
use Rattle.el_chain.specs.Coins.{coins_after, coins_after_all}
use Rattle.el_chain.specs.Headers.{same_hash}
use Rattle.el_chain.specs.History.{Position, positions_in, block_positions, first_start, positions_from}
use Rattle.el_model.specs.declared.fault.QueryFault.{QueryFault}
use Rattle.el_model.specs.Queries.{txids_at, blocks_in, height_of}
use Rattle.el_mempool.specs.declared.held.KeptTx.{KeptTx}
use Rattle.el_mempool.specs.Sift.{is_confirmed, may_join}
use Rattle.el_mempool.specs.Standing.{kept_tx}
use Rattle.el_mempool.proofs.Sifting.{joins_of}
use Rattle.el_mempool.proofs.Confirmed.{hash_turned}
use Rattle.el_mempool.proofs.Arrivals.{fresh_from}
use Rattle.el_mempool.proofs.Sifted.{AreFresh}
use Rattle.el_kept.specs.declared.table.Table.{Table}
use Rattle.el_kept.specs.Named.{IsTableOver}
use Rattle.el_kept.specs.Tables.{undropped, has}
use Rattle.el_sift.specs.within.Renewal.{KnowsAll, has_in_block}

-- ---- a chain's transactions, block by block

in_one : (x : Hash32) (height pos start : ℕ) (ts : List Tx) (cs : List Coin) → list_any (λ (p : Position). same_hash (txid p.tx) x) (positions_in height pos start ts cs) ≡ has (txids ts) x
in_one x height pos start [] cs = refl
in_one x height pos start (t ∷ ts) cs =
    ap (λ b. b || list_any (λ (p : Position). same_hash (txid p.tx) x) (positions_in height (pos + 1) (start + length (full_encoding t)) ts (coins_after height t cs))) (hash_turned (txid t) x)
    ∙ ap (λ b. same_hash x (txid t) || b) (in_one x height (pos + 1) (start + length (full_encoding t)) ts (coins_after height t cs))

in_all : (x : Hash32) (height : ℕ) (bs : Chain) (cs : List Coin) → list_any (λ (p : Position). same_hash (txid p.tx) x) (positions_from height bs cs) ≡ list_any (has_in_block x) bs
in_all x height [] cs = refl
in_all x height (b ∷ bs) cs =
    list_any-append (λ (p : Position). same_hash (txid p.tx) x) (block_positions height b.block.txs cs) (positions_from (height + 1) bs (coins_after_all height b.block.txs cs))
    ∙ ap (λ c. c || list_any (λ (p : Position). same_hash (txid p.tx) x) (positions_from (height + 1) bs (coins_after_all height b.block.txs cs)))
    (in_one x height 0 (first_start b.block.txs) b.block.txs cs)
    ∙ ap (λ c. has_in_block x b || c) (in_all x (height + 1) bs (coins_after_all height b.block.txs cs))

by_block : (chain : Chain) (x : Hash32) → is_confirmed chain x ≡ list_any (has_in_block x) chain
by_block chain x = in_all x 0 chain []

two_parts : (x : Hash32) (n : ℕ) (chain : Chain) → list_any (has_in_block x) chain ≡ (list_any (has_in_block x) (take n chain) || list_any (has_in_block x) (drop n chain))
two_parts x n chain = ap (list_any (has_in_block x)) (sym (take-append-drop n chain)) ∙ list_any-append (has_in_block x) (take n chain) (drop n chain)

-- where the chain before hasn't the transaction, it is in the chain's blocks after the common ones
above_same : (before chain : Chain) (same : ℕ) (x : Hash32) → take same before ≡ take same chain → is_confirmed before x ≡ false → is_confirmed chain x ≡ list_any (has_in_block x) (drop same chain)
above_same before chain same x common none =
    let parts = or_parts (list_any (has_in_block x) (take same before)) (list_any (has_in_block x) (drop same before)) (sym (two_parts x same before) ∙ sym (by_block before x) ∙ none) in
    let low : list_any (has_in_block x) (take same chain) ≡ false = ap (list_any (has_in_block x)) (sym common) ∙ parts.0 in
    by_block chain x ∙ two_parts x same chain ∙ ap (λ b. b || list_any (has_in_block x) (drop same chain)) low

-- ---- and of the entries

told_since : (before chain : Chain) (same : ℕ) (table : Table) (all : List Tx) (found : List Hash32) → IsTableOver table before all → take same before ≡ take same chain
    → ((x : Hash32) → has found x ≡ list_any (has_in_block x) (drop same chain)) → KnowsAll chain found (undropped table.kept.entries)
told_since before chain same table all found over common h =
    subst (λ (ks : List KeptTx). KnowsAll chain found ks) (sym (over.table.are ∙ over.stands.are)) (each all (fresh_from before [] all (joins_of (may_join before) all over.stands.sifted)))
  where
    each : (ts : List Tx) → AreFresh before ts → KnowsAll chain found (map (kept_tx before all) ts)
    each [] fresh = tt
    each (t ∷ ts) fresh = (h (txid t) ∙ sym (above_same before chain same (txid t) common fresh.0), each ts fresh.1)

pub if_told_since : (before chain : Chain) (same : ℕ) (table : Table) (all : List Tx) (r : Result (List Hash32) QueryFault) → IsTableOver table before all → take same before ≡ take same chain
    → ((x : Hash32) → IfOk r (λ found. has found x ≡ list_any (has_in_block x) (drop same chain))) → IfOk r (λ found. KnowsAll chain found (undropped table.kept.entries))
if_told_since before chain same table all (Ok found) over common h = told_since before chain same table all found over common h
if_told_since before chain same table all (Err e) over common h = tt

-- ---- the heights one after the other

drop_one : {X : Type 0} (xs : List X) (n : ℕ) (x : X) → slice_get xs n ≡ Some x → drop n xs ≡ x ∷ drop (n + 1) xs
drop_one [] n x e = absurd (cc)
drop_one (y ∷ ys) zero x e = cc
drop_one (y ∷ ys) (suc n) x e = drop_one ys n x e ∙ ap (λ m. x ∷ drop m (y ∷ ys)) (let next : suc (n + 1) ≡ suc n + 1 = omega arith in next)

pub first_height : (chain : Chain) (same : ℕ) (x : Hash32) (found : List Hash32) → found ≡ [] → (has found x || list_any (has_in_block x) (drop same chain)) ≡ list_any (has_in_block x) (drop same chain)
first_height chain same x found none = ap (λ l. has l x || list_any (has_in_block x) (drop same chain)) none

or_moved : (a b c : Bool) → ((a || b) || c) ≡ (a || (b || c))
or_moved true b c = refl
or_moved false b c = refl

pub next_height : (chain : Chain) (n : ℕ) (x : Hash32) (old now ids : List Hash32) (whole : Bool) → txids_at chain n ≡ Some ids → has now x ≡ (has old x || has ids x)
    → (has old x || list_any (has_in_block x) (drop n chain)) ≡ whole → (has now x || list_any (has_in_block x) (drop (n + 1) chain)) ≡ whole
next_height chain n x old now ids whole is more h = by (slice_get chain n) refl is
  where
    by : (o : Option Placed) → slice_get chain n ≡ o → option_map (λ (b : Placed). txids b.block.txs) o ≡ Some ids → (has now x || list_any (has_in_block x) (drop (n + 1) chain)) ≡ whole
    by None e f = absurd (cc)
    by (Some b) e f =
        let same : txids b.block.txs ≡ ids = cc in
        ap (λ c. c || list_any (has_in_block x) (drop (n + 1) chain)) (more ∙ ap (λ (l : List Hash32). has old x || has l x) (sym same))
        ∙ or_moved (has old x) (has_in_block x b) (list_any (has_in_block x) (drop (n + 1) chain))
        ∙ ap (λ l. has old x || list_any (has_in_block x) l) (sym (drop_one chain n b e)) ∙ h

blocks_are : (chain : Chain) → blocks_in (height_of chain) ≡ length chain
blocks_are [] = refl
blocks_are (b ∷ bs) = omega arith

none_right : (a : Bool) → (a || false) ≡ a
none_right true = refl
none_right false = refl

pub last_height : (chain : Chain) (same n count : ℕ) (height : Option ℕ) (x : Hash32) (found : List Hash32) → count ≡ blocks_in height → height ≡ height_of chain → count ≤ n
    → (has found x || list_any (has_in_block x) (drop n chain)) ≡ list_any (has_in_block x) (drop same chain) → has found x ≡ list_any (has_in_block x) (drop same chain)
last_height chain same n count height x found is top le h =
    let whole : count ≡ length chain = is ∙ ap blocks_in top ∙ blocks_are chain in
    let none : drop n chain ≡ [] = drop_all n chain (omega (arith, whole, le)) in
    sym (none_right (has found x)) ∙ ap (λ l. has found x || list_any (has_in_block x) l) (sym none) ∙ h

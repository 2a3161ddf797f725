-- A whole transaction, and a whole block.
use Rattle.std.proofs.Common.{◌≡◌, ℕ, zero, suc, ◌+◌, ◌-◌, ◌<◌, List, [], ◌∷◌, ◌++◌, length, Option, None, Some, option_map, refl, ap, sym, subst, ◌∙◌, arith, length-append}
use Rattle.std.proofs.lemmas.List.{length-map}
use Rattle.el_chain.specs.Chains.{Chain}
use Rattle.el_chain.specs.Faults.{IsGood}
use Rattle.el_chain.specs.declared.placed.Placed.{Placed}
use Rattle.el_tables.specs.ChainLists.{listed_block, lists, listed_blocks}
use Rattle.el_tables.specs.Disconnecting.{but_last, last, times, take_back_output, unspend, take_back_tx, take_back_entries, disconnect_tx, disconnect_txs, without_output}
use Rattle.el_tables.specs.Fits.{IsNumbered}
use Rattle.el_tables.specs.Lists.{ListedTx, ListedOut, Lists, unspent_sum}
use Rattle.el_tables.specs.Tables.{HeadCounts, in_both}
use Rattle.el_tables.proofs.TakeBack.{last_is}
use Rattle.el_tables.proofs.UndoneBlocks.{blocks_more, disconnects, good_before}
use Rattle.el_row_formats.specs.Tables as held
use Rattle.el_row_formats.specs.declared.table.Table.TheVariants as table
use Rattle.el_row_formats.specs.declared.tx_row.TxRow.{TxRow}
use Rattle.el_row_formats.specs.RowBytes.{block_row_bytes}
use Rattle.el_schema.specs.Rows.{Hold, listed_tx, block_fields}
use Rattle.el_undo.specs.within.Undone.{LacksTxs}
use Rattle.el_undo.proofs.Dropped.{blocks_long}

-- 1. A transaction

scripts_out : (k : ℕ) (l : Lists) → (times k take_back_output l).scripts ≡ l.scripts
scripts_out zero l = refl
scripts_out (suc k) l = go (last (times k take_back_output l).outs) ∙ scripts_out k l
  where
    go : (r : Option ListedOut) → (without_output r (times k take_back_output l)).scripts ≡ (times k take_back_output l).scripts
    go None = refl
    go (Some x) = refl

entries_out : (k : ℕ) (l : Lists) → (times k take_back_output l).entries ≡ l.entries
entries_out zero l = refl
entries_out (suc k) l = go (last (times k take_back_output l).outs) ∙ entries_out k l
  where
    go : (r : Option ListedOut) → (without_output r (times k take_back_output l)).entries ≡ (times k take_back_output l).entries
    go None = refl
    go (Some x) = refl

scripts_in : (k : ℕ) (l : Lists) → (times k unspend l).scripts ≡ l.scripts
scripts_in zero l = refl
scripts_in (suc k) l = scripts_in k l

entries_in : (k : ℕ) (l : Lists) → (times k unspend l).entries ≡ l.entries
entries_in zero l = refl
entries_in (suc k) l = entries_in k l

-- outputs and inputs leave the numbers of script hashes
pub still_numbered : (ins outs : ℕ) (l : Lists) → IsNumbered l.scripts l.entries
    → IsNumbered (times ins unspend (times outs take_back_output l)).scripts (times ins unspend (times outs take_back_output l)).entries
still_numbered ins outs l h =
    let m = times outs take_back_output l in
    let s = scripts_in ins m ∙ scripts_out outs l in
    let e = entries_in ins m ∙ entries_out outs l in
    rw (s, e) h

length_front : {X : Type 0} (xs : List X) → length (but_last xs) ≡ length xs - 1
length_front [] = refl
length_front (x ∷ []) = refl
length_front (x ∷ y ∷ xs) = let rest = length_front (y ∷ xs) in omega arith

-- the parts are the whole
pub undone : (l : Lists) (t : ListedTx) (outs ins number : ℕ) → last l.txs ≡ Some t → t.outs ≡ outs → t.ins ≡ ins → number ≡ length l.txs - 1
    → take_back_tx (take_back_entries (length (times ins unspend (times outs take_back_output l)).entries) number (times ins unspend (times outs take_back_output l))) ≡ disconnect_tx l
undone l t outs ins number is o i n =
    let m = times outs take_back_output l in
    let e : length (times ins unspend m).entries ≡ length l.entries = ap length (entries_in ins m ∙ entries_out outs l) in
    let front = length_front l.txs in
    let at : number ≡ length (but_last l.txs) = n ∙ sym front in
    let a = sym o in
    let b = sym i in
    rw (is, e, at, a, b) refl

-- the row is that of the last transaction
pub row_is : (row : TxRow) (t : ListedTx) (l : Lists) → option_map listed_tx (Some row) ≡ last l.txs → last l.txs ≡ Some t → listed_tx row ≡ t
row_is row t l found is = some_same (listed_tx row) t (found ∙ is)
  where
    some_same : (a b : ListedTx) → Some a ≡ Some b → a ≡ b
    some_same a b e = cc

pub none_is_not : (t : ListedTx) (l : Lists) (P : Type 0) → option_map listed_tx None ≡ last l.txs → last l.txs ≡ Some t → P
none_is_not t l P none is = absurd (wrong (none ∙ is))
  where
    wrong : None ≡ Some t → ⊥
    wrong e = cc

-- 2. A block

pub rows_of_blocks : (counts : HeadCounts) (l : Lists) (rows : held.Tables) (chain : Chain) (b : Placed) → Hold counts (listed_blocks (chain ++ b ∷ [])) l rows
    → length (rows table.Blocks) ≡ length chain + 1
rows_of_blocks counts l rows chain b hold =
    let same = ap length (hold.each table.Blocks) ∙ length-map (listed_blocks (chain ++ b ∷ [])) (λ x. block_row_bytes (block_fields x)) in
    let long = blocks_long 0 0 (chain ++ b ∷ []) [] in
    let joined = length-append chain (b ∷ []) in
    omega arith

pub last_block : (chain : Chain) (b : Placed) → last (listed_blocks (chain ++ b ∷ [])) ≡ Some (listed_block (length (lists chain).txs) (unspent_sum (lists (chain ++ b ∷ [])).outs) b)
last_block chain b = ap last (blocks_more chain b) ∙ last_is (listed_blocks chain) _

pub lacks : (heads : ℕ) (rows : held.Tables) (chain : Chain) (b : Placed) (n : ℕ) → 0 < heads → IsGood (chain ++ b ∷ []) → n ≡ length b.block.txs
    → Hold (in_both heads) (listed_blocks (chain ++ b ∷ [])) (disconnect_txs n (lists (chain ++ b ∷ []))) rows → LacksTxs heads rows chain b
lacks heads rows chain b n some good count hold = record {
  some = some;
  good = good_before chain b good;
  hold = subst (λ (l : Lists). Hold (in_both heads) (listed_blocks (chain ++ b ∷ [])) l rows)
      (ap (λ (k : ℕ). disconnect_txs k (lists (chain ++ b ∷ []))) count ∙ disconnects chain b good) hold;
}

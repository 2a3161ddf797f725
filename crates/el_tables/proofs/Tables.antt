-- Which tables stand for a chain.
use Rattle.std.proofs.Common.{◌≡◌, ℕ, zero, suc, ◌+◌, ◌==◌, List, [], ◌∷◌, map, length, refl, ap, ap₂, sym, ◌∙◌}
use Rattle.std.proofs.lemmas.List.{length-map}
use Rattle.el_base.specs.declared.hash.Hash32.{Hash32}
use Rattle.el_chain.specs.Chains.{Chain}
use Rattle.el_chain.specs.Faults.{IsGood}
use Rattle.el_tables.specs.Lists.{ListedTx, Lists}
use Rattle.el_tables.specs.ChainLists.{ListedBlock, lists, listed_blocks}
use Rattle.el_tables.specs.Tables.{TxRow, ScriptRow, EntryRow, Tables, HeadCounts, bucket_in, greatest, numbers_from, heads, rows_from, tx_row, script_row, entry_row, tables_of, without_links, head_counts, IsLinked, Stands}
use Rattle.el_tables.proofs.Steps.{lists_same}

tables_same : (c d : HeadCounts) (old bs : List ListedBlock) (l m : Lists) → c ≡ d → old ≡ bs → l ≡ m → tables_of c old l ≡ tables_of d bs m
tables_same c d old bs l m a b e = ap (λ (k : HeadCounts). tables_of k old l) a ∙ ap₂ (tables_of d) b e

-- tables that stand for one chain are equal
pub same_tables : (counts : HeadCounts) (a b : Tables) (chain : Chain) → Stands counts a chain → Stands counts b chain → a ≡ b
same_tables counts a b chain h k = is a h ∙ sym (is b k)
  where
    is : (t : Tables) → Stands counts t chain → t ≡ tables_of counts (listed_blocks chain) (lists chain)
    is t s = s.linked.rows ∙ tables_same _ _ _ _ _ _ s.heads s.blocks s.lists

rows_back : {X Y : Type 0} (row : ℕ → X → Y) (back : Y → X) → ((n : ℕ) (x : X) → back (row n x) ≡ x) → (n : ℕ) (xs : List X) → map back (rows_from row n xs) ≡ xs
rows_back row back same n [] = refl
rows_back row back same n (x ∷ xs) = let one = same n x in let rest = rows_back row back same (n + 1) xs in rw (one, rest) refl

pub lists_back : (counts : HeadCounts) (bs : List ListedBlock) (l : Lists) → without_links (tables_of counts bs l) ≡ l
lists_back counts bs l =
    lists_same _ _ _ _ _ _ _ _ _ _ (rows_back (tx_row counts.txs l.txs) (λ (r : TxRow). r.listed) (λ n x. refl) 0 l.txs) refl refl
    (rows_back (script_row counts.scripts l) (λ (r : ScriptRow). r.script) (λ n x. refl) 0 l.scripts)
    (rows_back (entry_row l.entries) (λ (r : EntryRow). r.listed) (λ n x. refl) 0 l.entries)

-- how many heads there are
length_below : (n count : ℕ) → length (numbers_from n count) ≡ count
length_below n zero = refl
length_below n (suc count) = ap suc (length_below (n + 1) count)

pub length_heads : {X : Type 0} (count : ℕ) (hash : X → Hash32) (xs : List X) → length (heads count hash xs) ≡ count
length_heads count hash xs = length-map (numbers_from 0 count) (λ n. greatest (λ x. bucket_in count (hash x) == n) xs) ∙ length_below 0 count

pub counts_back : (counts : HeadCounts) (bs : List ListedBlock) (l : Lists) → head_counts (tables_of counts bs l) ≡ counts
counts_back counts bs l =
    ap₂ (λ (a b : ℕ). record { txs = a; scripts = b }) (length_heads counts.txs (λ (t : ListedTx). t.txid) l.txs) (length_heads counts.scripts (λ s. s) l.scripts)

-- rows of lists are rows
pub are_rows : (counts : HeadCounts) (bs : List ListedBlock) (l : Lists) → IsLinked (tables_of counts bs l)
are_rows counts bs l = record { rows = sym (tables_same _ _ _ _ _ _ (counts_back counts bs l) refl (lists_back counts bs l)) }

pub tables_stand : (counts : HeadCounts) (chain : Chain) → IsGood chain
    → Stands counts (tables_of counts (listed_blocks chain) (lists chain)) chain
tables_stand counts chain good = record {
  good = good;
  linked = are_rows counts (listed_blocks chain) (lists chain);
  heads = counts_back counts (listed_blocks chain) (lists chain);
  blocks = refl;
  lists = lists_back counts (listed_blocks chain) (lists chain);
}

-- A step that makes these rows of those leaves rows, of the lists after it, with as many heads and the same blocks.
pub step_leaves_rows : (old new : Tables) (l : Lists) → new ≡ tables_of (head_counts old) old.blocks l
    → IsLinked new × (without_links new ≡ l) × (head_counts new ≡ head_counts old) × (new.blocks ≡ old.blocks)
step_leaves_rows old new l is =
    rw is (are_rows (head_counts old) old.blocks l, lists_back (head_counts old) old.blocks l, counts_back (head_counts old) old.blocks l, refl)

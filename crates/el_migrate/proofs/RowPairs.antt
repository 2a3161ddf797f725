-- Rows of format 1 and of format 2 of the same lists.
use Rattle.std.proofs.Common.{◌≡◌, ◌<◌, ◌+◌, ◌==◌, ℕ, zero, suc, List, [], ◌∷◌, ◌++◌, length, map, take, get_or, refl, ap, sym, subst, ◌∙◌, arith}
use Rattle.std.specs.List.{AllByRecursion}
use Rattle.std.proofs.lemmas.List.{length-map, length-take-le, map-id}
use Rattle.el_base.specs.declared.hash.Hash32.{Hash32}
use Rattle.el_row_formats.specs.declared.table.Table.TheVariants as table
use Rattle.el_row_formats.specs.declared.tx_row.TxRow.{TxRow}
use Rattle.el_row_formats.specs.declared.script_row.ScriptRow.{ScriptRow}
use Rattle.el_row_formats.specs.RowBytes.{tx_row_bytes, script_row_bytes}
use Rattle.el_row_formats.specs.OldRowBytes.{old_tx_row_bytes, old_script_row_bytes, FitsOldTxRow, FitsOldScriptRow}
use Rattle.el_tables.specs.ChainLists.{ListedBlock}
use Rattle.el_tables.specs.Lists.{ListedTx, Lists}
use Rattle.el_tables.specs.Tables.{HeadCounts, greatest, bucket_in, rows_from, tx_row, script_row}
use Rattle.el_schema.proofs.Held.{greatest_map}
use Rattle.el_schema.specs.Rows.{tx_fields, script_fields}
use Rattle.el_migrate.specs.within.Moving.{IsOldRow, new_rows}
use Rattle.el_migrate.specs.within.Relinked.{relinked_tx, relinked_script}

-- ---- tables whose rows are the same in both formats

-- the row of that number: its fields, and its bytes in both formats
pub record RowAt {X F : Type 0} (old new : F → List ℕ) (fields : X → F) (Fits : F → Type 0) (xs : List X) (n : ℕ) (bytes : List ℕ) : Type 0 where
  pub r : F
  pub fits : Fits r
  pub is : old r ≡ bytes
  pub there : new r ≡ get_or (map (λ x. new (fields x)) xs) n []

pub row_of : {X F : Type 0} (old new : F → List ℕ) (fields : X → F) (Fits : F → Type 0) (xs : List X) (n : ℕ) (bytes : List ℕ)
    → AllByRecursion (λ x. Fits (fields x)) xs → n < length (map (λ x. old (fields x)) xs) → bytes ≡ get_or (map (λ x. old (fields x)) xs) n []
    → RowAt old new fields Fits xs n bytes
row_of old new fields Fits [] n bytes fit lt is = absurd (omega (arith, lt))
row_of old new fields Fits (x ∷ xs) zero bytes fit lt is = record { r = fields x; fits = fit.0; is = sym is; there = refl }
row_of old new fields Fits (x ∷ xs) (suc n) bytes fit lt is =
    let rest = row_of old new fields Fits xs n bytes fit.1 (omega (arith, lt)) is in
    record { r = rest.r; fits = rest.fits; is = rest.is; there = rest.there }

-- one more of the first members
front_more : {X Y : Type 0} (f : X → Y) (xs : List X) (n : ℕ) (x : X) (d : X) → n < length xs → x ≡ get_or xs n d → map f (take n xs) ++ f x ∷ [] ≡ map f (take (suc n) xs)
front_more f [] n x d lt is = absurd (omega (arith, lt))
front_more f (y ∷ ys) zero x d lt is = ap (λ z. f z ∷ []) is
front_more f (y ∷ ys) (suc n) x d lt is = ap (λ zs. f y ∷ zs) (front_more f ys n x d (omega (arith, lt)) is)

-- ---- transactions

module _ (old buckets : ℕ) (all : List ListedTx) where
  -- the row of the member of that number
  record TxAt (m : ℕ) (xs : List ListedTx) (n : ℕ) (bytes : List ℕ) : Type 0 where
    pub x : ListedTx
    pub fits : FitsOldTxRow (tx_fields (tx_row old all (m + n) x))
    pub is : old_tx_row_bytes (tx_fields (tx_row old all (m + n) x)) ≡ bytes
    pub there : tx_row_bytes (tx_fields (tx_row buckets all (m + n) x)) ≡ get_or (map (λ r. tx_row_bytes (tx_fields r)) (rows_from (tx_row buckets all) m xs)) n []
    pub here : (d : ListedTx) → x ≡ get_or xs n d
    pub within : n < length xs

  tx_at : (m : ℕ) (xs : List ListedTx) (n : ℕ) (bytes : List ℕ) → AllByRecursion (λ r. FitsOldTxRow (tx_fields r)) (rows_from (tx_row old all) m xs)
      → n < length (map (λ r. old_tx_row_bytes (tx_fields r)) (rows_from (tx_row old all) m xs)) → bytes ≡ get_or (map (λ r. old_tx_row_bytes (tx_fields r)) (rows_from (tx_row old all) m xs)) n []
      → TxAt m xs n bytes
  tx_at m [] n bytes fit lt is = absurd (omega (arith, lt))
  tx_at m (x ∷ xs) zero bytes fit lt is =
      let e : m ≡ m + 0 = omega arith in
      record {
        x = x;
        fits = subst (λ k. FitsOldTxRow (tx_fields (tx_row old all k x))) e fit.0;
        is = sym (is ∙ ap (λ k. old_tx_row_bytes (tx_fields (tx_row old all k x))) e);
        there = sym (ap (λ k. tx_row_bytes (tx_fields (tx_row buckets all k x))) e);
        here = λ d. refl;
        within = omega arith;
      }
  tx_at m (x ∷ xs) (suc n) bytes fit lt is =
      let rest = tx_at (m + 1) xs n bytes fit.1 (omega (arith, lt)) is in
      let e : m + 1 + n ≡ m + suc n = omega arith in
      record {
        x = rest.x;
        fits = subst (λ k. FitsOldTxRow (tx_fields (tx_row old all k rest.x))) e rest.fits;
        is = ap (λ k. old_tx_row_bytes (tx_fields (tx_row old all k rest.x))) (sym e) ∙ rest.is;
        there = ap (λ k. tx_row_bytes (tx_fields (tx_row buckets all k rest.x))) (sym e) ∙ rest.there;
        here = λ d. rest.here d;
        within = (let w = rest.within in omega (arith, w));
      }

-- what the move of a transaction's row needs and gives
pub record MovesTx (buckets : ℕ) (bs : List ListedBlock) (l : Lists) (n : ℕ) (bytes : List ℕ) : Type 0 where
  pub r : TxRow
  pub fits : FitsOldTxRow r
  pub is : old_tx_row_bytes r ≡ bytes
  pub there : tx_row_bytes (relinked_tx buckets (map (λ (t : ListedTx). t.txid) (take n l.txs)) r) ≡ get_or (new_rows buckets bs l table.Txs) n []
  pub more : map (λ (t : ListedTx). t.txid) (take n l.txs) ++ r.txid ∷ [] ≡ map (λ (t : ListedTx). t.txid) (take (n + 1) l.txs)
  pub many : n ≡ length (map (λ (t : ListedTx). t.txid) (take n l.txs))

pub moves_tx : (counts : HeadCounts) (buckets : ℕ) (bs : List ListedBlock) (l : Lists) (n : ℕ) (bytes : List ℕ) → IsOldRow counts bs l table.Txs n bytes → MovesTx buckets bs l n bytes
moves_tx counts buckets bs l n bytes row =
    let at = tx_at counts.txs buckets l.txs 0 l.txs n bytes row.fit.txs row.within row.is in
    let id : ListedTx → Hash32 = λ t. t.txid in
    let e : 0 + n ≡ n = omega arith in
    record {
      r = tx_fields (tx_row counts.txs l.txs (0 + n) at.x);
      fits = at.fits;
      is = at.is;
      there = ap (λ o. tx_row_bytes (record (tx_fields (tx_row counts.txs l.txs (0 + n) at.x)) { next = o }))
          (ap (λ k. greatest (λ h. bucket_in buckets h == bucket_in buckets at.x.txid) (map id (take k l.txs))) (sym e)
          ∙ greatest_map 0 (λ h. bucket_in buckets h == bucket_in buckets at.x.txid) id (take (0 + n) l.txs))
          ∙ at.there;
      more = front_more id l.txs n at.x at.x at.within (at.here at.x) ∙ ap (λ k. map id (take k l.txs)) (let next : suc n ≡ n + 1 = omega arith in next);
      many = sym (length-map (take n l.txs) id ∙ length-take-le n l.txs (let w = at.within in omega (arith, w)));
    }

-- ---- scripts

module _ (old buckets : ℕ) (l : Lists) where
  record ScriptAt (m : ℕ) (xs : List Hash32) (n : ℕ) (bytes : List ℕ) : Type 0 where
    pub x : Hash32
    pub fits : FitsOldScriptRow (script_fields (script_row old l (m + n) x))
    pub is : old_script_row_bytes (script_fields (script_row old l (m + n) x)) ≡ bytes
    pub there : script_row_bytes (script_fields (script_row buckets l (m + n) x)) ≡ get_or (map (λ r. script_row_bytes (script_fields r)) (rows_from (script_row buckets l) m xs)) n []
    pub here : (d : Hash32) → x ≡ get_or xs n d
    pub within : n < length xs

  script_at : (m : ℕ) (xs : List Hash32) (n : ℕ) (bytes : List ℕ) → AllByRecursion (λ r. FitsOldScriptRow (script_fields r)) (rows_from (script_row old l) m xs)
      → n < length (map (λ r. old_script_row_bytes (script_fields r)) (rows_from (script_row old l) m xs))
      → bytes ≡ get_or (map (λ r. old_script_row_bytes (script_fields r)) (rows_from (script_row old l) m xs)) n [] → ScriptAt m xs n bytes
  script_at m [] n bytes fit lt is = absurd (omega (arith, lt))
  script_at m (x ∷ xs) zero bytes fit lt is =
      let e : m ≡ m + 0 = omega arith in
      record {
        x = x;
        fits = subst (λ k. FitsOldScriptRow (script_fields (script_row old l k x))) e fit.0;
        is = sym (is ∙ ap (λ k. old_script_row_bytes (script_fields (script_row old l k x))) e);
        there = sym (ap (λ k. script_row_bytes (script_fields (script_row buckets l k x))) e);
        here = λ d. refl;
        within = omega arith;
      }
  script_at m (x ∷ xs) (suc n) bytes fit lt is =
      let rest = script_at (m + 1) xs n bytes fit.1 (omega (arith, lt)) is in
      let e : m + 1 + n ≡ m + suc n = omega arith in
      record {
        x = rest.x;
        fits = subst (λ k. FitsOldScriptRow (script_fields (script_row old l k rest.x))) e rest.fits;
        is = ap (λ k. old_script_row_bytes (script_fields (script_row old l k rest.x))) (sym e) ∙ rest.is;
        there = ap (λ k. script_row_bytes (script_fields (script_row buckets l k rest.x))) (sym e) ∙ rest.there;
        here = λ d. rest.here d;
        within = (let w = rest.within in omega (arith, w));
      }

-- what the move of a script's row needs and gives
pub record MovesScript (buckets : ℕ) (bs : List ListedBlock) (l : Lists) (n : ℕ) (bytes : List ℕ) : Type 0 where
  pub r : ScriptRow
  pub fits : FitsOldScriptRow r
  pub is : old_script_row_bytes r ≡ bytes
  pub there : script_row_bytes (relinked_script buckets (take n l.scripts) r) ≡ get_or (new_rows buckets bs l table.Scripts) n []
  pub more : take n l.scripts ++ r.script ∷ [] ≡ take (n + 1) l.scripts
  pub many : n ≡ length (take n l.scripts)

pub moves_script : (counts : HeadCounts) (buckets : ℕ) (bs : List ListedBlock) (l : Lists) (n : ℕ) (bytes : List ℕ) → IsOldRow counts bs l table.Scripts n bytes → MovesScript buckets bs l n bytes
moves_script counts buckets bs l n bytes row =
    let at = script_at counts.scripts buckets l 0 l.scripts n bytes row.fit.scripts row.within row.is in
    let e : 0 + n ≡ n = omega arith in
    record {
      r = script_fields (script_row counts.scripts l (0 + n) at.x);
      fits = at.fits;
      is = at.is;
      there = ap (λ k. script_row_bytes (relinked_script buckets (take k l.scripts) (script_fields (script_row counts.scripts l (0 + n) at.x)))) (sym e) ∙ at.there;
      more = sym (map-id (take n l.scripts ++ at.x ∷ [])) ∙ map_append_one at.x (take n l.scripts) ∙ front_more (λ (h : Hash32). h) l.scripts n at.x at.x at.within (at.here at.x) ∙ map-id (take (suc n) l.scripts) ∙ ap (λ k. take k l.scripts) (let next : suc n ≡ n + 1 = omega arith in next);
      many = sym (length-take-le n l.scripts (let w = at.within in omega (arith, w)));
    }
  where
    map_append_one : (x : Hash32) (xs : List Hash32) → map (λ (h : Hash32). h) (xs ++ x ∷ []) ≡ map (λ (h : Hash32). h) xs ++ x ∷ []
    map_append_one x [] = refl
    map_append_one x (y ∷ ys) = ap (λ zs. y ∷ zs) (map_append_one x ys)

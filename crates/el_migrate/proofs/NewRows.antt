-- The rows of format 2 that were written stand for the chain for which the rows of format 1 stood.
use Rattle.std.proofs.Common.{◌≡◌, ◌<◌, ◌≤◌, ◌+◌, ◌*◌, ◌^◌, ◌==◌, ℕ, zero, suc, Bool, true, false, Option, Some, None, if◌then◌else◌, List, [], ◌∷◌, length, map, take, refl, ap, sym, ◌∙◌, arith, append-nil}
use Rattle.std.specs.List.{AllByRecursion}
use Rattle.std.specs.Option.{option_or}
use Rattle.std.proofs.lemmas.List.{length-map, ext_get_or}
use Rattle.std.proofs.lemmas.Nat.{pow_pos}
use Rattle.std.proofs.Math.Pow.{pow_mono}
use Rattle.el_base.proofs.Lists.{all_weaker}
use Rattle.el_outside.specs.Disk.{Image}
use Rattle.el_chain.specs.Chains.{Chain}
use Rattle.el_chain.specs.Faults.{IsGood}
use Rattle.el_row_formats.specs.declared.table.Table.{Table}
use Rattle.el_row_formats.specs.declared.table.Table.TheVariants as table
use Rattle.el_row_formats.specs.RowBytes.{link_number, FitsTxRow, FitsHeadRow, FitsScriptRow}
use Rattle.el_row_formats.specs.OldRowBytes.{old_tx_row_bytes, old_script_row_bytes, FitsOldTxRow, FitsOldScriptRow}
use Rattle.el_row_formats.specs.Tables.{size_of, row_at}
use Rattle.el_rows.specs.Changes.{count_at}
use Rattle.el_redo.specs.RedoBody.{head_bytes}
use Rattle.el_tables.specs.ChainLists.{ListedBlock, lists, listed_blocks}
use Rattle.el_tables.specs.Lists.{ListedTx, Lists}
use Rattle.el_tables.specs.Tables.{HeadCounts, greatest_from, greatest, rows_from, numbers_from, bucket_in, tx_row, script_row, heads, tables_of, in_both}
use Rattle.el_tables.proofs.RowLists.{length_rows}
use Rattle.el_tables.proofs.Tables.{length_heads}
use Rattle.el_schema.specs.Rows.{FitFields, tx_fields, head_fields, script_fields}
use Rattle.el_schema.proofs.StandingLemmas.{stands}
use Rattle.el_pages.specs.declared.layout.TheConstants.{FORMAT_2}
use Rattle.el_pages.specs.Layouts.{file_of, size_in, limit_in, rows_in}
use Rattle.el_pages.specs.Indexes.{IsRooted, ShowsTables, tables_in}
use Rattle.el_pages.proofs.Laid.{sizes_2, length-rows_in, get_or-rows_in}
use Rattle.el_pages.proofs.Stands.{stands_shut}
use Rattle.el_row_formats.specs.declared.limits.TheConstants.{MIN_HEAD_BITS, MAX_HEAD_BITS}
use Rattle.el_migrate.specs.OldRows.{FitOldFields, old_bytes_of}
use Rattle.el_migrate.specs.ImageChains.{StandsNew}
use Rattle.el_migrate.specs.within.Moving.{HasOnlyRows, new_rows}
use Rattle.el_migrate.specs.within.Moved.{HaveNewRows, HaveOldRows, AreGrown, IsMetaWritten, new_count}
use Rattle.el_migrate.specs.within.Ready.{IsIndexWith}
use Rattle.el_migrate.proofs.Fits.{fits_block, fits_tx, fits_out, fits_in, fits_script, fits_entry}

-- ---- numbers fit

-- a link to one of these members is small
link_small : {X : Type 0} (n : ℕ) (test : X → Bool) (xs : List X) → link_number (greatest_from n test xs) ≤ n + length xs
link_small n test [] = omega arith
link_small n test (x ∷ xs) = by (greatest_from (n + 1) test xs) (test x) (link_small (n + 1) test xs)
  where
    by : (g : Option ℕ) (b : Bool) → link_number g ≤ n + 1 + length xs → link_number (option_or g (if b then Some n else None)) ≤ n + suc (length xs)
    by (Some k) b le = omega (arith, le)
    by None true le = omega arith
    by None false le = omega arith

heads_fit : {X : Type 0} (count : ℕ) (hash : X → _) (xs : List X) → length xs < 2 ^ 32 → AllByRecursion (λ (link : Option ℕ). FitsHeadRow (head_fields link)) (heads count hash xs)
heads_fit count hash xs few = go (numbers_from 0 count)
  where
    go : (ns : List ℕ) → AllByRecursion (λ (link : Option ℕ). FitsHeadRow (head_fields link)) (map (λ n. greatest (λ x. bucket_in count (hash x) == n) xs) ns)
    go [] = tt
    go (n ∷ ns) = (record { head = (let small = link_small 0 (λ x. bucket_in count (hash x) == n) xs in omega (arith, small, few)) }, go ns)

length_take : {X : Type 0} (n : ℕ) (xs : List X) → length (take n xs) ≤ length xs
length_take zero xs = omega arith
length_take (suc n) [] = omega arith
length_take (suc n) (x ∷ xs) = (let le = length_take n xs in omega (arith, le))

txs_fit : (old new : ℕ) (all : List ListedTx) (m : ℕ) (xs : List ListedTx) → length all < 2 ^ 32
    → AllByRecursion (λ r. FitsOldTxRow (tx_fields r)) (rows_from (tx_row old all) m xs) → AllByRecursion (λ r. FitsTxRow (tx_fields r)) (rows_from (tx_row new all) m xs)
txs_fit old new all m [] few fit = tt
txs_fit old new all m (x ∷ xs) few fit =
    let next = greatest (λ (u : ListedTx). bucket_in new u.txid == bucket_in new x.txid) (take m all) in
    let small = link_small 0 (λ (u : ListedTx). bucket_in new u.txid == bucket_in new x.txid) (take m all) in
    let le = length_take m all in
    (fits_tx (tx_fields (tx_row old all m x)) fit.0 next (omega (arith, small, le, few)), txs_fit old new all (m + 1) xs few fit.1)

scripts_fit : (old new : ℕ) (l : Lists) (m : ℕ) (xs : List _) → length l.scripts < 2 ^ 32
    → AllByRecursion (λ r. FitsOldScriptRow (script_fields r)) (rows_from (script_row old l) m xs) → AllByRecursion (λ r. FitsScriptRow (script_fields r)) (rows_from (script_row new l) m xs)
scripts_fit old new l m [] few fit = tt
scripts_fit old new l m (x ∷ xs) few fit =
    let next = greatest (λ u. bucket_in new u == bucket_in new x) (take m l.scripts) in
    let small = link_small 0 (λ u. bucket_in new u == bucket_in new x) (take m l.scripts) in
    let le = length_take m l.scripts in
    (fits_script (script_fields (script_row old l m x)) fit.0 next (omega (arith, small, le, few)), scripts_fit old new l (m + 1) xs few fit.1)

pub fields_fit : (counts : HeadCounts) (buckets : ℕ) (bs : List ListedBlock) (l : Lists) → length l.txs < 2 ^ 32 → length l.scripts < 2 ^ 32
    → FitOldFields (tables_of counts bs l) → FitFields (tables_of (in_both buckets) bs l)
fields_fit counts buckets bs l few_txs few_scripts fit = record {
  blocks = all_weaker _ _ bs (λ b f. fits_block _ f) fit.blocks;
  txs = txs_fit counts.txs buckets l.txs 0 l.txs few_txs fit.txs;
  tx_heads = heads_fit buckets (λ (t : ListedTx). t.txid) l.txs few_txs;
  outs = all_weaker _ _ l.outs (λ x f. fits_out _ f) fit.outs;
  ins = all_weaker _ _ l.ins (λ k f. fits_in _ f) fit.ins;
  scripts = scripts_fit counts.scripts buckets l 0 l.scripts few_scripts fit.scripts;
  script_heads = heads_fit buckets (λ s. s) l.scripts few_scripts;
  entries = all_weaker _ _ _ (λ e f. fits_entry _ f) fit.entries;
}

-- ---- how many rows

module _ (counts : HeadCounts) (bits : ℕ) (bs : List ListedBlock) (l : Lists) (pages : List ℕ)
    (many : (t : Table) → length (old_bytes_of (tables_of counts bs l) t) ≡ count_at pages t) where
  pub new_many : (t : Table) → length (new_rows (2 ^ bits) bs l t) ≡ new_count bits pages t
  new_many table.Blocks = length-map bs _ ∙ sym (length-map bs _) ∙ many table.Blocks
  new_many table.Txs =
      length-map (rows_from (tx_row (2 ^ bits) l.txs) 0 l.txs) _ ∙ length_rows (tx_row (2 ^ bits) l.txs) 0 l.txs
      ∙ sym (length-map (rows_from (tx_row counts.txs l.txs) 0 l.txs) _ ∙ length_rows (tx_row counts.txs l.txs) 0 l.txs) ∙ many table.Txs
  new_many table.TxHeads = length-map (heads (2 ^ bits) (λ (t : ListedTx). t.txid) l.txs) _ ∙ length_heads (2 ^ bits) (λ (t : ListedTx). t.txid) l.txs
  new_many table.Outs = length-map l.outs _ ∙ sym (length-map l.outs _) ∙ many table.Outs
  new_many table.Ins = length-map l.ins _ ∙ sym (length-map l.ins _) ∙ many table.Ins
  new_many table.Scripts =
      length-map (rows_from (script_row (2 ^ bits) l) 0 l.scripts) _ ∙ length_rows (script_row (2 ^ bits) l) 0 l.scripts
      ∙ sym (length-map (rows_from (script_row counts.scripts l) 0 l.scripts) _ ∙ length_rows (script_row counts.scripts l) 0 l.scripts) ∙ many table.Scripts
  new_many table.ScriptHeads = length-map (heads (2 ^ bits) (λ s. s) l.scripts) _ ∙ length_heads (2 ^ bits) (λ s. s) l.scripts
  new_many table.Entries = length-map _ _ ∙ sym (length-map _ _) ∙ many table.Entries

-- ---- the files that were written, whatever their rows are

module _ (magic : List ℕ) (bits : ℕ) (pages : List ℕ) (files : Image) (may_be : MIN_HEAD_BITS ≤ bits) (at_most : bits ≤ MAX_HEAD_BITS)
    (limited : (t : Table) → count_at pages t ≤ 4294967295) (grown : AreGrown bits pages files) (written : IsMetaWritten magic bits pages files) where
  heads_limited : 2 ^ bits ≤ 1099511627776
  heads_limited = (let le : 2 ^ bits ≤ 2 ^ 24 = pow_mono at_most in omega (arith, le))

  new_limited : (t : Table) → new_count bits pages t ≤ limit_in FORMAT_2 t
  new_limited table.Blocks = limited table.Blocks
  new_limited table.Txs = (let m = limited table.Txs in omega (arith, m))
  new_limited table.TxHeads = heads_limited
  new_limited table.Outs = (let m = limited table.Outs in omega (arith, m))
  new_limited table.Ins = (let m = limited table.Ins in omega (arith, m))
  new_limited table.Scripts = (let m = limited table.Scripts in omega (arith, m))
  new_limited table.ScriptHeads = heads_limited
  new_limited table.Entries = (let m = limited table.Entries in omega (arith, m))

  holds : (t : Table) → count_at written.numbers t * size_in FORMAT_2 t ≤ length (files (file_of FORMAT_2 t))
  holds t =
      let long = grown t in
      let same : count_at written.numbers t * size_in FORMAT_2 t ≡ new_count bits pages t * size_of t = ap (λ n. n * size_in FORMAT_2 t) (written.are t) ∙ ap (λ s. new_count bits pages t * s) (sizes_2 t) in
      omega (arith, long, same)

  module _ (image : Image) (same : (f : ℕ) → 20 ≤ f → f < 30 → image f ≡ files f) where
    pub written_shows : ShowsTables FORMAT_2 (head_bytes magic bits) image (tables_in FORMAT_2 files written.numbers)
    written_shows = record {
      files = files;
      stands = stands_shut FORMAT_2 files image (record { gate = 0; rest = []; is = same 29 (omega arith) (omega arith) ∙ written.redo; closed = λ e. absurd (omega (arith, e)) })
          (λ f low lt. same f low (omega (arith, lt)));
      counts = written.numbers;
      has = record {
        rest = [];
        meta = written.meta ∙ sym (append-nil _);
        limited = λ t. omega (arith, written.are t, new_limited t);
        holds = λ t. holds t;
      };
      same = λ t. refl;
    }

    long_in : (t : Table) → length (tables_in FORMAT_2 files written.numbers t) ≡ new_count bits pages t
    long_in t = length-rows_in (size_in FORMAT_2 t) (files (file_of FORMAT_2 t)) (count_at written.numbers t) ∙ written.are t

    -- they are an index with so many buckets
    pub written_index : IsIndexWith magic bits image
    written_index = record {
      tables = tables_in FORMAT_2 files written.numbers;
      index = record { bits = bits; may_be = (may_be, at_most); shows = written_shows; heads = (long_in table.TxHeads, long_in table.ScriptHeads) };
      is = refl;
    }

-- ---- the tables that were written

rows_are : (t : Table) (file : List ℕ) (rows : List (List ℕ)) (n : ℕ) → HasOnlyRows t file rows n → length rows ≡ n → rows_in (size_in FORMAT_2 t) file n ≡ rows
rows_are t file rows n has long =
    ext_get_or [] (rows_in (size_in FORMAT_2 t) file n) rows (length-rows_in (size_in FORMAT_2 t) file n ∙ sym long)
    (λ i lt. let below : i < n = omega (arith, lt, length-rows_in (size_in FORMAT_2 t) file n) in
    get_or-rows_in (size_in FORMAT_2 t) file n i below ∙ ap (λ s. row_at s file i) (sizes_2 t) ∙ has.each i below)

module _ (magic : List ℕ) (bits : ℕ) (chain : Chain) (good : IsGood chain) (counts : HeadCounts) (pages : List ℕ) (old files : Image)
    (may_be : MIN_HEAD_BITS ≤ bits) (at_most : bits ≤ MAX_HEAD_BITS) (limited : (t : Table) → count_at pages t ≤ 4294967295)
    (had : HaveOldRows counts (listed_blocks chain) (lists chain) pages old) (have : HaveNewRows bits (listed_blocks chain) (lists chain) pages files)
    (written : IsMetaWritten magic bits pages files) where
  abbrev bs : List ListedBlock
  bs = listed_blocks chain

  abbrev l : Lists
  l = lists chain

  many : (t : Table) → length (new_rows (2 ^ bits) bs l t) ≡ new_count bits pages t
  many = new_many counts bits bs l pages (λ t. (had.rows t).many)

  few_txs : length l.txs < 2 ^ 32
  few_txs = (let n = (had.rows table.Txs).many in let m = limited table.Txs in let long = length-map (rows_from (tx_row counts.txs l.txs) 0 l.txs) (λ r. old_tx_row_bytes (tx_fields r)) ∙ length_rows (tx_row counts.txs l.txs) 0 l.txs in omega (arith, n, m, long))

  few_scripts : length l.scripts < 2 ^ 32
  few_scripts = (let n = (had.rows table.Scripts).many in let m = limited table.Scripts in let long = length-map (rows_from (script_row counts.scripts l) 0 l.scripts) (λ r. old_script_row_bytes (script_fields r)) ∙ length_rows (script_row counts.scripts l) 0 l.scripts in omega (arith, n, m, long))

  tables_are : (t : Table) → tables_in FORMAT_2 files written.numbers t ≡ new_rows (2 ^ bits) bs l t
  tables_are t =
      ap (λ n. rows_in (size_in FORMAT_2 t) (files (file_of FORMAT_2 t)) n) (written.are t)
      ∙ rows_are t (files (file_of FORMAT_2 t)) (new_rows (2 ^ bits) bs l t) (new_count bits pages t) (have t) (many t)

  -- so each image with these files, in which format 2 is live, stands for the chain
  pub written_stands : (image : Image) → ((f : ℕ) → 20 ≤ f → f < 30 → image f ≡ files f) → IsRooted image → StandsNew magic image chain
  written_stands image same rooted = record {
    rooted = rooted;
    bits = bits;
    may_be = (may_be, at_most);
    tables = tables_in FORMAT_2 files written.numbers;
    shows = written_shows magic bits pages files may_be at_most limited (λ t. sym (have t).long) written image same;
    stand = stands (2 ^ bits) (tables_in FORMAT_2 files written.numbers) chain (pow_pos bits) good (record {
      each = tables_are;
      fit = fields_fit counts (2 ^ bits) bs l few_txs few_scripts (had.rows table.Blocks).fit;
    });
  }

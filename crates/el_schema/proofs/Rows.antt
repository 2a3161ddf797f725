-- Rows of bytes that are those of tables: reading one, and changing one table.
use Rattle.std.proofs.Common.{◌≡◌, ◌≢◌, ℕ, zero, suc, ◌<◌, ◌≤◌, List, [], ◌∷◌, set, length, map, get_or, slice_get, None, Some, option_map, Result, Ok, Err, OnOk, refl, ap, sym, subst, ◌∙◌, arith}
use Rattle.std.specs.List.{AllByRecursion}
use Rattle.std.proofs.lemmas.List.{map-set, length-map}
use Rattle.el_tables.specs.Lists.{ListedOut, ListedTx}
use Rattle.el_tables.specs.Tables as typed
use Rattle.el_rows.specs.Changes.{OnTable}
use Rattle.el_row_formats.specs.Tables as held
use Rattle.el_row_formats.specs.RowBytes.{out_row_bytes, in_row_bytes, script_row_bytes, FitsOutRow, FitsInRow, FitsScriptRow}
use Rattle.el_row_formats.specs.declared.table.Table.{Table}
use Rattle.el_row_formats.specs.declared.table.Table.TheVariants as table
use Rattle.el_schema.specs.Rows.{Encode, bytes_of, out_fields, in_fields, script_fields, tx_fields}
use Rattle.el_schema.proofs.Held.{all_set, no_tx, no_tx_row}
use Rattle.el_row_formats.specs.declared.tx_row.TxRow.{TxRow}
use Rattle.el_tables.proofs.RowLists.{length_rows, rows_at}
use Rattle.el_tables.specs.Tables.{rows_from, tx_row}

-- 1. Reading

-- the row that bytes read as is that of the member
pub read_at : {X F : Type 0} (bytes : F → List ℕ) (fields : X → F) (Fits : F → Type 0) (xs : List X) (rows : List (List ℕ)) (n : ℕ) (r : F) (buf : List ℕ)
    → rows ≡ map (λ x. bytes (fields x)) xs → AllByRecursion (λ x. Fits (fields x)) xs → n < length rows → buf ≡ get_or rows n []
    → ((s : F) → Fits s → bytes s ≡ buf → s ≡ r) → Some r ≡ option_map fields (slice_get xs n)
read_at bytes fields Fits xs rows n r buf are fit lt is only =
    let f : _ → List ℕ = λ x. bytes (fields x) in
    go xs n fit (subst (λ (ls : List (List ℕ)). n < length ls) are lt) (is ∙ ap (λ (ls : List (List ℕ)). get_or ls n []) are)
  where
    go : (ys : List _) (m : ℕ) → AllByRecursion (λ x. Fits (fields x)) ys → m < length (map (λ x. bytes (fields x)) ys)
        → buf ≡ get_or (map (λ x. bytes (fields x)) ys) m [] → Some r ≡ option_map fields (slice_get ys m)
    go [] m all less same = absurd (omega arith)
    go (y ∷ ys) zero all less same = ap Some (sym (only (fields y) all.0 (sym same)))
    go (y ∷ ys) (suc m) all less same = go ys m all.1 (omega arith) same

-- what a member's row is, is what its number gives
pub found_at : {X F : Type 0} (fields : X → F) (xs : List X) (n : ℕ) (d : X) (r : F) → Some r ≡ option_map fields (slice_get xs n) → r ≡ fields (get_or xs n d)
found_at fields [] n d r e = absurd cc
found_at fields (x ∷ xs) zero d r e = cc
found_at fields (x ∷ xs) (suc n) d r e = found_at fields xs n d r e

pub found_within : {X F : Type 0} (fields : X → F) (xs : List X) (n : ℕ) (r : F) → Some r ≡ option_map fields (slice_get xs n) → n < length xs
found_within fields [] n r e = absurd cc
found_within fields (x ∷ xs) zero r e = omega arith
found_within fields (x ∷ xs) (suc n) r e = let less = found_within fields xs n r e in omega arith

-- past the end nothing is set, and nothing is there
pub set_past : {X : Type 0} (xs : List X) (n : ℕ) (x : X) → length xs ≤ n → set xs n x ≡ xs
set_past [] n x le = refl
set_past (y ∷ ys) zero x le = absurd (omega arith)
set_past (y ∷ ys) (suc n) x le = ap (λ zs. y ∷ zs) (set_past ys n x (omega arith))

pub get_past : {X : Type 0} (xs : List X) (n : ℕ) → length xs ≤ n → slice_get xs n ≡ None
get_past [] n le = refl
get_past (x ∷ xs) zero le = absurd (omega arith)
get_past (x ∷ xs) (suc n) le = get_past xs n (omega arith)

-- the row of that number is that of its transaction
pub listed_row : (c : ℕ) (ts : List ListedTx) (n : ℕ) (row : TxRow) → Some row ≡ option_map tx_fields (slice_get (rows_from (tx_row c ts) 0 ts) n)
    → row ≡ tx_fields (tx_row c ts n (get_or ts n no_tx))
listed_row c ts n row e =
    let rows = rows_from (tx_row c ts) 0 ts in
    let lt = found_within tx_fields rows n row e in
    let long = length_rows (tx_row c ts) 0 ts in
    found_at tx_fields rows n no_tx_row row e ∙ ap tx_fields (rows_at (tx_row c ts) no_tx_row no_tx 0 n n ts (omega arith) (omega arith))

pub row_within : (c : ℕ) (ts : List ListedTx) (n : ℕ) (row : TxRow) → Some row ≡ option_map tx_fields (slice_get (rows_from (tx_row c ts) 0 ts) n) → n < length ts
row_within c ts n row e =
    let lt = found_within tx_fields (rows_from (tx_row c ts) 0 ts) n row e in
    let long = length_rows (tx_row c ts) 0 ts in
    omega arith

-- 2. One table changes

module _ (old new : held.Tables) (tb : typed.Tables) (same : Encode old tb) where
  pub on_outs : (os : List ListedOut) → ((u : Table) → u ≢ table.Outs → new u ≡ old u)
      → new table.Outs ≡ map (λ x. out_row_bytes (out_fields x)) os → AllByRecursion (λ x. FitsOutRow (out_fields x)) os → Encode new (record tb { outs = os })
  on_outs os others is all = record { each = each; fit = record { blocks = same.fit.blocks; txs = same.fit.txs; tx_heads = same.fit.tx_heads; outs = all; ins = same.fit.ins; scripts = same.fit.scripts; script_heads = same.fit.script_heads; entries = same.fit.entries } }
    where
      each : (u : Table) → new u ≡ bytes_of (record tb { outs = os }) u
      each table.Blocks = others table.Blocks (λ q. cc) ∙ same.each table.Blocks
      each table.Txs = others table.Txs (λ q. cc) ∙ same.each table.Txs
      each table.TxHeads = others table.TxHeads (λ q. cc) ∙ same.each table.TxHeads
      each table.Outs = is
      each table.Ins = others table.Ins (λ q. cc) ∙ same.each table.Ins
      each table.Scripts = others table.Scripts (λ q. cc) ∙ same.each table.Scripts
      each table.ScriptHeads = others table.ScriptHeads (λ q. cc) ∙ same.each table.ScriptHeads
      each table.Entries = others table.Entries (λ q. cc) ∙ same.each table.Entries

  pub on_ins : (is_of : List ℕ) → ((u : Table) → u ≢ table.Ins → new u ≡ old u)
      → new table.Ins ≡ map (λ k. in_row_bytes (in_fields k)) is_of → AllByRecursion (λ k. FitsInRow (in_fields k)) is_of → Encode new (record tb { ins = is_of })
  on_ins is_of others is all = record { each = each; fit = record { blocks = same.fit.blocks; txs = same.fit.txs; tx_heads = same.fit.tx_heads; outs = same.fit.outs; ins = all; scripts = same.fit.scripts; script_heads = same.fit.script_heads; entries = same.fit.entries } }
    where
      each : (u : Table) → new u ≡ bytes_of (record tb { ins = is_of }) u
      each table.Blocks = others table.Blocks (λ q. cc) ∙ same.each table.Blocks
      each table.Txs = others table.Txs (λ q. cc) ∙ same.each table.Txs
      each table.TxHeads = others table.TxHeads (λ q. cc) ∙ same.each table.TxHeads
      each table.Outs = others table.Outs (λ q. cc) ∙ same.each table.Outs
      each table.Ins = is
      each table.Scripts = others table.Scripts (λ q. cc) ∙ same.each table.Scripts
      each table.ScriptHeads = others table.ScriptHeads (λ q. cc) ∙ same.each table.ScriptHeads
      each table.Entries = others table.Entries (λ q. cc) ∙ same.each table.Entries

  pub on_scripts : (ss : List typed.ScriptRow) → ((u : Table) → u ≢ table.Scripts → new u ≡ old u)
      → new table.Scripts ≡ map (λ r. script_row_bytes (script_fields r)) ss → AllByRecursion (λ r. FitsScriptRow (script_fields r)) ss → Encode new (record tb { scripts = ss })
  on_scripts ss others is all = record { each = each; fit = record { blocks = same.fit.blocks; txs = same.fit.txs; tx_heads = same.fit.tx_heads; outs = same.fit.outs; ins = same.fit.ins; scripts = all; script_heads = same.fit.script_heads; entries = same.fit.entries } }
    where
      each : (u : Table) → new u ≡ bytes_of (record tb { scripts = ss }) u
      each table.Blocks = others table.Blocks (λ q. cc) ∙ same.each table.Blocks
      each table.Txs = others table.Txs (λ q. cc) ∙ same.each table.Txs
      each table.TxHeads = others table.TxHeads (λ q. cc) ∙ same.each table.TxHeads
      each table.Outs = others table.Outs (λ q. cc) ∙ same.each table.Outs
      each table.Ins = others table.Ins (λ q. cc) ∙ same.each table.Ins
      each table.Scripts = is
      each table.ScriptHeads = others table.ScriptHeads (λ q. cc) ∙ same.each table.ScriptHeads
      each table.Entries = others table.Entries (λ q. cc) ∙ same.each table.Entries

  -- an output's state
  pub out_set : (k : ℕ) (x : ListedOut) → OnTable old new table.Outs (set (old table.Outs) k (out_row_bytes (out_fields x))) → FitsOutRow (out_fields x)
      → Encode new (record tb { outs = set tb.outs k x })
  out_set k x on fits =
      let f : ListedOut → List ℕ = λ y. out_row_bytes (out_fields y) in
      on_outs (set tb.outs k x) on.others (on.here ∙ ap (λ (rows : List (List ℕ)). set rows k (f x)) (same.each table.Outs) ∙ sym (map-set f tb.outs k x))
      (all_set (λ y. FitsOutRow (out_fields y)) tb.outs k x same.fit.outs fits)

  -- a script's row
  pub script_set : (n : ℕ) (x : typed.ScriptRow) → OnTable old new table.Scripts (set (old table.Scripts) n (script_row_bytes (script_fields x))) → FitsScriptRow (script_fields x)
      → Encode new (record tb { scripts = set tb.scripts n x })
  script_set n x on fits =
      let f : typed.ScriptRow → List ℕ = λ y. script_row_bytes (script_fields y) in
      on_scripts (set tb.scripts n x) on.others (on.here ∙ ap (λ (rows : List (List ℕ)). set rows n (f x)) (same.each table.Scripts) ∙ sym (map-set f tb.scripts n x))
      (all_set (λ y. FitsScriptRow (script_fields y)) tb.scripts n x same.fit.scripts fits)

  -- how many rows there are
  pub count_outs : length (old table.Outs) ≡ length tb.outs
  count_outs = ap length (same.each table.Outs) ∙ length-map tb.outs (λ y. out_row_bytes (out_fields y))

  pub count_ins : length (old table.Ins) ≡ length tb.ins
  count_ins = ap length (same.each table.Ins) ∙ length-map tb.ins (λ y. in_row_bytes (in_fields y))

  pub count_scripts : length (old table.Scripts) ≡ length tb.scripts
  count_scripts = ap length (same.each table.Scripts) ∙ length-map tb.scripts (λ y. script_row_bytes (script_fields y))

-- 3. Values

-- what follows where a call succeeded
pub on_success : {T E : Type 0} (P Q : Type 0) (r : Result T E) → OnOk r P → (P → Q) → OnOk r Q
on_success P Q (Ok x) p follows = follows p
on_success P Q (Err e) p follows = tt

-- Rows of bytes under one entry more or less, and under one script more or less.
use Rattle.std.proofs.Common.{◌≡◌, inl, inr, ℕ, zero, suc, ◌+◌, ◌-◌, ◌<◌, ◌≤◌, ◌^◌, ◌==◌, Bool, true, false, List, [], ◌∷◌, ◌++◌, length, map, set, take, get_or, min, filter, Option, None, Some, refl, ap, ap₂, sym, subst, ◌∙◌, arith}
use Rattle.std.specs.List.{AllByRecursion}
use Rattle.std.proofs.lemmas.Bool.{cases_lt, cases_eq}
use Rattle.std.proofs.lemmas.List.{length-map, map-append, map-set, take-map, get_or-map, length-take-le}
use Rattle.el_base.specs.declared.hash.Hash32.{Hash32}
use Rattle.el_chain.specs.Chains.{zero_hash}
use Rattle.el_chain.specs.RowCounts.{is_script_among}
use Rattle.el_tables.specs.ChainLists.{ListedBlock}
use Rattle.el_tables.specs.Disconnecting.{but_last, last, take_back_entry, without_entry}
use Rattle.el_tables.specs.Fits.{Fits, IsNumbered}
use Rattle.el_tables.specs.Lists.{ListedEntry, Lists, add_entry, script_number, is_of_script, is_tx, last_tx_of}
use Rattle.el_tables.specs.Tables as typed
use Rattle.el_tables.specs.Tables.{HeadCounts, tables_of, bucket_in, greatest, heads, script_row, entry_row}
use Rattle.el_tables.specs.Edits as edit
use Rattle.el_tables.proofs.FitLemmas.{touch_new_fits, take_back_entry_fits}
use Rattle.el_tables.proofs.RowLists.{head_is, length_rows, rows_at}
use Rattle.el_tables.proofs.ScriptEdits.{touch_known_rows, last_entry_is}
use Rattle.el_tables.proofs.Scripts.{number_within}
use Rattle.el_row_formats.specs.Tables as held
use Rattle.el_row_formats.specs.declared.table.Table.{Table}
use Rattle.el_row_formats.specs.declared.table.Table.TheVariants as table
use Rattle.el_row_formats.specs.declared.script_row.ScriptRow.{ScriptRow}
use Rattle.el_row_formats.specs.declared.entry_row.EntryRow.{EntryRow}
use Rattle.el_row_formats.specs.declared.limits.TheConstants.{MAX_NUMBER}
use Rattle.el_row_formats.specs.RowBytes.{number_limit, script_row_bytes, head_row_bytes, entry_row_bytes, link_bytes, link_number, FitsScriptRow, FitsHeadRow, FitsEntryRow}
use Rattle.el_schema.specs.Rows.{Hold, Encode, bytes_of, script_fields, head_fields, entry_fields}
use Rattle.el_buckets.specs.Buckets.{Popped, bucket_head, below}
use Rattle.el_buckets.specs.declared.bucket.Buckets.TheVariants as buckets
use Rattle.el_schema.proofs.Held.{all_more, all_set, all_at, all_but_last, but_last_at, last_at}
use Rattle.el_buckets.proofs.Heads.{below_all}
use Rattle.el_script.specs.within.RowSteps.{first_row, entered_row, left_row, new_entry, ScriptMore, EntryMore, ThreeStay}

-- what stands for an entry that isn't there
pub no_entry : ListedEntry
no_entry = record { tx = 0; script = 0 }

pub no_entry_row : typed.EntryRow
no_entry_row = record { listed = no_entry; before = None }

-- 1. Rows of bytes

abbrev script_bytes : typed.ScriptRow → List ℕ
script_bytes r = script_row_bytes (script_fields r)

abbrev head_bytes : Option ℕ → List ℕ
head_bytes o = head_row_bytes (head_fields o)

abbrev entry_bytes : typed.EntryRow → List ℕ
entry_bytes e = entry_row_bytes (entry_fields e)

abbrev AllScripts : List typed.ScriptRow → Type 0
AllScripts rs = AllByRecursion (λ r. FitsScriptRow (script_fields r)) rs

abbrev AllHeads : List (Option ℕ) → Type 0
AllHeads os = AllByRecursion (λ o. FitsHeadRow (head_fields o)) os

abbrev AllEntries : List typed.EntryRow → Type 0
AllEntries es = AllByRecursion (λ e. FitsEntryRow (entry_fields e)) es

-- no more entries pass a test than there are
filter_few : {X : Type 0} (test : X → Bool) (xs : List X) → length (filter test xs) ≤ length xs
filter_few test [] = omega arith
filter_few test (x ∷ xs) = let rest = filter_few test xs in by (test x) rest
  where
    by : (b : Bool) → length (filter test xs) ≤ length xs → length (Rattle.std.proofs.Common.cond b (x ∷ filter test xs) (filter test xs)) ≤ length (x ∷ xs)
    by true rest = omega arith
    by false rest = omega arith

-- the number of members of a table of rows is that of its bytes
rows_long : {X : Type 0} (f : X → List ℕ) (xs : List X) (rows : List (List ℕ)) → rows ≡ map f xs → length rows ≡ length xs
rows_long f xs rows is = ap length is ∙ length-map xs f

-- a row more, another row, and the first rows
bytes_more : {X : Type 0} (f : X → List ℕ) (xs : List X) (x : X) (rows more : List (List ℕ)) (row : List ℕ) → rows ≡ map f xs → row ≡ f x → more ≡ rows ++ row ∷ [] → more ≡ map f (xs ++ x ∷ [])
bytes_more f xs x rows more row is row_is more_is = more_is ∙ ap₂ (λ (a : List (List ℕ)) (b : List ℕ). a ++ b ∷ []) is row_is ∙ sym (map-append f xs (x ∷ []))

bytes_set : {X : Type 0} (f : X → List ℕ) (xs : List X) (n : ℕ) (x : X) (rows new : List (List ℕ)) (row : List ℕ) → rows ≡ map f xs → row ≡ f x → new ≡ set rows n row → new ≡ map f (set xs n x)
bytes_set f xs n x rows new row is row_is new_is = new_is ∙ ap₂ (λ (a : List (List ℕ)) (b : List ℕ). set a n b) is row_is ∙ sym (map-set f xs n x)

bytes_less : {X : Type 0} (f : X → List ℕ) (xs : List X) (n : ℕ) (rows new : List (List ℕ)) → rows ≡ map f xs → length xs ≡ n + 1 → new ≡ take n rows → new ≡ map f (but_last xs)
bytes_less f xs n rows new is long new_is = new_is ∙ ap (take n) is ∙ take-map f n xs ∙ ap (map f) (sym (but_last_at xs n long))

-- the row that bytes read as
row_read : {X Y : Type 0} (f : Y → List ℕ) (g : X → Y) (P : Y → Type 0) (xs : List X) (n : ℕ) (d : X) (rows : List (List ℕ)) (r : Y) → rows ≡ map (λ x. f (g x)) xs → n < length xs
    → AllByRecursion (λ x. P (g x)) xs → ((s : Y) → P s → f s ≡ get_or rows n [] → s ≡ r) → g (get_or xs n d) ≡ r
row_read f g P xs n d rows r is lt fit only =
    only (g (get_or xs n d)) (all_at (λ x. P (g x)) xs n d fit lt)
    (sym (ap (λ (b : List (List ℕ)). get_or b n []) is ∙ get_or-map (λ x. f (g x)) xs n d [] lt))

-- a row that isn't there stays away
set_beyond : {X : Type 0} (xs : List X) (n : ℕ) (x : X) → length xs ≤ n → set xs n x ≡ xs
set_beyond [] n x le = refl
set_beyond (y ∷ ys) zero x le = absurd (omega arith)
set_beyond (y ∷ ys) (suc n) x le = ap (λ l. y ∷ l) (set_beyond ys n x (omega arith))

-- of none there is no last
last_none : {X : Type 0} (xs : List X) → length xs ≡ 0 → last xs ≡ None
last_none [] none = refl
last_none (x ∷ xs) none = absurd (omega arith)

-- the bytes of one row
row_bytes : {X : Type 0} (f : X → List ℕ) (xs : List X) (n : ℕ) (d : X) (rows : List (List ℕ)) → rows ≡ map f xs → n < length xs → f (get_or xs n d) ≡ get_or rows n []
row_bytes f xs n d rows is lt = sym (ap (λ (b : List (List ℕ)). get_or b n []) is ∙ get_or-map f xs n d [] lt)

module _ (counts : HeadCounts) (bs : List ListedBlock) (l : Lists) (old : held.Tables) (hold : Hold counts bs l old) where
  abbrev T : typed.Tables
  T = tables_of counts bs l

  -- 2. What the rows of lists tell

  pub long_scripts : length (old table.Scripts) ≡ length T.scripts
  long_scripts = rows_long script_bytes T.scripts (old table.Scripts) (hold.each table.Scripts)

  pub long_entries : length (old table.Entries) ≡ length T.entries
  long_entries = rows_long entry_bytes T.entries (old table.Entries) (hold.each table.Entries)

  pub many_scripts : length (old table.Scripts) ≡ length l.scripts
  many_scripts = long_scripts ∙ length_rows (script_row counts.scripts l) 0 l.scripts

  pub many_entries : length (old table.Entries) ≡ length l.entries
  many_entries = long_entries ∙ length_rows (entry_row l.entries) 0 l.entries

  pub script_read : (n : ℕ) (r : ScriptRow) → n < length (old table.Scripts)
      → ((s : ScriptRow) → FitsScriptRow s → script_row_bytes s ≡ get_or (old table.Scripts) n [] → s ≡ r) → script_fields (edit.row_of n T) ≡ r
  script_read n r lt only = let few : n < length T.scripts = (let long = long_scripts in omega arith) in
      row_read script_row_bytes script_fields FitsScriptRow T.scripts n edit.no_row (old table.Scripts) r (hold.each table.Scripts) few hold.fit.scripts only

  pub entry_read : (n : ℕ) (r : EntryRow) → n < length (old table.Entries)
      → ((s : EntryRow) → FitsEntryRow s → entry_row_bytes s ≡ get_or (old table.Entries) n [] → s ≡ r) → entry_fields (get_or T.entries n no_entry_row) ≡ r
  entry_read n r lt only = let few : n < length T.entries = (let long = long_entries in omega arith) in
      row_read entry_row_bytes entry_fields FitsEntryRow T.entries n no_entry_row (old table.Entries) r (hold.each table.Entries) few hold.fit.entries only

  -- the row of a script is that of its list
  pub row_is : (n : ℕ) → n < length l.scripts → edit.row_of n T ≡ script_row counts.scripts l n (get_or l.scripts n zero_hash)
  row_is n lt = rows_at (script_row counts.scripts l) edit.no_row zero_hash 0 n n l.scripts (omega arith) lt

  -- its last entry is there
  pub last_below : (n k : ℕ) → n < length l.scripts → k ≡ length (old table.Entries) → below k (edit.row_of n T).last ≡ greatest (is_of_script n) l.entries
  last_below n k lt at =
      ap (λ (r : typed.ScriptRow). below k r.last) (row_is n lt) ∙ below_all (is_of_script n) no_entry l.entries k (sym (at ∙ many_entries))

  -- the row before it in its bucket is there
  next_below : (n : ℕ) → n < length T.scripts → below n (edit.row_of n T).next ≡ (edit.row_of n T).next
  next_below n lt =
      let many = length_rows (script_row counts.scripts l) 0 l.scripts in
      let s = get_or l.scripts n zero_hash in
      let next_is : (edit.row_of n T).next ≡ bucket_head counts.scripts s (take n l.scripts) = ap (λ (r : typed.ScriptRow). r.next) (row_is n (omega arith)) in
      ap (below n) next_is
      ∙ below_all (λ (x : Hash32). bucket_in counts.scripts x == bucket_in counts.scripts s) zero_hash (take n l.scripts) n (length-take-le n l.scripts (omega arith))
      ∙ sym next_is

  -- so is the entry before it
  before_below : (n : ℕ) → n < length T.entries → below n (get_or T.entries n no_entry_row).before ≡ (get_or T.entries n no_entry_row).before
  before_below n lt =
      let many = length_rows (entry_row l.entries) 0 l.entries in
      let e = get_or l.entries n no_entry in
      let before_is : (get_or T.entries n no_entry_row).before ≡ greatest (is_of_script e.script) (take n l.entries) =
      ap (λ (r : typed.EntryRow). r.before) (rows_at (entry_row l.entries) no_entry_row no_entry 0 n n l.entries (omega arith) (omega arith)) in
      ap (below n) before_is ∙ below_all (is_of_script e.script) no_entry (take n l.entries) n (length-take-le n l.entries (omega arith)) ∙ sym before_is

  -- the transaction of an entry
  pub entry_tx : (n : ℕ) (d : ListedEntry) (r : EntryRow) → n < length (old table.Entries)
      → ((s : EntryRow) → FitsEntryRow s → entry_row_bytes s ≡ get_or (old table.Entries) n [] → s ≡ r) → r.tx ≡ (get_or l.entries n d).tx
  entry_tx n d r lt only =
      let few : n < length l.entries = (let many = many_entries in omega arith) in
      ap (λ (e : EntryRow). e.tx) (sym (entry_read n r lt only))
      ∙ ap (λ (e : typed.EntryRow). e.listed.tx) (rows_at (entry_row l.entries) no_entry_row d 0 n n l.entries (omega arith) few)

  -- the link that a script's row names, and whether that entry is of the transaction
  pub last_found : (n k : ℕ) (row : ScriptRow) (link : Option ℕ) → n < length (old table.Scripts)
      → ((s : ScriptRow) → FitsScriptRow s → script_row_bytes s ≡ get_or (old table.Scripts) n [] → s ≡ row)
      → k ≡ length (old table.Entries) → link ≡ below k row.last → link ≡ greatest (is_of_script n) l.entries
  last_found n k row link lt only at link_is =
      link_is ∙ ap (λ (r : ScriptRow). below k r.last) (sym (script_read n row lt only)) ∙ last_below n k (let many = many_scripts in omega arith) at

  pub tx_found : (n tx k : ℕ) (row : ScriptRow) (link : Option ℕ) (b : Bool) → n < length (old table.Scripts)
      → ((s : ScriptRow) → FitsScriptRow s → script_row_bytes s ≡ get_or (old table.Scripts) n [] → s ≡ row)
      → k ≡ length (old table.Entries) → link ≡ below k row.last → b ≡ is_tx tx (edit.tx_of_last no_entry l.entries link) → b ≡ is_tx tx (last_tx_of n l.entries)
  tx_found n tx k row link b lt only at link_is is =
      is ∙ ap (λ (o : Option ℕ). is_tx tx (edit.tx_of_last no_entry l.entries o)) (last_found n k row link lt only at link_is) ∙ ap (is_tx tx) (sym (last_entry_is no_entry n l.entries))

  module _ (new : held.Tables) (others : ThreeStay old new) where
    -- 3. Rows after a step

    each_row : (ss : List typed.ScriptRow) (hs : List (Option ℕ)) (es : List typed.EntryRow)
        → new table.Scripts ≡ map script_bytes ss → new table.ScriptHeads ≡ map head_bytes hs → new table.Entries ≡ map entry_bytes es
        → (u : Table) → new u ≡ bytes_of (record T { scripts = ss; script_heads = hs; entries = es }) u
    each_row ss hs es a b c table.Blocks = others table.Blocks (λ q. cc) (λ q. cc) (λ q. cc) ∙ hold.each table.Blocks
    each_row ss hs es a b c table.Txs = others table.Txs (λ q. cc) (λ q. cc) (λ q. cc) ∙ hold.each table.Txs
    each_row ss hs es a b c table.TxHeads = others table.TxHeads (λ q. cc) (λ q. cc) (λ q. cc) ∙ hold.each table.TxHeads
    each_row ss hs es a b c table.Outs = others table.Outs (λ q. cc) (λ q. cc) (λ q. cc) ∙ hold.each table.Outs
    each_row ss hs es a b c table.Ins = others table.Ins (λ q. cc) (λ q. cc) (λ q. cc) ∙ hold.each table.Ins
    each_row ss hs es a b c table.Scripts = a
    each_row ss hs es a b c table.ScriptHeads = b
    each_row ss hs es a b c table.Entries = c

    made : (m : Lists) (ss : List typed.ScriptRow) (hs : List (Option ℕ)) (es : List typed.EntryRow)
        → tables_of counts bs m ≡ record T { scripts = ss; script_heads = hs; entries = es }
        → new table.Scripts ≡ map script_bytes ss → new table.ScriptHeads ≡ map head_bytes hs → new table.Entries ≡ map entry_bytes es
        → AllScripts ss → AllHeads hs → AllEntries es → Hold counts bs m new
    made m ss hs es is a b c fs fh fe = subst (Encode new) (sym is) (record {
      each = each_row ss hs es a b c;
      fit = record {
        blocks = hold.fit.blocks;
        txs = hold.fit.txs;
        tx_heads = hold.fit.tx_heads;
        outs = hold.fit.outs;
        ins = hold.fit.ins;
        scripts = fs;
        script_heads = fh;
        entries = fe;
      };
    })

    heads_set : (s : Hash32) (link : Option ℕ) → new table.ScriptHeads ≡ set (old table.ScriptHeads) (bucket_in (length (old table.ScriptHeads)) s) (link_bytes link)
        → new table.ScriptHeads ≡ map head_bytes (edit.set_head s link T.script_heads)
    heads_set s link is =
        let long = rows_long head_bytes T.script_heads (old table.ScriptHeads) (hold.each table.ScriptHeads) in
        bytes_set head_bytes T.script_heads (bucket_in (length T.script_heads) s) link (old table.ScriptHeads) (new table.ScriptHeads) (link_bytes link) (hold.each table.ScriptHeads) refl
        (is ∙ ap (λ (n : ℕ). set (old table.ScriptHeads) (bucket_in n s) (link_bytes link)) long)

    -- a script more
    pub script_grows : (s : Hash32) (next : Option ℕ) (tx : ℕ) → Fits l → 0 < counts.scripts → is_script_among s l.scripts ≡ false
        → ScriptMore s next tx old new → next ≡ bucket_head counts.scripts s l.scripts → Hold counts bs (add_entry s tx l) new
    script_grows s next tx fits some fresh more next_is =
        let head : next ≡ edit.head_of s T.script_heads = next_is ∙ sym (head_is counts.scripts (λ (h : Hash32). h) l.scripts s some) in
        let row : typed.ScriptRow = record { script = s; next = edit.head_of s T.script_heads; last = Some (length T.entries); entries = 1; balance = 0 } in
        let entry : typed.EntryRow = record { listed = record { tx = tx; script = length T.scripts }; before = None } in
        let row_same : first_row s next (length (old table.Entries)) ≡ script_fields row = ap₂ (λ (o : Option ℕ) (n : ℕ). first_row s o n) head long_entries in
        let entry_same : new_entry tx (length (old table.Scripts)) None ≡ entry_fields entry = ap (λ (n : ℕ). new_entry tx n None) long_scripts in
        let link : link_number (Some (length T.scripts)) < number_limit = (let few = more.few_scripts in let long = long_scripts in omega arith) in
        made (add_entry s tx l) (T.scripts ++ row ∷ []) (edit.set_head s (Some (length T.scripts)) T.script_heads) (T.entries ++ entry ∷ [])
        (touch_new_fits counts bs l s tx fits some fresh)
        (bytes_more script_bytes T.scripts row (old table.Scripts) (new table.Scripts) _ (hold.each table.Scripts) (ap script_row_bytes row_same) more.scripts)
        (heads_set s (Some (length T.scripts)) (more.heads ∙ ap (λ (n : ℕ). set (old table.ScriptHeads) (bucket_in (length (old table.ScriptHeads)) s) (link_bytes (Some n))) long_scripts))
        (bytes_more entry_bytes T.entries entry (old table.Entries) (new table.Entries) _ (hold.each table.Entries) (ap entry_row_bytes entry_same) more.entries)
        (all_more (λ r. FitsScriptRow (script_fields r)) T.scripts row hold.fit.scripts (subst FitsScriptRow row_same more.script_fits))
        (all_set (λ o. FitsHeadRow (head_fields o)) T.script_heads _ (Some (length T.scripts)) hold.fit.script_heads (record { head = link }))
        (all_more (λ e. FitsEntryRow (entry_fields e)) T.entries entry hold.fit.entries (subst FitsEntryRow entry_same more.entry_fits))

    -- an entry more of a script that is there
    pub entry_grows : (s : Hash32) (n : ℕ) (row : ScriptRow) (before : Option ℕ) (tx : ℕ) → is_script_among s l.scripts ≡ true → n ≡ script_number s l.scripts
        → is_tx tx (last_tx_of n l.entries) ≡ false → ((q : ScriptRow) → FitsScriptRow q → script_row_bytes q ≡ get_or (old table.Scripts) n [] → q ≡ row)
        → before ≡ greatest (is_of_script n) l.entries → EntryMore n row before tx old new → Hold counts bs (add_entry s tx l) new
    entry_grows s n row before tx known n_is fresh only before_is more =
        let lt : n < length l.scripts = subst (λ (k : ℕ). k < length l.scripts) (sym n_is) (number_within s l.scripts known) in
        let lt_rows : n < length (old table.Scripts) = (let many = many_scripts in omega arith) in
        let lt_typed : n < length T.scripts = (let long = long_scripts in omega arith) in
        let r = edit.row_of n T in
        let at = length T.entries in
        let few = more.few_entries in
        let r_fits = all_at (λ x. FitsScriptRow (script_fields x)) T.scripts n edit.no_row hold.fit.scripts lt_typed in
        let count : r.entries ≤ length l.entries =
        subst (λ (k : ℕ). k ≤ length l.entries) (ap (λ (x : typed.ScriptRow). x.entries) (sym (row_is n lt))) (filter_few (is_of_script n) l.entries) in
        let many = many_entries in
        let long = long_entries in
        let counted : min (r.entries + 1) MAX_NUMBER ≡ r.entries + 1 = omega arith in
        let row_same : entered_row (length (old table.Entries)) row ≡ script_fields (edit.entered at r) =
        ap (entered_row (length (old table.Entries))) (sym (script_read n row lt_rows only))
        ∙ ap₂ (λ (a k : ℕ). record (script_fields r) { last = Some a; entries = k }) long_entries counted in
        let entry : typed.EntryRow = record { listed = record { tx = tx; script = n }; before = r.last } in
        let entry_same : new_entry tx n before ≡ entry_fields entry = ap (new_entry tx n) (before_is ∙ ap (λ (x : typed.ScriptRow). x.last) (sym (row_is n lt))) in
        let row_fits : FitsScriptRow (script_fields (edit.entered at r)) = record {
          script = r_fits.script;
          next = r_fits.next;
          last = omega arith;
          entries = omega arith;
          balance = r_fits.balance;
        } in
        made (add_entry s tx l) (set T.scripts n (edit.entered at r)) T.script_heads (T.entries ++ entry ∷ [])
        (touch_known_rows counts bs l s tx known (ap (λ (k : ℕ). is_tx tx (last_tx_of k l.entries)) (sym n_is) ∙ fresh) ∙ ap (λ (k : ℕ). edit.entry_added k tx T) (sym n_is))
        (bytes_set script_bytes T.scripts n (edit.entered at r) (old table.Scripts) (new table.Scripts) _ (hold.each table.Scripts) (ap script_row_bytes row_same) more.scripts)
        (more.heads ∙ hold.each table.ScriptHeads)
        (bytes_more entry_bytes T.entries entry (old table.Entries) (new table.Entries) _ (hold.each table.Entries) (ap entry_row_bytes entry_same) more.entries)
        (all_set (λ x. FitsScriptRow (script_fields x)) T.scripts n (edit.entered at r) hold.fit.scripts row_fits)
        hold.fit.script_heads
        (all_more (λ e. FitsEntryRow (entry_fields e)) T.entries entry hold.fit.entries (subst FitsEntryRow entry_same more.entry_fits))

    -- the last entry goes, and its script has one less
    pub entry_shrinks : (n : ℕ) (e : EntryRow) (k : ℕ) → length (old table.Entries) ≡ n + 1
        → ((q : EntryRow) → FitsEntryRow q → entry_row_bytes q ≡ get_or (old table.Entries) n [] → q ≡ e) → below n e.before ≡ Some k
        → (e.script < length (old table.Scripts) → (r : ScriptRow) → FitsScriptRow r → script_row_bytes r ≡ get_or (old table.Scripts) e.script []
        → new table.Scripts ≡ set (old table.Scripts) e.script (script_row_bytes (left_row k r)))
        → (length (old table.Scripts) ≤ e.script → new table.Scripts ≡ old table.Scripts)
        → new table.ScriptHeads ≡ old table.ScriptHeads → new table.Entries ≡ take n (old table.Entries)
        → IsNumbered l.scripts l.entries → Hold counts bs (take_back_entry l) new
    entry_shrinks n e k long only before_is there away heads_is entries_is numbered =
        let typed_long : length T.entries ≡ n + 1 = (let same = long_entries in omega arith) in
        let er = get_or T.entries n no_entry_row in
        let m = er.listed.script in
        let e_is : entry_fields er ≡ e = entry_read n e (omega arith) only in
        let script_is : m ≡ e.script = ap (λ (x : EntryRow). x.script) e_is in
        let link : er.before ≡ Some k = sym (before_below n (omega arith)) ∙ ap (λ (x : EntryRow). below n x.before) e_is ∙ before_is in
        let fits = all_at (λ x. FitsEntryRow (entry_fields x)) T.entries n no_entry_row hold.fit.entries (omega arith) in
        let r = edit.row_of m T in
        let is : tables_of counts bs (take_back_entry l) ≡ edit.entry_left er T =
        take_back_entry_fits counts bs l numbered ∙ ap (λ (o : Option typed.EntryRow). edit.entry_dropped o T) (last_at T.entries n no_entry_row typed_long)
        ∙ ap (λ (o : Option ℕ). edit.entry_by o er T) link in
        let entries = bytes_less entry_bytes T.entries n (old table.Entries) (new table.Entries) (hold.each table.Entries) typed_long entries_is in
        let entries_fit = all_but_last (λ x. FitsEntryRow (entry_fields x)) T.entries hold.fit.entries in
        elim (cases_lt m (length T.scripts)) [
          | inl lt ↦
              let r_fits = all_at (λ x. FitsScriptRow (script_fields x)) T.scripts m edit.no_row hold.fit.scripts lt in
              let bytes = row_bytes script_bytes T.scripts m edit.no_row (old table.Scripts) (hold.each table.Scripts) lt in
              let same_long = long_scripts in
              let scripts_is = there (omega arith) (script_fields r) r_fits (bytes ∙ ap (λ (i : ℕ). get_or (old table.Scripts) i []) script_is) in
              let row_same : left_row k (script_fields r) ≡ script_fields (edit.left er.before r) = ap (λ (o : Option ℕ). record (script_fields r) { last = o; entries = r.entries - 1 }) (sym link) in
              let left_fits : FitsScriptRow (script_fields (edit.left er.before r)) = record {
                script = r_fits.script;
                next = r_fits.next;
                last = fits.before;
                entries = (let few = r_fits.entries in omega arith);
                balance = r_fits.balance;
              } in
              made (take_back_entry l) (set T.scripts m (edit.left er.before r)) T.script_heads (but_last T.entries) is
              (bytes_set script_bytes T.scripts m (edit.left er.before r) (old table.Scripts) (new table.Scripts) _ (hold.each table.Scripts) (ap script_row_bytes row_same)
              (scripts_is ∙ ap (λ (i : ℕ). set (old table.Scripts) i (script_row_bytes (left_row k (script_fields r)))) (sym script_is)))
              (heads_is ∙ hold.each table.ScriptHeads) entries
              (all_set (λ x. FitsScriptRow (script_fields x)) T.scripts m (edit.left er.before r) hold.fit.scripts left_fits)
              hold.fit.script_heads entries_fit
          | inr le ↦
              let same_long = long_scripts in
              made (take_back_entry l) T.scripts T.script_heads (but_last T.entries)
              (is ∙ ap (λ (ss : List typed.ScriptRow). record T { scripts = ss; entries = but_last T.entries }) (set_beyond T.scripts m (edit.left er.before r) le))
              (away (omega arith) ∙ hold.each table.Scripts)
              (heads_is ∙ hold.each table.ScriptHeads) entries hold.fit.scripts hold.fit.script_heads entries_fit
        ]

    -- the last entry goes, and its script with it
    pub script_shrinks : (n : ℕ) (e : EntryRow) (mid : held.Tables) → length (old table.Entries) ≡ n + 1
        → ((q : EntryRow) → FitsEntryRow q → entry_row_bytes q ≡ get_or (old table.Entries) n [] → q ≡ e) → below n e.before ≡ None
        → ((m : ℕ) (r : ScriptRow) → length (old table.Scripts) ≡ m + 1 → FitsScriptRow r → script_row_bytes r ≡ get_or (old table.Scripts) m []
        → Popped buckets.ScriptHashes r.script m (below m r.next) old mid)
        → (length (old table.Scripts) ≡ 0 → mid ≡ old)
        → new table.Scripts ≡ mid table.Scripts → new table.ScriptHeads ≡ mid table.ScriptHeads → new table.Entries ≡ take n (old table.Entries)
        → IsNumbered l.scripts l.entries → Hold counts bs (take_back_entry l) new
    script_shrinks n e mid long only before_is popped none scripts_is heads_is entries_is numbered =
        let typed_long : length T.entries ≡ n + 1 = (let same = long_entries in omega arith) in
        let er = get_or T.entries n no_entry_row in
        let e_is : entry_fields er ≡ e = entry_read n e (omega arith) only in
        let link : er.before ≡ None = sym (before_below n (omega arith)) ∙ ap (λ (x : EntryRow). below n x.before) e_is ∙ before_is in
        let is : tables_of counts bs (take_back_entry l) ≡ edit.script_dropped (last T.scripts) T =
        take_back_entry_fits counts bs l numbered ∙ ap (λ (o : Option typed.EntryRow). edit.entry_dropped o T) (last_at T.entries n no_entry_row typed_long)
        ∙ ap (λ (o : Option ℕ). edit.entry_by o er T) link in
        let entries = bytes_less entry_bytes T.entries n (old table.Entries) (new table.Entries) (hold.each table.Entries) typed_long entries_is in
        let entries_fit = all_but_last (λ x. FitsEntryRow (entry_fields x)) T.entries hold.fit.entries in
        let same_long = long_scripts in
        elim (cases_eq (length T.scripts) 0) [
          | inl z ↦
              let same = none (omega arith) in
              made (take_back_entry l) T.scripts T.script_heads (but_last T.entries)
              (is ∙ ap (λ (o : Option typed.ScriptRow). edit.script_dropped o T) (last_none T.scripts z))
              (scripts_is ∙ ap (λ (t : held.Tables). t table.Scripts) same ∙ hold.each table.Scripts)
              (heads_is ∙ ap (λ (t : held.Tables). t table.ScriptHeads) same ∙ hold.each table.ScriptHeads)
              entries hold.fit.scripts hold.fit.script_heads entries_fit
          | inr some ↦
              let m = length T.scripts - 1 in
              let at : length T.scripts ≡ m + 1 = omega arith in
              let r = edit.row_of m T in
              let r_fits = all_at (λ x. FitsScriptRow (script_fields x)) T.scripts m edit.no_row hold.fit.scripts (omega arith) in
              let bytes = row_bytes script_bytes T.scripts m edit.no_row (old table.Scripts) (hold.each table.Scripts) (omega arith) in
              let pop = popped m (script_fields r) (omega arith) r_fits bytes in
              let next_is : below m r.next ≡ r.next = next_below m (omega arith) in
              made (take_back_entry l) (but_last T.scripts) (edit.set_head r.script r.next T.script_heads) (but_last T.entries)
              (is ∙ ap (λ (o : Option typed.ScriptRow). edit.script_dropped o T) (last_at T.scripts m edit.no_row at))
              (bytes_less script_bytes T.scripts m (old table.Scripts) (new table.Scripts) (hold.each table.Scripts) at (scripts_is ∙ pop.rows))
              (heads_set r.script r.next (heads_is ∙ pop.heads ∙ ap (λ (o : Option ℕ). set (old table.ScriptHeads) (bucket_in (length (old table.ScriptHeads)) r.script) (link_bytes o)) next_is))
              entries
              (all_but_last (λ x. FitsScriptRow (script_fields x)) T.scripts hold.fit.scripts)
              (all_set (λ o. FitsHeadRow (head_fields o)) T.script_heads _ r.next hold.fit.script_heads (record { head = r_fits.next }))
              entries_fit
        ]

-- of no entries none is less
pub none_shrinks : (l : Lists) → length l.entries ≡ 0 → take_back_entry l ≡ l
none_shrinks l none = ap (λ (o : Option ListedEntry). without_entry o l) (last_none l.entries none)

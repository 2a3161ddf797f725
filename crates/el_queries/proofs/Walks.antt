-- Walks over rows: along the last entries, and along numbers; and what single rows tell.
use Rattle.std.proofs.Common.{◌≡◌, ◌⊎◌, inl, inr, ℕ, zero, suc, ◌+◌, ◌-◌, ◌<◌, ◌≤◌, Bool, true, false, ◌&&◌, ◌||◌, List, [], ◌∷◌, ◌++◌, length, take, get_or, slice_get, map, not, cond, min, is_some, Option, None, Some, option_map, option_and_then, refl, ap, ap₂, sym, subst, ◌∙◌, arith, eq-eqb, ne_eqb, ◌==◌}
use Rattle.std.proofs.lemmas.Bool.{cases_lt}
use Rattle.std.specs.List.{list_any, AllByRecursion}
use Rattle.std.specs.Option.{option_map_or, option_or}
use Rattle.el_base.specs.declared.hash.Hash32.{Hash32}
use Rattle.el_chain.specs.Chains.{zero_hash}
use Rattle.el_chain.specs.Headers.{same_hash}
use Rattle.el_tx.specs.declared.types.Outpoint.{Outpoint}
use Rattle.el_tables.specs.ChainLists.{ListedBlock}
use Rattle.el_tables.specs.Disconnecting.{last, is_buried_by}
use Rattle.el_tables.specs.Lists.{ListedTx, ListedOut, ListedEntry, Lists, State, has_output, output_number}
use Rattle.el_tables.specs.Lists.State.{Unspent, Spent, Buried}
use Rattle.el_tables.specs.Queries.{outs_at}
use Rattle.el_tables.specs.Tables.{rows_from, script_row, entry_row, tx_row, numbers_from, greatest}
use Rattle.el_tables.proofs.Found.{none_named}
use Rattle.el_tables.proofs.TxEdits.{newest_is}
use Rattle.el_row_formats.specs.Tables as held
use Rattle.el_row_formats.specs.declared.table.Table.TheVariants as table
use Rattle.el_row_formats.specs.declared.block_row.BlockRow.{BlockRow}
use Rattle.el_row_formats.specs.declared.tx_row.TxRow.{TxRow}
use Rattle.el_row_formats.specs.declared.script_row.ScriptRow.{ScriptRow}
use Rattle.el_row_formats.specs.declared.entry_row.EntryRow.{EntryRow}
use Rattle.el_row_formats.specs.declared.out_row.OutRow.{OutRow}
use Rattle.el_row_formats.specs.declared.out_row.State.TheVariants as out
use Rattle.el_schema.specs.Rows.{block_fields, tx_fields, script_fields, entry_fields, out_fields, state_fields}
use Rattle.el_schema.proofs.Rows.{get_past}
use Rattle.el_spend.specs.Outputs.{output_numbered}
use Rattle.el_spend.specs.declared.lookup.NamedOutput.{NamedOutput}
use Rattle.el_queries.specs.within.LastBlock.{is_at, buried_own, buries_at, buries, AreLast}
use Rattle.el_queries.proofs.Law.{any_joined}

-- 1. Single rows

-- the last block's
pub last_read : (bs : List ListedBlock) (n : ℕ) (r : BlockRow) → length bs ≡ n + 1 → Some r ≡ option_map block_fields (slice_get bs n)
    → Some r.first_tx ≡ option_map (λ (b : ListedBlock). b.first_tx) (last bs)
last_read [] n r long is = absurd (omega arith)
last_read (b ∷ []) zero r long is = let e : r ≡ block_fields b = cc in ap (λ (x : BlockRow). Some x.first_tx) e
last_read (b ∷ []) (suc n) r long is = absurd (omega arith)
last_read (b ∷ c ∷ bs) zero r long is = absurd (omega arith)
last_read (b ∷ c ∷ bs) (suc n) r long is = last_read (c ∷ bs) n r (omega arith) is

pub script_read : (s : Hash32) (count m : ℕ) (l : Lists) (xs : List Hash32) (n : ℕ) (r : ScriptRow) → Some r ≡ option_map script_fields (slice_get (rows_from (script_row count l) m xs) n)
    → is_at s xs n ≡ same_hash s r.script
script_read s count m l [] n r is = absurd cc
script_read s count m l (x ∷ xs) zero r is = let e : r ≡ script_fields (script_row count l m x) = cc in ap (λ (q : ScriptRow). same_hash s q.script) (sym e)
script_read s count m l (x ∷ xs) (suc n) r is = script_read s count (m + 1) l xs n r is

pub script_past : (s : Hash32) (xs : List Hash32) (n : ℕ) → length xs ≤ n → is_at s xs n ≡ false
script_past s [] n le = refl
script_past s (x ∷ xs) zero le = absurd (omega arith)
script_past s (x ∷ xs) (suc n) le = script_past s xs n (omega arith)

abbrev pub listed_entry : EntryRow → ListedEntry
listed_entry r = record { tx = r.tx; script = r.script }

pub entry_read : (all : List ListedEntry) (m : ℕ) (es : List ListedEntry) (n : ℕ) (r : EntryRow) → Some r ≡ option_map entry_fields (slice_get (rows_from (entry_row all) m es) n)
    → Some (listed_entry r) ≡ slice_get es n
entry_read all m [] n r is = absurd cc
entry_read all m (x ∷ xs) zero r is = let e : r ≡ entry_fields (entry_row all m x) = cc in ap (λ (q : EntryRow). Some (listed_entry q)) e
entry_read all m (x ∷ xs) (suc n) r is = entry_read all (m + 1) xs n r is

-- what a transaction's row tells
pub record TellsTx (txs all : List ListedTx) (m n : ℕ) (r : TxRow) : Type 0 where
  pub txid : get_or (map (λ (t : ListedTx). t.txid) txs) n zero_hash ≡ r.txid
  pub outs : get_or (map (λ (t : ListedTx). t.outs) txs) n 0 ≡ r.outs
  pub older : r.older ≡ greatest (λ (u : ListedTx). same_hash u.txid r.txid) (take (m + n) all)

pub tx_read : (count : ℕ) (all : List ListedTx) (m : ℕ) (txs : List ListedTx) (n : ℕ) (r : TxRow) → Some r ≡ option_map tx_fields (slice_get (rows_from (tx_row count all) m txs) n)
    → TellsTx txs all m n r
tx_read count all m [] n r is = absurd cc
tx_read count all m (x ∷ xs) zero r is =
    let e : r ≡ tx_fields (tx_row count all m x) = cc in
    let at : m ≡ m + 0 = omega arith in
    record {
      txid = ap (λ (q : TxRow). q.txid) (sym e);
      outs = ap (λ (q : TxRow). q.outs) (sym e);
      older = ap (λ (q : TxRow). q.older) e ∙ ap₂ (λ (h : Hash32) (k : ℕ). greatest (λ (u : ListedTx). same_hash u.txid h) (take k all)) (ap (λ (q : TxRow). q.txid) (sym e)) at;
    }
tx_read count all m (x ∷ xs) (suc n) r is =
    let rest = tx_read count all (m + 1) xs n r is in
    let at : m + 1 + n ≡ m + suc n = omega arith in
    record {
      txid = rest.txid;
      outs = rest.outs;
      older = rest.older ∙ ap (λ (k : ℕ). greatest (λ (u : ListedTx). same_hash u.txid r.txid) (take k all)) at;
    }

pub no_older : (older : Option ℕ) (none : Bool) → is_some older ≡ not none → none ≡ true → older ≡ None
no_older None none is h = refl
no_older (Some n) none is h = absurd (wrong (is ∙ ap not h))
  where
    wrong : true ≡ false → ⊥
    wrong e = cc

-- 2. Along numbers

pub or_assoc : (a b c : Bool) → ((a || b) || c) ≡ (a || (b || c))
or_assoc true b c = refl
or_assoc false b c = refl

pub or_none : (a : Bool) → (a || false) ≡ a
or_none true = refl
or_none false = refl

pub or_absorbs : (a b c : Bool) → (b ≡ true → c ≡ true) → (a || c) ≡ ((a || b) || c)
or_absorbs true b c there = refl
or_absorbs false true c there = there refl
or_absorbs false false c there = refl

or_turned : (a b : Bool) → (a || b) ≡ (b || a)
or_turned true true = refl
or_turned true false = refl
or_turned false true = refl
or_turned false false = refl

pub numbers_step : (f : ℕ → Bool) (n end : ℕ) (before now all : Bool) → n < end → (before || list_any f (numbers_from n (end - n))) ≡ all → now ≡ (before || f n)
    → (now || list_any f (numbers_from (n + 1) (end - (n + 1)))) ≡ all
numbers_step f n end before now all lt h added =
    let one : end - n ≡ suc (end - (n + 1)) = omega arith in
    ap (λ (b : Bool). b || list_any f (numbers_from (n + 1) (end - (n + 1)))) added
    ∙ or_assoc before (f n) (list_any f (numbers_from (n + 1) (end - (n + 1))))
    ∙ ap (λ (k : ℕ). before || list_any f (numbers_from n k)) (sym one) ∙ h

pub numbers_end : (f : ℕ → Bool) (n end : ℕ) (now all : Bool) → end ≤ n → (now || list_any f (numbers_from n (end - n))) ≡ all → now ≡ all
numbers_end f n end now all le h =
    let none : end - n ≡ 0 = omega arith in
    sym (or_none now) ∙ ap (λ (k : ℕ). now || list_any f (numbers_from n k)) (sym none) ∙ h

-- none of them passes
none_from : (f : ℕ → Bool) (j n : ℕ) → ((i : ℕ) → j ≤ i → f i ≡ false) → list_any f (numbers_from j n) ≡ false
none_from f j zero none = refl
none_from f j (suc n) none = let here = none j (omega arith) in rw here (none_from f (j + 1) n (λ i le. none i (omega arith)))

-- 3. Along the last entries

slice_front : (xs ys : List ListedEntry) (k : ℕ) → k < length xs → slice_get (xs ++ ys) k ≡ slice_get xs k
slice_front [] ys k lt = absurd (omega arith)
slice_front (x ∷ xs) ys zero lt = refl
slice_front (x ∷ xs) ys (suc k) lt = slice_front xs ys k (omega arith)

slice_back : (xs ys : List ListedEntry) (k n : ℕ) → n ≡ length xs + k → slice_get (xs ++ ys) n ≡ slice_get ys k
slice_back [] ys k n is = let e : n ≡ k = omega arith in rw e refl
slice_back (x ∷ xs) ys k n is =
    let e : n ≡ suc (length xs + k) = omega arith in
    rw e (slice_back xs ys k (length xs + k) refl)

all_slice : (P : ListedEntry → Type 0) (xs : List ListedEntry) (k : ℕ) (x : ListedEntry) → AllByRecursion P xs → Some x ≡ slice_get xs k → P x
all_slice P [] k x all is = absurd cc
all_slice P (y ∷ ys) zero x all is = let e : y ≡ x = cc in subst P e all.0
all_slice P (y ∷ ys) (suc k) x all is = all_slice P ys k x all.1 is

take_slice : (xs : List ListedEntry) (k : ℕ) (x : ListedEntry) → Some x ≡ slice_get xs k → take (suc k) xs ≡ take k xs ++ x ∷ []
take_slice [] k x is = absurd cc
take_slice (y ∷ ys) zero x is = let e : y ≡ x = cc in rw e refl
take_slice (y ∷ ys) (suc k) x is = ap (λ (l : List ListedEntry). y ∷ l) (take_slice ys k x is)

-- the entries below that number are those before, and so many of the last ones, of which each is still to come
pub record EntriesLeft (f : ListedEntry → Bool) (before own : List ListedEntry) (n : ℕ) (now all : Bool) : Type 0 where
  pub left : ℕ
  pub place : n ≡ length before + left
  pub is : (now || list_any f (take left own)) ≡ all

pub entries_begin : (f : ListedEntry → Bool) (es before own : List ListedEntry) (n : ℕ) (now : Bool) → es ≡ before ++ own → n ≡ length es
    → EntriesLeft f before own n now (now || list_any f own)
entries_begin f es before own n now split many = record {
  left = length own;
  place = many ∙ ap length split ∙ long before;
  is = ap (λ (l : List ListedEntry). now || list_any f l) (whole own);
}
  where
    long : (xs : List ListedEntry) → length (xs ++ own) ≡ length xs + length own
    long [] = omega arith
    long (x ∷ xs) = let rest = long xs in omega arith

    whole : (xs : List ListedEntry) → take (length xs) xs ≡ xs
    whole [] = refl
    whole (x ∷ xs) = ap (λ (l : List ListedEntry). x ∷ l) (whole xs)

pub entry_here : (f : ListedEntry → Bool) (first : ℕ) (es before own : List ListedEntry) (n left : ℕ) (e : ListedEntry) (now all : Bool) → es ≡ before ++ own → AreLast first before own
    → n + 1 ≡ length before + left → Some e ≡ slice_get es n → (now || list_any f (take left own)) ≡ all
    → ((e.tx < first) × (now ≡ all)) ⊎ ((k : ℕ) × (left ≡ suc k) × (first ≤ e.tx) × (((now || f e) || list_any f (take k own)) ≡ all))
entry_here f first es before own n zero e now all split last at is h =
    inl (all_slice (λ (x : ListedEntry). x.tx < first) before n e last.below (is ∙ ap (λ (l : List ListedEntry). slice_get l n) split ∙ slice_front before own n (omega arith)), sym (or_none now) ∙ h)
entry_here f first es before own n (suc k) e now all split last at is h =
    let here : Some e ≡ slice_get own k = is ∙ ap (λ (l : List ListedEntry). slice_get l n) split ∙ slice_back before own k n (omega arith) in
    let cut = take_slice own k e here in
    inr (
      k,
      refl,
      all_slice (λ (x : ListedEntry). first ≤ x.tx) own k e last.from here,
      or_assoc now (f e) (list_any f (take k own))
          ∙ ap (λ (b : Bool). now || b) (or_turned (f e) (list_any f (take k own)) ∙ ap (λ (b : Bool). list_any f (take k own) || b) (sym (or_none (f e))) ∙ sym (any_joined f (take k own) (e ∷ [])))
          ∙ ap (λ (l : List ListedEntry). now || list_any f l) (sym cut) ∙ h,
    )

-- an entry of the transactions is passed
pub entry_step : (f : ListedEntry → Bool) (first : ℕ) (es before own : List ListedEntry) (n : ℕ) (e : ListedEntry) (before_it now all : Bool) → es ≡ before ++ own → AreLast first before own
    → Some e ≡ slice_get es n → first ≤ e.tx → EntriesLeft f before own (n + 1) before_it all → now ≡ (before_it || f e) → EntriesLeft f before own n now all
entry_step f first es before own n e before_it now all split last is from h added =
    elim (entry_here f first es before own n h.left e before_it all split last h.place is h.is) [
      | inl past ↦ absurd (let lt = past.0 in omega arith)
      | inr here ↦
          let more = here.1 in
          record {
            left = here.0;
            place = (let place = h.place in omega arith);
            is = ap (λ (b : Bool). b || list_any f (take here.0 own)) added ∙ here.3;
          }
    ]

-- at an entry of an earlier transaction the walk is at its end, and where no entry is left
pub entry_ends : (f : ListedEntry → Bool) (first : ℕ) (es before own : List ListedEntry) (n : ℕ) (e : ListedEntry) (now all : Bool) → es ≡ before ++ own → AreLast first before own
    → Some e ≡ slice_get es n → e.tx < first → EntriesLeft f before own (n + 1) now all → now ≡ all
entry_ends f first es before own n e now all split last is lt h =
    elim (entry_here f first es before own n h.left e now all split last h.place is h.is) [
      | inl past ↦ past.1
      | inr here ↦ absurd (let from = here.2 in omega arith)
    ]

pub entries_end : (f : ListedEntry → Bool) (before own : List ListedEntry) (now all : Bool) → EntriesLeft f before own 0 now all → now ≡ all
entries_end f before own now all h =
    let none : h.left ≡ 0 = (let place = h.place in omega arith) in
    sym (or_none now) ∙ ap (λ (k : ℕ). now || list_any f (take k own)) (sym none) ∙ h.is

-- 4. The output that an outpoint names

abbrev with_row : ℕ → ListedOut → NamedOutput
with_row k x = record { number = k; row = out_fields x }

pub none_here : (s : Hash32) (tx : ℕ) (l : Lists) (r : Option ℕ) → None ≡ option_and_then (output_numbered l.outs) r
    → option_map_or (buried_own s tx l) (option_and_then (λ k. slice_get l.outs k) r) false ≡ false
none_here s tx l None is = refl
none_here s tx l (Some k) is = by (slice_get l.outs k) is
  where
    by : (q : Option ListedOut) → None ≡ option_map (with_row k) q → option_map_or (buried_own s tx l) q false ≡ false
    by None e = refl
    by (Some x) e = absurd cc

buried_fields : (st : State) (by tx : ℕ) → out.Buried by ≡ state_fields st → is_buried_by tx st ≡ (by == tx)
buried_fields Unspent by tx is = absurd cc
buried_fields (Spent n) by tx is = absurd cc
buried_fields (Buried n) by tx is = let e : by ≡ n = cc in ap (λ (k : ℕ). k == tx) (sym e)

other_fields : (st : State) (tx : ℕ) → ((by : ℕ) → state_fields st ≡ out.Buried by → ⊥) → is_buried_by tx st ≡ false
other_fields Unspent tx not = refl
other_fields (Spent n) tx not = refl
other_fields (Buried n) tx not = absurd (not n refl)

some_here : (s : Hash32) (tx : ℕ) (l : Lists) (x : NamedOutput) (r : Option ℕ) → Some x ≡ option_and_then (output_numbered l.outs) r
    → (y : ListedOut) × (x.row ≡ out_fields y) × (option_map_or (buried_own s tx l) (option_and_then (λ k. slice_get l.outs k) r) false ≡ buried_own s tx l y)
some_here s tx l x None is = absurd cc
some_here s tx l x (Some k) is = by (slice_get l.outs k) is
  where
    by : (q : Option ListedOut) → Some x ≡ option_map (with_row k) q
        → (y : ListedOut) × (x.row ≡ out_fields y) × (option_map_or (buried_own s tx l) q false ≡ buried_own s tx l y)
    by None e = absurd cc
    by (Some y) e = let same : x ≡ with_row k y = cc in (y, ap (λ (n : NamedOutput). n.row) same, refl)

-- the transaction buried it
pub buried_here : (s : Hash32) (tx by : ℕ) (l : Lists) (x : NamedOutput) (r : Option ℕ) → Some x ≡ option_and_then (output_numbered l.outs) r → x.row.state ≡ out.Buried by → by ≡ tx
    → option_map_or (buried_own s tx l) (option_and_then (λ k. slice_get l.outs k) r) false ≡ is_at s l.scripts x.row.script
buried_here s tx by l x r is state same =
    let at = some_here s tx l x r is in
    let row = at.1 in
    let buried : is_buried_by tx at.0.state ≡ true =
    buried_fields at.0.state by tx (sym state ∙ ap (λ (q : OutRow). q.state) row) ∙ eq-eqb by tx same in
    at.2 ∙ ap (λ (b : Bool). b && is_at s l.scripts at.0.script) buried ∙ ap (λ (q : OutRow). is_at s l.scripts q.script) (sym row)

-- another did
pub other_buried : (s : Hash32) (tx by : ℕ) (l : Lists) (x : NamedOutput) (r : Option ℕ) → Some x ≡ option_and_then (output_numbered l.outs) r → x.row.state ≡ out.Buried by → (by ≡ tx → ⊥)
    → option_map_or (buried_own s tx l) (option_and_then (λ k. slice_get l.outs k) r) false ≡ false
other_buried s tx by l x r is state apart =
    let at = some_here s tx l x r is in
    let buried : is_buried_by tx at.0.state ≡ false =
    buried_fields at.0.state by tx (sym state ∙ ap (λ (q : OutRow). q.state) at.1) ∙ ne_eqb by tx apart in
    at.2 ∙ ap (λ (b : Bool). b && is_at s l.scripts at.0.script) buried

-- none did
pub not_buried : (s : Hash32) (tx : ℕ) (l : Lists) (x : NamedOutput) (r : Option ℕ) → Some x ≡ option_and_then (output_numbered l.outs) r → ((by : ℕ) → x.row.state ≡ out.Buried by → ⊥)
    → option_map_or (buried_own s tx l) (option_and_then (λ k. slice_get l.outs k) r) false ≡ false
not_buried s tx l x r is other =
    let at = some_here s tx l x r is in
    let buried : is_buried_by tx at.0.state ≡ false =
    other_fields at.0.state tx (λ by e. other by (ap (λ (q : OutRow). q.state) at.1 ∙ e)) in
    at.2 ∙ ap (λ (b : Bool). b && is_at s l.scripts at.0.script) buried

-- 5. One whose txid is new buried none

pub new_buries_none : (s : Hash32) (tx : ℕ) (l : Lists) (id : Hash32) (i : ℕ) → greatest (λ (u : ListedTx). same_hash u.txid id) (take tx l.txs) ≡ None
    → buries_at s tx l (record { txid = id; index = i }) ≡ false
new_buries_none s tx l id i none =
    let named : output_number (record { txid = id; index = i }) (take tx l.txs) ≡ None =
    none_named (record { txid = id; index = i }) (take tx l.txs) (newest_is 0 id (take tx l.txs) ∙ none) in
    ap (λ (r : Option ℕ). option_map_or (buried_own s tx l) (option_and_then (λ k. slice_get l.outs k) r) false) named

pub new_buries : (s : Hash32) (l : Lists) (tx : ℕ) (r : TxRow) → TellsTx l.txs l.txs 0 tx r → r.older ≡ None → buries s l tx ≡ false
new_buries s l tx r tells none =
    let at : 0 + tx ≡ tx = omega arith in
    let newest : greatest (λ (u : ListedTx). same_hash u.txid r.txid) (take tx l.txs) ≡ None =
    ap (λ (k : ℕ). greatest (λ (u : ListedTx). same_hash u.txid r.txid) (take k l.txs)) (sym at) ∙ sym tells.older ∙ none in
    ap (λ (h : Hash32). list_any (λ (i : ℕ). buries_at s tx l (record { txid = h; index = i })) (numbers_from 0 (outs_at tx l.txs))) tells.txid
    ∙ none_from (λ (i : ℕ). buries_at s tx l (record { txid = r.txid; index = i })) 0 (outs_at tx l.txs) (λ i le. new_buries_none s tx l r.txid i newest)

-- what all outputs buried, by the transaction's row
pub all_by_row : (s : Hash32) (l : Lists) (tx : ℕ) (r : TxRow) → TellsTx l.txs l.txs 0 tx r
    → list_any (λ (i : ℕ). buries_at s tx l (record { txid = r.txid; index = i })) (numbers_from 0 r.outs) ≡ buries s l tx
all_by_row s l tx r tells =
    ap₂ (λ (h : Hash32) (n : ℕ). list_any (λ (i : ℕ). buries_at s tx l (record { txid = h; index = i })) (numbers_from 0 n)) (sym tells.txid) (sym tells.outs)

-- 6. An index beyond all outputs

named_from : (o : Outpoint) (txs : List ListedTx) (k : ℕ) → output_number o txs ≡ Some k → o.index ≤ k
named_from o [] k is = absurd cc
named_from o (t ∷ ts) k is = by (output_number o ts) (λ e. named_from o ts k e) (has_output o t) is
  where
    by : (r : Option ℕ) → (r ≡ Some k → o.index ≤ k) → (b : Bool) → option_or r (cond b (Some (t.first_out + o.index)) None) ≡ Some k → o.index ≤ k
    by (Some j) rec b e = rec e
    by None rec true e = let same : t.first_out + o.index ≡ k = cc in omega arith
    by None rec false e = absurd cc

pub past_buries : (s : Hash32) (tx : ℕ) (l : Lists) (id : Hash32) (i : ℕ) → length l.outs ≤ i → buries_at s tx l (record { txid = id; index = i }) ≡ false
past_buries s tx l id i le = by (output_number (record { txid = id; index = i }) (take tx l.txs)) (λ k e. named_from (record { txid = id; index = i }) (take tx l.txs) k e)
  where
    by : (r : Option ℕ) → ((k : ℕ) → r ≡ Some k → i ≤ k) → option_map_or (buried_own s tx l) (option_and_then (λ k. slice_get l.outs k) r) false ≡ false
    by None from = refl
    by (Some k) from = let least = from k refl in let past = get_past l.outs k (omega arith) in rw past refl

any_short : (f : ℕ → Bool) (j c n : ℕ) → c ≤ n → ((i : ℕ) → j + c ≤ i → f i ≡ false) → list_any f (numbers_from j c) ≡ list_any f (numbers_from j n)
any_short f j zero n le none = sym (none_from f j n (λ i from. none i (omega arith)))
any_short f j (suc c) zero le none = absurd (omega arith)
any_short f j (suc c) (suc n) le none = ap (λ (b : Bool). f j || b) (any_short f (j + 1) c n (omega arith) (λ i from. none i (omega arith)))

pub any_capped : (f : ℕ → Bool) (n c m : ℕ) → m ≡ min n c → ((i : ℕ) → c ≤ i → f i ≡ false) → list_any f (numbers_from 0 m) ≡ list_any f (numbers_from 0 n)
any_capped f n c m is none = elim (cases_lt n c) [
  | inl lt ↦ let e : m ≡ n = omega arith in ap (λ (k : ℕ). list_any f (numbers_from 0 k)) e
  | inr le ↦ any_short f 0 m n (omega arith) (λ i from. none i (omega arith))
]

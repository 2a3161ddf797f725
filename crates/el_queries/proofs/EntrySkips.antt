-- A walk over the last entries, in which an entry adds nothing where its script has an earlier one among them.
use Rattle.std.proofs.Common.{◌≡◌, inl, inr, ℕ, zero, suc, ◌+◌, ◌<◌, ◌≤◌, Bool, true, false, ◌&&◌, ◌||◌, List, [], ◌∷◌, ◌++◌, length, take, get_or, Option, None, Some, option_map, slice_get, refl, ap, sym, subst, ◌∙◌, arith, length-append}
use Rattle.std.specs.Prelude.{nat_lt}
use Rattle.std.proofs.lemmas.Bool.{cases_Bool}
use Rattle.std.proofs.lemmas.List.{get_or-take, length-take-le}
use Rattle.std.specs.List.{list_any}
use Rattle.el_tables.specs.Lists.{ListedEntry, is_of_script}
use Rattle.el_tables.specs.Tables.{greatest, rows_from, entry_row}
use Rattle.el_tables.proofs.RowLists.{length_rows, rows_at}
use Rattle.el_row_formats.specs.declared.entry_row.EntryRow.{EntryRow}
use Rattle.el_schema.specs.Rows.{entry_fields}
use Rattle.el_buckets.proofs.Walks.{greatest_passes}
use Rattle.el_schema.proofs.Rows.{found_at, found_within}
use Rattle.el_queries.specs.within.LastBlock.{is_below, AreLast}
use Rattle.el_queries.proofs.EntryWalks.{no_entry, no_entry_row}
use Rattle.el_queries.proofs.Walks.{EntriesLeft, entry_here, entry_step, or_none, or_absorbs}

-- what its row links to: the entry of its script before it
pub entry_linked : (es : List ListedEntry) (n : ℕ) (row : EntryRow) → Some row ≡ option_map entry_fields (slice_get (rows_from (entry_row es) 0 es) n)
    → row.before ≡ greatest (is_of_script row.script) (take n es)
entry_linked es n row e =
    let rows = rows_from (entry_row es) 0 es in
    let lt = found_within entry_fields rows n row e in
    let long = length_rows (entry_row es) 0 es in
    let x = get_or es n no_entry in
    let is : row ≡ entry_fields (entry_row es n x) =
    found_at entry_fields rows n no_entry_row row e ∙ ap entry_fields (rows_at (entry_row es) no_entry_row no_entry 0 n n es (omega arith) (omega arith)) in
    ap (λ (r : EntryRow). r.before) is ∙ ap (λ (k : ℕ). greatest (is_of_script k) (take n es)) (sym (ap (λ (r : EntryRow). r.script) is))

slice_within : (xs : List ListedEntry) (n : ℕ) (e : ListedEntry) → Some e ≡ slice_get xs n → n < length xs
slice_within [] n e is = absurd cc
slice_within (x ∷ xs) zero e is = omega arith
slice_within (x ∷ xs) (suc n) e is = let lt = slice_within xs n e is in omega arith

any_there : (f : ListedEntry → Bool) (own : List ListedEntry) (j k : ℕ) (d : ListedEntry) → j < k → k ≤ length own → f (get_or own j d) ≡ true → list_any f (take k own) ≡ true
any_there f [] j k d lt le h = absurd (omega arith)
any_there f (x ∷ own) zero zero d lt le h = absurd (omega arith)
any_there f (x ∷ own) zero (suc k) d lt le h = rw h refl
any_there f (x ∷ own) (suc j) zero d lt le h = absurd (omega arith)
any_there f (x ∷ own) (suc j) (suc k) d lt le h = elim (cases_Bool (f x)) [
  | inl e ↦ rw e refl
  | inr e ↦ rw e (any_there f own j k d (omega arith) (omega arith) h)
]

any_behind : (f : ListedEntry → Bool) (before own : List ListedEntry) (m k : ℕ) (d : ListedEntry) → length before ≤ m → m < length before + k → k ≤ length own
    → f (get_or (before ++ own) m d) ≡ true → list_any f (take k own) ≡ true
any_behind f [] own m k d from lt le h = any_there f own m k d (omega arith) le h
any_behind f (x ∷ before) own zero k d from lt le h = absurd (omega arith)
any_behind f (x ∷ before) own (suc m) k d from lt le h = any_behind f before own m k d (omega arith) (omega arith) le h

-- an entry is passed whose script has an earlier one among these
entry_skip : (f : ListedEntry → Bool) (first : ℕ) (es before own : List ListedEntry) (n : ℕ) (e : ListedEntry) (m : ℕ) (now all : Bool) → es ≡ before ++ own → AreLast first before own
    → Some e ≡ slice_get es n → first ≤ e.tx → EntriesLeft f before own (n + 1) now all → m < n → length before ≤ m → f (get_or es m no_entry) ≡ f e → EntriesLeft f before own n now all
entry_skip f first es before own n e m now all split last is from h lt late same =
    elim (entry_here f first es before own n h.left e now all split last h.place is h.is) [
      | inl past ↦ absurd (let lt = past.0 in omega arith)
      | inr here ↦
          let more = here.1 in
          let k = here.0 in
          let place : n ≡ length before + k = (let p = h.place in omega arith) in
          let long : n < length (before ++ own) = subst (λ (l : List ListedEntry). n < length l) split (slice_within es n e is) in
          let sum = length-append before own in
          let there : f e ≡ true → list_any f (take k own) ≡ true =
          λ t. any_behind f before own m k no_entry late (omega arith) (omega arith) (ap (λ (l : List ListedEntry). f (get_or l m no_entry)) (sym split) ∙ same ∙ t) in
          record { left = k; place = place; is = or_absorbs now (f e) (list_any f (take k own)) there ∙ here.3 }
    ]

-- one entry less is left, whether or not it is read
pub entry_turn : (f : ListedEntry → Bool) (first since : ℕ) (es before own : List ListedEntry) (n : ℕ) (e : ListedEntry) (link : Option ℕ) (before_it now all : Bool) → es ≡ before ++ own → AreLast first before own
    → length before ≤ since → Some e ≡ slice_get es n → first ≤ e.tx → ((x y : ListedEntry) → x.script ≡ y.script → f x ≡ f y) → link ≡ greatest (is_of_script e.script) (take n es)
    → EntriesLeft f before own (n + 1) before_it all → now ≡ (before_it || (is_below since link && f e)) → EntriesLeft f before own n now all
entry_turn f first since es before own n e None before_it now all split last late is from alike links h added = entry_step f first es before own n e before_it now all split last is from h added
entry_turn f first since es before own n e (Some m) before_it now all split last late is from alike links h added = elim (cases_Bool (nat_lt m since)) [
  | inl below ↦ entry_step f first es before own n e before_it now all split last is from h (added ∙ ap (λ (b : Bool). before_it || (b && f e)) below)
  | inr above ↦
      let passes = greatest_passes (is_of_script e.script) no_entry (take n es) m (sym links) in
      let within = slice_within es n e is in
      let short : length (take n es) ≡ n = length-take-le n es (omega arith) in
      let lt : m < n = (let p = passes.0 in omega arith) in
      let at_m : (get_or es m no_entry).script ≡ e.script = same_number _ _ (ap (is_of_script e.script) (sym (get_or-take n es m no_entry lt)) ∙ passes.1) in
      let same : now ≡ before_it = added ∙ ap (λ (b : Bool). before_it || (b && f e)) above ∙ or_none before_it in
      subst (λ (b : Bool). EntriesLeft f before own n b all) (sym same)
      (entry_skip f first es before own n e m before_it all split last is from h lt (let a : nat_lt m since ≡ false = above in grind arith) (alike (get_or es m no_entry) e at_m))
]
  where
    same_number : (a b : ℕ) → (Rattle.std.specs.Prelude.◌==◌ a b) ≡ true → a ≡ b
    same_number a b h = grind arith

-- Walks along the entries of a script, from the newest to the oldest, by the links.
use Rattle.std.proofs.Common.{◌≡◌, inl, inr, ℕ, ◌+◌, ◌<◌, ◌≤◌, Bool, true, List, [], ◌∷◌, ◌++◌, length, take, filter, reverse, get_or, flat_map, sum_by, Option, None, Some, option_map, slice_get, refl, ap, sym, subst, ◌∙◌, arith, append_assoc, length-append}
use Rattle.std.proofs.lemmas.Bool.{cases_Bool}
use Rattle.std.proofs.lemmas.Grind.{flat_map-append}
use Rattle.std.proofs.lemmas.List.{take-take, take_all, take-append-le, append-nil, length-take-le, reverse-append, reverse-reverse}
use Rattle.std.proofs.lemmas.List.Elements.{filter-append, filter_more}
use Rattle.std.proofs.lemmas.List.Sums.{sum_by_push}
use Rattle.el_tables.specs.Lists.{ListedEntry, is_of_script}
use Rattle.el_tables.specs.Tables as typed
use Rattle.el_tables.specs.Tables.{greatest, rows_from, entry_row}
use Rattle.el_tables.proofs.OlderWalks.{greatest_more}
use Rattle.el_tables.proofs.Outputs.{from_front}
use Rattle.el_tables.proofs.RowLists.{length_rows, rows_at}
use Rattle.el_row_formats.specs.declared.entry_row.EntryRow.{EntryRow}
use Rattle.el_buckets.specs.Buckets.{below}
use Rattle.el_schema.specs.Rows.{entry_fields}
use Rattle.el_buckets.proofs.Heads.{below_all}
use Rattle.el_buckets.proofs.Walks.{Passes, end_of, end_within, greatest_passes}
use Rattle.el_schema.proofs.Rows.{found_at, found_within}

-- 1. What passes a test, from its greatest on

-- what passes stands up to the greatest that passes
pub up_to_greatest : {X : Type 0} (test : X → Bool) (d : X) (xs : List X) → filter test xs ≡ filter test (take (end_of (greatest test xs)) xs)
up_to_greatest test d xs = from_front (λ us. filter test us ≡ filter test (take (end_of (greatest test us)) us)) refl (λ us u h. grow us u h) xs
  where
    grow : (us : List _) (u : _) → filter test us ≡ filter test (take (end_of (greatest test us)) us)
        → filter test (us ++ u ∷ []) ≡ filter test (take (end_of (greatest test (us ++ u ∷ []))) (us ++ u ∷ []))
    grow us u h =
        let next = greatest_more 0 (length us) test us u (omega arith) in
        let long = length-append us (u ∷ []) in
        elim (cases_Bool (test u)) [
          | inl e ↦
              let found : greatest test (us ++ u ∷ []) ≡ Some (length us) = next ∙ rw e refl in
              let whole : take (length us + 1) (us ++ u ∷ []) ≡ us ++ u ∷ [] = take_all (length us + 1) (us ++ u ∷ []) (omega arith) in
              sym (ap (filter test) (ap (λ o. take (end_of o) (us ++ u ∷ [])) found ∙ whole))
          | inr e ↦
              let same : greatest test (us ++ u ∷ []) ≡ greatest test us = next ∙ rw e refl in
              let le = end_within test d us (greatest test us) (greatest_passes test d us) in
              let front : take (end_of (greatest test us)) (us ++ u ∷ []) ≡ take (end_of (greatest test us)) us = take-append-le (end_of (greatest test us)) us (u ∷ []) le in
              let stays : filter test (us ++ u ∷ []) ≡ filter test us = filter-append test us (u ∷ []) ∙ rw e (append-nil (filter test us)) in
              stays ∙ h ∙ sym (ap (filter test) (ap (λ o. take (end_of o) (us ++ u ∷ [])) same ∙ front))
        ]

module _ {X : Type 0} (test : X → Bool) (d : X) (xs : List X) where
  -- the one of that number is the last of the first n + 1 that pass, and the others end at the greatest before it
  pub last_passes : (n : ℕ) (next : Option ℕ) → n < length xs → test (get_or xs n d) ≡ true → next ≡ greatest test (take n xs)
      → filter test (take (n + 1) xs) ≡ filter test (take (end_of next) xs) ++ get_or xs n d ∷ []
  last_passes n next lt is next_is =
      let short : length (take n xs) ≡ n = length-take-le n xs (omega arith) in
      let le : end_of (greatest test (take n xs)) ≤ n = (let w = end_within test d (take n xs) (greatest test (take n xs)) (greatest_passes test d (take n xs)) in omega arith) in
      filter_more test xs n d lt ∙ rw is (ap (λ (ys : List X). ys ++ get_or xs n d ∷ [])
      (up_to_greatest test d (take n xs) ∙ ap (filter test) (take-take (end_of (greatest test (take n xs))) n xs le) ∙ ap (λ (o : Option ℕ). filter test (take (end_of o) xs)) (sym next_is)))

  -- 2. What is gathered along the links

  -- what is left up to the link, and what was found, newest first, are all
  pub record IsGathered {A : Type 0} (f : X → List A) (link : Option ℕ) (found : List A) : Type 0 where
    pub all : flat_map f (filter test xs) ≡ flat_map f (filter test (take (end_of link) xs)) ++ reverse found
    pub here : Passes test d xs link

  pub gather_begins : {A : Type 0} (f : X → List A) (link : Option ℕ) → link ≡ greatest test xs → IsGathered f link []
  gather_begins f link is = record {
    all = ap (flat_map f) (up_to_greatest test d xs ∙ ap (λ (o : Option ℕ). filter test (take (end_of o) xs)) (sym is)) ∙ sym (append-nil (flat_map f (filter test (take (end_of link) xs))));
    here = subst (Passes test d xs) (sym is) (greatest_passes test d xs);
  }

  pub gather_on : {A : Type 0} (f : X → List A) (n : ℕ) (next : Option ℕ) (found more : List A) → IsGathered f (Some n) found → next ≡ greatest test (take n xs)
      → more ≡ reverse (f (get_or xs n d)) → IsGathered f next (found ++ more)
  gather_on f n next found more before next_is more_is =
      let here = before.here n refl in
      let lt = here.0 in
      let short : length (take n xs) ≡ n = length-take-le n xs (omega arith) in
      let x = get_or xs n d in
      let left = flat_map f (filter test (take (end_of next) xs)) in
      let turned : reverse (found ++ more) ≡ f x ++ reverse found =
      reverse-append found more ∙ ap (λ (ys : List _). ys ++ reverse found) (ap reverse more_is ∙ reverse-reverse (f x)) in
      let passes = greatest_passes test d (take n xs) in
      record {
        all = before.all
            ∙ ap (λ (ys : List X). flat_map f ys ++ reverse found) (last_passes n next lt here.1 next_is)
            ∙ ap (λ (ys : List _). ys ++ reverse found) (flat_map-append f (filter test (take (end_of next) xs)) (x ∷ []) ∙ ap (λ (ys : List _). left ++ ys) (append-nil (f x)))
            ∙ append_assoc left (f x) (reverse found)
            ∙ ap (λ (ys : List _). left ++ ys) (sym turned);
        here = λ m is. let p = passes m (sym next_is ∙ is) in let less = p.0 in (omega arith, sym (ap test (Rattle.std.proofs.lemmas.List.get_or-take n xs m d (omega arith))) ∙ p.1);
      }

  pub gather_ends : {A : Type 0} (f : X → List A) (found : List A) → IsGathered f None found → reverse found ≡ flat_map f (filter test xs)
  gather_ends f found before = sym before.all

  -- 3. What it costs

  pub cost_begins : (c : X → ℕ) (link : Option ℕ) → link ≡ greatest test xs → sum_by c (filter test (take (end_of link) xs)) ≡ sum_by c (filter test xs)
  cost_begins c link is = ap (sum_by c) (ap (λ (o : Option ℕ). filter test (take (end_of o) xs)) is ∙ sym (up_to_greatest test d xs))

  pub cost_on : (c : X → ℕ) (n : ℕ) (next : Option ℕ) → n < length xs → test (get_or xs n d) ≡ true → next ≡ greatest test (take n xs)
      → sum_by c (filter test (take (n + 1) xs)) ≡ sum_by c (filter test (take (end_of next) xs)) + c (get_or xs n d)
  cost_on c n next lt is next_is = ap (sum_by c) (last_passes n next lt is next_is) ∙ sum_by_push c (filter test (take (end_of next) xs)) (get_or xs n d)

-- 4. The row of an entry

pub no_entry : ListedEntry
no_entry = record { tx = 0; script = 0 }

pub no_entry_row : typed.EntryRow
no_entry_row = record { listed = no_entry; before = None }

-- its transaction, and the entry of its script before it
pub entry_found : (es : List ListedEntry) (n : ℕ) (row : EntryRow) → Some row ≡ option_map entry_fields (slice_get (rows_from (entry_row es) 0 es) n)
    → (row.tx ≡ (get_or es n no_entry).tx) × (below n row.before ≡ greatest (is_of_script (get_or es n no_entry).script) (take n es))
entry_found es n row e =
    let rows = rows_from (entry_row es) 0 es in
    let lt = found_within entry_fields rows n row e in
    let long = length_rows (entry_row es) 0 es in
    let x = get_or es n no_entry in
    let is : row ≡ entry_fields (entry_row es n x) =
    found_at entry_fields rows n no_entry_row row e ∙ ap entry_fields (rows_at (entry_row es) no_entry_row no_entry 0 n n es (omega arith) (omega arith)) in
    let short : length (take n es) ≡ n = length-take-le n es (omega arith) in
    (ap (λ (r : EntryRow). r.tx) is, ap (λ (r : EntryRow). below n r.before) is ∙ below_all (is_of_script x.script) no_entry (take n es) n short)

-- What the calls of a cache leave of the rows in its pages.
use Rattle.std.proofs.Common.{◌≡◌, ◌≢◌, ◌⊎◌, inl, inr, ⊎_elim, ℕ, ◌+◌, ◌-◌, ◌*◌, ◌<◌, ◌≤◌, List, [], Bool, true, false, Option, Some, None, length, get_or, take, drop, refl, sym, ◌∙◌, ap, subst, arith}
use Rattle.std.specs.Prelude.{nat_eq, Result, Ok, Err, OnOk, OnErr, is_ok, is_some, IsTrue}
use Rattle.std.specs.Map.{set_value}
use Rattle.std.proofs.lemmas.Bool.{cases_eq, cases_lt}
use Rattle.lru.specs.LruCache.{LruCache, lru_cache, promoted, put_entries}
use Rattle.el_outside.specs.Disk.{over}
use Rattle.el_row_formats.specs.declared.table.Table.{Table}
use Rattle.el_row_formats.specs.Tables.{Tables, size_of, row_at}
use Rattle.el_page_cache.specs.Pages.{KeptPages, rows_in_page, page_of, place_of, row_number, page_key, page_in, HasRows, Agrees, IsWrittenTo, ArePagesWritten}
use Rattle.el_page_cache.proofs.Rows.{rows_over_here, rows_over_other, row_drop}
use Rattle.el_page_cache.proofs.Places.{at_place, place_within, same_page, one_key, row_fits, rows_fit}
use Rattle.el_page_cache.proofs.Lookups.{lookup-promoted, taken, lookup-put, set_here, set_elsewhere}

-- what a cache that was put into has
pub entries_put : (cache new : LruCache ℕ (List ℕ)) (old : KeptPages) (k number : ℕ) (v bytes : List ℕ) → cache.entries ≡ old → cache.cap ≡ 4096 → k ≡ number → v ≡ bytes
    → new ≡ lru_cache (put_entries nat_eq cache k v) cache.cap → new.entries ≡ put_entries nat_eq (lru_cache old 4096) number bytes
entries_put cache new old k number v bytes view most key_is value_is is =
    ap (λ (x : LruCache ℕ (List ℕ)). x.entries) is
    ∙ ap (λ (es : List (ℕ × List ℕ)). put_entries nat_eq (lru_cache es cache.cap) k v) view
    ∙ ap (λ n. put_entries nat_eq (lru_cache old n) k v) most
    ∙ ap (λ n. put_entries nat_eq (lru_cache old 4096) n v) key_is
    ∙ ap (λ b. put_entries nat_eq (lru_cache old 4096) number b) value_is

-- and one whose last page was taken
pub entries_left : (cache new : LruCache ℕ (List ℕ)) (old : KeptPages) → cache.entries ≡ old → new ≡ lru_cache (take (length cache.entries - 1) cache.entries) cache.cap → new.entries ≡ take (length old - 1) old
entries_left cache new old view is = ap (λ (x : LruCache ℕ (List ℕ)). x.entries) is ∙ ap (λ (es : List (ℕ × List ℕ)). take (length es - 1) es) view

pub either : {T E P Q : Type 0} (r : Result T E) → OnOk r P → OnErr r Q → P ⊎ Q
either (Ok v) p q = inl p
either (Err e) p q = inr q

pub none_or_some : {X : Type 0} (o : Option X) → (o ≡ None) ⊎ ((x : X) × (o ≡ Some x))
none_or_some None = inl refl
none_or_some (Some x) = inr (x, refl)

pub some_of : {X : Type 0} (o : Option X) → is_some o ≡ true → (x : X) × (o ≡ Some x)
some_of None is_true = cc
some_of (Some x) is_true = (x, refl)

pub if_ok : {T E P : Type 0} (r : Result T E) (b : Bool) → b ≡ is_ok r → OnOk r P → IsTrue b → P
if_ok (Ok v) b is p is_true = p
if_ok (Err e) b is p is_true = absurd (let no : false ≡ true = sym is ∙ is_true in cc)

module _ (pages : KeptPages) (lists : Tables) (counts : Table → ℕ) (agrees : Agrees pages lists counts) where
  -- a page that is used last is the same
  pub agrees_promoted : (k : ℕ) → Agrees (promoted (nat_eq k) pages) lists counts
  agrees_promoted k t n page there = agrees t n page (sym (lookup-promoted (page_key t n) k pages) ∙ there)

  -- the pages that were used last stay
  pub agrees_taken : (n : ℕ) → Agrees (take n pages) lists counts
  agrees_taken n t m page there = agrees t m page (taken (page_key t m) n pages page there)

  -- a page of rows is kept
  pub agrees_put : (t : Table) (n : ℕ) (bytes : List ℕ) → HasRows lists counts t n bytes → Agrees (put_entries nat_eq (lru_cache pages 4096) (page_key t n) bytes) lists counts
  agrees_put t n bytes has u m page there = ⊎_elim
      (λ new. let is = one_key u t m n new.0 in
      subst (λ (b : List ℕ). HasRows lists counts u m b) (sym new.1)
      (subst (λ (v : Table). HasRows lists counts v m bytes) (sym is.0) (subst (λ k. HasRows lists counts t k bytes) (sym is.1) has)))
      (λ old. agrees u m page old)
      (lookup-put (lru_cache pages 4096) (page_key t n) bytes (page_key u m) page there)

  -- a row that is found is the one of the tables
  pub agrees_at : (t : Table) (i : ℕ) (page : List ℕ) → page_in pages t (page_of t i) ≡ Some page → i < counts t → row_at (size_of t) page (place_of t i) ≡ get_or (lists t) i []
  agrees_at t i page there lt =
      agrees t (page_of t i) page there (place_of t i) (place_within t i) (subst (λ r. r < counts t) (sym (at_place t i)) lt)
      ∙ ap (λ r. get_or (lists t) r []) (at_place t i)

-- no row is written
pub written_none : (pages : KeptPages) (t : Table) (first : ℕ) (bytes : List ℕ) → ArePagesWritten pages pages t first 0 bytes
written_none pages t first bytes u n page there = (
  page,
  there,
  record {
    written = λ place within is_in. absurd (omega (arith, is_in.1, is_in.2));
    others = λ place within not_in. refl;
  },
)

-- rows go into one page, or that page isn't kept
module _ (pages : KeptPages) (t : Table) (i rows : ℕ) (bytes : List ℕ) (few : place_of t i + rows ≤ rows_in_page t) (long : length bytes ≡ rows * size_of t) where
  -- pages of other numbers have none of the rows
  beside : (u : Table) (n : ℕ) (page : List ℕ) → page_key u n ≢ page_key t (page_of t i) → IsWrittenTo t i rows bytes u n page page
  beside u n page ne = record {
    written = λ place within is_in.
        let low : i ≤ row_number t n place = subst (λ (v : Table). i ≤ row_number v n place) is_in.0 is_in.1 in
        let high : row_number t n place < i + rows = subst (λ (v : Table). row_number v n place < i + rows) is_in.0 is_in.2 in
        let short : place < rows_in_page t = subst (λ (v : Table). place < rows_in_page v) is_in.0 within in
        absurd (ne (ap (λ (v : Table). page_key v n) is_in.0 ∙ ap (λ m. page_key t m) (same_page t n place i rows short few low high)));
    others = λ place within not_in. refl;
  }

  pub written_nowhere : page_in pages t (page_of t i) ≡ None → ArePagesWritten pages pages t i rows bytes
  written_nowhere none u n page there = (
    page,
    there,
    beside u n page
        (λ same. let is = one_key u t n (page_of t i) same in
        let missing : page_in pages u n ≡ None = ap (λ (v : Table). page_in pages v n) is.0 ∙ ap (λ m. page_in pages t m) is.1 ∙ none in
        some_none page (sym there ∙ missing)),
  )
    where
      some_none : (x : List ℕ) → Some x ≡ None → ⊥
      some_none x is = cc

  module _ (was : List ℕ) (kept : page_in pages t (page_of t i) ≡ Some was) (whole : length was ≡ 4096) where
    abbrev now : List ℕ
    now = over was (place_of t i * size_of t) bytes

    within_page : IsWrittenTo t i rows bytes t (page_of t i) was now
    within_page =
        let start = at_place t i in
        let begins : place_of t i * size_of t ≤ length was = omega (arith, rows_fit t (place_of t i) (omega (arith, few)), whole) in
        record {
          written = λ place within is_in.
              let d = place - place_of t i in
              let is : place ≡ place_of t i + d = omega (arith, start, is_in.1) in
              ap (λ p. row_at (size_of t) now p) is
              ∙ rows_over_here (size_of t) was bytes (place_of t i) rows d begins long (omega (arith, start, is_in.1, is_in.2))
              ∙ ap (λ p. row_at (size_of t) bytes p) (let e : d ≡ row_number t (page_of t i) place - i = omega (arith, start, is_in.1) in e);
          others = λ place within not_in.
              rows_over_other (size_of t) was bytes (place_of t i) rows place
              (⊎_elim
              (λ (lt : place < place_of t i). inl lt)
              (λ (ge : place_of t i ≤ place). ⊎_elim
              (λ (lt : place < place_of t i + rows). absurd (not_in (refl, omega (arith, start, ge), omega (arith, start, lt))))
              (λ (past : place_of t i + rows ≤ place). inr past)
              (cases_lt place (place_of t i + rows)))
              (cases_lt place (place_of t i)))
              (omega (arith, row_fits t place within, whole)) begins long;
        }

    pub written_here : ArePagesWritten pages (set_value (nat_eq (page_key t (page_of t i))) pages now) t i rows bytes
    written_here u n page there = ⊎_elim
        (λ (same : page_key u n ≡ page_key t (page_of t i)).
        let is = one_key u t n (page_of t i) same in
        let page_is : page ≡ now = some_same now page (sym (set_here (page_key t (page_of t i)) was now (page_key u n) pages same kept) ∙ there) in (
          was,
          ap (λ (v : Table). page_in pages v n) is.0 ∙ ap (λ m. page_in pages t m) is.1 ∙ kept,
          subst (λ (b : List ℕ). IsWrittenTo t i rows bytes u n was b) (sym page_is)
              (subst (λ (v : Table). IsWrittenTo t i rows bytes v n was now) (sym is.0) (subst (λ m. IsWrittenTo t i rows bytes t m was now) (sym is.1) within_page)),
        ))
        (λ ne. (page, sym (set_elsewhere (page_key t (page_of t i)) was now (page_key u n) pages ne) ∙ there, beside u n page ne))
        (cases_eq (page_key u n) (page_key t (page_of t i)))
      where
        some_same : (x y : List ℕ) → Some x ≡ Some y → y ≡ x
        some_same x y is = cc

-- rows go into their page, where it is kept
pub written_page : (pages new : KeptPages) (t : Table) (i rows : ℕ) (bytes : List ℕ) → place_of t i + rows ≤ rows_in_page t → length bytes ≡ rows * size_of t
    → ((was : List ℕ) → page_in pages t (page_of t i) ≡ Some was → new ≡ set_value (nat_eq (page_key t (page_of t i))) pages (over was (place_of t i * size_of t) bytes))
    → ((was : List ℕ) → page_in pages t (page_of t i) ≡ Some was → length was ≡ 4096)
    → (page_in pages t (page_of t i) ≡ None → new ≡ pages) → ArePagesWritten pages new t i rows bytes
written_page pages new t i rows bytes few long kept whole none = ⊎_elim
    (λ missing. subst (λ (p : KeptPages). ArePagesWritten pages p t i rows bytes) (sym (none missing)) (written_nowhere pages t i rows bytes few long missing))
    (λ some. subst (λ (p : KeptPages). ArePagesWritten pages p t i rows bytes) (sym (kept some.0 some.1)) (written_here pages t i rows bytes few long some.0 some.1 (whole some.0 some.1)))
    (none_or_some (page_in pages t (page_of t i)))

-- only the rows count that are written
pub written_same : (a b : KeptPages) (t : Table) (i rows : ℕ) (bytes more : List ℕ) → ((j : ℕ) → j < rows → row_at (size_of t) more j ≡ row_at (size_of t) bytes j)
    → ArePagesWritten a b t i rows bytes → ArePagesWritten a b t i rows more
written_same a b t i rows bytes more same written u n page there =
    let old = written u n page there in (
      old.0,
      old.1,
      record {
        written = λ place within is_in. old.2.written place within is_in ∙ sym (same (row_number u n place - i) (omega (arith, is_in.1, is_in.2)));
        others = old.2.others;
      },
    )

-- more rows are written after some
pub written_more : (a b c : KeptPages) (t : Table) (first done more : ℕ) (bytes : List ℕ) → ArePagesWritten a b t first done bytes → ArePagesWritten b c t (first + done) more (drop (done * size_of t) bytes)
    → ArePagesWritten a c t first (done + more) bytes
written_more a b c t first done more bytes one two u n page there =
    let mid = two u n page there in
    let old = one u n mid.0 mid.1 in (
      old.0,
      old.1,
      record {
        written = λ place within is_in. ⊎_elim
            (λ (lt : row_number u n place < first + done).
            mid.2.others place within (λ in_two. omega (arith, in_two.1, lt))
            ∙ old.2.written place within (is_in.0, is_in.1, lt))
            (λ (ge : first + done ≤ row_number u n place).
            let r = row_number u n place in
            mid.2.written place within (is_in.0, ge, omega (arith, is_in.2))
            ∙ row_drop (size_of t) bytes done (r - (first + done))
            ∙ ap (λ j. row_at (size_of t) bytes j) (let e : done + (r - (first + done)) ≡ r - first = omega (arith, ge) in e))
            (cases_lt (row_number u n place) (first + done));
        others = λ place within not_in.
            mid.2.others place within (λ in_two. not_in (in_two.0, omega (arith, in_two.1), omega (arith, in_two.2)))
            ∙ old.2.others place within (λ in_one. not_in (in_one.0, in_one.1, omega (arith, in_one.2)));
      },
    )

-- How many calls of the disk write a record through a buffer.
use Rattle.std.proofs.Common.{◌≡◌, ℕ, zero, suc, ◌+◌, ◌-◌, ◌*◌, ◌<◌, ◌≤◌, List, [], ◌++◌, Some, length, take, drop, refl, sym, ◌∙◌, ap, subst, arith, length-append}
use Rattle.std.specs.Prelude.{slice_get, Result, Ok, Err, IfOk}
use Rattle.std.proofs.lemmas.Nat.{le-div, mul-le}
use Rattle.std.proofs.lemmas.List.{take-append-drop}
use Rattle.el_row_formats.specs.declared.table.Table.{Table}
use Rattle.el_row_formats.specs.Tables.{key, row_at, size_of}
use Rattle.el_rows.specs.Changes.{Changes}
use Rattle.el_redo.specs.RedoBody.{change_bytes, changes_bytes}
use Rattle.el_redo.proofs.BodyLemmas.{length-change, changes_append, changes_put}
use Rattle.el_page_cache.proofs.Rows.{length-row, row_ends}
use Rattle.el_pages.specs.declared.staging.Next.{Next}
use Rattle.el_pages.specs.within.Staging.{least_write, full_writes, writes_through, IsPaid, ArePaidByBytes}

-- nothing was put
pub paid_none : (size calls : ℕ) (n : Next) → IsPaid size calls calls n n 0
paid_none size calls n = record { end = omega arith; paid = omega arith }

-- a full buffer was written
pub paid_write : (size a b : ℕ) (old new : Next) → b ≡ a + 1 → new.used ≡ 0 → new.at ≡ old.at + old.used → least_write size ≤ old.used → IsPaid size a b old new 0
paid_write size a b old new more none end full =
    let one : b * least_write size ≡ a * least_write size + least_write size = ap (λ n. n * least_write size) more ∙ (let e : (a + 1) * least_write size ≡ a * least_write size + least_write size = omega arith in e) in
    record { end = omega (arith, none, end); paid = omega (arith, one, end, full) }

-- bytes went into the buffer alone
pub paid_copy : (size a b : ℕ) (old mid new : Next) (n : ℕ) → IsPaid size a b old mid 0 → new.at ≡ mid.at → new.used ≡ mid.used + n → IsPaid size a b old new n
paid_copy size a b old mid new n paid same more = record { end = omega (arith, paid.end, same, more); paid = omega (arith, paid.paid, same) }

-- whatever the disk answered
pub paid_flush : {E : Type 0} (r : Result Next E) (size a b : ℕ) (old : Next) → b ≡ a + 1 → least_write size ≤ old.used → IfOk r (λ n. n.used ≡ 0) → IfOk r (λ n. n.at ≡ old.at + old.used)
    → IfOk r (λ n. IsPaid size a b old n 0)
paid_flush (Ok new) size a b old more full none end = paid_write size a b old new more none end full
paid_flush (Err e) size a b old more full none end = tt

-- more bytes were put
pub paid_more : (size a b c : ℕ) (old mid new : Next) (n m : ℕ) → IsPaid size a b old mid n → IsPaid size b c mid new m → IsPaid size a c old new (n + m)
paid_more size a b c old mid new n m one two = record { end = omega (arith, one.end, two.end); paid = omega (arith, one.paid, two.paid) }

-- the same, where the buffer's size and the sum are named otherwise
pub paid_on : (size other a b c : ℕ) (old mid new : Next) (n m total : ℕ) → other ≡ size → n + m ≡ total → IsPaid size a b old mid n → IsPaid other b c mid new m → IsPaid size a c old new total
paid_on size other a b c old mid new n m total same is one two =
    subst (λ k. IsPaid size a c old new k) is (paid_more size a b c old mid new n m one (subst (λ s. IsPaid s b c mid new m) same two))

-- ---- all calls, also where the disk failed

pub few_one : (size a b n : ℕ) → b ≤ a + 1 → ArePaidByBytes size a b n
few_one size a b n le =
    let less : b * least_write size ≤ (a + 1) * least_write size = mul-le b (least_write size) (a + 1) (least_write size) le (omega arith) in
    let one : (a + 1) * least_write size ≡ a * least_write size + least_write size = omega arith in
    omega (arith, less, one)

pub few_paid : (size a b : ℕ) (old new : Next) (n : ℕ) → IsPaid size a b old new n → ArePaidByBytes size a b (old.used + n)
few_paid size a b old new n paid = omega (arith, paid.end, paid.paid)

pub few_after : (size a b c : ℕ) (old mid : Next) (n m : ℕ) → IsPaid size a b old mid n → ArePaidByBytes size b c (mid.used + m) → ArePaidByBytes size a c (old.used + (n + m))
few_after size a b c old mid n m paid few = omega (arith, paid.end, paid.paid, few)

pub few_most : (size a b n m : ℕ) → n ≤ m → ArePaidByBytes size a b n → ArePaidByBytes size a b m
few_most size a b n m le few = omega (arith, le, few)

pub few_on : (size other a b c : ℕ) (old mid : Next) (n m total : ℕ) → other ≡ size → n + m ≤ total → IsPaid size a b old mid n → ArePaidByBytes other b c (mid.used + m) → ArePaidByBytes size a c (old.used + total)
few_on size other a b c old mid n m total same le paid few =
    few_most size a c (old.used + (n + m)) (old.used + total) (omega (arith, le)) (few_after size a b c old mid n m paid (subst (λ s. ArePaidByBytes s b c (mid.used + m)) same few))

-- how many they are
pub paid_writes : (size a b n : ℕ) → 256 ≤ size → b * least_write size ≤ a * least_write size + n → b ≤ a + full_writes size n
paid_writes size a b n big paid =
    let least = least_write size in
    let back : (b - a) * least ≤ n = within (b - a) (λ le. let is : b ≡ a + (b - a) = omega (arith, le) in
    ap (λ k. k * least) is ∙ (let e : (a + (b - a)) * least ≡ a * least + (b - a) * least = omega arith in e)) in
    omega (arith, le-div (b - a) n least (omega (arith, big)) back)
  where
    within : (d : ℕ) → (0 < d → b * least_write size ≡ a * least_write size + d * least_write size) → d * least_write size ≤ n
    within zero is = omega arith
    within (suc d) is = omega (arith, is (omega arith), paid)

pub few_writes : (size a b n : ℕ) → 256 ≤ size → ArePaidByBytes size a b n → b ≤ a + writes_through size n
few_writes size a b n big few =
    let one : (a + 1) * least_write size ≡ a * least_write size + least_write size = omega arith in
    omega (arith, paid_writes size (a + 1) b n big (omega (arith, few, one)))

-- ---- the bytes of changes

pub length-changes-le : (changes : Changes) (k : ℕ) → length (changes_bytes (take k changes)) ≤ length (changes_bytes changes)
length-changes-le changes k =
    let all : changes_bytes changes ≡ changes_bytes (take k changes) ++ changes_bytes (drop k changes) = ap changes_bytes (sym (take-append-drop k changes)) ∙ changes_append (take k changes) (drop k changes) in
    omega (arith, ap (λ (b : List ℕ). length b) all, length-append (changes_bytes (take k changes)) (changes_bytes (drop k changes)))

-- those of rows that follow one another
pub length-run : (changes : Changes) (k : ℕ) (t : Table) (first rows : ℕ) (bytes : List ℕ) → length bytes ≡ rows * size_of t
    → ((j : ℕ) → j < rows → slice_get changes (k + j) ≡ Some (key t (first + j), row_at (size_of t) bytes j))
    → (n : ℕ) → n ≤ rows → length (changes_bytes (take (k + n) changes)) ≡ length (changes_bytes (take k changes)) + n * (9 + size_of t)
length-run changes k t first rows bytes long each zero le =
    ap (λ m. length (changes_bytes (take m changes))) (let e : k + 0 ≡ k = omega arith in e) ∙ (let e : length (changes_bytes (take k changes)) ≡ length (changes_bytes (take k changes)) + 0 * (9 + size_of t) = omega arith in e)
length-run changes k t first rows bytes long each (suc n) le =
    let lt : n < rows = omega (arith, le) in
    let before = length-run changes k t first rows bytes long each n (omega (arith, le)) in
    let row = row_at (size_of t) bytes n in
    let front = changes_bytes (take (k + n) changes) in
    let one : front ++ change_bytes (key t (first + n), row) ≡ changes_bytes (take (k + n + 1) changes) =
    changes_put front (front ++ change_bytes (key t (first + n), row)) [] changes (k + n) (key t (first + n), row) (each n lt) refl refl in
    let row_long : length row ≡ size_of t = length-row (size_of t) bytes n (omega (arith, long, row_ends (size_of t) n rows lt)) in
    ap (λ m. length (changes_bytes (take m changes))) (let e : k + suc n ≡ k + n + 1 = omega arith in e)
    ∙ sym (ap (λ (b : List ℕ). length b) one)
    ∙ length-append front (change_bytes (key t (first + n), row))
    ∙ (let e : length front + length (change_bytes (key t (first + n), row)) ≡ length (changes_bytes (take k changes)) + suc n * (9 + size_of t) = omega (arith, before, length-change (key t (first + n), row), row_long) in e)

-- a row that is put
pub row_long : (size : ℕ) (t : Table) (bytes : List ℕ) (rows j : ℕ) → size ≡ size_of t → length bytes ≡ rows * size_of t → j < rows → length (row_at size bytes j) ≡ size_of t
row_long size t bytes rows j is long lt = ap (λ s. length (row_at s bytes j)) is ∙ length-row (size_of t) bytes j (omega (arith, long, row_ends (size_of t) j rows lt))

pub rows_most : (j rows size long : ℕ) → long ≡ size → j < rows → j * (9 + size) + (9 + long) ≤ rows * (9 + size)
rows_most j rows size long is lt =
    let less : (j + 1) * (9 + size) ≤ rows * (9 + size) = mul-le (j + 1) (9 + size) rows (9 + size) (omega (arith, lt)) (omega arith) in
    omega (arith, less, is)

-- ---- a whole record: room for its length, its meta row, its changes, and what waits then

abbrev pub start : Next
start = record { at = 1; used = 0 }

pub paid_three : (size one two a b c d : ℕ) (x y z : Next) (meta changes : ℕ) → one ≡ size → two ≡ size → IsPaid size a b start x 8 → IsPaid one b c x y meta → IsPaid two c d y z changes
    → IsPaid size a d start z (8 + (meta + changes))
paid_three size one two a b c d x y z meta changes same_one same_two first second third =
    paid_on size two a c d start y z (8 + meta) changes (8 + (meta + changes)) same_two (let e : 8 + meta + changes ≡ 8 + (meta + changes) = omega arith in e)
    (paid_on size one a b c start x y 8 meta (8 + meta) same_one refl first second) third

-- nothing waited at its start
pub few_whole : (size a b bytes : ℕ) → 256 ≤ size → ArePaidByBytes size a b (start.used + bytes) → b ≤ a + writes_through size bytes
few_whole size a b bytes big few = few_writes size a b bytes big (few_most size a b (start.used + bytes) bytes (omega arith) few)

pub last_write : (size a b c : ℕ) (n : Next) (bytes : ℕ) → 256 ≤ size → IsPaid size a b start n bytes → c ≡ b + 1 → c ≤ a + writes_through size bytes
last_write size a b c n bytes big paid more =
    few_whole size a c bytes big (few_on size size a b c start n bytes 0 bytes refl (omega arith) paid (few_one size b c (n.used + 0) (omega (arith, more))))

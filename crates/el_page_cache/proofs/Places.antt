-- Rows in pages: how many there are, and where each stands.
use Rattle.std.proofs.Common.{◌≡◌, ℕ, suc, ◌+◌, ◌-◌, ◌*◌, ◌<◌, ◌≤◌, sym, ◌∙◌, ap, arith}
use Rattle.std.proofs.Math.Nat.{mod-lt, div-mul-le_self}
use Rattle.std.proofs.lemmas.Nat.{div-add-mod', div-mul-add, mul-le}
use Rattle.el_row_formats.specs.declared.table.Table.{Table}
use Rattle.el_row_formats.specs.declared.table.Table.TheVariants as table
use Rattle.el_row_formats.specs.Tables.{size_of}
use Rattle.el_row_formats.proofs.Keys.{same_index, index_within}
use Rattle.el_page_cache.specs.Pages.{rows_in_page, page_of, place_of, row_number, page_key}

pub some_rows : (t : Table) → 0 < rows_in_page t
unfolding rows_in_page
some_rows table.Blocks = omega arith
some_rows table.Txs = omega arith
some_rows table.TxHeads = omega arith
some_rows table.Outs = omega arith
some_rows table.Ins = omega arith
some_rows table.Scripts = omega arith
some_rows table.ScriptHeads = omega arith
some_rows table.Entries = omega arith

all_fit : (t : Table) → rows_in_page t * size_of t ≤ 4096
unfolding rows_in_page
all_fit t = div-mul-le_self 4096 (size_of t)

-- rows of a page are within its bytes
pub rows_fit : (t : Table) (n : ℕ) → n ≤ rows_in_page t → n * size_of t ≤ 4096
rows_fit t n le = let less : n * size_of t ≤ rows_in_page t * size_of t = mul-le n (size_of t) (rows_in_page t) (size_of t) le (omega arith) in omega (arith, less, all_fit t)

pub row_fits : (t : Table) (place : ℕ) → place < rows_in_page t → place * size_of t + size_of t ≤ 4096
row_fits t place lt = let all : suc place * size_of t ≤ 4096 = rows_fit t (suc place) (omega (arith, lt)) in omega (arith, all)

-- a row stands in its page, at its place
pub at_place : (t : Table) (i : ℕ) → row_number t (page_of t i) (place_of t i) ≡ i
unfolding page_of place_of
at_place t i = div-add-mod' i (rows_in_page t)

pub place_within : (t : Table) (i : ℕ) → place_of t i < rows_in_page t
unfolding place_of
place_within t i = mod-lt i (some_rows t)

-- and in no other page
pub one_page : (t : Table) (n place : ℕ) → place < rows_in_page t → page_of t (row_number t n place) ≡ n
unfolding page_of
one_page t n place lt = div-mul-add n (rows_in_page t) place lt

-- nor do those after it, up to the page's end
pub same_page : (t : Table) (n place i rows : ℕ) → place < rows_in_page t → place_of t i + rows ≤ rows_in_page t → i ≤ row_number t n place → row_number t n place < i + rows → n ≡ page_of t i
same_page t n place i rows within few ge lt =
    let there = at_place t i in
    let m = page_of t i in
    let p = row_number t n place - m * rows_in_page t in
    let is : row_number t n place ≡ row_number t m p = omega (arith, there, ge) in
    sym (one_page t n place within) ∙ ap (λ r. page_of t r) is ∙ one_page t m p (omega (arith, there, lt, few))

-- pages have numbers of their own
pub one_key : (t u : Table) (n m : ℕ) → page_key t n ≡ page_key u m → (t ≡ u) × (n ≡ m)
one_key t u n m same =
    (same_index t u (omega (arith, same, index_within t, index_within u)), (let e : n ≡ m = omega (arith, same, index_within t, index_within u) in e))

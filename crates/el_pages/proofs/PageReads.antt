-- Pages as they are read, and the rows in them.
use Rattle.std.proofs.Common.{◌≡◌, ℕ, ◌+◌, ◌-◌, ◌*◌, ◌≤◌, min, List, length, take, drop, sym, ◌∙◌, ap, subst, arith}
use Rattle.el_outside.specs.Disk.{Image}
use Rattle.el_row_formats.specs.declared.table.Table.{Table}
use Rattle.el_row_formats.specs.Tables.{Tables, size_of, row_at}
use Rattle.el_page_cache.specs.Pages.{rows_in_page, page_of, place_of, row_number, HasRows}
use Rattle.el_page_cache.proofs.Rows.{row_front, row_drop}
use Rattle.el_page_cache.proofs.Places.{at_place, place_within, row_fits}
use Rattle.el_pages.specs.declared.layout.TheConstants.{FORMAT_2}
use Rattle.el_pages.specs.Layouts.{file_of}
use Rattle.el_pages.specs.within.Caching.{IsWholeIn, HaveRows, IsPage}

-- what one read gives of a page
pub page_read : (t : Table) (n : ℕ) (file old page : List ℕ) (given at : ℕ) → at ≡ n * rows_in_page t * size_of t → length old ≡ 4096 → given ≡ min (length old) (length file - at) → take given page ≡ take given (drop at file)
    → IsPage t file n page
page_read t n file old page given at at_is long count filled place lt whole =
    let size = size_of t in
    let first = n * rows_in_page t in
    let apart : (first + place) * size ≡ first * size + place * size = omega arith in
    let le : place * size + size ≤ given = omega (arith, count, long, row_fits t place lt, whole, apart, at_is) in
    sym (row_front size page given place le)
    ∙ ap (λ (b : List ℕ). row_at size b place) filled
    ∙ row_front size (drop at file) given place le
    ∙ ap (λ m. row_at size (drop m file) place) at_is
    ∙ row_drop size file first place

-- the row that was asked for
pub row_in_page : (t : Table) (i : ℕ) (file page : List ℕ) → IsPage t file (page_of t i) page → IsWholeIn t file i → row_at (size_of t) page (place_of t i) ≡ row_at (size_of t) file i
row_in_page t i file page is whole =
    is (place_of t i) (place_within t i) (subst (λ r. IsWholeIn t file r) (sym (at_place t i)) whole)
    ∙ ap (λ r. row_at (size_of t) file r) (at_place t i)

-- and all that the tables have
pub page_has : (files : Image) (lists : Tables) (counts : Table → ℕ) (t : Table) (n : ℕ) (page : List ℕ) → HaveRows files lists counts → IsPage t (files (file_of FORMAT_2 t)) n page → HasRows lists counts t n page
page_has files lists counts t n page have is place lt below = is place lt (have.whole t (row_number t n place) below) ∙ have.same t (row_number t n place) below

use Rattle.std.proofs.Common.{◌*◌, ap, arith}
use Rattle.el_page_cache.proofs.Places.{row_fits}
use Rattle.el_page_cache.proofs.page.copy_row.Goals as goal

pub overflow_mul-at : goal.overflow_mul-at
overflow_mul-at c = omega (arith, row_fits c.args.t c.place_of.result c.place_of.ensures.within, ap (λ s. c.place_of.result * s) c.size-size.ensures)

pub overflow_add-at : goal.overflow_add-at
overflow_add-at c = omega (arith, row_fits c.args.t c.place_of.result c.place_of.ensures.within, ap (λ s. c.place_of.result * s) c.size-size.ensures, c.size-size.ensures)

pub slice_bounds-copy_from_slice-end : goal.slice_bounds-copy_from_slice-end
slice_bounds-copy_from_slice-end c =
    omega (arith, row_fits c.args.t c.place_of.result c.place_of.ensures.within, ap (λ s. c.place_of.result * s) c.size-size.ensures, c.size-size.ensures, c.requires.whole)

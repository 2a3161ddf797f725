use Rattle.std.proofs.Common.{◌≡◌, ◌+◌, ◌*◌, ℕ, List, length, ap, arith}
use Rattle.el_row_formats.specs.Tables.{size_of}
use Rattle.el_page_cache.proofs.Places.{rows_fit}
use Rattle.el_page_cache.proofs.page.Page.write_rows.Goals as goal

apart : (p n size : ℕ) → (p + n) * size ≡ p * size + n * size
apart p n size = omega arith

pub overflow_mul-place : goal.overflow_mul-place
overflow_mul-place c = omega (arith, rows_fit c.args.t (c.args.place + c.args.rows) c.requires.within, apart c.args.place c.args.rows (size_of c.args.t), ap (λ s. c.args.place * s) c.size.ensures)

pub write_over-requires : goal.write_over-requires
write_over-requires c = omega (
  arith,
  rows_fit c.args.t (c.args.place + c.args.rows) c.requires.within,
  apart c.args.place c.args.rows (size_of c.args.t),
  ap (λ s. c.args.place * s) c.size.ensures,
  c.requires.long,
  c.self.invariant,
  ap (λ (b : List ℕ). length b) c.deref_mut.ensures.value,
)

use Rattle.std.proofs.Common.{◌≡◌, ◌<◌, ◌+◌, ◌*◌, ℕ, List, [], length, get_or}
use Rattle.el_row_formats.specs.Tables.{size_of, row_at}
use Rattle.el_row_formats.specs.OldRowBytes.{old_size_of}
use Rattle.el_tables.specs.ChainLists.{ListedBlock}
use Rattle.el_tables.specs.Lists.{Lists}
use Rattle.el_tables.specs.Tables.{HeadCounts}
use Rattle.el_migrate.specs.within.Moving.{IsMoved, HeadsOf, IsOldRow, new_rows}
use Rattle.el_migrate.proofs.runs.move_rows.Given as goal

abbrev pub invariant-loop-j : goal.invariant-loop-j
invariant-loop-j v = record {
  many : length v.links ≡ length v.fn.links;
  long : length v.new ≡ v.rows * size_of v.t;
  rows : (counts : HeadCounts) (bs : List ListedBlock) (l : Lists) → IsMoved v.t
      → ((j : ℕ) → j < v.rows → IsOldRow counts bs l v.t (v.first + j) (row_at (old_size_of v.t) v.old j))
      → HeadsOf v.t l v.first v.fn.links → (i : ℕ) → i < v.j
      → row_at (size_of v.t) v.new i ≡ get_or (new_rows (length v.fn.links) bs l v.t) (v.first + i) [];
  heads : (counts : HeadCounts) (bs : List ListedBlock) (l : Lists) → IsMoved v.t
      → ((j : ℕ) → j < v.rows → IsOldRow counts bs l v.t (v.first + j) (row_at (old_size_of v.t) v.old j))
      → HeadsOf v.t l v.first v.fn.links → HeadsOf v.t l (v.first + v.j) v.links;
}

use Rattle.std.proofs.Common.{◌≡◌, ◌+◌, ◌*◌, ◌++◌, length, take}
use Rattle.el_redo.specs.RedoBody.{head_bytes, numbers_bytes}
use Rattle.el_pages.proofs.meta.meta_row_of.Given as goal

abbrev pub invariant-loop-i : goal.invariant-loop-i
invariant-loop-i l = record {
  long : length l.row ≡ 80;
  put : take (16 + 8 * l.i) l.row ≡ head_bytes l.fn.magic l.fn.bits ++ numbers_bytes (take l.i l.counts);
}

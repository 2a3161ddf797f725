use Rattle.std.proofs.Common.{◌≡◌, ◌<◌, ◌+◌, ◌*◌, ℕ, List, [], length, get_or}
use Rattle.el_base.specs.declared.hash.Hash32.{Hash32}
use Rattle.el_row_formats.specs.Tables.{row_at}
use Rattle.el_migrate.specs.within.Moving.{AreHeads}
use Rattle.el_migrate.proofs.HeadRows.{head_rows}
use Rattle.el_migrate.proofs.runs.put_heads.Given as goal

abbrev pub invariant-loop-j : goal.invariant-loop-j
invariant-loop-j v = record {
  long : length v.bytes ≡ v.rows * 8;
  rows : (hashes : List Hash32) → AreHeads v.links hashes → (i : ℕ) → i < v.j → row_at 8 v.bytes i ≡ get_or (head_rows (length v.links) hashes) (v.first + i) [];
}

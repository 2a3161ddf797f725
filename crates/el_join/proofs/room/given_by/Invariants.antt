use Rattle.std.proofs.Common.{◌≡◌, ◌≤◌, ◌*◌, ◌^◌, take}
use Rattle.el_tx.specs.Encoding.{total_value}
use Rattle.el_join.proofs.room.given_by.Given as goal

abbrev pub invariant-loop-output : goal.invariant-loop-output
invariant-loop-output l = record {
  so_far : l.sum ≡ total_value (take l.output-index l.outputs);
  small : l.sum ≤ l.output-index * 2 ^ 64;
}

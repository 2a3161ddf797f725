use Rattle.std.proofs.Common.{length, ◌+◌, ◌-◌, ◌≡◌, ◌≤◌, ℕ, List, take}
use Rattle.el_files.specs.Appending.{AppendsOnly}
use Rattle.el_files.specs.within.Finding.{IsHeadIn}
use Rattle.el_files.specs.within.Walking.{Walked}
use Rattle.el_files.proofs.walk.walk.Given as goal

abbrev pub invariant-loop-passed : goal.invariant-loop-passed
invariant-loop-passed l = record {
  walked : (bytes : List ℕ) → length bytes ≡ l.left → l.piece ≡ take (length l.piece) bytes
      → Walked l.magic l.file l.at l.passed bytes l.initial.found.items l.found.items;
  nodes : AppendsOnly (IsHeadIn l.magic l.file l.at l.piece) l.initial.found.items l.found.items;
  within : l.passed ≤ l.left;
}

abbrev pub decreases-loop-passed : goal.decreases-loop-passed
decreases-loop-passed l = length l.piece + 1 - l.passed

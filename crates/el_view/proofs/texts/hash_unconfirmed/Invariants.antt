use Rattle.std.proofs.Common.{ℕ, List, ◌++◌, take}
use Rattle.std.specs.Prelude.{flat_map}
use Rattle.el_status.specs.Hashing.{HasHashed}
use Rattle.el_status.specs.Statuses.{pool_part}
use Rattle.el_view.proofs.texts.hash_unconfirmed.Given as goal

abbrev pub invariant-loop-entry : goal.invariant-loop-entry
invariant-loop-entry l = (text : List ℕ) → HasHashed l.fn.hash text
    → HasHashed l.hash (text ++ flat_map pool_part (take l.entry-index l.entries))

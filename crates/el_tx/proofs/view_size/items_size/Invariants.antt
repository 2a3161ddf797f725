use Rattle.std.proofs.Common.{◌≡◌, length, take, flat_map}
use Rattle.el_tx.specs.Encoding.{sized}
use Rattle.el_tx.specs.Hashing.{capped}
use Rattle.el_tx.proofs.view_size.items_size.Given as goal

abbrev pub invariant-loop-item : goal.invariant-loop-item
invariant-loop-item l = l.size ≡ capped (length (flat_map sized (take l.item-index l.items)))

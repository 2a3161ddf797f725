use Rattle.std.proofs.Common.{◌≡◌, ◌++◌, length, take, flat_map}
use Rattle.el_base.specs.Compact.{compact}
use Rattle.el_tx.specs.Encoding.{sized}
use Rattle.el_tx.proofs.encode.write_stack.Given as goal

abbrev pub invariant-loop-item : goal.invariant-loop-item
invariant-loop-item l = l.out.items ≡ l.fn.out.items ++ (compact (length l.items) ++ flat_map sized (take l.item-index l.items))

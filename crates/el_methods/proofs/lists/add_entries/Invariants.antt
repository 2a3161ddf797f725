use Rattle.std.proofs.Common.{◌≡◌, ◌++◌, map, take}
use Rattle.el_methods.specs.Results.{entry_value}
use Rattle.el_methods.proofs.lists.add_entries.Given as goal

abbrev pub invariant-loop-entry : goal.invariant-loop-entry
invariant-loop-entry l = l.list ≡ l.fn.list ++ map entry_value (take l.entry-index l.entries)

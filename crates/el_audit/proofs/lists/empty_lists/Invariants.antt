use Rattle.std.proofs.Common.{◌≡◌, true, [], Some, take}
use Rattle.std.specs.List.{list_any}
use Rattle.el_base.specs.declared.hash.Hash32.{Hash32}
use Rattle.el_chain.specs.Headers.{same_hash}
use Rattle.el_audit.specs.within.Lists.{list_of}
use Rattle.el_audit.proofs.lists.empty_lists.Given as goal

-- the script hashes before have an empty list
abbrev pub invariant-loop-name : goal.invariant-loop-name
invariant-loop-name g l = (s : Hash32) → list_any (same_hash s) (take l.name-index l.names.keys) ≡ true → list_of l.lists s ≡ Some []

use Rattle.std.proofs.Common.{◌≡◌, [], ◌∷◌, take}
use Rattle.std.specs.List.{list_any}
use Rattle.std.specs.Prelude.{if◌then◌else◌}
use Rattle.el_base.specs.declared.hash.Hash32.{Hash32}
use Rattle.el_chain.specs.Headers.{same_hash}
use Rattle.el_audit.specs.within.Lists.{list_of, grown}
use Rattle.el_audit.proofs.lists.list_entry.Given as goal

-- the entry was added for the script hashes before
abbrev pub invariant-loop-script : goal.invariant-loop-script
invariant-loop-script l = (s : Hash32) → list_of l.lists s ≡ grown (list_of l.initial.lists s) (if list_any (same_hash s) (take l.script-index l.scripts) then l.entry ∷ [] else [])

use Rattle.std.proofs.Common.{◌∙◌, ap}
use Rattle.std.specs.List.{list_any}
use Rattle.el_chain.specs.Headers.{same_hash}
use Rattle.el_chain.proofs.TouchedScripts.{all_differ}
use Rattle.el_audit.proofs.scripts.scripts_of.Goals as goal

pub returns-clause-each : goal.returns-clause-each
returns-clause-each c = λ s.
    ap (list_any (same_hash s)) (c.in_ok-list.ensures.items ∙ c.as_slice.ensures.keys) ∙ c.in_ok-sort.ensures.reordered.2 s ∙ c.in_ok-scripts.ensures s

pub returns-clause-once : goal.returns-clause-once
returns-clause-once c = rw (c.in_ok-list.ensures.items, c.as_slice.ensures.keys) (all_differ _ c.in_ok-sort.ensures.unique)

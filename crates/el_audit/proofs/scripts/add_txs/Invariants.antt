use Rattle.std.proofs.Common.{◌≡◌, ◌||◌, drop}
use Rattle.std.specs.List.{list_any}
use Rattle.el_base.specs.declared.hash.Hash32.{Hash32}
use Rattle.el_chain.specs.History.{funds}
use Rattle.el_audit.specs.within.Lists.{is_in_set}
use Rattle.el_audit.proofs.scripts.add_txs.Given as goal

-- what was added, and what is left
abbrev pub invariant-loop-tx : goal.invariant-loop-tx
invariant-loop-tx l = (s : Hash32) → (is_in_set l.scripts s || list_any (funds s.0) (drop l.tx-index l.txs)) ≡ (is_in_set l.initial.scripts s || list_any (funds s.0) l.txs)

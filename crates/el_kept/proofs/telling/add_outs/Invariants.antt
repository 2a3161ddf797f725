use Rattle.std.proofs.Common.{◌≡◌, ◌++◌, drop}
use Rattle.el_kept.specs.Listings.{outs_from}
use Rattle.el_kept.proofs.telling.add_outs.Given as goal

-- those so far and those that are left
abbrev pub invariant-loop-number : goal.invariant-loop-number
invariant-loop-number l = l.found.items ++ outs_from l.table l.script l.txid l.number (drop l.number l.outputs)
    ≡ l.initial.found.items ++ outs_from l.table l.script l.txid 0 l.outputs

use Rattle.std.proofs.Common.{◌≡◌, drop}
use Rattle.el_chain.specs.RowCounts.{add_scripts}
use Rattle.el_coins.proofs.meter.gather_in.Given as goal

-- what was put in, and what is left
abbrev pub invariant-loop-script : goal.invariant-loop-script
invariant-loop-script l = add_scripts l.scripts.keys (drop l.script-index l.found) ≡ add_scripts l.initial.scripts.keys l.found

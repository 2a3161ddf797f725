use Rattle.std.proofs.Common.{◌≡◌, drop}
use Rattle.el_chain.specs.RowCounts.{is_script_among}
use Rattle.el_connect.specs.within.Parts.{output_scripts}
use Rattle.el_connect.proofs.scripts.is_among.Given as goal

-- it is among the outputs that are left, if it is among all
abbrev pub invariant-loop-output : goal.invariant-loop-output
invariant-loop-output l = is_script_among l.hash (output_scripts (drop l.output-index l.outputs)) ≡ is_script_among l.hash (output_scripts l.outputs)

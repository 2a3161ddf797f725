use Rattle.std.proofs.Common.{take}
use Rattle.el_core.specs.within.Touching.{HasAllSubscribed}
use Rattle.el_core.proofs.touching.add_held.Given as goal

abbrev pub invariant-loop-script_hash : goal.invariant-loop-script_hash
invariant-loop-script_hash l = HasAllSubscribed l.clients l.fn.touched (take l.script_hash-index l.script_hash-items) l.touched

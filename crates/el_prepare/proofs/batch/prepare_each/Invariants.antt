use Rattle.std.proofs.Common.{take, None}
use Rattle.el_prepare.specs.Batches.{ArePrepared}
use Rattle.el_prepare.proofs.batch.prepare_each.Given as goal

abbrev pub invariant-loop-text : goal.invariant-loop-text
invariant-loop-text l = ArePrepared (take l.text-index l.texts) l.list.items None

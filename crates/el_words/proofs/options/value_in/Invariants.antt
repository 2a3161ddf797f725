use Rattle.std.proofs.Common.{length}
use Rattle.el_words.specs.Words.{texts}
use Rattle.el_words.proofs.Checking.{Looked}
use Rattle.el_words.proofs.options.value_in.Given as goal

abbrev pub invariant-loop-name : goal.invariant-loop-name
invariant-loop-name l = Looked (texts l.fn.words) (texts l.rest) l.option

abbrev pub decreases-loop-name : goal.decreases-loop-name
decreases-loop-name l = length l.rest

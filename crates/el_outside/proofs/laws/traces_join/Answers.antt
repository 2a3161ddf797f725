use Rattle.el_outside.proofs.Traces.{goes_more}
use Rattle.el_outside.proofs.laws.traces_join.Goals as goal

pub returns : goal.returns
returns c = goes_more

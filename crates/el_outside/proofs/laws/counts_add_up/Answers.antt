use Rattle.el_outside.proofs.Traces.{rose_more}
use Rattle.el_outside.proofs.laws.counts_add_up.Goals as goal

pub returns : goal.returns
returns c = rose_more

use Rattle.el_chain.proofs.DraftSteps.{bad_faults}
use Rattle.el_plain.proofs.drafts.read_for.Goals as goal

pub returns-in-Err-clause-first_fault : goal.returns-in-Err-clause-first_fault
returns-in-Err-clause-first_fault c = λ chain.
    bad_faults chain c.args.hash c.args.text.now c.in-Err.fault c.bad.result c.in-Err.ensures.fault c.bad.ensures.memory c.bad.ensures.kept

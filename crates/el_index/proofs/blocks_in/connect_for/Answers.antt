use Rattle.el_index.proofs.Addings.{stopped}
use Rattle.el_index.proofs.blocks_in.connect_for.Goals as goal

pub returns-in-Err-clause-first_fault : goal.returns-in-Err-clause-first_fault
returns-in-Err-clause-first_fault g c chain block text told stand encodes is names =
    stopped chain c.args.hash text block c.in-Err.fault c.refused.result encodes (c.in-Err.ensures.refused chain block told stand (text, encodes) is names)
    c.refused.ensures.kept c.refused.ensures.device c.refused.ensures.memory

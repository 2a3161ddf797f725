use Rattle.el_chain.proofs.TouchedScripts.{all_differ}
use Rattle.el_chain.proofs.touched.Touched.list.Goals as goal

pub returns-clause-once : goal.returns-clause-once
returns-clause-once c = rw (← c.self.view_is) (all_differ _ c.as_slice.ensures.unique)

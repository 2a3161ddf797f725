use Rattle.el_net.proofs.block_files.BlockFiles.count.Goals as goal

pub returns-clause-grows : goal.returns-clause-grows
returns-clause-grows g c = rw (← c.self.view_is) (λ told. c.count.ensures.grows told)

use Rattle.el_net.proofs.block_files.BlockFiles.size_of.Goals as goal

pub returns-clause-grows : goal.returns-clause-grows
returns-clause-grows g c = rw (← c.self.view_is) (λ told. c.size_of.ensures.grows told)

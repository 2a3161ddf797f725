use Rattle.el_net.proofs.block_files.BlockFiles.read_from.Goals as goal

pub returns-clause-grows : goal.returns-clause-grows
returns-clause-grows g c = rw (← c.self.view_is) (λ told. c.read_without.ensures.grows told)

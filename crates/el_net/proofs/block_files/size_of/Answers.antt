use Rattle.el_outside.proofs.Traces.{all_grow_more}
use Rattle.el_net.proofs.block_files.size_of.Goals as goal

pub returns-in-Some-clause-grows : goal.returns-in-Some-clause-grows
returns-in-Some-clause-grows g c = λ told. all_grow_more (g.F.Folder.bytes c.args.folder.now) (g.F.Folder.bytes c.find.new.folder)
    (g.F.Folder.bytes c.len.new.self) (c.find.ensures.grows told) (c.len.ensures.grows told)

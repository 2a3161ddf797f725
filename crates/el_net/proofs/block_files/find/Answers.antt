use Rattle.el_outside.proofs.Traces.{all_grow_more}
use Rattle.el_net.proofs.block_files.find.Goals as goal

pub returns-clause-grows : goal.returns-clause-grows
returns-clause-grows g c = λ told. all_grow_more (g.F.Folder.bytes c.args.folder.now) (g.F.Folder.bytes c.look.new.self)
    (g.F.Folder.bytes c.open.new.self) (c.look.ensures told) (c.open.ensures.grows told)

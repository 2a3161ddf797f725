use Rattle.el_pages.proofs.StoreLemmas.{beside_at}
use Rattle.el_pages.proofs.store.Pages.into_disk.Goals as goal

pub returns-clause-beside : goal.returns-clause-beside
returns-clause-beside g c f at = beside_at (g.D.Disk.seen c.args.self.disk) f at

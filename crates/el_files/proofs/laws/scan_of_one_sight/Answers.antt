use Rattle.el_files.proofs.Scans.{scanned_sight}
use Rattle.el_files.proofs.laws.scan_of_one_sight.Goals as goal

pub returns : goal.returns
returns g c = λ before after magic bytes file nodes sights s long. scanned_sight g.A.Archive before after magic bytes file nodes sights s long

use Rattle.el_files.proofs.Scans.{scanned_without}
use Rattle.el_files.proofs.laws.scan_without_padding.Goals as goal

pub returns : goal.returns
returns g c = λ before after magic file nodes none s. scanned_without g.A.Archive before after magic file nodes none s

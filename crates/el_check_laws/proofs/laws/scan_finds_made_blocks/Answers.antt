use Rattle.el_check_laws.proofs.MadeScans.{scan_begins_made}
use Rattle.el_check_laws.proofs.laws.scan_finds_made_blocks.Goals as goal

pub returns : goal.returns
returns g c = λ count before after nodes some few differ none made s.
    scan_begins_made g.A.Archive count before after nodes none made some few differ s

use Rattle.el_outside.proofs.Images.{any_in_ranges, written_places}
use Rattle.el_outside.proofs.disk_laws.written_ranges_hold_any_bytes.Goals as goal

pub returns-clause-any : goal.returns-clause-any
returns-clause-any c = any_in_ranges

pub returns-clause-ranges : goal.returns-clause-ranges
returns-clause-ranges c = written_places

use Rattle.el_json.proofs.Printable.{printable_reading}
use Rattle.el_json.proofs.reading.read_line.Goals as goal

pub returns-clause-printable : goal.returns-clause-printable
returns-clause-printable c = printable_reading c.args.line.now c.read_envelope.result c.read_envelope.ensures

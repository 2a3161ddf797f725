use Rattle.std.proofs.Common.{arith}
use Rattle.el_migrate.proofs.old_files.read_meta.Goals as goal

pub returns-clause-read : goal.returns-clause-read
returns-clause-read g c told long = (c.in_ok-read_whole.ensures.whole told (omega (arith, long))).1

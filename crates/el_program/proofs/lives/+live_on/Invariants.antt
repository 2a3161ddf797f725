use Rattle.std.specs.Prelude.{length}
use Rattle.el_program.proofs.lives.+live_on.Given as goal

abbrev pub decreases-live_on : goal.decreases-live_on
decreases-live_on g l = length l.archives.now

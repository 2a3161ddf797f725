use Rattle.std.proofs.Common.{◌≡◌, drop}
use Rattle.el_calls.specs.Versions.{first_within}
use Rattle.el_calls.proofs.versions.first_within.Given as goal

abbrev pub invariant-loop-version : goal.invariant-loop-version
invariant-loop-version l = first_within (drop l.version-index l.versions) l.least l.most ≡ first_within l.versions l.least l.most

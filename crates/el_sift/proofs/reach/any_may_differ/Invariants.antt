use Rattle.std.proofs.Common.{◌≡◌, drop}
use Rattle.std.specs.List.{list_any}
use Rattle.el_sift.specs.within.Renewal.{may_differ}
use Rattle.el_sift.proofs.reach.any_may_differ.Given as goal

abbrev pub invariant-loop-source : goal.invariant-loop-source
invariant-loop-source l = list_any (may_differ l.gone l.touched) l.inputs ≡ list_any (may_differ l.gone l.touched) (drop l.source-index l.inputs)

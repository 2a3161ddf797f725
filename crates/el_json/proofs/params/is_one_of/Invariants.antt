use Rattle.std.proofs.Common.{◌≡◌, drop}
use Rattle.el_json.specs.Parameters.{is_known_name, texts_of}
use Rattle.el_json.proofs.params.is_one_of.Given as goal

abbrev pub invariant-loop-other : goal.invariant-loop-other
invariant-loop-other l = is_known_name (texts_of (drop l.other-index l.names)) l.name ≡ is_known_name (texts_of l.names) l.name
